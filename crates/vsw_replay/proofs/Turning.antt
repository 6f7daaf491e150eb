-- A round more, or none.
use Rattle.std.proofs.Common.{◌≡◌, ◌<◌, ◌≤◌, ◌⊎◌, inl, inr, ◌+◌, ◌-◌, ◌==◌, ◌&&◌, ◌||◌, not, ℕ, zero, suc, Bool, true, false, nat_lt, Some, List, [], ◌∷◌, ◌++◌, length, take, take_all, drop, refl, sym, ◌∙◌, ap, subst, arith, append-nil, length-append}
use Rattle.std.proofs.lemmas.Grind.{common_steps}
use Rattle.vsw_commandfile.specs.declared.line.Line.{Line}
use Rattle.vsw_port.specs.declared.event.Event.{Event}
use Rattle.vsw_port.specs.Order.{numbered}
use Rattle.vsw_pcap.specs.declared.capture.Record.{Record}
use Rattle.vsw_promise.specs.Jobs.{Setting, cuts_within, packets_between}
use Rattle.vsw_report.specs.Print.{round_text, report_text}
use Rattle.vsw_report.specs.Short.{are_short, is_short_round}
use Rattle.vsw_report.specs.declared.round.Round.{Round}
use Rattle.vsw_crew.specs.Round.{TellsRound}
use Rattle.vsw_promise.specs.Schedule.{next_at}
use Rattle.vsw_crew.specs.Switch.{SwitchNow}
use Rattle.vsw_reading.specs.declared.reading.Stop.{Stop}
use Rattle.vsw_reading.specs.declared.reading.Stop.TheVariants as stop
use Rattle.vsw_replay.specs.Private.Cut.{is_named_by, IsCut, IsNextCut, cuts_until, AreBehind}
use Rattle.vsw_replay.specs.Private.Going.{IsAsLong, is_run_of}
use Rattle.vsw_replay.specs.Private.SoFar.{AreSoFar}
use Rattle.vsw_replay.proofs.Cuts.{IsCutOf, cut_of, until_ascends, until_below, within_step, until_first, until_none, until_next, next_some}
use Rattle.vsw_replay.proofs.Carried.{low_of, take_most, drop_size, numbered_size, drop_numbered, round_more, rounds_only}
use Rattle.vsw_replay.proofs.Completing.{take_front, within_low, report_append}
use Rattle.vsw_reading.proofs.Pieces.{none_left}

-- the rounds of these records, after the one at this cut
abbrev pub RoundsFor : Setting → ℕ → List Record → List Round → List (List Event) → Stop → Type 0
RoundsFor s first all rounds hs stop.Full = AreSoFar s all (cuts_within s.commands (length all)) rounds hs
RoundsFor s first all rounds hs stop.End = AreSoFar s all (cuts_until s.commands (length all) (first + 1)) rounds hs
RoundsFor s first all rounds hs stop.Fault = AreSoFar s all (cuts_within s.commands (length all)) rounds hs
RoundsFor s first all rounds hs (stop.Bad bad) = AreSoFar s all (cuts_within s.commands (length all)) rounds hs

drop_front : (xs ys : List Record) → drop (length xs) (xs ++ ys) ≡ ys
drop_front [] ys = refl
drop_front (x ∷ xs) ys = drop_front xs ys

-- the packets of the batch
batch_packets : (given batch : List Record) (first : ℕ) → length given ≡ first → packets_between (given ++ batch) first (length (given ++ batch)) ≡ numbered first batch
batch_packets given batch first e =
    let all = given ++ batch in
    let here : drop first (numbered 0 all) ≡ numbered first batch = drop_numbered first 0 all ∙ (ap (λ n. numbered n (drop first all)) (omega arith) ∙ ap (numbered first) (ap (λ n. drop n all) (sym e) ∙ drop_front given batch)) in
    let size : length (numbered first batch) ≡ length all - first = numbered_size first batch ∙ omega (arith, length-append given batch, e) in
    ap (take (length all - first)) here ∙ take_most (length all - first) (numbered first batch) (omega (arith, size))

front_is : (given batch : List Record) (first : ℕ) → length given ≡ first → given ≡ take first (given ++ batch)
front_is given batch first e = take_front given batch ∙ ap (λ n. take n (given ++ batch)) e

some_count : (b : Bool) (n : ℕ) → (not (n == 0) || (false && b)) ≡ true → 0 < n
some_count b n h = grind (arith, common_steps)

no_count : (b : Bool) (n : ℕ) → (not (n == 0) || b) ≡ false → n ≡ 0
no_count b n h = grind (arith, common_steps)

no_other : (b c : Bool) (n : ℕ) → (not (n == 0) || (true && (b || c))) ≡ false → (b ≡ false) × (c ≡ false)
no_other b c n h = (grind (arith, common_steps), grind (arith, common_steps))

why_run : (first n : ℕ) (named : Bool) → (not (n == 0) || (true && ((first == 0) || named))) ≡ true → (0 < n) ⊎ (first ≡ 0) ⊎ (named ≡ true)
why_run first n named h = by (nat_lt 0 n) (nat_lt 0 first) refl refl
  where
    by : (b c : Bool) → nat_lt 0 n ≡ b → nat_lt 0 first ≡ c → (0 < n) ⊎ (first ≡ 0) ⊎ (named ≡ true)
    by true c e f = inl (grind (arith, common_steps))
    by false false e f = inr (inl (grind (arith, common_steps)))
    by false true e f = inr (inr (grind (arith, common_steps)))

-- the round of the batch was run
pub rounds_run : (s : Setting) (first next : ℕ) (given batch : List Record) (rounds : List Round) (hs : List (List Event)) (now : SwitchNow) (short : Bool) (old new : List ℕ) (st : Stop) → length given ≡ first → IsCut s.commands first → IsNextCut s.commands first next → IsAsLong st next (length (given ++ batch)) → is_run_of s.commands (length batch) first st ≡ true
    → AreSoFar s given (cuts_within s.commands first) rounds hs → (r : TellsRound s hs first batch now short old new) → RoundsFor s first (given ++ batch) (rounds ++ r.round ∷ []) r.histories st
rounds_run s first next given batch rounds hs now short old new st count cut after long runs so r = by st long runs
  where
    all : List Record
    all = given ++ batch

    size : length all ≡ first + length batch
    size = omega (arith, length-append given batch, count)

    more : AreSoFar s all (cuts_within s.commands first ++ first ∷ []) (rounds ++ r.round ∷ []) r.histories
    more = round_more s given all batch first (cuts_within s.commands first) rounds hs now short old new (front_is given batch first count) (within_low s first) (batch_packets given batch first count) so r

    within : 0 < length batch → length all ≤ next → AreSoFar s all (cuts_within s.commands (length all)) (rounds ++ r.round ∷ []) r.histories
    within some le = subst (λ c. AreSoFar s all c (rounds ++ r.round ∷ []) r.histories) (sym (within_step s.commands first (length all) cut (omega (arith, size, some)) (λ n lt c. omega (arith, le, after.least n lt c)))) more

    at_end : (0 < length batch) ⊎ (first ≡ 0) ⊎ (is_named_by s.commands first ≡ true) → IsCutOf s.commands (length all) first
    at_end (inl some) = cut_of s.commands (length all) first cut (omega (arith, size, some))
    at_end (inr (inl e)) = inl e
    at_end (inr (inr t)) = inr (inl t)

    ended : is_run_of s.commands (length batch) first stop.End ≡ true → AreSoFar s all (cuts_until s.commands (length all) (first + 1)) (rounds ++ r.round ∷ []) r.histories
    ended runs = subst (λ c. AreSoFar s all c (rounds ++ r.round ∷ []) r.histories) (sym (until_first s.commands first (length all) (omega (arith, size)) (at_end (why_run first (length batch) (is_named_by s.commands first) runs)))) more

    by : (st : Stop) → IsAsLong st next (length all) → is_run_of s.commands (length batch) first st ≡ true → RoundsFor s first all (rounds ++ r.round ∷ []) r.histories st
    by stop.Full long runs = within (some_count ((first == 0) || is_named_by s.commands first) (length batch) runs) (omega (arith, long.0))
    by stop.End long runs = ended runs
    by stop.Fault long runs = within (some_count ((first == 0) || is_named_by s.commands first) (length batch) runs) (omega (arith, long))
    by (stop.Bad bad) long runs = within (some_count ((first == 0) || is_named_by s.commands first) (length batch) runs) (omega (arith, long))

no_batch : (given batch : List Record) → length batch ≡ 0 → given ≡ given ++ batch
no_batch given [] e = sym (append-nil given)
no_batch given (r ∷ rs) e = absurd (omega (arith, e))

-- there was no round to run
pub rounds_unrun : (s : Setting) (first next : ℕ) (given batch : List Record) (rounds : List Round) (hs : List (List Event)) (st : Stop) → length given ≡ first → IsNextCut s.commands first next → IsAsLong st next (length (given ++ batch)) → is_run_of s.commands (length batch) first st ≡ false → AreSoFar s given (cuts_within s.commands first) rounds hs
    → RoundsFor s first (given ++ batch) rounds hs st
rounds_unrun s first next given batch rounds hs st count after long runs so = by st long runs
  where
    all : List Record
    all = given ++ batch

    size : length all ≡ first + length batch
    size = omega (arith, length-append given batch, count)

    same : length batch ≡ 0 → AreSoFar s all (cuts_within s.commands first) rounds hs
    same none = rounds_only s given all (cuts_within s.commands first) rounds hs (no_batch given batch none) so

    within : length batch ≡ 0 → AreSoFar s all (cuts_within s.commands (length all)) rounds hs
    within none = let total : first ≡ length all = omega (arith, size, none) in subst (λ n. AreSoFar s all (cuts_within s.commands n) rounds hs) total (same none)

    ended : length batch ≡ 0 → (first == 0) ≡ false → is_named_by s.commands first ≡ false → AreSoFar s all (cuts_until s.commands (length all) (first + 1)) rounds hs
    ended none some unnamed =
        let total : first ≡ length all = omega (arith, size, none) in
        let until : cuts_until s.commands first (first + 1) ≡ cuts_within s.commands first = until_none s.commands first (grind (arith, common_steps)) unnamed in
        subst (λ n. AreSoFar s all (cuts_until s.commands n (first + 1)) rounds hs) total (subst (λ c. AreSoFar s all c rounds hs) (sym until) (same none))

    by : (st : Stop) → IsAsLong st next (length all) → is_run_of s.commands (length batch) first st ≡ false → RoundsFor s first all rounds hs st
    by stop.Full long runs = absurd (let none = no_count (false && ((first == 0) || is_named_by s.commands first)) (length batch) runs in omega (arith, size, none, long.0, after.above))
    by stop.End long runs =
        let none = no_count (true && ((first == 0) || is_named_by s.commands first)) (length batch) runs in
        let other = no_other (first == 0) (is_named_by s.commands first) (length batch) runs in
        ended none other.0 other.1
    by stop.Fault long runs = within (no_count (false && ((first == 0) || is_named_by s.commands first)) (length batch) runs)
    by (stop.Bad bad) long runs = within (no_count (false && ((first == 0) || is_named_by s.commands first)) (length batch) runs)

-- a round of commands alone was run, behind the trace
pub rounds_past : (s : Setting) (first next : ℕ) (records batch : List Record) (rounds : List Round) (hs : List (List Event)) (now : SwitchNow) (short : Bool) (old new : List ℕ) → batch ≡ [] → next_at (first + 1) s.commands ≡ Some next → AreBehind s.commands first (length records) → AreSoFar s records (cuts_until s.commands (length records) (first + 1)) rounds hs
    → (r : TellsRound s hs next batch now short old new) → AreSoFar s records (cuts_until s.commands (length records) (next + 1)) (rounds ++ r.round ∷ []) r.histories
rounds_past s first next records batch rounds hs now short old new none e behind so r =
    let is = next_some s.commands (first + 1) next e in
    let far : length records ≤ next = behind next (omega (arith, is.from)) (inl is.is_named) in
    let low = low_of 0 next (cuts_until s.commands (length records) (first + 1)) (omega arith) (until_ascends s.commands (length records) (first + 1)) (λ n h. omega (arith, is.from, until_below s.commands (length records) (first + 1) n h)) in
    let nothing : drop next (numbered 0 records) ≡ [] = none_left (drop next (numbered 0 records)) (omega (arith, drop_size next (numbered 0 records), numbered_size 0 records, far)) in
    let packets : packets_between records next (length records) ≡ numbered next batch = ap (take (length records - next)) nothing ∙ (take_nil (length records - next) ∙ ap (numbered next) (sym none)) in
    subst (λ c. AreSoFar s records c (rounds ++ r.round ∷ []) r.histories) (sym (until_next s.commands first (length records) next e behind))
    (round_more s records records batch next (cuts_until s.commands (length records) (first + 1)) rounds hs now short old new (sym (take_all next records far)) low packets so r)
  where
    take_nil : {A : Type 0} (n : ℕ) → ◌≡◌ {A = List A} (take n []) []
    take_nil zero = refl
    take_nil (suc n) = refl

-- ---- its text, and whether memory was wanting in it

pub report_push : (rounds : List Round) (r : Round) → report_text (rounds ++ r ∷ []) ≡ report_text rounds ++ round_text r
report_push rounds r = report_append rounds (r ∷ []) ∙ ap (λ t. report_text rounds ++ t) (append-nil (round_text r))

short_append : (xs : List Round) (r : Round) → are_short (xs ++ r ∷ []) ≡ (are_short xs || is_short_round r)
short_append [] r = by (is_short_round r)
  where
    by : (b : Bool) → (b || false) ≡ (false || b)
    by true = refl
    by false = refl
short_append (x ∷ xs) r = by (is_short_round x) (short_append xs r)
  where
    by : (b : Bool) → are_short (xs ++ r ∷ []) ≡ (are_short xs || is_short_round r) → (b || are_short (xs ++ r ∷ [])) ≡ ((b || are_short xs) || is_short_round r)
    by true ih = refl
    by false ih = ih

pub short_push : (rounds : List Round) (r : Round) (old new short : Bool) → are_short rounds ≡ old → short ≡ is_short_round r → new ≡ (old || short) → are_short (rounds ++ r ∷ []) ≡ new
short_push rounds r old new short e f g = short_append rounds r ∙ (ap (λ b. b || is_short_round r) e ∙ (ap (λ b. old || b) (sym f) ∙ sym g))

-- the test of a round that is run, in the words of a run
pub runs_as : (commands lines : List Line) (n count first : ℕ) (st : Stop) (b v : Bool) → commands ≡ lines → count ≡ n → b ≡ is_run_of lines count first st → b ≡ v → is_run_of commands n first st ≡ v
runs_as commands lines n count first st b v e f g h = ap (λ ls. is_run_of ls n first st) e ∙ (ap (λ m. is_run_of lines m first st) (sym f) ∙ (sym g ∙ h))
