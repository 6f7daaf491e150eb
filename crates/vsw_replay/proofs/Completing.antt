-- Whatever was read of a trace, what was put of it is the front of a text that a run may put.
use Rattle.std.proofs.Common.{◌≡◌, ◌<◌, ◌≤◌, ◌⊎◌, inl, inr, ◌+◌, ◌-◌, ℕ, Bool, true, false, nat_lt, None, Result, Ok, Err, List, [], ◌∷◌, ◌++◌, length, take, take_all, map, drop, refl, sym, ◌∙◌, ap, subst, arith, append_assoc, append-nil, length-append, length-drop}
use Rattle.std.specs.List.{flat_map}
use Rattle.std.proofs.lemmas.Grind.{common_steps}
use Rattle.vsw_port.specs.declared.event.Event.{Event}
use Rattle.vsw_pcap.specs.Capture.{header_of, front_of, Splits, IsCapture}
use Rattle.vsw_pcap.specs.declared.capture.Form.{Form}
use Rattle.vsw_pcap.specs.declared.capture.Front.{Front}
use Rattle.vsw_pcap.specs.declared.capture.Front.TheVariants.{Whole, Part, Oversize}
use Rattle.vsw_pcap.specs.declared.capture.Record.{Record}
use Rattle.vsw_pcap.specs.declared.fault.BadTrace.{BadTrace}
use Rattle.vsw_pcap.specs.declared.fault.BadTrace.TheVariants.{NotPcap, Version, LinkType, Cut, Huge}
use Rattle.vsw_pcap.proofs.Format.{not_cut, not_huge}
use Rattle.vsw_promise.specs.Ports.{ports_of}
use Rattle.vsw_promise.specs.Jobs.{Setting, cuts, cuts_within}
use Rattle.vsw_run.specs.Trace.{most_records, Trace, All, Stopped, TellsAll, TellsWithin, MayTell}
use Rattle.vsw_run.specs.declared.ending.Ending.TheVariants as ending
use Rattle.vsw_report.specs.Print.{head_line, round_text, report_text}
use Rattle.vsw_report.specs.Short.{are_short}
use Rattle.vsw_report.specs.declared.round.Round.{Round}
use Rattle.vsw_replay.specs.Private.Cut.{IsCut, cuts_until, AreBehind}
use Rattle.vsw_reading.specs.Passed.{IsPassed}
use Rattle.vsw_replay.specs.Private.SoFar.{AreSoFar}
use Rattle.vsw_replay.proofs.Ordered.{Has}
use Rattle.vsw_replay.proofs.Cuts.{until_below, within_below, within_more, within_none, until_ascends, until_more}
use Rattle.vsw_replay.proofs.Carried.{AreLow, low_of, none_so_far, rounds_follow, rounds_of}
use Rattle.vsw_run.proofs.ReadTo.{read_to}
use Rattle.vsw_reading.proofs.Splitting.{splits_append, splits_shorter, NotWhole, ends_within, stops_at}

-- ---- texts

flat_append : (xs ys : List Round) → flat_map round_text (xs ++ ys) ≡ flat_map round_text xs ++ flat_map round_text ys
flat_append [] ys = refl
flat_append (x ∷ xs) ys = ap (λ t. round_text x ++ t) (flat_append xs ys) ∙ sym (append_assoc (round_text x) (flat_map round_text xs) (flat_map round_text ys))

pub report_append : (xs ys : List Round) → report_text (xs ++ ys) ≡ report_text xs ++ flat_map round_text ys
report_append xs ys = ap (λ t. head_line ++ t) (flat_append xs ys) ∙ sym (append_assoc head_line (flat_map round_text xs) (flat_map round_text ys))

-- a text follows what was put
pub record Follows (s : Setting) (t : Trace) (front : List ℕ) : Type 0 where
  pub more : List ℕ
  pub tells : MayTell s t (front ++ more)

follows_by : (s : Setting) (t : Trace) (front text more : List ℕ) → text ≡ front ++ more → MayTell s t text → Follows s t front
follows_by s t front text more e m = record { more = more; tells = subst (MayTell s t) e m }

pub follows_none : (s : Setting) (t : Trace) (front : List ℕ) → MayTell s t front → Follows s t front
follows_none s t front m = follows_by s t front front [] (sym (append-nil front)) m

-- ---- a trace that is read no further

pub tells_within : (s : Setting) (records : List Record) (rounds : List Round) (hs : List (List Event)) → AreSoFar s records (cuts_within s.commands (length records)) rounds hs → TellsWithin s records (report_text rounds)
tells_within s records rounds hs so = record { rounds = rounds; are = rounds_of s records (cuts_within s.commands (length records)) rounds hs so; text_is = refl }

front_tells : (s : Setting) (bytes : List ℕ) (form : Form) (total : List Record) (text rest : List ℕ) (front : Front) → header_of bytes ≡ Ok form → Splits form (drop 24 bytes) total rest → TellsWithin s total text → length total < most_records → front_of form rest ≡ front → NotWhole front → MayTell s (read_to Stopped bytes) text
front_tells s bytes form total text rest (Whole c) h p w few e n = absurd n
front_tells s bytes form total text rest Part h p w few e n = inr (refl, inr (record { records = total; at = length bytes - length rest; stops = stops_at bytes form total rest Part h p e; few = omega (arith, few); last = λ f. absurd (omega (arith, few, f)); tells = w }))
front_tells s bytes form total text rest Oversize h p w few e n = inl (ending.Trace (Huge (length bytes - length rest)), record { records = total; refused = stops_at bytes form total rest Oversize h p e; few = few; tells = w })

full_tells : (s : Setting) (bytes : List ℕ) (form : Form) (total : List Record) (text rest : List ℕ) → header_of bytes ≡ Ok form → Splits form (drop 24 bytes) total rest → TellsWithin s total text → length total ≡ most_records → MayTell s (read_to Stopped bytes) text
full_tells s bytes form total text [] h p w full = inr (refl, inr (record { records = total; at = length bytes; stops = record { form = form; rest = []; header = h; splits = p; place = omega arith; begins = refl }; few = omega (arith, full); last = λ e. refl; tells = w }))
full_tells s bytes form total text (x ∷ xs) h p w full = inl (
  ending.Records,
  record {
    records = total;
    at = length bytes - length (x ∷ xs);
    front = front_of form (x ∷ xs);
    stops = stops_at bytes form total (x ∷ xs) (front_of form (x ∷ xs)) h p refl;
    more = omega (arith, splits_shorter form (drop 24 bytes) total (x ∷ xs) p, length-drop 24 bytes);
    full = full;
    tells = w;
  },
)

stopped_tells : (s : Setting) (bytes : List ℕ) (form : Form) (total : List Record) (text rest : List ℕ) → header_of bytes ≡ Ok form → Splits form (drop 24 bytes) total rest → TellsWithin s total text → length total ≤ most_records → (length total ≡ most_records) ⊎ NotWhole (front_of form rest) → MayTell s (read_to Stopped bytes) text
stopped_tells s bytes form total text rest h p w few (inl full) = full_tells s bytes form total text rest h p w full
stopped_tells s bytes form total text rest h p w few (inr n) = by (nat_lt (length total) most_records) refl
  where
    by : (b : Bool) → nat_lt (length total) most_records ≡ b → MayTell s (read_to Stopped bytes) text
    by true t = front_tells s bytes form total text rest (front_of form rest) h p w (grind (arith, common_steps)) refl n
    by false t = let full : length total ≡ most_records = grind (arith, common_steps) in full_tells s bytes form total text rest h p w full

pub take_front : (xs ys : List Record) → xs ≡ take (length xs) (xs ++ ys)
take_front [] ys = refl
take_front (x ∷ xs) ys = ap (λ w. x ∷ w) (take_front xs ys)

pub within_low : (s : Setting) (first : ℕ) → AreLow 0 first (cuts_within s.commands first)
within_low s first = low_of 0 first (cuts_within s.commands first) (omega arith) (until_ascends s.commands first first) (λ n h. within_below s.commands first n h)

last_of : (n m k : ℕ) (f : Front) → k ≤ m → (n ≡ m - k) ⊎ NotWhole f → (k + n ≡ m) ⊎ NotWhole f
last_of n m k f h (inl e) = inl (omega (arith, h, e))
last_of n m k f h (inr w) = inr w

-- after the rounds of these records, which end at a cut
pub front_follows : (s : Setting) (bytes : List ℕ) (given : List Record) (rounds : List Round) (hs : List (List Event)) → IsPassed bytes given → length given ≤ most_records → IsCut s.commands (length given) → AreSoFar s given (cuts_within s.commands (length given)) rounds hs → Follows s (read_to Stopped bytes) (report_text rounds)
front_follows s bytes given rounds hs p few cut so =
    let t = ends_within (most_records - length given) p.form p.rest in
    by t.records t.rest t.splits t.few t.last
  where
    by : (next : List Record) (rest : List ℕ) → Splits p.form p.rest next rest → length next ≤ most_records - length given → (length next ≡ most_records - length given) ⊎ NotWhole (front_of p.form rest) → Follows s (read_to Stopped bytes) (report_text rounds)
    by [] rest e small last =
        let none : given ++ [] ≡ given = append-nil given in
        let splits : Splits p.form (drop 24 bytes) given rest = subst (λ w. Splits p.form (drop 24 bytes) w rest) none (splits_append p.form (drop 24 bytes) given [] p.rest rest p.splits e) in
        let full : (length given ≡ most_records) ⊎ NotWhole (front_of p.form rest) = subst (λ n. (n ≡ most_records) ⊎ NotWhole (front_of p.form rest)) (omega arith) (last_of 0 most_records (length given) (front_of p.form rest) few last) in
        follows_none s (read_to Stopped bytes) (report_text rounds) (stopped_tells s bytes p.form given (report_text rounds) rest p.header splits (tells_within s given rounds hs so) few full)
    by (r ∷ rs) rest e small last =
        let total = given ++ r ∷ rs in
        let size : length total ≡ length given + length (r ∷ rs) = length-append given (r ∷ rs) in
        let more = within_more s.commands (length given) (length total) cut (omega (arith, size)) in
        let follow = rounds_follow s given total (length given) (cuts_within s.commands (length given)) more.0 rounds hs (take_front given (r ∷ rs)) (within_low s (length given)) so in
        let all : AreSoFar s total (cuts_within s.commands (length total)) (rounds ++ follow.more) follow.histories = subst (λ c. AreSoFar s total c (rounds ++ follow.more) follow.histories) (sym more.1) follow.so in
        let full : (length total ≡ most_records) ⊎ NotWhole (front_of p.form rest) = subst (λ n. (n ≡ most_records) ⊎ NotWhole (front_of p.form rest)) (sym size) (last_of (length (r ∷ rs)) most_records (length given) (front_of p.form rest) few last) in
        let splits = splits_append p.form (drop 24 bytes) given (r ∷ rs) p.rest rest p.splits e in
        follows_by s (read_to Stopped bytes) (report_text rounds) (report_text (rounds ++ follow.more)) (flat_map round_text follow.more) (report_append rounds follow.more)
        (stopped_tells s bytes p.form total (report_text (rounds ++ follow.more)) rest p.header splits (tells_within s total (rounds ++ follow.more) follow.histories all) (omega (arith, size, small, few)) full)

-- ---- a trace that ended

pub all_tells : (s : Setting) (bytes : List ℕ) (records : List Record) (rounds : List Round) (hs : List (List Event)) (short : Bool) → IsCapture bytes records None → length records ≤ most_records → AreSoFar s records (cuts s.commands (length records)) rounds hs → are_short rounds ≡ short → TellsAll s (read_to All bytes) short (report_text rounds)
all_tells s bytes records rounds hs short c few so e = record { read = refl; records = records; capture = c; few = few; rounds = rounds; are = rounds_of s records (cuts s.commands (length records)) rounds hs so; short_is = e; text_is = refl }

clean_tells : (s : Setting) (t : Trace) (text : List ℕ) (b : Bool) → TellsAll s t b text → MayTell s t text
clean_tells s t text true a = inl (ending.Memory, a)
clean_tells s t text false a = inl (ending.Done, a)

-- after the rounds up to this packet
pub past_follows : (s : Setting) (bytes : List ℕ) (records : List Record) (first : ℕ) (rounds : List Round) (hs : List (List Event)) → IsCapture bytes records None → length records ≤ most_records → AreBehind s.commands first (length records) → AreSoFar s records (cuts_until s.commands (length records) (first + 1)) rounds hs
    → Follows s (read_to All bytes) (report_text rounds)
past_follows s bytes records first rounds hs c few behind so = let m = until_more s.commands first (length records) behind in by m.rest m.all m.after
  where
    whole : (x : ℕ) → length records ≤ x → records ≡ take x records
    whole x le = sym (take_all x records le)

    by : (rest : List ℕ) → cuts s.commands (length records) ≡ cuts_until s.commands (length records) (first + 1) ++ rest → ((n : ℕ) → Has n rest → (first < n) × (length records ≤ n)) → Follows s (read_to All bytes) (report_text rounds)
    by [] e after =
        let none : cuts_until s.commands (length records) (first + 1) ≡ cuts s.commands (length records) = sym (e ∙ append-nil (cuts_until s.commands (length records) (first + 1))) in
        follows_none s (read_to All bytes) (report_text rounds) (clean_tells s (read_to All bytes) (report_text rounds) (are_short rounds) (all_tells s bytes records rounds hs (are_short rounds) c few (subst (λ w. AreSoFar s records w rounds hs) none so) refl))
    by (x ∷ rest) e after =
        let a = after x (inl refl) in
        let low = low_of 0 x (cuts_until s.commands (length records) (first + 1)) (omega arith) (until_ascends s.commands (length records) (first + 1)) (λ n h. omega (arith, a.0, until_below s.commands (length records) (first + 1) n h)) in
        let follow = rounds_follow s records records x (cuts_until s.commands (length records) (first + 1)) rest rounds hs (whole x a.1) low so in
        let rounds2 = rounds ++ follow.more in
        follows_by s (read_to All bytes) (report_text rounds) (report_text rounds2) (flat_map round_text follow.more) (report_append rounds follow.more)
        (clean_tells s (read_to All bytes) (report_text rounds2) (are_short rounds2) (all_tells s bytes records rounds2 follow.histories (are_short rounds2) c few (subst (λ w. AreSoFar s records w rounds2 follow.histories) (sym e) follow.so) refl))

-- ---- a trace of which nothing was put

refused_tells : (s : Setting) (bytes : List ℕ) (bad : BadTrace) → header_of bytes ≡ Err bad → 24 ≤ length bytes → MayTell s (read_to Stopped bytes) []
refused_tells s bytes NotPcap h d = inl (ending.Trace NotPcap, record { refused = (h, refl); shown = inr d; nothing = refl })
refused_tells s bytes Version h d = inl (ending.Trace Version, record { refused = (h, refl); shown = inr d; nothing = refl })
refused_tells s bytes LinkType h d = inl (ending.Trace LinkType, record { refused = (h, refl); shown = inr d; nothing = refl })
refused_tells s bytes (Cut at) h d = absurd (not_cut bytes at h)
refused_tells s bytes (Huge at) h d = absurd (not_huge bytes at h)

-- a good header alone
pub header_follows : (s : Setting) (bytes : List ℕ) (form : Form) → 0 < s.workers → s.workers ≤ 16 → header_of bytes ≡ Ok form → Follows s (read_to Stopped bytes) head_line
header_follows s bytes form some most h =
    let none : AreSoFar s [] (cuts_within s.commands 0) [] (map (λ p. []) (ports_of s.policy)) = subst (λ c. AreSoFar s [] c [] (map (λ p. []) (ports_of s.policy))) (sym (within_none s.commands)) (none_so_far s some most) in
    let f = front_follows s bytes [] [] (map (λ p. []) (ports_of s.policy)) (record { form = form; rest = drop 24 bytes; header = h; splits = refl }) (omega arith) (inr (0, omega arith)) none in
    record { more = f.more; tells = subst (λ t. MayTell s (read_to Stopped bytes) (t ++ f.more)) (append-nil head_line) f.tells }

pub some_tells : (s : Setting) (bytes : List ℕ) → 0 < s.workers → s.workers ≤ 16 → (text : List ℕ) × MayTell s (read_to Stopped bytes) text
some_tells s bytes some most = by (header_of bytes) refl
  where
    few : (bad : BadTrace) → header_of bytes ≡ Err bad → (b : Bool) → nat_lt (length bytes) 24 ≡ b → (text : List ℕ) × MayTell s (read_to Stopped bytes) text
    few bad h true t = ([], inr (refl, inl (record { few = grind (arith, common_steps); nothing = refl })))
    few bad h false t = ([], refused_tells s bytes bad h (grind (arith, common_steps)))

    by : (r : Result Form BadTrace) → header_of bytes ≡ r → (text : List ℕ) × MayTell s (read_to Stopped bytes) text
    by (Err bad) h = few bad h (nat_lt (length bytes) 24) refl
    by (Ok form) h = let f = header_follows s bytes form some most h in (head_line ++ f.more, f.tells)
