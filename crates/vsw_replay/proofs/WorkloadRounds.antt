-- A round more of a workload.
use Rattle.std.proofs.Common.{◌≡◌, ◌<◌, ◌≤◌, ◌⊎◌, inl, inr, ◌+◌, ◌*◌, ◌==◌, ◌||◌, ◌&&◌, not, ℕ, Bool, true, false, List, [], ◌∷◌, ◌++◌, length, refl, ap, ap₂, sym, ◌∙◌, subst, arith, append_assoc, length-append, ne_eqb}
use native.Mathlib.Decide.{ℕ_discrete}
use Rattle.vsw_base.specs.declared.fate.Fate.{Fate}
use Rattle.vsw_port.specs.declared.event.Event.{Event}
use Rattle.vsw_pcap.specs.declared.capture.Record.{Record}
use Rattle.vsw_promise.specs.Jobs.{Setting, cuts_within}
use Rattle.vsw_promise.specs.Summary.{dropped, in_round, in_rounds, passed, size_of}
use Rattle.vsw_reading.specs.declared.reading.Stop.TheVariants as stop
use Rattle.vsw_replay.specs.Private.Cut.{is_named_by, IsCut, IsNextCut}
use Rattle.vsw_replay.specs.Private.SoFar.{AreSoFar}
use Rattle.vsw_replay.proofs.Turning.{rounds_run, short_push}
use Rattle.vsw_report.specs.declared.round.Round.{Round}
use Rattle.vsw_report.specs.Whole.{whole_text}
use Rattle.vsw_replay.proofs.Totals.{total_append}
use Rattle.vsw_replay.specs.Switch.{SwitchNow, IsAt}
use Rattle.vsw_replay.specs.Tally.{both, tally_in}
use Rattle.vsw_replay.specs.declared.run.Run.{Run}
use Rattle.vsw_replay.specs.Draws.{Draws, records_left}
use Rattle.vsw_replay.specs.Going.{Goes, IsTurn, tally_through}

-- ---- cuts

only_multiples : (n : ℕ) → IsCut [] n → (i : ℕ) × (n ≡ 1024 * i)
only_multiples n (inl named) = absurd (cc named)
only_multiples n (inr t) = t

next_multiple : (first : ℕ) → IsCut [] first → IsNextCut [] first (first + 1024)
next_multiple first cut =
    let t = only_multiples first cut in
    record {
      above = omega arith;
      is_cut = inr (t.0 + 1, omega (arith, t.1));
      least = λ n lt c. let u = only_multiples n c in omega (arith, lt, t.1, u.1);
    }

-- ---- sums

one_round : (f : Fate → ℕ) (rounds : List Round) (r : Round) → in_rounds f rounds + in_round f r ≡ in_rounds f (rounds ++ r ∷ [])
one_round f rounds r = let e = total_append (in_round f) rounds (r ∷ []) in omega (arith, e)

tally_push : (rounds : List Round) (r : Round) → both (tally_through rounds) (tally_in r) ≡ tally_through (rounds ++ r ∷ [])
tally_push rounds r = λ i. record { pass = one_round passed rounds r i; drop = one_round dropped rounds r i; bytes = one_round size_of rounds r i }

-- ---- rounds

some_run : (n : ℕ) (b : Bool) → 0 < n → (not (n == 0) || (false && b)) ≡ true
some_run n b lt = let t : (n == 0) ≡ false = ne_eqb n 0 (λ e. omega (arith, e, lt)) in rw t refl

-- the rounds so far, with the one of the batch: it has 1,024 packets, or is the last
rounds_so : (s : Setting) (first : ℕ) (given : List Record) (rounds : List Round) (hs : List (List Event)) (old new : Run) (switch : SwitchNow) → s.commands ≡ [] → length given ≡ first → IsCut s.commands first → length old.batch ≤ 1024 → 0 < length old.batch → first + length old.batch ≤ 1048576
    → (length old.batch ≡ 1024) ⊎ (length old.batch < 1024) → AreSoFar s given (cuts_within s.commands first) rounds hs → (t : IsTurn s hs first old new switch)
    → AreSoFar s (given ++ old.batch) (cuts_within s.commands (length (given ++ old.batch))) (rounds ++ t.ran.tells.round ∷ []) t.ran.tells.histories
rounds_so s first given rounds hs old new switch alone count cut most some few size so t = by size
  where
    after : IsNextCut s.commands first (first + 1024)
    after = subst (λ c. IsNextCut c first (first + 1024)) (sym alone) (next_multiple first (subst (λ c. IsCut c first) alone cut))

    all : length (given ++ old.batch) ≡ first + length old.batch
    all = omega (arith, length-append given old.batch, count)

    by : (length old.batch ≡ 1024) ⊎ (length old.batch < 1024) → AreSoFar s (given ++ old.batch) (cuts_within s.commands (length (given ++ old.batch))) (rounds ++ t.ran.tells.round ∷ []) t.ran.tells.histories
    by (inl whole) = rounds_run s first (first + 1024) given old.batch rounds hs switch t.told [] (whole_text new.text) stop.Full count cut after (omega (arith, all, whole), omega (arith, few, whole)) (some_run (length old.batch) ((first == 0) || is_named_by s.commands first) some) so t.ran.tells
    by (inr part) = rounds_run s first (first + 1024) given old.batch rounds hs switch t.told [] (whole_text new.text) stop.Fault count cut after (omega (arith, all, part)) (some_run (length old.batch) ((first == 0) || is_named_by s.commands first) some) so t.ran.tells

-- a run before a round was drawn, and with it
pub record HasDrawn (old run : Run) : Type 0 where
  pub draws : Draws old.workload run.workload run.batch
  pub tally : run.tally ≡ old.tally
  pub short : run.short ≡ old.short

-- the round of the batch was run
pub turned : (s : Setting) (all : List Record) (first : ℕ) (old run new : Run) (a b : SwitchNow) → s.commands ≡ [] → HasDrawn old run → 0 < length run.batch → first + old.workload.2 ≤ 1048576 → new.workload ≡ run.workload → ((hs : List (List Event)) → IsAt s hs a → IsTurn s hs first run new b) → Goes s all first old a → Goes s all (first + length run.batch) new b
turned s all first old run new a b alone h some few same turn g =
    let d = h.draws in
    let t = turn g.histories g.at in
    let size : length (g.given ++ run.batch) ≡ first + length run.batch = omega (arith, length-append g.given run.batch, g.count) in
    let cut : IsCut s.commands first = cut_of g.cut d.count in
    let so = rounds_so s first g.given g.rounds g.histories run new b alone g.count cut d.most some (omega (arith, few, d.count)) (size_of_batch d.most) g.so t in
    record {
      given = g.given ++ run.batch;
      rounds = g.rounds ++ t.ran.tells.round ∷ [];
      histories = t.ran.tells.histories;
      whole = ap (λ w. (g.given ++ run.batch) ++ records_left w) same ∙ (append_assoc g.given run.batch (records_left run.workload) ∙ (ap (λ w. g.given ++ w) d.is ∙ g.whole));
      count = size;
      cut = next_cut (only_multiples first (subst (λ c. IsCut c first) alone cut)) d.whole;
      so = subst (λ n. AreSoFar s (g.given ++ run.batch) (cuts_within s.commands n) (g.rounds ++ t.ran.tells.round ∷ []) t.ran.tells.histories) size so;
      at = t.ran.tells.at;
      short_is = short_push g.rounds t.ran.tells.round old.short new.short t.told g.short_is t.ran.tells.short_is (t.short_is ∙ ap (λ x. x || t.told) h.short);
      tally_is = t.tally_is ∙ (ap₂ (λ x y. both x y) (h.tally ∙ g.tally_is) t.ran.tally ∙ tally_push g.rounds t.ran.tells.round);
    }
  where
    cut_of : IsCut s.commands first ⊎ (old.workload.2 ≡ 0) → length run.batch + run.workload.2 ≡ old.workload.2 → IsCut s.commands first
    cut_of (inl c) e = c
    cut_of (inr none) e = absurd (omega (arith, none, e, some))

    size_of_batch : length run.batch ≤ 1024 → (length run.batch ≡ 1024) ⊎ (length run.batch < 1024)
    size_of_batch le = by (ℕ_discrete (length run.batch) 1024)
      where
        by : Dec (length run.batch ≡ 1024) → (length run.batch ≡ 1024) ⊎ (length run.batch < 1024)
        by (yes e) = inl e
        by (no ne) = inr (omega (arith, le, ne))

    next_cut : (i : ℕ) × (first ≡ 1024 * i) → (length run.batch ≡ 1024) ⊎ (run.workload.2 ≡ 0) → IsCut s.commands (first + length run.batch) ⊎ (new.workload.2 ≡ 0)
    next_cut t (inl whole) = inl (inr (t.0 + 1, omega (arith, t.1, whole)))
    next_cut t (inr none) = inr (ap (λ w. w.2) same ∙ none)

-- no packet was left, and no round run
pub unturned : (s : Setting) (all : List Record) (first : ℕ) (old run : Run) (a : SwitchNow) → HasDrawn old run → length run.batch ≡ 0 → Goes s all first old a → Goes s all (first + length run.batch) run a
unturned s all first old run a h none g =
    let d = h.draws in
    let same : first + length run.batch ≡ first = omega (arith, none) in
    subst (λ n. Goes s all n run a) (sym same) (record {
      given = g.given;
      rounds = g.rounds;
      histories = g.histories;
      whole = ap (λ w. g.given ++ w) (left run.batch none d.is) ∙ g.whole;
      count = g.count;
      cut = inr (at_end d.whole);
      so = g.so;
      at = g.at;
      short_is = g.short_is ∙ sym h.short;
      tally_is = h.tally ∙ g.tally_is;
    })
  where
    left : (batch : List Record) → length batch ≡ 0 → batch ++ records_left run.workload ≡ records_left old.workload → records_left run.workload ≡ records_left old.workload
    left [] e is = is
    left (r ∷ rs) e is = absurd (omega (arith, e))

    at_end : (length run.batch ≡ 1024) ⊎ (run.workload.2 ≡ 0) → run.workload.2 ≡ 0
    at_end (inl whole) = absurd (omega (arith, whole, none))
    at_end (inr e) = e
