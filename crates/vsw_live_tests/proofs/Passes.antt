-- Passes that are new, and that make calls.
use Rattle.std.proofs.Common.{◌≡◌, ◌<◌, ◌≤◌, ◌+◌, ◌∙◌, ℕ, zero, suc, List, [], ◌∷◌, ◌++◌, length, take, drop, slice_index_or, true, false, Bool, ap, subst, arith}
use Rattle.vsw_flows.specs.Flows.{Looking, Writing}
use Rattle.vsw_port.specs.Calls.{Call}
use Rattle.vsw_port.specs.History.{Opening}
use Rattle.vsw_live.specs.Calls.{Crosses, one_if}
use Rattle.vsw_live.specs.Meeting.{HeldSeen, Meets}
use Rattle.vsw_live.specs.Ports.{AreNewPasses, IsNewPass}
use Rattle.vsw_live_tests.specs.Trials.{Calls, Holds}

-- the pass at a place has that number
new_at : (l : Looking) (n : ℕ) (ps : List Writing) (i : ℕ) (d : Writing) → AreNewPasses l n ps → i < length ps → IsNewPass l (n + i) (slice_index_or ps i d)
new_at l n [] i d new low = absurd (omega (arith, low))
new_at l n (p ∷ ps) zero d new low = let e : n ≡ n + 0 = omega arith in subst (λ k. IsNewPass l k p) e new.0
new_at l n (p ∷ ps) (suc i) d new low =
    let e : (n + 1) + i ≡ n + suc i = omega arith in
    subst (λ k. IsNewPass l k (slice_index_or ps i d)) e (new_at l (n + 1) ps i d new.1 (omega (arith, low)))

pub new_there : (l : Looking) (ps : List Writing) (i : ℕ) (d : Writing) → AreNewPasses l 0 ps → i < length ps → IsNewPass l i (slice_index_or ps i d)
new_there l ps i d new low = let e : 0 + i ≡ i = omega arith in subst (λ k. IsNewPass l k (slice_index_or ps i d)) e (new_at l 0 ps i d new low)

-- the passes before it are new as before
pub new_front : (l : Looking) (n : ℕ) (ps : List Writing) (i : ℕ) → AreNewPasses l n ps → AreNewPasses l n (take i (take i ps ++ drop (suc i) ps))
new_front l n [] zero new = tt
new_front l n [] (suc i) new = tt
new_front l n (p ∷ ps) zero new = tt
new_front l n (p ∷ ps) (suc i) new = (new.0, new_front l (n + 1) ps i new.1)

at_most_one : (b : Bool) → one_if b ≤ 1
at_most_one true = omega arith
at_most_one false = omega arith

pub calls_once : (o : Opening) (p q : Writing) (c : Call) → Crosses o p q c → Calls c.entry p q
calls_once o p q c crosses = record { table = crosses.table; opens = crosses.opens; number = crosses.number; permits = crosses.permits }

-- a new pass that was given permits
pub given : (l : Looking) (h : HeldSeen) (number more : ℕ) (p q : Writing) → IsNewPass l number p → Meets h more p q → Holds l number more q
given l h number more p q new meets = record {
  of = record { table = meets.table ∙ new.of.table; opens = meets.opens ∙ new.of.opens };
  number = meets.number ∙ new.number;
  enough = omega (arith, meets.permits, new.permits);
}

-- a pass goes on with one permit fewer
pub goes_on : (l : Looking) (number left less : ℕ) (entry : Bool) (p q : Writing) → Holds l number left p → Calls entry p q → left ≡ less + 1 → Holds l number less q
goes_on l number left less entry p q holds calls fewer = record {
  of = record { table = calls.table ∙ holds.of.table; opens = calls.opens ∙ holds.of.opens };
  number = calls.number ∙ holds.number;
  enough = omega (arith, holds.enough, calls.permits, at_most_one entry, fewer);
}

-- a call that is no entry takes no permit
pub stays : (l : Looking) (number left : ℕ) (entry : Bool) (p q : Writing) → Holds l number left p → Calls entry p q → entry ≡ false → Holds l number left q
stays l number left entry p q holds calls read = record {
  of = record { table = calls.table ∙ holds.of.table; opens = calls.opens ∙ holds.of.opens };
  number = calls.number ∙ holds.number;
  enough = (let e : one_if entry ≡ 0 = ap one_if read in omega (arith, holds.enough, calls.permits, e));
}
