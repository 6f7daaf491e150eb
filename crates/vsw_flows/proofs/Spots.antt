-- Of the spots on which rows lean: who comes to stand at one and who leaves it.
use Rattle.std.proofs.Common.{◌≡◌, ◌≢◌, ◌+◌, ℕ, ◌==◌, Bool, true, false, ◌&&◌, List, refl, sym, ap, ◌∙◌, arith, true≢false}
use native.Mathlib.Decide.{ℕ_discrete}
use mathlib.Core.Logic.{dite}
use Rattle.vsw_layerflow.specs.Pairs.{same_probe}
use Rattle.vsw_layerflow.proofs.Lists.{same_is}
use Rattle.vsw_flows.specs.declared.leaners.Joined.{Joined}
use Rattle.vsw_flows.specs.declared.leaners.Leaners.{Leaners}
use Rattle.vsw_flows.specs.declared.spot.Spot.{Spot}
use Rattle.vsw_flows.specs.declared.spot.Spot.TheVariants.{Missed, Found}
use Rattle.vsw_flows.specs.Leaners.{has, joined, without}
use Rattle.vsw_flows.specs.Spots.{same_spot, stood}
use Rattle.vsw_flows.proofs.Marks.{joined_others, joined_there, joined_way, without_others}

-- spots that are the same are equal
both_are : (a b : Bool) → (a && b) ≡ true → (a ≡ true) × (b ≡ true)
both_are true b e = (refl, e)
both_are false b e = absurd (true≢false (sym e))

number_is : (a b : ℕ) → (a == b) ≡ true → a ≡ b
number_is a b e = grind arith

pub spot_is : (s t : Spot) → same_spot s t ≡ true → s ≡ t
spot_is (Missed a k) (Missed b m) e = let h = both_are (a == b) (same_probe k m) e in (λ j. Missed (number_is a b h.0 j) (same_is k m h.1 j))
spot_is (Missed a k) (Found b n) e = absurd (true≢false (sym e))
spot_is (Found a n) (Missed b k) e = absurd (true≢false (sym e))
spot_is (Found a n) (Found b m) e = let h = both_are (a == b) (n == m) e in (λ j. Found (number_is a b h.0 j) (number_is n m h.1 j))

-- the rows at one place of a table are these now, and those at the others as they were
pub record PutsAt (old new : List Leaners) (place : ℕ) (l : Leaners) : Type 0 where
  pub here : stood new place ≡ l
  pub others : (k : ℕ) → k ≢ place → stood new k ≡ stood old k

-- who stood somewhere stands there, if that holds of the rows of the place
elsewhere : (old new : List Leaners) (place : ℕ) (l : Leaners) (k r : ℕ) → PutsAt old new place l → (has (stood old place) r ≡ true → has l r ≡ true) → has (stood old k) r ≡ true → has (stood new k) r ≡ true
elsewhere old new place l k r p f h = dite (ℕ_discrete k place)
    (λ e. ap (λ j. has (stood new j) r) e ∙ (ap (λ m. has m r) p.here ∙ f (ap (λ j. has (stood old j) r) (sym e) ∙ h)))
    (λ ne. ap (λ m. has m r) (p.others k ne) ∙ h)

pub enter_others : (old new : List Leaners) (place row : ℕ) (l : Leaners) (j : Joined) → l ≡ stood old place → j ≡ joined l row → PutsAt old new place j.leaners → (k r : ℕ) → has (stood old k) r ≡ true → r + 1 ≢ j.way → has (stood new k) r ≡ true
enter_others old new place row l j e f p k r h n =
    elsewhere old new place j.leaners k r p (λ g. ap (λ (i : Joined). has i.leaners r) f ∙ joined_others l row r (ap (λ m. has m r) e ∙ g) (λ w. n (w ∙ ap (λ (i : Joined). i.way) (sym f)))) h

pub enter_there : (old new : List Leaners) (place row : ℕ) (l : Leaners) (j : Joined) → j ≡ joined l row → PutsAt old new place j.leaners → has (stood new place) row ≡ true
enter_there old new place row l j f p = ap (λ m. has m row) p.here ∙ (ap (λ (i : Joined). has i.leaners row) f ∙ joined_there l row)

pub enter_way : (row : ℕ) (l : Leaners) (j : Joined) → j ≡ joined l row → j.way ≢ row + 1
enter_way row l j f w = joined_way l row (ap (λ (i : Joined). i.way) (sym f) ∙ w)

pub nobody : (row : ℕ) → 0 ≢ row + 1
nobody row e = absurd (grind (arith, e))

pub leave_others : (old new : List Leaners) (place row : ℕ) (l m : Leaners) (put : Bool) → l ≡ stood old place → m ≡ without l row → (put ≡ true → stood new place ≡ m) → ((k : ℕ) → k ≢ place → stood new k ≡ stood old k) → (put ≡ false → new ≡ old)
    → (k r : ℕ) → r ≢ row → has (stood old k) r ≡ true → has (stood new k) r ≡ true
leave_others old new place row l m put e f here others same k r n h = by put refl
  where
    by : (b : Bool) → put ≡ b → has (stood new k) r ≡ true
    by true i = elsewhere old new place m k r (record { here = here i; others = others }) (λ g. ap (λ j. has j r) f ∙ without_others l row r n (ap (λ j. has j r) e ∙ g)) h
    by false i = ap (λ t. has (stood t k) r) (same i) ∙ h
