-- What the changes that were judged leave to judge.
use Rattle.std.proofs.Common.{◌≡◌, ℕ, List, ◌∷◌, Option, Some, None, refl, sym, ap, ◌∙◌}
use Rattle.vsw_port.specs.declared.stop.Stop.{Stop}
use Rattle.vsw_port.specs.Holds.{AllHold, HoldsOf}
use Rattle.vsw_port.specs.Private.Threaded.{AllThere, LeftThere, left_by, or_next, refusal_after, refusal_by}
use Rattle.vsw_port.specs.WalkWanted.{Wanted}
use Rattle.vsw_port.specs.WalkWanted.TheVariants.{Make, Touch, Leave}
use Rattle.vsw_policy.specs.Layer.{LayerSeen}

-- what is left to judge decides, and the pair that leaves is there
pub record Judged (ls : List LayerSeen) (left : Option (ℕ × ℕ)) (rest all : List Wanted) : Type 0 where
  pub exact : refusal_after ls None all ≡ refusal_after ls left rest
  pub hold : AllHold ls rest → AllHold ls all
  pub leaves : LeftThere ls left
  pub there : AllThere ls rest

pub judged_none : (ls : List LayerSeen) (ws : List Wanted) → AllThere ls ws → Judged ls None ws ws
judged_none ls ws h = record { exact = refl; hold = λ i. i; leaves = tt; there = h }

after_one : (ls : List LayerSeen) (left : Option (ℕ × ℕ)) (w : Wanted) (ws : List Wanted) → refusal_after ls left (w ∷ ws) ≡ or_next (refusal_by ls left w) (refusal_after ls (left_by w) ws)
after_one ls left (Make place p) ws = refl
after_one ls left (Touch place number state last) ws = refl
after_one ls left (Leave place number) ws = refl

left_there : (ls : List LayerSeen) (w : Wanted) (ws : List Wanted) → AllThere ls (w ∷ ws) → LeftThere ls (left_by w)
left_there ls (Make place p) ws h = tt
left_there ls (Touch place number state last) ws h = tt
left_there ls (Leave place number) ws h = h.0

-- a change that is refused is the first
pub judged_some : (ls : List LayerSeen) (left : Option (ℕ × ℕ)) (w : Wanted) (rest ws all : List Wanted) (s : Stop) → rest ≡ w ∷ ws → Judged ls left rest all → Some s ≡ refusal_by ls left w → Some s ≡ refusal_after ls None all
judged_some ls left w rest ws all s e j r = sym (j.exact ∙ ap (refusal_after ls left) e ∙ after_one ls left w ws ∙ ap (λ o. or_next o (refusal_after ls (left_by w) ws)) (sym r))

-- the others are judged next
pub judged_next : (ls : List LayerSeen) (left : Option (ℕ × ℕ)) (w : Wanted) (rest ws all : List Wanted) → rest ≡ w ∷ ws → Judged ls left rest all → None ≡ refusal_by ls left w → HoldsOf ls w → Judged ls (left_by w) ws all
judged_next ls left w rest ws all e j r h =
    let there = rw e at j.there in
    record {
      exact = j.exact ∙ ap (refusal_after ls left) e ∙ after_one ls left w ws ∙ ap (λ o. or_next o (refusal_after ls (left_by w) ws)) (sym r);
      hold = λ i. j.hold (rw e (h, i));
      leaves = left_there ls w ws there;
      there = there.1;
    }
