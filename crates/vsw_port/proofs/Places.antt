-- Layers at their places.
use Rattle.std.proofs.Common.{◌≡◌, ◌==◌, ℕ, zero, suc, true, false, List, [], ◌∷◌, Some, None, refl, sym, ap, ◌∙◌, arith, true≢false, is_some}
use Rattle.std.specs.List.{slice_get}
use Rattle.vsw_policy.specs.Layer.{LayerSeen}
use Rattle.vsw_policy.specs.Layers.{At, changed_at}

pub at_get : (P : LayerSeen → Type 0) (ls : List LayerSeen) (n : ℕ) (l : LayerSeen) → slice_get ls n ≡ Some l → P l → At n P ls
at_get P [] n l e h = absurd (true≢false (sym (ap is_some e)))
at_get P (m ∷ ls) zero l e h = let same : l ≡ m = ap (λ o. elim o [ None ↦ l | Some z ↦ z ]) (sym e) in rw (← same) h
at_get P (m ∷ ls) (suc n) l e h = at_get P ls n l e h

pub get_changed : (f : LayerSeen → LayerSeen) (ls : List LayerSeen) (n : ℕ) (l : LayerSeen) → slice_get ls n ≡ Some l → slice_get (changed_at n f ls) n ≡ Some (f l)
get_changed f [] n l e = absurd (true≢false (sym (ap is_some e)))
get_changed f (m ∷ ls) zero l e = ap (λ o. elim o [ None ↦ Some (f l) | Some z ↦ Some (f z) ]) e
get_changed f (m ∷ ls) (suc n) l e = get_changed f ls n l e

pub get_beside : (f : LayerSeen → LayerSeen) (ls : List LayerSeen) (n k : ℕ) → (k == n) ≡ false → slice_get (changed_at k f ls) n ≡ slice_get ls n
get_beside f [] n k e = refl
get_beside f (m ∷ ls) zero zero e = absurd (true≢false e)
get_beside f (m ∷ ls) zero (suc k) e = refl
get_beside f (m ∷ ls) (suc n) zero e = refl
get_beside f (m ∷ ls) (suc n) (suc k) e = get_beside f ls n k (sym (grind arith) ∙ e)
