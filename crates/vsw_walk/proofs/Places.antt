-- Of layers with their places.
use Rattle.std.proofs.Common.{◌≡◌, ◌∙◌, ℕ, suc, ◌+◌, List, [], ◌∷◌, ◌++◌, length, map, reverse, ap, arith}
use Rattle.std.proofs.lemmas.List.{reverse-append, map-append, length-map}
use Rattle.vsw_policy.specs.declared.layer.Layer.{Layer}
use Rattle.vsw_policy.specs.Layer.{LayerSeen, seen}
use Rattle.vsw_walk.specs.Walk.{placed}

placed_last : (n k : ℕ) (ls : List LayerSeen) (l : LayerSeen) → k ≡ n + length ls → placed n (ls ++ l ∷ []) ≡ placed n ls ++ (k, l) ∷ []
placed_last n k [] l e = ap (λ m. (m, l) ∷ []) (omega (arith, e))
placed_last n k (m ∷ ls) l e = ap (λ ms. (n, m) ∷ ms) (placed_last (suc n) k ls l (omega (arith, e)))

-- of layers that are crossed in reverse, the last is the first to be met
pub last_first : (ls : List Layer) (l : Layer) → reverse (placed 0 (map seen (ls ++ l ∷ []))) ≡ (length ls, seen l) ∷ reverse (placed 0 (map seen ls))
last_first ls l =
    ap (λ ms. reverse (placed 0 ms)) (map-append seen ls (l ∷ []))
    ∙ ap reverse (placed_last 0 (length ls) (map seen ls) (seen l) (omega (arith, length-map ls seen)))
    ∙ reverse-append (placed 0 (map seen ls)) ((length ls, seen l) ∷ [])
