-- The layer at a place, as a call finds it.
use Rattle.std.proofs.Common.{◌≡◌, ℕ, true, List, Some, option_map, length, map, get_or, nat_lt, ◌<◌, refl, ap, ◌∙◌, arith}
use Rattle.std.specs.List.{slice_get}
use Rattle.std.proofs.lemmas.Option.{slice_get-map, slice_get_read}
use Rattle.vsw_policy.specs.declared.layer.Layer.{Layer}
use Rattle.vsw_policy.specs.Layer.{seen}

less : (a b : ℕ) → true ≡ nat_lt a b → a < b
less a b h = grind (arith, h)

pub layer_at : (ls : List Layer) (place : ℕ) (l : Layer) → true ≡ nat_lt place (length ls) → l ≡ get_or ls place l → slice_get (map seen ls) place ≡ Some (seen l)
layer_at ls place l h e = slice_get-map seen ls place ∙ ap (option_map seen) (slice_get_read ls (length ls) place l refl (less place (length ls) h) e)
