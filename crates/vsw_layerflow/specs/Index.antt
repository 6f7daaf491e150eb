-- How the two maps of a layer stand for its list of pairs.
use Rattle.std.specs.Prelude.{◌≡◌, ◌<◌, ◌^◌, ℕ, List, [], ◌∷◌, length, map, option_map, nat_le, if◌then◌else◌}
use Rattle.std.specs.Map.{keys_of, values_of, lookup}
use Rattle.vsw_layerflow.specs.declared.pair.Probe.{Probe}
use Rattle.vsw_layerflow.specs.declared.pair.Pair.{Pair}
use Rattle.vsw_layerflow.specs.Pairs.{same_probe, holder, number_of, AllApart, AreRising}

-- an entry, before the first whose number isn't less
abbrev pub entered : ℕ × Pair → List (ℕ × Pair) → List (ℕ × Pair)
entered e [] = e ∷ []
entered e (f ∷ fs) = if nat_le e.0 f.0 then e ∷ f ∷ fs else f ∷ entered e fs

-- the entries in the order of their numbers, whatever order the map has them in
abbrev pub in_order : List (ℕ × Pair) → List (ℕ × Pair)
in_order [] = []
in_order (e ∷ es) = entered e (in_order es)

-- pairs stand under their numbers, in the order of these, and each probe leads to the number of its holder
pub record IsIndex (pairs : List (ℕ × Pair)) (places : List (Probe × ℕ)) : Type 0 where
  pub keyed : keys_of pairs ≡ map number_of (values_of pairs)
  pub indexed : (k : Probe) → lookup (same_probe k) places ≡ option_map number_of (holder k (values_of pairs))
  pub apart : AllApart (values_of pairs)
  pub rising : AreRising (values_of pairs)
  pub few : length (values_of pairs) < 2 ^ 32
