-- When a change of a layer's pairs shakes what was looked for there.
use Rattle.std.specs.Prelude.{◌≡◌, ℕ, ◌==◌, ◌&&◌, ◌||◌, List, [], ◌∷◌, Bool, false, not, Option, Some, None, is_some, option_map}
use Rattle.std.specs.List.{slice_get}
use Rattle.vsw_base.specs.declared.flow.Track.{Track}
use Rattle.vsw_walk.specs.declared.scratch.Looked.{Looked}
use Rattle.vsw_walk.specs.declared.scratch.Wanted.{Wanted}
use Rattle.vsw_walk.specs.declared.scratch.Wanted.TheVariants.{Make, Touch, Leave}
use Rattle.vsw_policy.specs.declared.layer.LayerSpec.{LayerSpec}
use Rattle.vsw_policy.specs.Layer.{LayerSeen}
use Rattle.vsw_layerflow.specs.declared.pair.Pair.{Pair}
use Rattle.vsw_layerflow.specs.Life.{life}
use Rattle.vsw_layerflow.specs.Pairs.{holds, number_of, pair_of, probe}

-- the pair that a look finds in its layer
abbrev pub found_in : Option LayerSeen → Looked → Option Pair
found_in None q = None
found_in (Some l) q = pair_of q.dir q.key l.pairs

-- a look is right where it tells the pair that is found in its layer, or that there is none
abbrev pub IsRight : List LayerSeen → Looked → Type 0
IsRight ls q = q.found ≡ option_map number_of (found_in (slice_get ls q.layer) q)

-- the look found the pair of this number
abbrev pub is_found : ℕ → Option ℕ → Bool
is_found number None = false
is_found number (Some found) = number == found

-- a pair gets another last use, or a state with another life: a later packet would be due at another moment
abbrev pub moves : LayerSpec → Track → ℕ → Pair → Bool
moves s state last p = not (last == p.last_use) || not (life state s.idle s.linger == life p.state s.idle s.linger)

abbrev pub moves_found : LayerSpec → Track → ℕ → Option Pair → Bool
moves_found s state last None = false
moves_found s state last (Some p) = moves s state last p

-- the same of the pair that a look finds
abbrev pub moves_in : Option LayerSeen → Track → ℕ → Looked → Bool
moves_in None state last q = false
moves_in (Some l) state last q = moves_found l.spec state last (pair_of q.dir q.key l.pairs)

-- a change of a layer shakes a look in it in three cases: a pair is made that holds what was missed, the pair that was found gets another
-- last use or life, or it leaves. Another state of one life shakes nothing
abbrev pub shakes : List LayerSeen → Wanted → Looked → Bool
shakes ls (Make place p) q = (place == q.layer) && (not (is_some q.found) && holds (probe q.dir q.key) p)
shakes ls (Touch place number state last) q = (place == q.layer) && (is_found number q.found && moves_in (slice_get ls place) state last q)
shakes ls (Leave place number) q = (place == q.layer) && is_found number q.found

-- a change shakes one of the looks
abbrev pub shakes_one : List LayerSeen → Wanted → List Looked → Bool
shakes_one ls w [] = false
shakes_one ls w (q ∷ qs) = shakes ls w q || shakes_one ls w qs

-- one of the changes shakes one of the looks. The layers are those before all of the changes
abbrev pub shake : List LayerSeen → List Wanted → List Looked → Bool
shake ls [] qs = false
shake ls (w ∷ ws) qs = shakes_one ls w qs || shake ls ws qs
