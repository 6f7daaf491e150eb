use Rattle.std.proofs.Common.{◌≡◌, map, take}
use Rattle.vsw_policy.specs.Layers.{place_of}
use Rattle.vsw_crew.proofs.ports.places_of.Given as goal

abbrev pub invariant-loop-number : goal.invariant-loop-number
invariant-loop-number l = l.places.items ≡ map (λ n. place_of n l.controllers) (take l.number-index l.listed)
