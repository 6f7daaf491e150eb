use Rattle.std.proofs.Common.{◌≡◌, ◌≤◌, ◌+◌, length, drop, map}
use Rattle.std.specs.Prelude.{filter}
use Rattle.vsw_policy.specs.Layer.{seen}
use Rattle.vsw_policy.specs.Layers.{is_of}
use Rattle.vsw_policy.proofs.places.count_layers.Given as goal

abbrev pub invariant-loop-left : goal.invariant-loop-left
invariant-loop-left l = record {
  count : l.count ≡ length (filter (is_of l.controller) (map seen (drop l.left l.layers)));
  within : l.left ≤ length l.layers;
  bound : l.count + l.left ≤ length l.layers;
}

abbrev pub decreases-loop-left : goal.decreases-loop-left
decreases-loop-left l = l.left
