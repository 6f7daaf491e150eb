use Rattle.std.proofs.Common.{◌≡◌, ◌≤◌, ◌+◌, drop}
use Rattle.vsw_config.specs.Layer.{count_by}
use Rattle.vsw_config.proofs.layer.count_by.Given as goal

abbrev pub invariant-loop-layer : goal.invariant-loop-layer
invariant-loop-layer l = (l.count + count_by l.controller (drop l.layer-index l.layers) ≡ count_by l.controller l.layers) × (l.count ≤ l.layer-index)
