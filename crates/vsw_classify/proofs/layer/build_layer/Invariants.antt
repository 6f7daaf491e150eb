use Rattle.std.proofs.Common.{◌≡◌, take, map}
use Rattle.vsw_classify.specs.Place.{rules_of}
use Rattle.vsw_classify.proofs.layer.build_layer.Given as goal

abbrev pub invariant-loop-group : goal.invariant-loop-group
invariant-loop-group l = l.indexes.items ≡ map rules_of (take l.group-index l.groups)
