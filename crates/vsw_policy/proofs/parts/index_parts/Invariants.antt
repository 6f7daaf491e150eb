use Rattle.std.proofs.Common.{◌≡◌, take, map}
use Rattle.vsw_policy.specs.Private.Parts.{part_of}
use Rattle.vsw_policy.proofs.parts.index_parts.Given as goal

abbrev pub invariant-loop-part : goal.invariant-loop-part
invariant-loop-part l = map part_of l.indexed.items ≡ take l.part-index l.parts
