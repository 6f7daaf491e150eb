use Rattle.std.proofs.Common.{◌≡◌, map}
use Rattle.vsw_policy.specs.Layer.{seen}
use Rattle.vsw_policy.specs.Obey.{put_parts}
use Rattle.vsw_policy.specs.Private.Parts.{part_of}
use Rattle.vsw_policy.proofs.parts.put_many.Given as goal

abbrev pub invariant-loop-part : goal.invariant-loop-part
invariant-loop-part l = put_parts l.controller (map part_of l.part-iterator.rest.items) (map seen l.layers.items) ≡ put_parts l.controller l.fn.parts (map seen l.fn.layers.items)
