use Rattle.std.proofs.Common.{◌≡◌, take}
use Rattle.std.specs.List.{filter_map}
use Rattle.vsw_classify.specs.Private.Entry.{prefix_in}
use Rattle.vsw_classify.proofs.field_index.prefixes_of.Given as goal

abbrev pub invariant-loop-entry : goal.invariant-loop-entry
invariant-loop-entry l = l.prefixes.items ≡ filter_map (prefix_in l.field) (take l.entry-index l.entries)
