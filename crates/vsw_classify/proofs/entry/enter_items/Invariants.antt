use Rattle.std.proofs.Common.{◌≡◌, ◌++◌, take, map}
use Rattle.vsw_classify.specs.Private.Entry.{entry_of}
use Rattle.vsw_classify.proofs.entry.enter_items.Given as goal

abbrev pub invariant-loop-item : goal.invariant-loop-item
invariant-loop-item l = l.entries.items ≡ l.fn.entries.items ++ map (entry_of l.rank l.field) (take l.item-index l.items)
