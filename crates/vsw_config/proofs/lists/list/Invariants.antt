use Rattle.std.proofs.Common.{◌≡◌, drop, map, []}
use Rattle.serde_json.specs.View.{view}
use Rattle.vsw_config.specs.List.{items_after}
use Rattle.vsw_config.proofs.lists.list.Given as goal

abbrev pub invariant-loop-value : goal.invariant-loop-value
invariant-loop-value g l = items_after (g.R.ReadItem.item_of l.reader) l.done (map view (drop l.value-index l.values)) ≡ items_after (g.R.ReadItem.item_of l.reader) [] (map view l.values)
