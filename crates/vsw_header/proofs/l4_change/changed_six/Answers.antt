use Rattle.vsw_header.proofs.Longs.{six_changed}
use Rattle.vsw_header.proofs.l4_change.changed_six.Goals as goal

pub returns : goal.returns
returns c = six_changed _ _ _ _ _ c.number-from.result c.number-to.result c.args.from c.args.to c.number-from.ensures c.number-to.ensures c.changed_long-first.ensures c.changed_long-second.ensures c.changed_long-third.ensures c.changed_long.ensures
