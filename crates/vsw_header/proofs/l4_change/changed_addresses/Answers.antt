use Rattle.vsw_header.proofs.Longs.{sixes_changed}
use Rattle.vsw_header.proofs.l4_change.changed_addresses.Goals as goal

pub returns-in-Six-to-2 : goal.returns-in-Six-to-2
returns-in-Six-to-2 c = sixes_changed _ _ _ _ _ _ _ c.args.from.now c.args.to.now c.in-Six.is c.in-Six-to-2.is c.changed_six-total.ensures c.changed_six.ensures
