use Rattle.vsw_classify.proofs.Picked.{pick_at}
use Rattle.vsw_classify.proofs.index.GroupIndex.pick.Goals as goal

pub returns-clause-value : goal.returns-clause-value
returns-clause-value c = pick_at c.args.group.now.rules c.args.packet.now c.find.result (rw c.as_slice.ensures at c.find.ensures)
