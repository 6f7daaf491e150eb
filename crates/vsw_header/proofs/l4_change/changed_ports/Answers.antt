use Rattle.std.proofs.Common.{arith}
use Rattle.vsw_header.proofs.Longs.{words}
use Rattle.vsw_header.proofs.l4_change.changed_ports.Goals as goal

pub returns : goal.returns
returns c = words c.args.total c.changed-total.result c.changed.result c.args.from_src c.args.src c.args.from_dst c.args.dst (omega arith) (omega arith) c.changed-total.ensures c.changed.ensures
