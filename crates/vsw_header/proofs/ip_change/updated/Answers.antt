use Rattle.std.proofs.Common.{◌∙◌, arith}
use Rattle.vsw_header.proofs.Longs.{addresses_updated}
use Rattle.vsw_header.proofs.ip_change.updated.Goals as goal

pub returns : goal.returns
returns c = c.complement.ensures ∙ addresses_updated c.args.old c.from.result c.changed_long-total.result c.changed_long.result c.args.from_src c.args.from_dst c.args.src c.args.dst _ _ (omega (arith, c.from.ensures)) c.number.ensures c.number-2.ensures c.changed_long-total.ensures c.changed_long.ensures
