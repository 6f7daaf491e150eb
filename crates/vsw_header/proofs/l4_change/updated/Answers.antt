use Rattle.std.proofs.Common.{◌∙◌, arith}
use Rattle.vsw_header.proofs.Longs.{ends_updated}
use Rattle.vsw_header.proofs.l4_change.updated.Goals as goal

pub returns : goal.returns
returns c = c.complement.ensures ∙ ends_updated c.args.old c.from.result c.changed_addresses-total.result c.changed_ports.result c.args.from.now c.args.to.now c.requires (omega (arith, c.from.ensures)) c.changed_addresses-total.ensures c.changed_ports.ensures
