use Rattle.std.proofs.Common.{sym}
use Rattle.vsw_check.proofs.Cuts.{cut_some, cut_none}
use Rattle.vsw_check.proofs.parts.cut.Goals as goal

pub returns-in-Some : goal.returns-in-Some
returns-in-Some c = cut_some c.args.separator c.args.bytes.now c.in-Some.end (sym c.in-Some.ensures)

pub returns-in-None : goal.returns-in-None
returns-in-None c = cut_none c.args.separator c.args.bytes.now (sym c.in-None.ensures)
