use Rattle.std.proofs.Common.{sym}
use Rattle.vsw_commandfile.proofs.Cuts.{first-line, only-line}
use Rattle.vsw_commandfile.proofs.lines.first_line.Goals as goal

pub returns-in-Some : goal.returns-in-Some
returns-in-Some c = first-line c.args.bytes.now c.in-Some.end c.requires (sym c.in-Some.ensures)

pub returns-in-None : goal.returns-in-None
returns-in-None c = only-line c.args.bytes.now c.requires (sym c.in-None.ensures)
