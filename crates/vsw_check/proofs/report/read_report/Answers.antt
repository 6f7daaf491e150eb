use Rattle.std.proofs.Common.{sym}
use Rattle.vsw_check.proofs.Builds.{all_read, no_head, no_line}
use Rattle.vsw_check.proofs.report.read_report.Goals as goal

pub returns-in_default : goal.returns-in_default
returns-in_default c = no_line c.args.bytes.now c.in_default.ensures

pub returns-then-is_head : goal.returns-then-is_head
returns-then-is_head c = all_read c.args.bytes.now c.in-Some.head.now c.in-Some.rest.now c.behind_head.result c.in-Some.ensures (sym c.if-is_head.ensures) c.behind_head.ensures

pub returns-else-is_head : goal.returns-else-is_head
returns-else-is_head c = no_head c.args.bytes.now c.in-Some.head.now c.in-Some.rest.now c.in-Some.ensures (sym c.if-is_head.ensures)
