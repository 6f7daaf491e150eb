use Rattle.std.proofs.Common.{◌≡◌, drop}
use Rattle.vsw_report.specs.Order.{have_lines}
use Rattle.vsw_report.proofs.merging.have_lines.Given as goal

abbrev pub invariant-loop-caller : goal.invariant-loop-caller
invariant-loop-caller l = have_lines (drop l.caller-index l.callers) ≡ have_lines l.callers
