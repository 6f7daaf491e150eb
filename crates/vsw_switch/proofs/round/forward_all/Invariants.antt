use Rattle.std.proofs.Common.{List, take}
use Rattle.vsw_commandfile.specs.declared.line.Line.{Line}
use Rattle.vsw_port.specs.Order.{numbered}
use Rattle.vsw_switch.specs.Steps.{ForwardsAll}
use Rattle.vsw_switch.specs.Switch.{AreServed}
use Rattle.vsw_switch.proofs.round.forward_all.Given as goal

abbrev pub invariant-loop-place : goal.invariant-loop-place
invariant-loop-place g l = record {
  so_far : ForwardsAll l.fn.switch (numbered l.fn.first (take l.place l.packets)) l.switch;
  served : (lines : List Line) → AreServed l.fn.switch lines → AreServed l.switch lines;
}
