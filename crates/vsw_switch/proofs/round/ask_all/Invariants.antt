use Rattle.std.proofs.Common.{List, take}
use Rattle.vsw_commandfile.specs.declared.line.Line.{Line}
use Rattle.vsw_switch.specs.Switch.{AreServed}
use Rattle.vsw_switch.proofs.Asking.{AsksOf}
use Rattle.vsw_switch.proofs.round.ask_all.Given as goal

abbrev pub invariant-loop-place : goal.invariant-loop-place
invariant-loop-place l = record {
  so_far : AsksOf l.during l.schedule l.fn.switch (take l.place-index l.places) l.switch;
  served : (lines : List Line) → AreServed l.fn.switch lines → AreServed l.switch lines;
}
