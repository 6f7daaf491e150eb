use Rattle.std.proofs.Common.{◌≡◌, length, take}
use Rattle.vsw_run.specs.Engine.{AreEngineLines}
use Rattle.vsw_engine.proofs.line.write_lines.Given as goal

abbrev pub invariant-loop-place : goal.invariant-loop-place
invariant-loop-place l = record {
  lines : AreEngineLines l.fn.rows l.fn.first (take l.place l.fn.batch) l.desk.text;
  room : length l.desk.out.items ≡ 65700;
}
