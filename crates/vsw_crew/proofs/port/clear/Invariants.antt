use Rattle.std.proofs.Common.{◌≡◌, ◌++◌, drop, take}
use Rattle.vsw_crew.specs.Private.Port.{all_gone}
use Rattle.vsw_crew.proofs.port.clear.Given as goal

abbrev pub invariant-loop-k : goal.invariant-loop-k
invariant-loop-k l = take l.k l.rows ++ all_gone l.place (drop l.k l.rows) ≡ all_gone l.place l.fn.rows
