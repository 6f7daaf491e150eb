use Rattle.std.proofs.Common.{◌≡◌, ◌++◌, drop, length, map, take}
use Rattle.vsw_crew.specs.Texts.{caller_at}
use Rattle.vsw_crew.specs.Private.Port.{all_gone}
use Rattle.vsw_crew.proofs.port.take_team.Given as goal

abbrev pub invariant-loop-k : goal.invariant-loop-k
invariant-loop-k l = record {
  same : length l.team ≡ length l.rows;
  team : take l.k l.team ++ map (caller_at l.place) (drop l.k l.rows) ≡ map (caller_at l.place) l.fn.rows;
  rows : all_gone l.place l.rows ≡ all_gone l.place l.fn.rows;
}
