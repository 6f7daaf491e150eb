use Rattle.std.proofs.Common.{◌≡◌, ◌<◌, ℕ}
use Rattle.vsw_table.specs.Rules.{stamp_at}
use Rattle.vsw_flows.specs.Flows.{Any, Falls}
use Rattle.vsw_flows.proofs.falling.fall_all.Given as goal

abbrev pub invariant-loop-row : goal.invariant-loop-row
invariant-loop-row l = Falls Any l.initial.writer l.writer × ((place : ℕ) → place < l.row → stamp_at l.writer.view.stamps place ≡ 0)
