use Rattle.std.proofs.Common.{◌≡◌, take}
use Rattle.vsw_table.specs.Rules.{row_at}
use Rattle.vsw_flows.proofs.places.has_key.Given as goal

abbrev pub invariant-loop-place : goal.invariant-loop-place
invariant-loop-place l = (l.writer ≡ l.initial.writer) × (take l.place (row_at l.initial.writer.view.rows l.row) ≡ take l.place l.key)
