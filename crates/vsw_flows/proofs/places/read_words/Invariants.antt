use Rattle.std.proofs.Common.{◌≡◌, ◌<◌, length, take}
use Rattle.vsw_table.specs.Rules.{row_at}
use Rattle.vsw_flows.proofs.places.read_words.Given as goal

abbrev pub invariant-loop-place : goal.invariant-loop-place
invariant-loop-place l = (l.writer ≡ l.initial.writer) × (length l.out ≡ length l.initial.out) × (take l.place l.out ≡ take l.place (row_at l.initial.writer.view.rows l.row)) × (0 < l.place → length (row_at l.initial.writer.view.rows l.row) ≡ 73)
