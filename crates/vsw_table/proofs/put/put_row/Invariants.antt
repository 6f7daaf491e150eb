use Rattle.std.proofs.Common.{◌≡◌, [], slice_set}
use Rattle.vsw_table.specs.Rules.{row_at}
use Rattle.vsw_table.proofs.Puts.{mixed}
use Rattle.vsw_table.proofs.put.put_row.Given as goal

abbrev pub invariant-loop-word : goal.invariant-loop-word
invariant-loop-word g l = (l.writer.table_id ≡ l.initial.writer.table_id) × (l.writer.me ≡ (record l.initial.writer.me.0 { rows = slice_set l.initial.writer.me.0.rows l.row (mixed l.word l.words (row_at l.initial.writer.me.0.rows l.row)) }, []))
