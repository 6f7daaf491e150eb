use Rattle.std.proofs.Common.{◌≡◌, take, []}
use Rattle.vsw_table.specs.Steps.{worded}
use Rattle.vsw_table.proofs.look.has_words.Given as goal

abbrev pub invariant-loop-i : goal.invariant-loop-i
invariant-loop-i g l = (l.seat.table_id ≡ l.initial.seat.table_id) × (l.seat.me ≡ (worded l.initial.seat.me.0 (take l.i l.wanted), []))
