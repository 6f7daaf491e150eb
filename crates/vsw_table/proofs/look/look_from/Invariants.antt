use Rattle.std.proofs.Common.{◌≡◌, ◌+◌, ◌%◌, ◌<◌, ℕ, []}
use Rattle.vsw_table.specs.Held.{IsRead, Missed}
use Rattle.vsw_table.proofs.look.look_from.Given as goal

abbrev pub invariant-loop-i : goal.invariant-loop-i
invariant-loop-i g l = (l.seat.table_id ≡ l.initial.seat.table_id) × IsRead l.initial.seat.me.0 l.seat.me.0 × (l.seat.me.1 ≡ []) × ((j : ℕ) → j < l.i → Missed l.key ((l.slot + j) % l.rows) l.seat.me.0.tried)
