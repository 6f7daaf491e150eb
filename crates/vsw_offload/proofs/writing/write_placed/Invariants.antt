use Rattle.std.proofs.Common.{◌≡◌, ◌++◌, take}
use Rattle.vsw_offload.specs.Private.Writing.{placed}
use Rattle.vsw_offload.specs.Rows.{all_rows_bytes}
use Rattle.vsw_offload.proofs.writing.write_placed.Given as goal

abbrev pub invariant-loop-index : goal.invariant-loop-index
invariant-loop-index l = record { items : l.out.items ≡ l.fn.out.items ++ all_rows_bytes (placed l.rows (take l.index l.places)) }
