use Rattle.std.proofs.Common.{◌≡◌, ◌≤◌, ℕ, List, [], length}
use Rattle.vsw_offload.specs.Private.Reading.{HasRows, port_of}
use Rattle.vsw_offload.specs.declared.port_rows.PortRows.{PortRows}
use Rattle.vsw_offload.proofs.reading.read_rows.Given as goal

abbrev pub invariant-loop-row : goal.invariant-loop-row
invariant-loop-row l = record {
  within : l.at ≤ length l.bytes;
  many : length l.rows ≡ l.row;
  has : (ports : ℕ) (ps : List PortRows) (port mac entries : ℕ) → HasRows l.bytes l.first ports ps (port_of port mac entries []) l.count → HasRows l.bytes l.at ports ps (port_of port mac entries l.rows) l.count;
}
