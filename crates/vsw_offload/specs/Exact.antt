-- A rows file is read, and no other bytes are.
use Rattle.std.specs.Prelude.{◌≡◌, ◌<◌, ◌≤◌, ◌^◌, List, length, map, true}
use Rattle.vsw_offload.specs.Bad.{IsBadRows}
use Rattle.vsw_offload.specs.Rows.{AreRows, IsRow, are_distinct, macs_of, numbers_of, ordered, rows_bytes}
use Rattle.vsw_offload.specs.declared.fault.BadRows.{BadRows}
use Rattle.vsw_offload.specs.declared.fault.BadRows.TheVariants.{Memory}
use Rattle.vsw_offload.specs.declared.port_rows.PortRows.{PortRows}
use Rattle.vsw_policy.specs.Sound.{Each}

-- nothing is at fault with a rows file: if it is refused, then for want of memory
abbrev pub FilesAreRight : Type 0
FilesAreRight = (ps : List PortRows) (why : BadRows) → AreRows ps → IsBadRows (rows_bytes ps) why → why ≡ Memory

-- a file is that of one list of ports
abbrev pub FilesTell : Type 0
FilesTell = (ps qs : List PortRows) → AreRows ps → AreRows qs → rows_bytes ps ≡ rows_bytes qs → ps ≡ qs

-- ports as a table has them: what a file needs but that keys rise
pub record IsTable (p : PortRows) : Type 0 where
  pub port : p.port < 2 ^ 32
  pub mac : p.mac < 2 ^ 48
  pub entries : p.entries < 2 ^ 32
  pub few : length p.rows ≤ 16384
  pub each : Each IsRow p.rows

pub record AreTables (ps : List PortRows) : Type 0 where
  pub few : length ps ≤ 16
  pub numbers : are_distinct (numbers_of ps) ≡ true
  pub macs : are_distinct (macs_of ps) ≡ true
  pub each : Each IsTable ps

-- what is written of them is a file: rows in the order of their keys, of each key the first
abbrev pub TablesAreFiles : Type 0
TablesAreFiles = (ps : List PortRows) → AreTables ps → AreRows (map ordered ps)
