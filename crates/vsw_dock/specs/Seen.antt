-- What contracts see of docks and of stations.
use Rattle.std.specs.Prelude.{ℕ, Bool, List}
use Rattle.vsw_live.specs.Ports.{PortSeen}
use Rattle.vsw_report.specs.Line.{TextLine}
use Rattle.vsw_flows.specs.Flows.{Writing}

-- a port at which actors work: its number and address in the policy, the addresses of the ports to which it hands packets on, and what threads
-- share of it
pub record DockSeen : Type 0 where
  pub number : ℕ
  pub mac : ℕ
  pub locals : List ℕ
  pub live : PortSeen

-- where a caller stands at a port: its pass, the lines of what it has done, and whether there was memory for all of them
pub record StationSeen : Type 0 where
  pub pass : Writing
  pub lines : List TextLine
  pub whole : Bool

-- a packet that is handed on: who brings it, as which of the trace's, to the port at which place, when, and its frame, in a room of so many bytes
pub record ParcelSeen : Type 0 where
  pub worker : ℕ
  pub number : ℕ
  pub port : ℕ
  pub micros : ℕ
  pub bytes : List ℕ
  pub room : ℕ
