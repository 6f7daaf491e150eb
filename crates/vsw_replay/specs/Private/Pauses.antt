-- Where a trace neither ends nor is refused.
use Rattle.std.specs.Prelude.{◌≡◌, ℕ, List, length}
use Rattle.vsw_pcap.specs.Capture.{Stops}
use Rattle.vsw_pcap.specs.declared.capture.Front.TheVariants.{Part}
use Rattle.vsw_pcap.specs.declared.capture.Record.{Record}
use Rattle.vsw_run.specs.Trace.{most_records}

-- a rest that may become a record; after as many records as there may be, none
pub record Pauses (bytes : List ℕ) (records : List Record) : Type 0 where
  pub at : ℕ
  pub stops : Stops bytes records at Part
  pub last : length records ≡ most_records → at ≡ length bytes
