-- A run as the program starts it, over files as they are read.
use Rattle.std.specs.Prelude.{◌≤◌, List, length}
use Rattle.hex.specs.Hex.{IsBytes}
use Rattle.vsw_history_law.specs.Law.{AreServed}
use Rattle.vsw_pcap.specs.declared.capture.Record.{Record}
use Rattle.vsw_policy.specs.Sound.{Each}
use Rattle.vsw_promise.specs.Jobs.{Setting}
use Rattle.vsw_report_law.specs.Fits.{FitsLine, FitsPolicy}

-- 1 to 16 workers, at most 65,536 commands, all of the policy's controllers, and at most 1,048,576 records. Numbers are in the ranges of their types,
-- and records are bytes
pub record AreGiven (s : Setting) (records : List Record) : Type 0 where
  pub served : AreServed s
  pub policy : FitsPolicy s.policy
  pub commands : Each FitsLine s.commands
  pub lines : length s.commands ≤ 65536
  pub packets : length records ≤ 1048576
  pub bytes : Each (λ r. IsBytes r.bytes) records
