use Rattle.std.proofs.Common.{◌≡◌, length}
use Rattle.vsw_config_tests.proofs.capture_tests.drain.Given as goal

abbrev pub invariant-loop-record : goal.invariant-loop-record
invariant-loop-record l = l.reader.finished ≡ l.fn.reader.finished

abbrev pub decreases-loop-record : goal.decreases-loop-record
decreases-loop-record l = length l.reader.left
