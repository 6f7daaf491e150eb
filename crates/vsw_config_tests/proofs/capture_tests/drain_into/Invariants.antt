use Rattle.std.proofs.Common.{◌≡◌, length}
use Rattle.vsw_config_tests.proofs.capture_tests.drain_into.Given as goal

abbrev pub invariant-loop-other : goal.invariant-loop-other
invariant-loop-other l = l.reader.finished ≡ l.fn.reader.finished

abbrev pub decreases-loop-other : goal.decreases-loop-other
decreases-loop-other l = length l.reader.left
