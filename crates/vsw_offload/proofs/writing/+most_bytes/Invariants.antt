use Rattle.std.proofs.Common.{length}
use Rattle.vsw_offload.proofs.writing.+most_bytes.Given as goal

abbrev pub decreases-most_bytes : goal.decreases-most_bytes
decreases-most_bytes l = length l.ports.now
