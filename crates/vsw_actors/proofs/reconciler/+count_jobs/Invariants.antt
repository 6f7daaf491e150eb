use Rattle.std.proofs.Common.{length}
use Rattle.vsw_actors.proofs.reconciler.+count_jobs.Given as goal

abbrev pub decreases-count_jobs : goal.decreases-count_jobs
decreases-count_jobs g l = length l.ports.now
