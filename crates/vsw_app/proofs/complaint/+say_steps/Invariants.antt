use Rattle.std.proofs.Common.{length}
use Rattle.vsw_app.proofs.complaint.+say_steps.Given as goal

abbrev pub decreases-say_steps : goal.decreases-say_steps
decreases-say_steps g l = length l.path.now
