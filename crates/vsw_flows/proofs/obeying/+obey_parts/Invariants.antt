use Rattle.std.proofs.Common.{length}
use Rattle.vsw_flows.proofs.obeying.+obey_parts.Given as goal

abbrev pub decreases-obey_parts : goal.decreases-obey_parts
decreases-obey_parts l = length l.parts.now
