use Rattle.std.proofs.Common.{length}
use Rattle.vsw_rule.proofs.editing.+append.Given as goal

abbrev pub decreases-append : goal.decreases-append
decreases-append l = length l.headers.now
