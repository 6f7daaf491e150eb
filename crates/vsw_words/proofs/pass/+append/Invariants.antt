use Rattle.std.proofs.Common.{length}
use Rattle.vsw_words.proofs.pass.+append.Given as goal

abbrev pub decreases-append : goal.decreases-append
decreases-append l = length l.headers.now
