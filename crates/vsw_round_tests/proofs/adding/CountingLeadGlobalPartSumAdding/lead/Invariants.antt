use Rattle.std.proofs.Common.{◌≡◌}
use Rattle.vsw_round_tests.proofs.adding.CountingLeadGlobalPartSumAdding.lead.Given as goal

abbrev pub invariant-loop-round : goal.invariant-loop-round
invariant-loop-round g l = l.self.rounds ≡ l.fn.self.rounds
