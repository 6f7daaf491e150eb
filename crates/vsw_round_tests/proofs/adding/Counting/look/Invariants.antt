use Rattle.std.proofs.Common.{◌≡◌}
use Rattle.vsw_round_tests.proofs.adding.Counting.look.Given as goal

abbrev pub invariant-loop-sum : goal.invariant-loop-sum
invariant-loop-sum l = l.self.rounds ≡ l.fn.self.rounds
