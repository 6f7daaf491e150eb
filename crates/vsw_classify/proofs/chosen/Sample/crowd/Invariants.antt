use Rattle.std.proofs.Common.{◌≤◌}
use Rattle.vsw_classify.proofs.chosen.Sample.crowd.Given as goal

abbrev pub invariant-loop-turn : goal.invariant-loop-turn
invariant-loop-turn l = l.count ≤ l.turn
