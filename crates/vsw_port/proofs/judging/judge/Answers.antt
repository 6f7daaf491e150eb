use Rattle.std.proofs.Common.{◌∙◌}
use Rattle.vsw_port.proofs.Walks.{walk_there}
use Rattle.vsw_port.proofs.judging.judge.Goals as goal

pub judge_all-requires : goal.judge_all-requires
judge_all-requires c = rw (c.layers.ensures.layers, c.changes.ensures ∙ c.requires.walk.changes) (walk_there c.args.policy.now.layers c.args.crossing.now)
