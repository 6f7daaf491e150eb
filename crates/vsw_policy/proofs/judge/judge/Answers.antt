use Rattle.vsw_policy.proofs.judge.judge.Goals as goal

pub returns-in-AddGroup : goal.returns-in-AddGroup
returns-in-AddGroup c = rw c.in-AddGroup.is (c.judge_add_group.ensures c.in-AddGroup.dir c.in-AddGroup.when)
