use Rattle.vsw_offload.proofs.heads.add.Goals as goal

pub returns : goal.returns
returns c = λ rows stacks one made are. c.put_near.ensures rows stacks (λ first. (c.args.words.now, one, c.in-Some-head_of.ensures stacks made)) (c.in_ok-make_slots.ensures rows stacks are)
