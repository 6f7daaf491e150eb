use Rattle.vsw_offload.proofs.heads.put_near.Goals as goal

pub returns : goal.returns
returns c = λ rows stacks of are. c.put-3.ensures rows stacks of (c.put-2.ensures rows stacks of (c.put.ensures rows stacks of are))
