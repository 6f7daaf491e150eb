use Rattle.vsw_stamps.proofs.machine.Machine.reserve.Goals as goal

pub invariant_of-self : goal.invariant_of-self
invariant_of-self g c o = rw c.reserve.ensures.state (c.self.invariant o)
