use Rattle.vsw_core.proofs.owner.Core.cross.Goals as goal

pub returns-clause-done : goal.returns-clause-done
returns-clause-done c p bytes = rw (← c.self.view_is) (c.cross_only.ensures.done p bytes)
