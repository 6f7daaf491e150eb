use Rattle.vsw_core.proofs.owner.Core.slow.Goals as goal

pub returns-clause-done : goal.returns-clause-done
returns-clause-done c p bytes = rw (← c.self.view_is) (c.cross.ensures.done p bytes)

pub returns-clause-rows : goal.returns-clause-rows
returns-clause-rows c = rw (← c.self.view_is) c.cross.ensures.rows
