use Rattle.vsw_port.proofs.owner.Core.slow.Goals as goal

-- what the ledger tells
pub returns-clause-done : goal.returns-clause-done
returns-clause-done c = λ p bytes. rw (← c.self.view_is) (c.settle.ensures.done p bytes)
