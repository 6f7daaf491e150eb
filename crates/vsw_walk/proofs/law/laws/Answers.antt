use Rattle.vsw_walk.proofs.Held.{passes_freely, unseen}
use Rattle.vsw_walk.proofs.law.laws.Goals as goal

pub returns-clause-free : goal.returns-clause-free
returns-clause-free c = passes_freely

pub returns-clause-unseen : goal.returns-clause-unseen
returns-clause-unseen c = unseen
