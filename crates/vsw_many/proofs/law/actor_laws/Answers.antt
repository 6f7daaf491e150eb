use Rattle.vsw_many.proofs.Actors.{actor_begins, actor_goes_on, actor_ends}
use Rattle.vsw_many.proofs.law.actor_laws.Goals as goal

pub returns : goal.returns
returns c = record { begins = actor_begins; goes_on = actor_goes_on; ends = actor_ends }
