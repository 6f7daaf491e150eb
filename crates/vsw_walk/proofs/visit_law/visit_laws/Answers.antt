use Rattle.vsw_walk.proofs.Dropped.{stops_drop}
use Rattle.vsw_walk.proofs.Turned.{turns_back, holds_both}
use Rattle.vsw_walk.proofs.visit_law.visit_laws.Goals as goal

pub returns-clause-back : goal.returns-clause-back
returns-clause-back c = turns_back

pub returns-clause-holds : goal.returns-clause-holds
returns-clause-holds c = holds_both

pub returns-clause-drops : goal.returns-clause-drops
returns-clause-drops c = stops_drop
