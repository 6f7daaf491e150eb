use Rattle.vsw_promise.proofs.Handed.{jobs_are_aimed}
use Rattle.vsw_promise.proofs.law.jobs_alone.Goals as goal

pub returns : goal.returns
returns c = record { aimed = jobs_are_aimed }
