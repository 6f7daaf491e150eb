use Rattle.vsw_promise.proofs.Reports.{told_so, command_between, before_and_beside}
use Rattle.vsw_promise.proofs.law.samples.Goals as goal

pub returns : goal.returns
returns c = record { told = told_so; between = command_between; beside = before_and_beside }
