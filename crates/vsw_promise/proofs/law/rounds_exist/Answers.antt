use Rattle.vsw_promise.proofs.Exists.{always_rounds}
use Rattle.vsw_promise.proofs.law.rounds_exist.Goals as goal

pub returns : goal.returns
returns c = record { always = always_rounds }
