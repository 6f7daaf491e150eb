use Rattle.std.proofs.Common.{subst}
use Rattle.vsw_port.specs.Calls.{Carried}
use Rattle.vsw_port.specs.Next.{IsDone}
use Rattle.vsw_rows.specs.GoodRows.{opening_of}
use Rattle.vsw_answer.proofs.Answered.{answered_done}
use Rattle.vsw_sole.proofs.caller.by_rows.Goals as goal

pub returns-in-Ok-clause-done : goal.returns-in-Ok-clause-done
returns-in-Ok-clause-done c =
    answered_done c.args.lookup.now c.args.crossing.now c.catch_up.new.caller.pass.view.front c.args.core.now.writer.view.history c.by_row.new.desk c.in-Ok.outcome c.catch_up.ensures.front c.in-Ok.ensures.answered.0

pub returns-in-Err-clause-done : goal.returns-in-Err-clause-done
returns-in-Err-clause-done c =
    λ p bytes. subst (λ h. IsDone (opening_of c.args.lookup.now.1) h (Carried c.args.crossing.now p c.by_layers.result.fate bytes) c.by_layers.result.entry) c.catch_up.ensures.history (c.by_layers.ensures.done p bytes)
