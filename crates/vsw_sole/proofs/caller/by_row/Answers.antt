use Rattle.std.proofs.Common.{◌∙◌}
use Rattle.vsw_answer.proofs.Answered.{answered_at}
use Rattle.vsw_sole.proofs.caller.by_row.Goals as goal

pub returns-then-count-caller-clause-answered : goal.returns-then-count-caller-clause-answered
returns-then-count-caller-clause-answered c =
    answered_at c.args.lookup.now c.args.crossing.now c.args.caller.now.pass.view.front c.answer_by_row.new.pass.view c.answer_by_row.new.desk c.in-Read.outcome c.in-Read.count c.answer_by_row.ensures.same.0.1 (c.if-count-caller.true ∙ c.requires.told.seen) c.in-Read.ensures.tells
