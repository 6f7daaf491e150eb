use Rattle.std.proofs.Common.{◌++◌, ◌||◌, ◌∙◌, ap}
use Rattle.vsw_replay.proofs.ahead.tell_owed.Goals as goal

pub returns-in-Ok-clause-tells : goal.returns-in-Ok-clause-tells
returns-in-Ok-clause-tells g c = λ text short owes. (c.in-Ok.ensures.text text short owes ∙ ap (λ w. w ++ text) c.clear.ensures, c.is_either-run.ensures ∙ ap (λ b. c.args.run.now.short || b) (c.in-Ok.ensures.short text short owes))
