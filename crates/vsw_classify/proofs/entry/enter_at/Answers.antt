use Rattle.std.proofs.Common.{ap, ◌∙◌, option_copied}
use Rattle.vsw_classify.proofs.Gathered.{on_ok, steps}
use Rattle.vsw_classify.proofs.entry.enter_at.Goals as goal

pub returns-in-Some : goal.returns-in-Some
returns-in-Some c = on_ok c.enter.result c.enter.ensures (λ s rules keys e. steps c.chosen.result rules keys c.args.rank c.in-Some.rule.now c.args.listed.now.items c.args.entries.now.items c.enter.new.listed.items c.enter.new.entries.items (e ∙ ap option_copied c.in-Some.is) c.chosen.ensures.within c.chosen.ensures.may s)
