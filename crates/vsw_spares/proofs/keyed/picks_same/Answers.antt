use Rattle.std.proofs.Common.{sym, ◌∙◌}
use Rattle.vsw_spares.proofs.Betweens.{can_differ}
use Rattle.vsw_spares.proofs.keyed.picks_same.Goals as goal

pub returns-then-none_may : goal.returns-then-none_may
returns-then-none_may c e =
    can_differ c.args.look.now c.args.group.now c.args.rules.now c.args.between.now.old.now c.args.between.now.new.now c.requires (sym c.none_may.ensures ∙ c.if-none_may.true) (sym c.none_may-then-none_may.ensures ∙ e)
