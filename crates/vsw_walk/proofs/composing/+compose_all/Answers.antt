use Rattle.std.proofs.Common.{◌∙◌, rules, sym, ap}
use Rattle.vsw_base.specs.Shape.{is_stack}
use Rattle.vsw_walk.proofs.Composed.{before_can, last_can, last_made, no_actions, none_made}
use Rattle.vsw_walk.proofs.composing.+compose_all.Goals as goal

pub compose_all-requires : goal.compose_all-requires
compose_all-requires t c = (search rules, before_can _ _ _ _ c.in-Some.ensures.cases.0 c.requires.can)

pub compose_last-requires-clause-can : goal.compose_last-requires-clause-can
compose_last-requires-clause-can t c = last_can _ _ _ _ _ c.in-Some.ensures.cases.0 c.requires.can c.compose_all.ensures

pub returns : goal.returns
returns t c = last_made _ _ _ _ _ _ c.in-Some.ensures.cases.0 c.compose_all.ensures c.compose_last.ensures.fits c.compose_last.ensures.made c.compose_last.ensures.left

pub returns-in_default : goal.returns-in_default
returns-in_default t c =
    let shape = ap is_stack (sym c.headers.ensures.all) ∙ c.headers.ensures.shape in
    none_made c.args.actions.now c.args.first.now _ (no_actions c.args.actions.now c.in_default.ensures.cases) shape c.set_none.ensures
