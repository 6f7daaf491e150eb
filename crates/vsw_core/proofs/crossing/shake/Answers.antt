use Rattle.std.proofs.Common.{◌∙◌, map, sym}
use Rattle.vsw_core.proofs.Entered.{shaken}
use Rattle.vsw_port.specs.Ledger.{layers_in}
use Rattle.vsw_policy.specs.Layer.{seen}
use Rattle.vsw_core.proofs.crossing.shake.Goals as goal

pub returns : goal.returns
returns c p opens same =
    let ls = layers_in c.args.ledger.now in
    let here = c.layers.ensures.layers ∙ c.policy-policy.ensures.layers in
    shaken ls c.policy-policy.result.now.layers (map seen c.layers.result.now) c.args.crossing.now c.args.walked.now c.args.scratch.now c.changes.result.now c.args.rows.now c.shake.new.self c.requires.walk (sym c.wants_change.ensures ∙ c.if-not-wants_change.false) c.policy-policy.ensures.layers (sym c.judge.ensures.exact ∙ c.in-None.is) c.changes.ensures
    (record { same = here; falls = c.shake.ensures.falls; none = c.shake.ensures.none p opens (here ∙ same); others = c.shake.ensures.others p opens (here ∙ same) })
