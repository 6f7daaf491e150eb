use Rattle.std.proofs.Common.{◌∙◌, ap, sym}
use Rattle.vsw_base.specs.Shape.{is_stack}
use Rattle.vsw_port.specs.declared.crossing.Outcome.{Outcome}
use Rattle.vsw_answer.proofs.Sizes.{kept_is, leaves_own, not_edited, passes_with, too_long}
use Rattle.vsw_answer.proofs.outcome.pass.Goals as goal

pub edit-requires-clause-same : goal.edit-requires-clause-same
edit-requires-clause-same c by u is f e =
    (c.doing_of-doing.ensures.moves by u c.args.crossing.now.id.stack is (ap is_stack (sym c.headers.ensures.all) ∙ c.headers.ensures.shape) f).same e

pub returns-in-None-clause-fate : goal.returns-in-None-clause-fate
returns-in-None-clause-fate c by u is f =
    let m = c.doing_of-doing.ensures.moves by u c.args.crossing.now.id.stack is (ap is_stack (sym c.headers.ensures.all) ∙ c.headers.ensures.shape) f in
    ap (λ (o : Outcome). o.fate) c.dropped.ensures ∙ too_long c.args.crossing.now by c.doing_of-doing.result c.size_with.result m c.size_with.ensures c.in-None.is

pub returns-in-Some-clause-fate : goal.returns-in-Some-clause-fate
returns-in-Some-clause-fate c by u is f =
    let m = c.doing_of-doing.ensures.moves by u c.args.crossing.now.id.stack is (ap is_stack (sym c.headers.ensures.all) ∙ c.headers.ensures.shape) f in
    passes_with c.args.crossing.now by c.doing_of-doing.result c.size_with.result c.in-Some.len m c.size_with.ensures c.in-Some.is

pub returns-in-Some-clause-edited : goal.returns-in-Some-clause-edited
returns-in-Some-clause-edited c by u is f =
    let m = c.doing_of-doing.ensures.moves by u c.args.crossing.now.id.stack is (ap is_stack (sym c.headers.ensures.all) ∙ c.headers.ensures.shape) f in
    record { stack = c.edit.ensures by u is f; kept_is = kept_is c.args.crossing.now by c.doing_of-doing.result c.encaps.result c.saturating_sub.result m c.encaps.ensures.count c.saturating_sub.ensures }

pub returns-in-Some-clause-own : goal.returns-in-Some-clause-own
returns-in-Some-clause-own c = λ e.
    let by = c.requires.body.0 in
    let m = c.doing_of-doing.ensures.moves by c.requires.body.1 c.args.crossing.now.id.stack c.requires.body.2 (ap is_stack (sym c.headers.ensures.all) ∙ c.headers.ensures.shape) c.requires.body.3 in
    leaves_own c.args.crossing.now by c.doing_of-doing.result c.edit.new.edited c.saturating_sub.result m (c.edit.ensures by c.requires.body.1 c.requires.body.2 c.requires.body.3) (kept_is c.args.crossing.now by c.doing_of-doing.result c.encaps.result c.saturating_sub.result m c.encaps.ensures.count c.saturating_sub.ensures) (not_edited c.doing_of-doing.result.edits e)
