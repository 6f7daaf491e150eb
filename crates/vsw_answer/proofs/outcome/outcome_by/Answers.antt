use Rattle.std.proofs.Common.{◌∙◌, ap, sym}
use Rattle.vsw_port.specs.declared.crossing.Outcome.{Outcome}
use Rattle.vsw_answer.proofs.Sizes.{of_pass, said_default, said_pass, said_rule}
use Rattle.vsw_answer.proofs.outcome.outcome_by.Goals as goal

pub pass-requires : goal.pass-requires
pass-requires c =
    let b = c.requires.body.0 in
    let k = of_pass c.args.crossing.now c.args.words.now b (sym c.in-Pass.is ∙ c.verdict_in.ensures b.verdict b.by b.until c.requires.body.1.0) c.requires.body.1 in
    record { body = (b.by, b.until, k.0, k.1) }

pub returns-in-Pass-clause-fate : goal.returns-in-Pass-clause-fate
returns-in-Pass-clause-fate c b is =
    let v = sym c.in-Pass.is ∙ c.verdict_in.ensures b.verdict b.by b.until is.0 in
    let k = of_pass c.args.crossing.now c.args.words.now b v is in
    said_pass c.args.crossing.now b c.pass.result.fate v (c.pass.ensures.fate b.by b.until k.0 k.1)

pub returns-in-Pass-clause-edited : goal.returns-in-Pass-clause-edited
returns-in-Pass-clause-edited c b is =
    let v = sym c.in-Pass.is ∙ c.verdict_in.ensures b.verdict b.by b.until is.0 in
    let k = of_pass c.args.crossing.now c.args.words.now b v is in
    c.pass.ensures.edited b.by b.until k.0 k.1

pub returns-in-Rule-clause-fate : goal.returns-in-Rule-clause-fate
returns-in-Rule-clause-fate c b is = ap (λ (o : Outcome). o.fate) c.dropped.ensures ∙ said_rule c.args.crossing.now b c.in-Rule.controller c.in-Rule.layer c.in-Rule.group c.in-Rule.rule (sym c.in-Rule.is ∙ c.verdict_in.ensures b.verdict b.by b.until is.0)

pub returns-in-Default-clause-fate : goal.returns-in-Default-clause-fate
returns-in-Default-clause-fate c b is = ap (λ (o : Outcome). o.fate) c.dropped-in-Default.ensures ∙ said_default c.args.crossing.now b c.in-Default.controller c.in-Default.layer c.in-Default.dir (sym c.in-Default.is ∙ c.verdict_in.ensures b.verdict b.by b.until is.0)
