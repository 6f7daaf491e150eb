use Rattle.std.proofs.Common.{◌≡◌, sym, ◌∙◌, ap, subst, arith, Some, false, true}
use Rattle.std.proofs.lemmas.Grind.{common_steps}
use Rattle.vsw_transpose.specs.Form.{is_form}
use Rattle.vsw_words.proofs.Passes.{acts_are, acts_read}
use Rattle.vsw_words.proofs.reading.read_pass.Goals as goal

pub returns-then-not-are_acts-clause-back : goal.returns-then-not-are_acts-clause-back
returns-then-not-are_acts-clause-back c xs read form few =
    let whole = acts_read c.args.count c.args.words.now xs read form few in
    let never : false ≡ true = sym c.if-not-are_acts.true ∙ c.are_acts.ensures ∙ whole.0 in
    absurd (grind (arith, common_steps, never))

pub rewrite-requires-clause-form : goal.rewrite-requires-clause-form
rewrite-requires-clause-form c = (acts_are c.args.count c.args.words.now (omega (arith, c.if-count-gt18.false)) (sym c.are_acts.ensures ∙ c.if-not-are_acts.false)).2

pub returns-clause-told : goal.returns-clause-told
returns-clause-told c done = (acts_are c.args.count c.args.words.now (omega (arith, c.if-count-gt18.false)) (sym c.are_acts.ensures ∙ c.if-not-are_acts.false)).1 ∙ ap Some (sym c.rewrite.ensures)

pub returns-clause-form : goal.returns-clause-form
returns-clause-form c done = subst (λ xs. is_form xs ≡ true) (sym c.rewrite.ensures) (acts_are c.args.count c.args.words.now (omega (arith, c.if-count-gt18.false)) (sym c.are_acts.ensures ∙ c.if-not-are_acts.false)).2
