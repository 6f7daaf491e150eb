use Rattle.std.proofs.Common.{◌≡◌, ◌∙◌, sym, ap, ◌⊎◌, inl, inr}
use Rattle.std.specs.Prelude.{List}
use Rattle.vsw_transpose.specs.declared.act.Act.{Act}
use Rattle.vsw_transpose.specs.Apply.{apply}
use Rattle.vsw_base.specs.declared.header.Header.{Header}
use Rattle.vsw_rule.specs.declared.rule.Action.{Action}
use Rattle.vsw_rule.specs.declared.rule.Action.TheVariants.{Allow, Drop}
use Rattle.vsw_rule.specs.Edit.{edited}
use Rattle.vsw_rule.proofs.Algebra.{nothing}
use Rattle.vsw_rule.proofs.edit.act_of.Goals as goal

unedited : (a : Action) (hs : List Header) → (a ≡ Allow) ⊎ (a ≡ Drop) → edited a hs ≡ hs
unedited a hs e = elim e [ inl f ↦ ap (λ (b : Action). edited b hs) f | inr f ↦ ap (λ (b : Action). edited b hs) f ]

pub returns-in-Edit-clause-edit : goal.returns-in-Edit-clause-edit
returns-in-Edit-clause-edit c = c.edit_to.ensures.does ∙ sym (ap (λ (a : Action). edited a c.args.stack.now) c.in-Edit.is)

pub returns-in-Edit-clause-alike : goal.returns-in-Edit-clause-alike
returns-in-Edit-clause-alike c hs s e = c.edit_to.ensures.does_alike hs s e ∙ sym (ap (λ (a : Action). edited a hs) c.in-Edit.is)

pub returns-in-Allow-clause-alike : goal.returns-in-Allow-clause-alike
returns-in-Allow-clause-alike c hs s e =
    ap (λ (l : List Act). apply l hs) c.none.ensures.acts ∙ nothing hs c.args.stack.now e ∙ sym (unedited c.args.action.now hs c.in-Allow.is)
