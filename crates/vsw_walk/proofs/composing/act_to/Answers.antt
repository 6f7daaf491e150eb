use Rattle.std.proofs.Common.{◌≡◌, ◌∙◌, ℕ, sym, ap, ◌⊎◌, inl, inr}
use Rattle.std.specs.Prelude.{List}
use Rattle.vsw_base.specs.declared.header.Header.{Header}
use Rattle.vsw_base.specs.Shape.{encaps, is_stack}
use Rattle.vsw_rule.specs.Edit.{edited, kept_after}
use Rattle.vsw_rule.specs.declared.rule.Action.{Action}
use Rattle.vsw_rule.specs.declared.rule.Action.TheVariants.{Allow, Drop}
use Rattle.vsw_transpose.specs.Fits.{kept}
use Rattle.vsw_transpose.proofs.None.{none_kept}
use Rattle.vsw_walk.proofs.composing.act_to.Goals as goal

all_kept : (a : Action) (hs : List Header) (n : ℕ) → (a ≡ Allow) ⊎ (a ≡ Drop) → kept_after a hs n ≡ n
all_kept a hs n e = elim e [ inl f ↦ ap (λ (b : Action). kept_after b hs n) f | inr f ↦ ap (λ (b : Action). kept_after b hs n) f ]

pub returns-in-Edit-clause-edit : goal.returns-in-Edit-clause-edit
returns-in-Edit-clause-edit c = c.edit_to.ensures.does ∙ sym (ap (λ (a : Action). edited a c.args.stack.now) c.in-Edit.is)

pub returns-in-Allow-clause-kept : goal.returns-in-Allow-clause-kept
returns-in-Allow-clause-kept c =
    let shape = ap is_stack (sym c.headers.ensures.all) ∙ c.headers.ensures.shape in
    ap kept c.set_none.ensures ∙ none_kept c.args.stack.now shape ∙ sym (all_kept c.args.action.now c.args.stack.now (encaps c.args.stack.now) c.in-Allow.is)
