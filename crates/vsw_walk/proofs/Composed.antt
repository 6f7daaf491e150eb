-- The actions of a walk as one transposition.
use Rattle.std.proofs.Common.{◌≡◌, ◌∙◌, List, [], ◌∷◌, ◌++◌, length, arith, true, refl, sym, ap, subst}
use Rattle.vsw_base.specs.declared.header.Header.{Header}
use Rattle.vsw_base.specs.Shape.{encaps, is_stack}
use Rattle.vsw_rule.specs.Edit.{edited, kept_after}
use Rattle.vsw_rule.specs.declared.rule.Action.{Action}
use Rattle.vsw_rule.specs.Match.{can_do}
use Rattle.vsw_transpose.specs.declared.act.Act.{Act}
use Rattle.vsw_transpose.specs.Apply.{apply}
use Rattle.vsw_transpose.specs.Fits.{fits, kept, none}
use Rattle.vsw_transpose.proofs.None.{none_does, none_fits, none_kept}
use Rattle.vsw_walk.specs.Made.{CanMake, Does, made_by}
use Rattle.vsw_walk.proofs.Made.{can_before, left_last, made_last}

pub no_actions : (actions : List Action) → length actions ≡ 0 → actions ≡ []
no_actions [] e = refl
no_actions (a ∷ es) e = absurd (omega (arith, e))

-- no action
pub none_made : (actions : List Action) (first : List Header) (xs : List Act) → actions ≡ [] → is_stack first ≡ true → xs ≡ none first → Does actions first xs
none_made actions first xs e s d =
    let P : List Action → Type 0 = λ es. Does es first xs in
    let Q : List Act → Type 0 = λ ys. Does [] first ys in
    subst P (sym e) (subst Q (sym d) (record { fits = none_fits first s; made = none_does first; left = none_kept first s }))

-- the last action can be done to what the others make
pub last_can : (actions es : List Action) (a : Action) (first : List Header) (xs : List Act) → actions ≡ es ++ a ∷ [] → CanMake actions first → Does es first xs → can_do a (apply xs first) ≡ true
last_can actions es a first xs e c d = ap (can_do a) d.made ∙ (can_before a es first (subst (λ (fs : List Action). CanMake fs first) e c)).1

pub before_can : (actions es : List Action) (a : Action) (first : List Header) → actions ≡ es ++ a ∷ [] → CanMake actions first → CanMake es first
before_can actions es a first e c = (can_before a es first (subst (λ (fs : List Action). CanMake fs first) e c)).0

pub last_made : (actions es : List Action) (a : Action) (first : List Header) (xs both : List Act) → actions ≡ es ++ a ∷ [] → Does es first xs → fits both first ≡ true
    → apply both first ≡ edited a (apply xs first) → kept both ≡ kept_after a (apply xs first) (kept xs) → Does actions first both
last_made actions es a first xs both e d fit made left =
    let P : List Action → Type 0 = λ fs. Does fs first both in
    subst P (sym e) (record {
      fits = fit;
      made = made ∙ ap (edited a) d.made ∙ sym (made_last a es first);
      left = left ∙ ap (λ (hs : List Header). kept_after a hs (kept xs)) d.made ∙ ap (kept_after a (made_by es first)) d.left ∙ sym (left_last a es first (encaps first));
    })
