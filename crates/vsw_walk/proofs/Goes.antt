-- One transposition for all that was done.
use Rattle.std.proofs.Common.{◌≡◌, ◌≤◌, ◌∙◌, List, [], ◌∷◌, true, refl, sym, ap, arith}
use Rattle.std.specs.Prelude.{min}
use Rattle.vsw_base.specs.declared.header.Header.{Header}
use Rattle.vsw_base.specs.Shape.{encaps, is_stack}
use Rattle.vsw_rule.specs.Edit.{kept_after}
use Rattle.vsw_rule.proofs.Along.{along}
use Rattle.vsw_rule.specs.declared.rule.Action.{Action}
use Rattle.vsw_rule.specs.Match.{can_do}
use Rattle.vsw_transpose.specs.declared.act.Act.{Act}
use Rattle.vsw_transpose.specs.Apply.{apply}
use Rattle.vsw_transpose.specs.Form.{is_form}
use Rattle.vsw_transpose.specs.Fits.{alike, fits, kept}
use Rattle.vsw_transpose.proofs.Kept.{fits_parts, rest_is}
use Rattle.vsw_transpose.proofs.Parts.{outer_after}

pub alike_itself : (hs : List Header) → alike hs hs
alike_itself [] = tt
alike_itself (h ∷ hs) = (refl, alike_itself hs)

-- a transposition that fits keeps no more encapsulations than it leaves
kept_below : (xs : List Act) (hs : List Header) → is_form xs ≡ true → is_stack hs ≡ true → fits xs hs ≡ true → kept xs ≤ encaps (apply xs hs)
kept_below xs hs f s t = omega (arith, rest_is xs hs f s t, outer_after xs hs f s (fits_parts xs hs t).0)

-- composed with the acts of an action, it keeps what the action leaves of what was kept
pub kept_on : (a : Action) (first hs ks : List Header) (xs ys acts both : List Act) → ks ≡ first → is_stack ks ≡ true → ys ≡ xs → is_form ys ≡ true → fits xs first ≡ true
    → hs ≡ apply xs first → can_do a (apply xs first) ≡ true → kept acts ≡ kept_after a hs (encaps hs) → kept both ≡ min (kept xs) (kept acts)
    → kept both ≡ kept_after a (apply xs first) (kept xs)
kept_on a first hs ks xs ys acts both e s d f t met can act both_is =
    let made : List Header = apply xs first in
    let below = kept_below xs first (ap is_form (sym d) ∙ f) (ap is_stack (sym e) ∙ s) t in
    both_is ∙ ap (min (kept xs)) (act ∙ ap (λ (gs : List Header). kept_after a gs (encaps gs)) met) ∙ along a made (kept xs) can below
