-- The joined acts of two transpositions are a transposition that fits.
use Rattle.std.proofs.Common.{◌≡◌, ◌≤◌, List, [], ◌++◌, sym, ◌∙◌, ap, arith, true, length}
use Rattle.std.specs.Prelude.{min}
use Rattle.vsw_base.specs.declared.header.Header.{Header}
use Rattle.vsw_base.specs.Shape.{is_stack}
use Rattle.vsw_base.proofs.Stacks.{stack_short}
use Rattle.vsw_transpose.specs.declared.act.Act.{Act}
use Rattle.vsw_transpose.specs.Apply.{apply}
use Rattle.vsw_transpose.specs.Form.{is_form, pushed}
use Rattle.vsw_transpose.specs.Fits.{outer, fits, kept}
use Rattle.vsw_transpose.specs.Private.Suits.{suits}
use Rattle.vsw_transpose.proofs.Suits.{fits_is}
use Rattle.vsw_transpose.proofs.Kept.{fits_parts, form_parts, rest_is, counts}
use Rattle.vsw_transpose.proofs.Parts.{outer_after}
use Rattle.vsw_transpose.proofs.Encaps.{encaps_three}
use Rattle.vsw_rule.specs.Joined.{joined}
use Rattle.vsw_rule.proofs.Does.{joined_does}
use Rattle.vsw_rule.proofs.Suits.{joined_suits}
use Rattle.vsw_rule.proofs.Ordered.{joined_shapes}
use Rattle.vsw_rule.proofs.Whole.{joined_form}

pub record Composed (xs bs : List Act) (hs : List Header) : Type 0 where
  pub room : length (joined xs bs) ≤ 18
  pub form : is_form (joined xs bs) ≡ true
  pub fit : fits (joined xs bs) hs ≡ true
  pub kept_both : kept (joined xs bs) ≡ min (kept xs) (kept bs)

pub composed : (xs bs : List Act) (hs : List Header) → is_form xs ≡ true → is_form bs ≡ true → is_stack hs ≡ true → fits xs hs ≡ true → fits bs (apply xs hs) ≡ true → Composed xs bs hs
composed xs bs hs f g s t u =
    let a = fits_parts xs hs t in
    let b = fits_parts bs (apply xs hs) u in
    let m = outer_after xs hs f s a.0 in
    let form : is_form (joined xs bs) ≡ true = joined_form (outer hs) (outer (apply xs hs)) xs bs hs f g m a.0 b.0 (stack_short hs s) (stack_short (apply bs (apply xs hs)) b.1) in
    let suit : suits (outer hs) (joined xs bs) hs ≡ true = joined_suits xs (outer hs) (outer (apply xs hs)) bs hs (form_parts xs f).1 m a.0 b.0 in
    let law : apply (joined xs bs) hs ≡ apply bs (apply xs hs) = joined_does xs (outer hs) bs hs a.0 in
    let fit : fits (joined xs bs) hs ≡ true = fits_is (joined xs bs) hs ∙ rw (suit, law) b.1 in
    let shape = joined_shapes xs (outer hs) (outer (apply xs hs)) bs hs (form_parts xs f).1 (form_parts bs g).1 m a.0 b.0 in
    record {
      room = (form_parts (joined xs bs) form).0;
      form = form;
      fit = fit;
      kept_both = omega (arith, rest_is xs hs f s t, rest_is bs (apply xs hs) g a.1 u, rest_is (joined xs bs) hs form s fit, m, shape.1, (form_parts xs f).2, (form_parts bs g).2, encaps_three (pushed xs) (form_parts xs f).3, (counts (outer hs) xs hs a.0).2);
    }

-- what calls tell of the transpositions and the shape
pub composed_of : {x xs y bs : List Act} {k ks : List Header} → x ≡ xs → is_form x ≡ true → y ≡ bs → is_form y ≡ true → k ≡ ks → is_stack k ≡ true → fits xs ks ≡ true → fits bs (apply xs ks) ≡ true → Composed xs bs ks
composed_of e f d g c s t u = composed _ _ _ (ap is_form (sym e) ∙ f) (ap is_form (sym d) ∙ g) (ap is_stack (sym c) ∙ s) t u

-- what was joined in new room
pub joined_is : {room out x y xs bs : List Act} → room ≡ [] → out ≡ room ++ joined x y → x ≡ xs → y ≡ bs → out ≡ joined xs bs
joined_is room out first second = cc

-- what was joined of equal lists
pub both_joined : {x y xs bs : List Act} → x ≡ xs → y ≡ bs → joined x y ≡ joined xs bs
both_joined first second = cc
