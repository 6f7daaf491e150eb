-- The algebra of composing.
use Rattle.std.proofs.Common.{◌≡◌, List, [], ◌∷◌, refl, sym, ◌∙◌, ap}
use Rattle.vsw_base.specs.declared.header.Header.{Header}
use Rattle.vsw_transpose.specs.declared.act.Act.{Act}
use Rattle.vsw_transpose.specs.declared.act.Act.TheVariants.{Ignore}
use Rattle.vsw_transpose.specs.Apply.{apply}
use Rattle.vsw_transpose.specs.Fits.{outer, none, alike}
use Rattle.vsw_transpose.proofs.Kept.{fits_parts}
use Rattle.vsw_transpose.proofs.None.{none_does}
use Rattle.vsw_rule.specs.ComposeLaw.{NoneFirst, NoneLast, Associates}
use Rattle.vsw_rule.proofs.Alike.{apply_alike}

-- as many ignores as headers, for headers of the same kinds
none_alike : (hs ks : List Header) → alike hs ks → none hs ≡ none ks
none_alike [] [] e = refl
none_alike [] (k ∷ ks) e = absurd e
none_alike (h ∷ hs) [] e = absurd e
none_alike (h ∷ hs) (k ∷ ks) e = ap (λ (l : List Act). Ignore ∷ l) (none_alike hs ks e.1)

pub nothing : (hs ks : List Header) → alike hs ks → apply (none ks) hs ≡ hs
nothing hs ks e = ap (λ (l : List Act). apply l hs) (sym (none_alike hs ks e)) ∙ none_does hs

pub none_first : NoneFirst
none_first ys zs shape c hs e = c hs e ∙ ap (apply ys) (nothing hs shape e)

pub none_last : NoneLast
none_last xs zs shape t c hs e =
    c hs e ∙ nothing (apply xs hs) (apply xs shape) (apply_alike (outer shape) xs hs shape e (fits_parts xs shape t).0)

pub associates : Associates
associates xs ys zs xy yz left right shape t a l b r hs e =
    l hs e ∙ ap (apply zs) (a hs e) ∙ sym (b (apply xs hs) (apply_alike (outer shape) xs hs shape e (fits_parts xs shape t).0)) ∙ sym (r hs e)
