use Rattle.std.proofs.Common.{◌≡◌, ◌≤◌, ◌∙◌, ℕ, List, take, ap, sym, arith}
use Rattle.std.proofs.lemmas.List.{take-take}
use Rattle.vsw_base.specs.declared.header.Header.{Header}
use Rattle.vsw_base.proofs.headers.Headers.copy_from.Goals as goal

-- lists that agree in their front agree in each part of it
shorter : (n m : ℕ) (xs ys : List Header) → n ≤ m → take m xs ≡ take m ys → take n xs ≡ take n ys
shorter n m xs ys l e = sym (take-take n m xs l) ∙ ap (take n) e ∙ take-take n m ys l

pub returns-then-other-le3 : goal.returns-then-other-le3
returns-then-other-le3 c = shorter c.other.inside.len 3 c.copy_front.new.items c.other.inside.items (omega (arith, c.if-other-le3.true)) c.copy_front.ensures ∙ c.other.view_is
