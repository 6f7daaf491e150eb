-- What composing means, and its algebra.
use Rattle.std.specs.Prelude.{◌≡◌, ◌≤◌, ℕ, List, true, min}
use Rattle.vsw_base.specs.declared.header.Header.{Header}
use Rattle.vsw_base.specs.Shape.{encaps}
use Rattle.vsw_rule.specs.declared.rule.Action.{Action}
use Rattle.vsw_rule.specs.Match.{can_do}
use Rattle.vsw_transpose.specs.declared.act.Act.{Act}
use Rattle.vsw_transpose.specs.Apply.{apply}
use Rattle.vsw_transpose.specs.Fits.{fits, none, alike}
use Rattle.vsw_rule.specs.Edit.{kept_after}

-- on all headers of the kinds of a shape, doing zs is doing xs and then ys
abbrev pub Composes : List Act → List Act → List Header → List Act → Type 0
Composes xs ys shape zs = (hs : List Header) → alike hs shape → apply zs hs ≡ apply ys (apply xs hs)

-- on all headers of the kinds of a shape, the two do the same
abbrev pub DoesSame : List Header → List Act → List Act → Type 0
DoesSame shape xs ys = (hs : List Header) → alike hs shape → apply xs hs ≡ apply ys hs

-- doing nothing first changes nothing
abbrev pub NoneFirst : Type 0
NoneFirst = (ys zs : List Act) (shape : List Header) → Composes (none shape) ys shape zs → DoesSame shape zs ys

-- doing nothing afterwards changes nothing
abbrev pub NoneLast : Type 0
NoneLast = (xs zs : List Act) (shape : List Header) → fits xs shape ≡ true → Composes xs (none (apply xs shape)) shape zs → DoesSame shape zs xs

-- of three, composing the first two and then the third does what composing the first and the last two does
abbrev pub Associates : Type 0
Associates = (xs ys zs xy yz left right : List Act) (shape : List Header) → fits xs shape ≡ true
    → Composes xs ys shape xy → Composes xy zs shape left
    → Composes ys zs (apply xs shape) yz → Composes xs yz shape right
    → DoesSame shape left right

-- what an action leaves of the encapsulations that were kept before it are those that it keeps of the whole stack, as far as they were
-- kept before
abbrev pub KeepsAlong : Type 0
KeepsAlong = (action : Action) (hs : List Header) (kept : ℕ) → can_do action hs ≡ true → kept ≤ encaps hs
    → min kept (kept_after action hs (encaps hs)) ≡ kept_after action hs kept
