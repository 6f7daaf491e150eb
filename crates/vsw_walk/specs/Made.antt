-- The actions that make a packet's stack of the one with which it came, and what they do as one transposition.
use Rattle.std.specs.Prelude.{◌≡◌, ℕ, List, [], ◌∷◌, true}
use Rattle.vsw_base.specs.declared.header.Header.{Header}
use Rattle.vsw_base.specs.Shape.{encaps}
use Rattle.vsw_rule.specs.Edit.{edited, kept_after}
use Rattle.vsw_rule.specs.declared.rule.Action.{Action}
use Rattle.vsw_rule.specs.declared.rule.Action.TheVariants.{Allow, Drop, Edit}
use Rattle.vsw_rule.specs.Match.{can_do}
use Rattle.vsw_transpose.specs.declared.act.Act.{Act}
use Rattle.vsw_transpose.specs.Apply.{apply}
use Rattle.vsw_transpose.specs.Fits as fit
use Rattle.vsw_walk.specs.Walk.{Told}

-- an action that edits a packet is one of them
abbrev pub editing : Action → List Action
editing Allow = []
editing Drop = []
editing (Edit decap set encap) = Edit decap set encap ∷ []

-- they can be done to a stack in turn
abbrev pub CanMake : List Action → List Header → Type 0
CanMake [] hs = Unit {0}
CanMake (a ∷ rest) hs = (can_do a hs ≡ true) × CanMake rest (edited a hs)

-- the stack after them all
abbrev pub made_by : List Action → List Header → List Header
made_by [] hs = hs
made_by (a ∷ rest) hs = made_by rest (edited a hs)

-- how many of a stack's encapsulations they keep, the last so many of which were kept before
abbrev pub left_by : List Action → List Header → ℕ → ℕ
left_by [] hs kept = kept
left_by (a ∷ rest) hs kept = left_by rest (edited a hs) (kept_after a hs kept)

-- the actions that are told lead from the first stack to the one that is told
pub record Leads (first : List Header) (told : Told) (kept : ℕ) : Type 0 where
  pub can : CanMake told.edits first
  pub made : told.stack ≡ made_by told.edits first
  pub left : kept ≡ left_by told.edits first (encaps first)

-- the acts fit the stack, and do to it what the actions do
pub record Does (actions : List Action) (first : List Header) (xs : List Act) : Type 0 where
  pub fits : fit.fits xs first ≡ true
  pub made : apply xs first ≡ made_by actions first
  pub left : fit.kept xs ≡ left_by actions first (encaps first)
