-- Hands that work through shares, piece by piece.
use Rattle.std.specs.Prelude.{List, [], ◌∷◌}
use Rattle.vsw_hands.specs.declared.worked.Worked.{Worked}
use Rattle.vsw_hands.specs.declared.worked.Worked.TheVariants.{More, Done}

module _ {S T : Type 0} where
  -- after a piece: the share that was given has become this, or it is worked through and this is told of it
  abbrev pub Works : (S → S → Type 0) → (S → T → Type 0) → S → Worked S T → Type 0
  Works goes does was (More now) = goes was now
  Works goes does was (Done told) = does was told

  -- of each share this was told, in their order
  abbrev pub AllDone : (S → T → Type 0) → List S → List T → Type 0
  AllDone does [] [] = Unit {0}
  AllDone does (s ∷ shares) (t ∷ tolds) = does s t × AllDone does shares tolds
  AllDone does _ _ = ⊥
