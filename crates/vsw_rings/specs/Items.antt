-- What goes through a ring: items in order, and behind them an end.
use Rattle.std.specs.Prelude.{Bool, true, false, List, [], ◌∷◌}
use Rattle.vsw_rings.specs.declared.taken.Taken.{Taken}
use Rattle.vsw_rings.specs.declared.taken.Taken.TheVariants.{Item, End}

module _ {T : Type 0} where
  -- the items in front of the end
  abbrev pub items_in : List (Taken T) → List T
  items_in [] = []
  items_in (Item x ∷ all) = x ∷ items_in all
  items_in (End ∷ all) = []

  -- whether the end is among them
  abbrev pub has_end : List (Taken T) → Bool
  has_end [] = false
  has_end (Item x ∷ all) = has_end all
  has_end (End ∷ all) = true

  -- an item may follow those before it by this rule, and an end any items
  abbrev pub Follows : (List T → T → Type 0) → List (Taken T) → Taken T → Type 0
  Follows fits before (Item x) = fits (items_in before) x
  Follows fits before End = Unit {0}
