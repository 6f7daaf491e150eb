-- The least place whose range holds a value, told from the plain list of placed ranges.
use Rattle.std.specs.Prelude.{ℕ, ◌&&◌, List, Bool, nat_le, Option}
use Rattle.vsw_index.specs.Least as least
use Rattle.vsw_index.specs.Least.{least_by}
use Rattle.vsw_index.specs.declared.placed_range.PlacedRange.{PlacedRange}

-- the value is from the low to the high end, both among them
abbrev pub holds : ℕ → PlacedRange → Bool
holds value r = nat_le r.low value && nat_le value r.high

-- the item holds the value and isn't before `from`
abbrev pub counts : ℕ → ℕ → PlacedRange → Bool
counts value from r = holds value r && nat_le from r.place

-- the least place, from `from` on, of an item that holds the value
abbrev pub least_of : List PlacedRange → ℕ → ℕ → Option ℕ
least_of items value from = least_by (counts value from) (λ r. r.place) items

-- what an answer tells of the items: one of this place holds the value, and none before it does
abbrev pub Answers : List PlacedRange → ℕ → ℕ → Option ℕ → Type 0
Answers items value from = least.Answers (holds value) (λ r. r.place) items from
