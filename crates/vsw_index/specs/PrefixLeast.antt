-- The least place whose prefix holds an address, told from the plain list of placed prefixes.
use Rattle.std.specs.Prelude.{ℕ, ◌&&◌, List, Bool, nat_le, Option}
use Rattle.vsw_index.specs.Least as least
use Rattle.vsw_index.specs.Least.{least_by}
use Rattle.vsw_base.specs.Prefix.{in_prefix}
use Rattle.vsw_index.specs.declared.placed_prefix.PlacedPrefix.{PlacedPrefix}

abbrev pub holds : ℕ → PlacedPrefix → Bool
holds address p = in_prefix p.prefix address

-- the item holds the address and isn't before `from`
abbrev pub counts : ℕ → ℕ → PlacedPrefix → Bool
counts address from p = holds address p && nat_le from p.place

-- the least place, from `from` on, of an item that holds the address
abbrev pub least_of : List PlacedPrefix → ℕ → ℕ → Option ℕ
least_of items address from = least_by (counts address from) (λ p. p.place) items

-- what an answer tells of the items: one of this place holds the address, and none before it does
abbrev pub Answers : List PlacedPrefix → ℕ → ℕ → Option ℕ → Type 0
Answers items address from = least.Answers (holds address) (λ p. p.place) items from
