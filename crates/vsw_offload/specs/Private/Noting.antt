-- Slots of keys, in which places of rows are noted.
use Rattle.std.specs.Prelude.{◌≡◌, ◌==◌, ℕ, List, Bool, true, not, get_or}
use Rattle.vsw_offload.specs.Rows.{key_of}
use Rattle.vsw_offload.specs.declared.port_rows.PortRows.{PortRows}
use Rattle.vsw_policy.specs.Sound.{Each}
use Rattle.vsw_words.specs.Slot.{slot}

-- a place is noted in the slot
abbrev pub is_taken : List ℕ → ℕ → Bool
is_taken places n = not (get_or places n 65535 == 65535)

-- no slot was freed
abbrev pub Keeps : List ℕ → List ℕ → Type 0
Keeps old new = (n : ℕ) → is_taken old n ≡ true → is_taken new n ≡ true

-- the slots of these rows are taken
abbrev pub AreNoted : List ℕ → ℕ → List (List ℕ) → Type 0
AreNoted places slots rows = Each (λ r. is_taken places (slot (key_of r) slots) ≡ true) rows

-- and those of the rows of ports
abbrev pub AllNoted : List ℕ → ℕ → List PortRows → Type 0
AllNoted places slots ps = Each (λ p. AreNoted places slots p.rows) ps
