-- What a look finds in the parts of a row.
use Rattle.std.specs.Prelude.{ℕ, ◌≡◌, ◌≢◌, ◌<◌, ◌+◌, ◌-◌, max, List, ◌++◌, length, replicate, slice_index_or}

-- a word that was loaded isn't the wanted one
abbrev pub Apart : List ℕ → List ℕ → Type 0
Apart words wanted = (k : ℕ) × (k < length words) × (k < length wanted) × (slice_index_or words k 0 ≢ slice_index_or wanted k 0)

-- one of a key's other words isn't the wanted one: they stand behind the 24 words that are left of the near part
abbrev pub AreOther : List ℕ → List ℕ → Type 0
AreOther others words = (k : ℕ) × (k < length others) × (24 + k < length words) × (slice_index_or words (24 + k) 0 ≢ slice_index_or others k 0)

-- the 24 words that are left of the near part, the key's other words, and those in use that are left of the body; the body has no others
abbrev pub AreFar : ℕ → (others words rest : List ℕ) → Type 0
AreFar used others words rest = (near : List ℕ) × (far : List ℕ) × (words ≡ near ++ (others ++ far)) × (length near ≡ 24) × (length far ≡ max used 43 - 43) × (rest ≡ near ++ (far ++ replicate (30 - length far) 0))
