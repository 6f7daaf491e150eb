-- Sixteen flows, each with a tally of the entries that touched it.
use Rattle.std.specs.Prelude.{ℕ, ◌≡◌, ◌+◌, ◌%◌, ◌<◌, ◌==◌, nat_lt, if◌then◌else◌, Bool, List, [], ◌∷◌, slice_index}

-- an entry below 16 renews one flow, any other is a command on the four flows of a group
abbrev pub touches : ℕ → ℕ → Bool
touches flow entry = if nat_lt entry 16 then entry == flow else ((entry % 4) == (flow % 4))

-- a tally after one more entry; it is a word, so it wraps round
abbrev pub tallied : ℕ → ℕ → ℕ → ℕ
tallied flow entry n = if touches flow entry then (n + 1) % 18446744073709551616 else n

abbrev pub tally : ℕ → List ℕ → ℕ
tally flow [] = 0
tally flow (e ∷ es) = tallied flow e (tally flow es)

-- a row is good after these entries where it tells the tally of its flow, at both ends of its body
abbrev pub IsGoodFlow : List ℕ → List ℕ → Type 0
IsGoodFlow h row = (slice_index row 0 < 16) × (slice_index row 16 ≡ tally (slice_index row 0) h) × (slice_index row 72 ≡ tally (slice_index row 0) h)

-- the same by a table of tallies
abbrev pub IsTold : List ℕ → List ℕ → Type 0
IsTold tallies row = (slice_index row 0 < 16) × (slice_index row 16 ≡ slice_index tallies (slice_index row 0)) × (slice_index row 72 ≡ slice_index tallies (slice_index row 0))

abbrev pub AreTallies : List ℕ → List ℕ → Type 0
AreTallies h tallies = (flow : ℕ) → flow < 16 → slice_index tallies flow ≡ tally flow h
