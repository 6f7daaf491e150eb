-- How long a pair lives. A layer's idle and linger times are in seconds; lives and moments are in microseconds,
-- and a sum of moments stops at the greatest number of 64 bits.
use Rattle.std.specs.Prelude.{ℕ, ◌+◌, ◌*◌, ◌/◌, ◌-◌, ◌^◌, Bool, nat_le, min}
use Rattle.vsw_base.specs.declared.flow.Track.{Track}
use Rattle.vsw_base.specs.declared.flow.Track.TheVariants.{Plain, Opening, Open, Half, Closed}
use Rattle.vsw_layerflow.specs.declared.pair.Pair.{Pair}

-- linger where the pair is closed, idle otherwise
abbrev pub life : Track → ℕ → ℕ → ℕ
life Closed idle linger = linger * 1000000
life Plain idle linger = idle * 1000000
life Opening idle linger = idle * 1000000
life Open idle linger = idle * 1000000
life (Half d) idle linger = idle * 1000000

-- so many microseconds later, at most the greatest moment
abbrev pub later : ℕ → ℕ → ℕ
later moment micros = min (moment + micros) (2 ^ 64 - 1)

-- a packet after this moment, a quarter of the life after the last use, renews the last use
abbrev pub due : ℕ → Track → ℕ → ℕ → ℕ
due last state idle linger = later last (life state idle linger / 4)

-- a life ends a life after the last use, at that very moment
abbrev pub is_over : ℕ → ℕ → ℕ → Pair → Bool
is_over now idle linger p = nat_le (later p.last_use (life p.state idle linger)) now
