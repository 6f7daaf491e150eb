-- The rows that stand at one spot: at most four, each told by its number and one, and 0 is none.
use Rattle.std.specs.Prelude.{ℕ, ◌+◌, ◌==◌, ◌&&◌, ◌||◌, Bool, if◌then◌else◌}
use Rattle.vsw_flows.specs.declared.leaners.Leaners.{Leaners}
use Rattle.vsw_flows.specs.declared.leaners.Joined.{Joined}

abbrev pub three : ℕ → ℕ → ℕ → Leaners
three a b c = record { first = a; second = b; third = c; fourth = 0 }

abbrev pub none : Leaners
none = three 0 0 0

abbrev pub is_empty : Leaners → Bool
is_empty l = l.first == 0 && l.second == 0 && l.third == 0 && l.fourth == 0

-- the row is one of them
abbrev pub has : Leaners → ℕ → Bool
has l r = (r + 1 == l.first) || ((r + 1 == l.second) || ((r + 1 == l.third) || (r + 1 == l.fourth)))

-- nobody gives way
abbrev pub kept : Leaners → Joined
kept l = record { leaners = l; way = 0 }

-- the row is first among them, and the last one gives way
abbrev pub pushed : Leaners → ℕ → Joined
pushed l r = record { leaners = record { first = r + 1; second = l.first; third = l.second; fourth = l.third }; way = l.fourth }

-- unless it was one of them
abbrev pub joined : Leaners → ℕ → Joined
joined l r = if has l r then kept l else pushed l r

-- the others, in their order
abbrev pub without_fourth : Leaners → ℕ → Leaners
without_fourth l r = if r + 1 == l.fourth then three l.first l.second l.third else l

abbrev pub without_third : Leaners → ℕ → Leaners
without_third l r = if r + 1 == l.third then three l.first l.second l.fourth else without_fourth l r

abbrev pub without_second : Leaners → ℕ → Leaners
without_second l r = if r + 1 == l.second then three l.first l.third l.fourth else without_third l r

abbrev pub without : Leaners → ℕ → Leaners
without l r = if r + 1 == l.first then three l.second l.third l.fourth else without_second l r
