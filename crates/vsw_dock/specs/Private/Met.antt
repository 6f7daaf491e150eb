-- Lanes that meet their ports one after another.
use Rattle.std.specs.Prelude.{◌≡◌, ℕ, zero, suc, List, ◌∷◌}
use Rattle.vsw_actors.specs.declared.lane.Lane.{Lane}
use Rattle.vsw_live.specs.Meeting.{HeldSeen}
use Rattle.vsw_dock.specs.Meeting.{LaneMeets}
use Rattle.vsw_dock.specs.Seen.{StationSeen}

-- the lane at this place met its port, and no other did anything
abbrev pub MetAt : ℕ → ℕ → List HeldSeen → List (Lane StationSeen) → List (Lane StationSeen) → Type 0
MetAt more zero (h ∷ hs) (l ∷ ls) (m ∷ ms) = LaneMeets more h l m × (ms ≡ ls)
MetAt more (suc place) (h ∷ hs) (l ∷ ls) (m ∷ ms) = (m ≡ l) × MetAt more place hs ls ms
MetAt more place _ _ _ = ⊥

-- the lanes at the first places have met their ports, and those behind them are as they were
abbrev pub MetTo : ℕ → ℕ → List HeldSeen → List (Lane StationSeen) → List (Lane StationSeen) → Type 0
MetTo more zero hs ls ms = ms ≡ ls
MetTo more (suc place) (h ∷ hs) (l ∷ ls) (m ∷ ms) = LaneMeets more h l m × MetTo more place hs ls ms
MetTo more (suc place) _ _ _ = ⊥
