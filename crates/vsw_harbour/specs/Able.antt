-- A caller that may do a job.
use Rattle.std.specs.Prelude.{◌≡◌, ℕ, suc, List, [], ◌∷◌}
use Rattle.vsw_dock.specs.Lane.{Lane}
use Rattle.vsw_dock.specs.Lanes.{AreFit}
use Rattle.vsw_dock.specs.Docks.{is_of, pass_in, permits}
use Rattle.vsw_dock.specs.Seen.{DockSeen, StationSeen}
use Rattle.vsw_dock.specs.DealWork.{Work}
use Rattle.vsw_dock.specs.DealWork.TheVariants as work

-- of these rows, from the one of caller `at` on, the one of this caller may make an entry at each port
abbrev pub IsAble : ℕ → ℕ → List DockSeen → List (List (Lane StationSeen)) → Type 0
IsAble at caller ds [] = Unit {0}
IsAble at caller ds (r ∷ rs) = ((at ≡ caller) → AreFit pass_in is_of permits caller 1 ds r) × IsAble (suc at) caller ds rs

-- a job that asks a line
abbrev pub IsLine : Work → Type 0
IsLine (work.Line l) = Unit {0}
IsLine (work.Packet p) = ⊥
