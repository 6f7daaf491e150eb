-- All callers meet the ports.
use Rattle.std.specs.Prelude.{ℕ, List, [], ◌∷◌}
use Rattle.vsw_dock.specs.Lane.{Lane}
use Rattle.vsw_flows.specs.Flows.{IsOf}
use Rattle.vsw_dock.specs.Meeting.{AreHeld, RowMeets}
use Rattle.vsw_dock.specs.Seen.{DockSeen, StationSeen}
use Rattle.vsw_dock.specs.LiveMeeting.{HeldSeen}

-- lanes at these docks
abbrev pub AreLanesAt : List DockSeen → List (Lane StationSeen) → Type 0
AreLanesAt [] [] = Unit {0}
AreLanesAt (d ∷ ds) (l ∷ ls) = IsOf d.live.looking l.station.pass × AreLanesAt ds ls
AreLanesAt _ _ = ⊥

-- each row meets the ports, and has so many permits
abbrev pub RowsMeet : List ℕ → List HeldSeen → List (List (Lane StationSeen)) → List (List (Lane StationSeen)) → Type 0
RowsMeet [] hs [] [] = Unit {0}
RowsMeet (n ∷ ns) hs (r ∷ rs) (s ∷ ss) = RowMeets n hs r s × RowsMeet ns hs rs ss
RowsMeet _ hs _ _ = ⊥

-- all rows meet the ports of the docks, whose histories are then these
pub record AllMeet (ds : List DockSeen) (needs : List ℕ) (rows met : List (List (Lane StationSeen))) : Type 0 where
  pub helds : List HeldSeen
  pub held : AreHeld ds helds
  pub meet : RowsMeet needs helds rows met
