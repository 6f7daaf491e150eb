-- Rows that meet the ports of their docks.
use Rattle.std.proofs.Common.{◌≡◌, ℕ, List, [], ◌∷◌, length, Vec, subst, sym, refl, arith}
use Rattle.vsw_dock.specs.Lane.{Lane}
use Rattle.vsw_dock.specs.Meeting.{AreHeld, AreLanes, RowMeets}
use Rattle.vsw_dock.specs.Opening.{rows_in}
use Rattle.vsw_dock.specs.Seen.{DockSeen, StationSeen}
use Rattle.vsw_flows.specs.Flows.{IsOf}
use Rattle.vsw_dock.specs.LiveMeeting.{HeldSeen}
use Rattle.vsw_dock.specs.Ports as live
use Rattle.vsw_policy.specs.Sound.{Each}
use Rattle.vsw_harbour.specs.Meeting.{AreLanesAt, RowsMeet}
use Rattle.vsw_harbour.specs.Standing.{RowMay, RowsMay}

-- ---- the lanes are at the ports that are held

lanes_held : (ds : List DockSeen) (hs : List HeldSeen) (row : List (Lane StationSeen)) → AreHeld ds hs → AreLanesAt ds row → AreLanes hs row
lanes_held [] [] [] a w = tt
lanes_held (d ∷ ds) (h ∷ hs) (l ∷ ls) a w = (subst (λ (p : live.PortSeen). IsOf p.looking l.station.pass) (sym a.0) w.0, lanes_held ds hs ls a.1 w.1)
lanes_held [] [] (l ∷ ls) a w = absurd w
lanes_held [] (h ∷ hs) ls a w = absurd a
lanes_held (d ∷ ds) [] ls a w = absurd a
lanes_held (d ∷ ds) (h ∷ hs) [] a w = absurd w

-- so are those of all rows
pub rows_held : (ds : List DockSeen) (hs : List HeldSeen) (rows : List (List (Lane StationSeen))) → AreHeld ds hs → Each (AreLanesAt ds) rows → Each (AreLanes hs) rows
rows_held ds hs [] a w = tt
rows_held ds hs (r ∷ rs) a w = (lanes_held ds hs r a w.0, rows_held ds hs rs a w.1)

-- ---- who met may make entries

row_may : (n : ℕ) (hs : List HeldSeen) (ls ms : List (Lane StationSeen)) → RowMeets n hs ls ms → RowMay n ms
row_may n [] [] [] r = tt
row_may n (h ∷ hs) (l ∷ ls) (m ∷ ms) r = (r.0.station.room, row_may n hs ls ms r.1)
row_may n [] [] (m ∷ ms) r = absurd r
row_may n [] (l ∷ ls) ms r = absurd r
row_may n (h ∷ hs) [] ms r = absurd r
row_may n (h ∷ hs) (l ∷ ls) [] r = absurd r

-- each of its own
pub rows_may : (needs : List ℕ) (hs : List HeldSeen) (ls ms : List (List (Lane StationSeen))) → RowsMeet needs hs ls ms → RowsMay needs ms
rows_may [] hs [] [] r = tt
rows_may (n ∷ ns) hs (l ∷ ls) (m ∷ ms) r = (row_may n hs l m r.0, rows_may ns hs ls ms r.1)
rows_may [] hs [] (m ∷ ms) r = absurd r
rows_may [] hs (l ∷ ls) ms r = absurd r
rows_may (n ∷ ns) hs [] ms r = absurd r
rows_may (n ∷ ns) hs (l ∷ ls) [] r = absurd r

-- as many rows as lists of lanes
pub as_many : {G : Type 0} (rows : List (Vec (Lane StationSeen) G)) → length (rows_in rows) ≡ length rows
as_many [] = refl
as_many (r ∷ rs) = omega (arith, as_many rs)
