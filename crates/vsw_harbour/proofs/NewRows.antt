-- New rows stand at empty histories.
use Rattle.std.proofs.Common.{ℕ, suc, List, [], ◌∷◌}
use Rattle.vsw_harbour.specs.Lane.{Lane}
use Rattle.vsw_harbour.specs.HarbourOpening.{AreNewRows, IsNewLane, IsNewRow}
use Rattle.vsw_harbour.specs.Seen.{DockSeen, StationSeen}
use Rattle.vsw_harbour.specs.Harbour.{ports_in}
use Rattle.vsw_harbour.specs.Meeting.{AreLanesAt}
use Rattle.vsw_harbour.specs.Standing.{IsWhole, RowStands, RowsStand, Stands, no_calls}
use Rattle.vsw_port.proofs.Fronts.{prefix_self}
use Rattle.vsw_harbour.specs.Rounds.{AreJournals}
use Rattle.vsw_policy.specs.Sound.{Each}
use Rattle.vsw_harbour.specs.Mustered.{no_entries}

lane_stands : (k : ℕ) (d : DockSeen) (l : Lane StationSeen) → IsNewLane k d l → Stands k d [] [] l
lane_stands k d l x = record {
  of = x.pass.of;
  rest = record { number = x.pass.number; front = x.pass.front; receipts = x.pass.receipts };
  base = x.base;
  told = λ w. x.lines;
}

row_stands : (k : ℕ) (ds : List DockSeen) (row : List (Lane StationSeen)) → IsNewRow k ds row → RowStands k ds (no_entries ds) (no_calls ds) row
row_stands k [] [] n = tt
row_stands k (d ∷ ds) (l ∷ ls) n = (lane_stands k d l n.0, row_stands k ds ls n.1)
row_stands k [] (l ∷ ls) n = absurd n
row_stands k (d ∷ ds) [] n = absurd n

pub rows_stand : (k : ℕ) (ds : List DockSeen) (rows : List (List (Lane StationSeen))) → AreNewRows k ds rows → RowsStand k ds (no_entries ds) (no_calls ds) rows
rows_stand k ds [] n = tt
rows_stand k ds (r ∷ rs) n = (row_stands k ds r n.0, rows_stand (suc k) ds rs n.1)

row_lanes : (k : ℕ) (ds : List DockSeen) (row : List (Lane StationSeen)) → IsNewRow k ds row → AreLanesAt ds row
row_lanes k [] [] n = tt
row_lanes k (d ∷ ds) (l ∷ ls) n = (n.0.pass.of, row_lanes k ds ls n.1)
row_lanes k [] (l ∷ ls) n = absurd n
row_lanes k (d ∷ ds) [] n = absurd n

pub rows_lanes : (k : ℕ) (ds : List DockSeen) (rows : List (List (Lane StationSeen))) → AreNewRows k ds rows → Each (AreLanesAt ds) rows
rows_lanes k ds [] n = tt
rows_lanes k ds (r ∷ rs) n = (row_lanes k ds r n.0, rows_lanes (suc k) ds rs n.1)

row_whole : (k : ℕ) (ds : List DockSeen) (row : List (Lane StationSeen)) → IsNewRow k ds row → IsWhole row
row_whole k [] [] n = tt
row_whole k (d ∷ ds) (l ∷ ls) n = (n.0.whole, row_whole k ds ls n.1)
row_whole k [] (l ∷ ls) n = absurd n
row_whole k (d ∷ ds) [] n = absurd n

pub rows_whole : (k : ℕ) (ds : List DockSeen) (rows : List (List (Lane StationSeen))) → AreNewRows k ds rows → Each IsWhole rows
rows_whole k ds [] n = tt
rows_whole k ds (r ∷ rs) n = (row_whole k ds r n.0, rows_whole (suc k) ds rs n.1)

pub journals_none : (n : ℕ) (ds : List DockSeen) → AreJournals n (ports_in ds) (no_entries ds) (no_entries ds)
journals_none n [] = tt
journals_none n (d ∷ ds) = (tt, prefix_self [], tt, journals_none n ds)
