-- Rows of lanes, whose lines are taken.
use Rattle.std.specs.Prelude.{◌≡◌, ℕ, Bool, List, [], ◌∷◌, get_or, length, map, true, Vec}
use Rattle.vsw_harbour.specs.Placed.{Placed}
use Rattle.vsw_harbour.specs.Lane.{Lane}
use Rattle.vsw_harbour.specs.DealWork.{Work}
use Rattle.vsw_harbour.specs.Seen.{StationSeen}
use Rattle.vsw_report.specs.Line.{TextLine}

-- what a row tells, a list a port
abbrev pub lines_of : List (Lane StationSeen) → List (List TextLine)
lines_of row = map (λ l. l.station.lines) row

-- the lane without lines, and whether it is whole
abbrev pub emptied_lane : Bool → Lane StationSeen → Lane StationSeen
emptied_lane whole l = record l { station = record l.station { lines = []; whole = whole } }

-- the row without lines, each lane as whole as it was
abbrev pub cleared_lane : Lane StationSeen → Lane StationSeen
cleared_lane l = emptied_lane l.station.whole l

abbrev pub cleared : List (Lane StationSeen) → List (Lane StationSeen)
cleared row = map cleared_lane row

-- the row without lines, each lane whole: it has nothing to tell yet
abbrev pub rested_lane : Lane StationSeen → Lane StationSeen
rested_lane l = emptied_lane true l

abbrev pub rested : List (Lane StationSeen) → List (Lane StationSeen)
rested row = map rested_lane row

-- none of a caller's lines are left, at any place
abbrev pub AreGone : List (List TextLine) → Type 0
AreGone lines = (place : ℕ) → get_or lines place [] ≡ []

-- how many entries of each port a row has seen, and how many the first of some rows
abbrev pub counts_of : List (Lane StationSeen) → List ℕ
counts_of row = map (λ l. l.base) row

abbrev pub first_counts : List (List (Lane StationSeen)) → List ℕ
first_counts [] = []
first_counts (row ∷ rows) = counts_of row

-- as many entries as each share has jobs
abbrev pub needs_in : {G : Type 0} → List (Vec (Placed Work) G) → List ℕ
needs_in [] = []
needs_in (s ∷ ss) = length s.items ∷ needs_in ss
