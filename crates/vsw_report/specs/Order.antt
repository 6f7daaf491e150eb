-- The order of a port's lines in a round. Callers are the lists of lines of each worker, by number, and then of each controller, by number.
use Rattle.std.specs.Prelude.{ℕ, zero, suc, ◌+◌, ◌≤◌, ◌==◌, ◌&&◌, not, Bool, true, false, List, [], ◌∷◌, ◌++◌, map, filter}
use Rattle.std.specs.List.{flat_map, list_any}
use Rattle.vsw_report.specs.Line.{TextLine}

abbrev pub is_read : ℕ → TextLine → Bool
is_read n l = not l.entry && (l.count == n)

abbrev pub is_entry : ℕ → TextLine → Bool
is_entry n l = l.entry && (l.count == n)

-- the reads of a caller at a count, in its order
abbrev pub reads_at : ℕ → List TextLine → List TextLine
reads_at n lines = filter (is_read n) lines

-- the entry of a count, where it is this caller's
abbrev pub entry_at : ℕ → List TextLine → List TextLine
entry_at n lines = filter (is_entry n) lines

-- at each count from n to n + more the reads by callers, and then the entry; the last count has none
abbrev pub in_order : List (List TextLine) → ℕ → ℕ → List TextLine
in_order callers n zero = flat_map (reads_at n) callers
in_order callers n (suc more) = flat_map (reads_at n) callers ++ (flat_map (entry_at n) callers ++ in_order callers (n + 1) more)

-- an entry raises the count by one
abbrev pub rise_of : Bool → ℕ
rise_of true = 1
rise_of false = 0

-- the counts of a caller's lines begin at low or later and never fall, rise after an entry, and end at high or before
abbrev pub InCounts : ℕ → List TextLine → ℕ → Type 0
InCounts low [] high = low ≤ high
InCounts low (l ∷ ls) high = (low ≤ l.count) × InCounts (l.count + rise_of l.entry) ls high

abbrev pub AllInCounts : ℕ → List (List TextLine) → ℕ → Type 0
AllInCounts low [] high = Unit {0}
AllInCounts low (ls ∷ callers) high = InCounts low ls high × AllInCounts low callers high

-- a caller has lines, and one of them has
abbrev pub has_lines : List TextLine → Bool
has_lines [] = false
has_lines (l ∷ ls) = true

abbrev pub have_lines : List (List TextLine) → Bool
have_lines callers = list_any has_lines callers

-- the lines of each caller, one after the other
abbrev pub all_lines : List (List TextLine) → List TextLine
all_lines callers = flat_map (λ ls. ls) callers

-- as many callers, with no lines
abbrev pub emptied : List (List TextLine) → List (List TextLine)
emptied callers = map (λ ls. []) callers
