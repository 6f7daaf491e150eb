-- What standing rows tell, and rows whose lines were taken.
use Rattle.std.proofs.Common.{◌≡◌, ◌<◌, ℕ, zero, suc, ◌+◌, Bool, true, List, [], ◌∷◌, ◌++◌, length, map, take, drop, refl, ap, ap₂, ◌∙◌, subst, arith}
use Rattle.vsw_harbour.specs.Lane.{Lane}
use Rattle.vsw_crew.specs.Crew.{seen_by}
use Rattle.vsw_crew.specs.Private.Rows.{cleared, counts_of, emptied_lane, first_counts, lines_of, rested}
use Rattle.vsw_crew.specs.Told.{told_row, told_rows}
use Rattle.vsw_harbour.specs.Crew.{lines_for}
use Rattle.vsw_harbour.specs.Seen.{DockSeen, StationSeen}
use Rattle.vsw_harbour.specs.Standing.{IsWhole, RowStands, RowsStand, no_calls}
use Rattle.vsw_port.specs.Calls.{Call, calls_of}
use Rattle.vsw_port.specs.declared.event.Event.{Event}
use Rattle.vsw_policy.specs.Sound.{Each}

-- ---- one row

-- a whole row that stands tells its caller's own of the calls
row_told : (cs : List ℕ) (k : ℕ) (ds : List DockSeen) (hs : List (List Event)) (calls : List (List Call)) (row : List (Lane StationSeen)) → Each (λ d. d.live.looking.1.controllers ≡ cs) ds → RowStands k ds hs calls row → IsWhole row → lines_of row ≡ told_row cs calls k
row_told cs k [] [] [] [] same s w = refl
row_told cs k (d ∷ ds) (h ∷ hs) (c ∷ calls) (l ∷ row) same s w =
    ap₂ (λ x y. x ∷ y) (s.0.told w.0 ∙ ap (λ v. lines_for (calls_of v k c)) same.0) (row_told cs k ds hs calls row same.1 s.1 w.1)
row_told cs k [] [] [] (l ∷ row) same s w = absurd s
row_told cs k [] [] (c ∷ calls) row same s w = absurd s
row_told cs k [] (h ∷ hs) calls row same s w = absurd s
row_told cs k (d ∷ ds) [] calls row same s w = absurd s
row_told cs k (d ∷ ds) (h ∷ hs) [] row same s w = absurd s
row_told cs k (d ∷ ds) (h ∷ hs) (c ∷ calls) [] same s w = absurd s

-- without its lines it tells nothing, whether it is whole or not
row_emptied : (w : Lane StationSeen → Bool) (k : ℕ) (ds : List DockSeen) (hs : List (List Event)) (calls : List (List Call)) (row : List (Lane StationSeen)) → RowStands k ds hs calls row → RowStands k ds hs (no_calls ds) (map (λ l. emptied_lane (w l) l) row)
row_emptied w k [] [] [] [] s = tt
row_emptied w k (d ∷ ds) (h ∷ hs) (c ∷ calls) (l ∷ row) s = (record { of = s.0.of; rest = s.0.rest; base = s.0.base; told = λ w. refl }, row_emptied w k ds hs calls row s.1)
row_emptied w k [] [] [] (l ∷ row) s = absurd s
row_emptied w k [] [] (c ∷ calls) row s = absurd s
row_emptied w k [] (h ∷ hs) calls row s = absurd s
row_emptied w k (d ∷ ds) [] calls row s = absurd s
row_emptied w k (d ∷ ds) (h ∷ hs) [] row s = absurd s
row_emptied w k (d ∷ ds) (h ∷ hs) (c ∷ calls) [] s = absurd s

-- none of the calls is caller k's
abbrev pub HasNone : List ℕ → ℕ → List (List Call) → Type 0
HasNone cs k calls = Each (λ c. calls_of cs k c ≡ []) calls

-- it tells nothing already, if none of the calls is its caller's
row_quiet : (cs : List ℕ) (k : ℕ) (ds : List DockSeen) (hs : List (List Event)) (calls : List (List Call)) (row : List (Lane StationSeen)) → Each (λ d. d.live.looking.1.controllers ≡ cs) ds → HasNone cs k calls → RowStands k ds hs calls row → RowStands k ds hs (no_calls ds) row
row_quiet cs k [] [] [] [] same n s = tt
row_quiet cs k (d ∷ ds) (h ∷ hs) (c ∷ calls) (l ∷ row) same n s =
    (record { of = s.0.of; rest = s.0.rest; base = s.0.base; told = λ w. s.0.told w ∙ ap lines_for (ap (λ v. calls_of v k c) same.0 ∙ n.0) }, row_quiet cs k ds hs calls row same.1 n.1 s.1)
row_quiet cs k [] [] [] (l ∷ row) same n s = absurd s
row_quiet cs k [] [] (c ∷ calls) row same n s = absurd s
row_quiet cs k [] (h ∷ hs) calls row same n s = absurd s
row_quiet cs k (d ∷ ds) [] calls row same n s = absurd s
row_quiet cs k (d ∷ ds) (h ∷ hs) [] row same n s = absurd s
row_quiet cs k (d ∷ ds) (h ∷ hs) (c ∷ calls) [] same n s = absurd s

-- it has a lane a port, and its lanes count what the histories have
row_wide : (k : ℕ) (ds : List DockSeen) (hs : List (List Event)) (calls : List (List Call)) (row : List (Lane StationSeen)) → RowStands k ds hs calls row → length (lines_of row) ≡ length ds
row_wide k [] [] [] [] s = refl
row_wide k (d ∷ ds) (h ∷ hs) (c ∷ calls) (l ∷ row) s = ap suc (row_wide k ds hs calls row s.1)
row_wide k [] [] [] (l ∷ row) s = absurd s
row_wide k [] [] (c ∷ calls) row s = absurd s
row_wide k [] (h ∷ hs) calls row s = absurd s
row_wide k (d ∷ ds) [] calls row s = absurd s
row_wide k (d ∷ ds) (h ∷ hs) [] row s = absurd s
row_wide k (d ∷ ds) (h ∷ hs) (c ∷ calls) [] s = absurd s

row_counts : (k : ℕ) (ds : List DockSeen) (hs : List (List Event)) (calls : List (List Call)) (row : List (Lane StationSeen)) → RowStands k ds hs calls row → counts_of row ≡ map length hs
row_counts k [] [] [] [] s = refl
row_counts k (d ∷ ds) (h ∷ hs) (c ∷ calls) (l ∷ row) s = ap₂ (λ x y. x ∷ y) s.0.base (row_counts k ds hs calls row s.1)
row_counts k [] [] [] (l ∷ row) s = absurd s
row_counts k [] [] (c ∷ calls) row s = absurd s
row_counts k [] (h ∷ hs) calls row s = absurd s
row_counts k (d ∷ ds) [] calls row s = absurd s
row_counts k (d ∷ ds) (h ∷ hs) [] row s = absurd s
row_counts k (d ∷ ds) (h ∷ hs) (c ∷ calls) [] s = absurd s

row_seen : (k : ℕ) (ds : List DockSeen) (hs : List (List Event)) (calls : List (List Call)) (row : List (Lane StationSeen)) → RowStands k ds hs calls row → map (λ l. l.station.pass.view.front) row ≡ hs
row_seen k [] [] [] [] s = refl
row_seen k (d ∷ ds) (h ∷ hs) (c ∷ calls) (l ∷ row) s = ap₂ (λ x y. x ∷ y) s.0.rest.front (row_seen k ds hs calls row s.1)
row_seen k [] [] [] (l ∷ row) s = absurd s
row_seen k [] [] (c ∷ calls) row s = absurd s
row_seen k [] (h ∷ hs) calls row s = absurd s
row_seen k (d ∷ ds) [] calls row s = absurd s
row_seen k (d ∷ ds) (h ∷ hs) [] row s = absurd s
row_seen k (d ∷ ds) (h ∷ hs) (c ∷ calls) [] s = absurd s

-- ---- all rows

pub rows_told : (cs : List ℕ) (k n : ℕ) (ds : List DockSeen) (hs : List (List Event)) (calls : List (List Call)) (rows : List (List (Lane StationSeen))) → Each (λ d. d.live.looking.1.controllers ≡ cs) ds → length rows ≡ n → RowsStand k ds hs calls rows → Each IsWhole rows
    → map lines_of rows ≡ told_rows cs calls k n
rows_told cs k zero ds hs calls [] same size s w = refl
rows_told cs k (suc n) ds hs calls (row ∷ rows) same size s w = ap₂ (λ x y. x ∷ y) (row_told cs k ds hs calls row same s.0 w.0) (rows_told cs (suc k) n ds hs calls rows same (omega (arith, size)) s.1 w.1)
rows_told cs k (suc n) ds hs calls [] same size s w = absurd (omega (arith, size))
rows_told cs k zero ds hs calls (row ∷ rows) same size s w = absurd (omega (arith, size))

rows_emptied : (w : Lane StationSeen → Bool) (k : ℕ) (ds : List DockSeen) (hs : List (List Event)) (calls : List (List Call)) (rows : List (List (Lane StationSeen))) → RowsStand k ds hs calls rows → RowsStand k ds hs (no_calls ds) (map (λ row. map (λ l. emptied_lane (w l) l) row) rows)
rows_emptied w k ds hs calls [] s = tt
rows_emptied w k ds hs calls (row ∷ rows) s = (row_emptied w k ds hs calls row s.0, rows_emptied w (suc k) ds hs calls rows s.1)

pub rows_cleared : (k : ℕ) (ds : List DockSeen) (hs : List (List Event)) (calls : List (List Call)) (rows : List (List (Lane StationSeen))) → RowsStand k ds hs calls rows → RowsStand k ds hs (no_calls ds) (map cleared rows)
rows_cleared k ds hs calls rows s = rows_emptied (λ l. l.station.whole) k ds hs calls rows s

pub rows_rested : (k : ℕ) (ds : List DockSeen) (hs : List (List Event)) (calls : List (List Call)) (rows : List (List (Lane StationSeen))) → RowsStand k ds hs calls rows → RowsStand k ds hs (no_calls ds) (map rested rows)
rows_rested k ds hs calls rows s = rows_emptied (λ l. true) k ds hs calls rows s

-- the first of the rows tell nothing, and the lines of the others were taken
pub rows_left : (cs : List ℕ) (n k : ℕ) (ds : List DockSeen) (hs : List (List Event)) (calls : List (List Call)) (rows : List (List (Lane StationSeen))) → Each (λ d. d.live.looking.1.controllers ≡ cs) ds → ((j : ℕ) → j < k + n → HasNone cs j calls) → RowsStand k ds hs calls rows
    → RowsStand k ds hs (no_calls ds) (take n rows ++ map cleared (drop n rows))
rows_left cs zero k ds hs calls [] same none s = tt
rows_left cs zero k ds hs calls (row ∷ rows) same none s = rows_cleared k ds hs calls (row ∷ rows) s
rows_left cs (suc n) k ds hs calls [] same none s = tt
rows_left cs (suc n) k ds hs calls (row ∷ rows) same none s =
    (row_quiet cs k ds hs calls row same (none k (omega arith)) s.0, rows_left cs n (suc k) ds hs calls rows same (λ j lt. none j (omega (arith, lt))) s.1)

-- the rows from the n-th on
pub rows_behind : (n k : ℕ) (ds : List DockSeen) (hs : List (List Event)) (calls : List (List Call)) (rows : List (List (Lane StationSeen))) → RowsStand k ds hs calls rows → RowsStand (k + n) ds hs calls (drop n rows)
rows_behind zero k ds hs calls [] s = tt
rows_behind zero k ds hs calls (row ∷ rows) s = let same : k ≡ k + 0 = omega arith in subst (λ m. RowsStand m ds hs calls (row ∷ rows)) same s
rows_behind (suc n) k ds hs calls [] s = tt
rows_behind (suc n) k ds hs calls (row ∷ rows) s = let same : suc k + n ≡ k + suc n = omega arith in subst (λ m. RowsStand m ds hs calls (drop n rows)) same (rows_behind n (suc k) ds hs calls rows s.1)

pub each_behind : {A : Type 0} (P : A → Type 0) (n : ℕ) (xs : List A) → Each P xs → Each P (drop n xs)
each_behind P zero [] e = tt
each_behind P zero (x ∷ xs) e = e
each_behind P (suc n) [] e = tt
each_behind P (suc n) (x ∷ xs) e = each_behind P n xs e.1

pub rows_wide : (k n : ℕ) (ds : List DockSeen) (hs : List (List Event)) (calls : List (List Call)) (rows : List (List (Lane StationSeen))) → length ds ≡ n → RowsStand k ds hs calls rows → Each (λ row. length row ≡ n) (map lines_of rows)
rows_wide k n ds hs calls [] e s = tt
rows_wide k n ds hs calls (row ∷ rows) e s = (row_wide k ds hs calls row s.0 ∙ e, rows_wide (suc k) n ds hs calls rows e s.1)

pub counts_are : (k : ℕ) (ds : List DockSeen) (hs : List (List Event)) (calls : List (List Call)) (rows : List (List (Lane StationSeen))) → 0 < length rows → RowsStand k ds hs calls rows → first_counts rows ≡ map length hs
counts_are k ds hs calls [] some s = absurd (omega (arith, some))
counts_are k ds hs calls (row ∷ rows) some s = row_counts k ds hs calls row s.0

pub seen_are : (k : ℕ) (ds : List DockSeen) (hs : List (List Event)) (calls : List (List Call)) (rows : List (List (Lane StationSeen))) → 0 < length rows → RowsStand k ds hs calls rows → seen_by rows ≡ hs
seen_are k ds hs calls [] some s = absurd (omega (arith, some))
seen_are k ds hs calls (row ∷ rows) some s = row_seen k ds hs calls row s.0

pub cleared_many : (rows : List (List (Lane StationSeen))) → length (map cleared rows) ≡ length rows
cleared_many [] = refl
cleared_many (row ∷ rows) = ap suc (cleared_many rows)

pub rested_many : (rows : List (List (Lane StationSeen))) → length (map rested rows) ≡ length rows
rested_many [] = refl
rested_many (row ∷ rows) = ap suc (rested_many rows)

pub left_many : (n : ℕ) (rows : List (List (Lane StationSeen))) → length (take n rows ++ map cleared (drop n rows)) ≡ length rows
left_many zero [] = refl
left_many zero (row ∷ rows) = cleared_many (row ∷ rows)
left_many (suc n) [] = refl
left_many (suc n) (row ∷ rows) = ap suc (left_many n rows)
