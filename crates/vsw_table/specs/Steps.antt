-- What each step on the table tells.
use Rattle.std.specs.Prelude.{ℕ, ◌≡◌, ◌+◌, ◌%◌, ◌<◌, ◌==◌, ◌||◌, if◌then◌else◌, Bool, false, List, [], ◌∷◌, ◌++◌, length, slice_index_or, slice_set, Some, None}
use mathlib.Core.List.{IsPrefix}
use mathlib.Core.Option.{some}
use Rattle.atomic_table.specs.Table.{Me, Step}
use Rattle.vsw_stamps.specs.declared.step.Load.TheVariants.{Stamp, Count, Again}
use Rattle.vsw_stamps.specs.declared.shown.Seen.{Seen}
use Rattle.vsw_stamps.specs.Machine.{recorded, finished_by, has_row, is_closed, longer}
use Rattle.vsw_stamps.specs.Order.{word_at}
use Rattle.vsw_stamps.specs.Sound.{AreRight}
use Rattle.vsw_table.specs.declared.view.View.{View}
use Rattle.vsw_table.specs.declared.view.Tried.{Tried}
use Rattle.vsw_table.specs.Places.{stamp_place, word_place}
use Rattle.vsw_table.specs.Rules.{by_caller, AllBelow, permits_of, stamp_at, row_at, granted, advanced}

-- the row that was tried last has more words read
abbrev pub appended : List Tried → List ℕ → List Tried
appended [] ns = []
appended (x ∷ xs) ns = record x { words = x.words ++ ns } ∷ xs

-- further words of a row, each with its place in it; so many were loaded before
abbrev pub numbered : List ℕ → List (ℕ × ℕ) → List (ℕ × ℕ)
numbered [] ws = ws
numbered (n ∷ ns) ws = numbered ns ((word_at (length ws), n) ∷ ws)

-- the row that was recorded last has more words
abbrev pub grown : List Seen → List ℕ → List Seen
grown [] ns = []
grown (x ∷ xs) ns = record x { words = numbered ns x.words } ∷ xs

-- the row that was tried last has this stamp afterwards
abbrev pub marked : ℕ → List Tried → List Tried
marked n [] = []
marked n (x ∷ xs) = record x { again = Some n } ∷ xs

abbrev pub is_same : ℕ → List Tried → Bool
is_same n [] = false
is_same n (x ∷ xs) = x.stamp == n

module _ {O E : Type 0} where
  -- a row's stamp is loaded
  abbrev pub stamped : View O E → ℕ → ℕ → View O E
  stamped v r n = record v { tried = (record { row = r; stamp = n; words = []; again = None }) ∷ v.tried; shown = recorded (Stamp r n (is_closed v.shown || has_row r v.shown.rows)) v.shown }

  abbrev pub Stamped : Step E → Me E (View O E) → ℕ → Me E (View O E) → Type 0
  Stamped s v n w = (r : ℕ) → s.word ≡ stamp_place r → w ≡ (stamped v.0 r n, v.1)

  -- further words of the row whose stamp was loaded last
  abbrev pub worded : View O E → List ℕ → View O E
  worded v ns = record v { tried = appended v.tried ns; shown = record v.shown { rows = grown v.shown.rows ns } }

  abbrev pub Reads : Step E → Me E (View O E) → ℕ → Me E (View O E) → Type 0
  Reads s v n w = w ≡ (worded v.0 (n ∷ []), v.1)

  -- the entries are counted, and the history so far is seen
  abbrev pub counted : View O E → List E → ℕ → View O E
  counted v h n = record v { front = h; told = []; shown = recorded (Count n) v.shown }

  -- a look ends
  abbrev pub ended : View O E → View O E
  ended v = record v { tried = []; last = v.tried; looks = v.looks + 1 }

  pub record Counted (then_is : View O E → View O E) (v : View O E) (n : ℕ) (w : View O E) : Type 0 where
    pub same : w ≡ then_is (counted v w.front (n % 4294967296))
    pub later : IsPrefix v.front w.front
    pub told : IsPrefix v.told w.front
    pub count : length w.front ≡ n % 4294967296

  abbrev pub Counts : Step E → Me E (View O E) → ℕ → Me E (View O E) → Type 0
  Counts s v n w = (w.1 ≡ v.1) × Counted (λ u. u) v.0 n w.0

  abbrev pub Ends : Step E → Me E (View O E) → ℕ → Me E (View O E) → Type 0
  Ends s v n w = (w.1 ≡ v.1) × Counted ended v.0 n w.0

  -- the stamp of the row that was tried last is loaded again; the look ends if it is the same
  abbrev pub compared : View O E → ℕ → View O E
  compared v n = if is_same n v.tried then ended (record v { tried = marked n v.tried }) else record v { tried = marked n v.tried }

  -- it tells that the lookup which it finishes, if it does, is right
  abbrev pub Compares : (O → List E → List ℕ → Type 0) → Step E → Me E (View O E) → ℕ → Me E (View O E) → Type 0
  Compares good s v n w = (w ≡ (compared v.0 n, v.1)) × ((o : O) (r : ℕ) → v.0.opening ≡ Some o → s.word ≡ stamp_place r → AreRight (good o) (longer v.0.front v.0.told) (finished_by (Again r n) v.0.shown.count v.0.shown.rows))

  -- a word of a row is stored, while its stamp is 0
  abbrev pub with_word : View O E → ℕ → ℕ → ℕ → View O E
  with_word t r k n = record t { rows = slice_set t.rows r (slice_set (row_at t.rows r) k n) }

  abbrev pub PutsWord : Step E → Me E (View O E) → ℕ → Me E (View O E) → Type 0
  PutsWord s v n w = (r k : ℕ) → r < length v.0.stamps → k < 73 → s.word ≡ word_place (length v.0.stamps) r k → w ≡ (with_word v.0 r k n, v.1)

  -- a stamp is taken away. That is right at any time: where the row was good it costs one walk
  abbrev pub shaken : View O E → ℕ → View O E
  shaken t r = record t { stamps = slice_set t.stamps r 0 }

  abbrev pub Shakes : Step E → Me E (View O E) → ℕ → Me E (View O E) → Type 0
  Shakes s v n w = (r : ℕ) → s.word ≡ stamp_place r → w ≡ (shaken v.0 r, v.1)

  -- a stamp is given that no row had before. One that was given twice would pass words of two rows as one row's
  abbrev pub restamped : View O E → ℕ → View O E
  restamped t r = record t { given = t.given + 1; stamps = slice_set t.stamps r (t.given + 1) }

  abbrev pub Restamps : Step E → Me E (View O E) → ℕ → Me E (View O E) → Type 0
  Restamps s v n w = (r : ℕ) → s.word ≡ stamp_place r → w ≡ (restamped v.0 r, v.1)

  -- what stands at a place of the table, as the writer keeps it
  pub record StandsAt (t : View O E) (i n : ℕ) : Type 0 where
    pub stamp : (r : ℕ) → r < length t.stamps → i ≡ stamp_place r → n ≡ stamp_at t.stamps r
    pub word : (r k : ℕ) → r < length t.stamps → k < 73 → i ≡ word_place (length t.stamps) r k → n ≡ slice_index_or (row_at t.rows r) k 0

  -- the writer finds what it keeps
  abbrev pub Finds : Step E → Me E (View O E) → ℕ → Me E (View O E) → Type 0
  Finds s v n w = (w ≡ v) × StandsAt v.0 s.word n × (length v.0.history < 4294967295)

  -- the permits of the lent pass are those that the writer keeps for it
  abbrev pub IsHeld : View O E → Type 0
  IsHeld t = t.permits ≡ permits_of t t.number

  -- what a meeting tells of the pass and of the history
  pub record Tells (who : O → E → ℕ) (t : View O E) (o : O) : Type 0 where
    pub opens : t.opening ≡ Some o
    pub front : IsPrefix t.front t.history
    pub receipts : t.receipts ≡ by_caller (who o) t.number t.history
    pub named : AllBelow (who o) t.passes t.history
    pub permits : t.permits ≡ permits_of t t.number
    pub short : length t.history < 4294967295

  abbrev pub Grants : (O → E → ℕ) → Step E → Me E (View O E) → ℕ → Me E (View O E) → Type 0
  Grants who s v n w = (w ≡ (granted v.0 s.first, v.1)) × (n ≡ 4294967296 + length v.0.history) × ((o : O) → v.0.opening ≡ Some o → Tells who w.0 o) × IsHeld v.0

  -- an entry comes. Each row that keeps its stamp stays good: one stamp that is left on a bad row would answer by what was before
  abbrev pub Adds : Step E → Me E (View O E) → ℕ → Me E (View O E) → Type 0
  Adds s v n w = (e : E) → s.said ≡ some e → w ≡ (advanced v.0 e, v.1)
