-- What contracts see of a writer, a pass or a note, and what their calls do.
use Rattle.std.specs.Prelude.{ℕ, ◌≡◌, ◌≢◌, ◌⊎◌, ◌+◌, ◌-◌, ◌%◌, ◌<◌, ◌≤◌, nat_lt, if◌then◌else◌, Bool, true, false, List, [], ◌∷◌, ◌++◌, length, slice_index_or, slice_set, Option, Some, None}
use mathlib.Core.List.{IsPrefix}
use Rattle.atomic_table.specs.Seated.{TableId}
use Rattle.vsw_stamps.specs.declared.shown.Seen.{Seen}
use Rattle.vsw_stamps.specs.Order.{word_at}
use Rattle.vsw_stamps.specs.Sound.{Fills}
use Rattle.vsw_table.specs.declared.view.View.{View}
use Rattle.vsw_table.specs.declared.view.Tried.{Tried}
use Rattle.vsw_table.specs.Rules.{by_caller, AllBelow, permits_of, spent, counted_record}
use Rattle.vsw_table.specs.Steps.{restamped}

-- its table, and its view
pub record Held (O E : Type 0) : Type 0 where
  pub table : TableId
  pub view : View O E

module _ {O E : Type 0} where
  -- at rest between calls
  abbrev pub IsWriter : View O E → Type 0
  IsWriter v = (v.writes ≡ true) × (v.crosses ≡ false) × (v.number ≡ 0) × (v.receipts ≡ []) × (v.permits ≡ 0) × (v.front ≡ []) × (v.told ≡ []) × (v.last ≡ []) × (v.looks ≡ 0)

  abbrev pub IsPass : View O E → Type 0
  IsPass v = v ≡ record spent { live = true; crosses = true; number = v.number; receipts = v.receipts; permits = v.permits; front = v.front; opening = v.opening; shown = v.shown; last = v.last; looks = v.looks }

  abbrev pub IsNote : View O E → Type 0
  IsNote v = (v.live ≡ true) × (v.writes ≡ false) × (v.told ≡ [])

  -- what meet tells: the pass has seen all, its receipts are the entries that name it, and it has the permits that the writer keeps for it
  pub record Meets (who : O → E → ℕ) (o : O) (t p : View O E) : Type 0 where
    pub receipts : p.receipts ≡ by_caller (who o) p.number t.history
    pub named : AllBelow (who o) t.passes t.history
    pub permits : p.permits ≡ permits_of t p.number
    pub short : length t.history < 4294967295

  abbrev pub after_entry : View O E → View O E → E → View O E
  after_entry t p e = record t { history = t.history ++ e ∷ []; kept = slice_set t.kept p.number (p.permits - 1) }

  abbrev pub passed : View O E → View O E → E → View O E
  passed p t e = record p { front = t.history; receipts = p.receipts ++ e ∷ []; permits = p.permits - 1; shown = counted_record t.history }

  -- there is a stamp left to give: 2^64 - 1 in all
  abbrev pub has_stamps : View O E → Bool
  has_stamps t = nat_lt t.given 18446744073709551615

  -- a row gets a fresh stamp, unless none is left: then it says nothing, which is harmless
  abbrev pub renewed : View O E → ℕ → View O E
  renewed t r = if has_stamps t then restamped t r else t

  -- a row becomes these words: its stamp is 0 meanwhile, and afterwards a fresh one
  abbrev pub put_in : View O E → ℕ → List ℕ → View O E
  put_in t r words = renewed (record t { stamps = slice_set t.stamps r 0; rows = slice_set t.rows r words }) r

  -- a pass has read, and seen no less
  abbrev pub IsRead : View O E → View O E → Type 0
  IsRead v w = (w ≡ record v { front = w.front; shown = w.shown; tried = w.tried; last = w.last; looks = w.looks }) × IsPrefix v.front w.front × (v.looks ≤ w.looks)

-- the row that was tried and recorded last is this one, and so many of its words were read
abbrev pub HasTop : List Tried → List Seen → ℕ → ℕ → Type 0
HasTop [] ys row n = ⊥
HasTop (x ∷ xs) [] row n = ⊥
HasTop (x ∷ xs) (y ∷ ys) row n = (y.row ≡ row) × (length y.words ≡ n)

-- a word that was read of a row's key differs from this key's
abbrev pub Differs : List ℕ → List ℕ → Type 0
Differs words key = (turn : ℕ) × (turn < length words) × (word_at turn < 16) × (slice_index_or words turn 0 ≢ slice_index_or key (word_at turn) 0)

abbrev pub HasChanged : ℕ → Option ℕ → Type 0
HasChanged stamp None = ⊥
HasChanged stamp (Some again) = again ≢ stamp

-- a row that was tried and has no answer: its stamp was 0, or its key is another, or its stamp was another afterwards. To miss a good row is harmless: a packet is walked once more
abbrev pub IsMissed : List ℕ → ℕ → Tried → Type 0
IsMissed key row x = (x.row ≡ row) × ((x.stamp ≡ 0) ⊎ (Differs x.words key ⊎ HasChanged x.stamp x.again))

abbrev pub Missed : List ℕ → ℕ → List Tried → Type 0
Missed key row [] = ⊥
Missed key row (x ∷ xs) = IsMissed key row x ⊎ Missed key row xs

-- the row was tried, its stamp wasn't 0 and was the same afterwards, and the words that were read tell this whole row
abbrev pub Found : (List ℕ → ℕ) → List ℕ → ℕ → List Tried → Type 0
Found used whole row [] = ⊥
Found used whole row (x ∷ xs) = ((x.row ≡ row) × (x.stamp ≢ 0) × (x.again ≡ Some x.stamp) × Fills used x.words whole) ⊎ Found used whole row xs

-- one of the eight rows from this slot on was found to be this whole row, or none of them has an answer for the key
abbrev pub FoundNear : (List ℕ → ℕ) → List ℕ → (rows slot : ℕ) → List Tried → Type 0
FoundNear used whole rows slot xs = (j : ℕ) × (j < 8) × Found used whole ((slot + j) % rows) xs

abbrev pub MissedNear : List ℕ → (rows slot : ℕ) → List Tried → Type 0
MissedNear key rows slot xs = (j : ℕ) → j < 8 → Missed key ((slot + j) % rows) xs
