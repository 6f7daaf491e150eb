-- What every step keeps, and what it tells of finished lookups.
--
-- The argument. A record shows stamps and words as they were when they were loaded; rows change meanwhile.
-- 1. Words change only while their row's stamp is 0, and no stamp is given twice. So while a row has the stamp that a
--    record shows of it, and it isn't 0, the words that the record shows are the row's.
-- 2. A row gets a stamp only where it is good, and an entry is added only where each current row stays good. So every
--    current row is good at the history as it stands.
-- 3. The load of word 0 counts the entries. A row that has a record's stamp then, not 0, is current, so it is good after
--    as many entries; and it stays so while it has this stamp, as its words stay.
-- 4. Who loads the stamp again and finds the same, not 0, has by 1 and 3 the words of a row that is good after the
--    entries counted. Where it isn't the same, nothing is said: words of two rows may stand in the record.
use Rattle.std.specs.Prelude.{ℕ, ◌≡◌, ◌≢◌, ◌<◌, ◌≤◌, ◌⊎◌, Bool, List, [], ◌∷◌, ◌++◌, length, take, slice_index_or, Option, None, Some}
use mathlib.Core.List.{IsPrefix}
use Rattle.vsw_stamps.specs.declared.step.Load.TheVariants.{Stamp, Word, Count}
use Rattle.vsw_stamps.specs.declared.step.Loaded.{Loaded}
use Rattle.vsw_stamps.specs.Machine.{State, Lookup, no_record, record_of, finished_by, finished, stamp_at, row_at, actor_at}
use Rattle.vsw_stamps.specs.declared.shown.Seen.{Seen}
use Rattle.vsw_stamps.specs.Order.{word_at}

-- the words that were loaded are those of the row
abbrev pub AreOf : List ℕ → List (ℕ × ℕ) → Type 0
AreOf row [] = Unit {0}
AreOf row (w ∷ ws) = (slice_index_or row w.0 0 ≡ w.1) × AreOf row ws

module _ {E : Type 0} (good : List E → List ℕ → Type 0) where
  -- the row is good after as many entries as were counted, if they were
  abbrev pub IsGoodAt : List E → Option ℕ → List ℕ → Type 0
  IsGoodAt h None row = Unit {0}
  IsGoodAt h (Some n) row = (n ≤ length h) × good (take n h) row

  -- what a record shows of a row: none but a stamp that was given; and while this is the row's, and not 0, the words are the row's, which is good after as many entries as were counted
  abbrev pub IsTrueOf : State E → Option ℕ → Seen → Type 0
  IsTrueOf m count x = (x.stamp ≤ m.given) × (x.stamp ≢ 0 → stamp_at m x.row ≡ x.stamp → AreOf (row_at m x.row) x.words × IsGoodAt m.history count (row_at m x.row))

  abbrev pub AreTrue : State E → Option ℕ → List Seen → Type 0
  AreTrue m count [] = Unit {0}
  AreTrue m count (x ∷ xs) = IsTrueOf m count x × AreTrue m count xs

  -- the lookup's words are those of one row, which is good after as many entries as it counted
  abbrev pub IsRight : List E → Lookup → Type 0
  IsRight h l = (l.count ≤ length h) × ((row : List ℕ) × (length row ≡ 73) × AreOf row l.words × good (take l.count h) row)

  abbrev pub AreRight : List E → List Lookup → Type 0
  AreRight h [] = Unit {0}
  AreRight h (l ∷ ls) = IsRight h l × AreRight h ls

  pub record Sound (m : State E) : Type 0 where
    -- each row has a stamp and 73 words
    pub wide : (r : ℕ) → r < length m.stamps → length (row_at m r) ≡ 73
    pub even : length m.rows ≡ length m.stamps
    -- 32 bits count the entries
    pub short : length m.history ≤ 4294967295
    -- no row's stamp is above the number of stamps given, and no two rows have one stamp but 0
    pub stamps : (r : ℕ) → stamp_at m r ≤ m.given
    pub apart : (q r : ℕ) → stamp_at m q ≡ stamp_at m r → stamp_at m q ≢ 0 → q ≡ r
    -- each current row is good
    pub rows : (r : ℕ) → stamp_at m r ≢ 0 → good m.history (row_at m r)
    -- each actor has seen a beginning of the history, and no less than its record counts; who isn't there yet has an empty record
    pub fronts : (a : ℕ) → IsPrefix (actor_at m a).front m.history
    pub counts : (a n : ℕ) → (record_of a m.log).count ≡ Some n → n ≤ length (actor_at m a).front
    pub newcomers : (a : ℕ) → length m.actors ≤ a → record_of a m.log ≡ no_record
    -- each record is true
    pub records : (a : ℕ) → AreTrue m (record_of a m.log).count (record_of a m.log).rows
    -- each finished lookup is right
    pub lookups : AreRight m.history (finished m.log)

-- word k of the row was loaded with this value
abbrev pub Has : ℕ → ℕ → List (ℕ × ℕ) → Type 0
Has k value [] = ⊥
Has k value (w ∷ ws) = ((w.0 ≡ k) × (w.1 ≡ value)) ⊎ Has k value ws

-- a row is told by the words that are loaded of it first: all that are in use, as the first seven say, and beyond them the row is 0
abbrev pub Fills : (List ℕ → ℕ) → List ℕ → List ℕ → Type 0
Fills used words row = (7 ≤ length words) × (length words ≤ 73) × (used (take 7 words) ≤ length words) × (length row ≡ 73) × ((turn : ℕ) → turn < 73 → slice_index_or row (word_at turn) 0 ≡ slice_index_or words turn 0)

-- a lookup holds these words of a row
abbrev pub Tells : (List ℕ → ℕ) → Lookup → List ℕ → Type 0
Tells used l row = (words : List ℕ) × Fills used words row × ((turn : ℕ) → turn < length words → Has (word_at turn) (slice_index_or words turn 0) l.words)

-- the rows that lookups hold are good after as many entries as they counted
abbrev pub AllGood : {E : Type 0} → (List E → List ℕ → Type 0) → (List ℕ → ℕ) → List E → List Lookup → Type 0
AllGood good used h [] = Unit {0}
AllGood good used h (l ∷ ls) = ((row : List ℕ) → Tells used l row → good (take l.count h) row) × AllGood good used h ls

-- the load stands in the log, and these are the loads before it
abbrev pub Was : Loaded → List Loaded → List Loaded → Type 0
Was x before log = (later : List Loaded) × (log ≡ later ++ x ∷ before)

-- the actor loaded the row's stamp, and then these words, the newest first
abbrev pub WereLoaded : ℕ → ℕ → ℕ → List (ℕ × ℕ) → List Loaded → Type 0
WereLoaded a r s [] log = (afresh : Bool) × (before : List Loaded) × Was (record { actor = a; load = Stamp r s afresh }) before log
WereLoaded a r s (w ∷ ws) log = (before : List Loaded) × Was (record { actor = a; load = Word r w.0 w.1 }) before log × WereLoaded a r s ws before

-- the actor loaded the row's stamp, and then the count
abbrev pub WasCounted : ℕ → ℕ → ℕ → ℕ → List Loaded → Type 0
WasCounted a r s n log = (before : List Loaded) × Was (record { actor = a; load = Count n }) before log × WereLoaded a r s [] before

-- a lookup is what the actor loaded before it loaded the stamp again: the stamp, the words and the count
abbrev pub IsBetween : ℕ → List Loaded → Lookup → Type 0
IsBetween a log l = WereLoaded a l.row l.stamp l.words log × WasCounted a l.row l.stamp l.count log

abbrev pub AllBetween : ℕ → List Loaded → List Lookup → Type 0
AllBetween a log [] = Unit {0}
AllBetween a log (l ∷ ls) = IsBetween a log l × AllBetween a log ls

-- each load that finishes lookups was made after what they hold
abbrev pub AreBetween : List Loaded → Type 0
AreBetween [] = Unit {0}
AreBetween (x ∷ xs) = AllBetween x.actor xs (finished_by x.load (record_of x.actor xs).count (record_of x.actor xs).rows) × AreBetween xs
