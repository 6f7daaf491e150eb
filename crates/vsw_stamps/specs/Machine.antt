-- Rows that are read without a lock: what there is, and what each step asks and does.
use Rattle.std.specs.Prelude.{ℕ, zero, suc, ◌≡◌, ◌≢◌, ◌<◌, ◌+◌, ◌==◌, Bool, true, false, not, ◌&&◌, ◌||◌, if◌then◌else◌, nat_lt, List, [], ◌∷◌, ◌++◌, length, replicate, slice_index_or, slice_set, Option, None, Some, is_some}
use Rattle.vsw_stamps.specs.declared.step.Step.{Step}
use Rattle.vsw_stamps.specs.declared.step.Step.TheVariants.{Split, Join, LoadStamp, LoadWord, LoadCount, LoadStampAgain, StoreWord, ClearStamp, StoreStamp, StoreCount}
use Rattle.vsw_stamps.specs.declared.step.Load.{Load}
use Rattle.vsw_stamps.specs.declared.step.Load.TheVariants.{Stamp, Word, Count, Again}
use Rattle.vsw_stamps.specs.declared.step.Loaded.{Loaded}
use Rattle.vsw_stamps.specs.declared.shown.Seen.{Seen}
use Rattle.vsw_stamps.specs.declared.shown.Record.{Record}

-- an actor, and the beginning of the history that it has seen
pub record Actor (E : Type 0) : Type 0 where
  pub live : Bool
  pub front : List E

-- how many stamps were given so far, a stamp and 73 words a row, the history, the actors, and all that was loaded, the newest load first
pub record State (E : Type 0) : Type 0 where
  pub given : ℕ
  pub stamps : List ℕ
  pub rows : List (List ℕ)
  pub history : List E
  pub actors : List (Actor E)
  pub log : List Loaded

-- a finished lookup: a row, the stamp that it showed twice, how many entries were counted between, and the words that were loaded
pub record Lookup : Type 0 where
  pub row : ℕ
  pub stamp : ℕ
  pub count : ℕ
  pub words : List (ℕ × ℕ)

abbrev pub has_row : ℕ → List Seen → Bool
has_row r [] = false
has_row r (x ∷ xs) = (x.row == r) || has_row r xs

abbrev pub with_word : ℕ → ℕ → ℕ → List Seen → List Seen
with_word r k value [] = []
with_word r k value (x ∷ xs) = if x.row == r then record x { words = (k, value) ∷ x.words } ∷ xs else x ∷ with_word r k value xs

abbrev pub no_record : Record
no_record = record { count = None; rows = [] }

-- a record after one more load: a stamp opens it, the count closes it
abbrev pub recorded : Load → Record → Record
recorded (Stamp r stamp afresh) x = record { count = None; rows = record { row = r; stamp = stamp; words = [] } ∷ (if afresh then [] else x.rows) }
recorded (Word r k value) x = record { count = x.count; rows = with_word r k value x.rows }
recorded (Count n) x = record { count = Some n; rows = x.rows }
recorded (Again r stamp) x = x

-- the record of an actor
abbrev pub record_of : ℕ → List Loaded → Record
record_of a [] = no_record
record_of a (x ∷ xs) = if x.actor == a then recorded x.load (record_of a xs) else record_of a xs

abbrev pub is_closed : Record → Bool
is_closed x = is_some x.count

-- what a record that counted n entries holds of a row with this stamp
abbrev pub held : ℕ → ℕ → ℕ → List Seen → List Lookup
held r stamp n [] = []
held r stamp n (x ∷ xs) = if (x.row == r) && (x.stamp == stamp) then record { row = r; stamp = stamp; count = n; words = x.words } ∷ held r stamp n xs else held r stamp n xs

-- the lookup that a load finishes: the stamp, loaded again, isn't 0 and is the one that the closed record holds of the row
abbrev pub finished_by : Load → Option ℕ → List Seen → List Lookup
finished_by (Stamp r stamp afresh) count xs = []
finished_by (Word r k value) count xs = []
finished_by (Count n) count xs = []
finished_by (Again r stamp) None xs = []
finished_by (Again r stamp) (Some n) xs = if stamp == 0 then [] else held r stamp n xs

-- all finished lookups, the newest first
abbrev pub finished : List Loaded → List Lookup
finished [] = []
finished (x ∷ xs) = finished_by x.load (record_of x.actor xs).count (record_of x.actor xs).rows ++ finished xs

module _ {E : Type 0} where
  abbrev pub stamp_at : State E → ℕ → ℕ
  stamp_at m r = slice_index_or m.stamps r 0

  abbrev pub row_at : State E → ℕ → List ℕ
  row_at m r = slice_index_or m.rows r []

  -- a row is current where its stamp isn't 0
  abbrev pub is_current : State E → ℕ → Bool
  is_current m r = not (stamp_at m r == 0)

  abbrev pub no_actor : Actor E
  no_actor = record { live = false; front = [] }

  abbrev pub actor_at : State E → ℕ → Actor E
  actor_at m a = slice_index_or m.actors a no_actor

  abbrev pub is_live : State E → ℕ → Bool
  is_live m a = (actor_at m a).live

  abbrev pub living : List E → Actor E
  living front = record { live = true; front = front }

  -- the longer of two fronts
  abbrev pub longer : List E → List E → List E
  longer xs ys = if nat_lt (length xs) (length ys) then ys else xs

  abbrev pub logged : State E → ℕ → Load → State E
  logged m a load = record m { log = record { actor = a; load = load } ∷ m.log }

  -- the record of an actor is closed, or holds the row: a stamp is loaded afresh
  abbrev pub is_afresh : State E → ℕ → ℕ → Bool
  is_afresh m a r = is_closed (record_of a m.log) || has_row r (record_of a m.log).rows

  module _ (good : List E → List ℕ → Type 0) where
    -- the condition of a step
    abbrev pub Can : State E → Step E → Type 0
    Can m (Split a) = is_live m a ≡ true
    Can m (Join a b) = (is_live m a ≡ true) × (is_live m b ≡ true) × (a ≢ b)
    Can m (LoadStamp a r) = (is_live m a ≡ true) × (r < length m.stamps)
    Can m (LoadWord a r k) = (is_live m a ≡ true) × (r < length m.stamps) × (k < 73) × (is_closed (record_of a m.log) ≡ false) × (has_row r (record_of a m.log).rows ≡ true)
    Can m (LoadCount a) = is_live m a ≡ true
    Can m (LoadStampAgain a r) = (is_live m a ≡ true) × (r < length m.stamps) × (is_closed (record_of a m.log) ≡ true) × (has_row r (record_of a m.log).rows ≡ true)
    Can m (StoreWord r k value) = (r < length m.stamps) × (k < 73) × (stamp_at m r ≡ 0)
    Can m (ClearStamp r) = r < length m.stamps
    Can m (StoreStamp r) = (r < length m.stamps) × (stamp_at m r ≡ 0) × (m.given < 18446744073709551615) × good m.history (row_at m r)
    Can m (StoreCount e) = (length m.history < 4294967295) × ((r : ℕ) → stamp_at m r ≢ 0 → good (m.history ++ e ∷ []) (row_at m r))

  -- the effect of a step
  abbrev pub next : State E → Step E → State E
  next m (Split a) = record m { actors = m.actors ++ living (actor_at m a).front ∷ [] }
  next m (Join a b) = record m { actors = slice_set (slice_set m.actors a (living (longer (actor_at m a).front (actor_at m b).front))) b (record { live = false; front = (actor_at m b).front }) }
  next m (LoadStamp a r) = logged m a (Stamp r (stamp_at m r) (is_afresh m a r))
  next m (LoadWord a r k) = logged m a (Word r k (slice_index_or (row_at m r) k 0))
  next m (LoadCount a) = logged (record m { actors = slice_set m.actors a (living m.history) }) a (Count (length m.history))
  next m (LoadStampAgain a r) = logged m a (Again r (stamp_at m r))
  next m (StoreWord r k value) = record m { rows = slice_set m.rows r (slice_set (row_at m r) k value) }
  next m (ClearStamp r) = record m { stamps = slice_set m.stamps r 0 }
  next m (StoreStamp r) = record m { given = m.given + 1; stamps = slice_set m.stamps r (m.given + 1) }
  next m (StoreCount e) = record m { history = m.history ++ e ∷ [] }

  -- a new machine has given no stamp, and has no entries and one actor; all stamps and words are 0
  abbrev pub fresh : ℕ → State E
  fresh n = record { given = 0; stamps = replicate n 0; rows = replicate n (replicate 73 0); history = []; actors = living [] ∷ []; log = [] }

  -- steps, each of whose conditions holds, lead from one state to another
  abbrev pub Leads : (List E → List ℕ → Type 0) → State E → List (Step E) → State E → Type 0
  Leads good m [] n = m ≡ n
  Leads good m (s ∷ ss) n = Can good m s × Leads good (next m s) ss n

  module _ (test : List E → List ℕ → Bool) where
    -- the first n rows are good after these entries, where they are current
    abbrev pub rows_good : List E → List ℕ → List (List ℕ) → ℕ → Bool
    rows_good h stamps rows zero = true
    rows_good h stamps rows (suc n) = rows_good h stamps rows n && ((slice_index_or stamps n 0 == 0) || test h (slice_index_or rows n []))

    -- whether the condition of a step holds
    abbrev pub can : State E → Step E → Bool
    can m (Split a) = is_live m a
    can m (Join a b) = is_live m a && is_live m b && not (a == b)
    can m (LoadStamp a r) = is_live m a && nat_lt r (length m.stamps)
    can m (LoadWord a r k) = is_live m a && nat_lt r (length m.stamps) && nat_lt k 73 && not (is_closed (record_of a m.log)) && has_row r (record_of a m.log).rows
    can m (LoadCount a) = is_live m a
    can m (LoadStampAgain a r) = is_live m a && nat_lt r (length m.stamps) && is_closed (record_of a m.log) && has_row r (record_of a m.log).rows
    can m (StoreWord r k value) = nat_lt r (length m.stamps) && nat_lt k 73 && not (is_current m r)
    can m (ClearStamp r) = nat_lt r (length m.stamps)
    can m (StoreStamp r) = nat_lt r (length m.stamps) && not (is_current m r) && nat_lt m.given 18446744073709551615 && test m.history (row_at m r)
    can m (StoreCount e) = nat_lt (length m.history) 4294967295 && rows_good (m.history ++ e ∷ []) m.stamps m.rows (length m.stamps)

  -- what a list of steps leaves, where a step whose condition doesn't hold changes nothing
  abbrev pub run : (List E → List ℕ → Bool) → State E → List (Step E) → State E
  run test m [] = m
  run test m (s ∷ ss) = run test (if can test m s then next m s else m) ss
