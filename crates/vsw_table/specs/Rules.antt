-- The rule of the shared table: it shows a state of the machine that steps of the machine lead to, and each pass holds what the writer keeps for it.
use Rattle.std.specs.Prelude.{ℕ, ◌≡◌, ◌+◌, ◌-◌, ◌<◌, ◌≤◌, ◌==◌, if◌then◌else◌, true, false, List, [], ◌∷◌, ◌++◌, length, replicate, slice_index_or, slice_set, Some, None}
use mathlib.Core.List.{IsPrefix}
use mathlib.Core.Option.{some}
use lib.ListN.{get_elem?}
use Rattle.atomic_table.specs.Table as table
use Rattle.atomic_table.specs.Table.{Me}
use Rattle.vsw_stamps.specs.declared.step.Step.{Step}
use Rattle.vsw_stamps.specs.declared.step.Load.TheVariants.{Count}
use Rattle.vsw_stamps.specs.declared.shown.Record.{Record}
use Rattle.vsw_stamps.specs.Machine.{State, no_record, recorded, record_of, actor_at, is_live, longer, fresh, Leads}
use Rattle.vsw_table.specs.declared.view.View.{View}
use Rattle.vsw_table.specs.Places.{table_size, stamp_place, word_place}

module _ {E : Type 0} (who : E → ℕ) where
  -- the entries that name n, in order
  abbrev pub by_caller : ℕ → List E → List E
  by_caller n [] = []
  by_caller n (e ∷ es) = if who e == n then e ∷ by_caller n es else by_caller n es

  -- each entry names a number below n
  abbrev pub AllBelow : ℕ → List E → Type 0
  AllBelow n [] = Unit {0}
  AllBelow n (e ∷ es) = (who e < n) × AllBelow n es

-- the rows: a stamp and 73 words each; a row whose stamp is 0 says nothing
abbrev pub stamp_at : List ℕ → ℕ → ℕ
stamp_at stamps r = slice_index_or stamps r 0

abbrev pub row_at : List (List ℕ) → ℕ → List ℕ
row_at rows r = slice_index_or rows r []

abbrev pub AreWide : List (List ℕ) → Type 0
AreWide [] = Unit {0}
AreWide (row ∷ rows) = (length row ≡ 73) × AreWide rows

-- n rows, each with a stamp and 73 words
abbrev pub HasRows : ℕ → List ℕ → List (List ℕ) → Type 0
HasRows n stamps rows = (length stamps ≡ n) × (length rows ≡ n) × AreWide rows

-- the table's words tell of so many entries and of these rows: word 0 is 2^32 and the number of entries, and each stamp and word stands in its place
pub record IsLaid (n : ℕ) (words : List ℕ) (entries : ℕ) (stamps : List ℕ) (rows : List (List ℕ)) : Type 0 where
  pub long : length words ≡ table_size n
  pub count : slice_index_or words 0 0 ≡ 4294967296 + entries
  pub stamp : (r : ℕ) → r < n → slice_index_or words (stamp_place r) 0 ≡ stamp_at stamps r
  pub word : (r k : ℕ) → r < n → k < 73 → slice_index_or words (word_place n r k) 0 ≡ slice_index_or (row_at rows r) k 0

-- what a record has once the entries of this history were counted, and nothing else was loaded
abbrev pub counted_record : {E : Type 0} → List E → Record
counted_record h = recorded (Count (length h)) no_record

module _ {O E : Type 0} where
  abbrev pub permits_of : View O E → ℕ → ℕ
  permits_of t n = slice_index_or t.kept n 0

  -- a view is what the actor of this number has seen and recorded; the writer's also is the machine's stamps, rows and history
  pub record IsOf (m : State E) (a : ℕ) (v : View O E) : Type 0 where
    pub live : v.live ≡ is_live m a
    pub front : v.live ≡ true → v.writes ≡ false → longer v.front v.told ≡ (actor_at m a).front
    pub begins : v.live ≡ true → IsPrefix v.front m.history × IsPrefix v.told m.history
    pub shown : v.live ≡ true → v.shown ≡ record_of a m.log
    pub knows : v.writes ≡ true → (v.given ≡ m.given) × (v.stamps ≡ m.stamps) × (v.rows ≡ m.rows) × (v.history ≡ m.history)

  -- the table shows a machine: its words tell the machine's, and each seat is an actor of it
  pub record IsShown (good : List E → List ℕ → Type 0) (n seat : ℕ) (s : table.State E (View O E)) : Type 0 where
    -- steps of the machine, each of whose conditions holds, and where they lead a new one of n rows
    pub steps : List (Step E)
    pub machine : State E
    pub leads : Leads good (fresh n) steps machine
    pub words : IsLaid n s.words (length machine.history) machine.stamps machine.rows
    pub many : length machine.stamps ≡ n
    pub seats : length s.views ≡ length machine.actors
    pub each : (id : ℕ) (v : View O E) → get_elem? s.views id ≡ some v → IsOf machine id v
    -- no seat but one writes
    pub alone : (id : ℕ) (v : View O E) → get_elem? s.views id ≡ some v → v.writes ≡ true → id ≡ seat

  -- what the writer keeps of the passes: each has few entries and permits together, so the history is short
  pub record IsDesk (who : O → E → ℕ) (opening : O) (t : View O E) : Type 0 where
    pub writes : t.writes ≡ true
    pub live : t.live ≡ true
    pub opens : t.opening ≡ Some opening
    pub named : AllBelow (who opening) t.passes t.history
    pub kept : length t.kept ≡ t.passes
    pub few : t.passes ≤ 24
    pub granted : (n : ℕ) → length (by_caller (who opening) n t.history) + permits_of t n ≤ 134217728

  -- a view beside the writer's: a pass stands at its number's place, its receipts are the entries that name it, and its permits those that the writer keeps for it
  pub record Fits (who : O → E → ℕ) (opening : O) (place : ℕ → ℕ) (t : View O E) (id : ℕ) (v : View O E) : Type 0 where
    pub placed : v.crosses ≡ true → (place v.number ≡ id) × (v.number < t.passes)
    pub receipts : v.crosses ≡ true → v.receipts ≡ by_caller (who opening) v.number t.history
    pub permits : v.crosses ≡ true → v.permits ≡ permits_of t v.number
    pub opens : v.crosses ≡ true → v.opening ≡ t.opening

  pub record IsManned (who : O → E → ℕ) (opening : O) (seat : ℕ) (t : View O E) (views : List (View O E)) : Type 0 where
    pub place : ℕ → ℕ
    pub here : get_elem? views seat ≡ some t
    pub desk : IsDesk who opening t
    pub each : (id : ℕ) (v : View O E) → get_elem? views id ≡ some v → Fits who opening place t id v

  pub record IsKept (who : O → E → ℕ) (good : O → List E → List ℕ → Type 0) (opening : O) (n : ℕ) (s : table.State E (View O E)) : Type 0 where
    pub seat : ℕ
    pub truth : View O E
    pub shown : IsShown (good opening) n seat s
    pub manned : IsManned who opening seat truth s.views

  -- the views
  abbrev pub spent : View O E
  spent = record { live = false; writes = false; history = []; given = 0; passes = 0; kept = []; stamps = []; rows = []; crosses = false; number = 0; receipts = []; permits = 0; front = []; told = []; opening = None; shown = no_record; tried = []; last = []; looks = 0 }

  abbrev pub writer : O → List ℕ → List (List ℕ) → View O E
  writer o stamps rows = record spent { live = true; writes = true; opening = Some o; stamps = stamps; rows = rows }

  -- the writer's view of a new table of n rows
  abbrev pub first_view : O → ℕ → View O E
  first_view o n = writer o (replicate n 0) (replicate n (replicate 73 0))

  abbrev pub one_more : View O E → View O E
  one_more t = record t { passes = t.passes + 1; kept = t.kept ++ 0 ∷ [] }

  abbrev pub newcomer : View O E → View O E
  newcomer t = record spent { live = true; crosses = true; number = t.passes; front = t.history; opening = t.opening; shown = counted_record t.history }

  abbrev pub noted : View O E → View O E
  noted v = record spent { live = true; front = v.front }

  abbrev pub informed : View O E → View O E → View O E
  informed v w = record v { told = w.front }

  -- the view of a pass that goes to a new seat, which has loaded nothing yet
  abbrev pub moved : View O E → View O E
  moved v = record v { shown = no_record }

  -- the writer's view with all of a pass's
  abbrev pub lent : View O E → View O E → View O E
  lent t v = record t { crosses = v.crosses; number = v.number; receipts = v.receipts; permits = v.permits; front = v.front; told = v.told; last = v.last; looks = v.looks }

  -- and apart again
  abbrev pub writer_of : View O E → View O E
  writer_of t = record t { crosses = false; number = 0; receipts = []; permits = 0; front = []; told = []; last = []; looks = 0 }

  abbrev pub pass_of : View O E → View O E
  pass_of t = record spent { live = true; crosses = t.crosses; number = t.number; receipts = t.receipts; permits = t.permits; front = t.history; opening = t.opening; shown = counted_record t.history; last = t.last; looks = t.looks }

  abbrev pub granted : View O E → ℕ → View O E
  granted t k = record t { permits = t.permits + k; kept = slice_set t.kept t.number (t.permits + k) }

  abbrev pub advanced : View O E → E → View O E
  advanced t e = record t { history = t.history ++ e ∷ []; receipts = t.receipts ++ e ∷ []; permits = t.permits - 1; kept = slice_set t.kept t.number (t.permits - 1) }
