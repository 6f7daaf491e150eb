-- The rows of a port, as its writer sees them: which are current, what they say, and which fall.
use Rattle.std.specs.Prelude.{◌≡◌, ◌≢◌, ◌⊎◌, ℕ, List, Bool, true, false, slice_set, Some}
use Rattle.atomic_table.specs.Seated.{TableId}
use Rattle.vsw_port.specs.declared.event.Event.{Event}
use Rattle.vsw_policy.specs.declared.command.Command.{Command}
use Rattle.vsw_policy.specs.Layer.{LayerSeen}
use Rattle.vsw_policy.specs.Layers.{PolicySeen}
use Rattle.vsw_rows.specs.Good.{Row}
use Rattle.vsw_rows.specs.Rows.{Says, leaning}
use Rattle.vsw_rows.specs.Shaken.{shake}
use Rattle.vsw_rows.specs.Way.{looks}
use Rattle.vsw_walk.specs.declared.scratch.Wanted.{Wanted}
use Rattle.vsw_spares.specs.Entry.{entry_shakes}
use Rattle.vsw_spares.specs.Spared.{spares}
use Rattle.vsw_table.specs.Held.{Held, has_stamps}
use Rattle.vsw_table.specs.Rules.{row_at, stamp_at}

-- the right to write rows: its table, the history, and the stamps and words of the rows
abbrev pub Writing : Type 0
Writing = Held PolicySeen Event

-- a lookup as contracts see it: its table, the policy that its port began with, and how many rows it has
abbrev pub Looking : Type 0
Looking = TableId × PolicySeen × ℕ

-- a writer or a pass of this lookup
pub record IsOf (l : Looking) (v : Writing) : Type 0 where
  pub table : v.table ≡ l.0
  pub opens : v.view.opening ≡ Some l.1

-- a row is current where its stamp isn't 0
abbrev pub IsCurrent : Writing → ℕ → Type 0
IsCurrent v place = stamp_at v.view.stamps place ≢ 0

-- a current row, and what its words say
pub record IsOne (v : Writing) (place : ℕ) (r : Row) : Type 0 where
  pub current : IsCurrent v place
  pub says : Says (row_at v.view.rows place) r

-- the stamp of the row at a place was taken away, for this reason, or is as it was
abbrev pub OrFell : (ℕ → Type 0) → Writing → Writing → ℕ → Type 0
OrFell P v w place = (stamp_at w.view.stamps place ≡ stamp_at v.view.stamps place) ⊎ ((stamp_at w.view.stamps place ≡ 0) × P place)

-- some stamps were taken away, for this reason, and all else is as it was. A stamp that was taken away without need costs a walk
pub record Falls (P : ℕ → Type 0) (v w : Writing) : Type 0 where
  pub same : w ≡ record v { view = record v.view { stamps = w.view.stamps } }
  pub each : (place : ℕ) → OrFell P v w place

-- for any reason
abbrev pub Any : ℕ → Type 0
Any place = Unit {0}

-- a row was put: it has the words, and a stamp if one was left; or it has none, and its words stay. Other rows may have given way
pub record Puts (v w : Writing) (row : ℕ) (words : List ℕ) (done : Bool) : Type 0 where
  pub same : w ≡ record v { view = record v.view { given = w.view.given; stamps = w.view.stamps; rows = w.view.rows } }
  pub put : done ≡ true → (w.view.rows ≡ slice_set v.view.rows row words) × (has_stamps v.view ≡ true → IsCurrent w row)
  pub reads : done ≡ true → row_at w.view.rows row ≡ words
  pub left : done ≡ false → (w.view.rows ≡ v.view.rows) × (IsCurrent w row → ⊥)
  pub others : (place : ℕ) → place ≢ row → OrFell Any v w place

-- an entry at these layers shakes no current row
abbrev pub Spares : List LayerSeen → Event → Writing → Type 0
Spares ls e v = (place : ℕ) (r : Row) → IsOne v place r → entry_shakes ls e (leaning ls r) ≡ false

-- changes of these layers shake no current row
abbrev pub NoneShaken : List LayerSeen → List Wanted → Writing → Type 0
NoneShaken ls ws v = (place : ℕ) (r : Row) → IsOne v place r → shake ls ws (looks ls r.id) ≡ false

-- a row fell only where it was shaken
abbrev pub OthersStay : List LayerSeen → List Wanted → Writing → Writing → Type 0
OthersStay ls ws v w = (place : ℕ) (r : Row) → IsOne v place r → shake ls ws (looks ls r.id) ≡ false → stamp_at w.view.stamps place ≡ stamp_at v.view.stamps place

-- a command at these layers spares each current row
abbrev pub AllSpared : List LayerSeen → ℕ → Command → Writing → Type 0
AllSpared ls c m v = (place : ℕ) (r : Row) → IsOne v place r → spares ls c m (looks ls r.id) ≡ true
