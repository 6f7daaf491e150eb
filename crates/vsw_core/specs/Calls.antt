-- What a call leaves: the entry that it makes, if it makes one, and which rows fall.
use Rattle.std.specs.Prelude.{◌≡◌, ◌-◌, ◌++◌, ℕ, List, Bool, true, false, length, slice_set}
use Rattle.vsw_policy.specs.declared.command.Command.{Command}
use Rattle.vsw_policy.specs.Layer.{LayerSeen}
use Rattle.vsw_policy.specs.Layers.{PolicySeen}
use Rattle.vsw_port.specs.declared.event.Event.{Event}
use Rattle.vsw_rows.specs.Good.{Row}
use Rattle.vsw_rows.specs.Rows.{leaning}
use Rattle.vsw_spares.specs.Entry.{entry_shakes}
use Rattle.vsw_table.specs.declared.view.View.{View}
use Rattle.vsw_table.specs.Rules.{counted_record, stamp_at}
use Rattle.vsw_flows.specs.Flows.{AllSpared, Any, IsOne, OrFell, Writing}

-- the pass after a call that made these entries: it has seen the whole history, its receipts grow by them, and each took a permit
abbrev pub called : View PolicySeen Event → List Event → List Event → View PolicySeen Event
called p h es = record p { front = h; receipts = p.receipts ++ es; permits = p.permits - length es; shown = counted_record h }

-- the writer after a call of this pass that made these entries. How the stamps and words of rows stand, as in `w`, is said beside it
abbrev pub grown : View PolicySeen Event → View PolicySeen Event → List Event → View PolicySeen Event → View PolicySeen Event
grown t p es w = record t { history = t.history ++ es; kept = slice_set t.kept p.number (p.permits - length es); given = w.given; stamps = w.stamps; rows = w.rows }

-- some rows lost their stamps. All words and other stamps are as they were
pub record RowsFell (v w : Writing) : Type 0 where
  pub given : w.view.given ≡ v.view.given
  pub words : w.view.rows ≡ v.view.rows
  pub each : (place : ℕ) → OrFell Any v w place

-- of the current rows those fell that this entry shakes at these layers, and no others
pub record FallsBy (ls : List LayerSeen) (e : Event) (v w : Writing) : Type 0 where
  pub fell : RowsFell v w
  pub falls : (place : ℕ) (r : Row) → IsOne v place r → entry_shakes ls e (leaning ls r) ≡ true → stamp_at w.view.stamps place ≡ 0
  pub stays : (place : ℕ) (r : Row) → IsOne v place r → entry_shakes ls e (leaning ls r) ≡ false → stamp_at w.view.stamps place ≡ stamp_at v.view.stamps place

-- rows fell over a command at these layers. Where it was obeyed, it spares each row that is current still. That it takes the stamps of others is
-- harmless, also where it is refused or memory is wanting: it costs them a walk
pub record FallsOver (ls : List LayerSeen) (c : ℕ) (m : Command) (obeyed : Bool) (v w : Writing) : Type 0 where
  pub fell : RowsFell v w
  pub spared : obeyed ≡ true → AllSpared ls c m w
