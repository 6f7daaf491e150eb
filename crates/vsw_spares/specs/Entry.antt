-- Which entries of a port's history shake a row, with commands that spare.
use Rattle.std.specs.Prelude.{◌≡◌, ℕ, ◌&&◌, List, Bool, true, false, not}
use Rattle.vsw_base.specs.Shape.{is_stack}
use Rattle.vsw_policy.specs.Layer.{LayerSeen}
use Rattle.vsw_port.specs.Cross.{made_by}
use Rattle.vsw_port.specs.declared.event.Event.{Event}
use Rattle.vsw_port.specs.declared.event.Event.TheVariants as event
use Rattle.vsw_port.specs.History.{IsRight, after}
use Rattle.vsw_rows.specs.Entries.{is_obeyed}
use Rattle.vsw_rows.specs.Good.{IsGoodLeaning, LeaningRow, shaken}
use Rattle.vsw_spares.specs.Spared.{spares}

-- a command that was obeyed shakes a row that it doesn't spare, a refused one none, and a packet those that lean on a look that its changes
-- shake
abbrev pub entry_shakes : List LayerSeen → Event → LeaningRow → Bool
entry_shakes ls (event.Command controller line command reply) k = is_obeyed reply && not (spares ls controller command k.looks)
entry_shakes ls (event.Crossing x fate) k = shaken ls (made_by ls x) k

-- an entry leaves each good row good that it doesn't shake, whatever becomes of the others
abbrev pub EntrySpares : Type 0
EntrySpares = (cs : List ℕ) (ls : List LayerSeen) (e : Event) (k : LeaningRow) → IsRight cs ls e → is_stack k.row.id.stack ≡ true → entry_shakes ls e k ≡ false → IsGoodLeaning ls k → IsGoodLeaning (after cs ls e) k
