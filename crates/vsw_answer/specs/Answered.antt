-- What a row's answer is, at a history.
use Rattle.std.specs.Prelude.{◌≡◌, ℕ, List, false, true}
use Rattle.vsw_base.specs.declared.flow.Crossing.{Crossing}
use Rattle.vsw_base.specs.declared.header.Header.{Header}
use Rattle.vsw_base.specs.declared.packet.Control.TheVariants as control
use Rattle.vsw_base.specs.Frame.{Parts}
use Rattle.vsw_flows.specs.Flows.{Looking}
use Rattle.vsw_port.specs.declared.event.Event.{Event}
use Rattle.vsw_port.specs.Calls.{Carried, Reads}
use Rattle.vsw_port.specs.History.{replay}
use Rattle.vsw_port.specs.declared.crossing.Outcome.{Outcome}
use Rattle.vsw_port.specs.Crossed.{EditsPass, IsOwn}
use Rattle.vsw_rows.specs.GoodRows.{opening_of}

-- the packet has no control, and the outcome is that of the layers after this history, where the packet changes nothing
pub record AnsweredAt (l : Looking) (x : Crossing) (h : List Event) (edited : List Header) (outcome : Outcome) : Type 0 where
  pub control : x.control ≡ control.None
  pub reads : (p : Parts) (bytes : List ℕ) → Reads (replay (opening_of l.1) h) (Carried x p outcome.fate bytes)
  pub edits : EditsPass (replay (opening_of l.1) h) x edited outcome.kept outcome.fate
  pub own : outcome.own ≡ true → IsOwn x edited outcome.kept
  pub entry : outcome.entry ≡ false
