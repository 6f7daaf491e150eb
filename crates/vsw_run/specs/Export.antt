-- What an export is: rows of each port that are good at the whole history of a run, as a rows file.
use Rattle.std.specs.Prelude.{◌≡◌, ℕ, List, [], ◌∷◌, length, true, false, Ok}
use Rattle.vsw_base.specs.declared.fate.Fate.{Fate}
use Rattle.vsw_base.specs.declared.flow.Crossing.{Crossing}
use Rattle.vsw_base.specs.Frame.{Parts, frame_of, sizes_of}
use Rattle.vsw_base.specs.Shape.{is_stack}
use Rattle.vsw_offload.specs.Answered.{IsAnswered}
use Rattle.vsw_offload.specs.Rows.{in_key_order, rows_bytes}
use Rattle.vsw_offload.specs.declared.port_rows.PortRows.{PortRows}
use Rattle.vsw_pcap.specs.declared.capture.Record.{Record}
use Rattle.vsw_policy.specs.Sound.{Each}
use Rattle.vsw_port.specs.declared.event.Event.{Event}
use Rattle.vsw_port.specs.Calls.{Carried, Reads, ShowsAt}
use Rattle.vsw_port.specs.History.{replay}
use Rattle.vsw_promise.specs.Jobs.{Setting, cuts}
use Rattle.vsw_promise.specs.Ports.{PortSeen, ports_of}
use Rattle.vsw_promise.specs.Rounds.{AreRounds, opening_of}
use Rattle.vsw_report.specs.Short.{are_short}
use Rattle.vsw_report.specs.declared.round.Round.{Round}
use Rattle.vsw_rows.specs.GoodRows.{IsGoodRow}

-- rows of a port in the order of their keys, each good at the port's history
pub record IsExported (p : PortSeen) (h : List Event) (r : PortRows) : Type 0 where
  pub port : r.port ≡ p.number
  pub mac : r.mac ≡ p.mac
  pub entries : r.entries ≡ length h
  pub good : Each (IsGoodRow (opening_of p) h) r.rows
  pub order : in_key_order r.rows ≡ r.rows

-- so it is of each port, in the policy's order
abbrev pub AreExported : List PortSeen → List (List Event) → List PortRows → Type 0
AreExported [] [] [] = Unit {0}
AreExported (p ∷ ps) (h ∷ hs) (r ∷ rs) = IsExported p h r × AreExported ps hs rs
AreExported _ _ _ = ⊥

-- the text is the rows file of ports whose histories are those of a run over the whole trace, in which memory was wanting nowhere
pub record IsExport (s : Setting) (records : List Record) (text : List ℕ) : Type 0 where
  pub rounds : List Round
  pub are : AreRounds s records (cuts s.commands (length records)) rounds
  pub whole : are_short rounds ≡ false
  pub rows : List PortRows
  pub exported : AreExported (ports_of s.policy) are.histories rows
  pub text_is : text ≡ rows_bytes rows

-- what exported rows answer a frame is the fate and the bytes of its crossing at that history, which changes nothing
abbrev pub ExportAnswersAsLayers : Type 0
ExportAnswersAsLayers = (p : PortSeen) (h : List Event) (r : PortRows) (x : Crossing) (frame : List ℕ) (parts : Parts) (fate : Fate) (bytes : List ℕ) → IsExported p h r → frame_of frame ≡ Ok parts → is_stack parts.stack ≡ true
    → x.id.stack ≡ parts.stack → x.sizes ≡ sizes_of parts.levels → IsAnswered r.rows x parts fate bytes → Reads (replay (opening_of p) h) (Carried x parts fate bytes) × ShowsAt (replay (opening_of p) h) (Carried x parts fate bytes)
