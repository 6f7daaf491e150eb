-- What a run puts that answers a trace from a rows file alone: a line for each packet.
use Rattle.std.specs.Prelude.{◌≡◌, ℕ, suc, List, [], ◌∷◌, ◌++◌, get_or, Option, Some, None, Result, Ok, Err, codes, decimal}
use Rattle.vsw_base.specs.declared.fate.Fate.{Fate}
use Rattle.vsw_base.specs.declared.flow.Place.{Place}
use Rattle.vsw_base.specs.Frame.{Parts}
use Rattle.vsw_offload.specs.Answered.{Answered, rows_at}
use Rattle.vsw_offload.specs.Rows.{macs_of, numbers_of}
use Rattle.vsw_offload.specs.declared.port_rows.PortRows.{PortRows}
use Rattle.vsw_pcap.specs.declared.capture.Record.{Record}
use Rattle.vsw_promise.specs.Jobs.{aim_of, crossing_by}
use Rattle.vsw_report.specs.Print.{fate_text, loose_text}
use Rattle.vsw_report.specs.declared.round.LooseCause.{LooseCause}

-- the first line
abbrev pub engine_head : List ℕ
engine_head = codes "vsw engine 1\n"

-- what rows answer: a fate as a report has it, or that they answer nothing
abbrev pub answer_text : Option Fate → List ℕ → List ℕ
answer_text None bytes = codes "none"
answer_text (Some fate) bytes = fate_text fate bytes

-- the line of packet n, which goes to a port: the port's number, and what the port's rows answer
pub record IsAnswerLine (ports : List PortRows) (n moment : ℕ) (place : Place) (p : Parts) (line : List ℕ) : Type 0 where
  pub fate : Option Fate
  pub bytes : List ℕ
  pub answered : Answered (rows_at ports place.port) (crossing_by 0 n place moment p) p fate bytes
  pub line_is : line ≡ decimal n ++ codes " " ++ decimal (get_or (numbers_of ports) place.port 0) ++ codes " " ++ answer_text fate bytes ++ codes "\n"

-- the line of packet n by where it goes. A packet that goes nowhere has the line that a report tells of it
abbrev pub IsEngineLine : List PortRows → ℕ → ℕ → Result (Place × Parts) LooseCause → List ℕ → Type 0
IsEngineLine ports n moment (Ok a) line = IsAnswerLine ports n moment a.0 a.1 line
IsEngineLine ports n moment (Err why) line = line ≡ loose_text (record { packet = n; cause = why })

-- the lines of these records, of which the first is packet n
abbrev pub AreEngineLines : List PortRows → ℕ → List Record → List ℕ → Type 0
AreEngineLines ports n [] text = text ≡ []
AreEngineLines ports n (r ∷ rs) text = (line : List ℕ) × (rest : List ℕ) × (text ≡ line ++ rest) × IsEngineLine ports n r.moment (aim_of (macs_of ports) r) line × AreEngineLines ports (suc n) rs rest
