-- A line more.
use Rattle.std.specs.Prelude.{◌≡◌, ◌≤◌, ℕ, List, ◌++◌, Option, Some, Result, Ok, Err, codes, decimal, false}
use Rattle.vsw_base.specs.declared.fate.Fate.{Fate}
use Rattle.vsw_base.specs.declared.fate.Fate.TheVariants.{Pass, Drop}
use Rattle.vsw_base.specs.declared.flow.Place.{Place}
use Rattle.vsw_base.specs.Frame.{Parts}
use Rattle.vsw_offload.specs.declared.answer.Given.{Given}
use Rattle.vsw_offload.specs.declared.port_rows.PortRows.{PortRows}
use Rattle.vsw_report.specs.Print.{loose_text}
use Rattle.vsw_report.specs.declared.round.LooseCause.{LooseCause}
use Rattle.vsw_run.specs.Engine.{IsAnswerLine, answer_text}

-- a packet's number and a port's
abbrev pub front_text : ℕ → ℕ → List ℕ
front_text packet port = decimal packet ++ codes " " ++ decimal port ++ codes " "

abbrev pub line_text : ℕ → ℕ → Option Fate → List ℕ → List ℕ
line_text packet port fate bytes = front_text packet port ++ answer_text fate bytes ++ codes "\n"

-- the line of a packet that goes to a port was added
abbrev pub AddsAnswer : List PortRows → ℕ → ℕ → Place → Parts → List ℕ → List ℕ → Type 0
AddsAnswer ports n moment place p old new = (line : List ℕ) × (new ≡ old ++ line) × IsAnswerLine ports n moment place p line

-- the same of any packet, by where it goes
abbrev pub AddsLine : List PortRows → ℕ → ℕ → Result (Place × Parts) LooseCause → List ℕ → List ℕ → Type 0
AddsLine ports n moment (Ok a) old new = AddsAnswer ports n moment a.0 a.1 old new
AddsLine ports n moment (Err why) old new = new ≡ old ++ loose_text (record { packet = n; cause = why })

-- the line of a pass
abbrev pub pass_text : ℕ → ℕ → ℕ → List ℕ → List ℕ
pass_text packet port len bytes = line_text packet port (Some (Pass len)) bytes

-- the length of a pass
abbrev pub len_of : Fate → ℕ
len_of (Pass len) = len
len_of (Drop why) = 0

-- a pass with bytes that aren't its own has them in the room
abbrev pub HasRoom : Given → Type 0
HasRoom given = given.own ≡ false → len_of given.fate ≤ 65700
