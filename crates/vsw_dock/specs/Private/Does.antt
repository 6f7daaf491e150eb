-- What a job leaves of a station.
use Rattle.std.specs.Prelude.{◌≡◌, ◌+◌, ◌++◌, ◌∷◌, [], ℕ, List, Bool, true, length, map}
use Rattle.vsw_actors.specs.Work.{job_in}
use Rattle.vsw_actors.specs.declared.work.Packet.{Packet}
use Rattle.vsw_actors.specs.declared.work.Work.TheVariants as work
use Rattle.vsw_answer.specs.Seen.{AnswerSeen}
use Rattle.vsw_answer.specs.Transit.{bytes_in}
use Rattle.vsw_base.specs.declared.fate.Fate.{Fate}
use Rattle.vsw_base.specs.Frame.{Parts}
use Rattle.vsw_commandfile.specs.declared.line.Line.{Line}
use Rattle.vsw_port.specs.Calls.{Call, Carried, Deed, Job, job_of}
use Rattle.vsw_port.specs.History.{Opening}
use Rattle.vsw_live.specs.Calls.{Crosses}
use Rattle.vsw_live.specs.declared.answer.Told.{Told}
use Rattle.vsw_report.specs.declared.told.By.TheVariants as by
use Rattle.vsw_report.specs.declared.told.ToldLine.{ToldLine}
use Rattle.vsw_report.specs.declared.told.What.TheVariants as what
use Rattle.vsw_report.specs.Line.{TextLine, text_of}
use Rattle.vsw_promise.specs.Told.{line_of}
use Rattle.vsw_flows.specs.Flows.{Writing}
use Rattle.vsw_hairpin.specs.Handing.{handed_by}
use Rattle.vsw_promise.specs.Jobs.{Placed, crossing_by, handed_on, second_job}
use Rattle.vsw_dock.specs.Seen.{ParcelSeen, StationSeen}

-- a station counts the permits of its pass, and those that it was ever given
pub record IsCounted (p : Writing) (left granted : ℕ) : Type 0 where
  pub left_is : left ≡ p.view.permits
  pub granted_is : granted ≡ length p.view.receipts + p.view.permits

-- one line more is told, or else memory was wanting for one
abbrev pub Tells : List TextLine → Bool → List TextLine → Bool → TextLine → Type 0
Tells before was after is line = is ≡ true → (was ≡ true) × (after ≡ before ++ line ∷ [])

-- the deed of a packet that was answered so, where its frame has these parts, and the line that tells it: it leaves with its frame's own bytes, or
-- those at the front of a room
abbrev pub packet_deed : Packet → Parts → AnswerSeen → List ℕ → Deed
packet_deed p parts a out = Carried (crossing_by p.worker p.number p.place p.micros parts) parts a.fate (bytes_in a.own parts a.fate out)

abbrev pub packet_line : Packet → Parts → AnswerSeen → List ℕ → ToldLine
packet_line p parts a out = record { by = by.Worker p.worker; item = p.number; entry = a.entry; count = a.count; what = what.Fate a.fate (bytes_in a.own parts a.fate out) }

-- the line that tells the answer to a command
abbrev pub reply_line : Line → Told → ToldLine
reply_line l a = record { by = by.Controller l.controller; item = l.number; entry = a.entry; count = a.count; what = what.Reply a.reply }

-- what a packet that left its port with this fate and these bytes is handed on as to ports of these addresses
abbrev pub handed_as : List ℕ → Packet → Fate → List ℕ → List Placed
handed_as macs p fate bytes = map (second_job p.worker p.number p.micros) (handed_on macs p.place (what.Fate fate bytes))

-- a packet that left with these bytes for the port at another place, in a room of so many bytes
abbrev pub parcel_of : Packet → ℕ → List ℕ → ℕ → ParcelSeen
parcel_of p port bytes room = record { worker = p.worker; number = p.number; port = port; micros = p.micros; bytes = bytes; room = room }

-- a station did a job: its pass made the call, and its lines tell it
pub record Does (o : Opening) (j : Job) (r s : StationSeen) : Type 0 where
  pub call : Call
  pub about : job_of call.deed ≡ j
  pub crosses : Crosses o r.pass s.pass call
  pub told : Tells r.lines r.whole s.lines s.whole (text_of (line_of call))

-- and its call, at the port at this place, handed this on to ports of these addresses
pub record HandsOn (o : Opening) (macs : List ℕ) (place : ℕ) (j : Job) (hops : List Placed) (r s : StationSeen) : Type 0 where
  pub does : Does o j r s
  pub hands : handed_by macs place does.call.deed ≡ hops

-- the same of a packet, at the port to which it goes
abbrev pub HandsPacket : Opening → List ℕ → Packet → List Placed → StationSeen → StationSeen → Type 0
HandsPacket o macs p hops r s = HandsOn o macs p.place.port (job_in (work.Packet p)) hops r s
