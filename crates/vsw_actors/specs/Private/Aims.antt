-- What one packet and one command are dealt.
use Rattle.std.specs.Borrow.{Bor}
use Rattle.std.specs.Prelude.{◌≡◌, ◌<◌, ℕ, List, [], ◌∷◌, Result, Ok, Err, if◌then◌else◌}
use Rattle.vsw_actors.specs.declared.actor.Placed as actor
use Rattle.vsw_base.specs.Frame.{Parts, frame_of}
use Rattle.vsw_commandfile.specs.declared.line.Line.{Line}
use Rattle.vsw_port.specs.Calls.{Ask}
use Rattle.vsw_pcap.specs.declared.batch.Captured.{Captured}
use Rattle.vsw_policy.specs.Layers.{place_of}
use Rattle.vsw_promise.specs.Jobs.{Placed}
use Rattle.vsw_report.specs.declared.round.Loose.{Loose}
use Rattle.vsw_report.specs.declared.round.LooseCause.{LooseCause}
use Rattle.vsw_actors.specs.Handed.{handed_job}
use Rattle.vsw_actors.specs.Work.{job_in}
use Rattle.vsw_actors.specs.declared.handed.Given.{Given}
use Rattle.vsw_actors.specs.declared.work.Packet.{Packet}
use Rattle.vsw_actors.specs.declared.work.Work.{Work}
use Rattle.vsw_actors.specs.declared.work.Work.TheVariants as work

-- the job that a packet is at its port, if it goes to one
abbrev pub placed_in : Result Packet LooseCause → List Placed
placed_in (Ok p) = (p.place.port, job_in (work.Packet p)) ∷ []
placed_in (Err why) = []

-- what is told of packet n, if it is loose
abbrev pub loose_in : ℕ → Result Packet LooseCause → List Loose
loose_in n (Ok p) = []
loose_in n (Err why) = record { packet = n; cause = why } ∷ []

-- the job that a packet is
abbrev pub packet_job : Packet → actor.Placed Work
packet_job p = record { place = p.place.port; job = work.Packet p }

-- the job that a command is at a place
abbrev pub line_job : ℕ → Bor Line → actor.Placed Work
line_job place l = record { place = place; job = work.Line l }

-- a worker brings the packet, a frame, to one of so many ports
abbrev pub IsCarried : ℕ → Packet → Type 0
IsCarried ports p = (p.worker < 16) × (p.place.port < ports) × (parts : Parts) × (frame_of p.bytes.now ≡ Ok parts)

-- one of so many workers brings what was captured, as packet n
pub record IsBrought (workers n : ℕ) (c : Captured) (p : Packet) : Type 0 where
  pub worker : p.worker < workers
  pub number : p.number ≡ n
  pub moment : p.micros ≡ c.moment
  pub bytes : p.bytes.now ≡ c.bytes.now

-- the packet is handed over to who brings it, with the same bytes
pub record IsGivenOf (p : Packet) (g : Given) : Type 0 where
  pub worker : g.worker ≡ p.worker
  pub bytes : g.packet.bytes.items ≡ p.bytes.now
  pub job : handed_job g.worker g.packet ≡ (p.place.port, job_in (work.Packet p))

-- the job that a command is, if it runs beside the packets
abbrev pub beside : List ℕ → Line → List Placed
beside numbers l = if l.during then (place_of l.port numbers, Ask l) ∷ [] else []
