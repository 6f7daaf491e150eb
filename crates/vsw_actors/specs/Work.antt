-- The job that a piece of work is, and whether it may be done.
use Rattle.std.specs.Prelude.{◌≡◌, ◌<◌, ℕ, List, [], Result, Ok, Err, true}
use Rattle.vsw_base.specs.declared.packet.Control.TheVariants as control
use Rattle.vsw_base.specs.Frame.{Parts, frame_of}
use Rattle.vsw_actors.specs.declared.actor.Placed.{Placed}
use Rattle.vsw_port.specs.Calls.{Job, Carry, Ask}
use Rattle.vsw_policy.specs.Obey.{rules_given}
use Rattle.vsw_policy.specs.Sound.{Each, IsGoodRule, is_listed}
use Rattle.vsw_promise.specs.Jobs.{crossing_by}
use Rattle.vsw_actors.specs.declared.work.Work.{Work}
use Rattle.vsw_actors.specs.declared.work.Work.TheVariants as work

-- the parts of a frame. Bytes that are no frame have none
abbrev pub parts_in : List ℕ → Parts
parts_in bytes = elim (frame_of bytes) [
  | Err fault ↦ record { stack = []; control = control.None; levels = []; payload = [] }
  | Ok parts ↦ parts
]

-- a packet is carried as its worker brings it, and a line is asked
abbrev pub job_in : Work → Job
job_in (work.Packet p) = Carry (crossing_by p.worker p.number p.place p.micros (parts_in p.bytes.now)) (parts_in p.bytes.now)
job_in (work.Line l) = Ask l.now

-- it may be done at a port with these controllers: one of at most 16 workers brings a packet, whose bytes are a frame; one of the
-- controllers asks a line, whose rules are good
abbrev pub MayDo : List ℕ → Work → Type 0
MayDo cs (work.Packet p) = (p.worker < 16) × (parts : Parts) × (frame_of p.bytes.now ≡ Ok parts)
MayDo cs (work.Line l) = (is_listed cs l.now.controller ≡ true) × Each IsGoodRule (rules_given l.now.command)

-- a packet's place is that of its port
abbrev pub IsPlaced : ℕ → Work → Type 0
IsPlaced place (work.Packet p) = p.place.port ≡ place
IsPlaced place (work.Line l) = Unit {0}

-- it may be done, at the place of one of so many ports
abbrev pub IsWork : ℕ → List ℕ → Placed Work → Type 0
IsWork ports cs a = (a.place < ports) × IsPlaced a.place a.job × MayDo cs a.job
