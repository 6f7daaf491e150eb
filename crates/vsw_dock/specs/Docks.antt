-- Docks and stations as actors take them.
use Rattle.std.specs.Prelude.{◌≡◌, ◌≤◌, ℕ, List, [], ◌∷◌, Ok, true, map}
use Rattle.vsw_base.specs.Frame.{Parts, frame_of}
use Rattle.vsw_flows.specs.Flows.{IsOf, Writing}
use Rattle.vsw_actors.specs.declared.work.Work.{Work}
use Rattle.vsw_actors.specs.declared.work.Work.TheVariants as work
use Rattle.vsw_actors.specs.Work.{IsPlaced, MayDo, parts_in}
use Rattle.vsw_port.specs.Calls.{Call}
use Rattle.vsw_actors.specs.Passes.{PassNow}
use Rattle.vsw_report.specs.Line.{text_of}
use Rattle.vsw_promise.specs.Jobs.{Placed, second_job}
use Rattle.vsw_promise.specs.Ports.{PortSeen}
use Rattle.vsw_promise.specs.Told.{line_of}
use Rattle.vsw_dock.specs.Seen.{DockSeen, ParcelSeen, StationSeen}

-- the port of the policy that a dock is: what it began with
abbrev pub port_in : DockSeen → PortSeen
port_in d = record { number = d.number; mac = d.mac; rows = d.live.looking.2; controllers = d.live.looking.1.controllers; layers = d.live.looking.1.layers }

abbrev pub locals : DockSeen → List ℕ
locals d = d.locals

-- a pass as actors know it
abbrev pub pass_now : Writing → PassNow
pass_now p = record { number = p.view.number; front = p.view.front; receipts = p.view.receipts }

abbrev pub pass_in : StationSeen → PassNow
pass_in s = pass_now s.pass

-- a station tells these calls, if there was memory for all lines
abbrev pub tells : StationSeen → List Call → Type 0
tells s calls = s.whole ≡ true → s.lines ≡ map (λ c. text_of (line_of c)) calls

-- a station at this dock
abbrev pub is_of : DockSeen → StationSeen → Type 0
is_of d s = IsOf d.live.looking s.pass

abbrev pub permits : StationSeen → ℕ
permits s = s.pass.view.permits

-- what may be done here, at the port at this place
abbrev pub takes : DockSeen → ℕ → Work → Type 0
takes d place w = IsPlaced place w × MayDo d.live.looking.1.controllers w

-- a parcel has room for each frame that is read, if packets are handed on to any of these
abbrev pub HasRoom : List ℕ → ParcelSeen → Type 0
HasRoom [] q = Unit {0}
HasRoom (mac ∷ macs) q = 65600 ≤ q.room

-- a parcel has room for what a job hands on here. A line hands nothing on
abbrev pub fits : DockSeen → Work → ParcelSeen → Type 0
fits d (work.Packet p) q = HasRoom d.locals q
fits d (work.Line l) q = Unit {0}

-- a parcel holds a packet: its bytes are a frame
abbrev pub holds : ParcelSeen → Type 0
holds q = (parts : Parts) × (frame_of q.bytes ≡ Ok parts)

-- the second job of the packet that a parcel holds
abbrev pub parcel_in : ParcelSeen → Placed
parcel_in q = second_job q.worker q.number q.micros (record { port = q.port; parts = parts_in q.bytes })
