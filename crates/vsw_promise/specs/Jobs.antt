-- What is to be done in each round of a run, and who has to do it.
use Rattle.std.specs.Prelude.{ℕ, ◌+◌, ◌-◌, ◌*◌, ◌/◌, ◌%◌, ◌==◌, ◌&&◌, not, Bool, true, false, List, [], ◌∷◌, ◌++◌, length, map, filter, take, drop, nat_lt, Option, Some, None, option_and_then, option_map, option_to_list, if◌then◌else◌, Result, Ok, Err}
use Rattle.std.specs.List.{flat_map, slice_get}
use Rattle.vsw_base.specs.declared.fate.Fate.TheVariants.{Pass, Drop}
use Rattle.vsw_base.specs.declared.flow.Crossing.{Crossing}
use Rattle.vsw_base.specs.declared.flow.Place.{Place}
use Rattle.vsw_base.specs.declared.packet.Dir.TheVariants.{Out, In}
use Rattle.vsw_base.specs.Frame.{Parts, frame_of, sizes_of}
use Rattle.vsw_commandfile.specs.declared.line.Line.{Line}
use Rattle.vsw_header.specs.PortChoice.{choose, in_of}
use Rattle.vsw_header.specs.FlowSum.{flow_sum_of}
use Rattle.vsw_pcap.specs.declared.capture.Record.{Record}
use Rattle.vsw_config.specs.declared.file.PolicyFile.{PolicyFile}
use Rattle.vsw_promise.specs.Ports.{ports_of}
use Rattle.vsw_promise.specs.Told.{fates_in}
use Rattle.vsw_report.specs.declared.round.Loose.{Loose}
use Rattle.vsw_report.specs.declared.round.LooseCause.{LooseCause}
use Rattle.vsw_report.specs.declared.round.LooseCause.TheVariants.{Snapped, Malformed, NoPort}
use Rattle.vsw_report.specs.declared.round.PortRound.{PortRound}
use Rattle.vsw_report.specs.declared.told.What.{What}
use Rattle.vsw_report.specs.declared.told.What.TheVariants as what
use Rattle.vsw_port.specs.Calls.{Job, Carry, Ask}
use Rattle.vsw_port.specs.Order.{ascending, counted, numbered}

-- what a run is given beside its trace: the number of workers, the policy, the commands, and whether packets are handed on between its
-- ports
pub record Setting : Type 0 where
  pub workers : ℕ
  pub policy : PolicyFile
  pub commands : List Line
  pub local : Bool

-- the multiples of 1,024 below a number of records
abbrev pub multiples_below : ℕ → List ℕ
multiples_below total = map (λ i. 1024 * i) (counted 0 ((total + 1023) / 1024))

-- a trace of this many records is cut at 0, at each packet that a command names, and at each multiple of 1,024 below their number
abbrev pub cuts : List Line → ℕ → List ℕ
cuts commands total = ascending (0 ∷ map (λ l. l.at) commands ++ multiples_below total)

-- the cuts at which a record begins
abbrev pub cuts_within : List Line → ℕ → List ℕ
cuts_within commands total = filter (λ n. nat_lt n total) (cuts commands total)

-- the packets from one cut up to the next, with their numbers
abbrev pub packets_between : List Record → ℕ → ℕ → List (ℕ × Record)
packets_between records first next = take (next - first) (drop first (numbered 0 records))

-- where a packet goes, or why it is loose: it is snapped where fewer bytes were captured than it had, else malformed where its bytes
-- aren't a frame, else of no port where no address is a port's
abbrev pub aim_of : List ℕ → Record → Result (Place × Parts) LooseCause
aim_of macs r = if nat_lt (length r.bytes) r.original then Err Snapped
    else elim (frame_of r.bytes) [
      | Err fault ↦ Err (Malformed fault)
      | Ok parts ↦ elim (choose macs parts.stack) [ None ↦ Err NoPort | Some place ↦ Ok (place, parts) ]
    ]

-- what is told of packet n, if it is loose
abbrev pub loose_after : ℕ → Result (Place × Parts) LooseCause → List Loose
loose_after n (Err why) = record { packet = n; cause = why } ∷ []
loose_after n (Ok a) = []

-- the addresses of the ports
abbrev pub macs_of : PolicyFile → List ℕ
macs_of policy = map (λ p. p.mac) (ports_of policy)

-- the loose packets among these, in packet order, each with its cause
abbrev pub loose_among : List ℕ → List (ℕ × Record) → List Loose
loose_among macs packets = flat_map (λ p. loose_after p.0 (aim_of macs p.1)) packets

-- packet n as this worker brings it to a port
abbrev pub crossing_by : ℕ → ℕ → Place → ℕ → Parts → Crossing
crossing_by worker n place moment p = record { caller = worker; packet = n; id = record { dir = place.dir; stack = p.stack }; control = p.control; moment = moment; sizes = sizes_of p.levels }

-- the worker that the flow sum of a frame gives
abbrev pub worker_of : ℕ → Parts → ℕ
worker_of workers p = flow_sum_of p.stack % workers

-- ---- packets that are handed on

-- a packet for another port of the switch: the place of that port, and the parts of the packet's frame
pub record Hop : Type 0 where
  pub port : ℕ
  pub parts : Parts

-- the port, if it is another one than the first of these
abbrev pub if_other : ℕ → ℕ → Option ℕ
if_other from port = if port == from then None else Some port

-- the place of the port that has a frame's innermost destination, if it is another one than the frame left
abbrev pub local_to : List ℕ → ℕ → Parts → Option ℕ
local_to macs from p = option_and_then (if_other from) (in_of macs p.stack)

-- bytes that left a port, as a packet for another, if they are a frame for one
abbrev pub hop_of : List ℕ → ℕ → List ℕ → Option Hop
hop_of macs from bytes = elim (frame_of bytes) [
  | Err fault ↦ None
  | Ok parts ↦ option_map (λ port. record { port = port; parts = parts }) (local_to macs from parts)
]

-- what a packet that came to a place is handed on as, by what became of it there: it passed outbound, and is for another port
abbrev pub handed_on : List ℕ → Place → What → List Hop
handed_on macs place (what.Reply reply) = []
handed_on macs place (what.Fate (Drop cause) bytes) = []
handed_on macs place (what.Fate (Pass len) bytes) = elim place.dir [ In ↦ [] | Out ↦ option_to_list (hop_of macs place.port bytes) ]

-- the fates and bytes of packet n that a round tells of the port at a place
abbrev pub fates_told : List PortRound → ℕ → ℕ → List What
fates_told told place n = flat_map (λ r. fates_in n r.lines) (option_to_list (slice_get told place))

-- what packet n is handed on as in a round that tells this: nothing, unless packets are handed on
abbrev pub hops_of : Bool → List ℕ → List PortRound → ℕ → Result (Place × Parts) LooseCause → List Hop
hops_of false macs told n to = []
hops_of true macs told n (Err why) = []
hops_of true macs told n (Ok a) = flat_map (handed_on macs a.0) (fates_told told a.0.port n)

-- ---- jobs

-- a job, with the place of its port
abbrev pub Placed : Type 0
Placed = ℕ × Job

-- the jobs of the port at a place among these
abbrev pub at_place : ℕ → List Placed → List Job
at_place i js = map (λ t. t.1) (filter (λ t. t.0 == i) js)

-- packet n once more, as it is handed on: the same worker brings it to the other port, inbound, at the same moment
abbrev pub second_job : ℕ → ℕ → ℕ → Hop → Placed
second_job worker n moment h = (h.port, Carry (crossing_by worker n (record { port = h.port; dir = In }) moment h.parts) h.parts)

-- the jobs of a packet: one at the port to which it goes, and one more for what it is handed on as. A loose packet has none
abbrev pub placed_packet : ℕ → ℕ → ℕ → List Hop → Result (Place × Parts) LooseCause → List Placed
placed_packet workers n moment hops (Err why) = []
placed_packet workers n moment hops (Ok a) = (a.0.port, Carry (crossing_by (worker_of workers a.1) n a.0 moment a.1) a.1) ∷ map (second_job (worker_of workers a.1) n moment) hops

-- the jobs of these packets, in packet order, in a round that tells this
abbrev pub placed_packets : ℕ → Bool → List ℕ → List PortRound → List (ℕ × Record) → List Placed
placed_packets workers local macs told packets = flat_map (λ p. placed_packet workers p.0 p.1.moment (hops_of local macs told p.0 (aim_of macs p.1)) (aim_of macs p.1)) packets

-- the commands of the round that begins with this packet, for the port of this number, in file order: those before its packets
abbrev pub before_jobs : List Line → ℕ → ℕ → List Job
before_jobs commands first port = map Ask (filter (λ l. (l.at == first) && (l.port == port) && not l.during) commands)

-- those beside its packets
abbrev pub during_jobs : List Line → ℕ → ℕ → List Job
during_jobs commands first port = map Ask (filter (λ l. (l.at == first) && (l.port == port) && l.during) commands)

-- what is to be done at a port in a round: first the "before" commands, then the "during" commands and the packets beside each other. One worker
-- does all of it in this order
pub record Jobs : Type 0 where
  pub first : List Job
  pub later : List Job

-- the jobs of the port of this number at this place, in the round of the packets from one cut up to the next that tells this
abbrev pub jobs_of : Setting → List Record → List PortRound → ℕ → ℕ → ℕ → ℕ → Jobs
jobs_of s records told first next place number = record {
  first = before_jobs s.commands first number;
  later = during_jobs s.commands first number ++ at_place place (placed_packets s.workers s.local (macs_of s.policy) told (packets_between records first next));
}
