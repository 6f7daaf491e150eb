-- Two ports with these addresses, and a frame from the first to the second, as it was worked out by hand.
use Rattle.std.proofs.Common.{◌≡◌, ℕ, true, false, List, [], ◌∷◌, Ok, refl}
use Rattle.std.specs.Prelude.{codes}
use Rattle.vsw_base.specs.declared.fate.Cause.TheVariants.{Memory}
use Rattle.vsw_base.specs.declared.fate.Fate.TheVariants.{Pass, Drop}
use Rattle.vsw_base.specs.declared.flow.Crossing.{Crossing}
use Rattle.vsw_base.specs.declared.header.Header.{Header}
use Rattle.vsw_base.specs.declared.header.Header.TheVariants.{Ether, Ip, Ports}
use Rattle.vsw_base.specs.declared.packet.Control.TheVariants as control
use Rattle.vsw_base.specs.declared.packet.Dir.{Dir}
use Rattle.vsw_base.specs.declared.packet.Dir.TheVariants.{Out, In}
use Rattle.vsw_base.specs.Frame.{Parts, frame_in, frame_of}
use Rattle.vsw_base.specs.Vectors.{level, plain_frame}
use Rattle.vsw_pcap.specs.declared.capture.Record.{Record}
use Rattle.vsw_port.specs.Calls.{Carry, Carried}
use Rattle.vsw_port.specs.Order.{numbered}
use Rattle.vsw_promise.specs.Jobs.{Placed, placed_packets}
use Rattle.vsw_report.specs.declared.round.PortRound.{PortRound}
use Rattle.vsw_report.specs.declared.told.By.TheVariants.{Worker}
use Rattle.vsw_report.specs.declared.told.ToldLine.{ToldLine}
use Rattle.vsw_report.specs.declared.told.What.{What}
use Rattle.vsw_report.specs.declared.told.What.TheVariants as what
use Rattle.vsw_hairpin.specs.Handing.{handed_by, with_hops}

abbrev macs : List ℕ
macs = 0x020000000001 ∷ 0x020000000099 ∷ []

-- the frame's headers and all its parts
abbrev stack : List Header
stack = Ether 0x020000000099 0x020000000001 0x0800 ∷ Ip 0x0a000005 0x0a000009 17 false ∷ Ports 17 1234 53 ∷ []

abbrev parts : Parts
parts = record { stack = stack; control = control.None; levels = level plain_frame ∷ []; payload = codes "hi" }

pub reads : frame_of plain_frame ≡ Ok parts
unfolding frame_in
reads = refl

-- a packet as a worker brings it
abbrev crossing : ℕ → ℕ → ℕ → Dir → Crossing
crossing worker n moment dir = record { caller = worker; packet = n; id = record { dir = dir; stack = stack }; control = control.None; moment = moment; sizes = record { whole = 44; one = 0; two = 0 } }

-- packet 7 of worker 3 at a port
abbrev at : ℕ → Dir → ℕ → Placed
at place dir n = (place, Carry (crossing 3 n 1000 dir) parts)

-- ---- one call

-- it left the first port outbound: the same worker brings it to the second, inbound
pub outbound : handed_by macs 0 (Carried (crossing 3 7 1000 Out) parts (Pass 44) plain_frame) ≡ at 1 In 7 ∷ []
unfolding frame_in
outbound = refl

-- inbound, dropped, at the port that has the address, and where no other port or no port at all has it: nothing
pub inbound : handed_by macs 0 (Carried (crossing 3 7 1000 In) parts (Pass 44) plain_frame) ≡ []
inbound = refl

pub dropped : handed_by macs 0 (Carried (crossing 3 7 1000 Out) parts (Drop Memory) []) ≡ []
dropped = refl

pub own_port : handed_by macs 1 (Carried (crossing 3 7 1000 Out) parts (Pass 44) plain_frame) ≡ []
unfolding frame_in
own_port = refl

pub other_ports : handed_by (0x020000000001 ∷ 0x020000000098 ∷ []) 0 (Carried (crossing 3 7 1000 Out) parts (Pass 44) plain_frame) ≡ []
unfolding frame_in
other_ports = refl

pub no_ports : handed_by [] 0 (Carried (crossing 3 7 1000 Out) parts (Pass 44) plain_frame) ≡ []
unfolding frame_in
no_ports = refl

-- bytes that are no frame, though they begin as one
pub no_frame : handed_by macs 0 (Carried (crossing 3 7 1000 Out) parts (Pass 13) (0x02 ∷ 0 ∷ 0 ∷ 0 ∷ 0 ∷ 0x99 ∷ 0x02 ∷ 0 ∷ 0 ∷ 0 ∷ 0 ∷ 0x01 ∷ 0x08 ∷ [])) ≡ []
unfolding frame_in
no_frame = refl

-- ---- a round of three packets

abbrev captured : ℕ → Record
captured moment = record { moment = moment; original = 44; bytes = plain_frame }

abbrev line : ℕ → What → ToldLine
line n w = record { by = Worker 0; item = n; entry = false; count = 0; what = w }

abbrev round_at : ℕ → List ToldLine → PortRound
round_at port lines = record { port = port; before = 0; after = 0; lines = lines }

-- packet 4 passed both ports, packet 5 was dropped at the first, and packet 6 at the second
abbrev told : List PortRound
told = round_at 1 (line 4 (what.Fate (Pass 44) plain_frame) ∷ line 5 (what.Fate (Drop Memory) []) ∷ line 6 (what.Fate (Pass 44) plain_frame) ∷ [])
    ∷ round_at 2 (line 4 (what.Fate (Pass 44) plain_frame) ∷ line 6 (what.Fate (Drop Memory) []) ∷ [])
    ∷ []

abbrev packets : List (ℕ × Record)
packets = numbered 4 (captured 0 ∷ captured 10 ∷ captured 20 ∷ [])

-- a packet's job at a port
abbrev job : ℕ → Dir → ℕ → ℕ → Placed
job place dir n moment = (place, Carry (crossing 0 n moment dir) parts)

abbrev own : List Placed
own = job 0 Out 4 0 ∷ job 0 Out 5 10 ∷ job 0 Out 6 20 ∷ []

-- what is to be done, and what was done by a worker that handed on the first and the third
pub asked_for : placed_packets 1 true macs told packets ≡ job 0 Out 4 0 ∷ job 1 In 4 0 ∷ job 0 Out 5 10 ∷ job 0 Out 6 20 ∷ job 1 In 6 20 ∷ []
unfolding frame_in
asked_for = refl

pub own_jobs : placed_packets 1 false macs [] packets ≡ own
unfolding frame_in
own_jobs = refl

pub done : with_hops own ((job 1 In 4 0 ∷ []) ∷ [] ∷ (job 1 In 6 20 ∷ []) ∷ []) ≡ job 0 Out 4 0 ∷ job 1 In 4 0 ∷ job 0 Out 5 10 ∷ job 0 Out 6 20 ∷ job 1 In 6 20 ∷ []
done = refl
