-- Packets of a batch, told by their places in it, and what workers carry of them.
use Rattle.std.specs.Prelude.{◌≡◌, ◌≤◌, ◌<◌, ◌+◌, ℕ, suc, List, [], ◌∷◌, ◌++◌, false, length, map, Option, Some, None, Result, Ok, OnOk, Vec}
use Rattle.std.specs.List.{slice_get}
use Rattle.vsw_base.specs.declared.flow.Place.{Place}
use Rattle.vsw_base.specs.Frame.{Parts, frame_of}
use Rattle.vsw_pcap.specs.declared.capture.Record.{Record}
use Rattle.vsw_policy.specs.Sound.{Each}
use Rattle.vsw_port.specs.Calls.{Carry, Job}
use Rattle.vsw_port.specs.Order.{counted, numbered}
use Rattle.vsw_promise.specs.Jobs.{aim_of, crossing_by, placed_packet, placed_packets}
use Rattle.vsw_promise.specs.Jobs as jobs
use Rattle.vsw_many.specs.Dealing as dealing
use Rattle.vsw_actors.specs.Work.{parts_in}
use Rattle.vsw_actors.specs.declared.pick.Pick.{Pick}

-- packet n, this record, as this worker carries it to a place. Where there is no record, a packet of no bytes
abbrev pub carried_by : ℕ → ℕ → Place → Option Record → Job
carried_by worker n place None = Carry (crossing_by worker n place 0 (parts_in [])) (parts_in [])
carried_by worker n place (Some r) = Carry (crossing_by worker n place r.moment (parts_in r.bytes)) (parts_in r.bytes)

-- the job that a pick is to this worker, where the first packet of the batch has the number `first`
abbrev pub picked_job : ℕ → ℕ → List Record → Pick → jobs.Placed
picked_job worker first packets p = (p.place.port, carried_by worker (first + p.at) p.place (slice_get packets p.at))

-- the jobs that these picks are to this worker
abbrev pub picked_jobs : ℕ → ℕ → List Record → List Pick → List jobs.Placed
picked_jobs worker first packets ps = map (picked_job worker first packets) ps

-- the jobs of each worker's picks, from worker k on
abbrev pub picked : {G : Type 0} → ℕ → ℕ → List Record → List (Vec Pick G) → List (List jobs.Placed)
picked k first packets [] = []
picked k first packets (v ∷ vs) = picked_jobs k first packets v.items ∷ picked (suc k) first packets vs

-- what each of these workers is dealt of the jobs, beside these controllers
abbrev pub dealt_to : ℕ → List ℕ → List jobs.Placed → List (List jobs.Placed)
dealt_to workers cs js = map (λ k. dealing.deal cs k js) (counted 0 workers)

-- whichever controllers are beside them, these picks are what the workers are dealt of all packets of the batch, to the ports of these addresses
abbrev pub AreDealt : {G : Type 0} → ℕ → List ℕ → ℕ → List Record → List (Vec Pick G) → Type 0
AreDealt workers macs first packets vs = (cs : List ℕ) → picked 0 first packets vs ≡ dealt_to workers cs (placed_packets workers false macs [] (numbered first packets))

-- the pick is of a packet of the batch, whose bytes are a frame, and goes to one of so many ports
pub record IsPick (ports : ℕ) (packets : List Record) (p : Pick) : Type 0 where
  pub port : p.place.port < ports
  pub within : p.at < length packets
  pub captured : Record
  pub parts : Parts
  pub there : slice_get packets p.at ≡ Some captured
  pub frame : frame_of captured.bytes ≡ Ok parts

-- all picks of all workers are such
abbrev pub ArePicks : {G : Type 0} → ℕ → List Record → List (Vec Pick G) → Type 0
ArePicks ports packets vs = Each (λ v. Each (IsPick ports packets) v.items) vs

-- no worker has more picks than this
abbrev pub AtMost : {G : Type 0} → ℕ → List (Vec Pick G) → Type 0
AtMost n vs = Each (λ v. length v.items ≤ n) vs

-- ---- picks that are given

-- of whichever jobs these picks are what is dealt, those are what is dealt of them and, behind them, of a pick more, this worker's
abbrev pub DealsPick : {T E G : Type 0} → Result T E → ℕ → Pick → List (Vec Pick G) → List (Vec Pick G) → Type 0
DealsPick r worker pick olds news =
    (first : ℕ) (packets : List Record) (workers : ℕ) (cs : List ℕ) (js : List jobs.Placed) → picked 0 first packets olds ≡ dealt_to workers cs js → OnOk r (picked 0 first packets news ≡ dealt_to workers cs (js ++ picked_job worker first packets pick ∷ []))

-- the same of the packet at this place of a batch, which is this record: of what it is to the ports of these addresses
abbrev pub DealsPacket : {T E G : Type 0} → Result T E → ℕ → List ℕ → ℕ → ℕ → Record → List (Vec Pick G) → List (Vec Pick G) → Type 0
DealsPacket r workers macs first at x olds news =
    (packets : List Record) (cs : List ℕ) (js : List jobs.Placed) → slice_get packets at ≡ Some x → picked 0 first packets olds ≡ dealt_to workers cs js → OnOk r (picked 0 first packets news ≡ dealt_to workers cs (js ++ placed_packet workers (first + at) x.moment [] (aim_of macs x)))

-- of whichever batch these are picks, and this one more, those are too
abbrev pub TakesPick : {T E G : Type 0} → Result T E → Pick → List (Vec Pick G) → List (Vec Pick G) → Type 0
TakesPick r pick olds news = (ports : ℕ) (packets : List Record) → IsPick ports packets pick → ArePicks ports packets olds → OnOk r (ArePicks ports packets news)

-- of whichever batch these are picks, with this record at this place, those are too
abbrev pub KeepsPicks : {T E G : Type 0} → Result T E → ℕ → ℕ → Record → List (Vec Pick G) → List (Vec Pick G) → Type 0
KeepsPicks r ports at x olds news = (packets : List Record) → slice_get packets at ≡ Some x → ArePicks ports packets olds → OnOk r (ArePicks ports packets news)
