-- Packets that a port without layers carries.
use Rattle.std.specs.Prelude.{◌≡◌, ◌≤◌, ◌<◌, ℕ, List, [], ◌∷◌, length, false, Vec}
use Rattle.vsw_actors.specs.declared.actor.Placed.{Placed}
use Rattle.vsw_actors.specs.declared.lane.Lane.{Lane}
use Rattle.vsw_round_tests.specs.declared.carrying.Load.{Load}
use Rattle.vsw_round_tests.specs.declared.carrying.Packet.{Packet}
use Rattle.vsw_round_tests.specs.declared.refusing.Refusing.{Refusing}
use Rattle.vsw_base.specs.declared.fate.Fate.{Fate}
use Rattle.vsw_base.specs.declared.fate.Fate.TheVariants.{Pass, Drop}
use Rattle.vsw_base.specs.declared.flow.Crossing.{Crossing}
use Rattle.vsw_base.specs.declared.packet.Control.TheVariants as control
use Rattle.vsw_base.specs.declared.packet.Dir.TheVariants.{Out}
use Rattle.vsw_base.specs.Frame.{Parts}
use Rattle.vsw_port.specs.Fate.{fate_at}
use Rattle.vsw_frame.specs.Bytes.{outgoing}
use Rattle.vsw_port.specs.Calls.{Job, Carry, Carried, Call}
use Rattle.vsw_many.specs.Passes.{PassNow}
use Rattle.vsw_policy.specs.Sound.{Each}
use Rattle.vsw_promise.specs.Jobs as jobs
use Rattle.vsw_walk.specs.Walk.{walk_of}

-- a frame without headers
abbrev pub parts : Parts
parts = record { stack = []; control = control.None; levels = []; payload = [] }

abbrev pub crossing : Packet → Crossing
crossing p = record { caller = p.worker; packet = p.number; id = record { dir = Out; stack = [] }; control = control.None; moment = 0; sizes = record { whole = 0; one = 0; two = 0 } }

abbrev pub brought : Packet → Job
brought p = Carry (crossing p) parts

-- the bytes of a packet with this fate
abbrev pub bytes_of : Packet → Fate → List ℕ
bytes_of p (Pass len) = outgoing parts (walk_of [] (crossing p)).stack (walk_of [] (crossing p)).kept
bytes_of p (Drop cause) = []

abbrev pub carried : Packet → Call
carried p = record { deed = Carried (crossing p) parts (fate_at [] (crossing p)) (bytes_of p (fate_at [] (crossing p))); entry = false; count = 0 }

-- nothing is ever an entry
abbrev pub pass : Load → PassNow
pass s = record { number = s.worker; front = []; receipts = [] }

abbrev pub tells : Load → List Call → Type 0
tells s calls = Unit {0}

abbrev pub is_of : Refusing → Load → Type 0
is_of p s = Unit {0}

abbrev pub permits : Load → ℕ
permits s = 3

abbrev pub takes : Refusing → ℕ → Packet → Type 0
takes p place j = Unit {0}

-- a parcel would be a packet, at the first port
abbrev pub fits : Refusing → Packet → Packet → Type 0
fits p j q = Unit {0}

abbrev pub holds : Packet → Type 0
holds q = Unit {0}

abbrev pub parcel_in : Packet → jobs.Placed
parcel_in q = (0, brought q)

-- ---- what a worker begins with

-- a worker's lanes at two ports, where it has carried nothing
abbrev pub IsRow : ℕ → List (Lane Load) → Type 0
IsRow k (l ∷ m ∷ []) = (l.station.worker ≡ k) × (l.base ≡ 0) × (m.station.worker ≡ k) × (m.base ≡ 0)
IsRow k _ = ⊥

-- at most three packets that this worker brings, each to one of two ports
abbrev pub IsShare : ℕ → List (Placed Packet) → Type 0
IsShare k js = (length js ≤ 3) × Each (λ a. (a.job.worker ≡ k) × (a.place < 2)) js

-- rows of the workers 0, 1 and 2, and their shares
abbrev pub AreThreeRows : {G : Type 0} → List (Vec (Lane Load) G) → Type 0
AreThreeRows (a ∷ b ∷ c ∷ []) = IsRow 0 a.items × IsRow 1 b.items × IsRow 2 c.items
AreThreeRows _ = ⊥

abbrev pub AreThreeShares : {G : Type 0} → List (Vec (Placed Packet) G) → Type 0
AreThreeShares (a ∷ b ∷ c ∷ []) = IsShare 0 a.items × IsShare 1 b.items × IsShare 2 c.items
AreThreeShares _ = ⊥
