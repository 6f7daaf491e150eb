-- What leaves a port for another, and comes there.
use Rattle.std.proofs.Common.{◌≡◌, ◌≤◌, ◌<◌, ℕ, Bool, true, false, List, [], ◌∷◌, length, map, Result, Ok, Err, refl, sym, ap, ◌∙◌, subst, arith}
use Rattle.std.specs.Prelude.{nat_lt, if◌then◌else◌}
use Rattle.vsw_actors.proofs.Hops.{handed_is}
use Rattle.vsw_actors.specs.Actors.{IsRoomy}
use Rattle.vsw_actors.specs.declared.work.Packet.{Packet}
use Rattle.vsw_actors.specs.declared.work.Work.{Work}
use Rattle.vsw_actors.specs.declared.work.Work.TheVariants as work
use Rattle.vsw_actors.specs.Work.{job_in, parts_in}
use Rattle.vsw_base.specs.declared.fate.Fate.{Fate}
use Rattle.vsw_base.specs.declared.fault.BadFrame.{BadFrame}
use Rattle.vsw_base.specs.declared.fault.BadFrame.TheVariants.{TooLong}
use Rattle.vsw_base.specs.declared.packet.Control.TheVariants as control
use Rattle.vsw_base.specs.declared.flow.Place.{Place}
use Rattle.vsw_base.specs.declared.packet.Dir.TheVariants.{In}
use Rattle.vsw_base.specs.Frame.{Parts, frame_in, frame_of}
use Rattle.vsw_hairpin.proofs.Hops.{none_by}
use Rattle.vsw_hairpin.specs.Handing.{handed_by}
use Rattle.vsw_policy.specs.Sound.{Each}
use Rattle.vsw_port.specs.Calls.{Carry, Deed}
use Rattle.vsw_promise.specs.Jobs.{Hop, crossing_by, handed_on, second_job}
use Rattle.vsw_report.specs.declared.told.What.TheVariants as what
use Rattle.vsw_dock.specs.Docks.{HasRoom, fits, parcel_in}
use Rattle.vsw_dock.specs.Seen.{DockSeen, ParcelSeen}

-- ---- a frame for another port

-- what was handed on is the frame that the bytes are
pub hop_frame : (macs : List ℕ) (place : Place) (fate : Fate) (bytes : List ℕ) (h : Hop) → h ∷ [] ≡ handed_on macs place (what.Fate fate bytes) → frame_of bytes ≡ Ok h.parts
hop_frame macs place fate bytes h e = handed_is (λ hs. h ∷ [] ≡ hs → frame_of bytes ≡ Ok h.parts) macs place (what.Fate fate bytes) (λ f. absurd (cc f)) (λ k is f. let same : h ≡ k = cc f in is.frame ∙ ap (λ (w : Hop). Ok w.parts) (sym same)) e

read_short : (bytes : List ℕ) (p : Parts) → frame_of bytes ≡ Ok p → length bytes ≤ 65600
read_short bytes p e = by (nat_lt 65600 (length bytes)) refl e
  where
    by : (b : Bool) → nat_lt 65600 (length bytes) ≡ b → (if b then Err TooLong else frame_in 2 bytes) ≡ Ok p → length bytes ≤ 65600
    by true t f = absurd (cc f)
    by false t f = grind (arith, t)

pub hop_short : (macs : List ℕ) (place : Place) (fate : Fate) (bytes : List ℕ) (h : Hop) → h ∷ [] ≡ handed_on macs place (what.Fate fate bytes) → length bytes ≤ 65600
hop_short macs place fate bytes h e = read_short bytes h.parts (hop_frame macs place fate bytes h e)

pub parts_are : (bytes : List ℕ) (p : Parts) → frame_of bytes ≡ Ok p → parts_in bytes ≡ p
parts_are bytes p e = ap (λ (r : Result Parts BadFrame). elim r [ Err fault ↦ record { stack = []; control = control.None; levels = []; payload = [] } | Ok parts ↦ parts ]) e

-- so the parcel holds what was handed on
pub parcel_hop : (macs : List ℕ) (place : Place) (fate : Fate) (bytes : List ℕ) (h : Hop) (worker number micros room : ℕ) → h ∷ [] ≡ handed_on macs place (what.Fate fate bytes)
    → map (second_job worker number micros) (handed_on macs place (what.Fate fate bytes)) ≡ parcel_in (record { worker = worker; number = number; port = h.port; micros = micros; bytes = bytes; room = room }) ∷ []
parcel_hop macs place fate bytes h worker number micros room e =
    let frame = parts_are bytes h.parts (hop_frame macs place fate bytes h e) in
    ap (map (second_job worker number micros)) (sym e) ∙ ap (λ p. second_job worker number micros (record { port = h.port; parts = p }) ∷ []) (sym frame)

-- ---- among no ports, nothing is handed on

no_macs : (macs : List ℕ) → length macs ≡ 0 → macs ≡ []
no_macs [] e = refl
no_macs (m ∷ ms) e = absurd (omega (arith, e))

pub hands_none : (macs : List ℕ) (place : ℕ) (d : Deed) → length macs ≡ 0 → handed_by macs place d ≡ []
hands_none macs place d e = ap (λ ms. handed_by ms place d) (no_macs macs e) ∙ none_by place d

pub some_room : (macs : List ℕ) (q : ParcelSeen) → 0 < length macs → HasRoom macs q → 65600 ≤ q.room
some_room [] q lt r = absurd (omega (arith, lt))
some_room (m ∷ ms) q lt r = r

-- ---- room

any_room : (macs : List ℕ) (q : ParcelSeen) → 65600 ≤ q.room → HasRoom macs q
any_room [] q le = tt
any_room (m ∷ ms) q le = le

pub still_room : (macs : List ℕ) (q r : ParcelSeen) → q.room ≤ r.room → HasRoom macs q → HasRoom macs r
still_room [] q r le h = tt
still_room (m ∷ ms) q r le h = omega (arith, h, le)

pub still_fits : (q r : ParcelSeen) → q.room ≤ r.room → (d : DockSeen) (w : Work) → fits d w q → fits d w r
still_fits q r le d (work.Packet p) f = still_room d.locals q r le f
still_fits q r le d (work.Line l) f = tt

room_fits : (d : DockSeen) (q : ParcelSeen) → 65600 ≤ q.room → (w : Work) → fits d w q
room_fits d q le (work.Packet p) = any_room d.locals q le
room_fits d q le (work.Line l) = tt

none_fits : (d : DockSeen) (q : ParcelSeen) → d.locals ≡ [] → (w : Work) → fits d w q
none_fits d q e (work.Packet p) = subst (λ ms. HasRoom ms q) (sym e) tt
none_fits d q e (work.Line l) = tt

pub all_roomy : (q : ParcelSeen) (ds : List DockSeen) → 65600 ≤ q.room → IsRoomy {J = Work} fits ds q
all_roomy q [] le = tt
all_roomy q (d ∷ ds) le = (room_fits d q le, all_roomy q ds le)

pub none_roomy : (q : ParcelSeen) (ds : List DockSeen) → Each (λ d. d.locals ≡ []) ds → IsRoomy {J = Work} fits ds q
none_roomy q [] a = tt
none_roomy q (d ∷ ds) a = (none_fits d q a.0, none_roomy q ds a.1)

-- ---- the second job

pub second_is : (p : Packet) (q : ParcelSeen) → p.worker ≡ q.worker → p.number ≡ q.number → p.place ≡ record { port = q.port; dir = In } → p.micros ≡ q.micros → p.bytes.now ≡ q.bytes → job_in (work.Packet p) ≡ (parcel_in q).1
second_is p q w n place m b = λ i. Carry (crossing_by (w i) (n i) (place i) (m i) (parts_in (b i))) (parts_in (b i))
