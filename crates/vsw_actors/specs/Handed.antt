-- Packets that are handed over to their workers with bytes of their own.
use Rattle.std.specs.Prelude.{◌≡◌, ◌<◌, ℕ, zero, suc, List, [], ◌∷◌, ◌++◌, IfOk, Ok, OnOk, Option, Result, Some, None, Vec}
use Rattle.std.specs.List.{slice_get}
use Rattle.vsw_actors.specs.Picks.{picked, picked_job}
use Rattle.vsw_actors.specs.Work.{parts_in}
use Rattle.vsw_actors.specs.declared.handed.Given.{Given}
use Rattle.vsw_actors.specs.declared.handed.Handed.{Handed}
use Rattle.vsw_actors.specs.declared.pick.Pick.{Pick}
use Rattle.vsw_base.specs.Frame.{Parts, frame_of}
use Rattle.vsw_pcap.specs.declared.capture.Record.{Record}
use Rattle.vsw_port.specs.Calls.{Carry}
use Rattle.vsw_promise.specs.Jobs.{crossing_by}
use Rattle.vsw_promise.specs.Jobs as jobs

-- the job that the packet is to this worker
abbrev pub handed_job : ℕ → Handed → jobs.Placed
handed_job worker p = (p.place.port, Carry (crossing_by worker p.number p.place p.micros (parts_in p.bytes.items)) (parts_in p.bytes.items))

-- its bytes are a frame
abbrev pub HasFrame : Handed → Type 0
HasFrame p = (parts : Parts) × (frame_of p.bytes.items ≡ Ok parts)

-- the lists, with one thing more at the end of the one at a place
abbrev pub with_more : {A : Type 0} → ℕ → A → List (List A) → List (List A)
with_more n x [] = []
with_more zero x (ys ∷ rest) = (ys ++ x ∷ []) ∷ rest
with_more (suc n) x (ys ∷ rest) = ys ∷ with_more n x rest

-- a pick is given to a worker: of whichever batch, these are then its jobs, and the other workers' stay
abbrev pub GivesPick : {T E G : Type 0} → Result T E → ℕ → Pick → List (Vec Pick G) → List (Vec Pick G) → Type 0
GivesPick r worker pick olds news = (first : ℕ) (packets : List Record) → OnOk r (picked 0 first packets news ≡ with_more worker (picked_job worker first packets pick) (picked 0 first packets olds))

-- what was handed over of one packet more: a frame to one of so many workers, as the pick that is new among that worker's; or nothing, and no pick is new
abbrev pub HandsOver : {G : Type 0} → ℕ → ℕ → List Record → List (Vec Pick G) → List (Vec Pick G) → Option Given → Type 0
HandsOver workers first packets olds news None = news ≡ olds
HandsOver workers first packets olds news (Some g) = (g.worker < workers) × HasFrame g.packet × (picked 0 first packets news ≡ with_more g.worker (handed_job g.worker g.packet) (picked 0 first packets olds))

-- the same of the packet at this place of whichever batch it is of, which is this record
abbrev pub HandsPacket : {E G : Type 0} → Result (Option Given) E → ℕ → ℕ → ℕ → Record → List (Vec Pick G) → List (Vec Pick G) → Type 0
HandsPacket r workers first at x olds news = (packets : List Record) → slice_get packets at ≡ Some x → IfOk r (λ given. HandsOver workers first packets olds news given)
