-- Packets that are handed on between ports: what a call hands on, and callers that do at once what their calls hand on.
use Rattle.std.specs.Prelude.{◌≡◌, ℕ, suc, List, [], ◌∷◌, ◌++◌, map, get_or, if◌then◌else◌}
use Rattle.vsw_promise.specs.Jobs.{Placed, Setting, at_place, handed_on, macs_of, second_job}
use Rattle.vsw_many.specs.Dealing.{deal}
use Rattle.vsw_promise.specs.Ports.{PortSeen}
use Rattle.vsw_promise.specs.Rounds.{opening_of}
use Rattle.vsw_port.specs.declared.event.Event.{Event}
use Rattle.vsw_port.specs.Calls.{Call, Deed, Carried, Asked, job_of}
use Rattle.vsw_port.specs.Next.{Goes}
use Rattle.vsw_report.specs.declared.round.PortRound.{PortRound}
use Rattle.vsw_report.specs.declared.told.What.TheVariants as what
use Rattle.vsw_many.specs.Phases.{Lane, port_told}
use Rattle.vsw_many.specs.Actors.{HasWorked}

-- the addresses of the ports to which packets are handed on: all ports', or none
abbrev pub locals_of : Setting → List ℕ
locals_of s = if s.local then macs_of s.policy else []

-- what a call at the port at this place hands on to ports of these addresses: its worker brings the packet once more, at the same moment. A
-- command's hands nothing on
abbrev pub handed_by : List ℕ → ℕ → Deed → List Placed
handed_by macs place (Carried x p fate bytes) = map (second_job x.caller x.packet x.moment) (handed_on macs (record { port = place; dir = x.id.dir }) (what.Fate fate bytes))
handed_by macs place (Asked l reply) = []

-- jobs, each followed by those that its call handed on
abbrev pub with_hops : List Placed → List (List Placed) → List Placed
with_hops [] hops = []
with_hops (j ∷ js) [] = j ∷ with_hops js []
with_hops (j ∷ js) (h ∷ hops) = j ∷ (h ++ with_hops js hops)

-- one of these calls, which are those at the job's port, did the job and handed this on
pub record HasHanded (macs : List ℕ) (calls : List Call) (j : Placed) (hops : List Placed) : Type 0 where
  pub front : List Call
  pub call : Call
  pub back : List Call
  pub is : calls ≡ front ++ call ∷ back
  pub job : job_of call.deed ≡ j.1
  pub hops_are : hops ≡ handed_by macs j.0 call.deed

-- each of these jobs was done so, where these are the calls at each port
abbrev pub HaveHanded : List ℕ → List (List Call) → List Placed → List (List Placed) → Type 0
HaveHanded macs calls [] [] = Unit {0}
HaveHanded macs calls (j ∷ js) (h ∷ hops) = HasHanded macs (get_or calls j.0 []) j h × HaveHanded macs calls js hops
HaveHanded macs calls _ _ = ⊥

-- ---- callers beside each other

-- all callers, from this number on, a row of lanes each: each has done its own of these jobs, and after each of them what its call handed on
abbrev pub AreHandedRows : List ℕ → List ℕ → List Placed → ℕ → List PortSeen → List (List Event) → List (List Event) → List (List Lane) → List (List (List Placed)) → Type 0
AreHandedRows macs cs all k ps hs gs [] [] = Unit {0}
AreHandedRows macs cs all k ps hs gs (row ∷ rows) (h ∷ hops) =
    HasWorked 0 k ps hs gs row (with_hops (deal cs k all) h) × HaveHanded macs (map (λ l. l.track.calls) row) (deal cs k all) h × AreHandedRows macs cs all (suc k) ps hs gs rows hops
AreHandedRows macs cs all k ps hs gs _ _ = ⊥

-- ---- one thread

-- at each port, from the one at this place on, those of the jobs that are placed there were done one after the other, as these calls
abbrev pub AreGone : ℕ → List PortSeen → List Placed → List (List Event) → List (List Event) → List (List Call) → Type 0
AreGone place [] jobs [] [] [] = Unit {0}
AreGone place (p ∷ ps) jobs (h ∷ hs) (g ∷ gs) (c ∷ calls) = Goes (opening_of p) h g c × (map (λ c. job_of c.deed) c ≡ at_place place jobs) × AreGone (suc place) ps jobs hs gs calls
AreGone place _ jobs _ _ _ = ⊥

-- what a report tells of each port whose history grew from one to another by these calls
abbrev pub told_of : List PortSeen → List (List Event) → List (List Event) → List (List Call) → List PortRound
told_of (p ∷ ps) (h ∷ hs) (g ∷ gs) (c ∷ calls) = port_told p h g c ∷ told_of ps hs gs calls
told_of _ _ _ _ = []
