-- What an actor does in a round over all ports: a worker with its packets, or a controller with its commands.
use Rattle.std.specs.Prelude.{◌≡◌, ◌≢◌, ℕ, suc, List, [], ◌∷◌, ◌++◌, map}
use Rattle.vsw_promise.specs.Ports.{PortSeen}
use Rattle.vsw_port.specs.declared.event.Event.{Event}
use Rattle.vsw_port.specs.Calls.{Job, Call, job_of}
use Rattle.vsw_port.specs.History.{Opening}
use Rattle.vsw_promise.specs.Jobs.{Placed, at_place}
use Rattle.vsw_many.specs.Dealing.{deal}
use Rattle.vsw_promise.specs.Rounds.{opening_of}
use Rattle.vsw_many.specs.Passes.{PassNow, AtRest, Crosses, Meets}
use Rattle.vsw_many.specs.Phases.{Track, IsTrack, Lane, IsLane}

-- a caller's passes at rest, one a port
abbrev pub AllRest : ℕ → List PortSeen → List (List Event) → List PassNow → Type 0
AllRest k [] [] [] = Unit {0}
AllRest k (p ∷ ps) (h ∷ hs) (q ∷ qs) = AtRest (opening_of p) h k q × AllRest k ps hs qs
AllRest k _ _ _ = ⊥

-- a pass that hasn't worked yet
abbrev pub begun : PassNow → Track
begun p = record { start = p; now = p; calls = [] }

-- an actor has a track at each port, from the one at this place on: there it has done those of the jobs done that are placed there, in their order
abbrev pub AtWork : ℕ → ℕ → List PortSeen → List (List Event) → List Track → List Placed → Type 0
AtWork place k [] [] [] done = Unit {0}
AtWork place k (p ∷ ps) (h ∷ hs) (t ∷ ts) done = IsTrack (opening_of p) h k t × (map (λ c. job_of c.deed) t.calls ≡ at_place place done) × AtWork (suc place) k ps hs ts done
AtWork place k _ _ _ done = ⊥

-- one more job on a track
pub record Moves (o : Opening) (j : Job) (t u : Track) : Type 0 where
  pub call : Call
  pub crosses : Crosses o t.now u.now j call
  pub start : u.start ≡ t.start
  pub calls : u.calls ≡ t.calls ++ call ∷ []

-- an actor does a job at the port at its place, and nothing at the others
abbrev pub Does : ℕ → ℕ → Job → List PortSeen → List Track → List Track → Type 0
Does place at j [] [] [] = Unit {0}
Does place at j (p ∷ ps) (t ∷ ts) (u ∷ us) = ((at ≡ place) → Moves (opening_of p) j t u) × ((at ≢ place) → u ≡ t) × Does (suc place) at j ps ts us
Does place at j _ _ _ = ⊥

-- the passes of its tracks meet the ports, whose histories are these
abbrev pub AllMeet : List PortSeen → List (List Event) → List Track → List PassNow → Type 0
AllMeet [] [] [] [] = Unit {0}
AllMeet (p ∷ ps) (g ∷ gs) (t ∷ ts) (q ∷ qs) = Meets (opening_of p) g t.now q × AllMeet ps gs ts qs
AllMeet _ _ _ _ = ⊥

-- its lanes, when they have met
abbrev pub lanes_of : List Track → List PassNow → List Lane
lanes_of (t ∷ ts) (q ∷ qs) = record { track = t; met = q } ∷ lanes_of ts qs
lanes_of _ _ = []

-- an actor has done these jobs: it has a lane at each port, with those that are placed there
abbrev pub HasWorked : ℕ → ℕ → List PortSeen → List (List Event) → List (List Event) → List Lane → List Placed → Type 0
HasWorked place k [] [] [] [] done = Unit {0}
HasWorked place k (p ∷ ps) (h ∷ hs) (g ∷ gs) (l ∷ ls) done = IsLane (opening_of p) h g k l × (map (λ c. job_of c.deed) l.track.calls ≡ at_place place done) × HasWorked (suc place) k ps hs gs ls done
HasWorked place k _ _ _ _ done = ⊥

-- all callers, from this number on, a row of lanes each: each has done its own of these jobs
abbrev pub AreRows : List ℕ → List Placed → ℕ → ℕ → List PortSeen → List (List Event) → List (List Event) → List (List Lane) → Type 0
AreRows cs all place k ps hs gs [] = Unit {0}
AreRows cs all place k ps hs gs (row ∷ rows) = HasWorked place k ps hs gs row (deal cs k all) × AreRows cs all place (suc k) ps hs gs rows
