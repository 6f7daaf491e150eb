-- The end of an actor's round.
use Rattle.std.specs.Prelude.{ℕ, List, [], ◌∷◌, map}
use Rattle.vsw_promise.specs.Ports.{PortSeen}
use Rattle.vsw_port.specs.declared.event.Event.{Event}
use Rattle.vsw_port.specs.Calls.{Job, Call}
use Rattle.vsw_promise.specs.Rounds.{opening_of}
use Rattle.vsw_many.specs.Actors.{AllRest, HasWorked}
use Rattle.vsw_hairpin.specs.Handing.{HaveHanded, with_hops}
use Rattle.vsw_many.specs.Passes.{PassNow, Meets}
use Rattle.vsw_promise.specs.Jobs as jobs
use Rattle.vsw_many.specs.Phases as many
use Rattle.vsw_actors.specs.declared.actor.Placed.{Placed}
use Rattle.vsw_actors.specs.declared.lane.Lane.{Lane}
use Rattle.vsw_actors.specs.Actors.{HasDone, locals_at, placed_of}

-- the pass of each lane meets its port, whose history is this, and is then this pass
abbrev pub AllMet : {P S : Type 0} → (P → PortSeen) → (S → PassNow) → List P → List (List Event) → List (Lane S) → List PassNow → Type 0
AllMet port_in pass_in [] [] [] [] = Unit {0}
AllMet port_in pass_in (p ∷ ps) (g ∷ gs) (l ∷ ls) (q ∷ qs) = Meets (opening_of (port_in p)) g (pass_in l.station) q × AllMet port_in pass_in ps gs ls qs
AllMet port_in pass_in _ _ _ _ = ⊥

-- the station of each lane tells the calls of the round's lane at its port
abbrev pub AllTell : {S : Type 0} → (S → List Call → Type 0) → List (Lane S) → List many.Lane → Type 0
AllTell tells [] [] = Unit {0}
AllTell tells (l ∷ ls) (m ∷ ms) = tells l.station m.track.calls × AllTell tells ls ms
AllTell tells _ _ = ⊥

-- actor k has done these jobs, and after each of them what its call handed on, while the ports' histories grew from those to these: the stations
-- tell its calls, and its passes rest again
pub record IsWorked {J P S : Type 0} (port_in : P → PortSeen) (locals : P → List ℕ) (job_in : J → Job) (tells : S → List Call → Type 0) (k : ℕ) (ps : List P) (hs gs : List (List Event)) (ls : List (Lane S)) (qs : List PassNow) (done : List (Placed J)) : Type 0 where
  pub row : List many.Lane
  pub hops : List (List jobs.Placed)
  pub worked : HasWorked 0 k (map port_in ps) hs gs row (with_hops (map (placed_of job_in) done) hops)
  pub handed : HaveHanded (locals_at locals ps) (map (λ l. l.track.calls) row) (map (placed_of job_in) done) hops
  pub told : AllTell tells ls row
  pub rest : AllRest k (map port_in ps) gs qs

-- an actor whose passes have met the ports has done its jobs of the round
abbrev pub ActorsEnd : {J P S : Type 0} → (P → PortSeen) → (P → List ℕ) → (S → PassNow) → (J → Job) → (S → List Call → Type 0) → Type 0
ActorsEnd {J} {P} {S} port_in locals pass_in job_in tells =
    (k : ℕ) (ps : List P) (hs : List (List Event)) (gs : List (List Event)) (ls : List (Lane S)) (qs : List PassNow) (done : List (Placed J)) → HasDone port_in locals pass_in job_in tells k ps hs ls done → AllMet port_in pass_in ps gs ls qs → IsWorked port_in locals job_in tells k ps hs gs ls qs done
