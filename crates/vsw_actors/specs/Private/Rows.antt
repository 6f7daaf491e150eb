-- Actors of a round between its beginning and its end.
use Rattle.std.specs.Prelude.{ℕ, suc, List, [], ◌∷◌, length, Vec}
use Rattle.vsw_promise.specs.Ports.{PortSeen}
use Rattle.vsw_port.specs.Calls.{Job, Call}
use Rattle.vsw_many.specs.Passes.{PassNow}
use Rattle.vsw_actors.specs.declared.actor.Begun.{Begun}
use Rattle.vsw_actors.specs.declared.actor.Placed.{Placed}
use Rattle.vsw_actors.specs.declared.lane.Lane.{Lane}
use Rattle.vsw_actors.specs.Actors.{HasDone}
use Rattle.vsw_actors.specs.Lanes.{AreFit, fronts_of}

-- an actor, as contracts see it
abbrev pub ActorSeen : Type 0 → Type 0 → Type 0
ActorSeen P J = Begun P × List (Placed J) × List (Placed J)

-- the actors from k on, as they begin with these rows and shares
abbrev pub begun_rows : {J P S F G : Type 0} → (S → PassNow) → ℕ → List P → List (Vec (Lane S) F) → List (Vec (Placed J) G) → List (ActorSeen P J)
begun_rows pass_in k ps (r ∷ rs) (s ∷ ss) = (record { number = k; ports = ps; histories = fronts_of pass_in r.items }, [], s.items) ∷ begun_rows pass_in (suc k) ps rs ss
begun_rows pass_in k ps _ _ = []

-- the rows of actors, as they end
abbrev pub AllEnd : {J P S F : Type 0} → (P → PortSeen) → (P → List ℕ) → (S → PassNow) → (J → Job) → (S → List Call → Type 0) → (P → S → Type 0) → (S → ℕ) → List (ActorSeen P J) → List (Vec (Lane S) F) → Type 0
AllEnd port_in locals pass_in job_in tells is_of permits [] [] = Unit {0}
AllEnd port_in locals pass_in job_in tells is_of permits (a ∷ actors) (t ∷ ts) =
    AreFit pass_in is_of permits a.0.number (length a.2) a.0.ports t.items × HasDone port_in locals pass_in job_in tells a.0.number a.0.ports a.0.histories t.items a.1 × AllEnd port_in locals pass_in job_in tells is_of permits actors ts
AllEnd port_in locals pass_in job_in tells is_of permits _ _ = ⊥
