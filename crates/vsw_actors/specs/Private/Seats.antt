-- Actors of either kind, in one list.
use Rattle.std.specs.Prelude.{ℕ, List, [], ◌∷◌, ◌++◌, Option, Some, None, map, take, drop, replicate}
use Rattle.vsw_actors.specs.declared.actor.Begun.{Begun}
use Rattle.vsw_actors.specs.declared.actor.Placed.{Placed}
use Rattle.vsw_actors.specs.declared.seat.Seat.{Seat}
use Rattle.vsw_actors.specs.declared.seat.Seat.TheVariants.{Caller, Reconciler}
use Rattle.vsw_actors.specs.Private.Reconciling.{Tally}
use Rattle.vsw_actors.specs.Private.Rows.{ActorSeen}

-- what an actor is: of the reconciler nothing is told
abbrev pub who_of : {J P S Q : Type 0} → Seat J P S Q → Option (Begun P)
who_of (Caller a) = Some a.0
who_of (Reconciler r) = None

-- the jobs that it has done, and those that are left
abbrev pub done_of : {J P S Q : Type 0} → Seat J P S Q → List (Option (Placed J))
done_of (Caller a) = map Some a.1
done_of (Reconciler r) = replicate r.done None

abbrev pub todo_of : {J P S Q : Type 0} → Seat J P S Q → List (Option (Placed J))
todo_of (Caller a) = map Some a.2
todo_of (Reconciler r) = replicate r.left None

-- the seats of callers, and behind them the reconciler's
abbrev pub seats_of : {J P S Q : Type 0} → List (ActorSeen P J) → Tally → List (Seat J P S Q)
seats_of [] r = Reconciler r ∷ []
seats_of (a ∷ actors) r = Caller a ∷ seats_of actors r

-- the callers among seats
abbrev pub callers_in : {J P S Q : Type 0} → List (Seat J P S Q) → List (ActorSeen P J)
callers_in [] = []
callers_in (Caller a ∷ seats) = a ∷ callers_in seats
callers_in (Reconciler r ∷ seats) = callers_in seats

-- the things behind the first ones, of which so many are put at the end
abbrev pub turned : {X : Type 0} → ℕ → ℕ → List X → List X
turned first count xs = take first xs ++ (drop count (drop first xs) ++ take count (drop first xs))
