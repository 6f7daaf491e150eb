-- Jobs that are done in turn, stretch by stretch: after each stretch all passes meet the ports.
use Rattle.std.specs.Prelude.{◌≡◌, ℕ, suc, ◌==◌, ◌&&◌, not, List, [], ◌∷◌, ◌++◌, map, filter}
use Rattle.vsw_commandfile.specs.declared.line.Line.{Line}
use Rattle.vsw_policy.specs.Layers.{place_of}
use Rattle.vsw_promise.specs.Ports.{PortSeen}
use Rattle.vsw_port.specs.declared.event.Event.{Event}
use Rattle.vsw_port.specs.Calls.{Ask, Call, calls_of}
use Rattle.vsw_promise.specs.Jobs.{Placed, at_place}
use Rattle.vsw_many.specs.Phases.{Lane}
use Rattle.vsw_many.specs.Rounds.{PortTurn}

-- at each port, from the one at this place on, those of the jobs that are placed there were done in turn as these calls
abbrev pub PlacedTurns : ℕ → List PortSeen → List Placed → List (List Event) → List (List Event) → List (List Call) → Type 0
PlacedTurns place [] jobs [] [] [] = Unit {0}
PlacedTurns place (p ∷ ps) jobs (h ∷ hs) (g ∷ gs) (c ∷ cs) = PortTurn p h g (at_place place jobs) c × PlacedTurns (suc place) ps jobs hs gs cs
PlacedTurns place _ jobs _ _ _ = ⊥

-- the calls of one stretch and of the next, at each port
abbrev pub append_each : List (List Call) → List (List Call) → List (List Call)
append_each (c ∷ cs) (d ∷ ds) = (c ++ d) ∷ append_each cs ds
append_each _ _ = []

-- the "before" commands of the round that begins with this packet, in file order, with the places of their ports among these numbers
abbrev pub placed_before : List ℕ → List Line → ℕ → List Placed
placed_before numbers commands first = map (λ l. (place_of l.port numbers, Ask l)) (filter (λ l. (l.at == first) && not l.during) commands)

-- at each port, of all these calls those of caller k are those of its lane
abbrev pub AreOwn : ℕ → List PortSeen → List (List Call) → List Lane → Type 0
AreOwn k [] [] [] = Unit {0}
AreOwn k (p ∷ ps) (c ∷ cs) (l ∷ ls) = (calls_of p.controllers k c ≡ l.track.calls) × AreOwn k ps cs ls
AreOwn k _ _ _ = ⊥
