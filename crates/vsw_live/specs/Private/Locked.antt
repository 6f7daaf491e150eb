-- What lies under a port's lock, and what its calls tell.
use Rattle.std.specs.Prelude.{◌≡◌, ◌⊎◌, ℕ, List, take}
use Rattle.vsw_answer.specs.Answers.{Pass}
use Rattle.vsw_answer.specs.Transit.{bytes_in}
use Rattle.vsw_base.specs.declared.fate.Cause.TheVariants.{Memory}
use Rattle.vsw_base.specs.declared.fate.Fate.{Fate}
use Rattle.vsw_base.specs.declared.fate.Fate.TheVariants.{Drop}
use Rattle.vsw_base.specs.declared.flow.Crossing.{Crossing}
use Rattle.vsw_base.specs.declared.header.Header.{Header}
use Rattle.vsw_base.specs.Frame.{Parts}
use Rattle.vsw_port.specs.Fate.{fate_at}
use Rattle.vsw_flows.specs.Flows.{IsOf, Looking, Writing}
use Rattle.vsw_port.specs.declared.event.Event.{Event}
use Rattle.vsw_port.specs.Calls.{Call, Carried, HasBytes, Shows}
use Rattle.vsw_port.specs.Crossed.{EditsPass}
use Rattle.vsw_port.specs.History.{AllRight, Opening, replay}
use Rattle.vsw_policy.specs.Layer.{LayerSeen}
use Rattle.vsw_live.specs.Calls.{Crosses}
use Rattle.vsw_live.specs.Meeting.{Meets}
use Rattle.vsw_live.specs.Ports.{PortSeen, StandsAt}
use Rattle.vsw_live.specs.Seen.{UnitSeen}
use Rattle.vsw_port.specs.declared.crossing.Outcome.{Outcome}
use Rattle.vsw_rows.specs.GoodRows.{opening_of}

-- the writer is that of the port at this place, counts its passes, and has a right history
pub record IsLocked (ports : List PortSeen) (place : ℕ) (v : Writing) : Type 0 where
  pub port : PortSeen
  pub there : StandsAt ports place port
  pub of : IsOf port.looking v
  pub counts : v.view.passes ≡ port.passes
  pub right : AllRight (opening_of port.looking.1) v.view.history

-- a writer stays of its table, its opening and its passes
pub record Stays (v w : Writing) : Type 0 where
  pub table : w.table ≡ v.table
  pub opens : w.view.opening ≡ v.view.opening
  pub passes : w.view.passes ≡ v.view.passes

-- the rows alone change: words, stamps, and how many stamps were given. History, passes, permits and opening stay, and so the layers do
abbrev pub Rewrites : Writing → Writing → Type 0
Rewrites v w = w ≡ record v { view = record v.view { given = w.view.given; stamps = w.view.stamps; rows = w.view.rows } }

-- the port at this place has this lookup
abbrev pub HasLookup : List PortSeen → ℕ → Looking → Type 0
HasLookup ports place l = (n : ℕ) × StandsAt ports place (record { looking = l; passes = n })

-- however many passes the port at this place has, which has this lookup and this history, a pass met it, and may make so many entries more
abbrev pub MeetsAt : List PortSeen → ℕ → Looking → List Event → ℕ → Writing → Writing → Type 0
MeetsAt ports place l history more p q =
    (n : ℕ) → StandsAt ports place (record { looking = l; passes = n }) → Meets (record { port = record { looking = l; passes = n }; history = history }) more p q

-- a packet has the fate of its crossing at these layers, or memory was wanting
abbrev pub IsFateAt : List LayerSeen → Crossing → Fate → Type 0
IsFateAt ls x fate = (fate ≡ fate_at ls x) ⊎ (fate ≡ Drop Memory)

-- at whichever layers a packet has this outcome and these headers, its frame leaves with its own bytes, or those at the front of a room
abbrev pub LeavesSo : UnitSeen → List Header → Outcome → List ℕ → Type 0
LeavesSo u hs outcome out = (ls : List LayerSeen) → IsFateAt ls u.crossing outcome.fate → EditsPass ls u.crossing hs outcome.kept outcome.fate → Shows ls u.crossing u.parts outcome.fate (bytes_in outcome.own u.parts outcome.fate out)

-- the layers with which a packet meets, after so many entries
abbrev pub layers_met : Opening → Pass → ℕ → List LayerSeen
layers_met o q count = replay o (take count q.front)

-- the call of a packet with any frame
abbrev pub carried : Crossing → Parts → List ℕ → Outcome → ℕ → Call
carried x p bytes outcome count = record { deed = Carried x p outcome.fate bytes; entry = outcome.entry; count = count }

-- a packet crossed under the lock: with the right bytes it is a call
abbrev pub CrossesSo : Opening → Writing → Writing → Crossing → Outcome → ℕ → Type 0
CrossesSo o p q x outcome count = (parts : Parts) (bytes : List ℕ) → HasBytes o q.view.front (carried x parts bytes outcome count) → Crosses o p q (carried x parts bytes outcome count)
