-- What callers bring to a port, what they are told, and how that stands to the port's history.
use Rattle.std.specs.Prelude.{◌≡◌, ◌≤◌, ◌+◌, ◌==◌, ℕ, List, [], ◌∷◌, ◌++◌, length, map, filter, take, Bool, true, false, Some, if◌then◌else◌}
use Rattle.std.specs.List.{slice_get}
use mathlib.Core.List.{IsPrefix}
use Rattle.vsw_base.specs.declared.fate.Cause.TheVariants.{Memory}
use Rattle.vsw_base.specs.declared.fate.Fate.{Fate}
use Rattle.vsw_base.specs.declared.fate.Fate.TheVariants.{Pass, Drop}
use Rattle.vsw_base.specs.declared.flow.Crossing.{Crossing}
use Rattle.vsw_base.specs.Frame.{Parts}
use Rattle.vsw_commandfile.specs.declared.line.Line.{Line}
use Rattle.vsw_port.specs.Cross.{cross_of, made_by, makes}
use Rattle.vsw_port.specs.Fate.{fate_at}
use Rattle.vsw_port.specs.Walk.{walk_of}
use Rattle.vsw_port.specs.Bytes.{outgoing}
use Rattle.vsw_policy.specs.Layer.{LayerSeen}
use Rattle.vsw_policy.specs.declared.refusal.Refusal.TheVariants as refusal
use Rattle.vsw_policy.specs.declared.refusal.Reply.{Reply}
use Rattle.vsw_policy.specs.declared.refusal.Reply.TheVariants.{Refused}
use Rattle.vsw_policy.specs.Layers.{place_of}
use Rattle.vsw_policy.specs.Sound.{Each}
use Rattle.vsw_port.specs.declared.event.Event.{Event}
use Rattle.vsw_port.specs.declared.event.Event.TheVariants as event
use Rattle.vsw_port.specs.History.{Opening, replay, AllRight}

-- what a caller has to do: carry a packet whose frame has these parts, or ask a line of the commands file
pub data Job : Type 0 where
  Carry : Crossing → Parts → Job
  Ask : Line → Job

-- what was done: a packet was carried, with this fate and these bytes; a line was asked, with this reply
pub data Deed : Type 0 where
  Carried : Crossing → Parts → Fate → List ℕ → Deed
  Asked : Line → Reply → Deed

-- a call: what was done, and its place in the history, as the entry of this number or as a read at this count
pub record Call : Type 0 where
  pub deed : Deed
  pub entry : Bool
  pub count : ℕ

-- the job that was done
abbrev pub job_of : Deed → Job
job_of (Carried x p fate bytes) = Carry x p
job_of (Asked l reply) = Ask l

-- the entry of a deed, if it is one
abbrev pub event_of : Deed → Event
event_of (Carried x p fate bytes) = event.Crossing x fate
event_of (Asked l reply) = event.Command l.controller l.number l.command reply

-- callers have numbers: the workers 0 to 15, and the controllers from 16 on, in the policy's order
abbrev pub controller_at : List ℕ → ℕ → ℕ
controller_at cs controller = 16 + place_of controller cs

-- the caller whose deed it is
abbrev pub doer : List ℕ → Deed → ℕ
doer cs (Carried x p fate bytes) = x.caller
doer cs (Asked l reply) = controller_at cs l.controller

-- the caller whose job it is, and the number of its packet or line
abbrev pub job_doer : List ℕ → Job → ℕ
job_doer cs (Carry x p) = x.caller
job_doer cs (Ask l) = controller_at cs l.controller

abbrev pub job_item : Job → ℕ
job_item (Carry x p) = x.packet
job_item (Ask l) = l.number

-- the jobs of a caller, in its order
abbrev pub jobs_by : List ℕ → ℕ → List Job → List Job
jobs_by cs k jobs = filter (λ j. job_doer cs j == k) jobs

-- the caller that an entry names
abbrev pub named : List ℕ → Event → ℕ
named cs (event.Command controller line command reply) = controller_at cs controller
named cs (event.Crossing x fate) = x.caller

-- the calls of a caller, in its order
abbrev pub calls_of : List ℕ → ℕ → List Call → List Call
calls_of cs k calls = filter (λ c. doer cs c.deed == k) calls

-- the entries that name a caller
abbrev pub entries_naming : List ℕ → ℕ → List Event → List Event
entries_naming cs k h = filter (λ e. named cs e == k) h

-- the entries that calls are, in their order
abbrev pub entries_of : List Call → List Event
entries_of calls = map (λ c. event_of c.deed) (filter (λ c. c.entry) calls)

-- the call is an entry, and stands in the history at its number
pub record IsEntry (h : List Event) (c : Call) : Type 0 where
  pub marked : c.entry ≡ true
  pub stands : slice_get h c.count ≡ Some (event_of c.deed)

-- a packet has the fate of its crossing at these layers, which changes nothing. A command is never a read of them
abbrev pub Reads : List LayerSeen → Deed → Type 0
Reads ls (Carried x p fate bytes) = (fate ≡ fate_at ls x) × ((cross_of ls x).changed ≡ false)
Reads ls (Asked l reply) = ⊥

-- the call is a read: the layers after as many entries as its count answered it
pub record IsRead (o : Opening) (h : List Event) (c : Call) : Type 0 where
  pub marked : c.entry ≡ false
  pub within : c.count ≤ length h
  pub reads : Reads (replay o (take c.count h)) c.deed

-- memory may be wanting for any command, and for a packet whose crossing at these layers makes a pair
abbrev pub Wants : List LayerSeen → Deed → Type 0
Wants ls (Carried x p fate bytes) = (fate ≡ Drop Memory) × (makes (made_by ls x) ≡ true)
Wants ls (Asked l reply) = reply ≡ Refused refusal.Memory

-- the call was told that memory is wanting. It is no entry, so it changed nothing
pub record IsShort (o : Opening) (h : List Event) (c : Call) : Type 0 where
  pub marked : c.entry ≡ false
  pub within : c.count ≤ length h
  pub wants : Wants (replay o (take c.count h)) c.deed

-- a call is an entry, a read, or was told of want of memory
pub data IsCall (o : Opening) (h : List Event) (c : Call) : Type 0 where
  Entry : IsEntry h c → IsCall o h c
  Read : IsRead o h c → IsCall o h c
  Short : IsShort o h c → IsCall o h c

-- the least count that the next call of the same caller may have
abbrev pub next_count : Call → ℕ
next_count c = if c.entry then c.count + 1 else c.count

-- between the low count and the high one: counts never fall, and the call after an entry has a greater count
abbrev pub InOrder : ℕ → List Call → ℕ → Type 0
InOrder low [] high = low ≤ high
InOrder low (c ∷ cs) high = (low ≤ c.count) × InOrder (next_count c) cs high

-- a history and all calls on it
pub record Legal (o : Opening) (h : List Event) (calls : List Call) : Type 0 where
  -- each entry is right
  pub right : AllRight o h
  -- each call is an entry of it, or a read, or was told that memory is wanting
  pub each : Each (IsCall o h) calls
  -- in each caller's order the counts never fall, and a call after an entry has a greater one
  pub in_order : (k : ℕ) → InOrder 0 (calls_of o.controllers k calls) (length h)
  -- the entries that name a caller are exactly its calls that are entries, each once, in its order
  pub entries : (k : ℕ) → entries_naming o.controllers k h ≡ entries_of (calls_of o.controllers k calls)

-- the calls of one caller while the history grew from one to another
pub record IsShare (o : Opening) (before after : List Event) (k : ℕ) (calls : List Call) : Type 0 where
  pub begins : IsPrefix before after
  pub each : Each (IsCall o after) calls
  pub in_order : InOrder (length before) calls (length after)
  pub entries : entries_naming o.controllers k after ≡ entries_naming o.controllers k before ++ entries_of calls

-- the calls of all callers meanwhile
abbrev pub AreShares : Opening → List Event → List Event → List Call → Type 0
AreShares o before after calls = (k : ℕ) → IsShare o before after k (calls_of o.controllers k calls)

-- calls in one order of them all, while the history grew from one to another: their entries are what was added
pub record IsOneOrder (before after : List Event) (calls : List Call) : Type 0 where
  pub entries : after ≡ before ++ entries_of calls
  pub in_order : InOrder (length before) calls (length after)

-- a packet that passed leaves with the bytes of its frame under the headers with which its walk over these layers ends. A dropped one has none
abbrev pub Shows : List LayerSeen → Crossing → Parts → Fate → List ℕ → Type 0
Shows ls x p (Pass len) bytes = bytes ≡ outgoing p (walk_of ls x).stack (walk_of ls x).kept
Shows ls x p (Drop cause) bytes = bytes ≡ []

-- the same of a deed. A command has no bytes
abbrev pub ShowsAt : List LayerSeen → Deed → Type 0
ShowsAt ls (Carried x p fate bytes) = Shows ls x p fate bytes
ShowsAt ls (Asked l reply) = Unit {0}

-- the call shows the bytes of its place in the history
abbrev pub HasBytes : Opening → List Event → Call → Type 0
HasBytes o h c = ShowsAt (replay o (take c.count h)) c.deed
