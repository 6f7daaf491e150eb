-- From what a pass promises to the rounds of a run.
use Rattle.std.specs.Prelude.{◌≡◌, ◌≢◌, ◌≤◌, ◌<◌, ℕ, List, [], ◌∷◌, ◌++◌, length, map, true}
use mathlib.Core.List.{IsPrefix}
use Rattle.vsw_pcap.specs.declared.capture.Record.{Record}
use Rattle.vsw_policy.specs.Layers.{place_of}
use Rattle.vsw_policy.specs.Sound.{Each, are_distinct, is_listed}
use Rattle.vsw_promise.specs.Ports.{PortSeen, ports_of}
use Rattle.vsw_report.specs.declared.round.Round.{Round}
use Rattle.vsw_port.specs.declared.event.Event.{Event}
use Rattle.vsw_port.specs.Calls.{Job, Call, job_of, job_doer, jobs_by, doer, entries_of, entries_naming, InOrder, IsShare, AreShares, HasBytes}
use Rattle.vsw_port.specs.History.{Opening, AllRight}
use Rattle.vsw_port.specs.Next.{IsNext}
use Rattle.vsw_history_law.specs.Law.{AreServed}
use Rattle.vsw_promise.specs.Jobs.{Setting, Jobs, Placed, jobs_of, at_place, placed_packets, macs_of, packets_between}
use Rattle.vsw_many.specs.Dealing.{deal, numbers_of, placed_jobs, placed_lines}
use Rattle.vsw_promise.specs.Rounds.{IsPortRound, AreRounds, AreHistories}
use Rattle.vsw_report.specs.declared.round.PortRound.{PortRound}
use Rattle.vsw_promise.specs.Told.{lines_of}
use Rattle.vsw_many.specs.Passes.{PassNow, AtRest, Crosses, Learns, Works, Meets}
use Rattle.vsw_many.specs.Phases.{Track, SameByCaller, PortDone, port_told}
use Rattle.vsw_many.specs.Actors.{AllRest, begun, AtWork, Does, AllMeet, lanes_of, HasWorked}
use Rattle.vsw_many.specs.Rounds.{RunDone}

-- ---- a pass

-- a pass that hasn't worked has no calls; one more call, and what it is told of, keep what it did
abbrev pub WorksBegin : Type 0
WorksBegin = (o : Opening) (p : PassNow) → Works o p p []

abbrev pub WorksGoOn : Type 0
WorksGoOn = (o : Opening) (p q r : PassNow) (calls : List Call) (j : Job) (c : Call) → Works o p q calls → Crosses o q r j c → Works o p r (calls ++ c ∷ [])

abbrev pub WorksStay : Type 0
WorksStay = (o : Opening) (p q r : PassNow) (calls : List Call) → Works o p q calls → Learns q r → Works o p r calls

-- what a pass did between two rests is its caller's share, each call shows its bytes, and it rests again
pub record IsSettled (o : Opening) (h g : List Event) (k : ℕ) (r : PassNow) (calls : List Call) : Type 0 where
  pub share : IsShare o h g k calls
  pub bytes : Each (HasBytes o g) calls
  pub rest : AtRest o g k r

abbrev pub WorksSettle : Type 0
WorksSettle = (o : Opening) (h g : List Event) (k : ℕ) (p q r : PassNow) (calls : List Call) → AtRest o h k p → Works o p q calls → Meets o g q r → IsSettled o h g k r calls

-- one thread's calls stand in one order, whoever makes them, if before each call its pass is told of all that the call before had seen
abbrev pub TurnGoesOn : Type 0
TurnGoesOn = (o : Opening) (low : ℕ) (f : List Event) (p q : PassNow) (calls : List Call) (j : Job) (c : Call) → InOrder low calls (length f) → IsPrefix f p.front → Crosses o p q j c → InOrder low (calls ++ c ∷ []) (length q.front)

-- ---- a port under its lock

-- a pass that has seen a front of the port's history, and made the entries in it that name its caller
pub record IsBehind (o : Opening) (h : List Event) (p : PassNow) : Type 0 where
  pub seen : IsPrefix p.front h
  pub own : p.receipts ≡ entries_naming o.controllers p.number h

-- the pass after this call at the end of a history
abbrev pub called : List Event → PassNow → Call → PassNow
called h p c = record { number = p.number; front = h ++ entries_of (c ∷ []); receipts = p.receipts ++ entries_of (c ∷ []) }

-- its call crosses, the history stays right, and no pass is left behind
pub record IsLockedCall (o : Opening) (h : List Event) (p : PassNow) (j : Job) (c : Call) : Type 0 where
  pub crosses : Crosses o p (called h p c) j c
  pub right : AllRight o (h ++ entries_of (c ∷ []))
  pub own : IsBehind o (h ++ entries_of (c ∷ [])) (called h p c)
  pub others : (q : PassNow) → q.number ≢ p.number → IsBehind o h q → IsBehind o (h ++ entries_of (c ∷ [])) q

abbrev pub LockedCallsCross : Type 0
LockedCallsCross = (o : Opening) (h : List Event) (p : PassNow) (j : Job) (c : Call) → AllRight o h → IsBehind o h p → doer o.controllers c.deed ≡ p.number → job_of c.deed ≡ j → IsNext o h c → IsLockedCall o h p j c

-- a pass that is shown the history meets the port
abbrev pub LockedMeets : Type 0
LockedMeets = (o : Opening) (h : List Event) (p : PassNow) → IsBehind o h p → Meets o h p (record { number = p.number; front = h; receipts = p.receipts })

-- ---- a round of a port

abbrev pub PortIsRound : Type 0
PortIsRound = (workers : ℕ) (p : PortSeen) (h g : List Event) (jobs : Jobs) (first later : List Call) → PortDone workers p h g jobs first later → IsPortRound workers p g jobs (port_told p h g (first ++ later))

-- the lines hang on each caller's calls alone, not on how they stand among others'
abbrev pub OrderIsFree : Type 0
OrderIsFree = (o : Opening) (h g : List Event) (calls others : List Call) (before more : ℕ) → AreShares o h g calls → SameByCaller o.controllers others calls → lines_of o.controllers others before more ≡ lines_of o.controllers calls before more

-- ---- who does what

-- what is dealt to a caller is at each port what it has to do there
abbrev pub DealIsPlaced : Type 0
DealIsPlaced = (s : Setting) (records : List Record) (told : List PortRound) (first next k place number : ℕ) → place_of number (numbers_of s.policy) ≡ place → is_listed (numbers_of s.policy) number ≡ true
    → at_place place (deal s.policy.controllers k (placed_jobs s records told first next)) ≡ jobs_by s.policy.controllers k (jobs_of s records told first next place number).later

-- to a worker, packets alone; to a number that no worker has, nothing; to a controller, "during" commands alone
pub record IsDealt (s : Setting) (records : List Record) (told : List PortRound) (first next k : ℕ) : Type 0 where
  pub worker : k < 16 → deal s.policy.controllers k (placed_jobs s records told first next) ≡ deal s.policy.controllers k (placed_packets s.workers s.local (macs_of s.policy) told (packets_between records first next))
  pub idle : s.workers ≤ k → k < 16 → deal s.policy.controllers k (placed_jobs s records told first next) ≡ []
  pub controller : 16 ≤ k → deal s.policy.controllers k (placed_jobs s records told first next) ≡ deal s.policy.controllers k (placed_lines (numbers_of s.policy) s.commands first)

abbrev pub AllIsDealt : Type 0
AllIsDealt = (s : Setting) (records : List Record) (told : List PortRound) (first next k : ℕ) → AreServed s → IsDealt s records told first next k

-- ---- an actor

abbrev pub ActorBegins : Type 0
ActorBegins = (place k : ℕ) (ps : List PortSeen) (hs : List (List Event)) (qs : List PassNow) → AllRest k ps hs qs → AtWork place k ps hs (map begun qs) []

abbrev pub ActorGoesOn : Type 0
ActorGoesOn = (place k at : ℕ) (j : Job) (ps : List PortSeen) (hs : List (List Event)) (ts us : List Track) (done : List Placed) → Each (λ p. job_doer p.controllers j ≡ k) ps → AtWork place k ps hs ts done → Does place at j ps ts us → AtWork place k ps hs us (done ++ (at, j) ∷ [])

-- when its passes have met the ports it has worked, and they rest again
abbrev pub ActorEnds : Type 0
ActorEnds = (place k : ℕ) (ps : List PortSeen) (hs gs : List (List Event)) (ts : List Track) (qs : List PassNow) (done : List Placed) → AtWork place k ps hs ts done → AllMeet ps gs ts qs → HasWorked place k ps hs gs (lanes_of ts qs) done × AllRest k ps gs qs

-- ---- a run

-- for 1 to 16 workers, what callers did round after round, from no entries on, is told as the rounds of the run. The histories are right
abbrev pub RunIsTold : Type 0
RunIsTold = (s : Setting) (records : List Record) (cuts : List ℕ) (rounds : List Round) (gs : List (List Event)) → AreServed s → are_distinct (numbers_of s.policy) ≡ true
    → RunDone s records (map (λ p. []) (ports_of s.policy)) cuts gs rounds → AreRounds s records cuts rounds × AreHistories (ports_of s.policy) gs
