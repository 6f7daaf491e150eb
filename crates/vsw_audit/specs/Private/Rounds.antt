-- What a round gives its ports to do, and what is found of its lines.
use Rattle.std.specs.Prelude.{◌≡◌, ◌<◌, ℕ, suc, ◌+◌, ◌==◌, ◌&&◌, ◌||◌, not, Bool, true, false, List, [], ◌∷◌, ◌++◌, map, min, take, drop, get_or, Option, Some, None, if◌then◌else◌, Result, Ok, Err}
use Rattle.std.specs.List.{flat_map, slice_get}
use Rattle.vsw_base.specs.declared.flow.Place.{Place}
use Rattle.vsw_base.specs.Frame.{Parts}
use Rattle.vsw_commandfile.specs.declared.line.Line.{Line}
use Rattle.vsw_pcap.specs.declared.capture.Record.{Record}
use Rattle.vsw_policy.specs.Layers.{place_of}
use Rattle.vsw_port.specs.Calls.{Job}
use Rattle.vsw_port.specs.declared.event.Event.{Event}
use Rattle.vsw_port.specs.Core as core
use Rattle.vsw_promise.specs.declared.port.Port.{Port}
use Rattle.vsw_promise.specs.Forwarded.{packet_jobs}
use Rattle.vsw_promise.specs.Jobs.{Jobs, aim_of, before_jobs, during_jobs, multiples_below, worker_of}
use Rattle.vsw_promise.specs.Ports.{PortSeen}
use Rattle.vsw_promise.specs.Rounds.{opening_of}
use Rattle.vsw_report.specs.declared.round.LooseCause.{LooseCause}
use Rattle.vsw_report.specs.declared.round.PortRound.{PortRound}
use Rattle.vsw_audit.specs.declared.dealing.Aim.{Aim}
use Rattle.vsw_audit.specs.declared.port.Seat.{Seat}
use Rattle.vsw_audit.specs.declared.task.Task.{Task}
use Rattle.vsw_audit.specs.declared.task.Work.{Work}
use Rattle.vsw_audit.specs.declared.task.Work.TheVariants.{Asks, Carries}
use Rattle.vsw_audit.specs.Replay.{Replays, continued}
use Rattle.vsw_audit.specs.Private.Tasks.{are_behind, are_ordered, by, lead_of}

-- ---- answers

-- the answer is yes where this holds of what was found, and else it holds of nothing; of nothing else it holds
pub record Finds {A : Type 0} (P : A → Type 0) (new : A) (answer : Bool) : Type 0 where
  pub yes : answer ≡ true → P new
  pub back : (a : A) → P a → (answer ≡ true) × (a ≡ new)

-- ---- dealing

-- where a packet goes, in which direction, and who brings it
abbrev pub aim_by : ℕ → Result (Place × Parts) LooseCause → Result Aim LooseCause
aim_by workers (Err why) = Err why
aim_by workers (Ok a) = Ok (record { port = a.0.port; dir = a.0.dir; worker = worker_of workers a.1 })

abbrev pub aimed : Result Aim LooseCause → Option Aim
aimed (Err why) = None
aimed (Ok a) = Some a

abbrev pub aims_of : ℕ → List ℕ → List (ℕ × Record) → List (Option Aim)
aims_of workers macs packets = map (λ p. aimed (aim_by workers (aim_of macs p.1))) packets

-- these records stand in the trace, one after the other, from this number on
abbrev pub StandFrom : List Record → ℕ → List (ℕ × Record) → Type 0
StandFrom records n [] = Unit {0}
StandFrom records n (p ∷ ps) = (p.0 ≡ n) × (slice_get records n ≡ Some p.1) × StandFrom records (suc n) ps

-- ---- tasks

-- a task of which nothing was told yet
abbrev pub new_task : ℕ → Work → Task
new_task doer w = record { doer = doer; work = w; entry = false; count = 0 }

abbrev pub task_aimed : ℕ → ℕ → Option Aim → List Task
task_aimed n port None = []
task_aimed n port (Some a) = if a.port == port then new_task a.worker (Carries n a.dir) ∷ [] else []

-- the packets that go to a port, the first of which has this number
abbrev pub tasks_aimed : ℕ → ℕ → List (Option Aim) → List Task
tasks_aimed n port [] = []
tasks_aimed n port (a ∷ more) = task_aimed n port a ++ tasks_aimed (suc n) port more

-- whether a command is for the port of this number, and runs beside the packets or before them
abbrev pub is_for : ℕ → Bool → Line → Bool
is_for number during l = l.port == number && (if during then l.during else not l.during)

abbrev pub task_asked : List ℕ → ℕ → Bool → ℕ → Option Line → List Task
task_asked cs number during place None = []
task_asked cs number during place (Some l) = if is_for number during l then new_task (16 + place_of l.controller cs) (Asks place) ∷ [] else []

-- the commands at these places of the file that are for a port
abbrev pub tasks_asked : List Line → List ℕ → ℕ → Bool → List ℕ → List Task
tasks_asked commands cs number during places = flat_map (λ place. task_asked cs number during place (slice_get commands place)) places

abbrev pub asked_jobs : Bool → List Line → ℕ → ℕ → List Job
asked_jobs true commands first number = during_jobs commands first number
asked_jobs false commands first number = before_jobs commands first number

-- what is to be done at a port
abbrev pub jobs_at : List Line → ℕ → List ℕ → ℕ → ℕ → ℕ → List (ℕ × Record) → Jobs
jobs_at commands workers macs first port number packets = record {
  first = before_jobs commands first number;
  later = during_jobs commands first number ++ packet_jobs workers macs port packets;
}

-- ---- the end of a port's round

-- no caller has a task left
pub record AreDone (ts : List Task) (cursors : List ℕ) (answer : Bool) : Type 0 where
  pub yes : answer ≡ true → (k : ℕ) → k < 24 → by k (drop (get_or cursors k 0) ts) ≡ []
  pub back : ((k : ℕ) → k < 24 → by k (drop (get_or cursors k 0) ts) ≡ []) → answer ≡ true

-- the entries of the first so many tasks come first and in their order, no other count is less, and one worker did all in order
abbrev pub is_settled : ℕ → ℕ → ℕ → ℕ → List Task → Bool
is_settled workers split low high ts = elim (lead_of low (take split ts)) [
  | None ↦ false
  | Some least ↦ are_behind least (drop split ts) && (not (workers == 1) || are_ordered low ts high)
]

-- the port's round is replayed, and this is its history
abbrev pub PortReplays : ℕ → PortSeen → List Event → Jobs → PortRound → List Event → Type 0
PortReplays workers p h jobs r g = (w : Replays workers p h jobs r) × (g ≡ continued h w.calls)

-- ---- all ports

-- a port of the policy, in the midst of its report
pub record IsSeat (p : PortSeen) (s : Seat) : Type 0 where
  pub number : s.number ≡ p.number
  pub opening : s.ledger.opening ≡ opening_of p

abbrev pub AreSeats : List PortSeen → List Seat → Type 0
AreSeats [] [] = Unit {0}
AreSeats (p ∷ ps) (s ∷ ss) = IsSeat p s × AreSeats ps ss
AreSeats _ _ = ⊥

abbrev pub histories : List Seat → List (List Event)
histories ss = map (λ s. s.ledger.journal) ss

-- ports before the first round
abbrev pub AreFirst : List Port → List Seat → Type 0
AreFirst [] [] = Unit {0}
AreFirst (p ∷ ps) (s ∷ ss) = (s.number ≡ p.number) × (s.ledger.opening ≡ core.opening_of p.policy) × (s.ledger.journal ≡ []) × AreFirst ps ss
AreFirst _ _ = ⊥

-- the rounds of these ports are replayed, from the one at this place on: from these histories to those
abbrev pub AllReplay : List Line → ℕ → List ℕ → ℕ → List (ℕ × Record) → ℕ → List PortSeen → List (List Event) → List PortRound → List (List Event) → Type 0
AllReplay commands workers macs first packets place [] [] [] [] = Unit {0}
AllReplay commands workers macs first packets place (p ∷ ps) (h ∷ hs) (r ∷ rs) (g ∷ gs) = PortReplays workers p h (jobs_at commands workers macs first place p.number packets) r g × AllReplay commands workers macs first packets (suc place) ps hs rs gs
AllReplay commands workers macs first packets place _ _ _ _ = ⊥

-- ---- rounds

-- where a trace is cut
abbrev pub cut_numbers : List Line → ℕ → List ℕ
cut_numbers commands total = 0 ∷ map (λ l. l.at) commands ++ multiples_below total

-- the lesser of two numbers, if there are two
abbrev pub lesser_of : Option ℕ → Option ℕ → Option ℕ
lesser_of None o = o
lesser_of (Some m) None = Some m
lesser_of (Some m) (Some n) = Some (min m n)

-- the packets of a round end at the next cut, or with the trace
abbrev pub IsEnd : Option ℕ → ℕ → ℕ → Type 0
IsEnd None total end = end ≡ total
IsEnd (Some next) total end = end ≡ min next total
