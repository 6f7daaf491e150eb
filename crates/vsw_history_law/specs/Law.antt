-- What holds of histories and reports.
use Rattle.std.specs.Prelude.{◌≡◌, ◌<◌, ◌≤◌, ℕ, ◌==◌, ◌&&◌, List, [], ◌∷◌, ◌++◌, length, map, filter, Some, Bool, true, false, if◌then◌else◌}
use Rattle.std.specs.List.{slice_get, list_any, flat_map}
use Rattle.vsw_policy.specs.Layer.{LayerSeen}
use Rattle.vsw_pcap.specs.declared.capture.Record.{Record}
use Rattle.vsw_policy.specs.declared.command.Command.{Command}
use Rattle.vsw_policy.specs.declared.refusal.Reply.{Reply}
use Rattle.vsw_policy.specs.Layers.{is_of}
use Rattle.vsw_policy.specs.Obey.{obey}
use Rattle.vsw_policy.specs.Sound.{Each, AreInOrder, is_listed}
use Rattle.vsw_promise.specs.Ports.{PortSeen, ports_of}
use Rattle.vsw_port.specs.declared.event.Event.{Event}
use Rattle.vsw_port.specs.declared.event.Event.TheVariants as event
use Rattle.vsw_report.specs.declared.round.PortRound.{PortRound}
use Rattle.vsw_report.specs.declared.round.Round.{Round}
use Rattle.vsw_report.specs.declared.told.By.{By}
use Rattle.vsw_report.specs.declared.told.By.TheVariants.{Worker, Controller}
use Rattle.vsw_report.specs.declared.told.ToldLine.{ToldLine}
use Rattle.vsw_report.specs.declared.told.What.{What}
use Rattle.vsw_report.specs.declared.told.What.TheVariants as what
use Rattle.vsw_port.specs.Calls.{Job, Carry, Ask, Call, event_of, job_of, job_item, job_doer, jobs_by, calls_of, Legal, HasBytes}
use Rattle.vsw_promise.specs.Agree.{lines_at}
use Rattle.vsw_promise.specs.Alone.{rounds_alone}
use Rattle.vsw_report.specs.Short.{are_short}
use Rattle.vsw_promise.specs.Jobs.{Setting, Jobs, jobs_of}
use Rattle.vsw_port.specs.Order.{StandsOnce}
use Rattle.vsw_promise.specs.Rounds.{opening_of, IsPortRound, AreRounds, end_before}
use Rattle.vsw_promise.specs.Told.{callers, line_doer, line_of}
use Rattle.vsw_port.specs.History.{Opening, after, reply_in, left_by, AllRight}

-- ---- calls and lines

-- the lines of a caller
abbrev pub lines_by : List ℕ → ℕ → List ToldLine → List ToldLine
lines_by cs k lines = filter (λ l. line_doer cs l == k) lines

-- a caller's lines are of its jobs: each job has one, and they stand in its order
abbrev pub HasLines : List ℕ → List Job → List ToldLine → ℕ → Type 0
HasLines cs jobs lines k = map (λ l. l.item) (lines_by cs k lines) ≡ map job_item (jobs_by cs k jobs)

-- this is so of each caller of a round
abbrev pub OneLineEach : Type 0
OneLineEach = (workers : ℕ) (p : PortSeen) (h : List Event) (jobs : Jobs) (r : PortRound) (k : ℕ) → IsPortRound workers p h jobs r → StandsOnce k (callers p.controllers) → HasLines p.controllers (jobs.first ++ jobs.later) r.lines k

-- the lines of a caller are those of its calls: each has its number, its count, whether it is the entry of it, and what became of it
abbrev pub LinesAreCalls : Type 0
LinesAreCalls = (workers : ℕ) (p : PortSeen) (h : List Event) (jobs : Jobs) (r : PortRound) (k : ℕ) (i : IsPortRound workers p h jobs r) → StandsOnce k (callers p.controllers)
    → lines_by p.controllers k r.lines ≡ map line_of (calls_of p.controllers k (i.first ++ i.later))

-- and no line is another's
abbrev pub NoOtherLines : Type 0
NoOtherLines = (workers : ℕ) (p : PortSeen) (h : List Event) (jobs : Jobs) (r : PortRound) → IsPortRound workers p h jobs r
    → Each (λ l. list_any (λ j. job_doer p.controllers j == line_doer p.controllers l) (jobs.first ++ jobs.later) ≡ true) r.lines

-- the lines that tell of the entry of this number
abbrev pub entry_lines : ℕ → List ToldLine → List ToldLine
entry_lines n lines = filter (λ l. l.entry && (l.count == n)) lines

-- an entry of a round has one line: that of a call which stands in the history as this entry. So the line names its event, the crossing of its
-- packet or its command
pub record HasLine (h : List Event) (n : ℕ) (e : Event) (lines : List ToldLine) : Type 0 where
  pub call : Call
  pub count : call.count ≡ n
  pub event : event_of call.deed ≡ e
  pub line : entry_lines n lines ≡ line_of call ∷ []

-- this is so of each entry of a round
abbrev pub EachEntryIsTold : Type 0
EachEntryIsTold = (workers : ℕ) (p : PortSeen) (h : List Event) (jobs : Jobs) (r : PortRound) (n : ℕ) (e : Event) → IsPortRound workers p h jobs r
    → r.before ≤ n → n < r.after → slice_get h n ≡ Some e → HasLine h n e r.lines

-- ---- whole runs

-- all that is to be done at a port in these rounds, which begin at these cuts
abbrev pub all_jobs : Setting → List Record → List ℕ → List Round → ℕ → ℕ → List Job
all_jobs s records (cut ∷ cuts) (r ∷ rounds) place number = (jobs_of s records r.ports cut (end_before cuts (length records)) place number).first ++ (jobs_of s records r.ports cut (end_before cuts (length records)) place number).later ++ all_jobs s records cuts rounds place number
all_jobs s records _ _ place number = []

-- a port's history and calls in a whole run are legal, each call shows its bytes, each job is one call, and the lines of a caller are those of its calls
pub record IsLegalPort (s : Setting) (records : List Record) (cuts : List ℕ) (rounds : List Round) (place : ℕ) (p : PortSeen) (h : List Event) : Type 0 where
  pub calls : List Call
  pub legal : Legal (opening_of p) h calls
  pub bytes : Each (HasBytes (opening_of p) h) calls
  pub jobs : map (λ c. job_of c.deed) calls ≡ all_jobs s records cuts rounds place p.number
  pub lines : (k : ℕ) → StandsOnce k (callers p.controllers) → lines_by p.controllers k (lines_at place rounds) ≡ map line_of (calls_of p.controllers k calls)

abbrev pub RunsLegally : Type 0
RunsLegally = (s : Setting) (records : List Record) (cuts : List ℕ) (rounds : List Round) (run : AreRounds s records cuts rounds) (place : ℕ) (p : PortSeen) (h : List Event)
    → slice_get (ports_of s.policy) place ≡ Some p → slice_get run.histories place ≡ Some h → IsLegalPort s records cuts rounds place p h

-- the controllers of all commands are the policy's
abbrev pub AreAsked : Setting → Type 0
AreAsked s = Each (λ l. is_listed s.policy.controllers l.controller ≡ true) s.commands

-- a run as the program starts it: 1 to 16 workers, and commands of the policy's controllers
pub record AreServed (s : Setting) : Type 0 where
  pub least : 0 < s.workers
  pub most : s.workers ≤ 16
  pub asked : AreAsked s

-- where no packet is handed on, the rounds of one worker, in whose lines no want of memory stands, are those worked out
abbrev pub OneValue : Type 0
OneValue = (s : Setting) (records : List Record) (cuts : List ℕ) (rounds : List Round) → s.local ≡ false → s.workers ≡ 1 → AreAsked s → AreRounds s records cuts rounds → are_short rounds ≡ false → rounds ≡ rounds_alone s records cuts

-- ---- controllers

-- a layer without its pairs
abbrev pub bare : LayerSeen → LayerSeen
bare l = record { controller = l.controller; spec = l.spec; groups = l.groups; pairs = []; next_pair = 0 }

-- the layers of a controller, without their pairs
abbrev pub own_bare : ℕ → List LayerSeen → List LayerSeen
own_bare c ls = map bare (filter (is_of c) ls)

-- the commands of a controller in a history, with their replies
abbrev pub orders_of : ℕ → List Event → List (Command × Reply)
orders_of c [] = []
orders_of c (event.Command controller line command reply ∷ es) = if controller == c then (command, reply) ∷ orders_of c es else orders_of c es
orders_of c (event.Crossing x fate ∷ es) = orders_of c es

-- the replies to these commands of a controller, one after the other, where no one else does anything
abbrev pub answers_alone : List ℕ → List LayerSeen → ℕ → List Command → List Reply
answers_alone cs ls c [] = []
answers_alone cs ls c (m ∷ ms) = reply_in (obey cs ls c m) ∷ answers_alone cs (left_by ls (obey cs ls c m)) c ms

-- each controller has the replies that its own commands alone would have
abbrev pub RepliesAlone : Type 0
RepliesAlone = (o : Opening) (h : List Event) (c : ℕ) → AreInOrder o.controllers o.layers → AllRight o h → map (λ t. t.1) (orders_of c h) ≡ answers_alone o.controllers o.layers c (map (λ t. t.0) (orders_of c h))

-- the replies that these lines tell to a controller, and the commands that it has to ask
abbrev pub is_told : ℕ → By → Bool
is_told c (Worker n) = false
is_told c (Controller n) = n == c

abbrev pub reply_among : What → List Reply
reply_among (what.Fate fate bytes) = []
reply_among (what.Reply reply) = reply ∷ []

abbrev pub reply_by : ℕ → ToldLine → List Reply
reply_by c l = if is_told c l.by then reply_among l.what else []

abbrev pub replies_told : ℕ → List ToldLine → List Reply
replies_told c lines = flat_map (reply_by c) lines

abbrev pub asked_by : ℕ → Job → List Command
asked_by c (Carry x p) = []
asked_by c (Ask l) = if l.controller == c then l.command ∷ [] else []

-- in a run that tells of no want of memory the lines of a port tell each controller the replies that its own commands alone would have, one after the other
abbrev pub RunsRepliesAlone : Type 0
RunsRepliesAlone = (s : Setting) (records : List Record) (cuts : List ℕ) (rounds : List Round) → AreServed s → AreRounds s records cuts rounds → are_short rounds ≡ false → (place : ℕ) (p : PortSeen) (c : ℕ)
    → slice_get (ports_of s.policy) place ≡ Some p → is_listed p.controllers c ≡ true
    → replies_told c (lines_at place rounds) ≡ answers_alone p.controllers p.layers c (flat_map (asked_by c) (all_jobs s records cuts rounds place p.number))

-- the entry is no command of this controller
abbrev pub IsOthers : ℕ → Event → Type 0
IsOthers c e = orders_of c (e ∷ []) ≡ []

-- an entry of others changes none of its layers, groups and rules
abbrev pub OthersApart : Type 0
OthersApart = (cs : List ℕ) (ls : List LayerSeen) (c : ℕ) (e : Event) → IsOthers c e → own_bare c (after cs ls e) ≡ own_bare c ls
