-- What is left to do at a port in a round, and what was told of what is done.
use Rattle.std.specs.Prelude.{◌≡◌, ◌<◌, ℕ, suc, ◌+◌, ◌==◌, ◌&&◌, Bool, true, List, [], ◌∷◌, ◌++◌, filter, take, drop, nat_le, nat_lt, Option, Some, None, option_and_then, option_map, if◌then◌else◌, Result, Ok, Err, OnOk, ⊤}
use Rattle.std.specs.List.{slice_get}
use Rattle.vsw_base.specs.declared.fault.NoMemory.{NoMemory}
use Rattle.vsw_base.specs.declared.packet.Dir.{Dir}
use Rattle.vsw_base.specs.Frame.{frame_of}
use Rattle.vsw_commandfile.specs.declared.line.Line.{Line}
use Rattle.vsw_pcap.specs.declared.capture.Record.{Record}
use Rattle.vsw_policy.specs.Layers.{place_of}
use Rattle.vsw_policy.specs.Obey.{rules_given}
use Rattle.vsw_policy.specs.Sound.{Each, IsGoodRule, is_listed}
use Rattle.vsw_port.specs.Calls.{Ask, Carry, Job, doer, job_doer}
use Rattle.vsw_port.specs.History.{Opening}
use Rattle.vsw_port.specs.Ledger.{LedgerSeen}
use Rattle.vsw_promise.specs.Jobs.{crossing_by}
use Rattle.vsw_report.specs.declared.told.By.{By}
use Rattle.vsw_report.specs.declared.told.By.TheVariants.{Controller, Worker}
use Rattle.vsw_audit.specs.declared.line.Files.{Files}
use Rattle.vsw_audit.specs.declared.task.Task.{Task}
use Rattle.vsw_audit.specs.declared.task.Work.{Work}
use Rattle.vsw_audit.specs.declared.task.Work.TheVariants.{Asks, Carries}

-- a port, with the files whose commands and packets come to it
pub record Site : Type 0 where
  pub commands : List Line
  pub records : List Record
  pub place : ℕ
  pub opening : Opening

abbrev pub site_at : List Line → List Record → ℕ → Opening → Site
site_at commands records place opening = record { commands = commands; records = records; place = place; opening = opening }

-- the port at a place, whose ledger this is
abbrev pub site_of : Files → ℕ → LedgerSeen → Site
site_of f place l = site_at f.commands.now f.records.now place l.opening

-- a record as this caller brings it to the port
abbrev pub carried_in : ℕ → ℕ → ℕ → Dir → Record → Option Job
carried_in place doer n dir r = elim (frame_of r.bytes) [
  | Err fault ↦ None
  | Ok parts ↦ Some (Carry (crossing_by doer n (record { port = place; dir = dir }) r.moment parts) parts)
]

abbrev pub work_in : Site → ℕ → Work → Option Job
work_in s doer (Asks at) = option_map Ask (slice_get s.commands at)
work_in s doer (Carries n dir) = option_and_then (carried_in s.place doer n dir) (slice_get s.records n)

-- the job that a task is
abbrev pub job_in : Site → Task → Option Job
job_in s t = work_in s t.doer t.work

pub record IsTask (s : Site) (t : Task) (j : Job) : Type 0 where
  pub job : job_in s t ≡ Some j
  pub doer_is : t.doer ≡ job_doer s.opening.controllers j

-- these are the tasks of these jobs, in their order
abbrev pub AreTasks : Site → List Task → List Job → Type 0
AreTasks s [] [] = Unit {0}
AreTasks s (t ∷ ts) (j ∷ js) = IsTask s t j × AreTasks s ts js
AreTasks s _ _ = ⊥

-- behind the tasks of any jobs, at a port with these files, come the tasks of these jobs
abbrev pub AddsJobs : Files → List Job → (old new : List Task) → Result ⊤ NoMemory → Type 0
AddsJobs f more old new r = (s : Site) (js : List Job) → s.commands ≡ f.commands.now → s.opening.controllers ≡ f.controllers.now → AreTasks s old js
    → OnOk r (AreTasks s new (js ++ more))

-- a job of one of sixteen workers, or of a listed controller
abbrev pub IsKnown : List ℕ → Job → Type 0
IsKnown cs (Carry x p) = x.caller < 16
IsKnown cs (Ask l) = is_listed cs l.controller ≡ true

-- a command that may be asked of a port with these controllers
abbrev pub CanBeAsked : List ℕ → Line → Type 0
CanBeAsked cs l = (is_listed cs l.controller ≡ true) × Each IsGoodRule (rules_given l.command)

-- the tasks are those of some jobs of callers
abbrev pub HasJobs : Site → List Task → Type 0
HasJobs s ts = (js : List Job) × AreTasks s ts js × Each (IsKnown s.opening.controllers) js

-- the tasks of a caller
abbrev pub by : ℕ → List Task → List Task
by k ts = filter (λ t. t.doer == k) ts

-- the next task of a caller, from a place on, is the one at another place
pub record IsNextTask (k from place : ℕ) (ts : List Task) (t : Task) : Type 0 where
  pub stands : slice_get ts place ≡ Some t
  pub doer_is : t.doer ≡ k
  pub rest : by k (drop from ts) ≡ t ∷ by k (drop (suc place) ts)
  pub front : by k (take place ts) ≡ by k (take from ts)

abbrev pub NextTask : ℕ → ℕ → List Task → Option ℕ → Type 0
NextTask k from ts None = by k (drop from ts) ≡ []
NextTask k from ts (Some place) = (t : Task) × IsNextTask k from place ts t

-- a task that is done, of which a line tells this
abbrev pub marked : Bool → ℕ → Task → Task
marked entry count t = record { doer = t.doer; work = t.work; entry = entry; count = count }

-- the caller whose line it is: one of sixteen workers, or of the listed controllers
abbrev pub caller_in : List ℕ → By → Option ℕ
caller_in cs (Worker n) = if nat_lt n 16 then Some n else None
caller_in cs (Controller c) = if is_listed cs c then Some (16 + place_of c cs) else None

-- ---- what the lines told, in the order of the tasks

-- the number behind a task, if it is no entry or has this number
abbrev pub lead_behind : ℕ → Task → Option ℕ
lead_behind low t = if t.entry then (if t.count == low then Some (low + 1) else None) else Some low

-- the entries among these have this number and those that follow it. The number behind them
abbrev pub lead_of : ℕ → List Task → Option ℕ
lead_of low [] = Some low
lead_of low (t ∷ ts) = option_and_then (λ n. lead_of n ts) (lead_behind low t)

-- no count is less
abbrev pub are_behind : ℕ → List Task → Bool
are_behind least [] = true
are_behind least (t ∷ ts) = nat_le least t.count && are_behind least ts

abbrev pub next_low : Task → ℕ
next_low t = if t.entry then t.count + 1 else t.count

-- counts never fall, and rise after an entry
abbrev pub are_ordered : ℕ → List Task → ℕ → Bool
are_ordered low [] high = nat_le low high
are_ordered low (t ∷ ts) high = nat_le low t.count && are_ordered (next_low t) ts high
