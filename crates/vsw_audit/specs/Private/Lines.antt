-- What is found of one line of a report.
use Rattle.std.specs.Prelude.{◌≡◌, ◌<◌, ℕ, suc, Bool, true, List, [], ◌∷◌, ◌++◌, drop, get_or, Some, Result, IfOk}
use Rattle.std.specs.List.{slice_set}
use Rattle.vsw_base.specs.declared.fault.NoMemory.{NoMemory}
use Rattle.vsw_port.specs.declared.event.Event.{Event}
use Rattle.vsw_port.specs.Calls.{Call, Deed, Job, ShowsAt, doer, entries_of, event_of, job_of}
use Rattle.vsw_port.specs.Core.{entered}
use Rattle.vsw_port.specs.History.{Opening, replay}
use Rattle.vsw_port.specs.Ledger.{LedgerSeen}
use Rattle.vsw_port.specs.Next.{IsDone, IsNext}
use Rattle.vsw_promise.specs.Told.{line_of}
use Rattle.vsw_report.specs.declared.told.ToldLine.{ToldLine}
use Rattle.vsw_audit.specs.declared.task.Task.{Task}
use Rattle.vsw_audit.specs.Order.{IsDeedOf}
use Rattle.vsw_audit.specs.Private.Tasks.{IsNextTask, Site, by, caller_in, job_in, marked}

-- a deed that is told stands at the end of a history or not, and the history after it
pub record Judges (o : Opening) (h : List Event) (d : Deed) (entry : Bool) (new : List Event) (answer : Bool) : Type 0 where
  pub yes : answer ≡ true → IsDone o h d entry × ShowsAt (replay o h) d × (new ≡ h ++ entered entry (event_of d))
  pub back : IsDone o h d entry → ShowsAt (replay o h) d → answer ≡ true

-- unless memory was wanting, a deed is judged by the history of a ledger
abbrev pub JudgesBy : LedgerSeen → Deed → Bool → LedgerSeen → Result Bool NoMemory → Type 0
JudgesBy old d entry new r = IfOk r (λ answer. Judges old.opening old.journal d entry new.journal answer)

-- a line that is told of a job is that of the next call on a history or not, and the history after it
pub record JudgesLine (o : Opening) (h : List Event) (j : Job) (l : ToldLine) (new : List Event) (answer : Bool) : Type 0 where
  pub yes : answer ≡ true → (c : Call) × (job_of c.deed ≡ j) × (line_of c ≡ l) × IsNext o h c × (new ≡ h ++ entries_of (c ∷ []))
  pub back : (c : Call) → job_of c.deed ≡ j → line_of c ≡ l → IsNext o h c → answer ≡ true

-- and so is a line that is told of a job
abbrev pub JudgesLineBy : LedgerSeen → Job → ToldLine → LedgerSeen → Result Bool NoMemory → Type 0
JudgesLineBy old j l new r = IfOk r (λ answer. JudgesLine old.opening old.journal j l new.journal answer)

-- a port's history, what it has to do, and how far its callers are
pub record Stage : Type 0 where
  pub history : List Event
  pub tasks : List Task
  pub cursors : List ℕ

abbrev pub stage : List Event → List Task → List ℕ → Stage
stage history tasks cursors = record { history = history; tasks = tasks; cursors = cursors }

-- how far a caller is
abbrev pub at : ℕ → Stage → ℕ
at k g = get_or g.cursors k 0

-- a line's caller has a next task, and the line tells the next call of it
pub record Moves (s : Site) (l : ToldLine) (g new : Stage) : Type 0 where
  pub caller : ℕ
  pub place : ℕ
  pub task : Task
  pub call : Call
  pub caller_is : caller_in s.opening.controllers l.by ≡ Some caller
  pub within : caller < 24
  pub task_is : IsNextTask caller (at caller g) place g.tasks task
  pub job : job_in s task ≡ Some (job_of call.deed)
  pub line : line_of call ≡ l
  pub is_next : IsNext s.opening g.history call
  pub history : new.history ≡ g.history ++ entries_of (call ∷ [])
  pub tasks : new.tasks ≡ slice_set g.tasks place (marked l.entry l.count task)
  pub cursors : new.cursors ≡ slice_set g.cursors caller (suc place)

-- the line is so or not
pub record Steps (s : Site) (l : ToldLine) (g new : Stage) (answer : Bool) : Type 0 where
  pub yes : answer ≡ true → Moves s l g new
  pub back : (c : Call) (t : Task) (rest : List Task) → IsDeedOf s.opening.controllers c.deed → line_of c ≡ l → IsNext s.opening g.history c
      → by (doer s.opening.controllers c.deed) (drop (at (doer s.opening.controllers c.deed) g) g.tasks) ≡ t ∷ rest → job_in s t ≡ Some (job_of c.deed) → answer ≡ true
