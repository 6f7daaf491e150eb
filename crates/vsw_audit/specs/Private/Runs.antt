-- Lines that follow one on another.
use Rattle.std.specs.Prelude.{◌≡◌, ℕ, Bool, true, List, [], ◌∷◌, ◌++◌, length, map, take, get_or, Some, Result, IfOk}
use Rattle.vsw_base.specs.declared.fault.NoMemory.{NoMemory}
use Rattle.vsw_policy.specs.Sound.{Each}
use Rattle.vsw_port.specs.declared.event.Event.{Event}
use Rattle.vsw_port.specs.Calls.{Call, Job, calls_of, doer, entries_of, job_of, jobs_by}
use Rattle.vsw_port.specs.Ledger.{LedgerSeen}
use Rattle.vsw_promise.specs.Told.{line_of}
use Rattle.vsw_report.specs.declared.told.ToldLine.{ToldLine}
use Rattle.vsw_audit.specs.declared.task.Task.{Task}
use Rattle.vsw_audit.specs.Replay.{Runs}
use Rattle.vsw_audit.specs.Private.Tasks.{AreTasks, IsKnown, Site, by, job_in}

-- a task is that of a call, and was told what the call's line tells
pub record IsDoneBy (s : Site) (t : Task) (c : Call) : Type 0 where
  pub job : job_in s t ≡ Some (job_of c.deed)
  pub doer_is : t.doer ≡ doer s.opening.controllers c.deed
  pub entry : t.entry ≡ c.entry
  pub count : t.count ≡ c.count

abbrev pub AreDoneBy : Site → List Task → List Call → Type 0
AreDoneBy s [] [] = Unit {0}
AreDoneBy s (t ∷ ts) (c ∷ cs) = IsDoneBy s t c × AreDoneBy s ts cs
AreDoneBy s _ _ = ⊥

-- calls that these lines tell, one after the other on a history, each of the next of its caller's jobs. Not all jobs need be done
pub record Does (s : Site) (js : List Job) (h : List Event) (lines : List ToldLine) (calls : List Call) : Type 0 where
  pub lines_are : map line_of calls ≡ lines
  pub runs : Runs s.opening h calls
  pub own : (k : ℕ) → (rest : List Job) × (map (λ c. job_of c.deed) (calls_of s.opening.controllers k calls) ++ rest ≡ jobs_by s.opening.controllers k js)

-- what the port has come to by them
pub record Comes (s : Site) (js : List Job) (h : List Event) (lines : List ToldLine) (new : List Event) (ts : List Task) (cursors : List ℕ) : Type 0 where
  pub calls : List Call
  pub does : Does s js h lines calls
  pub history : new ≡ h ++ entries_of calls
  pub long : length cursors ≡ 24
  pub tasks : AreTasks s ts js
  pub done : (k : ℕ) → AreDoneBy s (by k (take (get_or cursors k 0) ts)) (calls_of s.opening.controllers k calls)
  pub only : (others : List Call) → Does s js h lines others → others ≡ calls

pub record Follows (s : Site) (js : List Job) (h : List Event) (lines : List ToldLine) (new : List Event) (ts : List Task) (cursors : List ℕ) (answer : Bool) : Type 0 where
  pub yes : answer ≡ true → Comes s js h lines new ts cursors
  pub back : (calls : List Call) → Does s js h lines calls → answer ≡ true

-- unless memory was wanting, the lines are followed, or not, whichever jobs of callers the tasks are of
abbrev pub FollowsJobs : Site → List Task → LedgerSeen → List ToldLine → LedgerSeen → List Task → List ℕ → Result Bool NoMemory → Type 0
FollowsJobs s ts old lines new left cursors r = (js : List Job) → AreTasks s ts js → Each (IsKnown s.opening.controllers) js
    → IfOk r (λ answer. Follows s js old.journal lines new.journal left cursors answer)
