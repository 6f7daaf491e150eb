-- What holds of runs of the program.
use Rattle.std.specs.Prelude.{◌≡◌, ◌≢◌, ◌⊎◌, ℕ, List, [], ◌++◌, Bool, Some, false, codes}
use Rattle.vsw_host.specs.Outside.{Inputs, Outside, Rose}
use Rattle.vsw_policy.specs.Sound.{Each}
use Rattle.vsw_promise.specs.Jobs.{Setting}
use Rattle.vsw_history_law.specs.Law.{AreAsked}
use Rattle.vsw_run.specs.declared.ending.Ending.{Ending}
use Rattle.vsw_run.specs.declared.ending.Ending.TheVariants.{Done}
use Rattle.vsw_run.specs.declared.ending.Status.{Status}
use Rattle.vsw_run.specs.declared.ending.Status.TheVariants as status
use Rattle.vsw_run.specs.Files.{IsWhole}
use Rattle.vsw_run.specs.Exporting.{RunsExport}
use Rattle.vsw_run.specs.IsRun.{Runs, IsRun}
use Rattle.vsw_run.specs.Trace.{Trace, TellsAll}
use Rattle.vsw_run.specs.Words.{Request, Forward, Deliver, Stream, Offload, asked_in}

-- a run that ended well read each of its files to the end
abbrev pub DoneReadsAll : Type 0
DoneReadsAll = (local : Bool) (q : Request) (old new : Outside) (run : Runs local q old new Done) → Each IsWhole run.files

-- where no packet is handed on, what one worker puts of a trace that ends cleanly, where memory suffices, is one text of the three files
abbrev pub OneText : Type 0
OneText = (s : Setting) (t : Trace) (text other : List ℕ) → s.local ≡ false → s.workers ≡ 1 → AreAsked s → TellsAll s t false text → TellsAll s t false other → text ≡ other

-- two outsides differ in what was put alone
pub record DiffersInPut (one two : Outside) : Type 0 where
  pub inputs : two.inputs ≡ one.inputs
  pub read : two.input_faults ≡ one.input_faults
  pub put : two.put_faults ≡ one.put_faults
  pub complained : two.complained ≡ one.complained
  pub complain : two.complain_faults ≡ one.complain_faults

-- a run that exports opens and reads what one does that forwards, and ends as it does: there is such a run, which differs in what it puts alone
abbrev pub ExportsAsForwards : Type 0
ExportsAsForwards = (q : Request) (old new : Outside) (end : Ending) → RunsExport q old new end → (other : Outside) × DiffersInPut new other × Runs false q old other end

-- two hosts hold the same files, and tell them
pub record AreAlike (one two : Outside) : Type 0 where
  pub files : Inputs
  pub others : Inputs
  pub told : one.inputs ≡ Some files
  pub told_too : two.inputs ≡ Some others
  pub same : files.files ≡ others.files

-- the host counted no fault of reading or putting
pub record HasNoFault (old new : Outside) : Type 0 where
  pub read : ¬ (Rose old.input_faults new.input_faults)
  pub put : ¬ (Rose old.put_faults new.put_faults)

-- two runs of the same words over the same files end with one status, whatever the number of workers, unless a host counts a fault or memory is wanting
abbrev pub OneStatus : Type 0
OneStatus = (words : List (List ℕ)) (old new other last : Outside) (s t : Status) → AreAlike old other → HasNoFault old new → HasNoFault other last
    → IsRun words old new s → IsRun words other last t → s ≢ status.Memory → t ≢ status.Memory → s ≡ t

-- want of memory stands in a text: a packet was dropped for it, or a command refused
abbrev pub TellsWant : List ℕ → Type 0
TellsWant text = (front : List ℕ) × (back : List ℕ) × ((text ≡ front ++ (codes " drop memory\n" ++ back)) ⊎ (text ≡ front ++ (codes " refused 10 Memory\n" ++ back)))

-- nothing was put before, and no want of memory stands in what was put since, which the host tells
pub record PutsPlenty (old new : Outside) : Type 0 where
  pub before : old.put ≡ Some []
  pub text : List ℕ
  pub now : new.put ≡ Some text
  pub plenty : ¬ (TellsWant text)

-- with one worker, and where no packet is handed on, they also put the same, unless want of memory stands in it. Of rows that are put nothing is said: a run may leave more of
-- them, or fewer
abbrev pub OneRun : Type 0
OneRun = (words : List (List ℕ)) (old new other last : Outside) (s t : Status) → AreAlike old other → HasNoFault old new → HasNoFault other last
    → IsRun words old new s → IsRun words other last t → s ≢ status.Memory → t ≢ status.Memory
    → ((q : Request) → asked_in words ≡ Some (Forward q) → q.workers ≡ 1) → ((q : Request) → asked_in words ≡ Some (Stream q) → q.workers ≡ 1) → ((q : Request) → asked_in words ≢ Some (Deliver q)) → ((q : Request) → asked_in words ≢ Some (Offload q)) → PutsPlenty old new → PutsPlenty other last → (new.put ≡ last.put) × (s ≡ t)
