-- A run that reads ahead: the last round's text may be still to be put, and a round may be out while the next one is read.
use Rattle.std.specs.Prelude.{◌≡◌, ◌<◌, ◌≤◌, ℕ, List, [], ◌++◌, length}
use Rattle.vsw_port.specs.declared.event.Event.{Event}
use Rattle.vsw_host.specs.Outside.{Outside, Grows}
use Rattle.vsw_pcap.specs.declared.capture.Record.{Record}
use Rattle.vsw_promise.specs.Jobs.{Setting, cuts_within}
use Rattle.vsw_run.specs.Trace.{most_records}
use Rattle.vsw_report.specs.Print.{report_text}
use Rattle.vsw_report.specs.Short.{are_short}
use Rattle.vsw_report.specs.declared.round.Round.{Round}
use Rattle.vsw_crew.specs.Switch.{SwitchNow, IsAt}
use Rattle.vsw_replay.specs.declared.trace.Run.{Run}
use Rattle.vsw_replay.specs.declared.trace.Stretch.{Stretch}
use Rattle.vsw_replay.specs.Private.Cut.{IsCut, IsNextCut}
use Rattle.vsw_replay.specs.Private.Going.{Since}
use Rattle.vsw_replay.specs.Private.Next.{IsReadUpTo, in_batch}
use Rattle.vsw_replay.specs.Private.SoFar.{AreSoFar}

-- the run with these packets in its batch
abbrev pub with_batch : Run → List Record → Run
with_batch run packets = record { reading = in_batch run.reading packets; text = run.text; short = run.short }

-- no round is still to be told
abbrev pub none_left : List Round → Type 0
none_left rounds = rounds ≡ []

-- as `IsFilled`, but behind the rounds that were put there may be some that were run and are still to be told; `left` says which
pub record IsOwing (s : Setting) (start now : Outside) (name : List ℕ) (run : Run) (switch : SwitchNow) (left : List Round → Type 0) (t : Stretch) : Type 0 where
  pub given : List Record
  pub rounds : List Round
  pub owing : List Round
  pub histories : List (List Event)
  pub since : Since start now
  pub read : IsReadUpTo s.commands start now name run.reading given t
  pub count : length given ≡ t.first
  pub cut : IsCut s.commands t.first
  pub so : AreSoFar s given (cuts_within s.commands t.first) (rounds ++ owing) histories
  pub at : IsAt s histories switch
  pub short_is : are_short rounds ≡ run.short
  pub puts : Grows start.put now.put (report_text rounds)
  pub are_left : left owing

-- the rounds before the one of these packets were put, it is out itself, and the records of the next one are in the batch
pub record IsAhead (s : Setting) (start now : Outside) (name : List ℕ) (run : Run) (switch : SwitchNow) (first : ℕ) (packets : List Record) (t : Stretch) : Type 0 where
  pub given : List Record
  pub rounds : List Round
  pub histories : List (List Event)
  pub since : Since start now
  pub read : IsReadUpTo s.commands start now name run.reading (given ++ packets) t
  pub before : length given ≡ first
  pub cut : IsCut s.commands first
  pub next : IsNextCut s.commands first t.first
  pub total : length (given ++ packets) ≡ t.first
  pub some : 0 < length packets
  pub low : t.first ≤ most_records
  pub so : AreSoFar s given (cuts_within s.commands first) rounds histories
  pub at : IsAt s histories switch
  pub short_is : are_short rounds ≡ run.short
  pub puts : Grows start.put now.put (report_text rounds)
