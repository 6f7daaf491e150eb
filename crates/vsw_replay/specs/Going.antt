-- A run over a workload in the midst of its rounds.
use Rattle.std.specs.Prelude.{◌≡◌, ◌⊎◌, ◌||◌, ℕ, Bool, true, false, List, [], ◌++◌, length}
use Rattle.vsw_port.specs.declared.event.Event.{Event}
use Rattle.vsw_pcap.specs.declared.capture.Record.{Record}
use Rattle.vsw_promise.specs.Jobs.{Setting, cuts_within}
use Rattle.vsw_promise.specs.Summary.{dropped, in_rounds, passed, size_of}
use Rattle.vsw_replay.specs.Private.Cut.{IsCut}
use Rattle.vsw_replay.specs.Private.SoFar.{AreSoFar}
use Rattle.vsw_report.specs.declared.round.Round.{Round}
use Rattle.vsw_report.specs.Short.{are_short}
use Rattle.vsw_report.specs.Whole.{whole_text}
use Rattle.vsw_replay.specs.Round.{RunsRound}
use Rattle.vsw_replay.specs.Close.{last_of}
use Rattle.vsw_replay.specs.Switch.{SwitchNow, IsAt}
use Rattle.vsw_replay.specs.Tally.{both}
use Rattle.vsw_replay.specs.SwitchTally.{Tally}
use Rattle.vsw_replay.specs.Draws.{records_left}
use Rattle.vsw_replay.specs.declared.run.Run.{Run}
use Rattle.vsw_replay.specs.declared.run.WorkloadEnd.{WorkloadEnd}
use Rattle.vsw_replay.specs.declared.run.WorkloadEnd.TheVariants as end

-- the tally of rounds
abbrev pub tally_through : List Round → Tally
tally_through rounds = record { pass = in_rounds passed rounds; drop = in_rounds dropped rounds; bytes = in_rounds size_of rounds }

-- the rounds before this packet were run, and those from it on are to come
pub record Goes (s : Setting) (all : List Record) (first : ℕ) (run : Run) (switch : SwitchNow) : Type 0 where
  pub given : List Record
  pub rounds : List Round
  pub histories : List (List Event)
  pub whole : given ++ records_left run.workload ≡ all
  pub count : length given ≡ first
  pub cut : IsCut s.commands first ⊎ (run.workload.2 ≡ 0)
  pub so : AreSoFar s given (cuts_within s.commands first) rounds histories
  pub at : IsAt s histories switch
  pub short_is : are_short rounds ≡ run.short
  pub tally_is : run.tally ≡ tally_through rounds

-- the round of the batch was run
pub record IsTurn (s : Setting) (hs : List (List Event)) (first : ℕ) (old new : Run) (switch : SwitchNow) : Type 0 where
  pub told : Bool
  pub ran : RunsRound s hs first old.batch switch told [] (whole_text new.text)
  pub short_is : new.short ≡ (old.short || told)
  pub tally_is : new.tally ≡ both old.tally (last_of switch.ports)

-- how a run ends whose summary was put
abbrev pub end_of : Bool → WorkloadEnd
end_of true = end.Memory
end_of false = end.Done
