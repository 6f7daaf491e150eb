-- What holds of a run over files that ended well.
use Rattle.std.specs.Prelude.{◌≡◌, ℕ, List, length, Some, None, Bool, true, false}
use Rattle.std.specs.List.{flat_map, slice_get}
use Rattle.vsw_history_law.specs.Law.{AreServed, all_jobs, answers_alone, asked_by, replies_told}
use Rattle.vsw_history_law.specs.OneLine.{HasItsLine}
use Rattle.vsw_host.specs.Outside.{Opened, Outside}
use Rattle.vsw_pcap.specs.Capture.{IsCapture}
use Rattle.vsw_pcap.specs.declared.capture.Record.{Record}
use Rattle.vsw_policy.specs.Sound.{Each, is_listed}
use Rattle.vsw_promise.specs.Agree.{AgreeOnPackets, IsPlainSetting, lines_at, with_workers}
use Rattle.vsw_promise.specs.Alone.{rounds_alone}
use Rattle.vsw_promise.specs.Jobs.{Setting, aim_of, cuts, macs_of}
use Rattle.vsw_promise.specs.Ports.{PortSeen, ports_of}
use Rattle.vsw_promise.specs.Rounds.{AreRounds}
use Rattle.vsw_report.specs.Print.{report_text}
use Rattle.vsw_report.specs.declared.round.Round.{Round}
use Rattle.vsw_run.specs.declared.ending.Status.TheVariants as status
use Rattle.vsw_run.specs.Files.{HasTrace, IsWhole, Opens}
use Rattle.vsw_run.specs.ByTrace.{Puts}
use Rattle.vsw_run.specs.IsRun.{IsRun}
use Rattle.vsw_run.specs.Words.{Request, AskReport}

-- its rounds hold to these files and this setting
pub record TellsWell (s : Setting) (records : List Record) (rounds : List Round) : Type 0 where
  pub are : AreRounds s records (cuts s.commands (length records)) rounds
  -- at each port each controller is told the replies that its own commands alone would have, one after the other
  pub replies : (place : ℕ) (p : PortSeen) (c : ℕ) → slice_get (ports_of s.policy) place ≡ Some p → is_listed p.controllers c ≡ true
      → replies_told c (lines_at place rounds) ≡ answers_alone p.controllers p.layers c (flat_map (asked_by c) (all_jobs s records (cuts s.commands (length records)) rounds place p.number))
  -- each packet has one line where it goes: at its port, or among the loose packets. Where no packet is handed on there is no other
  pub lines : (n : ℕ) (r : Record) → slice_get records n ≡ Some r → HasItsLine s rounds n (aim_of (macs_of s.policy) r)
  -- where no packet is handed on, no rule is stateful and no command is "during", each packet has the fate and the bytes that one worker tells
  pub packets : s.local ≡ false → IsPlainSetting s → AgreeOnPackets (length (ports_of s.policy)) rounds (rounds_alone (with_workers 1 s) records (cuts s.commands (length records)))

-- it read its three files to the end, and put the report of such rounds
pub record RanWell (local : Bool) (q : Request) (old new : Outside) : Type 0 where
  pub files : List Opened
  pub opens : Opens old new q files
  pub whole : Each IsWhole files
  pub setting : Setting
  pub trace : Opened
  pub given : HasTrace local q files setting trace
  pub served : AreServed setting
  pub records : List Record
  pub capture : IsCapture trace.bytes records None
  pub rounds : List Round
  pub tells : TellsWell setting records rounds
  pub puts : Puts old new (report_text rounds)

-- the words ask for a run over files, and the status says that it ended well
abbrev pub DoneRanWell : Type 0
DoneRanWell = (words : List (List ℕ)) (local : Bool) (q : Request) (old new : Outside) → AskReport words local q → IsRun words old new status.Done → RanWell local q old new
