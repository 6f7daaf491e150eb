-- Where no rule is stateful and no command is "during", each packet's fate and bytes are those of one worker.
use Rattle.std.specs.Prelude.{◌≡◌, ℕ, List, length, Some, false}
use Rattle.std.specs.List.{slice_get}
use Rattle.vsw_pcap.specs.declared.capture.Record.{Record}
use Rattle.vsw_promise.specs.Ports.{PortSeen, ports_of}
use Rattle.vsw_port.specs.declared.event.Event.{Event}
use Rattle.vsw_report.specs.declared.round.Round.{Round}
use Rattle.vsw_promise.specs.Agree.{IsPlainSetting, AgreeOnPackets, with_workers}
use Rattle.vsw_promise.specs.Alone.{rounds_alone}
use Rattle.vsw_promise.specs.Jobs.{Setting}
use Rattle.vsw_promise.specs.Rounds.{AreRounds}
use Rattle.vsw_report.specs.Short.{are_short}
use Rattle.vsw_history_law.specs.Law.{AreServed}
use Rattle.vsw_history_law.specs.Plain.{FatesAre}

-- the rounds that are worked out for one worker tell of no want of memory
abbrev pub AloneIsPlenty : Type 0
AloneIsPlenty = (s : Setting) (records : List Record) (cuts : List ℕ) → are_short (rounds_alone s records cuts) ≡ false

-- where no packet is handed on, rounds of any number of workers that tell of no want of memory agree on packets with those that are worked out
-- for one
abbrev pub AgreesAlone : Type 0
AgreesAlone = (s : Setting) (records : List Record) (cuts : List ℕ) (rounds : List Round) → s.local ≡ false → IsPlainSetting s → AreServed s → AreRounds s records cuts rounds → are_short rounds ≡ false
    → AgreeOnPackets (length (ports_of s.policy)) rounds (rounds_alone (with_workers 1 s) records cuts)

-- at each port of such a run the calls are legal, each job is one call, and each packet becomes what it becomes at the layers that the commands before it leave
abbrev pub FatesOfRun : Type 0
FatesOfRun = (s : Setting) (records : List Record) (cuts : List ℕ) (rounds : List Round) (run : AreRounds s records cuts rounds) → IsPlainSetting s → AreServed s → are_short rounds ≡ false
    → (place : ℕ) (p : PortSeen) (h : List Event) → slice_get (ports_of s.policy) place ≡ Some p → slice_get run.histories place ≡ Some h → FatesAre s records cuts rounds place p h
