-- The definitions contradict no input.
use Rattle.std.specs.Prelude.{◌≡◌, ℕ, List, false}
use Rattle.vsw_pcap.specs.declared.capture.Record.{Record}
use Rattle.vsw_promise.specs.Alone.{rounds_alone}
use Rattle.vsw_promise.specs.Jobs.{Setting}
use Rattle.vsw_promise.specs.Rounds.{AreRounds}

-- where no packet is handed on, the rounds that are worked out for one worker are rounds for any number of workers: no trace, policy and
-- commands are without a report
abbrev pub AlwaysRounds : Type 0
AlwaysRounds = (s : Setting) (records : List Record) (cuts : List ℕ) → s.local ≡ false → AreRounds s records cuts (rounds_alone s records cuts)
