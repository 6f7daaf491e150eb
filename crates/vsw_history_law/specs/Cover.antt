-- Each packet of a trace is in one round, and each command before or beside one.
use Rattle.std.specs.Prelude.{◌≡◌, ◌<◌, ◌≤◌, ℕ, List, [], ◌∷◌, length}
use Rattle.std.specs.List.{flat_map}
use Rattle.vsw_commandfile.specs.declared.line.Line.{Line}
use Rattle.vsw_pcap.specs.declared.capture.Record.{Record}
use Rattle.vsw_policy.specs.Sound.{Each}
use Rattle.vsw_port.specs.Order.{numbered, StandsOnce}
use Rattle.vsw_promise.specs.Jobs.{cuts, cuts_within, packets_between}
use Rattle.vsw_promise.specs.Rounds.{end_before}

-- where each round begins and ends
abbrev pub stretches : List ℕ → ℕ → List (ℕ × ℕ)
stretches [] total = []
stretches (cut ∷ cuts) total = (cut, end_before cuts total) ∷ stretches cuts total

-- the packets of all rounds, one round after the other, are those of the trace
abbrev pub AreCovered : List ℕ → List Record → Type 0
AreCovered cuts records = flat_map (λ t. packets_between records t.0 t.1) (stretches cuts (length records)) ≡ numbered 0 records

-- so it is of all rounds, and of those that begin at a record
abbrev pub PacketsAreCovered : Type 0
PacketsAreCovered = (commands : List Line) (records : List Record) → AreCovered (cuts commands (length records)) records × AreCovered (cuts_within commands (length records)) records

-- one round begins at the packet of each command. If the trace ends early, this is so of commands whose packet is there
abbrev pub CommandsAreCovered : Type 0
CommandsAreCovered = (commands : List Line) (total : ℕ) → Each (λ l. StandsOnce l.at (cuts commands total)) commands × Each (λ l. l.at < total → StandsOnce l.at (cuts_within commands total)) commands

-- no round has more than 1,024 packets
abbrev pub RoundsAreSmall : Type 0
RoundsAreSmall = (commands : List Line) (records : List Record) → Each (λ t. length (packets_between records t.0 t.1) ≤ 1024) (stretches (cuts commands (length records)) (length records))
