-- What a round leaves.
use Rattle.std.specs.Prelude.{◌≡◌, ℕ, List, ◌++◌, length, map, Bool}
use Rattle.vsw_commandfile.specs.declared.line.Line.{Line}
use Rattle.vsw_port.specs.declared.event.Event.{Event}
use Rattle.vsw_port.specs.Order.{numbered}
use Rattle.vsw_pcap.specs.declared.capture.Record.{Record}
use Rattle.vsw_promise.specs.Ports.{ports_of}
use Rattle.vsw_promise.specs.Jobs.{Setting, packets_between}
use Rattle.vsw_promise.specs.Rounds.{IsRound, AllBegin, AreHistories}
use Rattle.vsw_report.specs.declared.round.Round.{Round}
use Rattle.vsw_report.specs.Print.{round_text}
use Rattle.vsw_report.specs.Short.{is_short_round}
use Rattle.vsw_switch.specs.Close.{last_of}
use Rattle.vsw_switch.specs.Switch.{SwitchNow, IsAt}
use Rattle.vsw_switch.specs.Tally.{tally_in}

-- ports that stood at these histories ran the round of these packets, of which the first has this number in the trace, and its text was
-- appended. It is that round of every trace that has these packets there
pub record TellsRound (s : Setting) (hs : List (List Event)) (first : ℕ) (packets : List Record) (now : SwitchNow) (short : Bool) (old new : List ℕ) : Type 0 where
  pub histories : List (List Event)
  pub round : Round
  pub is_round : (records : List Record) (next : ℕ) → packets_between records first next ≡ numbered first packets → IsRound s records histories first next round
  pub right : AreHistories (ports_of s.policy) histories
  pub begin : AllBegin hs histories
  pub before : map (λ p. p.before) round.ports ≡ map length hs
  pub after : map (λ p. p.after) round.ports ≡ map length histories
  pub at : IsAt s histories now
  pub short_is : short ≡ is_short_round round
  pub text : new ≡ old ++ round_text round

-- the same, and the ports tell what became of the round's packets
pub record RunsRound (s : Setting) (hs : List (List Event)) (first : ℕ) (packets : List Record) (now : SwitchNow) (short : Bool) (old new : List ℕ) : Type 0 where
  pub tells : TellsRound s hs first packets now short old new
  pub tally : last_of now.ports ≡ tally_in tells.round

-- in whichever run of these commands the switch stood between two rounds, the round was run of these packets, of which the first has this number
abbrev pub RunsFrom : SwitchNow → List Line → ℕ → List Record → SwitchNow → Bool → (old new : List ℕ) → Type 0
RunsFrom before lines first packets now short old new = (s : Setting) (hs : List (List Event)) → s.commands ≡ lines → IsAt s hs before → RunsRound s hs first packets now short old new
