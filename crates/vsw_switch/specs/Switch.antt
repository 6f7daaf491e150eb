-- The ports of a run: how they stand between two rounds, and in the midst of one.
use Rattle.std.specs.Prelude.{◌≡◌, ◌≤◌, ◌<◌, ℕ, Bool, List, [], ◌∷◌, length, map, true}
use Rattle.vsw_commandfile.specs.declared.line.Line.{Line}
use Rattle.vsw_config.specs.declared.file.PolicyFile.{PolicyFile}
use Rattle.vsw_hairpin.specs.Handing.{locals_of}
use Rattle.vsw_port.specs.declared.event.Event.{Event}
use Rattle.vsw_port.specs.History.{Opening, AllRight}
use Rattle.vsw_port.specs.Order.{ascending, counted}
use Rattle.vsw_report.specs.Line.{TextLine}
use Rattle.vsw_policy.specs.Obey.{rules_given}
use Rattle.vsw_policy.specs.Sound.{Each, IsGoodRule, is_listed}
use Rattle.vsw_promise.specs.Ports.{PortSeen, ports_of}
use Rattle.vsw_promise.specs.Jobs.{Setting}
use Rattle.vsw_promise.specs.Rounds.{opening_of}
use Rattle.vsw_report.specs.declared.round.Loose.{Loose}
use Rattle.vsw_switch.specs.Tally.{none}
use Rattle.vsw_switch.specs.declared.tally.Tally.{Tally}

-- a port: what it began with and its history, how many entries this had when the round began, and what is told so far in the round by
-- each worker, and by each controller in ascending order of their numbers; what became of its packets in the round so far, and in the one before
pub record PortNow : Type 0 where
  pub number : ℕ
  pub mac : ℕ
  pub opening : Opening
  pub journal : List Event
  pub before : ℕ
  pub workers : List (List TextLine)
  pub controllers : List (List TextLine)
  pub tally : Tally
  pub last : Tally

-- the number of workers, the addresses of the ports to which packets are handed on (all ports', or none), the ports in the policy's order, and
-- the loose packets of the round so far
pub record SwitchNow : Type 0 where
  pub workers : ℕ
  pub locals : List ℕ
  pub ports : List PortNow
  pub loose : List Loose

-- a port of the policy between two rounds: it stands at this history, which is right, and nothing is told of it
pub record StandsAt (workers : ℕ) (p : PortSeen) (h : List Event) (now : PortNow) : Type 0 where
  pub number : now.number ≡ p.number
  pub mac : now.mac ≡ p.mac
  pub opening : now.opening ≡ opening_of p
  pub journal : now.journal ≡ h
  pub right : AllRight (opening_of p) h
  pub before : now.before ≡ length h
  pub workers_are : now.workers ≡ map (λ k. []) (counted 0 workers)
  pub controllers_are : now.controllers ≡ map (λ c. []) (ascending p.controllers)
  pub tally : now.tally ≡ none

abbrev pub AllStandAt : ℕ → List PortSeen → List (List Event) → List PortNow → Type 0
AllStandAt workers [] [] [] = Unit {0}
AllStandAt workers (p ∷ ps) (h ∷ hs) (n ∷ ns) = StandsAt workers p h n × AllStandAt workers ps hs ns
AllStandAt workers _ _ _ = ⊥

-- the switch of a run between two rounds: its ports stand at these histories
pub record IsAt (s : Setting) (hs : List (List Event)) (now : SwitchNow) : Type 0 where
  pub workers : now.workers ≡ s.workers
  pub some : 0 < s.workers
  pub few : s.workers ≤ 16
  pub locals : now.locals ≡ locals_of s
  pub ports : AllStandAt s.workers (ports_of s.policy) hs now.ports
  pub loose : now.loose ≡ []

-- a line of a commands file that the switch can be asked: one of its controllers asks one of its ports, and gives good rules
pub record IsServed (now : SwitchNow) (l : Line) : Type 0 where
  pub port : is_listed (map (λ p. p.number) now.ports) l.port ≡ true
  pub controller : Each (λ p. is_listed p.opening.controllers l.controller ≡ true) now.ports
  pub rules : Each IsGoodRule (rules_given l.command)

abbrev pub AreServed : SwitchNow → List Line → Type 0
AreServed now ls = Each (IsServed now) ls

-- the switch of a policy before the first round, whatever its commands are
abbrev pub IsOpened : ℕ → PolicyFile → Bool → SwitchNow → Type 0
IsOpened workers file local now = (commands : List Line) → IsAt (record { workers = workers; policy = file; commands = commands; local = local }) (map (λ p. []) (ports_of file)) now

-- it can be asked all lines in which controllers of the policy ask its ports, and give good rules
abbrev pub Serves : PolicyFile → SwitchNow → Type 0
Serves file now = (lines : List Line) → Each (λ l. is_listed file.controllers l.controller ≡ true) lines → Each (λ l. is_listed (map (λ p. p.number) (ports_of file)) l.port ≡ true) lines
    → Each (λ l. Each IsGoodRule (rules_given l.command)) lines → AreServed now lines
