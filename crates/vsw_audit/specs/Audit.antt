-- How a whole report is decided: its rounds are replayed one after the other, each port from no entries on.
use Rattle.std.specs.Prelude.{◌≡◌, ℕ, suc, List, [], ◌∷◌, ◌++◌, length, map}
use Rattle.vsw_commandfile.specs.declared.line.Line.{Line}
use Rattle.vsw_config.specs.declared.file.PolicyFile.{PolicyFile}
use Rattle.vsw_history_law.specs.Law.{AreServed}
use Rattle.vsw_pcap.specs.declared.capture.Record.{Record}
use Rattle.vsw_policy.specs.Sound.{Each}
use Rattle.vsw_port.specs.declared.event.Event.{Event}
use Rattle.vsw_port.specs.Calls.{job_doer}
use Rattle.vsw_port.specs.Order.{StandsOnce}
use Rattle.vsw_promise.specs.Ports.{PortSeen, ports_of}
use Rattle.vsw_promise.specs.Told.{callers}
use Rattle.vsw_report.specs.declared.round.PortRound.{PortRound}
use Rattle.vsw_report.specs.declared.round.Round.{Round}
use Rattle.vsw_promise.specs.Jobs.{Setting, cuts, jobs_of, loose_among, macs_of, packets_between}
use Rattle.vsw_audit.specs.Check.{IsLegalReport, checked}
use Rattle.vsw_audit.specs.Replay.{Replays, continued}
use Rattle.vsw_promise.specs.Rounds.{AreRounds, end_before}

-- each port's round is replayed, from the one at this place on: from these histories to those
abbrev pub PortsReplay : Setting → List Record → List PortRound → ℕ → ℕ → ℕ → List PortSeen → List (List Event) → List (List Event) → List PortRound → Type 0
PortsReplay s records told first next place [] [] [] [] = Unit {0}
PortsReplay s records told first next place (p ∷ ps) (h ∷ hs) (g ∷ gs) (r ∷ rs) = (w : Replays s.workers p h (jobs_of s records told first next place p.number) r) × (g ≡ continued h w.calls) × PortsReplay s records told first next (suc place) ps hs gs rs
PortsReplay s records told first next place _ _ _ _ = ⊥

pub record RoundReplays (s : Setting) (records : List Record) (first next : ℕ) (hs gs : List (List Event)) (r : Round) : Type 0 where
  pub first_is : r.first ≡ first
  pub loose : r.loose ≡ loose_among (macs_of s.policy) (packets_between records first next)
  pub ports : PortsReplay s records r.ports first next 0 (ports_of s.policy) hs gs r.ports

-- rounds one after the other, one at each of these cuts
abbrev pub RunReplays : Setting → List Record → List (List Event) → List ℕ → List (List Event) → List Round → Type 0
RunReplays s records hs [] gs [] = gs ≡ hs
RunReplays s records hs (cut ∷ cuts) gs (r ∷ rs) = (ms : List (List Event)) × RoundReplays s records cut (end_before cuts (length records)) hs ms r × RunReplays s records ms cuts gs rs
RunReplays s records hs _ gs _ = ⊥

-- what is replayed are the rounds of a run
abbrev pub AuditIsSound : Type 0
AuditIsSound = (s : Setting) (records : List Record) (cuts : List ℕ) (rounds : List Round) (gs : List (List Event)) → RunReplays s records (map (λ p. []) (ports_of s.policy)) cuts gs rounds → AreRounds s records cuts rounds

-- each job is one of the callers'
abbrev pub AreKnown : Setting → List Record → Type 0
AreKnown s records = (told : List PortRound) (first next place number : ℕ) → Each (λ j. StandsOnce (job_doer s.policy.controllers j) (callers s.policy.controllers)) ((jobs_of s records told first next place number).first ++ (jobs_of s records told first next place number).later)

-- and the rounds of a run are replayed
abbrev pub AuditIsComplete : Type 0
AuditIsComplete = (s : Setting) (records : List Record) (cuts : List ℕ) (rounds : List Round) → AreKnown s records → AreRounds s records cuts rounds → (gs : List (List Event)) × RunReplays s records (map (λ p. []) (ports_of s.policy)) cuts gs rounds

-- the rounds of a report are replayed, from empty histories on
abbrev pub IsReplayed : ℕ → PolicyFile → List Line → List Record → List Round → Type 0
IsReplayed workers policy commands records rounds = (gs : List (List Event)) × RunReplays (checked workers policy commands) records (map (λ p. []) (ports_of policy)) (cuts commands (length records)) gs rounds

-- for 1 to 16 workers, and commands of the policy's controllers, a report is legal exactly where they are
abbrev pub ReplayDecides : Type 0
ReplayDecides = (workers : ℕ) (policy : PolicyFile) (commands : List Line) (records : List Record) (rounds : List Round) → AreServed (checked workers policy commands)
    → (IsLegalReport workers policy commands records rounds → IsReplayed workers policy commands records rounds) × (IsReplayed workers policy commands records rounds → IsLegalReport workers policy commands records rounds)
