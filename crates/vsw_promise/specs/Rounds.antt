-- The rounds of a run.
use Rattle.std.specs.Prelude.{◌≡◌, ◌≤◌, ◌+◌, ◌-◌, ℕ, suc, List, [], ◌∷◌, ◌++◌, length, map, take}
use mathlib.Core.List.{IsPrefix}
use Rattle.vsw_pcap.specs.declared.capture.Record.{Record}
use Rattle.vsw_policy.specs.Sound.{Each}
use Rattle.vsw_promise.specs.Ports.{PortSeen, ports_of}
use Rattle.vsw_port.specs.declared.event.Event.{Event}
use Rattle.vsw_report.specs.declared.round.PortRound.{PortRound}
use Rattle.vsw_report.specs.declared.round.Round.{Round}
use Rattle.vsw_port.specs.Calls.{Call, job_of, AreShares, IsOneOrder, HasBytes, entries_of}
use Rattle.vsw_port.specs.History.{Opening, AllRight}
use Rattle.vsw_promise.specs.Jobs.{Setting, Jobs, jobs_of, loose_among, macs_of, packets_between}
use Rattle.vsw_promise.specs.Told.{lines_of}

-- what the policy gives a port to begin with
abbrev pub opening_of : PortSeen → Opening
opening_of p = record { controllers = p.controllers; layers = p.layers }

-- a port's round on its history, with this many workers and these jobs
pub record IsPortRound (workers : ℕ) (p : PortSeen) (h : List Event) (jobs : Jobs) (r : PortRound) : Type 0 where
  pub port : r.port ≡ p.number
  -- the round is a stretch of the history
  pub low : r.before ≤ r.after
  pub high : r.after ≤ length h
  -- each job is one call: first the "before" commands, in file order, then the "during" commands, in file order, and the packets, in packet order
  pub first : List Call
  pub later : List Call
  pub first_jobs : map (λ c. job_of c.deed) first ≡ jobs.first
  pub later_jobs : map (λ c. job_of c.deed) later ≡ jobs.later
  -- these calls are all that callers did in this stretch, and each shows its bytes
  pub shares : AreShares (opening_of p) (take r.before h) (take r.after h) (first ++ later)
  pub bytes : Each (HasBytes (opening_of p) h) (first ++ later)
  -- the "before" commands are the round's first entries, but for those for which memory was wanting
  pub first_entries : take (r.before + length (entries_of first)) h ≡ take r.before h ++ entries_of first
  -- all other calls come after these
  pub later_counts : Each (λ c. r.before + length (entries_of first) ≤ c.count) later
  -- with one worker this is the order of all calls
  pub one : workers ≡ 1 → IsOneOrder (take r.before h) (take r.after h) (first ++ later)
  pub lines : r.lines ≡ lines_of p.controllers (first ++ later) r.before (r.after - r.before)

-- the same of several ports, from the one at this place on, in a round that tells this of all ports
abbrev pub ArePortRounds : Setting → List Record → List PortRound → ℕ → ℕ → ℕ → List PortSeen → List (List Event) → List PortRound → Type 0
ArePortRounds s records told first next place [] [] [] = Unit {0}
ArePortRounds s records told first next place (p ∷ ps) (h ∷ hs) (r ∷ rs) = IsPortRound s.workers p h (jobs_of s records told first next place p.number) r × ArePortRounds s records told first next (suc place) ps hs rs
ArePortRounds s records told first next place _ _ _ = ⊥

-- the round of the packets from one cut up to the next, on the histories of all ports. It tells of itself what its packets are handed on as
pub record IsRound (s : Setting) (records : List Record) (hs : List (List Event)) (first next : ℕ) (r : Round) : Type 0 where
  pub first_is : r.first ≡ first
  pub loose : r.loose ≡ loose_among (macs_of s.policy) (packets_between records first next)
  pub ports : ArePortRounds s records r.ports first next 0 (ports_of s.policy) hs r.ports

-- where a round ends: at the next of these cuts, or with the trace
abbrev pub end_before : List ℕ → ℕ → ℕ
end_before [] total = total
end_before (cut ∷ cuts) total = cut

-- a round begins at each cut
abbrev pub AreRoundsAt : Setting → List Record → List (List Event) → List ℕ → List Round → Type 0
AreRoundsAt s records hs [] [] = Unit {0}
AreRoundsAt s records hs (cut ∷ cuts) (r ∷ rs) = IsRound s records hs cut (end_before cuts (length records)) r × AreRoundsAt s records hs cuts rs
AreRoundsAt s records hs _ _ = ⊥

-- each port's round begins with as many entries as the round before ended with: the first with these counts, and the last ends with those
abbrev pub AreChained : List ℕ → List Round → List ℕ → Type 0
AreChained counts [] last = last ≡ counts
AreChained counts (r ∷ rs) last = (map (λ p. p.before) r.ports ≡ counts) × AreChained (map (λ p. p.after) r.ports) rs last

-- each of these histories begins one of those
abbrev pub AllBegin : List (List Event) → List (List Event) → Type 0
AllBegin [] [] = Unit {0}
AllBegin (g ∷ gs) (h ∷ hs) = IsPrefix g h × AllBegin gs hs
AllBegin _ _ = ⊥

-- each port has a history that is right
abbrev pub AreHistories : List PortSeen → List (List Event) → Type 0
AreHistories [] [] = Unit {0}
AreHistories (p ∷ ps) (h ∷ hs) = AllRight (opening_of p) h × AreHistories ps hs
AreHistories _ _ = ⊥

-- the rounds of a run over these records, one at each of these cuts: each port has one history, and the rounds tell of all its entries
pub record AreRounds (s : Setting) (records : List Record) (cuts : List ℕ) (rounds : List Round) : Type 0 where
  pub histories : List (List Event)
  pub right : AreHistories (ports_of s.policy) histories
  pub are : AreRoundsAt s records histories cuts rounds
  pub chained : AreChained (map (λ p. 0) (ports_of s.policy)) rounds (map length histories)
