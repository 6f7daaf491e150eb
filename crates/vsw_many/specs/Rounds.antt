-- A round over all ports, and a run, as what callers did and what is told of it.
use Rattle.std.specs.Prelude.{◌≡◌, ◌≢◌, ◌<◌, ◌+◌, ℕ, suc, List, [], ◌∷◌, ◌++◌, length, map, take, drop}
use Rattle.std.specs.List.{flat_map}
use mathlib.Core.List.{IsPrefix}
use Rattle.vsw_pcap.specs.declared.capture.Record.{Record}
use Rattle.vsw_policy.specs.Sound.{Each}
use Rattle.vsw_promise.specs.Ports.{PortSeen, ports_of}
use Rattle.vsw_report.specs.declared.round.PortRound.{PortRound}
use Rattle.vsw_report.specs.declared.round.Round.{Round}
use Rattle.vsw_port.specs.declared.event.Event.{Event}
use Rattle.vsw_port.specs.Calls.{Job, Call, named}
use Rattle.vsw_port.specs.History.{AllRight}
use Rattle.vsw_promise.specs.Jobs.{Setting, Jobs, jobs_of, loose_among, macs_of, packets_between}
use Rattle.vsw_many.specs.Dealing.{placed_jobs}
use Rattle.vsw_promise.specs.Rounds.{opening_of, end_before}
use Rattle.vsw_many.specs.Phases.{Lane, calls_in, IsPhase, DoneInTurn, port_told}
use Rattle.vsw_many.specs.Actors.{AreRows}

-- ---- jobs done in turn

-- a port's jobs, done in turn as these calls
pub record PortTurn (p : PortSeen) (h g : List Event) (jobs : List Job) (calls : List Call) : Type 0 where
  pub lanes : List Lane
  pub phase : IsPhase (opening_of p) h g lanes
  pub done : DoneInTurn (opening_of p) h g lanes jobs calls

-- the same at each port, from the one at this place on, of a part of its jobs
abbrev pub Turns : (Jobs → List Job) → Setting → List Record → List PortRound → ℕ → ℕ → ℕ → List PortSeen → List (List Event) → List (List Event) → List (List Call) → Type 0
Turns part s records told first next place [] [] [] [] = Unit {0}
Turns part s records told first next place (p ∷ ps) (h ∷ hs) (g ∷ gs) (c ∷ cs) = PortTurn p h g (part (jobs_of s records told first next place p.number)) c × Turns part s records told first next (suc place) ps hs gs cs
Turns part s records told first next place _ _ _ _ = ⊥

-- ---- jobs done beside each other

-- the histories of all ports are right, have grown, and name these callers alone
abbrev pub AreJournals : ℕ → List PortSeen → List (List Event) → List (List Event) → Type 0
AreJournals callers [] [] [] = Unit {0}
AreJournals callers (p ∷ ps) (h ∷ hs) (g ∷ gs) = AllRight (opening_of p) g × IsPrefix h g × Each (λ e. named p.controllers e < callers) g × AreJournals callers ps hs gs
AreJournals callers _ _ _ = ⊥

-- all callers' lanes at the first of the ports, where each has a row of one a port, and their lanes at the others
abbrev pub column : List (List Lane) → List Lane
column rows = flat_map (λ row. take 1 row) rows

abbrev pub other_columns : List (List Lane) → List (List Lane)
other_columns rows = map (λ row. drop 1 row) rows

-- all callers' calls at each port
abbrev pub calls_by_port : List PortSeen → List (List Lane) → List (List Call)
calls_by_port [] rows = []
calls_by_port (p ∷ ps) rows = calls_in (column rows) ∷ calls_by_port ps (other_columns rows)

-- what comes after the "before" commands, as these calls at each port
pub data Rest (s : Setting) (records : List Record) (told : List PortRound) (first next : ℕ) (hs gs : List (List Event)) (later : List (List Call)) : Type 0 where
  -- one worker: it is done in turn
  One : s.workers ≡ 1 → Turns (λ j. j.later) s records told first next 0 (ports_of s.policy) hs gs later → Rest s records told first next hs gs later
  -- more: the workers 0 to 15 and the controllers do their own of it beside each other, those that aren't there do nothing
  Many : s.workers ≢ 1 → (rows : List (List Lane)) → length rows ≡ 16 + length s.policy.controllers → AreRows s.policy.controllers (placed_jobs s records told first next) 0 0 (ports_of s.policy) hs gs rows
      → AreJournals (16 + length s.policy.controllers) (ports_of s.policy) hs gs → later ≡ calls_by_port (ports_of s.policy) rows → Rest s records told first next hs gs later

-- ---- a round

-- what a report tells of each port
abbrev pub ports_told : List PortSeen → List (List Event) → List (List Event) → List (List Call) → List (List Call) → List PortRound
ports_told (p ∷ ps) (h ∷ hs) (g ∷ gs) (c ∷ cs) (d ∷ ds) = port_told p h g (c ++ d) ∷ ports_told ps hs gs cs ds
ports_told _ _ _ _ _ = []

-- a round of all ports: first the "before" commands, then all else, and what is told of it
pub record RoundDone (s : Setting) (records : List Record) (first next : ℕ) (hs gs : List (List Event)) (r : Round) : Type 0 where
  pub middles : List (List Event)
  pub firsts : List (List Call)
  pub firsts_done : Turns (λ j. j.first) s records r.ports first next 0 (ports_of s.policy) hs middles firsts
  pub laters : List (List Call)
  pub laters_done : Rest s records r.ports first next middles gs laters
  pub first_is : r.first ≡ first
  pub loose : r.loose ≡ loose_among (macs_of s.policy) (packets_between records first next)
  pub ports : r.ports ≡ ports_told (ports_of s.policy) hs gs firsts laters

-- ---- a run

-- rounds one after the other, one at each of these cuts
abbrev pub RunDone : Setting → List Record → List (List Event) → List ℕ → List (List Event) → List Round → Type 0
RunDone s records hs [] gs [] = gs ≡ hs
RunDone s records hs (cut ∷ cuts) gs (r ∷ rs) = (ms : List (List Event)) × RoundDone s records cut (end_before cuts (length records)) hs ms r × RunDone s records ms cuts gs rs
RunDone s records hs _ gs _ = ⊥
