-- From what a crew did in a round to the text of it.
use Rattle.std.specs.Prelude.{◌≡◌, ◌≢◌, ◌<◌, ℕ, List, [], ◌∷◌, ◌++◌, length, map, Some, true}
use Rattle.std.specs.List.{flat_map, slice_get}
use Rattle.vsw_pcap.specs.declared.capture.Record.{Record}
use Rattle.vsw_policy.specs.Sound.{Each, are_distinct}
use Rattle.vsw_promise.specs.Ports.{PortSeen, ports_of}
use Rattle.vsw_port.specs.declared.event.Event.{Event}
use Rattle.vsw_port.specs.Calls.{Call, job_doer}
use Rattle.vsw_history_law.specs.Law.{AreServed}
use Rattle.vsw_report.specs.Line.{TextLine}
use Rattle.vsw_report.specs.Order.{AllInCounts, in_order}
use Rattle.vsw_report.specs.declared.round.PortRound.{PortRound}
use Rattle.vsw_promise.specs.Jobs.{Setting, Placed}
use Rattle.vsw_many.specs.Dealing.{numbers_of}
use Rattle.vsw_many.specs.Phases.{Lane}
use Rattle.vsw_many.specs.Actors.{AreRows}
use Rattle.vsw_many.specs.Rounds.{AreJournals, Turns, calls_by_port}
use Rattle.vsw_many.specs.Turns.{AreOwn, PlacedTurns, append_each, placed_before}
use Rattle.vsw_many.specs.Crew.{CrewDid, CrewTells, callers_in}

-- ---- histories

-- with no entries, and after a stretch, they stand as the next one needs them; two stretches are one
abbrev pub JournalsBegin : Type 0
JournalsBegin = (callers : ℕ) (ps : List PortSeen) → AreJournals callers ps (map (λ p. []) ps) (map (λ p. []) ps)

abbrev pub JournalsEnd : Type 0
JournalsEnd = (callers : ℕ) (ps : List PortSeen) (hs gs : List (List Event)) → AreJournals callers ps hs gs → AreJournals callers ps gs gs

abbrev pub JournalsJoin : Type 0
JournalsJoin = (callers : ℕ) (ps : List PortSeen) (hs ms gs : List (List Event)) → AreJournals callers ps hs ms → AreJournals callers ps ms gs → AreJournals callers ps hs gs

-- ---- jobs in turn

-- no jobs are done in turn as no calls
abbrev pub TurnsBegin : Type 0
TurnsBegin = (callers place : ℕ) (ps : List PortSeen) (hs : List (List Event)) → AreJournals callers ps hs hs → PlacedTurns place ps [] hs hs (map (λ p. []) ps)

-- two stretches are one
abbrev pub TurnsJoin : Type 0
TurnsJoin = (place : ℕ) (ps : List PortSeen) (jobs more : List Placed) (hs ms gs : List (List Event)) (calls others : List (List Call))
    → PlacedTurns place ps jobs hs ms calls → PlacedTurns place ps more ms gs others → PlacedTurns place ps (jobs ++ more) hs gs (append_each calls others)

-- jobs of one caller are done in turn, where all callers have done their own of them
abbrev pub OneCallerTurns : Type 0
OneCallerTurns = (s : Setting) (jobs : List Placed) (k : ℕ) (hs gs : List (List Event)) (rows : List (List Lane)) → Each (λ t. job_doer s.policy.controllers t.1 ≡ k) jobs → k < callers_in s → length rows ≡ callers_in s
    → AreRows s.policy.controllers jobs 0 0 (ports_of s.policy) hs gs rows → AreJournals (callers_in s) (ports_of s.policy) hs gs → PlacedTurns 0 (ports_of s.policy) jobs hs gs (calls_by_port (ports_of s.policy) rows)

-- where all callers only met, nothing was done
pub record AreQuiet (place : ℕ) (ps : List PortSeen) (hs gs : List (List Event)) (rows : List (List Lane)) : Type 0 where
  pub none : calls_by_port ps rows ≡ map (λ p. []) ps
  pub turns : PlacedTurns place ps [] hs gs (map (λ p. []) ps)

abbrev pub QuietTurns : Type 0
QuietTurns = (s : Setting) (hs gs : List (List Event)) (rows : List (List Lane)) → length rows ≡ callers_in s → AreRows s.policy.controllers [] 0 0 (ports_of s.policy) hs gs rows → AreJournals (callers_in s) (ports_of s.policy) hs gs
    → AreQuiet 0 (ports_of s.policy) hs gs rows

-- the "before" commands of a round, done in turn, are those of each port
abbrev pub BeforeTurns : Type 0
BeforeTurns = (s : Setting) (records : List Record) (told : List PortRound) (first next : ℕ) (hs gs : List (List Event)) (calls : List (List Call)) → are_distinct (numbers_of s.policy) ≡ true
    → PlacedTurns 0 (ports_of s.policy) (placed_before (numbers_of s.policy) s.commands first) hs gs calls → Turns (λ j. j.first) s records told first next 0 (ports_of s.policy) hs gs calls

-- ---- callers whose lines stand in two parts

-- they are merged as if each had one list
abbrev pub SplitIsMerged : Type 0
SplitIsMerged = (callers : List (List TextLine)) (pairs : List (List TextLine × List TextLine)) (n more : ℕ)
    → in_order (callers ++ flat_map (λ p. p.0 ∷ p.1 ∷ []) pairs) n more ≡ in_order (callers ++ map (λ p. p.0 ++ p.1) pairs) n more

abbrev pub SplitIsCounted : Type 0
SplitIsCounted = (callers : List (List TextLine)) (pairs : List (List TextLine × List TextLine)) (low high : ℕ)
    → AllInCounts low (callers ++ map (λ p. p.0 ++ p.1) pairs) high → AllInCounts low (callers ++ flat_map (λ p. p.0 ∷ p.1 ∷ []) pairs) high

-- ---- a crew

-- among all callers' calls at each port, a caller's are those of its own row
abbrev pub RowsAreOwn : Type 0
RowsAreOwn = (cs : List ℕ) (jobs : List Placed) (place k : ℕ) (ps : List PortSeen) (hs gs : List (List Event)) (rows : List (List Lane)) (row : List Lane) → AreRows cs jobs place 0 ps hs gs rows → slice_get rows k ≡ Some row → AreOwn k ps (calls_by_port ps rows) row

-- what a crew of 2 to 16 workers did in a round is told by its lines, merged
abbrev pub CrewIsTold : Type 0
CrewIsTold = (s : Setting) (first : ℕ) (packets : List Record) (hs gs : List (List Event)) (texts : List (List (List TextLine))) → AreServed s → s.workers ≢ 1 → are_distinct (numbers_of s.policy) ≡ true
    → CrewDid s first packets hs gs texts → CrewTells s first packets hs gs texts
