-- A round by threads that stay: its shares are out, and then it is to be told.
use Rattle.std.specs.Arc.{arc_value}
use Rattle.std.specs.Prelude.{◌≡◌, ◌<◌, ◌+◌, ◌^◌, ◌==◌, false, ◌&&◌, ℕ, Bool, List, [], ◌∷◌, suc, drop, filter, length, map}
use Rattle.vsw_harbour.specs.Lane.{Lane}
use Rattle.vsw_commandfile.specs.declared.line.Line.{Line}
use Rattle.vsw_harbour.specs.Crew.{crew_text, is_short_crew}
use Rattle.vsw_harbour.specs.Harbour.{HarbourSeen, IsOfRun, MayAsk, callers, ports_in}
use Rattle.vsw_harbour.specs.HarbourOpening.{rows_in}
use Rattle.vsw_harbour.specs.Rounds.{AreJournals}
use Rattle.vsw_harbour.specs.Seen.{StationSeen}
use Rattle.vsw_harbour.specs.Standing.{RowsStand, no_calls}
use Rattle.vsw_harbour.specs.Steps.{Did}
use Rattle.vsw_port.specs.Order.{numbered}
use Rattle.vsw_port.specs.declared.event.Event.{Event}
use Rattle.vsw_pcap.specs.declared.capture.Record.{Record}
use Rattle.vsw_policy.specs.Sound.{Each}
use Rattle.vsw_promise.specs.Jobs.{Setting, loose_among, placed_packets}
use Rattle.vsw_many.specs.Dealing.{deal}
use Rattle.vsw_promise.specs.Ports.{PortSeen}
use Rattle.vsw_crew.specs.Crew.{CrewSeen, IsOfSome, crew_now}
use Rattle.vsw_switch.specs.Round.{TellsRound}
use Rattle.vsw_switch.specs.Switch.{IsAt}
use Rattle.vsw_crew.specs.Private.Round.{HasBegun, jobs_here, macs_in, numbers_in}
use Rattle.vsw_crew.specs.Private.Telling.{IsCounted, texts_so}
use Rattle.vsw_crew.specs.Shares.{ShareSeen, jobs_in}
use Rattle.vsw_crew.specs.Texts.{AreRising, AreSized}
use Rattle.vsw_actors.specs.Picks.{ArePicks, AtMost, dealt_to, picked}
use Rattle.vsw_crew.specs.declared.owed.Owed.{Owed}
use Rattle.vsw_crew.specs.declared.picked.Picked.{Picked}
use Rattle.vsw_crew.specs.declared.underway.Underway.{Underway}

-- these are the packets of a round, of which the first has this number, dealt to the workers of a harbour
pub record IsPicked (h : HarbourSeen) (first : ℕ) (packets : List Record) (p : Picked) : Type 0 where
  pub first_is : p.first ≡ first
  pub packets_are : arc_value p.packets ≡ packets
  pub numbers : first + length packets < 2 ^ 32
  pub size : length p.picks.items ≡ h.workers
  pub dealt : (cs : List ℕ) → picked 0 first packets p.picks.items ≡ dealt_to h.workers cs (placed_packets h.workers false (macs_in h) [] (numbered first packets))
  pub fit : ArePicks (length h.docks) packets p.picks.items
  pub few : AtMost (length packets) p.picks.items
  pub loose : p.loose.items ≡ loose_among (macs_in h) (numbered first packets)

-- no command of the round that begins with this packet runs beside its packets
abbrev pub HasNoneBeside : List Line → ℕ → Type 0
HasNoneBeside lines first = filter (λ l. (l.at == first) && l.during) lines ≡ []

-- ---- shares that are out

-- this is the share of worker k in the round of these packets, at ports that had these histories
pub record IsOutAt (k : ℕ) (h : HarbourSeen) (lines : List Line) (gs : List (List Event)) (first : ℕ) (packets : List Record) (s : ShareSeen) : Type 0 where
  pub number : s.number ≡ k
  pub docks : s.docks ≡ h.docks
  pub histories : s.histories ≡ gs
  pub jobs : jobs_in s ≡ deal h.controllers k (jobs_here h lines first packets)

abbrev pub AreOutAt : ℕ → HarbourSeen → List Line → List (List Event) → ℕ → List Record → List ShareSeen → Type 0
AreOutAt k h lines gs first packets [] = Unit {0}
AreOutAt k h lines gs first packets (s ∷ ss) = IsOutAt k h lines gs first packets s × AreOutAt (suc k) h lines gs first packets ss

-- since all were ready at these histories the commands before the packets were asked in turn, all met, and the workers' shares went out; the others have nothing to do
pub record IsUnder (h : HarbourSeen) (s : Setting) (hs : List (List Event)) (lines : List Line) (first : ℕ) (packets : List Record) (u : Underway) (out : List ShareSeen) : Type 0 where
  pub rows : List (List (Lane StationSeen))
  pub begun : HasBegun h s hs first (u.firsts.items) rows
  pub met : List (List (Lane StationSeen))
  pub quiet : Did h begun.middles (no_calls h.docks) [] met
  pub shares : AreOutAt 0 h lines quiet.histories first packets out
  pub idle : RowsStand h.workers h.docks quiet.histories (no_calls h.docks) (rows_in (drop h.workers u.rows.items))
  pub idle_jobs : (k : ℕ) → deal h.controllers (h.workers + k) (jobs_here h lines first packets) ≡ []
  pub befores : u.befores.items ≡ map length hs
  pub loose : u.loose.items ≡ loose_among (macs_in h) (numbered first packets)

-- the shares of the round of these packets are out, which a crew began that stood so
pub record IsOut (c : CrewSeen) (lines : List Line) (first : ℕ) (packets : List Record) (u : Underway) (out : List ShareSeen) : Type 0 where
  pub run : IsOfSome c.harbour
  pub may : Each (MayAsk c.harbour) lines
  pub journals : AreJournals (callers c.harbour) (ports_in c.harbour.docks) c.histories c.histories
  pub first_is : u.first ≡ first
  pub workers : length out ≡ c.harbour.workers
  pub size : length u.rows.items ≡ callers c.harbour
  pub under : (s : Setting) → IsOfRun c.harbour s → s.commands ≡ lines → IsUnder c.harbour s c.histories lines first packets u out

-- ---- a round that is to be told

-- telling it gives this text, and whether want of memory is told in it
pub record Owes (h : HarbourSeen) (o : Owed) (text : List ℕ) (short : Bool) : Type 0 where
  pub sizes : AreSized h.workers (length h.controllers) (numbers_in h) o.befores.items o.afters.items o.lines.items
  pub grows : AreRising o.befores.items o.afters.items
  pub ports : List PortSeen
  pub before : List (List Event)
  pub after : List (List Event)
  pub counted : IsCounted h ports before after o.befores.items o.afters.items o.lines.items o.firsts.items
  pub text_is : text ≡ crew_text o.first ports before after (texts_so h o.lines.items o.firsts.items) o.loose.items
  pub short_is : short ≡ is_short_crew before after (texts_so h o.lines.items o.firsts.items)

-- a round that a crew began which stood so is to be told, and this is the crew behind it: in each run it is that round, and its text
pub record TellsOwed (c : CrewSeen) (lines : List Line) (first : ℕ) (packets : List Record) (o : Owed) (after : CrewSeen) : Type 0 where
  pub tells : (s : Setting) (hs : List (List Event)) → s.commands ≡ lines → IsAt s hs (crew_now c) → (text : List ℕ) × (short : Bool) × Owes c.harbour o text short × TellsRound s hs first packets (crew_now after) short [] text

-- some crew of this harbour began the round whose shares are out
abbrev pub MayTake : HarbourSeen → Underway → List ShareSeen → Type 0
MayTake h u out = (c : CrewSeen) × (lines : List Line) × (first : ℕ) × (packets : List Record) × (c.harbour ≡ h) × IsOut c lines first packets u out

-- whichever crew it is, its round is to be told, and this is the crew behind it
abbrev pub TakesOwed : HarbourSeen → Underway → List ShareSeen → Owed → CrewSeen → Type 0
TakesOwed h u out o after = (c : CrewSeen) (lines : List Line) (first : ℕ) (packets : List Record) → c.harbour ≡ h → IsOut c lines first packets u out → TellsOwed c lines first packets o after
