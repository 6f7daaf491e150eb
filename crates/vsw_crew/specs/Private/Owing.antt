-- A round that was done, and is to be told.
use Rattle.std.specs.Prelude.{◌≡◌, ◌⊎◌, ℕ, Bool, List, map}
use Rattle.vsw_harbour.specs.Lane.{Lane}
use Rattle.vsw_harbour.specs.Crew.{CrewTells, crew_text, is_short_crew}
use Rattle.vsw_harbour.specs.Harbour.{HarbourSeen}
use Rattle.vsw_harbour.specs.HarbourOpening.{rows_in}
use Rattle.vsw_harbour.specs.Seen.{StationSeen}
use Rattle.vsw_history_law.specs.Law.{AreAsked}
use Rattle.vsw_port.specs.Order.{numbered}
use Rattle.vsw_port.specs.declared.event.Event.{Event}
use Rattle.vsw_pcap.specs.declared.capture.Record.{Record}
use Rattle.vsw_promise.specs.Jobs.{Setting, loose_among, macs_of}
use Rattle.vsw_promise.specs.Ports.{ports_of}
use Rattle.vsw_report.specs.Line.{TextLine}
use Rattle.vsw_crew.specs.Crew.{AreReady}
use Rattle.vsw_crew.specs.Private.Round.{HasTold, HasWorked}
use Rattle.vsw_crew.specs.Private.Rows.{rested}
use Rattle.vsw_crew.specs.Shift.{Owes}
use Rattle.vsw_crew.specs.declared.owed.Owed.{Owed}
use Rattle.vsw_crew.specs.declared.round.Worked.{Worked}

-- rows got rooms for their lines, or are as they were
abbrev pub GivesRooms : List (List (Lane StationSeen)) → List (List (Lane StationSeen)) → Type 0
GivesRooms old new = (new ≡ map rested old) ⊎ (new ≡ old)

-- the round is to be told, and all are ready for the next one
pub record HasOwed (h : HarbourSeen) (s : Setting) (hs : List (List Event)) (first : ℕ) (packets : List Record) (o : Owed) (rows : List (List (Lane StationSeen))) : Type 0 where
  pub histories : List (List Event)
  pub texts : List (List (List TextLine))
  pub tells : CrewTells s first packets hs histories texts
  pub ready : AreReady h histories rows
  pub owes : Owes h o (crew_text first (ports_of s.policy) hs histories texts (loose_among (macs_of s.policy) (numbered first packets))) (is_short_crew hs histories texts)

-- in some run this is a round that was done
abbrev pub IsSomeRound : HarbourSeen → ℕ → Worked → Type 0
IsSomeRound h first w = (s : Setting) × (hs : List (List Event)) × (packets : List Record) × HasWorked h s hs first packets w.befores.items w.firsts.items w.loose.items (rows_in w.rows.items)

-- of whichever round it is that was done, it is to be told
abbrev pub OwesSo : HarbourSeen → ℕ → Worked → Owed → List (List (Lane StationSeen)) → Type 0
OwesSo h first w o rows = (s : Setting) (hs : List (List Event)) (packets : List Record) → AreAsked s → HasWorked h s hs first packets w.befores.items w.firsts.items w.loose.items (rows_in w.rows.items) → HasOwed h s hs first packets o rows

-- and was told
abbrev pub TellsSo : HarbourSeen → ℕ → Worked → Bool → (old new : List ℕ) → List (List (Lane StationSeen)) → Type 0
TellsSo h first w short old new rows = (s : Setting) (hs : List (List Event)) (packets : List Record) → AreAsked s → HasWorked h s hs first packets w.befores.items w.firsts.items w.loose.items (rows_in w.rows.items) → HasTold h s hs first packets short old new rows
