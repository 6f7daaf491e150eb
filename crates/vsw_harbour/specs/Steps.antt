-- What callers did between two meetings, and what they tell.
use Rattle.std.specs.Prelude.{◌≡◌, ℕ, List, length, map, filter, not, Some}
use Rattle.std.specs.List.{slice_get}
use Rattle.vsw_dock.specs.Lane.{Lane}
use Rattle.vsw_commandfile.specs.declared.line.Line.{Line}
use Rattle.vsw_dock.specs.Seen.{DockSeen, StationSeen}
use Rattle.vsw_port.specs.declared.event.Event.{Event}
use Rattle.vsw_port.specs.Calls.{Ask, Call}
use Rattle.vsw_dock.specs.Handing.{AreHandedRows}
use Rattle.vsw_dock.specs.Phases as many
use Rattle.vsw_dock.specs.Rounds.{AreJournals, calls_by_port}
use Rattle.vsw_policy.specs.Layers.{place_of}
use Rattle.vsw_promise.specs.Ports.{ports_of}
use Rattle.vsw_promise.specs.Jobs.{Placed, Setting}
use Rattle.vsw_many.specs.Dealing.{numbers_of}
use Rattle.vsw_many.specs.Turns.{PlacedTurns, append_each, placed_before}
use Rattle.vsw_harbour.specs.Harbour.{HarbourSeen, IsOfRun, callers, locals_in, ports_in}
use Rattle.vsw_harbour.specs.Standing.{RowsMay, RowsStand}
use Rattle.vsw_harbour.specs.Working.{RowsWork}

-- since all stood at these histories, of whose rounds these calls are told, each caller has done its own of these jobs, and after each of them what
-- its call handed on; and all have met again
pub record Did (h : HarbourSeen) (hs : List (List Event)) (calls : List (List Call)) (jobs : List Placed) (met : List (List (Lane StationSeen))) : Type 0 where
  pub histories : List (List Event)
  pub rows : List (List many.Lane)
  pub size : length rows ≡ callers h
  pub hops : List (List (List Placed))
  pub done : AreHandedRows (locals_in h.docks) h.controllers jobs 0 (ports_in h.docks) hs histories rows hops
  pub journals : AreJournals (callers h) (ports_in h.docks) hs histories
  pub stand : RowsStand 0 h.docks histories (append_each calls (calls_by_port (ports_in h.docks) rows)) met

-- wherever all stood with the first of these rows, they did these jobs, and met, and their rows are the others
abbrev pub DidAll : HarbourSeen → List Placed → List (List (Lane StationSeen)) → List (List (Lane StationSeen)) → Type 0
DidAll h jobs rows met = (hs : List (List Event)) (calls : List (List Call)) → RowsStand 0 h.docks hs calls rows → Did h hs calls jobs met

-- whatever jobs each has done its own of since all stood somewhere, they have met
abbrev pub MetAgain : HarbourSeen → List (List (Lane StationSeen)) → List (List (Lane StationSeen)) → Type 0
MetAgain h rows met = (hs : List (List Event)) (calls : List (List Call)) (jobs : List Placed) → RowsWork h.controllers 0 h.docks hs calls jobs rows → Did h hs calls jobs met

-- since all stood at these histories these jobs were done in turn at the ports of a run
pub record Turned (h : HarbourSeen) (s : Setting) (hs : List (List Event)) (calls : List (List Call)) (jobs : List Placed) (met : List (List (Lane StationSeen))) : Type 0 where
  pub histories : List (List Event)
  pub more : List (List Call)
  pub turns : PlacedTurns 0 (ports_of s.policy) jobs hs histories more
  pub journals : AreJournals (callers h) (ports_of s.policy) hs histories
  pub stand : RowsStand 0 h.docks histories (append_each calls more) met

-- callers that stand somewhere, and may make so many entries
pub record MayGo (h : HarbourSeen) (needs : List ℕ) (rows : List (List (Lane StationSeen))) : Type 0 where
  pub histories : List (List Event)
  pub calls : List (List Call)
  pub size : length rows ≡ callers h
  pub stand : RowsStand 0 h.docks histories calls rows
  pub may : RowsMay needs rows

-- these are the commands at these places of the file
abbrev pub AreAt : List Line → List ℕ → List Line → Type 0
AreAt lines places cs = map (λ place. slice_get lines place) places ≡ map Some cs

-- a command at the place of its port among these
abbrev pub placed_ask : List DockSeen → Line → Placed
placed_ask ds l = (place_of l.port (map (λ d. d.number) ds), Ask l)

-- of these commands those that run before the packets, each at its place
abbrev pub asks_before : List DockSeen → List Line → List Placed
asks_before ds cs = map (placed_ask ds) (filter (λ l. not l.during) cs)

-- ---- commands that were asked since all stood somewhere

-- in whichever run, those of these commands that run before the packets were asked in turn
abbrev pub AsksTurned : HarbourSeen → List Line → List (List (Lane StationSeen)) → List (List (Lane StationSeen)) → Type 0
AsksTurned h cs rows met = (s : Setting) (hs : List (List Event)) (calls : List (List Call)) → IsOfRun h s → AreJournals (callers h) (ports_of s.policy) hs hs → RowsStand 0 h.docks hs calls rows → Turned h s hs calls (asks_before h.docks cs) met

-- the same of the commands at these places of the file
abbrev pub PlacesTurned : HarbourSeen → List Line → List ℕ → List (List (Lane StationSeen)) → List (List (Lane StationSeen)) → Type 0
PlacesTurned h lines places rows met = (cs : List Line) (s : Setting) (hs : List (List Event)) (calls : List (List Call)) → AreAt lines places cs → IsOfRun h s → AreJournals (callers h) (ports_of s.policy) hs hs → RowsStand 0 h.docks hs calls rows → Turned h s hs calls (asks_before h.docks cs) met

-- and of those of the round that begins with this packet
abbrev pub RoundTurned : HarbourSeen → List Line → ℕ → List (List (Lane StationSeen)) → List (List (Lane StationSeen)) → Type 0
RoundTurned h lines first rows met = (s : Setting) (hs : List (List Event)) (calls : List (List Call)) → s.commands ≡ lines → IsOfRun h s → AreJournals (callers h) (ports_of s.policy) hs hs → RowsStand 0 h.docks hs calls rows → Turned h s hs calls (placed_before (numbers_of s.policy) s.commands first) met
