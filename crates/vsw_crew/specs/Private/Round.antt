-- A round of a crew, step by step.
use Rattle.std.specs.Prelude.{◌≡◌, ◌++◌, ℕ, Bool, false, List, [], length, map, IfOk, Result, Vec}
use Rattle.vsw_harbour.specs.Lane.{Lane}
use Rattle.vsw_commandfile.specs.declared.line.Line.{Line}
use Rattle.vsw_harbour.specs.Crew.{CrewDid, CrewTells, crew_text, is_short_crew}
use Rattle.vsw_harbour.specs.Turns.{PlacedTurns, placed_before}
use Rattle.vsw_harbour.specs.Seen.{StationSeen}
use Rattle.vsw_port.specs.Calls.{Call}
use Rattle.vsw_port.specs.Order.{numbered}
use Rattle.vsw_port.specs.declared.event.Event.{Event}
use Rattle.vsw_harbour.specs.Rounds.{AreJournals, calls_by_port}
use Rattle.vsw_report.specs.Line.{TextLine}
use Rattle.vsw_pcap.specs.declared.capture.Record.{Record}
use Rattle.vsw_promise.specs.Ports.{ports_of}
use Rattle.vsw_promise.specs.Jobs.{Placed, Setting, loose_among, macs_of, placed_packets}
use Rattle.vsw_many.specs.Dealing.{numbers_of, placed_lines}
use Rattle.vsw_report.specs.declared.round.Loose.{Loose}
use Rattle.vsw_harbour.specs.Deal.{dealt, shared}
use Rattle.vsw_harbour.specs.DealWork.{Work}
use Rattle.vsw_harbour.specs.Harbour.{HarbourSeen, IsOfRun, callers, ports_in}
use Rattle.vsw_harbour.specs.Placed as actor
use Rattle.vsw_harbour.specs.Standing.{RowsStand, no_calls}
use Rattle.vsw_harbour.specs.Steps.{Did}
use Rattle.vsw_crew.specs.Crew.{AreReady, RunsRound, seen_by, switch_now}
use Rattle.vsw_crew.specs.Told.{told_rows}
use Rattle.vsw_switch.specs.Switch.{AreServed}

-- the numbers and the addresses of the ports
abbrev pub numbers_in : HarbourSeen → List ℕ
numbers_in h = map (λ d. d.number) h.docks

abbrev pub macs_in : HarbourSeen → List ℕ
macs_in h = map (λ d. d.mac) h.docks

-- what is done beside each other in the round of these packets
abbrev pub jobs_here : HarbourSeen → List Line → ℕ → List Record → List Placed
jobs_here h lines first packets = placed_lines (numbers_in h) lines first ++ placed_packets h.workers false (macs_in h) [] (numbered first packets)

-- since all were ready at these histories, the commands before the packets were asked in turn
pub record HasAsked (h : HarbourSeen) (s : Setting) (hs : List (List Event)) (first : ℕ) (rows : List (List (Lane StationSeen))) : Type 0 where
  pub middles : List (List Event)
  pub calls : List (List Call)
  pub turns : PlacedTurns 0 (ports_of s.policy) (placed_before (numbers_of s.policy) s.commands first) hs middles calls
  pub size : length rows ≡ callers h
  pub stand : RowsStand 0 h.docks middles calls rows

-- and the controllers' lines of them were taken
pub record HasBegun (h : HarbourSeen) (s : Setting) (hs : List (List Event)) (first : ℕ) (firsts : List (List (List TextLine))) (rows : List (List (Lane StationSeen))) : Type 0 where
  pub middles : List (List Event)
  pub calls : List (List Call)
  pub turns : PlacedTurns 0 (ports_of s.policy) (placed_before (numbers_of s.policy) s.commands first) hs middles calls
  pub size : length rows ≡ callers h
  pub stand : RowsStand 0 h.docks middles (no_calls h.docks) rows
  pub lines : firsts ≡ told_rows h.controllers calls 16 (length h.controllers)

-- since all stood at these histories they have met, and then each has done its own of these jobs
pub record DidBeside (h : HarbourSeen) (hs : List (List Event)) (jobs : List Placed) (rows : List (List (Lane StationSeen))) : Type 0 where
  pub met : List (List (Lane StationSeen))
  pub quiet : Did h hs (no_calls h.docks) [] met
  pub did : Did h quiet.histories (no_calls h.docks) jobs rows
  pub size : length rows ≡ callers h

-- whenever all stood at some histories, and these shares are what is dealt of some jobs, they have met, and then each has done its own of them
abbrev pub DoesBeside : {G : Type 0} → HarbourSeen → List (List (Lane StationSeen)) → List (Vec (actor.Placed Work) G) → List (List (Lane StationSeen)) → Type 0
DoesBeside h rows shares after = (hs : List (List Event)) (js : List Placed) → RowsStand 0 h.docks hs (no_calls h.docks) rows → shared shares ≡ dealt h.controllers js → DidBeside h hs js after

-- all was done that a round is, and the lines of the commands before the packets are taken
pub record HasWorked (h : HarbourSeen) (s : Setting) (hs : List (List Event)) (first : ℕ) (packets : List Record) (befores : List ℕ) (firsts : List (List (List TextLine))) (loose : List Loose) (rows : List (List (Lane StationSeen))) : Type 0 where
  pub run : IsOfRun h s
  pub histories : List (List Event)
  pub texts : List (List (List TextLine))
  pub did : CrewDid s first packets hs histories texts
  pub size : length rows ≡ callers h
  pub stand : RowsStand 0 h.docks histories (calls_by_port (ports_of s.policy) did.rows) rows
  pub journals : AreJournals (callers h) (ports_in h.docks) histories histories
  pub befores_are : befores ≡ map length hs
  pub firsts_are : firsts ≡ told_rows h.controllers did.firsts 16 (length h.controllers)
  pub loose_are : loose ≡ loose_among (macs_of s.policy) (numbered first packets)

-- the round was told, and all are ready for the next one
pub record HasTold (h : HarbourSeen) (s : Setting) (hs : List (List Event)) (first : ℕ) (packets : List Record) (short : Bool) (old new : List ℕ) (rows : List (List (Lane StationSeen))) : Type 0 where
  pub histories : List (List Event)
  pub texts : List (List (List TextLine))
  pub tells : CrewTells s first packets hs histories texts
  pub ready : AreReady h histories rows
  pub short_is : short ≡ is_short_crew hs histories texts
  pub text : new ≡ old ++ crew_text first (ports_of s.policy) hs histories texts (loose_among (macs_of s.policy) (numbered first packets))

-- in each run of a harbour that has these commands, at whichever histories all were ready with these rows, this is done
abbrev pub InEachRun : HarbourSeen → List Line → List (List (Lane StationSeen)) → (Setting → List (List Event) → Type 0) → Type 0
InEachRun h lines rows does = (s : Setting) (hs : List (List Event)) → IsOfRun h s → s.commands ≡ lines → AreReady h hs rows → does s hs

-- in each the commands before the packets were asked, and their lines taken
abbrev pub BeginsRound : HarbourSeen → List Line → ℕ → List (List (Lane StationSeen)) → List (List (List TextLine)) → List (List (Lane StationSeen)) → Type 0
BeginsRound h lines first rows firsts after = InEachRun h lines rows (λ s hs. HasBegun h s hs first firsts after)

-- in each all was done that the round of these packets is
abbrev pub WorksRound : HarbourSeen → List Line → ℕ → List Record → List (List (Lane StationSeen)) → List ℕ → List (List (List TextLine)) → List Loose → List (List (Lane StationSeen)) → Type 0
WorksRound h lines first packets rows befores firsts loose after = InEachRun h lines rows (λ s hs. HasWorked h s hs first packets befores firsts loose after)

-- in each it was told
abbrev pub SaysRound : HarbourSeen → List Line → ℕ → List Record → List (List (Lane StationSeen)) → Bool → (old new : List ℕ) → List (List (Lane StationSeen)) → Type 0
SaysRound h lines first packets rows short old new after = InEachRun h lines rows (λ s hs. HasTold h s hs first packets short old new after)

-- the round of these packets is run at ports as the first of these rows have seen them, and they are then as the others have
abbrev pub RunsRows : {E : Type 0} → Result Bool E → HarbourSeen → List Line → ℕ → List Record → (rows after : List (List (Lane StationSeen))) → (old new : List ℕ) → Type 0
RunsRows r h lines first packets rows after old new = IfOk r (λ short. RunsRound lines first packets (switch_now h (seen_by rows)) (switch_now h (seen_by after)) short old new)

-- the lines that such ports can be asked can be asked of those that are then
abbrev pub StayServed : HarbourSeen → (rows after : List (List (Lane StationSeen))) → Type 0
StayServed h rows after = (lines : List Line) → AreServed (switch_now h (seen_by rows)) lines → AreServed (switch_now h (seen_by after)) lines
