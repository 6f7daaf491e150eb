-- The harbour of a policy file and the rows of all its callers, before the first round.
use Rattle.std.specs.Prelude.{◌≡◌, ℕ, Bool, List, [], length, map, true}
use Rattle.vsw_harbour.specs.Lane.{Lane}
use Rattle.vsw_commandfile.specs.declared.line.Line.{Line}
use Rattle.vsw_harbour.specs.Seen.{DockSeen, StationSeen}
use Rattle.vsw_harbour.specs.Harbour.{HarbourSeen, IsOfRun, MayAsk, callers, ports_in}
use Rattle.vsw_harbour.specs.Meeting.{AreLanesAt}
use Rattle.vsw_harbour.specs.Standing.{IsWhole, RowsStand, no_calls}
use Rattle.vsw_port.specs.declared.event.Event.{Event}
use Rattle.vsw_harbour.specs.Rounds.{AreJournals}
use Rattle.vsw_policy.specs.Obey.{rules_given}
use Rattle.vsw_policy.specs.Sound.{Each, IsGoodRule, is_listed}
use Rattle.vsw_config.specs.declared.file.PolicyFile.{PolicyFile}
use Rattle.vsw_promise.specs.Ports.{ports_of}

-- an empty history, at each port
abbrev pub no_entries : List DockSeen → List (List Event)
no_entries ds = map (λ d. []) ds

-- a line that asks a command of a controller and a port of the file, with good rules
pub record IsServed (file : PolicyFile) (l : Line) : Type 0 where
  pub port : is_listed (map (λ p. p.number) (ports_of file)) l.port ≡ true
  pub controller : is_listed file.controllers l.controller ≡ true
  pub rules : Each IsGoodRule (rules_given l.command)

-- the harbour of each run of this policy with so many workers, which hands packets on or doesn't, and a row for each caller: no port has an entry, and no caller has done anything
pub record IsMustered (workers : ℕ) (file : PolicyFile) (local : Bool) (h : HarbourSeen) (rows : List (List (Lane StationSeen))) : Type 0 where
  pub run : (commands : List Line) → IsOfRun h (record { workers = workers; policy = file; commands = commands; local = local })
  pub size : length rows ≡ callers h
  pub lanes : Each (AreLanesAt h.docks) rows
  pub stand : RowsStand 0 h.docks (no_entries h.docks) (no_calls h.docks) rows
  pub whole : Each IsWhole rows
  pub journals : AreJournals (callers h) (ports_in h.docks) (no_entries h.docks) (no_entries h.docks)
  pub may : (l : Line) → IsServed file l → MayAsk h l
