-- What holds of rows before, between and after rounds.
use Rattle.std.specs.Prelude.{◌≡◌, ℕ, List, [], map, length}
use Rattle.vsw_actors.specs.declared.lane.Lane.{Lane}
use Rattle.vsw_actors.specs.Actors.{Begins}
use Rattle.vsw_actors.specs.Ends.{AllMet}
use Rattle.vsw_actors.specs.Lanes.{AreFit}
use Rattle.vsw_live.specs.Meeting.{HeldSeen}
use Rattle.vsw_live.specs.Ports.{OpenSeen, passes_of}
use Rattle.vsw_actors.specs.ManyActors.{AllRest}
use Rattle.vsw_policy.specs.Sound.{Each}
use Rattle.vsw_promise.specs.declared.port.Port.{Port}
use Rattle.vsw_promise.specs.Ports.{port_seen}
use Rattle.vsw_dock.specs.Docks.{is_of, pass_in, permits, port_in, tells}
use Rattle.vsw_dock.specs.Meeting.{AreHeld, AreLanes, AreOfCaller, HaveNoLines, histories_of, passes_in}
use Rattle.vsw_dock.specs.Opening.{AreIdle, AreNewRows, rows_from}
use Rattle.vsw_dock.specs.Seen.{DockSeen, StationSeen}

-- the row of caller k, whose lanes stand at these docks, met their ports: it rests there, and may begin a round of so many jobs
pub record RowRests (more k : ℕ) (ds : List DockSeen) (hs : List HeldSeen) (ls ms : List (Lane StationSeen)) : Type 0 where
  pub rest : AllRest k (map port_in ds) (histories_of hs) (passes_in ms)
  pub met : AllMet port_in pass_in ds (histories_of hs) ls (passes_in ms)
  pub fit : AreFit pass_in is_of permits k more ds ms
  pub begins : HaveNoLines ms → Begins port_in pass_in tells k ds ms

-- the lanes of caller k may meet the ports of their docks
pub record MayMeet (k : ℕ) (hs : List HeldSeen) (ls : List (Lane StationSeen)) : Type 0 where
  pub lanes : AreLanes hs ls
  pub caller : AreOfCaller k ls

-- a new row rests at empty histories, and may meet the ports
pub record NewRests (k : ℕ) (ds : List DockSeen) (ls : List (Lane StationSeen)) : Type 0 where
  pub rest : AllRest k (map port_in ds) (map (λ d. []) ds) (passes_in ls)
  pub meets : (hs : List HeldSeen) → AreHeld ds hs → MayMeet k hs ls
  pub lines : HaveNoLines ls

-- ports of the policy, opened and docked: the docks are the policy's ports, and their rows are new
pub record AreDocked (count : ℕ) (locals : List ℕ) (made : List Port) (os : List OpenSeen) (ds : List DockSeen) : Type 0 where
  pub ports : map port_in ds ≡ map port_seen made
  pub locals_are : Each (λ d. d.locals ≡ locals) ds
  pub idle : AreIdle (passes_of os)
  pub rows : AreNewRows 0 ds (rows_from count (passes_of os))
  pub many : length (rows_from count (passes_of os)) ≡ count
