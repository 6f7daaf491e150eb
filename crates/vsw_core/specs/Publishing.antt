-- The row that a packet leaves for those of its identity that follow.
use Rattle.std.specs.Prelude.{◌≡◌, ◌≤◌, ℕ, List, Bool, false}
use Rattle.vsw_base.specs.declared.fate.Cause.TheVariants as cause
use Rattle.vsw_base.specs.declared.fate.Fate.{Fate}
use Rattle.vsw_base.specs.declared.fate.Fate.TheVariants.{Pass, Drop}
use Rattle.vsw_base.specs.declared.flow.Crossing.{Crossing}
use Rattle.vsw_base.specs.declared.flow.Ufid.{Ufid}
use Rattle.vsw_base.specs.declared.packet.Control.TheVariants as control
use Rattle.vsw_port.specs.Cross.{cross_of}
use Rattle.vsw_port.specs.Fate.{fate_at}
use Rattle.vsw_policy.specs.Layer.{LayerSeen}
use Rattle.vsw_port.specs.declared.event.Event.TheVariants as event
use Rattle.vsw_rows.specs.Good.{Good, Row}
use Rattle.vsw_rows.specs.Rows.{IsProbed, Says}
use Rattle.vsw_table.specs.Rules.{row_at}
use Rattle.vsw_words.specs.Key.{key_words}
use Rattle.vsw_flows.specs.declared.places.Found.TheVariants.{Free}
use Rattle.vsw_flows.specs.Finding.{IsFound}
use Rattle.vsw_flows.specs.Flows.{IsCurrent, Puts, Writing}
use Rattle.vsw_core.specs.Calls.{FallsBy}

-- the place is one of the eight, of so many rows, at which a row of this identity may stand
abbrev pub IsPlaceOf : ℕ → Ufid → ℕ → Type 0
IsPlaceOf rows id place = IsProbed rows (key_words id.dir id.stack) place

-- a row of this identity is current at a place
pub record Stands (rows : ℕ) (v : Writing) (id : Ufid) (place : ℕ) (row : Row) : Type 0 where
  pub probed : IsPlaceOf rows id place
  pub current : IsCurrent v place
  pub says : Says (row_at v.view.rows place) row
  pub same : row.id ≡ id

-- one stands that is good at these layers, and may answer at this moment
pub record StandsUntil (rows : ℕ) (ls : List LayerSeen) (v : Writing) (id : Ufid) (moment : ℕ) : Type 0 where
  pub place : ℕ
  pub row : Row
  pub stands : Stands rows v id place row
  pub good : Good ls row
  pub lasts : moment ≤ row.until

-- none does
abbrev pub NoneStands : ℕ → Writing → Ufid → Type 0
NoneStands rows v id = (place : ℕ) (row : Row) → Stands rows v id place row → ⊥

-- the fate is that of a walk: a pass, or a drop by a rule or a default
abbrev pub IsByWalk : Fate → Type 0
IsByWalk (Pass len) = Unit {0}
IsByWalk (Drop (cause.Rule controller layer group rule)) = Unit {0}
IsByWalk (Drop (cause.Default controller layer dir)) = Unit {0}
IsByWalk (Drop cause) = ⊥

-- a packet that crosses these layers has a fate of its walk and changes nothing
pub record IsSettled (ls : List LayerSeen) (x : Crossing) : Type 0 where
  pub still : (cross_of ls x).changed ≡ false
  pub fate : IsByWalk (fate_at ls x)

-- a row that a packet may put: it is of the packet's identity, and good at these layers. The packet has no control, and the place is one where no
-- current row of the identity stands, and any current one only where all eight are current
pub record MayWrite (rows : ℕ) (ls : List LayerSeen) (x : Crossing) (v : Writing) (place : ℕ) (words : List ℕ) : Type 0 where
  pub plain : x.control ≡ control.None
  pub free : IsFound rows (key_words x.id.dir x.id.stack) v (Free place)
  pub row : Row
  pub same : row.id ≡ x.id
  pub says : Says words row
  pub good : Good ls row

-- at most one row was put, such a one. Others may have given way to it
pub data WritesOne (rows : ℕ) (ls : List LayerSeen) (x : Crossing) (v w : Writing) : Type 0 where
  None : w ≡ v → WritesOne rows ls x v w
  One : (place : ℕ) (words : List ℕ) (done : Bool) → MayWrite rows ls x v place words → Puts v w place words done → WritesOne rows ls x v w

-- what a packet leaves of the rows: those fell that its entry shakes at the layers before, and then it put one row at most, which is good at those after
pub record Leaves (rows : ℕ) (ls ms : List LayerSeen) (x : Crossing) (fate : Fate) (v w : Writing) : Type 0 where
  pub between : Writing
  pub falls : FallsBy ls (event.Crossing x fate) v between
  pub writes : WritesOne rows ms x between w
