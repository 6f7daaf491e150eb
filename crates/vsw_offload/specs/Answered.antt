-- What the rows of a port answer a packet.
use Rattle.std.specs.Prelude.{◌≡◌, ◌≢◌, ◌⊎◌, ◌<◌, ℕ, zero, suc, List, [], ◌∷◌, ◌++◌, Bool, true, take, if◌then◌else◌, Option, Some, None, IsSome, Result, Ok, Err}
use Rattle.vsw_base.specs.declared.fate.Cause.TheVariants as cause
use Rattle.vsw_base.specs.declared.fate.Fate.{Fate}
use Rattle.vsw_base.specs.declared.fate.Fate.TheVariants.{Pass, Drop}
use Rattle.vsw_base.specs.declared.fate.Verdict.{Verdict}
use Rattle.vsw_base.specs.declared.fate.Verdict.TheVariants as verdict
use Rattle.vsw_base.specs.declared.fault.Long.{Long}
use Rattle.vsw_base.specs.declared.flow.Crossing.{Crossing}
use Rattle.vsw_base.specs.declared.flow.Place.{Place}
use Rattle.vsw_base.specs.declared.packet.Control.TheVariants as control
use Rattle.vsw_base.specs.Frame.{Parts, frame_of, sizes_of}
use Rattle.vsw_base.specs.Shape.{is_stack}
use Rattle.vsw_frame.specs.Bytes.{answer, outgoing}
use Rattle.vsw_frame.specs.Tiles.{outermost}
use Rattle.vsw_offload.specs.declared.answer.Given.{Given}
use Rattle.vsw_offload.specs.Rows.{Rise}
use Rattle.vsw_offload.specs.declared.port_rows.PortRows.{PortRows}
use Rattle.vsw_policy.specs.Sound.{Each}
use Rattle.vsw_port.specs.declared.event.Event.{Event}
use Rattle.vsw_port.specs.Calls.{Carried, Reads, ShowsAt}
use Rattle.vsw_port.specs.History.{Opening, replay}
use Rattle.vsw_rows.specs.Good.{MayAnswer, Row}
use Rattle.vsw_rows.specs.GoodRows.{IsGoodRow}
use Rattle.vsw_rows.specs.Rows.{Says}
use Rattle.vsw_transpose.specs.declared.act.Act.{Act}
use Rattle.vsw_transpose.specs.Apply.{apply}
use Rattle.vsw_transpose.specs.Fits.{kept}

-- a pass has its length, or is too long
abbrev pub passed : Result ℕ Long → Fate
passed (Ok len) = Pass len
passed (Err why) = Drop cause.Long

-- the fate of a frame by what a row says: a verdict, and acts
abbrev pub fate_by : List Act → Parts → Verdict → Fate
fate_by acts p verdict.Pass = passed (answer p (apply acts p.stack) (kept acts))
fate_by acts p (verdict.Rule controller layer group rule) = Drop (cause.Rule controller layer group rule)
fate_by acts p (verdict.Default controller layer dir) = Drop (cause.Default controller layer dir)

-- the bytes with which a packet of this fate leaves, its headers edited by the acts. A dropped one leaves with none
abbrev pub bytes_by : List Act → Parts → Fate → List ℕ
bytes_by acts p (Pass len) = outgoing p (apply acts p.stack) (kept acts)
bytes_by acts p (Drop why) = []

-- words among these say this row
pub data SaysOne (rows : List (List ℕ)) (r : Row) : Type 0 where
  One : (words : List ℕ) (front back : List (List ℕ)) → rows ≡ front ++ words ∷ back → Says words r → SaysOne rows r

-- no row answers a packet: it has a control, or no row is of its identity, or the one that is has its until below the moment
abbrev pub IsUnanswered : List (List ℕ) → Crossing → Type 0
IsUnanswered rows x = (x.control ≢ control.None) ⊎ (((r : Row) → SaysOne rows r → r.id ≢ x.id) ⊎ ((r : Row) × SaysOne rows r × (r.id ≡ x.id) × (r.until < x.moment)))

-- what rows answer a packet of a frame with these parts
pub record IsAnswered (rows : List (List ℕ)) (x : Crossing) (p : Parts) (fate : Fate) (bytes : List ℕ) : Type 0 where
  pub row : Row
  pub says : SaysOne rows row
  pub may : MayAnswer row x
  pub fate_is : fate ≡ fate_by row.acts p row.verdict
  pub bytes_are : bytes ≡ bytes_by row.acts p fate

-- what the rows answer a packet: nothing, or this fate with these bytes
abbrev pub Answered : List (List ℕ) → Crossing → Parts → Option Fate → List ℕ → Type 0
Answered rows x p None bytes = IsUnanswered rows x
Answered rows x p (Some fate) bytes = IsAnswered rows x p fate bytes

-- the rows of the port at a place
abbrev pub rows_at : List PortRows → ℕ → List (List ℕ)
rows_at [] n = []
rows_at (p ∷ ps) zero = p.rows
rows_at (p ∷ ps) (suc n) = rows_at ps n

-- the bytes that were put at the front of a room
abbrev pub bytes_left : Option Fate → List ℕ → List ℕ
bytes_left None out = []
bytes_left (Some (Pass len)) out = take len out
bytes_left (Some (Drop why)) out = []

-- the bytes of a fate: of a pass the frame's own, or those at the front of a room
abbrev pub bytes_told : Bool → Parts → Fate → List ℕ → List ℕ
bytes_told own p (Pass len) out = if own then outermost p.levels else take len out
bytes_told own p (Drop why) out = []

-- the fate that was given, if one was
abbrev pub fate_given : Option Given → Option Fate
fate_given None = None
fate_given (Some g) = Some g.fate

-- and its bytes
abbrev pub bytes_given : Parts → Option Given → List ℕ → List ℕ
bytes_given p None out = []
bytes_given p (Some g) out = bytes_told g.own p g.fate out

-- a packet of a frame, at a port and a moment
pub record IsPacketOf (x : Crossing) (place : Place) (p : Parts) (moment : ℕ) : Type 0 where
  pub id : x.id ≡ record { dir = place.dir; stack = p.stack }
  pub control : x.control ≡ p.control
  pub moment_is : x.moment ≡ moment

-- what the rows of ports answer a frame at a port and a moment
abbrev pub AnswersFrame : List PortRows → Place → Parts → ℕ → Option Fate → List ℕ → Type 0
AnswersFrame ports place p moment fate bytes = (x : Crossing) → IsPacketOf x place p moment → Answered (rows_at ports place.port) x p fate bytes

-- ---- what holds of it

-- words say one row
abbrev pub WordsSayOne : Type 0
WordsSayOne = (words : List ℕ) (r s : Row) → Says words r → Says words s → r ≡ s

-- rows whose keys rise give a packet one answer, with its bytes
abbrev pub OneAnswer : Type 0
OneAnswer = (rows : List (List ℕ)) (x : Crossing) (p : Parts) (one other : Option Fate) (bytes others : List ℕ) → Rise rows → Answered rows x p one bytes → Answered rows x p other others → (one ≡ other) × (IsSome one → bytes ≡ others)

-- what rows answer that are good after a history is the fate and the bytes of the packet's crossing there, which changes nothing
abbrev pub RowsAnswerAsLayers : Type 0
RowsAnswerAsLayers = (o : Opening) (h : List Event) (rows : List (List ℕ)) (x : Crossing) (frame : List ℕ) (parts : Parts) (fate : Fate) (bytes : List ℕ) → Each (IsGoodRow o h) rows → frame_of frame ≡ Ok parts → is_stack parts.stack ≡ true
    → x.id.stack ≡ parts.stack → x.sizes ≡ sizes_of parts.levels → IsAnswered rows x parts fate bytes → Reads (replay o h) (Carried x parts fate bytes) × ShowsAt (replay o h) (Carried x parts fate bytes)
