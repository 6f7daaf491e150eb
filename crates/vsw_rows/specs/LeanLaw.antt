-- What holds of ways, of looks and of rows.
use Rattle.std.specs.Prelude.{◌≡◌, ◌<◌, ◌≤◌, List, [], Bool, true, false, nat_le, Option, Some, None, if◌then◌else◌, Ok}
use Rattle.vsw_port.specs.declared.stop.Stop.{Stop}
use Rattle.vsw_port.specs.declared.stop.Stop.TheVariants.{Long}
use Rattle.vsw_port.specs.Admit.{on_pass}
use Rattle.vsw_port.specs.Long.{is_long}
use Rattle.vsw_base.specs.declared.fate.Verdict.TheVariants.{Pass}
use Rattle.vsw_base.specs.declared.flow.Crossing.{Crossing}
use Rattle.vsw_base.specs.declared.flow.Ufid.{Ufid}
use Rattle.vsw_base.specs.declared.packet.Control.TheVariants as control
use Rattle.vsw_port.specs.Cross.{Crossed, Passing, all_done, cross_of, fate_after, made_by, makes}
use Rattle.vsw_walk.specs.declared.scratch.Wanted.{Wanted}
use Rattle.vsw_walk.specs.Walk.{Walk, greatest, until_of, walk_of}
use Rattle.vsw_policy.specs.Layer.{LayerSeen}
use Rattle.vsw_rows.specs.Good.{Good, IsGoodLeaning, IsRowOf, LeaningRow, MayAnswer, Row, shaken}
use Rattle.vsw_rows.specs.Shaken.{IsRight, shake}
use Rattle.vsw_rows.specs.Way.{Way, looks, way_of}
use Rattle.vsw_policy.specs.Sound.{Each}
use Rattle.vsw_transpose.specs.Apply.{apply}
use Rattle.vsw_transpose.specs.Fits as fit

-- a walk is one of this way
pub record IsOfWay (walk : Walk) (way : Way) : Type 0 where
  pub verdict : walk.verdict ≡ way.verdict
  pub stack : walk.stack ≡ way.stack
  pub kept : walk.kept ≡ way.kept
  pub makes : makes walk.changes ≡ way.makes
  pub until : until_of walk ≡ way.until

-- packets of one identity that have no control go one way and look for the same, at whatever moment they come
abbrev pub MomentUnseen : Type 0
MomentUnseen = (ls : List LayerSeen) (x : Crossing) → x.control ≡ control.None → IsOfWay (walk_of ls x) (way_of ls x.id) × ((walk_of ls x).looked ≡ looks ls x.id)

-- what they look for tells what is found
abbrev pub LooksRight : Type 0
LooksRight = (ls : List LayerSeen) (id : Ufid) → Each (IsRight ls) (looks ls id)

-- changes that shake no look of a packet leave its way and its looks as they were
abbrev pub WayStays : Type 0
WayStays = (ls : List LayerSeen) (ws : List Wanted) (id : Ufid) → shake ls ws (looks ls id) ≡ false → (way_of (all_done ws ls) id ≡ way_of ls id) × (looks (all_done ws ls) id ≡ looks ls id)

-- changes that shake no row leave every good row good, and leaning on what it leant on
abbrev pub RowsStay : Type 0
RowsStay = (ls : List LayerSeen) (ws : List Wanted) (ks : List LeaningRow) → Each (λ k. shaken ls ws k ≡ false) ks → Each (IsGoodLeaning ls) ks → Each (IsGoodLeaning (all_done ws ls)) ks

-- so does a crossing that shakes no row
abbrev pub CrossingStays : Type 0
CrossingStays = (ls : List LayerSeen) (x : Crossing) (ks : List LeaningRow) → Each (λ k. shaken ls (made_by ls x) k ≡ false) ks → Each (IsGoodLeaning ls) ks → Each (IsGoodLeaning (cross_of ls x).layers) ks

-- the row of a walk is good, and leans on what the walk looked for
abbrev pub WalkMakes : Type 0
WalkMakes = (ls : List LayerSeen) (x : Crossing) (r : Row) → IsRowOf ls x r → IsGoodLeaning ls (record { row = r; looks = (walk_of ls x).looked })

-- a packet without a control that passes after the until of its way shakes its own row
abbrev pub LateShakes : Type 0
LateShakes = (ls : List LayerSeen) (x : Crossing) (passing : Passing) → x.control ≡ control.None → x.moment ≤ greatest → (way_of ls x.id).until < x.moment → (cross_of ls x).fate ≡ Ok passing → shake ls (made_by ls x) (looks ls x.id) ≡ true

-- what a row answers a packet: what it says, but that a packet that passes may be too long
abbrev pub stop_by : Row → Crossing → Option Stop
stop_by r x = on_pass r.verdict (if is_long x (apply r.acts x.id.stack) (fit.kept r.acts) then Some Long else None)

abbrev pub answer_by : List LayerSeen → Row → Crossing → Crossed
answer_by ls r x = record { fate = fate_after r.verdict (stop_by r x) (apply r.acts x.id.stack) (fit.kept r.acts); layers = ls; changed = false }

-- a good row answers as the crossing does, which changes nothing
abbrev pub RowAnswers : Type 0
RowAnswers = (ls : List LayerSeen) (r : Row) (x : Crossing) → Good ls r → MayAnswer r x → cross_of ls x ≡ answer_by ls r x

abbrev pub wants_none : List Wanted → Bool
wants_none [] = true
wants_none ws = false

-- a packet without a control that passes and wants no pair made wants nothing at all exactly up to the until of its way
abbrev pub QuietUntil : Type 0
QuietUntil = (ls : List LayerSeen) (x : Crossing) → x.control ≡ control.None → x.moment ≤ greatest → (way_of ls x.id).verdict ≡ Pass → (way_of ls x.id).makes ≡ false
    → wants_none (walk_of ls x).changes ≡ nat_le x.moment (way_of ls x.id).until
