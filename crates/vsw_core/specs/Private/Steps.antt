-- The steps of a packet's call: the rows fall that its entry shakes, the entry follows the history, if it is one, and then it leaves a row.
use Rattle.std.specs.Prelude.{◌≡◌, ℕ, List, [], ◌∷◌, ◌||◌, Bool, true, false, not}
use mathlib.Core.List.{IsPrefix}
use Rattle.vsw_base.specs.declared.fate.Verdict.{Verdict}
use Rattle.vsw_base.specs.declared.fate.Verdict.TheVariants.{Pass}
use Rattle.vsw_base.specs.declared.flow.Crossing.{Crossing}
use Rattle.vsw_base.specs.declared.packet.Control.TheVariants as control
use Rattle.vsw_core.specs.Calls.{FallsBy, called, grown}
use Rattle.vsw_core.specs.Publishing.{IsSettled, NoneStands, StandsUntil, WritesOne}
use Rattle.vsw_port.specs.Crossed.{is_short}
use Rattle.vsw_port.specs.declared.crossing.Outcome.{Outcome}
use Rattle.vsw_port.specs.declared.event.Event.{Event}
use Rattle.vsw_policy.specs.Layer.{LayerSeen}
use Rattle.vsw_policy.specs.Layers.{PolicySeen}
use Rattle.vsw_rows.specs.LeanLaw.{wants_none}
use Rattle.vsw_table.specs.declared.view.View.{View}
use Rattle.vsw_table.specs.Held.{after_entry, passed}
use Rattle.vsw_walk.specs.declared.scratch.Wanted.{Wanted}
use Rattle.vsw_flows.specs.Flows.{Any, Falls, NoneShaken, OthersStay, Writing}

-- the writer and the pass after the entries of a call
abbrev pub advanced : View PolicySeen Event → View PolicySeen Event → List Event → View PolicySeen Event
advanced t p [] = t
advanced t p (e ∷ es) = after_entry t p e

abbrev pub passing : View PolicySeen Event → View PolicySeen Event → List Event → View PolicySeen Event
passing p t [] = p
passing p t (e ∷ es) = passed p t e

-- of the current rows those fell that these changes shake, and no others
pub record Shakes (ls : List LayerSeen) (ws : List Wanted) (v w : Writing) : Type 0 where
  pub falls : Falls Any v w
  pub none : NoneShaken ls ws w
  pub others : OthersStay ls ws v w

-- a call of a pass at these layers was to make this entry, made these, and wrote no row yet
pub record Steps (ls : List LayerSeen) (e : Event) (es : List Event) (v w s t : Writing) : Type 0 where
  pub writer : w ≡ record v { view = grown v.view s.view es w.view }
  pub pass : t ≡ record s { view = called s.view w.view.history es }
  pub falls : FallsBy ls e v w
  pub seen : IsPrefix s.view.front v.view.history

-- a packet changes the layers, or would have, had there been memory
abbrev pub is_tried : Outcome → Bool
is_tried o = o.entry || is_short o.fate

-- a packet that passes its walk wants something changed. One that is dropped changes nothing, whatever it wanted
abbrev pub wants_change : Verdict → List Wanted → Bool
wants_change Pass ws = not (wants_none ws)
wants_change verdict ws = false

-- what a packet at these layers leaves for those of its identity that follow: one row at most is put. Whether one that may answer it is current then
pub record Publishes (rows : ℕ) (ls : List LayerSeen) (x : Crossing) (v w : Writing) (left : Bool) : Type 0 where
  pub writes : WritesOne rows ls x v w
  pub stands : left ≡ true → StandsUntil rows ls w x.id x.moment
  pub wanting : x.control ≡ control.None → IsSettled ls x → left ≡ false → NoneStands rows w x.id
