-- What a walk tells where a packet meets a layer, and where it goes on from there.
use Rattle.std.specs.Prelude.{◌≡◌, ℕ, List, [], ◌∷◌, ◌++◌, Option}
use Rattle.vsw_base.specs.declared.flow.Crossing.{Crossing}
use Rattle.vsw_base.specs.declared.header.Header.{Header}
use Rattle.vsw_base.specs.declared.packet.Dir.{Dir}
use Rattle.vsw_rule.specs.Edit.{edited, kept_after}
use Rattle.vsw_header.specs.Key.{key_from}
use Rattle.vsw_policy.specs.Layer.{LayerSeen}
use Rattle.vsw_layerflow.specs.Pairs.{pair_of}
use Rattle.vsw_rule.specs.declared.rule.Action.{Action}
use Rattle.vsw_rule.specs.declared.rule.Rule.{Rule}
use Rattle.vsw_walk.specs.declared.outcome.Want.{Want}
use Rattle.vsw_walk.specs.declared.scratch.Wanted.{Wanted}
use Rattle.vsw_walk.specs.Made.{Leads}
use Rattle.vsw_walk.specs.Visit.{wanted}
use Rattle.vsw_walk.specs.Walk.{Told, due_of, look_of, sooner}

-- a packet looks in the layer at a place, and nothing else is told
pub record Looks (place : ℕ) (l : LayerSeen) (d : Dir) (told met : Told) : Type 0 where
  pub stack : met.stack ≡ told.stack
  pub edits : met.edits ≡ told.edits
  pub changes : met.changes ≡ told.changes
  pub looked : met.looked ≡ told.looked ++ look_of place d told.stack (pair_of d (key_from told.stack) l.pairs) ∷ []
  pub due : met.due ≡ sooner told.due (due_of l.spec (pair_of d (key_from told.stack) l.pairs))

-- what the rule of a group wants of the layer, whose next pair has this number, for a packet with this stack
abbrev pub wants_by : Crossing → ℕ → List Header → ℕ → Rule → Option Want
wants_by x next hs group r = wanted next x.id.dir x.control x.moment hs group r

-- a packet goes on as an action leaves it, and these changes are told. How many encapsulations are kept before, and after
pub record GoesOn (a : Action) (ws : List Wanted) (told gone : Told) (kept left : ℕ) : Type 0 where
  pub stack : gone.stack ≡ edited a told.stack
  pub counted : left ≡ kept_after a told.stack kept
  pub changes : gone.changes ≡ told.changes ++ ws
  pub looked : gone.looked ≡ told.looked
  pub due : gone.due ≡ told.due
  pub leads : (first : List Header) → Leads first told kept → Leads first gone left
