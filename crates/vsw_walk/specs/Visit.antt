-- What a layer makes of a packet of this direction, control, moment and stack.
use Rattle.std.specs.Prelude.{ℕ, List, Bool, Option, Some, None, if◌then◌else◌}
use Rattle.vsw_base.specs.declared.fate.Verdict.TheVariants as verdict
use Rattle.vsw_base.specs.declared.header.Header.{Header}
use Rattle.vsw_base.specs.declared.packet.Control.{Control}
use Rattle.vsw_base.specs.declared.packet.Dir.{Dir}
use Rattle.vsw_base.specs.declared.packet.Dir.TheVariants.{Out, In}
use Rattle.vsw_rule.specs.Choice.{Chosen, choose}
use Rattle.vsw_header.specs.Key.{key_from}
use Rattle.vsw_policy.specs.declared.layer.LayerSpec.{LayerSpec}
use Rattle.vsw_policy.specs.Layer.{LayerSeen}
use Rattle.vsw_layerflow.specs.declared.pair.Pair.{Pair}
use Rattle.vsw_layerflow.specs.Pairs.{pair_of}
use Rattle.vsw_rule.specs.declared.rule.Action.{Action}
use Rattle.vsw_rule.specs.declared.rule.Action.TheVariants.{Allow, Drop, Edit}
use Rattle.vsw_rule.specs.declared.rule.Rule.{Rule}
use Rattle.vsw_layerflow.specs.declared.tcp_state.Tracked.{Tracked}
use Rattle.vsw_layerflow.specs.declared.tcp_state.Tracked.TheVariants.{To, Reopen}
use Rattle.vsw_layerflow.specs.Track.{track_of}
use Rattle.vsw_walk.specs.declared.outcome.Visit.{Visit}
use Rattle.vsw_walk.specs.declared.outcome.Visit.TheVariants.{Stops, Goes}
use Rattle.vsw_walk.specs.declared.outcome.Want.{Want}
use Rattle.vsw_walk.specs.declared.outcome.Want.TheVariants.{Make}
use Rattle.vsw_walk.specs.Known.{goes_with}
use Rattle.vsw_walk.specs.Wanted.{wanted_pair}

-- the layer's default for a direction
abbrev pub allows : LayerSpec → Dir → Bool
allows s Out = s.allow_out
allows s In = s.allow_in

-- where no rule is chosen, the default of the packet's direction
abbrev pub by_default : LayerSeen → Dir → Option ℕ → Visit
by_default l d leaves = if allows l.spec d then Goes Allow leaves None else Stops (verdict.Default l.controller l.spec.layer d)

-- a stateful rule wants a pair
abbrev pub wanted : ℕ → Dir → Control → ℕ → List Header → ℕ → Rule → Option Want
wanted number d c moment hs group r = if r.stateful then Some (Make (wanted_pair number d c moment hs group r)) else None

-- a rule's action drops the packet, or it goes on with it
abbrev pub by_action : Action → Visit → Visit → Visit
by_action Allow stops goes = goes
by_action Drop stops goes = stops
by_action (Edit decap set encap) stops goes = goes

-- the rule that was chosen in a group decides
abbrev pub by_rule : LayerSeen → Dir → Control → ℕ → List Header → Option ℕ → ℕ → Rule → Visit
by_rule l d c moment hs leaves group r = by_action r.action
    (Stops (verdict.Rule l.controller l.spec.layer group r.number))
    (Goes r.action leaves (wanted l.next_pair d c moment hs group r))

-- the rule that was chosen decides, or the default, where none was
abbrev pub by_choice : LayerSeen → Dir → Control → ℕ → List Header → Option ℕ → Option Chosen → Visit
by_choice l d c moment hs leaves None = by_default l d leaves
by_choice l d c moment hs leaves (Some chosen) = by_rule l d c moment hs leaves chosen.group chosen.rule

-- what the rules make of the packet; the pair of this number leaves, where the packet goes on
abbrev pub asked : LayerSeen → Dir → Control → ℕ → List Header → Option ℕ → Visit
asked l d c moment hs leaves = by_choice l d c moment hs leaves (choose d l.groups hs)

-- the rules are asked about a packet that re-opens the pair; any other goes on as the pair says
abbrev pub by_state : LayerSeen → Dir → Control → ℕ → List Header → Pair → Tracked → Visit
by_state l d c moment hs p (To t) = goes_with l.spec d moment t p
by_state l d c moment hs p Reopen = asked l d c moment hs (Some p.number)

-- the pair that was found decides, or the rules, where there is none
abbrev pub by_pair : LayerSeen → Dir → Control → ℕ → List Header → Option Pair → Visit
by_pair l d c moment hs None = asked l d c moment hs None
by_pair l d c moment hs (Some p) = by_state l d c moment hs p (track_of p.state p.dir c d)

-- the pair that holds the packet's direction and key decides, where there is one, and else the rules
abbrev pub visit_of : LayerSeen → Dir → Control → ℕ → List Header → Visit
visit_of l d c moment hs = by_pair l d c moment hs (pair_of d (key_from hs) l.pairs)

-- where the packet goes on, this holds of the action with which it does
abbrev pub IfGoes : Visit → (Action → Type 0) → Type 0
IfGoes (Stops verdict) P = Unit {0}
IfGoes (Goes action leaves wants) P = P action
