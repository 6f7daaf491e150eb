-- A visit that stops a packet drops it.
use Rattle.std.proofs.Common.{◌≡◌, ◌∙◌, ℕ, List, Bool, true, false, Option, Some, None, refl, sym, ap, subst, true≢false}
use Rattle.std.specs.Prelude.{if◌then◌else◌}
use Rattle.vsw_base.specs.declared.fate.Verdict.{Verdict}
use Rattle.vsw_base.specs.declared.fate.Verdict.TheVariants.{Pass, Rule, Default}
use Rattle.vsw_base.specs.declared.header.Header.{Header}
use Rattle.vsw_base.specs.declared.packet.Control.{Control}
use Rattle.vsw_base.specs.declared.packet.Dir.{Dir}
use Rattle.vsw_rule.specs.Choice.{Chosen, choose}
use Rattle.vsw_header.specs.Key.{key_from}
use Rattle.vsw_policy.specs.Layer.{LayerSeen}
use Rattle.vsw_layerflow.specs.declared.pair.Pair.{Pair}
use Rattle.vsw_layerflow.specs.Pairs.{pair_of}
use Rattle.vsw_rule.specs.declared.rule.Action.{Action}
use Rattle.vsw_rule.specs.declared.rule.Action.TheVariants.{Allow, Drop, Edit}
use Rattle.vsw_layerflow.specs.declared.tcp_state.Tracked.{Tracked}
use Rattle.vsw_layerflow.specs.declared.tcp_state.Tracked.TheVariants.{To, Reopen}
use Rattle.vsw_layerflow.specs.Track.{track_of}
use Rattle.vsw_walk.specs.declared.outcome.Visit.{Visit}
use Rattle.vsw_walk.specs.declared.outcome.Visit.TheVariants.{Stops, Goes}
use Rattle.vsw_walk.specs.declared.outcome.Want.{Want}
use Rattle.vsw_walk.specs.Visit.{allows, by_action, by_choice, by_pair, by_state, wanted}
use Rattle.vsw_walk.specs.VisitLaw.{StopsDrop}

abbrev pub passes : Verdict → Bool
passes Pass = true
passes verdict = false

-- the verdict of a visit that stops a packet is a drop
abbrev pub IsDrop : Visit → Type 0
IsDrop (Stops verdict) = passes verdict ≡ false
IsDrop (Goes action leaves wants) = Unit {0}

action_drops : (a b : Action) (verdict : Verdict) (leaves : Option ℕ) (wants : Option Want) → passes verdict ≡ false → IsDrop (by_action a (Stops verdict) (Goes b leaves wants))
action_drops Allow b verdict leaves wants p = tt
action_drops Drop b verdict leaves wants p = p
action_drops (Edit decap set encap) b verdict leaves wants p = tt

default_drops : (verdict : Verdict) (leaves : Option ℕ) (allow : Bool) → passes verdict ≡ false → IsDrop (if allow then Goes Allow leaves None else Stops verdict)
default_drops verdict leaves true p = tt
default_drops verdict leaves false p = p

choice_drops : (l : LayerSeen) (d : Dir) (c : Control) (moment : ℕ) (hs : List Header) (leaves : Option ℕ) (o : Option Chosen) → IsDrop (by_choice l d c moment hs leaves o)
choice_drops l d c moment hs leaves None = default_drops (Default l.controller l.spec.layer d) leaves (allows l.spec d) refl
choice_drops l d c moment hs leaves (Some o) =
    action_drops o.rule.action o.rule.action (Rule l.controller l.spec.layer o.group o.rule.number) leaves (wanted l.next_pair d c moment hs o.group o.rule) refl

state_drops : (l : LayerSeen) (d : Dir) (c : Control) (moment : ℕ) (hs : List Header) (p : Pair) (t : Tracked) → IsDrop (by_state l d c moment hs p t)
state_drops l d c moment hs p (To t) = tt
state_drops l d c moment hs p Reopen = choice_drops l d c moment hs (Some p.number) (choose d l.groups hs)

pair_drops : (l : LayerSeen) (d : Dir) (c : Control) (moment : ℕ) (hs : List Header) (o : Option Pair) → IsDrop (by_pair l d c moment hs o)
pair_drops l d c moment hs None = choice_drops l d c moment hs None (choose d l.groups hs)
pair_drops l d c moment hs (Some p) = state_drops l d c moment hs p (track_of p.state p.dir c d)

pub stops_drop : StopsDrop
stops_drop l d c moment hs verdict e f =
    let drop : passes verdict ≡ false = subst IsDrop e (pair_drops l d c moment hs (pair_of d (key_from hs) l.pairs)) in
    true≢false (sym (ap passes f) ∙ drop)
