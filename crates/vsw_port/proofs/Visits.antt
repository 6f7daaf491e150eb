-- What a layer wants changed that a packet goes on from.
use Rattle.std.proofs.Common.{◌≡◌, ℕ, Bool, true, false, List, Option, Some, None, refl}
use Rattle.std.specs.Prelude.{if◌then◌else◌, nat_lt}
use Rattle.vsw_base.specs.declared.fate.Verdict.{Verdict}
use Rattle.vsw_base.specs.declared.fate.Verdict.TheVariants.{Default, Rule}
use Rattle.vsw_base.specs.declared.flow.Track.{Track}
use Rattle.vsw_base.specs.declared.header.Header.{Header}
use Rattle.vsw_base.specs.declared.packet.Control.{Control}
use Rattle.vsw_base.specs.declared.packet.Dir.{Dir}
use Rattle.vsw_rule.specs.Choice.{Chosen, choose}
use Rattle.vsw_header.specs.Key.{key_from}
use Rattle.vsw_policy.specs.declared.layer.LayerSpec.{LayerSpec}
use Rattle.vsw_policy.specs.Layer.{LayerSeen}
use Rattle.vsw_layerflow.specs.declared.pair.Pair.{Pair}
use Rattle.vsw_layerflow.specs.Life.{due}
use Rattle.vsw_layerflow.specs.Pairs.{front, pair_of, probe}
use Rattle.vsw_rule.specs.declared.rule.Action.{Action}
use Rattle.vsw_rule.specs.declared.rule.Action.TheVariants.{Allow, Drop, Edit}
use Rattle.vsw_rule.specs.declared.rule.Rule as rule
use Rattle.vsw_layerflow.specs.declared.tcp_state.Tracked.{Tracked}
use Rattle.vsw_layerflow.specs.declared.tcp_state.Tracked.TheVariants.{To, Reopen}
use Rattle.vsw_layerflow.specs.Track.{track_of}
use Rattle.vsw_walk.specs.declared.outcome.Visit.{Visit}
use Rattle.vsw_walk.specs.declared.outcome.Visit.TheVariants.{Stops, Goes}
use Rattle.vsw_walk.specs.declared.outcome.Want.{Want}
use Rattle.vsw_walk.specs.declared.outcome.Want.TheVariants.{Make, Touch}
use Rattle.vsw_walk.specs.Known.{same_state, touch}
use Rattle.vsw_walk.specs.Visit.{allows, by_action, by_choice, by_pair, by_state, wanted, visit_of}

-- the pair that leaves holds the packet's direction and key
abbrev pub Leaves : LayerSeen → Dir → List Header → Option ℕ → Type 0
Leaves l d hs None = pair_of d (key_from hs) l.pairs ≡ None
Leaves l d hs (Some number) = (p : Pair) × (pair_of d (key_from hs) l.pairs ≡ Some p) × (number ≡ p.number)

-- a pair that is made holds them too and has the layer's next number, and no pair held them, or it leaves
abbrev pub Wants : LayerSeen → Dir → List Header → Option ℕ → Option Want → Type 0
Wants l d hs left None = Unit {0}
Wants l d hs left (Some (Touch number state last)) = Unit {0}
Wants l d hs left (Some (Make p)) = (p.number ≡ l.next_pair) × (front p ≡ probe d (key_from hs)) × Leaves l d hs left

-- a pair leaves only where it is there
abbrev pub MayLeave : LayerSeen → Dir → List Header → Option ℕ → Type 0
MayLeave l d hs None = Unit {0}
MayLeave l d hs (Some number) = Leaves l d hs (Some number)

abbrev pub IsVisit : LayerSeen → Dir → List Header → Visit → Type 0
IsVisit l d hs (Stops verdict) = Unit {0}
IsVisit l d hs (Goes action left wants) = MayLeave l d hs left × Wants l d hs left wants

rule_wants : (l : LayerSeen) (d : Dir) (c : Control) (moment : ℕ) (hs : List Header) (left : Option ℕ) (group : ℕ) (r : rule.Rule) → Leaves l d hs left → Wants l d hs left (wanted l.next_pair d c moment hs group r)
rule_wants l d c moment hs left group r h = by r.stateful refl
  where
    by : (b : Bool) → r.stateful ≡ b → Wants l d hs left (wanted l.next_pair d c moment hs group r)
    by true e = rw e (refl, refl, h)
    by false e = rw e tt

action_visits : (l : LayerSeen) (d : Dir) (hs : List Header) (a b : Action) (verdict : Verdict) (left : Option ℕ) (wants : Option Want) → MayLeave l d hs left → Wants l d hs left wants → IsVisit l d hs (by_action a (Stops verdict) (Goes b left wants))
action_visits l d hs Allow b verdict left wants m w = (m, w)
action_visits l d hs Drop b verdict left wants m w = tt
action_visits l d hs (Edit decap set encap) b verdict left wants m w = (m, w)

default_visits : (l : LayerSeen) (d : Dir) (hs : List Header) (left : Option ℕ) (verdict : Verdict) (allow : Bool) → MayLeave l d hs left → IsVisit l d hs (if allow then Goes Allow left None else Stops verdict)
default_visits l d hs left verdict true m = (m, tt)
default_visits l d hs left verdict false m = tt

choice_visits : (l : LayerSeen) (d : Dir) (c : Control) (moment : ℕ) (hs : List Header) (left : Option ℕ) (o : Option Chosen) → MayLeave l d hs left → Leaves l d hs left → IsVisit l d hs (by_choice l d c moment hs left o)
choice_visits l d c moment hs left None m h = default_visits l d hs left (Default l.controller l.spec.layer d) (allows l.spec d) m
choice_visits l d c moment hs left (Some o) m h =
    action_visits l d hs o.rule.action o.rule.action (Rule l.controller l.spec.layer o.group o.rule.number) left (wanted l.next_pair d c moment hs o.group o.rule) m (rule_wants l d c moment hs left o.group o.rule h)

touch_wants : (l : LayerSeen) (d : Dir) (hs : List Header) (s : LayerSpec) (t : Track) (moment : ℕ) (p : Pair) → Wants l d hs None (touch s t moment p)
touch_wants l d hs s t moment p =
    elim (nat_lt (due p.last_use t s.idle s.linger) moment) as (λ b. Wants l d hs None (if b then Some (Touch p.number t moment) else if same_state p.state t then None else Some (Touch p.number t p.last_use))) [
      | true ↦ tt
      | false ↦ elim (same_state p.state t) as (λ b. Wants l d hs None (if b then None else Some (Touch p.number t p.last_use))) [ true ↦ tt | false ↦ tt ]
    ]

state_visits : (l : LayerSeen) (d : Dir) (c : Control) (moment : ℕ) (hs : List Header) (p : Pair) (t : Tracked) → pair_of d (key_from hs) l.pairs ≡ Some p → IsVisit l d hs (by_state l d c moment hs p t)
state_visits l d c moment hs p (To t) e = (tt, touch_wants l d hs l.spec t moment p)
state_visits l d c moment hs p Reopen e = choice_visits l d c moment hs (Some p.number) (choose d l.groups hs) (p, e, refl) (p, e, refl)

pair_visits : (l : LayerSeen) (d : Dir) (c : Control) (moment : ℕ) (hs : List Header) (o : Option Pair) → pair_of d (key_from hs) l.pairs ≡ o → IsVisit l d hs (by_pair l d c moment hs o)
pair_visits l d c moment hs None e = choice_visits l d c moment hs None (choose d l.groups hs) tt e
pair_visits l d c moment hs (Some p) e = state_visits l d c moment hs p (track_of p.state p.dir c d) e

pub visits : (l : LayerSeen) (d : Dir) (c : Control) (moment : ℕ) (hs : List Header) → IsVisit l d hs (visit_of l d c moment hs)
visits l d c moment hs = pair_visits l d c moment hs (pair_of d (key_from hs) l.pairs) refl
