-- What a layer makes of a packet without a control: it depends on what the packet's look is told alone, and on no moment.
use Rattle.std.proofs.Common.{◌≡◌, ℕ, Bool, true, false, List, Option, Some, None, option_map, refl, sym, ap, ◌∙◌}
use Rattle.std.specs.Prelude.{if◌then◌else◌, nat_lt, Result, Ok, Err}
use Rattle.vsw_base.specs.declared.fate.Verdict.{Verdict}
use Rattle.vsw_base.specs.declared.fate.Verdict.TheVariants.{Rule}
use Rattle.vsw_base.specs.declared.flow.Track.{Track}
use Rattle.vsw_base.specs.declared.flow.Track.TheVariants.{Plain, Opening, Open, Half, Closed}
use Rattle.vsw_base.specs.declared.header.Header.{Header}
use Rattle.vsw_base.specs.declared.packet.Control.TheVariants as control
use Rattle.vsw_base.specs.declared.packet.Dir.{Dir}
use Rattle.vsw_rule.specs.Choice.{Chosen, choose}
use Rattle.vsw_walk.specs.Walk.{look_of}
use Rattle.vsw_header.specs.Key.{key_from}
use Rattle.vsw_policy.specs.declared.layer.LayerSpec.{LayerSpec}
use Rattle.vsw_policy.specs.Layer.{LayerSeen}
use Rattle.vsw_layerflow.specs.declared.pair.Pair.{Pair}
use Rattle.vsw_layerflow.specs.Life.{due}
use Rattle.vsw_layerflow.specs.Pairs.{pair_of}
use Rattle.vsw_rows.proofs.PairFound.{Gist, View, bare, gist, view}
use Rattle.vsw_rule.specs.declared.rule.Action.{Action}
use Rattle.vsw_rule.specs.declared.rule.Action.TheVariants.{Allow, Drop, Edit}
use Rattle.vsw_rule.specs.declared.rule.Rule as rule
use Rattle.vsw_layerflow.specs.Track.{StaysUncontrolled}
use Rattle.vsw_walk.specs.declared.outcome.Visit.{Visit}
use Rattle.vsw_walk.specs.declared.outcome.Visit.TheVariants.{Stops, Goes}
use Rattle.vsw_walk.specs.declared.outcome.Want.{Want}
use Rattle.vsw_walk.specs.declared.outcome.Want.TheVariants.{Make, Touch}
use Rattle.vsw_walk.specs.Known.{same_state, set_towards, touch}
use Rattle.vsw_walk.specs.Visit.{asked, by_action, by_choice, by_pair, by_state, visit_of, wanted}

-- the action with which a packet goes on and whether a pair is wanted, or the verdict that stops it
abbrev pub Course : Type 0
Course = Result (Action × Bool) Verdict

abbrev pub wants_pair : Option Want → Bool
wants_pair None = false
wants_pair (Some (Make p)) = true
wants_pair (Some (Touch n t m)) = false

abbrev pub course : Visit → Course
course (Stops verdict) = Err verdict
course (Goes action leaves wants) = Ok (action, wants_pair wants)

-- a packet without a control moves no state
pub state_stays : StaysUncontrolled
state_stays Plain p d = refl
state_stays Opening p d = refl
state_stays Open p d = refl
state_stays (Half e) p d = refl
state_stays Closed p d = refl

-- the rules ask for no pairs and no moment
action_course : (a b : Action) (verdict : Verdict) (leaves : Option ℕ) (v w : Option Want) → wants_pair v ≡ wants_pair w → course (by_action a (Stops verdict) (Goes b leaves v)) ≡ course (by_action a (Stops verdict) (Goes b leaves w))
action_course Allow b verdict leaves v w e = ap (λ c. Ok (b, c)) e
action_course Drop b verdict leaves v w e = refl
action_course (Edit decap set encap) b verdict leaves v w e = ap (λ c. Ok (b, c)) e

wanted_alike : (l : LayerSeen) (d : Dir) (m : ℕ) (hs : List Header) (group : ℕ) (r : rule.Rule) → wants_pair (wanted l.next_pair d control.None m hs group r) ≡ wants_pair (wanted 0 d control.None 0 hs group r)
wanted_alike l d m hs group r = by r.stateful refl
  where
    by : (b : Bool) → r.stateful ≡ b → wants_pair (wanted l.next_pair d control.None m hs group r) ≡ wants_pair (wanted 0 d control.None 0 hs group r)
    by true e = rw e refl
    by false e = rw e refl

asked_course : (l : LayerSeen) (d : Dir) (m : ℕ) (hs : List Header) → course (asked l d control.None m hs None) ≡ course (asked (bare l) d control.None 0 hs None)
asked_course l d m hs = by (choose d l.groups hs)
  where
    by : (o : Option Chosen) → course (by_choice l d control.None m hs None o) ≡ course (by_choice (bare l) d control.None 0 hs None o)
    by None = refl
    by (Some o) =
        action_course o.rule.action o.rule.action (Rule l.controller l.spec.layer o.group o.rule.number) None (wanted l.next_pair d control.None m hs o.group o.rule) (wanted 0 d control.None 0 hs o.group o.rule)
        (wanted_alike l d m hs o.group o.rule)

-- a pair that stays in its state is touched at most
touch_makes : (s : LayerSpec) (t : Track) (m : ℕ) (p : Pair) → wants_pair (touch s t m p) ≡ false
touch_makes s t m p = by (nat_lt (due p.last_use t s.idle s.linger) m) (same_state p.state t)
  where
    by : (a b : Bool) → wants_pair (if a then Some (Touch p.number t m) else if b then None else Some (Touch p.number t p.last_use)) ≡ false
    by true b = refl
    by false true = refl
    by false false = refl

course_as : Dir → List Header → LayerSeen → Option Gist → Course
course_as d hs l None = course (asked l d control.None 0 hs None)
course_as d hs l (Some g) = Ok (Edit false g.1 None, false)

pair_course : (l : LayerSeen) (d : Dir) (m : ℕ) (hs : List Header) (o : Option Pair) → course (by_pair l d control.None m hs o) ≡ course_as d hs (bare l) (option_map (gist l.spec d) o)
unfolding course_as
pair_course l d m hs None = asked_course l d m hs
pair_course l d m hs (Some p) =
    ap (λ t. course (by_state l d control.None m hs p t)) (state_stays p.state p.dir d) ∙ ap (λ b. Ok (Edit false (set_towards d p) None, b)) (touch_makes l.spec p.state m p)

view_course : Dir → List Header → View → Course
view_course d hs v = course_as d hs v.0 v.1

visit_course : (place : ℕ) (l : LayerSeen) (d : Dir) (m : ℕ) (hs : List Header) → course (visit_of l d control.None m hs) ≡ view_course d hs (view (look_of place d hs (pair_of d (key_from hs) l.pairs)) l)
unfolding view_course
visit_course place l d m hs = pair_course l d m hs (pair_of d (key_from hs) l.pairs)

-- layers that tell a look the same have one course
pub same_course : (place : ℕ) (l k : LayerSeen) (d : Dir) (m n : ℕ) (hs : List Header) → view (look_of place d hs (pair_of d (key_from hs) l.pairs)) k ≡ view (look_of place d hs (pair_of d (key_from hs) l.pairs)) l → course (visit_of k d control.None n hs) ≡ course (visit_of l d control.None m hs)
same_course place l k d m n hs e = visit_course place k d n hs ∙ ap (view_course d hs) e ∙ sym (visit_course place l d m hs)
