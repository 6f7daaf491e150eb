-- Up to the until a packet without a control changes nothing.
use Rattle.std.proofs.Common.{◌≡◌, ℕ, ◌&&◌, ◌||◌, Bool, true, false, List, [], ◌∷◌, ◌++◌, min, Option, Some, None, refl, sym, ap, subst, ◌∙◌, arith, true≢false}
use Rattle.std.specs.Prelude.{if◌then◌else◌, nat_le, nat_lt, is_none}
use Rattle.vsw_base.specs.declared.fate.Verdict.{Verdict}
use Rattle.vsw_base.specs.declared.fate.Verdict.TheVariants.{Pass, Default, Rule}
use Rattle.vsw_base.specs.declared.flow.Track.{Track}
use Rattle.vsw_base.specs.declared.flow.Track.TheVariants.{Plain, Opening, Open, Half, Closed}
use Rattle.vsw_base.specs.declared.header.Header.{Header}
use Rattle.vsw_base.specs.declared.packet.Control.TheVariants as control
use Rattle.vsw_base.specs.declared.packet.Dir.{Dir}
use Rattle.vsw_base.specs.declared.packet.Dir.TheVariants.{Out, In}
use Rattle.vsw_base.specs.Direction.{same_dir}
use Rattle.vsw_rule.specs.Choice.{Chosen, choose}
use Rattle.vsw_port.specs.Cross.{makes}
use Rattle.vsw_rule.specs.Edit.{edited, kept_after}
use Rattle.vsw_walk.specs.declared.scratch.Wanted.{Wanted}
use Rattle.vsw_walk.specs.Walk.{along, by_visit, due_of, leaving, sooner, wanting}
use Rattle.vsw_header.specs.Key.{key_from}
use Rattle.vsw_policy.specs.declared.layer.LayerSpec.{LayerSpec}
use Rattle.vsw_policy.specs.Layer.{LayerSeen}
use Rattle.vsw_layerflow.specs.declared.pair.Pair.{Pair}
use Rattle.vsw_layerflow.specs.Life.{due}
use Rattle.vsw_layerflow.specs.Pairs.{pair_of}
use Rattle.vsw_rows.specs.LeanLaw.{wants_none}
use Rattle.vsw_rows.proofs.Along.{makes_told}
use Rattle.vsw_rows.proofs.Courses.{state_stays, wants_pair}
use Rattle.vsw_rule.specs.declared.rule.Action.{Action}
use Rattle.vsw_rule.specs.declared.rule.Action.TheVariants.{Allow, Drop, Edit}
use Rattle.vsw_rule.specs.declared.rule.Rule as rule
use Rattle.vsw_walk.specs.declared.outcome.Visit.{Visit}
use Rattle.vsw_walk.specs.declared.outcome.Visit.TheVariants.{Stops, Goes}
use Rattle.vsw_walk.specs.declared.outcome.Want.{Want}
use Rattle.vsw_walk.specs.declared.outcome.Want.TheVariants.{Make, Touch}
use Rattle.vsw_walk.specs.Known.{same_state, touch}
use Rattle.vsw_walk.specs.Visit.{allows, asked, by_action, by_choice, by_pair, by_state, visit_of, wanted}
use Rattle.vsw_walk.proofs.Dropped.{stops_drop}

-- no pair leaves, and where none is made, none is touched exactly where this is so
abbrev pub IsQuiet : Bool → Visit → Type 0
IsQuiet quiet (Stops verdict) = Unit {0}
IsQuiet quiet (Goes action left wants) = (left ≡ None) × (wants_pair wants ≡ false → is_none wants ≡ quiet)

action_quiet : (a b : Action) (verdict : Verdict) (wants : Option Want) → (wants_pair wants ≡ false → is_none wants ≡ true) → IsQuiet true (by_action a (Stops verdict) (Goes b None wants))
action_quiet Allow b verdict wants h = (refl, h)
action_quiet Drop b verdict wants h = tt
action_quiet (Edit decap set encap) b verdict wants h = (refl, h)

rule_quiet : (l : LayerSeen) (d : Dir) (m : ℕ) (hs : List Header) (group : ℕ) (r : rule.Rule) → wants_pair (wanted l.next_pair d control.None m hs group r) ≡ false → is_none (wanted l.next_pair d control.None m hs group r) ≡ true
rule_quiet l d m hs group r = by r.stateful refl
  where
    by : (b : Bool) → r.stateful ≡ b → wants_pair (wanted l.next_pair d control.None m hs group r) ≡ false → is_none (wanted l.next_pair d control.None m hs group r) ≡ true
    by true e = rw e (λ h. absurd (true≢false h))
    by false e = rw e (λ h. refl)

asked_quiet : (l : LayerSeen) (d : Dir) (m : ℕ) (hs : List Header) → IsQuiet true (asked l d control.None m hs None)
asked_quiet l d m hs = by (choose d l.groups hs)
  where
    by : (o : Option Chosen) → IsQuiet true (by_choice l d control.None m hs None o)
    by None = elim (allows l.spec d) as (λ b. IsQuiet true (if b then Goes Allow None None else Stops (Default l.controller l.spec.layer d))) [ true ↦ (refl, λ h. refl) | false ↦ tt ]
    by (Some o) =
        action_quiet o.rule.action o.rule.action (Rule l.controller l.spec.layer o.group o.rule.number) (wanted l.next_pair d control.None m hs o.group o.rule) (rule_quiet l d m hs o.group o.rule)

dir_self : (d : Dir) → same_dir d d ≡ true
dir_self Out = refl
dir_self In = refl

state_self : (t : Track) → same_state t t ≡ true
state_self Plain = refl
state_self Opening = refl
state_self Open = refl
state_self (Half d) = dir_self d
state_self Closed = refl

later_not : (a b : ℕ) → nat_lt a b ≡ true → nat_le b a ≡ false
later_not a b e = grind arith

not_later : (a b : ℕ) → nat_lt a b ≡ false → nat_le b a ≡ true
not_later a b e = grind arith

touch_quiet : (s : LayerSpec) (m : ℕ) (p : Pair) → is_none (touch s p.state m p) ≡ nat_le m (due p.last_use p.state s.idle s.linger)
touch_quiet s m p = by (nat_lt (due p.last_use p.state s.idle s.linger) m) refl
  where
    due_at : ℕ
    due_at = due p.last_use p.state s.idle s.linger

    by : (b : Bool) → nat_lt (due p.last_use p.state s.idle s.linger) m ≡ b
        → is_none (if nat_lt (due p.last_use p.state s.idle s.linger) m then Some (Touch p.number p.state m) else if same_state p.state p.state then None else Some (Touch p.number p.state p.last_use))
        ≡ nat_le m (due p.last_use p.state s.idle s.linger)
    by true e = ap (λ b. is_none (if b then Some (Touch p.number p.state m) else if same_state p.state p.state then None else Some (Touch p.number p.state p.last_use))) e ∙ sym (later_not (due p.last_use p.state s.idle s.linger) m e)
    by false e =
        ap (λ b. is_none (if b then Some (Touch p.number p.state m) else if same_state p.state p.state then None else Some (Touch p.number p.state p.last_use))) e
        ∙ ap (λ b. is_none (if b then None else Some (Touch p.number p.state p.last_use))) (state_self p.state) ∙ sym (not_later (due p.last_use p.state s.idle s.linger) m e)

-- a moment up to which nothing is due
abbrev pub le_due : ℕ → Option ℕ → Bool
le_due m None = true
le_due m (Some n) = nat_le m n

pair_quiet : (l : LayerSeen) (d : Dir) (m : ℕ) (hs : List Header) (o : Option Pair) → IsQuiet (le_due m (due_of l.spec o)) (by_pair l d control.None m hs o)
pair_quiet l d m hs None = asked_quiet l d m hs
pair_quiet l d m hs (Some p) =
    subst (λ t. IsQuiet (nat_le m (due p.last_use p.state l.spec.idle l.spec.linger)) (by_state l d control.None m hs p t)) (sym (state_stays p.state p.dir d))
    (refl, λ e. touch_quiet l.spec m p)

wants_told : (place : ℕ) (left : Option ℕ) (wants : Option Want) (ws : List Wanted) → left ≡ None → wants_none ((leaving place left ++ wanting place wants) ++ ws) ≡ (is_none wants && wants_none ws)
wants_told place left wants ws e = ap (λ k. wants_none ((leaving place k ++ wanting place wants) ++ ws)) e ∙ by wants
  where
    by : (o : Option Want) → wants_none ((leaving place None ++ wanting place o) ++ ws) ≡ (is_none o && wants_none ws)
    by None = refl
    by (Some (Make p)) = refl
    by (Some (Touch n t k)) = refl

or_false : (a b : Bool) → (a || b) ≡ false → (a ≡ false) × (b ≡ false)
or_false true b e = absurd (true≢false e)
or_false false b e = (refl, e)

le_min : (m a b : ℕ) → nat_le m (min a b) ≡ (nat_le m a && nat_le m b)
le_min m a b = grind arith

pub le_sooner : (m : ℕ) (a b : Option ℕ) → le_due m (sooner a b) ≡ (le_due m a && le_due m b)
le_sooner m None None = refl
le_sooner m (Some a) None = and_true (nat_le m a)
  where
    and_true : (x : Bool) → x ≡ (x && true)
    and_true true = refl
    and_true false = refl
le_sooner m None (Some b) = refl
le_sooner m (Some a) (Some b) = le_min m a b

pub quiet_along : (d : Dir) (m : ℕ) (es : List (ℕ × LayerSeen)) (hs : List Header) (kept : ℕ) → (along d control.None m es hs kept).verdict ≡ Pass → makes (along d control.None m es hs kept).changes ≡ false
    → wants_none (along d control.None m es hs kept).changes ≡ le_due m (along d control.None m es hs kept).due
quiet_along d m [] hs kept p n = refl
quiet_along d m (e ∷ es) hs kept p n =
    by (visit_of e.1 d control.None m hs) refl (pair_quiet e.1 d m hs (pair_of d (key_from hs) e.1.pairs)) p n (λ ks j. quiet_along d m es ks j)
  where
    by : (v : Visit) → visit_of e.1 d control.None m hs ≡ v → IsQuiet (le_due m (due_of e.1.spec (pair_of d (key_from hs) e.1.pairs))) v
        → (by_visit e.0 hs kept v (λ ks j. along d control.None m es ks j)).verdict ≡ Pass → makes (by_visit e.0 hs kept v (λ ks j. along d control.None m es ks j)).changes ≡ false
        → ((ks : List Header) (j : ℕ) → (along d control.None m es ks j).verdict ≡ Pass → makes (along d control.None m es ks j).changes ≡ false → wants_none (along d control.None m es ks j).changes ≡ le_due m (along d control.None m es ks j).due)
        → wants_none (by_visit e.0 hs kept v (λ ks j. along d control.None m es ks j)).changes
        ≡ le_due m (sooner (due_of e.1.spec (pair_of d (key_from hs) e.1.pairs)) (by_visit e.0 hs kept v (λ ks j. along d control.None m es ks j)).due)
    by (Stops verdict) f q p n ih = absurd (stops_drop e.1 d control.None m hs verdict f p)
    by (Goes action left wants) f q p n ih =
        let rest = along d control.None m es (edited action hs) (kept_after action hs kept) in
        let parts = or_false (wants_pair wants) (makes rest.changes) (sym (makes_told e.0 left wants rest.changes) ∙ n) in
        wants_told e.0 left wants rest.changes q.0 ∙ ap (λ b. b && wants_none rest.changes) (q.1 parts.0)
        ∙ ap (λ b. le_due m (due_of e.1.spec (pair_of d (key_from hs) e.1.pairs)) && b) (ih (edited action hs) (kept_after action hs kept) p parts.1)
        ∙ sym (le_sooner m (due_of e.1.spec (pair_of d (key_from hs) e.1.pairs)) rest.due)
