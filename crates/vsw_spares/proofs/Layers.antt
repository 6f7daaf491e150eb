-- What a command leaves of what a look is told by the layer that it names.
use Rattle.std.proofs.Common.{◌≡◌, ◌||◌, Bool, true, false, not, List, [], ◌∷◌, ◌++◌, filter, Option, Some, None, option_map, refl, sym, ap, ◌∙◌, true≢false}
use Rattle.std.specs.Prelude.{if◌then◌else◌}
use Rattle.vsw_base.specs.declared.fate.Verdict.TheVariants as verdict
use Rattle.vsw_base.specs.declared.header.Header.{Header}
use Rattle.vsw_base.specs.declared.packet.Control.TheVariants as control
use Rattle.vsw_base.specs.declared.packet.Dir.{Dir}
use Rattle.vsw_base.specs.declared.packet.Dir.TheVariants.{Out, In}
use Rattle.vsw_base.specs.Direction.{same_dir}
use Rattle.vsw_base.specs.Shape.{is_stack}
use Rattle.vsw_header.specs.Key.{key_from}
use Rattle.vsw_layerflow.specs.declared.pair.Pair.{Pair}
use Rattle.vsw_layerflow.specs.declared.pair.Probe.{Probe}
use Rattle.vsw_layerflow.specs.Life.{is_over}
use Rattle.vsw_layerflow.specs.Pairs.{holder, holds, number_of, of_rule, pair_of, probe, same_bool}
use Rattle.vsw_policy.specs.declared.command.Command.{Command}
use Rattle.vsw_policy.specs.declared.command.Command.TheVariants.{AddLayer, RemoveLayer, AddGroup, RemoveGroup, PutRules, PutMany, AddRule, RemoveRule, SetDefault, Sweep}
use Rattle.vsw_policy.specs.declared.layer.LayerSpec.{LayerSpec}
use Rattle.vsw_policy.specs.Groups.{changed, is_group, is_rule, removed, rules_in, with_rules}
use Rattle.vsw_policy.specs.Layer.{LayerSeen, defaulting, with_parts, with_spec}
use Rattle.vsw_policy.specs.Obey.{within}
use Rattle.vsw_policy.specs.Staying.{goes}
use Rattle.vsw_rows.proofs.Courses.{state_stays}
use Rattle.vsw_rule.specs.Choice.{Chosen, choose}
use Rattle.vsw_rule.specs.declared.rule.Action.TheVariants.{Allow}
use Rattle.vsw_rule.specs.declared.rule.Group.{Group}
use Rattle.vsw_walk.specs.declared.outcome.Visit.TheVariants.{Stops, Goes}
use Rattle.vsw_walk.specs.declared.scratch.Looked.{Looked}
use Rattle.vsw_walk.specs.Visit.{allows, by_choice, by_pair, by_state}
use Rattle.vsw_walk.specs.Walk.{due_of}
use Rattle.vsw_spares.proofs.Picks.{choice_changed, choice_pushed, choice_removed}
use Rattle.vsw_spares.specs.Spared.{all_same, by_found, leaves}
use Rattle.vsw_spares.specs.Told.{TellSame, course}

-- the pair that is found stays, where it isn't filtered out
pub holder_filter : (f : Pair → Bool) (k : Probe) (ps : List Pair) (asks : Bool) → by_found (holder k ps) f asks ≡ true → holder k (filter f ps) ≡ holder k ps
holder_filter f k [] asks h = refl
holder_filter f k (p ∷ ps) asks h = by (holds k p) refl (f p) refl h (holder_filter f k ps asks)
  where
    by : (b : Bool) → holds k p ≡ b → (c : Bool) → f p ≡ c → by_found (if b then Some p else holder k ps) f asks ≡ true → (by_found (holder k ps) f asks ≡ true → holder k (filter f ps) ≡ holder k ps)
        → holder k (if c then p ∷ filter f ps else filter f ps) ≡ (if b then Some p else holder k ps)
    by true e true i h ih = rw e refl
    by true e false i h ih = absurd (true≢false (sym h ∙ i))
    by false e true i h ih = rw e (ih h)
    by false e false i h ih = ih h

-- what a look finds none for asks the rules
asks_rules : (o : Option Pair) (f : Pair → Bool) (asks : Bool) → by_found o f asks ≡ true → o ≡ None → asks ≡ true
asks_rules None f asks h e = h
asks_rules (Some p) f asks h e = absurd (true≢false (ap (λ o. elim o [ None ↦ false | Some z ↦ true ]) e))

-- other groups and pairs
choice_course : (l : LayerSeen) (gs : List Group) (ps : List Pair) (d : Dir) (hs : List Header) (o : Option Chosen) → course (by_choice (with_parts gs ps l) d control.None 0 hs None o) ≡ course (by_choice l d control.None 0 hs None o)
choice_course l gs ps d hs None = refl
choice_course l gs ps d hs (Some o) = refl

pair_course : (l : LayerSeen) (gs : List Group) (ps : List Pair) (d : Dir) (hs : List Header) (o : Option Pair) → (o ≡ None → choose d gs hs ≡ choose d l.groups hs)
    → course (by_pair (with_parts gs ps l) d control.None 0 hs o) ≡ course (by_pair l d control.None 0 hs o)
pair_course l gs ps d hs None h = choice_course l gs ps d hs (choose d gs hs) ∙ ap (λ c. course (by_choice l d control.None 0 hs None c)) (h refl)
pair_course l gs ps d hs (Some p) h =
    ap (λ t. course (by_state (with_parts gs ps l) d control.None 0 hs p t)) (state_stays p.state p.dir d) ∙ sym (ap (λ t. course (by_state l d control.None 0 hs p t)) (state_stays p.state p.dir d))

parts_same : (q : Looked) (l : LayerSeen) (gs : List Group) (ps : List Pair) → pair_of q.dir q.key ps ≡ pair_of q.dir q.key l.pairs
    → (pair_of q.dir q.key l.pairs ≡ None → (hs : List Header) → is_stack hs ≡ true → key_from hs ≡ q.key → choose q.dir gs hs ≡ choose q.dir l.groups hs) → TellSame q l (with_parts gs ps l)
parts_same q l gs ps stay picks = record {
  found = ap (option_map number_of) stay;
  due = ap (due_of l.spec) stay;
  goes = λ hs s k.
      ap (λ o. course (by_pair (with_parts gs ps l) q.dir control.None 0 hs o)) (ap (λ m. pair_of q.dir m ps) k ∙ stay ∙ sym (ap (λ m. pair_of q.dir m l.pairs) k))
      ∙ pair_course l gs ps q.dir hs (pair_of q.dir (key_from hs) l.pairs) (λ e. picks (sym (ap (λ m. pair_of q.dir m l.pairs) k) ∙ e) hs s k);
}

-- other defaults
default_due : (d : Dir) (allow : Bool) (s : LayerSpec) (o : Option Pair) → due_of (defaulting d allow s) o ≡ due_of s o
default_due Out allow s o = refl
default_due In allow s o = refl

bools : (a b : Bool) → same_bool a b ≡ true → a ≡ b
bools true true h = refl
bools true false h = absurd (true≢false (sym h))
bools false true h = absurd (true≢false (sym h))
bools false false h = refl

allows_same : (dir d : Dir) (allow : Bool) (s : LayerSpec) → (not (same_dir dir d) || same_bool allow (allows s dir)) ≡ true → allows (defaulting dir allow s) d ≡ allows s d
allows_same Out Out allow s h = bools allow s.allow_out h
allows_same Out In allow s h = refl
allows_same In Out allow s h = refl
allows_same In In allow s h = bools allow s.allow_in h

layer_same : (d : Dir) (allow : Bool) (s : LayerSpec) → (defaulting d allow s).layer ≡ s.layer
layer_same Out allow s = refl
layer_same In allow s = refl

default_choice : (l : LayerSeen) (dir d : Dir) (allow : Bool) (hs : List Header) (o : Option Chosen) → allows (defaulting dir allow l.spec) d ≡ allows l.spec d
    → course (by_choice (with_spec (defaulting dir allow l.spec) l) d control.None 0 hs None o) ≡ course (by_choice l d control.None 0 hs None o)
default_choice l dir d allow hs None h =
    ap (λ b. course (if b then Goes Allow None None else Stops (verdict.Default l.controller (defaulting dir allow l.spec).layer d))) h
    ∙ ap (λ n. course (if allows l.spec d then Goes Allow None None else Stops (verdict.Default l.controller n d))) (layer_same dir allow l.spec)
default_choice l Out d allow hs (Some o) h = refl
default_choice l In d allow hs (Some o) h = refl

state_due : (l : LayerSeen) (dir d : Dir) (allow : Bool) (p : Pair) (hs : List Header) → course (by_pair (with_spec (defaulting dir allow l.spec) l) d control.None 0 hs (Some p)) ≡ course (by_pair l d control.None 0 hs (Some p))
state_due l Out d allow p hs = ap (λ t. course (by_state (with_spec (defaulting Out allow l.spec) l) d control.None 0 hs p t)) (state_stays p.state p.dir d) ∙ sym (ap (λ t. course (by_state l d control.None 0 hs p t)) (state_stays p.state p.dir d))
state_due l In d allow p hs = ap (λ t. course (by_state (with_spec (defaulting In allow l.spec) l) d control.None 0 hs p t)) (state_stays p.state p.dir d) ∙ sym (ap (λ t. course (by_state l d control.None 0 hs p t)) (state_stays p.state p.dir d))

default_same : (q : Looked) (l : LayerSeen) (dir : Dir) (allow : Bool) → by_found (pair_of q.dir q.key l.pairs) (λ p. true) (not (same_dir dir q.dir) || same_bool allow (allows l.spec dir)) ≡ true → TellSame q l (with_spec (defaulting dir allow l.spec) l)
default_same q l dir allow h = record {
  found = refl;
  due = default_due dir allow l.spec (pair_of q.dir q.key l.pairs);
  goes = λ hs s k. by hs (pair_of q.dir (key_from hs) l.pairs) (ap (λ m. by_found (pair_of q.dir m l.pairs) (λ p. true) (not (same_dir dir q.dir) || same_bool allow (allows l.spec dir))) k ∙ h);
}
  where
    by : (hs : List Header) (o : Option Pair) → by_found o (λ p. true) (not (same_dir dir q.dir) || same_bool allow (allows l.spec dir)) ≡ true
        → course (by_pair (with_spec (defaulting dir allow l.spec) l) q.dir control.None 0 hs o) ≡ course (by_pair l q.dir control.None 0 hs o)
    by hs None i = default_choice l dir q.dir allow hs (choose q.dir l.groups hs) (allows_same dir q.dir allow l.spec i)
    by hs (Some p) i = state_due l dir q.dir allow p hs

-- a layer as it is
with_own : (l : LayerSeen) → with_parts l.groups l.pairs l ≡ l
with_own l = refl

pub within_same : (m : Command) (l : LayerSeen) (q : Looked) → leaves m l q ≡ true → TellSame q l (within m l)
within_same (AddLayer s) l q h = absurd (true≢false (sym h))
within_same (RemoveLayer n) l q h = absurd (true≢false (sym h))
within_same (AddGroup n g dir when) l q h = parts_same q l (l.groups ++ record { number = g; dir = dir; when = when; rules = [] } ∷ []) l.pairs refl (λ e hs s k. choice_pushed q.dir (record { number = g; dir = dir; when = when; rules = [] }) l.groups hs)
within_same (RemoveGroup n g) l q h =
    parts_same q l (removed (is_group g) l.groups) (filter (λ p. not (goes g (rules_in l.groups g) [] p)) l.pairs)
    (holder_filter (λ p. not (goes g (rules_in l.groups g) [] p)) (probe q.dir q.key) l.pairs (all_same q g (λ h. []) l.groups) h)
    (λ e hs s k. choice_removed q g l.groups hs s k (asks_rules (pair_of q.dir q.key l.pairs) (λ p. not (goes g (rules_in l.groups g) [] p)) (all_same q g (λ h. []) l.groups) h e))
within_same (PutRules n g rs) l q h =
    parts_same q l (changed (is_group g) (with_rules rs) l.groups) (filter (λ p. not (goes g (rules_in l.groups g) rs p)) l.pairs)
    (holder_filter (λ p. not (goes g (rules_in l.groups g) rs p)) (probe q.dir q.key) l.pairs (all_same q g (λ h. rs) l.groups) h)
    (λ e hs s k. choice_changed q g (λ h. rs) l.groups hs s k (asks_rules (pair_of q.dir q.key l.pairs) (λ p. not (goes g (rules_in l.groups g) rs p)) (all_same q g (λ h. rs) l.groups) h e))
within_same (PutMany ps) l q h = absurd (true≢false (sym h))
within_same (AddRule n g r) l q h =
    parts_same q l (changed (is_group g) (λ x. with_rules (x.rules ++ r ∷ []) x) l.groups) l.pairs refl
    (λ e hs s k. choice_changed q g (λ x. x.rules ++ r ∷ []) l.groups hs s k (asks_rules (pair_of q.dir q.key l.pairs) (λ p. true) (all_same q g (λ x. x.rules ++ r ∷ []) l.groups) h e))
within_same (RemoveRule n g k) l q h =
    parts_same q l (changed (is_group g) (λ x. with_rules (removed (is_rule k) x.rules) x) l.groups) (filter (λ p. not (of_rule g k p)) l.pairs)
    (holder_filter (λ p. not (of_rule g k p)) (probe q.dir q.key) l.pairs (all_same q g (λ x. removed (is_rule k) x.rules) l.groups) h)
    (λ e hs s i. choice_changed q g (λ x. removed (is_rule k) x.rules) l.groups hs s i (asks_rules (pair_of q.dir q.key l.pairs) (λ p. not (of_rule g k p)) (all_same q g (λ x. removed (is_rule k) x.rules) l.groups) h e))
within_same (SetDefault n dir allow) l q h = default_same q l dir allow h
within_same (Sweep n now) l q h =
    parts_same q l l.groups (filter (λ p. not (is_over now l.spec.idle l.spec.linger p)) l.pairs)
    (holder_filter (λ p. not (is_over now l.spec.idle l.spec.linger p)) (probe q.dir q.key) l.pairs true h)
    (λ e hs s k. refl)
