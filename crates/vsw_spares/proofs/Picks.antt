-- Which rules a packet meets where those that may match its key are the same.
use Rattle.std.proofs.Common.{◌≡◌, ℕ, ◌&&◌, ◌||◌, Bool, true, false, not, List, [], ◌∷◌, ◌++◌, Option, Some, None, option_map, refl, sym, ap, subst, ◌∙◌, true≢false}
use Rattle.std.specs.Prelude.{if◌then◌else◌}
use Rattle.std.specs.List.{find, last_or, list_all}
use Rattle.std.specs.Option.{option_or}
use Rattle.vsw_base.proofs.Truths.{both}
use Rattle.vsw_base.specs.declared.header.Header.{Header}
use Rattle.vsw_base.specs.declared.packet.Dir.{Dir}
use Rattle.vsw_base.specs.Direction.{same_dir}
use Rattle.vsw_base.specs.Shape.{is_stack}
use Rattle.vsw_header.specs.Key.{key_from}
use Rattle.vsw_policy.specs.Groups.{changed, is_group, removed, with_rules}
use Rattle.vsw_policy.specs.Staying.{same_rule}
use Rattle.vsw_rule.proofs.Same.{list_tells, rule_tells}
use Rattle.vsw_rule.specs.Choice.{Chosen, applies, better, choose, is_last, of_group, pick, pick_in, picks_of}
use Rattle.vsw_rule.specs.declared.rule.Group.{Group}
use Rattle.vsw_rule.specs.declared.rule.Rule.{Rule}
use Rattle.vsw_rule.specs.Match.{all_hold, matches}
use Rattle.vsw_walk.specs.declared.scratch.Looked.{Looked}
use Rattle.vsw_spares.proofs.Keys.{hold, misses}
use Rattle.vsw_spares.specs.Keyed.{may_apply, may_hold, may_match, mights, same_rules}
use Rattle.vsw_spares.specs.Spared.{all_same, picks_same, same_in}

-- the pick is among those that may match
pick_mights : (rs : List Rule) (hs : List Header) → is_stack hs ≡ true → pick rs hs ≡ pick (mights (key_from hs) rs) hs
pick_mights [] hs s = refl
pick_mights (r ∷ rs) hs s = by (may_match (key_from hs) r) refl (pick_mights rs hs s)
  where
    by : (b : Bool) → may_match (key_from hs) r ≡ b → pick rs hs ≡ pick (mights (key_from hs) rs) hs → pick (r ∷ rs) hs ≡ pick (mights (key_from hs) (r ∷ rs)) hs
    by true e ih = rw e (ap (λ o. if matches r hs then better r o else o) ih)
    by false e ih = rw (e, misses r hs s e) ih

pick_same : (rs ss : List Rule) (hs : List Header) → is_stack hs ≡ true → same_rules (mights (key_from hs) rs) (mights (key_from hs) ss) ≡ true → pick rs hs ≡ pick ss hs
pick_same rs ss hs s h = pick_mights rs hs s ∙ ap (λ ts. pick ts hs) (list_tells same_rule rule_tells (mights (key_from hs) rs) (mights (key_from hs) ss) h) ∙ sym (pick_mights ss hs s)

joins : (a b : Bool) → a ≡ true → b ≡ true → (a && b) ≡ true
joins true b e f = f
joins false b e f = e

-- a group that can't apply doesn't
applies_may : (d : Dir) (hs : List Header) (g : Group) → is_stack hs ≡ true → applies d hs g ≡ true → may_apply d (key_from hs) g ≡ true
applies_may d hs g s h = let t = both (same_dir g.dir d) (all_hold g.when hs) h in joins (same_dir g.dir d) (list_all (may_hold (key_from hs)) g.when) t.0 (hold g.when hs s t.1)

-- other rules of a group give the same pick
pub group_same : (q : Looked) (g : Group) (rs : List Rule) (hs : List Header) → is_stack hs ≡ true → key_from hs ≡ q.key → picks_same q g rs ≡ true → pick_in q.dir hs (with_rules rs g) ≡ pick_in q.dir hs g
group_same q g rs hs s k h = by (applies q.dir hs g) refl (subst (λ m. (not (may_apply q.dir m g) || same_rules (mights m g.rules) (mights m rs)) ≡ true) (sym k) h)
  where
    by : (b : Bool) → applies q.dir hs g ≡ b → (not (may_apply q.dir (key_from hs) g) || same_rules (mights (key_from hs) g.rules) (mights (key_from hs) rs)) ≡ true
        → (if b then option_map (of_group g.number) (pick rs hs) else None) ≡ (if b then option_map (of_group g.number) (pick g.rules hs) else None)
    by false e i = refl
    by true e i =
        let may = applies_may q.dir hs g s e in
        let same : same_rules (mights (key_from hs) g.rules) (mights (key_from hs) rs) ≡ true = sym (ap (λ b. not b || same_rules (mights (key_from hs) g.rules) (mights (key_from hs) rs)) may) ∙ i in
        ap (option_map (of_group g.number)) (sym (pick_same g.rules rs hs s same))

-- a group without rules picks none
none_picked : (d : Dir) (hs : List Header) (g : Group) → pick_in d hs (with_rules [] g) ≡ None
none_picked d hs g = elim (applies d hs g) as (λ b. (if b then option_map (of_group g.number) (pick [] hs) else None) ≡ None) [ true ↦ refl | false ↦ refl ]

-- the picks of all groups
abbrev add : Option Chosen → List Chosen → List Chosen
add None cs = cs
add (Some c) cs = c ∷ cs

picks_cons : (d : Dir) (g : Group) (gs : List Group) (hs : List Header) → picks_of d (g ∷ gs) hs ≡ add (pick_in d hs g) (picks_of d gs hs)
picks_cons d g gs hs = by (pick_in d hs g) refl
  where
    by : (o : Option Chosen) → pick_in d hs g ≡ o → picks_of d (g ∷ gs) hs ≡ add o (picks_of d gs hs)
    by None e = rw e refl
    by (Some c) e = rw e refl

choose_as : (d : Dir) (gs fs : List Group) (hs : List Header) → picks_of d gs hs ≡ picks_of d fs hs → choose d gs hs ≡ choose d fs hs
choose_as d gs fs hs e = ap (λ cs. option_or (find is_last cs) (last_or None cs)) e

test : (a b : Bool) → (not a || b) ≡ true → a ≡ true → b ≡ true
test true b h e = h
test false b h e = absurd (true≢false (sym e))

picks_changed : (q : Looked) (n : ℕ) (rules : Group → List Rule) (gs : List Group) (hs : List Header) → is_stack hs ≡ true → key_from hs ≡ q.key → all_same q n rules gs ≡ true
    → picks_of q.dir (changed (is_group n) (λ g. with_rules (rules g) g) gs) hs ≡ picks_of q.dir gs hs
picks_changed q n rules [] hs s k h = refl
picks_changed q n rules (g ∷ gs) hs s k h = by (is_group n g) h (picks_changed q n rules gs hs s k)
  where
    by : (b : Bool) → same_in q rules (if b then Some g else find (is_group n) gs) ≡ true → (all_same q n rules gs ≡ true → picks_of q.dir (changed (is_group n) (λ g. with_rules (rules g) g) gs) hs ≡ picks_of q.dir gs hs)
        → picks_of q.dir (if b then with_rules (rules g) g ∷ gs else g ∷ changed (is_group n) (λ g. with_rules (rules g) g) gs) hs ≡ picks_of q.dir (g ∷ gs) hs
    by true i ih = picks_cons q.dir (with_rules (rules g) g) gs hs ∙ ap (λ o. add o (picks_of q.dir gs hs)) (group_same q g (rules g) hs s k i) ∙ sym (picks_cons q.dir g gs hs)
    by false i ih = picks_cons q.dir g (changed (is_group n) (λ g. with_rules (rules g) g) gs) hs ∙ ap (add (pick_in q.dir hs g)) (ih i) ∙ sym (picks_cons q.dir g gs hs)

pub choice_changed : (q : Looked) (n : ℕ) (rules : Group → List Rule) (gs : List Group) (hs : List Header) → is_stack hs ≡ true → key_from hs ≡ q.key → all_same q n rules gs ≡ true
    → choose q.dir (changed (is_group n) (λ g. with_rules (rules g) g) gs) hs ≡ choose q.dir gs hs
choice_changed q n rules gs hs s k h = choose_as q.dir (changed (is_group n) (λ g. with_rules (rules g) g) gs) gs hs (picks_changed q n rules gs hs s k h)

picks_removed : (q : Looked) (n : ℕ) (gs : List Group) (hs : List Header) → is_stack hs ≡ true → key_from hs ≡ q.key → all_same q n (λ g. []) gs ≡ true
    → picks_of q.dir (removed (is_group n) gs) hs ≡ picks_of q.dir gs hs
picks_removed q n [] hs s k h = refl
picks_removed q n (g ∷ gs) hs s k h = by (is_group n g) h (picks_removed q n gs hs s k)
  where
    by : (b : Bool) → same_in q (λ g. []) (if b then Some g else find (is_group n) gs) ≡ true → (all_same q n (λ g. []) gs ≡ true → picks_of q.dir (removed (is_group n) gs) hs ≡ picks_of q.dir gs hs)
        → picks_of q.dir (if b then gs else g ∷ removed (is_group n) gs) hs ≡ picks_of q.dir (g ∷ gs) hs
    by true i ih = ap (λ o. add o (picks_of q.dir gs hs)) (sym (sym (group_same q g [] hs s k i) ∙ none_picked q.dir hs g)) ∙ sym (picks_cons q.dir g gs hs)
    by false i ih = picks_cons q.dir g (removed (is_group n) gs) hs ∙ ap (add (pick_in q.dir hs g)) (ih i) ∙ sym (picks_cons q.dir g gs hs)

pub choice_removed : (q : Looked) (n : ℕ) (gs : List Group) (hs : List Header) → is_stack hs ≡ true → key_from hs ≡ q.key → all_same q n (λ g. []) gs ≡ true
    → choose q.dir (removed (is_group n) gs) hs ≡ choose q.dir gs hs
choice_removed q n gs hs s k h = choose_as q.dir (removed (is_group n) gs) gs hs (picks_removed q n gs hs s k h)

picks_pushed : (d : Dir) (g : Group) (gs : List Group) (hs : List Header) → pick_in d hs g ≡ None → picks_of d (gs ++ g ∷ []) hs ≡ picks_of d gs hs
picks_pushed d g [] hs e = picks_cons d g [] hs ∙ ap (λ o. add o []) e
picks_pushed d g (f ∷ gs) hs e = picks_cons d f (gs ++ g ∷ []) hs ∙ ap (add (pick_in d hs f)) (picks_pushed d g gs hs e) ∙ sym (picks_cons d f gs hs)

-- a further group without rules changes no choice
pub choice_pushed : (d : Dir) (g : Group) (gs : List Group) (hs : List Header) → choose d (gs ++ with_rules [] g ∷ []) hs ≡ choose d gs hs
choice_pushed d g gs hs = choose_as d (gs ++ with_rules [] g ∷ []) gs hs (picks_pushed d (with_rules [] g) gs hs (none_picked d hs g))
