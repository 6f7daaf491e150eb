-- The tests as they are computed are enough.
use Rattle.std.proofs.Common.{◌≡◌, ℕ, ◌==◌, ◌&&◌, ◌||◌, Bool, true, false, not, List, [], ◌∷◌, ◌++◌, Option, Some, None, refl, sym, ap, subst, ◌∙◌, append-nil, true≢false}
use Rattle.std.specs.List.{find, list_all, list_any}
use Rattle.vsw_layerflow.specs.declared.pair.Pair.{Pair}
use Rattle.vsw_layerflow.specs.Pairs.{of_rule}
use Rattle.vsw_policy.specs.Groups.{is_group, is_rule, removed}
use Rattle.vsw_policy.specs.Staying.{goes, is_gone, same_rule}
use Rattle.vsw_rule.proofs.Same.{rule_knows}
use Rattle.vsw_spares.specs.Between.{AreBetween}
use Rattle.vsw_rule.specs.declared.rule.Group.{Group}
use Rattle.vsw_rule.specs.declared.rule.Rule.{Rule}
use Rattle.vsw_walk.specs.declared.scratch.Looked.{Looked}
use Rattle.vsw_spares.proofs.Handy.{added_tells, between_tells, removed_tells}
use Rattle.vsw_spares.specs.Handy.{none_may}
use Rattle.vsw_spares.specs.Keyed.{may_apply, may_match, mights, same_rules}
use Rattle.vsw_spares.specs.Leaving.{adds, clears, drops, in_group, one_goes}
use Rattle.vsw_spares.specs.Spared.{all_same, by_found, picks_same, same_in}

-- a group by its test
in_same : (q : Looked) (test : Group → Bool) (rules : Group → List Rule) (o : Option Group) → ((g : Group) → test g ≡ true → picks_same q g (rules g) ≡ true) → in_group test o ≡ true → same_in q rules o ≡ true
in_same q test rules None f h = refl
in_same q test rules (Some g) f h = f g h

-- it can't apply, or the rest tells
either : (a b c : Bool) → (not a || b) ≡ true → (b ≡ true → c ≡ true) → (not a || c) ≡ true
either true b c h f = f h
either false b c h f = refl

negated : (b : Bool) → not b ≡ true → b ≡ false
negated true h = absurd (true≢false (sym h))
negated false h = refl

pub adds_same : (q : Looked) (n : ℕ) (r : Rule) (gs : List Group) → in_group (adds q r) (find (is_group n) gs) ≡ true → all_same q n (λ h. h.rules ++ r ∷ []) gs ≡ true
adds_same q n r gs h =
    in_same q (adds q r) (λ h. h.rules ++ r ∷ []) (find (is_group n) gs)
    (λ g i. either (may_apply q.dir q.key g) (not (may_match q.key r)) (same_rules (mights q.key g.rules) (mights q.key (g.rules ++ r ∷ []))) i (λ e. added_tells q.key g.rules r (negated (may_match q.key r) e))) h

pub drops_same : (q : Looked) (n k : ℕ) (gs : List Group) → in_group (drops q k) (find (is_group n) gs) ≡ true → all_same q n (λ h. removed (is_rule k) h.rules) gs ≡ true
drops_same q n k gs h =
    in_same q (drops q k) (λ h. removed (is_rule k) h.rules) (find (is_group n) gs)
    (λ g i. either (may_apply q.dir q.key g) (list_all (one_goes q k) g.rules) (same_rules (mights q.key g.rules) (mights q.key (removed (is_rule k) g.rules))) i (λ e. removed_tells q.key k g.rules e)) h

pub clears_same : (q : Looked) (n : ℕ) (gs : List Group) → in_group (clears q) (find (is_group n) gs) ≡ true → all_same q n (λ h. []) gs ≡ true
clears_same q n gs h =
    in_same q (clears q) (λ h. []) (find (is_group n) gs)
    (λ g i. either (may_apply q.dir q.key g) (none_may q.key g.rules) (same_rules (mights q.key g.rules) (mights q.key [])) i
    (λ e. subst (λ rs. same_rules (mights q.key rs) (mights q.key []) ≡ true) (append-nil g.rules) (between_tells q.key [] g.rules [] [] e refl))) h

-- a pair of another group stays
pub other_stays : (g : ℕ) (old new : List Rule) (p : Pair) → (p.group == g) ≡ false → goes g old new p ≡ false
other_stays g [] new p h = refl
other_stays g (r ∷ rs) new p h = by (is_gone new r) (p.group == g) h (other_stays g rs new p h)
  where
    by : (b c : Bool) → c ≡ false → goes g rs new p ≡ false → ((b && (c && (p.rule == r.number))) || goes g rs new p) ≡ false
    by true true e ih = absurd (true≢false e)
    by true false e ih = ih
    by false c e ih = ih

-- what a look-up tells
none_found : (o : Option Pair) (f : Pair → Bool) (asks : Bool) → o ≡ None → asks ≡ true → by_found o f asks ≡ true
none_found None f asks e h = h
none_found (Some p) f asks e h = absurd (true≢false (ap (λ o. elim o [ None ↦ false | Some z ↦ true ]) e))

pub other_found : (o : Option Pair) (p : Pair) (g : ℕ) (old new : List Rule) (asks : Bool) → o ≡ Some p → not (p.group == g) ≡ true → by_found o (λ p. not (goes g old new p)) asks ≡ true
other_found o p g old new asks e h = ap (λ o. by_found o (λ p. not (goes g old new p)) asks) e ∙ ap not (other_stays g old new p (negated (p.group == g) h))

-- a further rule asks the rules first, and only then whether there is a pair
stays_or : (o : Option Pair) (asks : Bool) → asks ≡ true → by_found o (λ p. true) asks ≡ true
stays_or None asks h = h
stays_or (Some p) asks h = refl

pub add_stays : (q : Looked) (n : ℕ) (r : Rule) (gs ss : List Group) (o : Option Pair) (test : Bool) → ss ≡ gs → test ≡ in_group (adds q r) (find (is_group n) ss) → test ≡ true → by_found o (λ p. true) (all_same q n (λ h. h.rules ++ r ∷ []) gs) ≡ true
add_stays q n r gs ss o test e t h = stays_or o (all_same q n (λ h. h.rules ++ r ∷ []) gs) (adds_same q n r gs (sym (ap (λ gs. in_group (adds q r) (find (is_group n) gs)) e) ∙ (sym t ∙ h)))

pub drop_none : (q : Looked) (n k : ℕ) (gs ss : List Group) (o : Option Pair) (f : Pair → Bool) (test : Bool) → ss ≡ gs → test ≡ in_group (drops q k) (find (is_group n) ss) → o ≡ None → test ≡ true → by_found o f (all_same q n (λ h. removed (is_rule k) h.rules) gs) ≡ true
drop_none q n k gs ss o f test e t i h = none_found o f (all_same q n (λ h. removed (is_rule k) h.rules) gs) i (drops_same q n k gs (sym (ap (λ gs. in_group (drops q k) (find (is_group n) gs)) e) ∙ (sym t ∙ h)))

pub clear_none : (q : Looked) (n : ℕ) (gs ss : List Group) (o : Option Pair) (f : Pair → Bool) (test : Bool) → ss ≡ gs → test ≡ in_group (clears q) (find (is_group n) ss) → o ≡ None → test ≡ true → by_found o f (all_same q n (λ h. []) gs) ≡ true
clear_none q n gs ss o f test e t i h = none_found o f (all_same q n (λ h. []) gs) i (clears_same q n gs (sym (ap (λ gs. in_group (clears q) (find (is_group n) gs)) e) ∙ (sym t ∙ h)))

-- a pair stays whose rule's number none of those has that stand between
both_or : (a b : Bool) → a ≡ false → b ≡ false → (a || b) ≡ false
both_or true b e f = absurd (true≢false e)
both_or false b e f = f

or_left : (a b : Bool) → a ≡ true → (a || b) ≡ true
or_left true b h = refl
or_left false b h = absurd (true≢false (sym h))

or_right : (a b : Bool) → b ≡ true → (a || b) ≡ true
or_right true b h = refl
or_right false b h = h

stays_here : (a t c : Bool) → a ≡ true → c ≡ false → ((not a && t) || c) ≡ false
stays_here true t c e f = f
stays_here false t c e f = absurd (true≢false (sym e))

unnamed_here : (a b t c : Bool) → t ≡ false → c ≡ false → ((a && (b && t)) || c) ≡ false
unnamed_here a b true c e f = absurd (true≢false e)
unnamed_here true true false c e f = f
unnamed_here true false false c e f = f
unnamed_here false b false c e f = f

neither : (a b : Bool) → (a || b) ≡ false → (a ≡ false) × (b ≡ false)
neither true b h = absurd (true≢false h)
neither false b h = (refl, h)

any_append : (t : Rule → Bool) (xs ys : List Rule) → list_any t (xs ++ ys) ≡ (list_any t xs || list_any t ys)
any_append t [] ys = refl
any_append t (x ∷ xs) ys =
    let ih = any_append t xs ys in
    elim (t x) as (λ b. (b || list_any t (xs ++ ys)) ≡ ((b || list_any t xs) || list_any t ys)) [ true ↦ refl | false ↦ ih ]

none_gone : (g : ℕ) (new zs : List Rule) (p : Pair) → ((r : Rule) → list_any (same_rule r) zs ≡ true → list_any (same_rule r) new ≡ true) → goes g zs new p ≡ false
none_gone g new [] p f = refl
none_gone g new (r ∷ rs) p f =
    stays_here (list_any (same_rule r) new) (of_rule g r.number p) (goes g rs new p) (f r (or_left (same_rule r r) (list_any (same_rule r) rs) (rule_knows r)))
    (none_gone g new rs p (λ s h. f s (or_right (same_rule s r) (list_any (same_rule s) rs) h)))

none_named : (g : ℕ) (new zs : List Rule) (p : Pair) → list_any (is_rule p.rule) zs ≡ false → goes g zs new p ≡ false
none_named g new [] p h = refl
none_named g new (r ∷ rs) p h =
    let t = neither (is_rule p.rule r) (list_any (is_rule p.rule) rs) h in
    unnamed_here (is_gone new r) (p.group == g) (p.rule == r.number) (goes g rs new p) t.0 (none_named g new rs p t.1)

between_stays : (g : ℕ) (front x y rest : List Rule) (p : Pair) → list_any (is_rule p.rule) x ≡ false → goes g (front ++ (x ++ rest)) (front ++ (y ++ rest)) p ≡ false
between_stays g front x y rest p h =
    let new : List Rule = front ++ (y ++ rest) in
    let t : Rule → Bool = λ r. is_gone new r && of_rule g r.number p in
    any_append t front (x ++ rest)
    ∙ both_or (list_any t front) (list_any t (x ++ rest)) (none_gone g new front p (λ r i. any_append (same_rule r) front (y ++ rest) ∙ or_left (list_any (same_rule r) front) (list_any (same_rule r) (y ++ rest)) i))
    (any_append t x rest
    ∙ both_or (list_any t x) (list_any t rest) (none_named g new x p h)
    (none_gone g new rest p
    (λ r i. any_append (same_rule r) front (y ++ rest) ∙ or_right (list_any (same_rule r) front) (list_any (same_rule r) (y ++ rest)) (any_append (same_rule r) y rest ∙ or_right (list_any (same_rule r) y) (list_any (same_rule r) rest) i))))

pub unnamed_found : (o : Option Pair) (p : Pair) (g : ℕ) (old new x y : List Rule) (asks test : Bool) → AreBetween old new x y → o ≡ Some p → test ≡ list_any (is_rule p.rule) x → not test ≡ true → by_found o (λ p. not (goes g old new p)) asks ≡ true
unnamed_found o p g old new x y asks test a e t h =
    ap (λ o. by_found o (λ p. not (goes g old new p)) asks) e
    ∙ ap not (ap (λ rs. goes g rs new p) a.old_is ∙ (ap (λ rs. goes g (a.front ++ (x ++ a.rest)) rs p) a.new_is ∙ between_stays g a.front x y a.rest p (sym t ∙ negated test h)))
