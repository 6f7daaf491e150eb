-- Rules that were put into one group leave what those for another group leave.
use Rattle.std.proofs.Common.{◌≡◌, ℕ, ◌==◌, ◌&&◌, ◌||◌, Bool, true, false, not, List, [], ◌∷◌, Some, refl, sym, ap, ◌∙◌, true≢false, arith}
use Rattle.std.proofs.lemmas.Bool.Decides.{nat_tests}
use Rattle.std.specs.Prelude.{if◌then◌else◌}
use Rattle.std.specs.List.{find, slice_get}
use Rattle.vsw_base.proofs.Truths.{both}
use Rattle.vsw_layerflow.specs.Pairs.{pair_of, probe}
use Rattle.vsw_policy.specs.declared.command.Command.TheVariants.{PutRules}
use Rattle.vsw_policy.specs.declared.command.Part.{Part}
use Rattle.vsw_policy.specs.Groups.{changed, is_group, rules_in, rules_of, with_rules}
use Rattle.vsw_policy.specs.Layer.{LayerSeen}
use Rattle.vsw_policy.specs.Layers.{is_layer}
use Rattle.vsw_policy.specs.Obey.{put_part, same_part, within}
use Rattle.vsw_policy.specs.Staying.{goes}
use Rattle.vsw_rule.specs.declared.rule.Group.{Group}
use Rattle.vsw_rule.specs.declared.rule.Rule.{Rule}
use Rattle.vsw_walk.specs.declared.scratch.Looked.{Looked}
use Rattle.vsw_spares.proofs.Layers.{holder_filter}
use Rattle.vsw_spares.proofs.Places.{at_changed}
use Rattle.vsw_spares.specs.Spared.{all_same, as_put, by_found, leaves, leaves_in, same_in}

apart : (g h n : ℕ) → (g == h) ≡ false → (g == n) ≡ true → (h == n) ≡ false
apart g h n e f = grind (arith, nat_tests)

-- another group is found as before
find_other : (g h : ℕ) (rs : List Rule) (gs : List Group) → (g == h) ≡ false → find (is_group h) (changed (is_group g) (with_rules rs) gs) ≡ find (is_group h) gs
find_other g h rs [] n = refl
find_other g h rs (x ∷ xs) n = by (g == x.number) refl (find_other g h rs xs n)
  where
    else_same : (ys : List Group) → find (is_group h) ys ≡ find (is_group h) xs → (b : Bool) → (if b then Some x else find (is_group h) ys) ≡ (if b then Some x else find (is_group h) xs)
    else_same ys e true = refl
    else_same ys e false = e

    by : (a : Bool) → (g == x.number) ≡ a → find (is_group h) (changed (is_group g) (with_rules rs) xs) ≡ find (is_group h) xs → find (is_group h) (if a then with_rules rs x ∷ xs else x ∷ changed (is_group g) (with_rules rs) xs) ≡ (if h == x.number then Some x else find (is_group h) xs)
    by true e ih = rw (apart g h x.number n e) refl
    by false e ih = else_same (changed (is_group g) (with_rules rs) xs) ih (h == x.number)

-- so what rules for it leave is asked of the same pair and the same group
other_left : (l : LayerSeen) (q : Looked) (m n g h : ℕ) (rs ss : List Rule) → (g == h) ≡ false → leaves (PutRules m g rs) l q ≡ true → leaves (PutRules n h ss) l q ≡ true → leaves (PutRules n h ss) (within (PutRules m g rs) l) q ≡ true
other_left l q m n g h rs ss apart left others =
    let groups : List Group = changed (is_group g) (with_rules rs) l.groups in
    ap (λ o. by_found o (λ p. not (goes h (rules_of (find (is_group h) groups)) ss p)) (same_in q (λ x. ss) (find (is_group h) groups))) (holder_filter (λ p. not (goes g (rules_in l.groups g) rs p)) (probe q.dir q.key) l.pairs (all_same q g (λ x. rs) l.groups) left)
    ∙ ap (λ f. by_found (pair_of q.dir q.key l.pairs) (λ p. not (goes h (rules_of f) ss p)) (same_in q (λ x. ss) f)) (find_other g h rs l.groups apart) ∙ others

test : (a b : Bool) → (not a || b) ≡ true → a ≡ true → b ≡ true
test true b h e = h
test false b h e = absurd (true≢false (sym e))

-- two parts that name one layer are of two groups
groups_apart : (a b c d e : ℕ) → ((a == b) && (c == d)) ≡ false → (a == e) ≡ true → (b == e) ≡ true → (c == d) ≡ false
groups_apart a b c d e n i j = by (a == b) refl n
  where
    by : (t : Bool) → (a == b) ≡ t → (t && (c == d)) ≡ false → (c == d) ≡ false
    by true f m = m
    by false f m = grind (arith, nat_tests)

pub part_left : (ls : List LayerSeen) (c : ℕ) (p o : Part) (q : Looked) → same_part p o ≡ false → leaves_in c (as_put p) (slice_get ls q.layer) q ≡ true → leaves_in c (as_put o) (slice_get ls q.layer) q ≡ true → leaves_in c (as_put o) (slice_get (put_part c p ls) q.layer) q ≡ true
part_left ls c p o q n h i = at_changed (is_layer c p.layer) (within (as_put p)) (λ l. leaves_in c (as_put o) l q ≡ true) ls q.layer i (λ l e named. by l named (sym (ap (λ x. leaves_in c (as_put p) x q) e) ∙ h) (sym (ap (λ x. leaves_in c (as_put o) x q) e) ∙ i) (is_layer c o.layer l) refl)
  where
    by : (l : LayerSeen) → is_layer c p.layer l ≡ true → leaves_in c (as_put p) (Some l) q ≡ true → leaves_in c (as_put o) (Some l) q ≡ true → (b : Bool) → is_layer c o.layer l ≡ b → (not b || leaves (as_put o) (within (as_put p) l) q) ≡ true
    by l named left others false e = refl
    by l named left others true e =
        let t = both (c == l.controller) (p.layer == l.spec.layer) named in
        let u = both (c == l.controller) (o.layer == l.spec.layer) e in
        other_left l q p.layer o.layer p.group o.group p.rules o.rules (groups_apart p.layer o.layer p.group o.group l.spec.layer n t.1 u.1)
        (test (is_layer c p.layer l) (leaves (as_put p) l q) left named) (test (is_layer c o.layer l) (leaves (as_put o) l q) others e)
