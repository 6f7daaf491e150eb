-- Handier tests.
use Rattle.std.proofs.Common.{◌≡◌, ℕ, ◌&&◌, ◌||◌, Bool, true, false, not, List, [], ◌∷◌, ◌++◌, Option, Some, None, refl, sym, ap, ◌∙◌, true≢false, append-nil}
use Rattle.std.specs.Prelude.{if◌then◌else◌}
use Rattle.std.specs.List.{list_all, slice_get}
use Rattle.vsw_base.proofs.Truths.{both}
use Rattle.vsw_base.specs.declared.flow.LayerKey.{LayerKey}
use Rattle.vsw_base.specs.Direction.{same_dir}
use Rattle.vsw_base.specs.declared.packet.Dir.{Dir}
use Rattle.vsw_layerflow.specs.declared.pair.Pair.{Pair}
use Rattle.vsw_layerflow.specs.Pairs.{pair_of, same_bool}
use Rattle.vsw_policy.specs.declared.command.Command.TheVariants.{AddGroup, SetDefault}
use Rattle.vsw_policy.specs.Groups.{is_rule, removed}
use Rattle.vsw_policy.specs.Layer.{LayerSeen}
use Rattle.vsw_policy.specs.Layers.{is_layer}
use Rattle.vsw_policy.specs.Staying.{same_rule}
use Rattle.vsw_rule.proofs.Same.{list_knows, rule_knows}
use Rattle.vsw_rule.specs.declared.rule.Cond.{Cond}
use Rattle.vsw_rule.specs.declared.rule.Rule.{Rule}
use Rattle.vsw_walk.specs.declared.scratch.Looked.{Looked}
use Rattle.vsw_walk.specs.Visit.{allows}
use Rattle.vsw_spares.specs.Handy.{AddedTells, BetweenTells, FoundTells, GroupSparesAll, OtherDefaultSpares, OtherGroupTells, RemovedTells, UnreachedSpares, names_in, none_may}
use Rattle.vsw_spares.specs.Keyed.{may_match, mights, same_rules}
use Rattle.vsw_spares.specs.Spared.{same_in, by_found, leaves, leaves_in, names}

same : (rs ss : List Rule) → rs ≡ ss → same_rules rs ss ≡ true
same rs ss e = sym (ap (same_rules rs) e) ∙ list_knows same_rule rule_knows rs

negated : (b : Bool) → not b ≡ true → b ≡ false
negated true h = absurd (true≢false (sym h))
negated false h = refl

-- rules that can't match leave nothing
over_none : (k : LayerKey) (old rest : List Rule) → none_may k old ≡ true → mights k (old ++ rest) ≡ mights k rest
over_none k [] rest h = refl
over_none k (r ∷ rs) rest h =
    let t = both (not (may_match k r)) (none_may k rs) h in
    rw (negated (may_match k r) t.0) (over_none k rs rest t.1)

behind : (k : LayerKey) (front rs ss : List Rule) → mights k rs ≡ mights k ss → mights k (front ++ rs) ≡ mights k (front ++ ss)
behind k [] rs ss e = e
behind k (r ∷ front) rs ss e =
    let ih = behind k front rs ss e in
    elim (may_match k r) as (λ b. (if b then r ∷ mights k (front ++ rs) else mights k (front ++ rs)) ≡ (if b then r ∷ mights k (front ++ ss) else mights k (front ++ ss))) [ true ↦ ap (λ ts. r ∷ ts) ih | false ↦ ih ]

pub between_tells : BetweenTells
between_tells k front old new rest h i = same (mights k (front ++ (old ++ rest))) (mights k (front ++ (new ++ rest))) (behind k front (old ++ rest) (new ++ rest) (over_none k old rest h ∙ sym (over_none k new rest i)))

pub added_tells : AddedTells
added_tells k rs r h = same (mights k rs) (mights k (rs ++ r ∷ [])) (ap (mights k) (sym (append-nil rs)) ∙ behind k rs [] (r ∷ []) (rw h refl))

test : (a b : Bool) → (not a || b) ≡ true → a ≡ true → b ≡ true
test true b h e = h
test false b h e = absurd (true≢false (sym e))

without : (k : LayerKey) (n : ℕ) (rs : List Rule) → list_all (λ r. not (is_rule n r) || not (may_match k r)) rs ≡ true → mights k rs ≡ mights k (removed (is_rule n) rs)
without k n [] h = refl
without k n (r ∷ rs) h =
    let t = both (not (is_rule n r) || not (may_match k r)) (list_all (λ r. not (is_rule n r) || not (may_match k r)) rs) h in
    by (is_rule n r) refl t.0 (without k n rs t.1)
  where
    by : (b : Bool) → is_rule n r ≡ b → (not (is_rule n r) || not (may_match k r)) ≡ true → mights k rs ≡ mights k (removed (is_rule n) rs) → mights k (r ∷ rs) ≡ mights k (if b then rs else r ∷ removed (is_rule n) rs)
    by true e i ih = rw (negated (may_match k r) (test (is_rule n r) (not (may_match k r)) i e)) refl
    by false e i ih = elim (may_match k r) as (λ b. (if b then r ∷ mights k rs else mights k rs) ≡ (if b then r ∷ mights k (removed (is_rule n) rs) else mights k (removed (is_rule n) rs))) [ true ↦ ap (λ ts. r ∷ ts) ih | false ↦ ih ]

pub removed_tells : RemovedTells
removed_tells k n rs h = same (mights k rs) (mights k (removed (is_rule n) rs)) (without k n rs h)

joins : (a b : Bool) → a ≡ true → b ≡ true → (a && b) ≡ true
joins true b e f = f
joins false b e f = e

pub other_group_tells : OtherGroupTells
other_group_tells q n rules gs g e h = ap (same_in q rules) e ∙ ap (λ b. not b || same_rules (mights q.key g.rules) (mights q.key (rules g))) h

or_true : (a : Bool) → (a || true) ≡ true
or_true true = refl
or_true false = refl

group_left : (ls : List LayerSeen) (c n g : ℕ) (dir : Dir) (when : List Cond) (qs : List Looked) → list_all (λ q. leaves_in c (AddGroup n g dir when) (slice_get ls q.layer) q) qs ≡ true
group_left ls c n g dir when [] = refl
group_left ls c n g dir when (q ∷ qs) = joins (leaves_in c (AddGroup n g dir when) (slice_get ls q.layer) q) (list_all (λ q. leaves_in c (AddGroup n g dir when) (slice_get ls q.layer) q) qs) (by (slice_get ls q.layer)) (group_left ls c n g dir when qs)
  where
    by : (o : Option LayerSeen) → leaves_in c (AddGroup n g dir when) o q ≡ true
    by None = refl
    by (Some l) = or_true (not (is_layer c n l))

pub group_spares_all : GroupSparesAll
group_spares_all ls c n g dir when qs = joins (list_all (λ q. leaves_in c (AddGroup n g dir when) (slice_get ls q.layer) q) qs) true (group_left ls c n g dir when qs) refl

or_left : (a b : Bool) → a ≡ true → (a || b) ≡ true
or_left true b h = refl
or_left false b h = absurd (true≢false (sym h))

or_right : (a b : Bool) → b ≡ true → (a || b) ≡ true
or_right true b h = refl
or_right false b h = h

pub unreached_spares : UnreachedSpares
unreached_spares ls c m qs k h = joins _ (list_all (λ q. leaves_in c m (slice_get ls q.layer) q) qs) k (all qs h)
  where
    one : (q : Looked) (o : Option LayerSeen) → not (names_in c m o) ≡ true → leaves_in c m o q ≡ true
    one q None i = refl
    one q (Some l) i = or_left (not (names c m l)) (leaves m l q) i

    all : (qs : List Looked) → list_all (λ q. not (names_in c m (slice_get ls q.layer))) qs ≡ true → list_all (λ q. leaves_in c m (slice_get ls q.layer) q) qs ≡ true
    all [] i = refl
    all (q ∷ qs) i =
        let t = both (not (names_in c m (slice_get ls q.layer))) (list_all (λ q. not (names_in c m (slice_get ls q.layer))) qs) i in
        joins (leaves_in c m (slice_get ls q.layer) q) (list_all (λ q. leaves_in c m (slice_get ls q.layer) q) qs) (one q (slice_get ls q.layer) t.0) (all qs t.1)

default_left : (ls : List LayerSeen) (c n : ℕ) (dir : Dir) (allow : Bool) (qs : List Looked) → list_all (λ q. not (same_dir dir q.dir)) qs ≡ true → list_all (λ q. leaves_in c (SetDefault n dir allow) (slice_get ls q.layer) q) qs ≡ true
default_left ls c n dir allow [] h = refl
default_left ls c n dir allow (q ∷ qs) h =
    let t = both (not (same_dir dir q.dir)) (list_all (λ q. not (same_dir dir q.dir)) qs) h in
    joins (leaves_in c (SetDefault n dir allow) (slice_get ls q.layer) q) (list_all (λ q. leaves_in c (SetDefault n dir allow) (slice_get ls q.layer) q) qs) (one (slice_get ls q.layer) t.0) (default_left ls c n dir allow qs t.1)
  where
    found : (l : LayerSeen) (o : Option Pair) → not (same_dir dir q.dir) ≡ true → by_found o (λ p. true) (not (same_dir dir q.dir) || same_bool allow (allows l.spec dir)) ≡ true
    found l None i = or_left (not (same_dir dir q.dir)) (same_bool allow (allows l.spec dir)) i
    found l (Some p) i = refl

    one : (o : Option LayerSeen) → not (same_dir dir q.dir) ≡ true → leaves_in c (SetDefault n dir allow) o q ≡ true
    one None i = refl
    one (Some l) i = or_right (not (is_layer c n l)) (leaves (SetDefault n dir allow) l q) (found l (pair_of q.dir q.key l.pairs) i)

pub other_default_spares : OtherDefaultSpares
other_default_spares ls c n dir allow qs h = joins (list_all (λ q. leaves_in c (SetDefault n dir allow) (slice_get ls q.layer) q) qs) true (default_left ls c n dir allow qs h) refl

pub found_tells : FoundTells
found_tells found None stays asks e = rw e refl
found_tells found (Some p) stays asks e = rw e refl
