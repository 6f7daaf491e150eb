-- What the commands of a group make of its layer.
use Rattle.std.proofs.Common.{◌≡◌, ◌≤◌, ℕ, ◌==◌, Bool, true, false, not, List, [], ◌∷◌, ◌++◌, length, filter, None, refl, ap, sym, subst, ◌∙◌, arith}
use Rattle.std.specs.Prelude.{nat_le, nat_lt}
use Rattle.std.specs.List.{list_any}
use Rattle.std.proofs.lemmas.Bool.Decides.{nat_tests}
use Rattle.std.proofs.lemmas.List.{append_assoc, append-nil, length-append}
use Rattle.vsw_layerflow.specs.declared.pair.Pair.{Pair}
use Rattle.vsw_rule.specs.declared.rule.Group.{Group}
use Rattle.vsw_rule.specs.declared.rule.Rule.{Rule}
use Rattle.vsw_policy.specs.Groups.{is_group, is_rule, changed, rules_of, rules_in, has_twice, with_rules}
use Rattle.vsw_policy.specs.Layer.{LayerSeen, with_parts}
use Rattle.vsw_policy.specs.Staying.{staying}
use Rattle.vsw_policy.specs.declared.command.Command.TheVariants.{AddGroup, PutRules}
use Rattle.vsw_policy.specs.Layers.{is_layer}
use Rattle.vsw_policy.specs.Obey.{groups_of, groups_in, within, tests, first_refusal}
use Rattle.vsw_policy.specs.Sound.{Each, AreApart, IsGoodGroup, same_group, same_number, is_listed}
use Rattle.vsw_policy.proofs.Keeps.{flip-equal, each-as}
use Rattle.vsw_promise.specs.Groups.{with_groups, Admits, AdmitsAll}
use Rattle.vsw_policy.proofs.LayerFirsts.{changed-as}
use Rattle.vsw_promise.proofs.Firsts.{none-any, found, find-changed, any-changed, twice-changed, changed-same, any-last, find-last, changed-last}

itself : (n : ℕ) → (n == n) ≡ true
itself n = grind (arith, nat_tests)

-- ---- nothing is refused

pub empty-allowed : (cs : List ℕ) (ls : List LayerSeen) (c n : ℕ) (g : Group) → Admits cs ls c n g → first_refusal (tests ls c (AddGroup n g.number g.dir g.when)) ≡ None
empty-allowed cs ls c n g h = let there = h.there in let new = h.new in let room = h.room in rw (there, new, room) refl

pub twice-apart : (rs : List Rule) → AreApart same_number rs → has_twice rs ≡ false
twice-apart [] h = refl
twice-apart (r ∷ rs) h =
    let here = none-any (is_rule r.number) rs h.0 in
    let ih = twice-apart rs h.1 in
    rw (here, ih) refl

at_most : (n k : ℕ) → n ≤ k → nat_lt k n ≡ false
at_most n k h = grind (arith, nat_tests)

pub rules-allowed : (ls : List LayerSeen) (c n : ℕ) (g : Group) → list_any (is_layer c n) ls ≡ true → list_any (is_group g.number) (groups_in ls c n) ≡ true → IsGoodGroup g → first_refusal (tests ls c (PutRules n g.number g.rules)) ≡ None
rules-allowed ls c n g there has good =
    let once = twice-apart g.rules good.2 in
    let few = at_most (length g.rules) 1024 good.0 in
    rw (there, has, once, few) refl

-- ---- a group and its rules

none-gone : (ps : List Pair) → filter (λ p. not false) ps ≡ ps
none-gone [] = refl
none-gone (p ∷ ps) = let ih = none-gone ps in ap (λ qs. p ∷ qs) ih

filled : (n : ℕ) (g : Group) (l : LayerSeen) → list_any (is_group g.number) l.groups ≡ false → within (PutRules n g.number g.rules) (with_groups (with_rules [] g ∷ []) l) ≡ with_groups (g ∷ []) l
filled n g l new =
    let e : Group = with_rules [] g in
    let put = changed-last (is_group g.number) (with_rules g.rules) l.groups e (itself g.number) new in
    let old = ap rules_of (find-last (is_group g.number) l.groups e (itself g.number) new) in
    let pairs = ap (λ rs. staying g.number rs g.rules l.pairs) old ∙ none-gone l.pairs in
    ap (λ gs. with_parts gs (staying g.number (rules_in (l.groups ++ e ∷ []) g.number) g.rules l.pairs) l) put ∙ ap (λ ps. with_parts (l.groups ++ g ∷ []) ps l) pairs

pub group-added : (cs : List ℕ) (ls : List LayerSeen) (c n : ℕ) (g : Group) → Admits cs ls c n g → changed (is_layer c n) (within (PutRules n g.number g.rules)) (changed (is_layer c n) (with_groups (with_rules [] g ∷ [])) ls) ≡ changed (is_layer c n) (with_groups (g ∷ [])) ls
group-added cs ls c n g h =
    twice-changed (is_layer c n) (with_groups (with_rules [] g ∷ [])) (within (PutRules n g.number g.rules)) (λ l. refl) ls
    ∙ changed-as (is_layer c n) (λ l. within (PutRules n g.number g.rules) (with_groups (with_rules [] g ∷ []) l)) (with_groups (g ∷ [])) ls
    (λ l e. filled n g l (subst (λ o. list_any (is_group g.number) (groups_of o) ≡ false) e h.new))

-- the groups of the layer that is named, after some are added
pub groups-after : (ls : List LayerSeen) (c n : ℕ) (gs : List Group) → list_any (is_layer c n) ls ≡ true → groups_in (changed (is_layer c n) (with_groups gs) ls) c n ≡ groups_in ls c n ++ gs
groups-after ls c n gs there =
    let t = found (is_layer c n) ls there in
    ap groups_of (find-changed (is_layer c n) (with_groups gs) (λ l. refl) ls t.0 t.1) ∙ sym (ap (λ o. groups_of o ++ gs) t.1)

pub there-after : (ls : List LayerSeen) (c n : ℕ) (gs : List Group) → list_any (is_layer c n) ls ≡ true → list_any (is_layer c n) (changed (is_layer c n) (with_groups gs) ls) ≡ true
there-after ls c n gs there = any-changed (is_layer c n) (with_groups gs) (λ l. refl) ls ∙ there

pub has-after : (ls : List LayerSeen) (c n : ℕ) (g : Group) → list_any (is_layer c n) ls ≡ true → list_any (is_group g.number) (groups_in (changed (is_layer c n) (with_groups (with_rules [] g ∷ [])) ls) c n) ≡ true
has-after ls c n g there = ap (λ gs. list_any (is_group g.number) gs) (groups-after ls c n (with_rules [] g ∷ []) there) ∙ any-last (is_group g.number) (groups_in ls c n) (with_rules [] g) (itself g.number)

-- ---- several groups

front-apart : {A : Type 0} (same : A → A → Bool) (xs : List A) (y : A) (ys : List A) → AreApart same (xs ++ y ∷ ys) → Each (λ x. same x y ≡ false) xs
front-apart same [] y ys h = tt
front-apart {A} same (x ∷ xs) y ys h = (each-at xs h.0, front-apart same xs y ys h.1)
  where
    each-at : (zs : List A) → Each (λ z. same x z ≡ false) (zs ++ y ∷ ys) → same x y ≡ false
    each-at [] i = i.0
    each-at (z ∷ zs) i = each-at zs i.1

room-for : {A : Type 0} (xs : List A) (y : A) (ys : List A) → length (xs ++ y ∷ ys) ≤ 32 → nat_le 32 (length xs) ≡ false
room-for xs y ys h = let i = rw (length-append xs (y ∷ ys)) at h in grind (arith, nat_tests)

pub admits-first : (cs : List ℕ) (ls : List LayerSeen) (c n : ℕ) (g : Group) (gs : List Group) → AdmitsAll cs ls c n (g ∷ gs) → Admits cs ls c n g
admits-first cs ls c n g gs h = record {
  listed = h.listed;
  there = h.there;
  new = none-any (is_group g.number) (groups_in ls c n) (each-as (λ x. same_group x g ≡ false) (λ x. is_group g.number x ≡ false) (λ x i. flip-equal x.number g.number i) (groups_in ls c n) (front-apart same_group (groups_in ls c n) g gs h.apart));
  room = room-for (groups_in ls c n) g gs h.few;
  good = h.good.0;
}

pub admits-rest : (cs ds : List ℕ) (ls new : List LayerSeen) (c n : ℕ) (g : Group) (gs : List Group) → AdmitsAll cs ls c n (g ∷ gs) → ds ≡ cs → new ≡ changed (is_layer c n) (with_groups (g ∷ [])) ls → AdmitsAll ds new c n gs
admits-rest cs ds ls new c n g gs h same e =
    let now : groups_in new c n ++ gs ≡ groups_in ls c n ++ (g ∷ gs) = ap (λ ms. groups_in ms c n ++ gs) e ∙ ap (λ xs. xs ++ gs) (groups-after ls c n (g ∷ []) h.there) ∙ append_assoc (groups_in ls c n) (g ∷ []) gs in
    record {
      listed = subst (λ xs. is_listed xs c ≡ true) (sym same) h.listed;
      there = ap (λ ms. list_any (is_layer c n) ms) e ∙ there-after ls c n (g ∷ []) h.there;
      few = subst (λ xs. length xs ≤ 32) (sym now) h.few;
      apart = subst (λ xs. AreApart same_group xs) (sym now) h.apart;
      good = h.good.1;
    }

pub groups-none : (ls : List LayerSeen) (c n : ℕ) → changed (is_layer c n) (with_groups []) ls ≡ ls
groups-none ls c n = changed-same (is_layer c n) (with_groups []) (λ l. ap (λ gs. with_parts gs l.pairs l) (append-nil l.groups)) ls

pub groups-more : (ls one two : List LayerSeen) (c n : ℕ) (g : Group) (gs : List Group) → one ≡ changed (is_layer c n) (with_groups (g ∷ [])) ls → two ≡ changed (is_layer c n) (with_groups gs) one → two ≡ changed (is_layer c n) (with_groups (g ∷ gs)) ls
groups-more ls one two c n g gs e i =
    i ∙ ap (λ ms. changed (is_layer c n) (with_groups gs) ms) e
    ∙ twice-changed (is_layer c n) (with_groups (g ∷ [])) (with_groups gs) (λ l. refl) ls
    ∙ changed-as (is_layer c n) (λ l. with_groups gs (with_groups (g ∷ []) l)) (with_groups (g ∷ gs)) ls (λ l found. ap (λ xs. with_parts xs l.pairs l) (append_assoc l.groups (g ∷ []) gs))
