-- Commands leave the layers in order and within the limits.
use Rattle.std.proofs.Common.{◌≡◌, suc, ◌<◌, ◌≤◌, ℕ, ◌==◌, ◌&&◌, ◌||◌, Bool, true, false, not, List, [], ◌∷◌, ◌++◌, length, filter, Some, None, refl, ap, ◌∙◌, arith}
use Rattle.std.specs.Prelude.{nat_le, nat_lt, if◌then◌else◌}
use Rattle.std.specs.List.{find, flat_map, list_any}
use Rattle.std.proofs.lemmas.Bool.Decides.{nat_tests}
use Rattle.std.proofs.lemmas.List.{length-append}
use Rattle.vsw_base.specs.declared.packet.Dir.{Dir}
use Rattle.vsw_base.specs.declared.packet.Dir.TheVariants.{Out, In}
use Rattle.vsw_rule.specs.declared.rule.Cond.{Cond}
use Rattle.vsw_rule.specs.declared.rule.Group.{Group}
use Rattle.vsw_rule.specs.declared.rule.Rule.{Rule}
use Rattle.vsw_layerflow.specs.Pairs.{of_rule}
use Rattle.vsw_layerflow.specs.Life.{is_over}
use Rattle.vsw_layerflow.proofs.Order.{below_filter}
use Rattle.vsw_policy.specs.declared.layer.LayerSpec.{LayerSpec}
use Rattle.vsw_policy.specs.Groups.{is_group, is_rule, changed, removed, rules_in, has_twice, with_rules, with_rule, without_rule}
use Rattle.vsw_policy.specs.Layer.{LayerSeen, with_spec, defaulting}
use Rattle.vsw_policy.specs.Staying.{goes}
use Rattle.vsw_policy.specs.declared.command.Command.{Command}
use Rattle.vsw_policy.specs.declared.command.Part.{Part}
use Rattle.vsw_policy.specs.declared.command.Command.TheVariants.{AddLayer, RemoveLayer, AddGroup, RemoveGroup, PutRules, PutMany, AddRule, RemoveRule, SetDefault, Sweep}
use Rattle.vsw_policy.specs.declared.refusal.Refusal.{Refusal}
use Rattle.vsw_policy.specs.Layers.{is_of, is_layer, is_before}
use Rattle.vsw_policy.specs.Obey.{placed, empty_layer, within, groups_in, repeats_rule, exceeds_rules, tests, put_part, put_parts, after, first_refusal, rules_given}
use Rattle.vsw_policy.specs.Sound.{Each, IsGoodRule, IsGoodGroup, IsGoodLayer, AreApart, AreInOrder, AreGood, IsSound, same_layer, same_group, same_number, is_listed}
use Rattle.vsw_policy.proofs.Orders.{flip-before, over-before}

pub each-as : {A : Type 0} (P Q : A → Type 0) → ((x : A) → P x → Q x) → (xs : List A) → Each P xs → Each Q xs
each-as P Q f [] h = tt
each-as P Q f (x ∷ xs) h = (f x h.0, each-as P Q f xs h.1)

each-push : {A : Type 0} (P : A → Type 0) (xs : List A) (y : A) → Each P xs → P y → Each P (xs ++ y ∷ [])
each-push P [] y h i = (i, tt)
each-push P (x ∷ xs) y h i = (h.0, each-push P xs y h.1 i)

-- what holds of each of two lists that stand one behind the other holds of each of either
each-front : {A : Type 0} (P : A → Type 0) (xs ys : List A) → Each P (xs ++ ys) → Each P xs
each-front P [] ys h = tt
each-front P (x ∷ xs) ys h = (h.0, each-front P xs ys h.1)

each-behind : {A : Type 0} (P : A → Type 0) (xs ys : List A) → Each P (xs ++ ys) → Each P ys
each-behind P [] ys h = h
each-behind P (x ∷ xs) ys h = each-behind P xs ys h.1

-- what is changed is good where the change is good of the first that passes
each-changed : {A : Type 0} (P : A → Type 0) (p : A → Bool) (f : A → A) (xs : List A) → ((x : A) → find p xs ≡ Some x → P x → P (f x)) → Each P xs → Each P (changed p f xs)
each-changed P p f [] g h = tt
each-changed {A} P p f (x ∷ xs) g h = by (p x) refl (each-changed P p f xs)
  where
    by : (b : Bool) → p x ≡ b → (((y : A) → find p xs ≡ Some y → P y → P (f y)) → Each P xs → Each P (changed p f xs)) → Each P (changed p f (x ∷ xs))
    by true e ih = rw e (g x (rw e refl) h.0, h.1)
    by false e ih = rw e (h.0, ih (λ y i. g y (rw e i)) h.1)

length-changed : {A : Type 0} (p : A → Bool) (f : A → A) (xs : List A) → length (changed p f xs) ≡ length xs
length-changed p f [] = refl
length-changed p f (x ∷ xs) =
    let ih = length-changed p f xs in
    elim (p x) as (λ b. length (if b then f x ∷ xs else x ∷ changed p f xs) ≡ suc (length xs)) [ true ↦ refl | false ↦ ap (λ n. suc n) ih ]

each-removed : {A : Type 0} (P : A → Type 0) (p : A → Bool) (xs : List A) → Each P xs → Each P (removed p xs)
each-removed P p [] h = tt
each-removed P p (x ∷ xs) h =
    let ih = each-removed P p xs h.1 in
    elim (p x) as (λ b. Each P (if b then xs else x ∷ removed p xs)) [ true ↦ h.1 | false ↦ (h.0, ih) ]

length-removed : {A : Type 0} (p : A → Bool) (xs : List A) → length (removed p xs) ≤ length xs
length-removed p [] = omega arith
length-removed p (x ∷ xs) =
    let ih = length-removed p xs in
    elim (p x) as (λ b. length (if b then xs else x ∷ removed p xs) ≤ suc (length xs)) [ true ↦ omega arith | false ↦ omega (arith, ih) ]

pub each-placed : (P : LayerSeen → Type 0) (cs : List ℕ) (l : LayerSeen) (ls : List LayerSeen) → Each P ls → P l → Each P (placed cs l ls)
each-placed P cs l [] h i = (i, tt)
each-placed P cs l (m ∷ ms) h i =
    let ih = each-placed P cs l ms h.1 i in
    elim (is_before cs l m) as (λ b. Each P (if b then l ∷ m ∷ ms else m ∷ placed cs l ms)) [ true ↦ (i, h) | false ↦ (h.0, ih) ]

-- names stay apart
apart-push : {A : Type 0} (same : A → A → Bool) (xs : List A) (y : A) → AreApart same xs → Each (λ x. same x y ≡ false) xs → AreApart same (xs ++ y ∷ [])
apart-push same [] y h i = (tt, tt)
apart-push same (x ∷ xs) y h i = (each-push (λ z. same x z ≡ false) xs y h.0 i.0, apart-push same xs y h.1 i.1)

apart-removed : {A : Type 0} (same : A → A → Bool) (p : A → Bool) (xs : List A) → AreApart same xs → AreApart same (removed p xs)
apart-removed same p [] h = tt
apart-removed same p (x ∷ xs) h =
    let ih = apart-removed same p xs h.1 in
    elim (p x) as (λ b. AreApart same (if b then xs else x ∷ removed p xs)) [ true ↦ h.1 | false ↦ (each-removed (λ y. same x y ≡ false) p xs h.0, ih) ]

apart-changed : {A : Type 0} (same : A → A → Bool) (p : A → Bool) (f : A → A) → ((x y : A) → same (f x) y ≡ same x y) → ((x y : A) → same x (f y) ≡ same x y) → (xs : List A) → AreApart same xs → AreApart same (changed p f xs)
apart-changed same p f k l [] h = tt
apart-changed same p f k l (x ∷ xs) h = by (p x) refl (apart-changed same p f k l xs h.1)
  where
    by : (b : Bool) → p x ≡ b → AreApart same (changed p f xs) → AreApart same (changed p f (x ∷ xs))
    by true e ih = rw e (each-as (λ y. same x y ≡ false) (λ y. same (f x) y ≡ false) (λ y i. k x y ∙ i) xs h.0, h.1)
    by false e ih = rw e (each-changed (λ y. same x y ≡ false) p f xs (λ y i j. l x y ∙ j) h.0, ih)

apart-placed : (same : LayerSeen → LayerSeen → Bool) (cs : List ℕ) (l : LayerSeen) (ls : List LayerSeen) → AreApart same ls → Each (λ m. same m l ≡ false) ls → Each (λ m. same l m ≡ false) ls → AreApart same (placed cs l ls)
apart-placed same cs l [] h i j = (tt, tt)
apart-placed same cs l (m ∷ ms) h i j =
    let ih = apart-placed same cs l ms h.1 i.1 j.1 in
    let e = each-placed (λ x. same m x ≡ false) cs l ms h.0 i.0 in
    elim (is_before cs l m) as (λ b. AreApart same (if b then l ∷ m ∷ ms else m ∷ placed cs l ms)) [ true ↦ (j, h) | false ↦ (e, ih) ]

or-false : (a b : Bool) → a || b ≡ false → (a ≡ false) × (b ≡ false)
or-false true b h = absurd (cc)
or-false false b h = (refl, h)

each-none : {A : Type 0} (p : A → Bool) (xs : List A) → list_any p xs ≡ false → Each (λ x. p x ≡ false) xs
each-none p [] h = tt
each-none p (x ∷ xs) h = let t = or-false (p x) (list_any p xs) h in (t.0, each-none p xs t.1)

apart-numbers : (rs : List Rule) → has_twice rs ≡ false → AreApart same_number rs
apart-numbers [] h = tt
apart-numbers (r ∷ rs) h = let t = or-false (list_any (is_rule r.number) rs) (has_twice rs) h in (each-none (is_rule r.number) rs t.0, apart-numbers rs t.1)

pub flip-equal : (a b : ℕ) → (a == b) ≡ false → (b == a) ≡ false
flip-equal a b h = grind (arith, nat_tests)

flip-layer : (a b c d : ℕ) → (a == b && c == d) ≡ false → (b == a && d == c) ≡ false
flip-layer a b c d h = grind (arith, nat_tests)

-- a change that leaves a layer its name and its order
abbrev pub KeepsName : (LayerSeen → LayerSeen) → Type 0
KeepsName f = (l : LayerSeen) → ((f l).controller ≡ l.controller) × ((f l).spec.order ≡ l.spec.order) × ((f l).spec.layer ≡ l.spec.layer)

pub before-left : (cs : List ℕ) (f : LayerSeen → LayerSeen) → KeepsName f → (l m : LayerSeen) → is_before cs m l ≡ false → is_before cs (f m) l ≡ false
before-left cs f k l m h = let n = k m in rw (n.0, n.1, n.2) h

pub before-right : (cs : List ℕ) (f : LayerSeen → LayerSeen) → KeepsName f → (l m : LayerSeen) → is_before cs m l ≡ false → is_before cs m (f l) ≡ false
before-right cs f k l m h = let n = k l in rw (n.0, n.1, n.2) h

order-changed : (cs : List ℕ) (p : LayerSeen → Bool) (f : LayerSeen → LayerSeen) → KeepsName f → (ls : List LayerSeen) → AreInOrder cs ls → AreInOrder cs (changed p f ls)
order-changed cs p f k [] h = tt
order-changed cs p f k (l ∷ ls) h = by (p l) refl (order-changed cs p f k ls h.1)
  where
    by : (b : Bool) → p l ≡ b → AreInOrder cs (changed p f ls) → AreInOrder cs (changed p f (l ∷ ls))
    by true e ih = rw e (each-as (λ m. is_before cs m l ≡ false) (λ m. is_before cs m (f l) ≡ false) (λ m i. before-right cs f k l m i) ls h.0, h.1)
    by false e ih = rw e (each-changed (λ m. is_before cs m l ≡ false) p f ls (λ m i j. before-left cs f k l m j) h.0, ih)

count-changed : (c : ℕ) (p : LayerSeen → Bool) (f : LayerSeen → LayerSeen) → KeepsName f → (ls : List LayerSeen) → length (filter (is_of c) (changed p f ls)) ≡ length (filter (is_of c) ls)
count-changed c p f k [] = refl
count-changed c p f k (l ∷ ls) = by (p l) refl (c == l.controller) refl (count-changed c p f k ls)
  where
    by : (b : Bool) → p l ≡ b → (d : Bool) → (c == l.controller) ≡ d → length (filter (is_of c) (changed p f ls)) ≡ length (filter (is_of c) ls) → length (filter (is_of c) (changed p f (l ∷ ls))) ≡ length (filter (is_of c) (l ∷ ls))
    by true e true i ih = let n = k l in rw (e, n.0, i) refl
    by true e false i ih = let n = k l in rw (e, n.0, i) refl
    by false e true i ih = rw (e, i) (ap (λ n. suc n) ih)
    by false e false i ih = rw (e, i) ih

good-changed : (cs : List ℕ) (ls : List LayerSeen) (p : LayerSeen → Bool) (f : LayerSeen → LayerSeen) → KeepsName f → ((l : LayerSeen) → find p ls ≡ Some l → IsGoodLayer cs l → IsGoodLayer cs (f l)) → AreGood cs ls → AreGood cs (changed p f ls)
good-changed cs ls p f k g h = record {
  in_order = order-changed cs p f k ls h.in_order;
  apart = apart-changed same_layer p f (λ l m. let n = k l in rw (n.0, n.2) refl) (λ l m. let n = k m in rw (n.0, n.2) refl) ls h.apart;
  good = each-changed (IsGoodLayer cs) p f ls g h.good;
  few = λ c. rw (count-changed c p f k ls) (h.few c);
}

order-removed : (cs : List ℕ) (p : LayerSeen → Bool) (ls : List LayerSeen) → AreInOrder cs ls → AreInOrder cs (removed p ls)
order-removed cs p [] h = tt
order-removed cs p (l ∷ ls) h =
    let ih = order-removed cs p ls h.1 in
    elim (p l) as (λ b. AreInOrder cs (if b then ls else l ∷ removed p ls)) [ true ↦ h.1 | false ↦ (each-removed (λ m. is_before cs m l ≡ false) p ls h.0, ih) ]

count-removed : (c : ℕ) (p : LayerSeen → Bool) (ls : List LayerSeen) → length (filter (is_of c) (removed p ls)) ≤ length (filter (is_of c) ls)
count-removed c p [] = omega arith
count-removed c p (l ∷ ls) = by (p l) refl (c == l.controller) refl (count-removed c p ls)
  where
    by : (b : Bool) → p l ≡ b → (d : Bool) → (c == l.controller) ≡ d → length (filter (is_of c) (removed p ls)) ≤ length (filter (is_of c) ls) → length (filter (is_of c) (removed p (l ∷ ls))) ≤ length (filter (is_of c) (l ∷ ls))
    by true e true i ih = rw (e, i) (omega arith)
    by true e false i ih = rw (e, i) (omega arith)
    by false e true i ih = rw (e, i) (omega (arith, ih))
    by false e false i ih = rw (e, i) ih

at_most_as : (a b n : ℕ) → a ≤ b → b ≤ n → a ≤ n
at_most_as a b n h i = omega arith

good-removed : (cs : List ℕ) (ls : List LayerSeen) (p : LayerSeen → Bool) → AreGood cs ls → AreGood cs (removed p ls)
good-removed cs ls p h = record {
  in_order = order-removed cs p ls h.in_order;
  apart = apart-removed same_layer p ls h.apart;
  good = each-removed (IsGoodLayer cs) p ls h.good;
  few = λ c. at_most_as _ _ 16 (count-removed c p ls) (h.few c);
}

pub order-placed : (cs : List ℕ) (l : LayerSeen) (ls : List LayerSeen) → AreInOrder cs ls → AreInOrder cs (placed cs l ls)
order-placed cs l [] h = (tt, tt)
order-placed cs l (m ∷ ms) h = by (is_before cs l m) refl (order-placed cs l ms h.1)
  where
    by : (b : Bool) → is_before cs l m ≡ b → AreInOrder cs (placed cs l ms) → AreInOrder cs (placed cs l (m ∷ ms))
    by true e ih = rw e ((flip-before cs l m e, each-as (λ x. is_before cs x m ≡ false) (λ x. is_before cs x l ≡ false) (λ x i. over-before cs l m x e i) ms h.0), h)
    by false e ih = rw e (each-placed (λ x. is_before cs x m ≡ false) cs l ms h.0 e, ih)

pub count-placed : (c : ℕ) (cs : List ℕ) (l : LayerSeen) (ls : List LayerSeen) → length (filter (is_of c) (placed cs l ls)) ≡ length (filter (is_of c) (l ∷ ls))
count-placed c cs l [] = refl
count-placed c cs l (m ∷ ms) = by (is_before cs l m) refl (c == l.controller) refl (c == m.controller) refl (count-placed c cs l ms)
  where
    by : (b : Bool) → is_before cs l m ≡ b → (d : Bool) → (c == l.controller) ≡ d → (e : Bool) → (c == m.controller) ≡ e → length (filter (is_of c) (placed cs l ms)) ≡ length (filter (is_of c) (l ∷ ms)) → length (filter (is_of c) (placed cs l (m ∷ ms))) ≡ length (filter (is_of c) (l ∷ m ∷ ms))
    by true x d y e z ih = rw x refl
    by false x true y true z ih = let i = rw y at ih in rw (x, y, z) (ap (λ n. suc n) i)
    by false x true y false z ih = let i = rw y at ih in rw (x, y, z) i
    by false x false y true z ih = let i = rw y at ih in rw (x, y, z) (ap (λ n. suc n) i)
    by false x false y false z ih = let i = rw y at ih in rw (x, y, z) i

-- where no test applies, each is false
abbrev pub NoneApplies : List (Bool × Refusal) → Type 0
NoneApplies [] = Unit {0}
NoneApplies (t ∷ ts) = (t.0 ≡ false) × NoneApplies ts

passed : (ts : List (Bool × Refusal)) → first_refusal ts ≡ None → NoneApplies ts
passed [] h = tt
passed (t ∷ ts) h = by t.0 refl (passed ts)
  where
    by : (b : Bool) → t.0 ≡ b → (first_refusal ts ≡ None → NoneApplies ts) → NoneApplies (t ∷ ts)
    by true e ih = let i = rw e at h in absurd (cc)
    by false e ih = (e, ih (rw e at h))

few-placed : (cs : List ℕ) (ls : List LayerSeen) (d : ℕ) (s : LayerSpec) → ((c : ℕ) → length (filter (is_of c) ls) ≤ 16) → nat_le 16 (length (filter (is_of d) ls)) ≡ false → (c : ℕ) → length (filter (is_of c) (placed cs (empty_layer d s) ls)) ≤ 16
few-placed cs ls d s few room c = rw (count-placed c cs (empty_layer d s) ls) (by (c == d) refl)
  where
    by : (b : Bool) → (c == d) ≡ b → length (filter (is_of c) (empty_layer d s ∷ ls)) ≤ 16
    by true e =
        let same : c ≡ d = grind (arith, nat_tests, e) in
        let less : length (filter (is_of d) ls) < 16 = grind (arith, nat_tests, room) in
        let less_here : length (filter (is_of c) ls) < 16 = rw same less in
        rw e (omega (arith, less_here))
    by false e = rw e (few c)

good-placed : (cs : List ℕ) (ls : List LayerSeen) (c : ℕ) (s : LayerSpec) → AreGood cs ls → is_listed cs c ≡ true → list_any (is_layer c s.layer) ls ≡ false → nat_le 16 (length (filter (is_of c) ls)) ≡ false → AreGood cs (placed cs (empty_layer c s) ls)
good-placed cs ls c s h listed new room = record {
  in_order = order-placed cs (empty_layer c s) ls h.in_order;
  apart =
      let none = each-none (is_layer c s.layer) ls new in
      apart-placed same_layer cs (empty_layer c s) ls h.apart
      (each-as (λ m. is_layer c s.layer m ≡ false) (λ m. same_layer m (empty_layer c s) ≡ false) (λ m i. flip-layer c m.controller s.layer m.spec.layer i) ls none) none;
  good = each-placed (IsGoodLayer cs) cs (empty_layer c s) ls h.good (listed, omega arith, tt, tt, tt);
  few = few-placed cs ls c s h.few room;
}

at_most : (k n : ℕ) → nat_lt k n ≡ false → n ≤ k
at_most k n h = grind (arith, nat_tests)

-- room for one more
one_more : {A : Type 0} (k : ℕ) (xs : List A) (x : A) → nat_le k (length xs) ≡ false → length (xs ++ x ∷ []) ≤ k
one_more k xs x h =
    let n = length-append xs (x ∷ []) in
    let less : length xs < k = grind (arith, nat_tests, h) in
    rw n (omega (arith, less))

good-empty : (g : ℕ) (dir : Dir) (when : List Cond) → IsGoodGroup (record { number = g; dir = dir; when = when; rules = [] })
good-empty g dir when = (omega arith, tt, tt)

-- the layer with other groups
good-groups : (cs : List ℕ) (g : ℕ) (f : Group → Group) (l : LayerSeen) → ((h : Group) → (f h).number ≡ h.number) → ((h : Group) → find (is_group g) l.groups ≡ Some h → IsGoodGroup h → IsGoodGroup (f h)) → IsGoodLayer cs l
    → (length (changed (is_group g) f l.groups) ≤ 32) × Each IsGoodGroup (changed (is_group g) f l.groups) × AreApart same_group (changed (is_group g) f l.groups)
good-groups cs g f l named k h =
    let n = length-changed (is_group g) f l.groups in
    (rw n h.1, each-changed IsGoodGroup (is_group g) f l.groups k h.2, apart-changed same_group (is_group g) f (λ x y. rw (named x) refl) (λ x y. rw (named y) refl) l.groups h.3)

good-with : (gs : List Group) (g : ℕ) (r : Rule) (h : Group) → list_any (is_rule r.number) (rules_in gs g) ≡ false → nat_le 1024 (length (rules_in gs g)) ≡ false → find (is_group g) gs ≡ Some h → IsGoodRule r → IsGoodGroup h → IsGoodGroup (with_rule r h)
good-with gs g r h new room found good ok =
    let new_here : list_any (is_rule r.number) h.rules ≡ false = rw found at new in
    let room_here : nat_le 1024 (length h.rules) ≡ false = rw found at room in
    (one_more 1024 h.rules r room_here, each-push IsGoodRule h.rules r ok.1 good, apart-push same_number h.rules r ok.2 (each-as (λ s. is_rule r.number s ≡ false) (λ s. same_number s r ≡ false) (λ s i. flip-equal r.number s.number i) h.rules (each-none (is_rule r.number) h.rules new_here)))

good-without : (k : ℕ) (h : Group) → IsGoodGroup h → IsGoodGroup (without_rule k h)
good-without k h ok = (at_most_as _ _ 1024 (length-removed (is_rule k) h.rules) ok.0, each-removed IsGoodRule (is_rule k) h.rules ok.1, apart-removed same_number (is_rule k) h.rules ok.2)

good-added : (cs : List ℕ) (g : ℕ) (dir : Dir) (when : List Cond) (l : LayerSeen) → list_any (is_group g) l.groups ≡ false → nat_le 32 (length l.groups) ≡ false → IsGoodLayer cs l → IsGoodLayer cs (within (AddGroup 0 g dir when) l)
good-added cs g dir when l new room ok =
    let h : Group = record { number = g; dir = dir; when = when; rules = [] } in
    let others = each-as (λ x. is_group g x ≡ false) (λ x. same_group x h ≡ false) (λ x i. flip-equal g x.number i) l.groups (each-none (is_group g) l.groups new) in
    (ok.0, one_more 32 l.groups h room, each-push IsGoodGroup l.groups h ok.2 (good-empty g dir when), apart-push same_group l.groups h ok.3 others, ok.4)

good-put : (cs : List ℕ) (ls : List LayerSeen) (c n g : ℕ) (rs : List Rule) → AreGood cs ls → Each IsGoodRule rs → has_twice rs ≡ false → nat_lt 1024 (length rs) ≡ false → AreGood cs (changed (is_layer c n) (within (PutRules n g rs)) ls)
good-put cs ls c n g rs h good once room =
    let few = at_most 1024 (length rs) room in
    let apart = apart-numbers rs once in
    good-changed cs ls (is_layer c n) (within (PutRules n g rs)) (λ l. (refl, refl, refl))
    (λ l found ok. let k = good-groups cs g (with_rules rs) l (λ x. refl) (λ x i j. (few, good, apart)) ok in (ok.0, k.0, k.1, k.2, below_filter (λ p. not (goes g (rules_in l.groups g) rs p)) l.next_pair l.pairs ok.4)) h

good-parts : (cs : List ℕ) (c : ℕ) (ps : List Part) (ls : List LayerSeen) → AreGood cs ls → Each IsGoodRule (flat_map (λ p. p.rules) ps) → Each (λ p. repeats_rule p ≡ false) ps → Each (λ p. exceeds_rules p ≡ false) ps → AreGood cs (put_parts c ps ls)
good-parts cs c [] ls h good once room = h
good-parts cs c (p ∷ ps) ls h good once room =
    let rest = flat_map (λ (q : Part). q.rules) ps in
    good-parts cs c ps (put_part c p ls) (good-put cs ls c p.layer p.group p.rules h (each-front IsGoodRule p.rules rest good) once.0 room.0) (each-behind IsGoodRule p.rules rest good) once.1 room.1

default-keeps : (d : Dir) (b : Bool) → KeepsName (λ l. with_spec (defaulting d b l.spec) l)
default-keeps Out b l = (refl, refl, refl)
default-keeps In b l = (refl, refl, refl)

-- a command that isn't refused
pub keeps : (cs : List ℕ) (ls : List LayerSeen) (c : ℕ) (m : Command) → AreGood cs ls → is_listed cs c ≡ true → Each IsGoodRule (rules_given m) → first_refusal (tests ls c m) ≡ None → AreGood cs (after cs ls c m)
keeps cs ls c (AddLayer s) h listed good none =
    let t = passed (tests ls c (AddLayer s)) none in
    good-placed cs ls c s h listed t.0 t.1.0
keeps cs ls c (RemoveLayer n) h listed good none = good-removed cs ls (is_layer c n) h
keeps cs ls c (AddGroup n g dir when) h listed good none =
    let t = passed (tests ls c (AddGroup n g dir when)) none in
    let new : list_any (is_group g) (groups_in ls c n) ≡ false = t.1.0 in
    let room : nat_le 32 (length (groups_in ls c n)) ≡ false = t.1.1.0 in
    good-changed cs ls (is_layer c n) (within (AddGroup n g dir when)) (λ l. (refl, refl, refl))
    (λ l found ok. good-added cs g dir when l (rw found at new) (rw found at room) ok) h
keeps cs ls c (RemoveGroup n g) h listed good none =
    good-changed cs ls (is_layer c n) (within (RemoveGroup n g)) (λ l. (refl, refl, refl))
    (λ l found ok. (ok.0, at_most_as _ _ 32 (length-removed (is_group g) l.groups) ok.1, each-removed IsGoodGroup (is_group g) l.groups ok.2, apart-removed same_group (is_group g) l.groups ok.3, below_filter (λ p. not (goes g (rules_in l.groups g) [] p)) l.next_pair l.pairs ok.4)) h
keeps cs ls c (PutRules n g rs) h listed good none =
    let t = passed (tests ls c (PutRules n g rs)) none in
    good-put cs ls c n g rs h good t.1.1.0 t.1.1.1.0
keeps cs ls c (PutMany ps) h listed good none =
    let t = passed (tests ls c (PutMany ps)) none in
    good-parts cs c ps ls h good (each-none repeats_rule ps t.1.1.0) (each-none exceeds_rules ps t.1.1.1.0)
keeps cs ls c (AddRule n g r) h listed good none =
    let t = passed (tests ls c (AddRule n g r)) none in
    let new : list_any (is_rule r.number) (rules_in (groups_in ls c n) g) ≡ false = t.1.1.0 in
    let room : nat_le 1024 (length (rules_in (groups_in ls c n) g)) ≡ false = t.1.1.1.0 in
    good-changed cs ls (is_layer c n) (within (AddRule n g r)) (λ l. (refl, refl, refl))
    (λ l found ok. let k = good-groups cs g (with_rule r) l (λ x. refl) (λ x i j. good-with l.groups g r x (rw found at new) (rw found at room) i good.0 j) ok in (ok.0, k.0, k.1, k.2, ok.4)) h
keeps cs ls c (RemoveRule n g k) h listed good none =
    good-changed cs ls (is_layer c n) (within (RemoveRule n g k)) (λ l. (refl, refl, refl))
    (λ l found ok. let t = good-groups cs g (without_rule k) l (λ x. refl) (λ x i j. good-without k x j) ok in (ok.0, t.0, t.1, t.2, below_filter (λ p. not (of_rule g k p)) l.next_pair l.pairs ok.4)) h
keeps cs ls c (SetDefault n dir allow) h listed good none =
    good-changed cs ls (is_layer c n) (within (SetDefault n dir allow)) (default-keeps dir allow) (λ l found ok. (ok.0, ok.1, ok.2, ok.3, ok.4)) h
keeps cs ls c (Sweep n now) h listed good none =
    good-changed cs ls (is_layer c n) (within (Sweep n now)) (λ l. (refl, refl, refl))
    (λ l found ok. (ok.0, ok.1, ok.2, ok.3, below_filter (λ p. not (is_over now l.spec.idle l.spec.linger p)) l.next_pair l.pairs ok.4)) h

pub sound-after : (cs : List ℕ) (ls new : List LayerSeen) (rooms others : List ℕ) (c : ℕ) (m : Command) → IsSound (record { controllers = cs; layers = ls; rooms = rooms }) → is_listed cs c ≡ true → Each IsGoodRule (rules_given m) → first_refusal (tests ls c m) ≡ None → new ≡ after cs ls c m
    → IsSound (record { controllers = cs; layers = new; rooms = others })
sound-after cs ls new rooms others c m h listed good none e = record { few_controllers = h.few_controllers; distinct = h.distinct; layers = rw e (keeps cs ls c m h.layers listed good none) }

pub sound-still : (cs : List ℕ) (ls new : List LayerSeen) (rooms others : List ℕ) → IsSound (record { controllers = cs; layers = ls; rooms = rooms }) → new ≡ ls → IsSound (record { controllers = cs; layers = new; rooms = others })
sound-still cs ls new rooms others h e = record { few_controllers = h.few_controllers; distinct = h.distinct; layers = rw e h.layers }
