-- What a command finds and leaves, controller by controller.
use Rattle.std.proofs.Common.{◌≡◌, ℕ, ◌==◌, ◌||◌, Bool, true, false, cond, List, [], ◌∷◌, filter, Option, Some, None, refl, ap, sym, subst, ◌∙◌, arith}
use Rattle.std.specs.List.{find, list_any}
use Rattle.std.proofs.lemmas.Bool.Decides.{nat_tests}
use Rattle.vsw_base.proofs.Truths.{both}
use Rattle.vsw_rule.proofs.Same.{rule_tells, rule_knows}
use Rattle.vsw_policy.specs.Groups.{changed, removed}
use Rattle.vsw_policy.specs.Layer.{LayerSeen}
use Rattle.vsw_policy.specs.Staying.{same_rule}
use Rattle.vsw_policy.specs.declared.command.Command.{Command}
use Rattle.vsw_policy.specs.declared.command.Part.{Part}
use Rattle.vsw_policy.specs.declared.command.Command.TheVariants.{AddLayer, RemoveLayer, AddGroup, RemoveGroup, PutRules, PutMany, AddRule, RemoveRule, SetDefault, Sweep}
use Rattle.vsw_policy.specs.declared.refusal.Refusal.{Refusal}
use Rattle.vsw_policy.specs.Layers.{is_of, is_layer, is_before}
use Rattle.vsw_policy.specs.Obey.{placed, empty_layer, within, lacks_layer, lacks_group, tests, put_part, put_parts, after, first_refusal, answered}
use Rattle.vsw_policy.specs.Own.{OthersStay, of_own, ObeysAlone, SameIsEqual}
use Rattle.vsw_policy.specs.Sound.{Each, AreInOrder}
use Rattle.vsw_policy.proofs.Orders.{across-before}

-- ---- what passes q passes p

find-filter : {A : Type 0} (p q : A → Bool) → ((x : A) → q x ≡ true → p x ≡ true) → (xs : List A) → find q (filter p xs) ≡ find q xs
find-filter p q h [] = refl
find-filter {A} p q h (x ∷ xs) = by (p x) refl (q x) refl (find-filter p q h xs)
  where
    by : (a : Bool) → p x ≡ a → (b : Bool) → q x ≡ b → find q (filter p xs) ≡ find q xs → find q (filter p (x ∷ xs)) ≡ find q (x ∷ xs)
    by true e b i ih = rw e (ap (λ (o : Option A). cond (q x) (Some x) o) ih)
    by false e true i ih = let never = sym (h x i) ∙ e in absurd (cc)
    by false e false i ih = rw (e, i) ih

any-filter : {A : Type 0} (p q : A → Bool) → ((x : A) → q x ≡ true → p x ≡ true) → (xs : List A) → list_any q (filter p xs) ≡ list_any q xs
any-filter p q h [] = refl
any-filter p q h (x ∷ xs) = by (p x) refl (q x) refl (any-filter p q h xs)
  where
    by : (a : Bool) → p x ≡ a → (b : Bool) → q x ≡ b → list_any q (filter p xs) ≡ list_any q xs → list_any q (filter p (x ∷ xs)) ≡ list_any q (x ∷ xs)
    by true e b i ih = rw e (ap (λ o. q x || o) ih)
    by false e true i ih = let never = sym (h x i) ∙ e in absurd (cc)
    by false e false i ih = rw (e, i) ih

filter-twice : {A : Type 0} (p : A → Bool) (xs : List A) → filter p (filter p xs) ≡ filter p xs
filter-twice p [] = refl
filter-twice p (x ∷ xs) = by (p x) refl (filter-twice p xs)
  where
    by : (a : Bool) → p x ≡ a → filter p (filter p xs) ≡ filter p xs → filter p (filter p (x ∷ xs)) ≡ filter p (x ∷ xs)
    by true e ih = rw e (rw e (ap (λ ys. x ∷ ys) ih))
    by false e ih = rw e ih

changed-filter : {A : Type 0} (p q : A → Bool) (f : A → A) → ((x : A) → q x ≡ true → p x ≡ true) → ((x : A) → p (f x) ≡ p x) → (xs : List A) → filter p (changed q f xs) ≡ changed q f (filter p xs)
changed-filter p q f h k [] = refl
changed-filter p q f h k (x ∷ xs) = by (p x) refl (q x) refl (changed-filter p q f h k xs)
  where
    by : (a : Bool) → p x ≡ a → (b : Bool) → q x ≡ b → filter p (changed q f xs) ≡ changed q f (filter p xs) → filter p (changed q f (x ∷ xs)) ≡ changed q f (filter p (x ∷ xs))
    by true e true i ih = rw (i, k x, e) (rw i refl)
    by true e false i ih = rw (i, e) (rw i (ap (λ ys. x ∷ ys) ih))
    by false e true i ih = let never = sym (h x i) ∙ e in absurd (cc)
    by false e false i ih = rw (i, e) ih

removed-filter : {A : Type 0} (p q : A → Bool) → ((x : A) → q x ≡ true → p x ≡ true) → (xs : List A) → filter p (removed q xs) ≡ removed q (filter p xs)
removed-filter p q h [] = refl
removed-filter p q h (x ∷ xs) = by (p x) refl (q x) refl (removed-filter p q h xs)
  where
    by : (a : Bool) → p x ≡ a → (b : Bool) → q x ≡ b → filter p (removed q xs) ≡ removed q (filter p xs) → filter p (removed q (x ∷ xs)) ≡ removed q (filter p (x ∷ xs))
    by true e true i ih = rw (i, e) (rw i refl)
    by true e false i ih = rw (i, e) (rw i (ap (λ ys. x ∷ ys) ih))
    by false e true i ih = let never = sym (h x i) ∙ e in absurd (cc)
    by false e false i ih = rw (i, e) ih

each-filter : {A : Type 0} (P : A → Type 0) (p : A → Bool) (xs : List A) → Each P xs → Each P (filter p xs)
each-filter P p [] h = tt
each-filter P p (x ∷ xs) h =
    let ih = each-filter P p xs h.1 in
    elim (p x) as (λ b. Each P (cond b (x ∷ filter p xs) (filter p xs))) [ true ↦ (h.0, ih) | false ↦ ih ]

placed-front : (cs : List ℕ) (l : LayerSeen) (ls : List LayerSeen) → Each (λ m. is_before cs l m ≡ true) ls → placed cs l ls ≡ l ∷ ls
placed-front cs l [] h = refl
placed-front cs l (m ∷ ms) h = rw h.0 refl

all-behind : (cs : List ℕ) (l m : LayerSeen) (ms : List LayerSeen) → is_before cs l m ≡ true → Each (λ x. is_before cs x m ≡ false) ms → Each (λ x. is_before cs l x ≡ true) ms
all-behind cs l m [] e h = tt
all-behind cs l m (x ∷ xs) e h = (across-before cs l m x e h.0, all-behind cs l m xs e h.1)

placed-filter : (p : LayerSeen → Bool) (cs : List ℕ) (l : LayerSeen) (ls : List LayerSeen) → p l ≡ true → AreInOrder cs ls → filter p (placed cs l ls) ≡ placed cs l (filter p ls)
placed-filter p cs l [] own h = rw own refl
placed-filter p cs l (m ∷ ms) own h = by (is_before cs l m) refl (p m) refl (placed-filter p cs l ms own h.1)
  where
    by : (a : Bool) → is_before cs l m ≡ a → (b : Bool) → p m ≡ b → filter p (placed cs l ms) ≡ placed cs l (filter p ms) → filter p (placed cs l (m ∷ ms)) ≡ placed cs l (filter p (m ∷ ms))
    by true e b i ih =
        let front = placed-front cs l (filter p (m ∷ ms)) (each-filter (λ x. is_before cs l x ≡ true) p (m ∷ ms) (e, all-behind cs l m ms e h.0)) in
        rw (e, own) (sym front)
    by false e true i ih = rw (e, i) (rw e (ap (λ ys. m ∷ ys) ih))
    by false e false i ih = rw (e, i) ih

-- ---- what passes q doesn't pass p

changed-others : {A : Type 0} (p q : A → Bool) (f : A → A) → ((x : A) → q x ≡ true → p x ≡ false) → ((x : A) → p (f x) ≡ p x) → (xs : List A) → filter p (changed q f xs) ≡ filter p xs
changed-others p q f h k [] = refl
changed-others p q f h k (x ∷ xs) = by (q x) refl (changed-others p q f h k xs)
  where
    by : (b : Bool) → q x ≡ b → filter p (changed q f xs) ≡ filter p xs → filter p (changed q f (x ∷ xs)) ≡ filter p (x ∷ xs)
    by true i ih = rw (i, k x, h x i) refl
    by false i ih = rw i (ap (λ ys. cond (p x) (x ∷ ys) ys) ih)

removed-others : {A : Type 0} (p q : A → Bool) → ((x : A) → q x ≡ true → p x ≡ false) → (xs : List A) → filter p (removed q xs) ≡ filter p xs
removed-others p q h [] = refl
removed-others p q h (x ∷ xs) = by (q x) refl (removed-others p q h xs)
  where
    by : (b : Bool) → q x ≡ b → filter p (removed q xs) ≡ filter p xs → filter p (removed q (x ∷ xs)) ≡ filter p (x ∷ xs)
    by true i ih = rw (i, h x i) refl
    by false i ih = rw i (ap (λ ys. cond (p x) (x ∷ ys) ys) ih)

placed-others : (p : LayerSeen → Bool) (cs : List ℕ) (l : LayerSeen) (ls : List LayerSeen) → p l ≡ false → filter p (placed cs l ls) ≡ filter p ls
placed-others p cs l [] own = rw own refl
placed-others p cs l (m ∷ ms) own = by (is_before cs l m) refl (placed-others p cs l ms own)
  where
    by : (a : Bool) → is_before cs l m ≡ a → filter p (placed cs l ms) ≡ filter p ms → filter p (placed cs l (m ∷ ms)) ≡ filter p (m ∷ ms)
    by true e ih = rw (e, own) refl
    by false e ih = rw e (ap (λ ys. cond (p m) (m ∷ ys) ys) ih)

-- ---- commands

within-of : (d : ℕ) (m : Command) (l : LayerSeen) → is_of d (within m l) ≡ is_of d l
within-of d (AddLayer s) l = refl
within-of d (RemoveLayer n) l = refl
within-of d (AddGroup n g dir when) l = refl
within-of d (RemoveGroup n g) l = refl
within-of d (PutRules n g rs) l = refl
within-of d (PutMany ps) l = refl
within-of d (AddRule n g r) l = refl
within-of d (RemoveRule n g k) l = refl
within-of d (SetDefault n dir allow) l = refl
within-of d (Sweep n now) l = refl

own : (c n : ℕ) (l : LayerSeen) → is_layer c n l ≡ true → is_of c l ≡ true
own c n l h = (both (c == l.controller) (n == l.spec.layer) h).0

other : (c d n : ℕ) (l : LayerSeen) → (d == c) ≡ false → is_layer c n l ≡ true → is_of d l ≡ false
other c d n l e h = let i : (c == l.controller) ≡ true = own c n l h in grind (arith, nat_tests, e, i)

others-changed : (c d n : ℕ) (m : Command) (ls : List LayerSeen) → (d == c) ≡ false → filter (is_of d) (changed (is_layer c n) (within m) ls) ≡ filter (is_of d) ls
others-changed c d n m ls e = changed-others (is_of d) (is_layer c n) (within m) (λ l i. other c d n l e i) (λ l. within-of d m l) ls

others-parts : (c d : ℕ) (ps : List Part) (ls : List LayerSeen) → (d == c) ≡ false → filter (is_of d) (put_parts c ps ls) ≡ filter (is_of d) ls
others-parts c d [] ls e = refl
others-parts c d (p ∷ ps) ls e = others-parts c d ps (put_part c p ls) e ∙ others-changed c d p.layer (PutRules p.layer p.group p.rules) ls e

pub others-stay : (cs : List ℕ) (ls : List LayerSeen) (c : ℕ) (m : Command) → OthersStay c ls (after cs ls c m)
others-stay cs ls c (AddLayer s) d e = placed-others (is_of d) cs (empty_layer c s) ls e
others-stay cs ls c (RemoveLayer n) d e = removed-others (is_of d) (is_layer c n) (λ l i. other c d n l e i) ls
others-stay cs ls c (AddGroup n g dir when) d e = others-changed c d n (AddGroup n g dir when) ls e
others-stay cs ls c (RemoveGroup n g) d e = others-changed c d n (RemoveGroup n g) ls e
others-stay cs ls c (PutRules n g rs) d e = others-changed c d n (PutRules n g rs) ls e
others-stay cs ls c (PutMany ps) d e = others-parts c d ps ls e
others-stay cs ls c (AddRule n g r) d e = others-changed c d n (AddRule n g r) ls e
others-stay cs ls c (RemoveRule n g k) d e = others-changed c d n (RemoveRule n g k) ls e
others-stay cs ls c (SetDefault n dir allow) d e = others-changed c d n (SetDefault n dir allow) ls e
others-stay cs ls c (Sweep n now) d e = others-changed c d n (Sweep n now) ls e

any-own : (c n : ℕ) (ls : List LayerSeen) → list_any (is_layer c n) (filter (is_of c) ls) ≡ list_any (is_layer c n) ls
any-own c n ls = any-filter (is_of c) (is_layer c n) (own c n) ls

find-own : (c n : ℕ) (ls : List LayerSeen) → find (is_layer c n) (filter (is_of c) ls) ≡ find (is_layer c n) ls
find-own c n ls = find-filter (is_of c) (is_layer c n) (own c n) ls

any-as : {A : Type 0} (p q : A → Bool) → ((x : A) → p x ≡ q x) → (xs : List A) → list_any p xs ≡ list_any q xs
any-as p q h [] = refl
any-as p q h (x ∷ xs) = rw (h x) (ap (λ b. q x || b) (any-as p q h xs))

lacks-layer-own : (c : ℕ) (ls : List LayerSeen) (p : Part) → lacks_layer (filter (is_of c) ls) c p ≡ lacks_layer ls c p
lacks-layer-own c ls p = rw (any-own c p.layer ls) refl

lacks-group-own : (c : ℕ) (ls : List LayerSeen) (p : Part) → lacks_group (filter (is_of c) ls) c p ≡ lacks_group ls c p
lacks-group-own c ls p = rw (find-own c p.layer ls) refl

tests-own : (ls : List LayerSeen) (c : ℕ) (m : Command) → tests (filter (is_of c) ls) c m ≡ tests ls c m
tests-own ls c (AddLayer s) = rw (any-own c s.layer ls, filter-twice (is_of c) ls) refl
tests-own ls c (RemoveLayer n) = rw (any-own c n ls) refl
tests-own ls c (AddGroup n g dir when) = rw (any-own c n ls, find-own c n ls) refl
tests-own ls c (RemoveGroup n g) = rw (any-own c n ls, find-own c n ls) refl
tests-own ls c (PutRules n g rs) = rw (any-own c n ls, find-own c n ls) refl
tests-own ls c (PutMany ps) =
    rw (any-as (lacks_layer (filter (is_of c) ls) c) (lacks_layer ls c) (lacks-layer-own c ls) ps, any-as (lacks_group (filter (is_of c) ls) c) (lacks_group ls c) (lacks-group-own c ls) ps) refl
tests-own ls c (AddRule n g r) = rw (any-own c n ls, find-own c n ls) refl
tests-own ls c (RemoveRule n g k) = rw (any-own c n ls, find-own c n ls) refl
tests-own ls c (SetDefault n dir allow) = rw (any-own c n ls) refl
tests-own ls c (Sweep n now) = rw (any-own c n ls) refl

own-changed : (c n : ℕ) (m : Command) (ls : List LayerSeen) → filter (is_of c) (changed (is_layer c n) (within m) ls) ≡ changed (is_layer c n) (within m) (filter (is_of c) ls)
own-changed c n m ls = changed-filter (is_of c) (is_layer c n) (within m) (own c n) (λ l. within-of c m l) ls

own-parts : (c : ℕ) (ps : List Part) (ls : List LayerSeen) → filter (is_of c) (put_parts c ps ls) ≡ put_parts c ps (filter (is_of c) ls)
own-parts c [] ls = refl
own-parts c (p ∷ ps) ls = own-parts c ps (put_part c p ls) ∙ ap (λ ms. put_parts c ps ms) (own-changed c p.layer (PutRules p.layer p.group p.rules) ls)

itself : (n : ℕ) → (n == n) ≡ true
itself n = grind (arith, nat_tests)

after-own : (cs : List ℕ) (ls : List LayerSeen) (c : ℕ) (m : Command) → AreInOrder cs ls → filter (is_of c) (after cs ls c m) ≡ after cs (filter (is_of c) ls) c m
after-own cs ls c (AddLayer s) h = placed-filter (is_of c) cs (empty_layer c s) ls (itself c) h
after-own cs ls c (RemoveLayer n) h = removed-filter (is_of c) (is_layer c n) (own c n) ls
after-own cs ls c (AddGroup n g dir when) h = own-changed c n (AddGroup n g dir when) ls
after-own cs ls c (RemoveGroup n g) h = own-changed c n (RemoveGroup n g) ls
after-own cs ls c (PutRules n g rs) h = own-changed c n (PutRules n g rs) ls
after-own cs ls c (PutMany ps) h = own-parts c ps ls
after-own cs ls c (AddRule n g r) h = own-changed c n (AddRule n g r) ls
after-own cs ls c (RemoveRule n g k) h = own-changed c n (RemoveRule n g k) ls
after-own cs ls c (SetDefault n dir allow) h = own-changed c n (SetDefault n dir allow) ls
after-own cs ls c (Sweep n now) h = own-changed c n (Sweep n now) ls

answered-own : (c : ℕ) (o : Option Refusal) (ls : List LayerSeen) → of_own c (answered o ls) ≡ answered o (filter (is_of c) ls)
answered-own c None ls = refl
answered-own c (Some e) ls = refl

pub obeys-alone : ObeysAlone
obeys-alone cs ls c m h =
    answered-own c (first_refusal (tests ls c m)) (after cs ls c m)
    ∙ ap (λ ts. answered (first_refusal ts) (filter (is_of c) (after cs ls c m))) (sym (tests-own ls c m))
    ∙ ap (λ xs. answered (first_refusal (tests (filter (is_of c) ls) c m)) xs) (after-own cs ls c m h)

pub same-is-equal : SameIsEqual
same-is-equal r s = ((λ h. rule_tells r s h), (λ e. subst (λ x. same_rule r x ≡ true) e (rule_knows r)))
