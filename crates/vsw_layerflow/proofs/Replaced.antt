-- The two maps after a pair went and another came at once.
use Rattle.std.proofs.Common.{◌≡◌, ◌<◌, ◌-◌, ◌^◌, ℕ, ◌==◌, nat_eq, Bool, true, false, not, cond, ◌||◌, List, [], ◌∷◌, ◌++◌, filter, map, length, Option, None, Some, option_map, refl, sym, ap, subst, ◌∙◌, arith, true≢false}
use Rattle.std.specs.Map.{keys_of, values_of, lookup}
use Rattle.std.specs.List.{IsDistinct}
use Rattle.std.proofs.lemmas.Map.Entries.{option_filter}
use Rattle.vsw_layerflow.specs.declared.pair.Probe.{Probe}
use Rattle.vsw_layerflow.specs.declared.pair.Pair.{Pair}
use Rattle.vsw_layerflow.specs.Pairs.{front, back, same_probe, holds, holder, numbered, number_of, put_by_number, without}
use Rattle.vsw_layerflow.specs.Index.{in_order, IsIndex}
use Rattle.vsw_layerflow.proofs.Lists.{at_holder, at_number, same_is}
use Rattle.vsw_layerflow.proofs.Moved.{some_is}
use Rattle.vsw_layerflow.proofs.Order.{rising-filter}
use Rattle.vsw_layerflow.proofs.Changed.{added-by, values-entered}
use Rattle.vsw_layerflow.proofs.Kept.{apart-filter, held, holder-filter, holder-holds, keyed-filter, number-found, remove-filter, without-none}
use Rattle.vsw_layerflow.proofs.InOrder.{in_order-push, lookup-in_order}
use Rattle.vsw_layerflow.proofs.Taken.{taken}
use Rattle.vsw_layerflow.proofs.Unordered.{number_free, taken-in_order}

-- a test by a probe that is one is the other's
pub one_class : (k x y : Probe) → same_probe k x ≡ true → same_probe k y ≡ same_probe x y
one_class k x y e = ap (λ z. same_probe z y) (same_is k x e)

pub none_is : {n : ℕ} → None ≡ Some n → ⊥
none_is e = grind arith

-- what a pair holds is one of two
one_of : (k : Probe) (p : Pair) → holds k p ≡ true → (a b : Bool) → same_probe (front p) k ≡ a → same_probe (back p) k ≡ b → (a || b) ≡ true
one_of k p e a b x y = sym (ap (λ t. t || same_probe (back p) k) x ∙ ap (λ t. a || t) y) ∙ e

holds_as : (k a b c d : Probe) → a ≡ b → c ≡ d → (same_probe a k || same_probe c k) ≡ (same_probe b k || same_probe d k)
holds_as k a b c d e f = λ j. same_probe (e j) k || same_probe (f j) k

-- who holds both probes of a pair, and these are two, holds no other
pub no_third : (p l : Pair) (k : Probe) → same_probe (front p) (back p) ≡ false → holds (front p) l ≡ true → holds (back p) l ≡ true → holds k p ≡ false → holds k l ≡ false
no_third p l k two f b n = by (same_probe (front l) (front p)) (same_probe (back l) (front p)) (same_probe (front l) (back p)) (same_probe (back l) (back p)) refl refl refl refl
  where
    flip-or : (a b : Bool) → (a || b) ≡ (b || a)
    flip-or true true = refl
    flip-or true false = refl
    flip-or false true = refl
    flip-or false false = refl

    both : (x y z : Probe) → same_probe x y ≡ true → same_probe x z ≡ true → same_probe y z ≡ true
    both x y z e g = sym (one_class x y z e) ∙ g

    by : (a b c d : Bool) → same_probe (front l) (front p) ≡ a → same_probe (back l) (front p) ≡ b → same_probe (front l) (back p) ≡ c → same_probe (back l) (back p) ≡ d → holds k l ≡ false
    by true o true d s t u v = absurd (true≢false (sym (both (front l) (front p) (back p) s u) ∙ two))
    by true o false true s t u v = holds_as k (front l) (front p) (back l) (back p) (same_is (front l) (front p) s) (same_is (back l) (back p) v) ∙ n
    by true o false false s t u v = absurd (true≢false (sym (one_of (back p) l b false false u v)))
    by false true c true s t u v = absurd (true≢false (sym (both (back l) (front p) (back p) t v) ∙ two))
    by false true true false s t u v = holds_as k (front l) (back p) (back l) (front p) (same_is (front l) (back p) u) (same_is (back l) (front p) t) ∙ flip-or (same_probe (back p) k) (same_probe (front p) k) ∙ n
    by false true false false s t u v = absurd (true≢false (sym (one_of (back p) l b false false u v)))
    by false false c d s t u v = absurd (true≢false (sym (one_of (front p) l f false false s t)))

-- by what a number is led to, its pair is found
led_holds : (es : List (ℕ × Pair)) (ls : List (Probe × ℕ)) (n : ℕ) (k : Probe) → IsIndex es ls → lookup (same_probe k) ls ≡ Some n → (r : Pair) → numbered n (values_of es) ≡ Some r → holds k r ≡ true
led_holds es ls n k h e r m = by (holder k (values_of es)) refl
  where
    by : (o : Option Pair) → holder k (values_of es) ≡ o → holds k r ≡ true
    by None f = absurd (none_is (sym (ap (option_map number_of) f) ∙ sym (h.indexed k) ∙ e))
    by (Some q) f =
        let i : Some q.number ≡ Some n = sym (ap (option_map number_of) f) ∙ sym (h.indexed k) ∙ e in
        let j : q.number ≡ n = grind arith in
        let g : numbered n (values_of es) ≡ Some q = subst (λ m. numbered m (values_of es) ≡ Some q) j (at_holder k (values_of es) q h.apart f) in
        let s : q ≡ r = some_is (sym g ∙ m) in
        subst (λ x. holds k x ≡ true) s (holder-holds k q (values_of es) f)

-- what the one that goes doesn't hold leads where it led
stays_led : (es : List (ℕ × Pair)) (ls : List (Probe × ℕ)) (n : ℕ) (k : Probe) → IsIndex es ls → ((r : Pair) → numbered n (values_of es) ≡ Some r → holds k r ≡ false) → lookup (same_probe k) ls ≡ option_map number_of (holder k (without n (values_of es)))
stays_led es ls n k h not_held = h.indexed k ∙ by (holder k (values_of es)) refl ∙ ap (option_map number_of) (sym (holder-filter (λ r. not (n == r.number)) k (values_of es) h.apart))
  where
    kept : (o : Option Pair) → holder k (values_of es) ≡ o → (r : Pair) → o ≡ Some r → (b : Bool) → (n == r.number) ≡ b → b ≡ false
    kept o f r g true e =
        let u : r.number ≡ n = grind arith in
        let m : numbered n (values_of es) ≡ Some r = subst (λ x. numbered x (values_of es) ≡ Some r) u (at_holder k (values_of es) r h.apart (f ∙ g)) in
        absurd (true≢false (sym (holder-holds k r (values_of es) (f ∙ g)) ∙ not_held r m))
    kept o f r g false e = refl

    by : (o : Option Pair) → holder k (values_of es) ≡ o → option_map number_of (holder k (values_of es)) ≡ option_map number_of (option_filter (λ r. not (n == r.number)) (holder k (values_of es)))
    by None f = rw f refl
    by (Some r) f = let g = kept (Some r) f r refl (n == r.number) refl in rw (f, g) refl

-- what it holds leads nowhere once it is gone
gone_led : (es : List (ℕ × Pair)) (ls : List (Probe × ℕ)) (n : ℕ) (k : Probe) (l : Pair) → IsIndex es ls → numbered n (values_of es) ≡ Some l → holds k l ≡ true → None ≡ option_map number_of (holder k (without n (values_of es)))
gone_led es ls n k l h m t =
    let f = held k n l (values_of es) h.apart m t in
    let e = number-found n l (values_of es) m in
    let none : option_filter (λ (r : Pair). not (n == r.number)) (holder k (values_of es)) ≡ None = rw (f, e) refl in
    sym (ap (option_map number_of) (holder-filter (λ r. not (n == r.number)) k (values_of es) h.apart ∙ none))

-- what the new pair holds leads to it, and the rest as told
led_by : (p : Pair) (k : Probe) (o : Option ℕ) (w : Option ℕ) → (holds k p ≡ false → o ≡ w) → cond (same_probe (back p) k) (Some p.number) (cond (same_probe (front p) k) (Some p.number) o) ≡ cond (holds k p) (Some p.number) w
led_by p k o w h = by (same_probe (back p) k) (same_probe (front p) k) refl refl
  where
    by : (b a : Bool) → same_probe (back p) k ≡ b → same_probe (front p) k ≡ a → cond (same_probe (back p) k) (Some p.number) (cond (same_probe (front p) k) (Some p.number) o) ≡ cond (holds k p) (Some p.number) w
    by true true y x = rw (y, x) refl
    by true false y x = rw (y, x) refl
    by false true y x = rw (y, x) refl
    by false false y x = let n : holds k p ≡ false = rw (x, y) refl in rw (y, x) (h n)

-- both probes of the new pair led to the one that goes: nothing else led there
pub led_both : (n : ℕ) (p : Pair) (es : List (ℕ × Pair)) (ls ms : List (Probe × ℕ)) → IsIndex (in_order es) ls → (p.number ≡ n → ⊥) → lookup (same_probe (front p)) ls ≡ Some n
    → cond (same_probe (front p) (back p)) (Some p.number) (lookup (same_probe (back p)) ls) ≡ Some n
    → ((k : Probe) → lookup (same_probe k) ms ≡ cond (same_probe (back p) k) (Some p.number) (cond (same_probe (front p) k) (Some p.number) (lookup (same_probe k) ls)))
    → (k : Probe) → lookup (same_probe k) ms ≡ cond (holds k p) (Some p.number) (option_map number_of (holder k (without n (values_of (in_order es)))))
led_both n p es ls ms h other f b u k = u k ∙ led_by p k _ _ (λ out. stays_led (in_order es) ls n k h (λ r m. no_third p r k two (led_holds (in_order es) ls n (front p) h f r m) (led_holds (in_order es) ls n (back p) h back-led r m) out))
  where
    two : same_probe (front p) (back p) ≡ false
    two = by (same_probe (front p) (back p)) refl
      where
        by : (c : Bool) → same_probe (front p) (back p) ≡ c → c ≡ false
        by true s =
            let e : Some p.number ≡ Some n = sym (ap (λ c. cond c (Some p.number) (lookup (same_probe (back p)) ls)) s) ∙ b in
            absurd (other (grind arith))
        by false s = refl

    back-led : lookup (same_probe (back p)) ls ≡ Some n
    back-led = sym (ap (λ c. cond c (Some p.number) (lookup (same_probe (back p)) ls)) two) ∙ b

-- what else the one that goes holds leads nowhere now
pub led_some : (n : ℕ) (p l : Pair) (es : List (ℕ × Pair)) (ls ms ns : List (Probe × ℕ)) → IsIndex (in_order es) ls → Some l ≡ lookup (nat_eq n) es
    → ((k : Probe) → lookup (same_probe k) ms ≡ cond (same_probe (back p) k) (Some p.number) (cond (same_probe (front p) k) (Some p.number) (lookup (same_probe k) ls)))
    → ((k : Probe) → lookup (same_probe k) ns ≡ cond (holds k p) (lookup (same_probe k) ms) (cond (holds k l) None (lookup (same_probe k) ms)))
    → (k : Probe) → lookup (same_probe k) ns ≡ cond (holds k p) (Some p.number) (option_map number_of (holder k (without n (values_of (in_order es)))))
led_some n p l es ls ms ns h e u v k = v k ∙ by (holds k p) (holds k l) refl refl
  where
    at : numbered n (values_of (in_order es)) ≡ Some l
    at = sym (at_number n (in_order es) h.keyed) ∙ lookup-in_order n es ∙ sym e

    led : (w : Option ℕ) → (holds k p ≡ false → lookup (same_probe k) ls ≡ w) → lookup (same_probe k) ms ≡ cond (holds k p) (Some p.number) w
    led w g = u k ∙ led_by p k (lookup (same_probe k) ls) w g

    by : (a b : Bool) → holds k p ≡ a → holds k l ≡ b → cond (holds k p) (lookup (same_probe k) ms) (cond (holds k l) None (lookup (same_probe k) ms)) ≡ cond (holds k p) (Some p.number) (option_map number_of (holder k (without n (values_of (in_order es)))))
    by true b x y =
        let g = led None (λ z. absurd (true≢false (sym x ∙ z))) in
        ap (λ c. cond c (lookup (same_probe k) ms) (cond (holds k l) None (lookup (same_probe k) ms))) x
        ∙ g ∙ ap (λ c. cond c (Some p.number) None) x ∙ sym (ap (λ c. cond c (Some p.number) (option_map number_of (holder k (without n (values_of (in_order es)))))) x)
    by false true x y = rw (x, y) (gone_led (in_order es) ls n k l h at y)
    by false false x y =
        let g = led (lookup (same_probe k) ls) (λ z. refl) in
        rw (x, y) (g ∙ ap (λ c. cond c (Some p.number) (lookup (same_probe k) ls)) x ∙ stays_led (in_order es) ls n k h (λ r m. subst (λ q. holds k q ≡ false) (some_is (sym at ∙ m)) y))

-- nobody goes
pub led_none : (n : ℕ) (p : Pair) (es : List (ℕ × Pair)) (ls ms : List (Probe × ℕ)) → IsIndex (in_order es) ls → None ≡ lookup (nat_eq n) es
    → ((k : Probe) → lookup (same_probe k) ms ≡ cond (same_probe (back p) k) (Some p.number) (cond (same_probe (front p) k) (Some p.number) (lookup (same_probe k) ls)))
    → (k : Probe) → lookup (same_probe k) ms ≡ cond (holds k p) (Some p.number) (option_map number_of (holder k (without n (values_of (in_order es)))))
led_none n p es ls ms h e u k =
    let at : numbered n (values_of (in_order es)) ≡ None = sym (at_number n (in_order es) h.keyed) ∙ lookup-in_order n es ∙ sym e in
    u k ∙ led_by p k _ _ (λ out. h.indexed k ∙ ap (λ l. option_map number_of (holder k l)) (sym (without-none n (values_of (in_order es)) at)))

-- all but one entry, in order
rest_is : (n : ℕ) (es fs : List (ℕ × Pair)) (ls : List (Probe × ℕ)) → IsIndex (in_order es) ls → IsDistinct nat_eq (keys_of fs)
    → ((q : ℕ) → lookup (nat_eq q) fs ≡ cond (n == q) None (lookup (nat_eq q) es))
    → in_order fs ≡ filter (λ e. not (n == e.1.number)) (in_order es)
rest_is n es fs ls h d u = taken n es fs h.keyed h.rising d u ∙ remove-filter n (in_order es) h.keyed h.apart

pub free_after : (n m : ℕ) (es fs : List (ℕ × Pair)) (ls : List (Probe × ℕ)) → IsIndex (in_order es) ls → IsDistinct nat_eq (keys_of fs)
    → ((q : ℕ) → lookup (nat_eq q) fs ≡ cond (n == q) None (lookup (nat_eq q) es)) → numbered m (without n (values_of (in_order es))) ≡ None → lookup (nat_eq m) fs ≡ None
free_after n m es fs ls h d u e =
    let k : keys_of (in_order fs) ≡ map number_of (values_of (in_order fs)) = rw (rest_is n es fs ls h d u) (keyed-filter (λ r. not (n == r.number)) (in_order es) h.keyed) in
    number_free m fs k (ap (numbered m) (taken-in_order n es fs ls h d u) ∙ e)

pub replaced-pairs : (n : ℕ) (p : Pair) (es fs : List (ℕ × Pair)) (ls : List (Probe × ℕ)) → IsIndex (in_order es) ls → IsDistinct nat_eq (keys_of fs)
    → ((q : ℕ) → lookup (nat_eq q) fs ≡ cond (n == q) None (lookup (nat_eq q) es)) → numbered p.number (without n (values_of (in_order es))) ≡ None
    → values_of (in_order (fs ++ (p.number, p) ∷ [])) ≡ put_by_number p (without n (values_of (in_order es)))
replaced-pairs n p es fs ls h d u e =
    let k : keys_of (in_order fs) ≡ map number_of (values_of (in_order fs)) = rw (rest_is n es fs ls h d u) (keyed-filter (λ r. not (n == r.number)) (in_order es) h.keyed) in
    ap values_of (in_order-push (p.number, p) fs (free_after n p.number es fs ls h d u e)) ∙ values-entered p (in_order fs) k ∙ ap (put_by_number p) (taken-in_order n es fs ls h d u)

pub replaced : (n : ℕ) (p : Pair) (es fs : List (ℕ × Pair)) (ls ms : List (Probe × ℕ)) → IsIndex (in_order es) ls → IsDistinct nat_eq (keys_of fs)
    → ((q : ℕ) → lookup (nat_eq q) fs ≡ cond (n == q) None (lookup (nat_eq q) es))
    → holder (front p) (without n (values_of (in_order es))) ≡ None → holder (back p) (without n (values_of (in_order es))) ≡ None
    → numbered p.number (without n (values_of (in_order es))) ≡ None → length (without n (values_of (in_order es))) < 2 ^ 32 - 1
    → ((k : Probe) → lookup (same_probe k) ms ≡ cond (holds k p) (Some p.number) (option_map number_of (holder k (without n (values_of (in_order es))))))
    → IsIndex (in_order (fs ++ (p.number, p) ∷ [])) ms
replaced n p es fs ls ms h d u f b m w led =
    rw (in_order-push (p.number, p) fs (free_after n p.number es fs ls h d u m))
    (added-by (in_order fs) p ms
    keyed
    (rw v (apart-filter (λ r. not (n == r.number)) (values_of (in_order es)) h.apart))
    (rw v (rising-filter (λ r. not (n == r.number)) (values_of (in_order es)) h.rising))
    (rw v f) (rw v b) (rw v m) (rw v w)
    (λ k. led k ∙ rw v (sym (led_by p k (option_map number_of (holder k (without n (values_of (in_order es))))) _ (λ out. refl)))))
  where
    v : values_of (in_order fs) ≡ without n (values_of (in_order es))
    v = taken-in_order n es fs ls h d u

    keyed : keys_of (in_order fs) ≡ map number_of (values_of (in_order fs))
    keyed = rw (rest_is n es fs ls h d u) (keyed-filter (λ r. not (n == r.number)) (in_order es) h.keyed)

-- what a pair holds leads nowhere, but for what the other holds
pub others_taken : (p l : Pair) (k : Probe) (o : Option ℕ)
    → cond (same_probe (back l) k) (cond (holds (back l) p) (cond (same_probe (front l) k) (cond (holds (front l) p) o None) o) None) (cond (same_probe (front l) k) (cond (holds (front l) p) o None) o) ≡ cond (holds k p) o (cond (holds k l) None o)
others_taken p l k o = by (same_probe (front l) k) (same_probe (back l) k) (holds k p) refl refl refl
  where
    by : (a b c : Bool) → same_probe (front l) k ≡ a → same_probe (back l) k ≡ b → holds k p ≡ c
        → cond (same_probe (back l) k) (cond (holds (back l) p) (cond (same_probe (front l) k) (cond (holds (front l) p) o None) o) None) (cond (same_probe (front l) k) (cond (holds (front l) p) o None) o) ≡ cond (holds k p) o (cond (holds k l) None o)
    by true true true x y z =
        let i : holds (front l) p ≡ true = ap (λ q. holds q p) (same_is (front l) k x) ∙ z in
        let j : holds (back l) p ≡ true = ap (λ q. holds q p) (same_is (back l) k y) ∙ z in
        rw (i, j, x, y, z) refl
    by true true false x y z =
        let j : holds (back l) p ≡ false = ap (λ q. holds q p) (same_is (back l) k y) ∙ z in
        rw (j, x, y, z) refl
    by true false true x y z =
        let i : holds (front l) p ≡ true = ap (λ q. holds q p) (same_is (front l) k x) ∙ z in
        rw (i, x, y, z) refl
    by true false false x y z =
        let i : holds (front l) p ≡ false = ap (λ q. holds q p) (same_is (front l) k x) ∙ z in
        rw (i, x, y, z) refl
    by false true true x y z =
        let j : holds (back l) p ≡ true = ap (λ q. holds q p) (same_is (back l) k y) ∙ z in
        rw (j, x, y, z) refl
    by false true false x y z =
        let j : holds (back l) p ≡ false = ap (λ q. holds q p) (same_is (back l) k y) ∙ z in
        rw (j, x, y, z) refl
    by false false true x y z = rw (x, y, z) refl
    by false false false x y z = rw (x, y, z) refl
