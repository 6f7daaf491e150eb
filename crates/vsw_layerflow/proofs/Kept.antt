-- The two maps after some of the pairs went.
use Rattle.std.proofs.Common.{◌≡◌, ℕ, ◌==◌, nat_eq, Bool, true, false, not, cond, if◌then◌else◌, ◌||◌, List, [], ◌∷◌, filter, map, Option, None, Some, option_map, refl, sym, ap, ◌∙◌, arith, true≢false, is_some}
use Rattle.std.specs.Map.{keys_of, values_of, lookup, remove_entry}
use Rattle.std.proofs.lemmas.Map.Entries.{option_filter}
use Rattle.vsw_layerflow.specs.declared.pair.Probe.{Probe}
use Rattle.vsw_layerflow.specs.declared.pair.Pair.{Pair}
use Rattle.vsw_layerflow.specs.Pairs.{front, back, same_probe, holds, holder, numbered, without, number_of, AllApart}
use Rattle.vsw_layerflow.specs.Index.{IsIndex}
use Rattle.vsw_layerflow.proofs.Order.{rising-filter, few-filter, other_number, other_number-rest}
use Rattle.vsw_layerflow.proofs.Lists.{head_is, tail_is, at_number, at_holder, same_is}
use Rattle.vsw_layerflow.proofs.Moved.{some_is}

-- who holds a probe leaves it free in the rest
free-rest : (k : Probe) (p : Pair) (ps : List Pair) → AllApart (p ∷ ps) → holds k p ≡ true → holder k ps ≡ None
free-rest k p ps h e = by (same_probe (front p) k) refl
  where
    by : (b : Bool) → same_probe (front p) k ≡ b → holder k ps ≡ None
    by true t = rw (← same_is (front p) k t) h.0
    by false f =
        let g : same_probe (back p) k ≡ true = sym (ap (λ b. b || same_probe (back p) k) f) ∙ e in
        rw (← same_is (back p) k g) h.1

pub holder-filter : (f : Pair → Bool) (k : Probe) (ps : List Pair) → AllApart ps → holder k (filter f ps) ≡ option_filter f (holder k ps)
holder-filter f k [] h = refl
holder-filter f k (p ∷ ps) h = by (holds k p) (f p) refl refl (holder-filter f k ps h.3)
  where
    by : (b c : Bool) → holds k p ≡ b → f p ≡ c → holder k (filter f ps) ≡ option_filter f (holder k ps) → holder k (filter f (p ∷ ps)) ≡ option_filter f (holder k (p ∷ ps))
    by true true s t ih = rw (t, s, t) refl
    by true false s t ih = let n = free-rest k p ps h s in rw (t, s, t, ih, n) refl
    by false true s t ih = rw (t, s) ih
    by false false s t ih = rw (t, s) ih

numbered-filter : (f : Pair → Bool) (n : ℕ) (ps : List Pair) → AllApart ps → numbered n (filter f ps) ≡ option_filter f (numbered n ps)
numbered-filter f n [] h = refl
numbered-filter f n (p ∷ ps) h = by (n == p.number) (f p) refl refl (numbered-filter f n ps h.3)
  where
    by : (b c : Bool) → (n == p.number) ≡ b → f p ≡ c → numbered n (filter f ps) ≡ option_filter f (numbered n ps) → numbered n (filter f (p ∷ ps)) ≡ option_filter f (numbered n (p ∷ ps))
    by true true s t ih = rw (t, s, t) refl
    by true false s t ih =
        let u : n ≡ p.number = grind arith in
        let m : numbered n ps ≡ None = rw u h.2 in
        rw (t, s, t, ih, m) refl
    by false true s t ih = rw (t, s) ih
    by false false s t ih = rw (t, s) ih

pub apart-filter : (f : Pair → Bool) (ps : List Pair) → AllApart ps → AllApart (filter f ps)
apart-filter f [] h = tt
apart-filter f (p ∷ ps) h = by (f p) refl (apart-filter f ps h.3)
  where
    by : (c : Bool) → f p ≡ c → AllApart (filter f ps) → AllApart (filter f (p ∷ ps))
    by true t ih = rw t (holder-filter f (front p) ps h.3 ∙ rw h.0 refl, holder-filter f (back p) ps h.3 ∙ rw h.1 refl, numbered-filter f p.number ps h.3 ∙ rw h.2 refl, ih)
    by false t ih = rw t ih

pub values-filter : (f : Pair → Bool) (es : List (ℕ × Pair)) → values_of (filter (λ e. f e.1) es) ≡ filter f (values_of es)
values-filter f [] = refl
values-filter f (e ∷ es) = by (f e.1) refl (values-filter f es)
  where
    by : (c : Bool) → f e.1 ≡ c → values_of (filter (λ e. f e.1) es) ≡ filter f (values_of es) → values_of (filter (λ e. f e.1) (e ∷ es)) ≡ filter f (values_of (e ∷ es))
    by true t ih = rw (t, ih) refl
    by false t ih = rw t ih

pub keyed-filter : (f : Pair → Bool) (es : List (ℕ × Pair)) → keys_of es ≡ map number_of (values_of es) → keys_of (filter (λ e. f e.1) es) ≡ map number_of (values_of (filter (λ e. f e.1) es))
keyed-filter f [] h = refl
keyed-filter f (e ∷ es) h = by (f e.1) refl (keyed-filter f es (tail_is h))
  where
    by : (c : Bool) → f e.1 ≡ c → keys_of (filter (λ e. f e.1) es) ≡ map number_of (values_of (filter (λ e. f e.1) es)) → keys_of (filter (λ e. f e.1) (e ∷ es)) ≡ map number_of (values_of (filter (λ e. f e.1) (e ∷ es)))
    by true t ih = let i : e.0 ≡ e.1.number = head_is h in rw (t, i, ih) refl
    by false t ih = rw t ih

-- after some pairs went, and each probe that led to a number that went
pub kept : (f : Pair → Bool) (es fs : List (ℕ × Pair)) (ls ms : List (Probe × ℕ)) → IsIndex es ls → fs ≡ filter (λ e. f e.1) es
    → ((q : Probe) (p : Pair) → holder q (values_of es) ≡ Some p → lookup (same_probe q) ms ≡ option_filter (λ n. f p) (Some p.number))
    → ((q : Probe) → holder q (values_of es) ≡ None → lookup (same_probe q) ms ≡ None)
    → IsIndex fs ms × (values_of fs ≡ filter f (values_of es))
kept f es fs ls ms h e some none =
    let v : values_of fs ≡ filter f (values_of es) = ap values_of e ∙ values-filter f es in (
      record {
        keyed = rw e (keyed-filter f es h.keyed);
        indexed = λ q. rw (v, holder-filter f q (values_of es) h.apart) (by q (holder q (values_of es)) refl);
        apart = rw v (apart-filter f (values_of es) h.apart);
        rising = rw v (rising-filter f (values_of es) h.rising);
        few = rw v (few-filter f (values_of es) h.few);
      },
      v,
    )
  where
    by : (q : Probe) (o : Option Pair) → holder q (values_of es) ≡ o → lookup (same_probe q) ms ≡ option_map number_of (option_filter f o)
    by q None s = none q s
    by q (Some p) s = some q p s ∙ elim (f p) as (λ b. cond b (Some p.number) None ≡ option_map number_of (cond b (Some p) None)) [ true ↦ refl | false ↦ refl ]

pub held : (k : Probe) (n : ℕ) (p : Pair) (ps : List Pair) → AllApart ps → numbered n ps ≡ Some p → holds k p ≡ true → holder k ps ≡ Some p
held k n p [] h e t = grind arith
held k n p (q ∷ ps) h e t = by (n == q.number) (holds k q) refl refl (λ g. held k n p ps h.3 g t)
  where
    by : (b c : Bool) → (n == q.number) ≡ b → holds k q ≡ c → (numbered n ps ≡ Some p → holder k ps ≡ Some p) → holder k (q ∷ ps) ≡ Some p
    by true c s u ih =
        let i : q ≡ p = some_is (sym (ap (λ b. if b then Some q else numbered n ps) s) ∙ e) in
        rw (i, t) refl
    by false true s u ih =
        let g = ih (sym (ap (λ b. if b then Some q else numbered n ps) s) ∙ e) in
        let z = free-rest k q ps h u in
        grind arith
    by false false s u ih = rw u (ih (sym (ap (λ b. if b then Some q else numbered n ps) s) ∙ e))

none-without : (n : ℕ) (es : List (ℕ × Pair)) → numbered n (values_of es) ≡ None → filter (λ e. not (n == e.1.number)) es ≡ es
none-without n [] h = refl
none-without n (e ∷ es) h = rw (other_number n (values_of es) e.1 h, none-without n es (other_number-rest n (values_of es) e.1 h)) refl

pub remove-filter : (n : ℕ) (es : List (ℕ × Pair)) → keys_of es ≡ map number_of (values_of es) → AllApart (values_of es) → remove_entry (nat_eq n) es ≡ filter (λ e. not (n == e.1.number)) es
remove-filter n [] h a = refl
remove-filter n (e ∷ es) h a = by (n == e.1.number) refl (remove-filter n es (tail_is h) a.3)
  where
    i : e.0 ≡ e.1.number
    i = head_is h

    by : (b : Bool) → (n == e.1.number) ≡ b → remove_entry (nat_eq n) es ≡ filter (λ e. not (n == e.1.number)) es → remove_entry (nat_eq n) (e ∷ es) ≡ filter (λ e. not (n == e.1.number)) (e ∷ es)
    by true s ih =
        let u : n ≡ e.1.number = grind arith in
        let m : numbered n (values_of es) ≡ None = rw u a.2 in
        rw (i, s, none-without n es m) refl
    by false s ih = rw (i, s, ih) refl

pub number-found : (n : ℕ) (p : Pair) (ps : List Pair) → numbered n ps ≡ Some p → (n == p.number) ≡ true
number-found n p [] e = grind arith
number-found n p (q ∷ ps) e = by (n == q.number) refl (number-found n p ps)
  where
    by : (b : Bool) → (n == q.number) ≡ b → (numbered n ps ≡ Some p → (n == p.number) ≡ true) → (n == p.number) ≡ true
    by true s ih =
        let i : q ≡ p = some_is (sym (ap (λ b. if b then Some q else numbered n ps) s) ∙ e) in
        rw (← i) s
    by false s ih = ih (sym (ap (λ b. if b then Some q else numbered n ps) s) ∙ e)

pub holder-holds : (k : Probe) (p : Pair) (ps : List Pair) → holder k ps ≡ Some p → holds k p ≡ true
holder-holds k p [] e = grind arith
holder-holds k p (q ∷ ps) e = by (holds k q) refl (holder-holds k p ps)
  where
    by : (b : Bool) → holds k q ≡ b → (holder k ps ≡ Some p → holds k p ≡ true) → holds k p ≡ true
    by true s ih =
        let i : q ≡ p = some_is (sym (ap (λ b. if b then Some q else holder k ps) s) ∙ e) in
        rw (← i) s
    by false s ih = ih (sym (ap (λ b. if b then Some q else holder k ps) s) ∙ e)

or_right : (a b : Bool) → b ≡ true → (a || b) ≡ true
or_right true b e = refl
or_right false b e = e

or_left : (a b : Bool) → a ≡ true → (a || b) ≡ true
or_left a b e = rw e refl

-- after one pair went, and both probes of it
pub removed : (n : ℕ) (p : Pair) (es : List (ℕ × Pair)) (ls ms : List (Probe × ℕ)) → IsIndex es ls → lookup (nat_eq n) es ≡ Some p
    → ((q : Probe) → lookup (same_probe q) ms ≡ cond (same_probe (back p) q) None (cond (same_probe (front p) q) None (lookup (same_probe q) ls)))
    → IsIndex (remove_entry (nat_eq n) es) ms
removed n p es ls ms h e u = (kept (λ r. not (n == r.number)) es (remove_entry (nat_eq n) es) ls ms h (remove-filter n es h.keyed h.apart) some none).0
  where
    at : numbered n (values_of es) ≡ Some p
    at = sym (at_number n es h.keyed) ∙ e

    free : (b c : Bool) → cond b None (cond c None (option_map number_of None)) ≡ None
    free true c = refl
    free false true = refl
    free false false = refl

    none : (q : Probe) → holder q (values_of es) ≡ None → lookup (same_probe q) ms ≡ None
    none q s = u q ∙ rw (h.indexed q, s) (free (same_probe (back p) q) (same_probe (front p) q))

    gone : (q : Probe) (r : Pair) → holder q (values_of es) ≡ Some r → holds q p ≡ true → (n == r.number) ≡ true
    gone q r s t =
        let i : p ≡ r = some_is (sym (held q n p (values_of es) h.apart at t) ∙ s) in
        ap (λ x. n == number_of x) (sym i) ∙ number-found n p (values_of es) at

    by : (q : Probe) (r : Pair) → holder q (values_of es) ≡ Some r → (b c d : Bool) → same_probe (back p) q ≡ b → same_probe (front p) q ≡ c → (n == r.number) ≡ d → cond b None (cond c None (Some r.number)) ≡ cond (not d) (Some r.number) None
    by q r s true c d x y z =
        let k : d ≡ true = sym z ∙ gone q r s (or_right (same_probe (front p) q) (same_probe (back p) q) x) in
        rw k refl
    by q r s false true d x y z =
        let k : d ≡ true = sym z ∙ gone q r s (or_left (same_probe (front p) q) (same_probe (back p) q) y) in
        rw k refl
    by q r s false false true x y z =
        let k : n ≡ r.number = grind arith in
        let m : numbered n (values_of es) ≡ Some r = rw k (at_holder q (values_of es) r h.apart s) in
        let i : r ≡ p = some_is (sym m ∙ at) in
        let t : holds q p ≡ true = rw (← i) (holder-holds q r (values_of es) s) in
        let f : holds q p ≡ false = rw (x, y) refl in
        absurd (true≢false (sym t ∙ f))
    by q r s false false false x y z = refl

    some : (q : Probe) (r : Pair) → holder q (values_of es) ≡ Some r → lookup (same_probe q) ms ≡ option_filter (λ m. not (n == r.number)) (Some r.number)
    some q r s = u q ∙ rw (h.indexed q, s) (by q r s (same_probe (back p) q) (same_probe (front p) q) (n == r.number) refl refl refl)

pub without-none : (n : ℕ) (ps : List Pair) → numbered n ps ≡ None → without n ps ≡ ps
without-none n [] h = refl
without-none n (p ∷ ps) h = rw (other_number n ps p h, without-none n ps (other_number-rest n ps p h)) refl

-- after pairs went, and each probe whose number went
pub swept : (f : Pair → Bool) (es fs : List (ℕ × Pair)) (ls ms : List (Probe × ℕ)) → IsIndex es ls → fs ≡ filter (λ e. f e.1) es
    → ((q : Probe) → lookup (same_probe q) ms ≡ option_filter (λ n. is_some (lookup (nat_eq n) fs)) (lookup (same_probe q) ls))
    → IsIndex fs ms × (values_of fs ≡ filter f (values_of es))
swept f es fs ls ms h e u = kept f es fs ls ms h e some none
  where
    v : values_of fs ≡ filter f (values_of es)
    v = ap values_of e ∙ values-filter f es

    k : keys_of fs ≡ map number_of (values_of fs)
    k = rw e (keyed-filter f es h.keyed)

    there : (b : Bool) (p : Pair) → is_some (cond b (Some p) None) ≡ b
    there true p = refl
    there false p = refl

    none : (q : Probe) → holder q (values_of es) ≡ None → lookup (same_probe q) ms ≡ None
    none q s = u q ∙ rw (h.indexed q, s) refl

    some : (q : Probe) (p : Pair) → holder q (values_of es) ≡ Some p → lookup (same_probe q) ms ≡ option_filter (λ n. f p) (Some p.number)
    some q p s =
        let a = at_holder q (values_of es) p h.apart s in
        let n : lookup (nat_eq p.number) fs ≡ option_filter f (Some p) = at_number p.number fs k ∙ rw v (numbered-filter f p.number (values_of es) h.apart ∙ rw a refl) in
        let b : is_some (lookup (nat_eq p.number) fs) ≡ f p = rw n (there (f p) p) in
        u q ∙ rw (h.indexed q, s) (ap (λ x. cond x (Some p.number) None) b)
