-- Of the order of numbers, and of how many pairs there are.
use Rattle.std.proofs.Common.{suc, ◌≡◌, ◌<◌, ◌≤◌, ◌+◌, ◌-◌, ◌^◌, ℕ, ◌==◌, nat_le, Bool, true, false, not, if◌then◌else◌, List, [], ◌∷◌, ◌++◌, filter, length, None, Some, refl, sym, ap, ◌∙◌, arith}
use Rattle.std.specs.Map.{values_of}
use Rattle.vsw_base.specs.declared.flow.Track.{Track}
use Rattle.vsw_layerflow.specs.declared.pair.Pair.{Pair}
use Rattle.vsw_layerflow.specs.Pairs.{numbered, touched, put_by_number, AllBelow, AllAbove, AreRising}

pub below_new : (n : ℕ) (ps : List Pair) → AllBelow n ps → numbered n ps ≡ None
below_new n [] h = refl
below_new n (p ∷ ps) h = let i : p.number < n = h.0 in let e : (n == p.number) ≡ false = grind arith in rw (e, below_new n ps h.1) refl

-- who hasn't a number that is free has another
pub other_number : (n : ℕ) (ps : List Pair) (q : Pair) → numbered n (q ∷ ps) ≡ None → (n == q.number) ≡ false
other_number n ps q e = by (n == q.number) refl
  where
    by : (b : Bool) → (n == q.number) ≡ b → b ≡ false
    by true t = grind arith
    by false f = refl

pub other_number-rest : (n : ℕ) (ps : List Pair) (q : Pair) → numbered n (q ∷ ps) ≡ None → numbered n ps ≡ None
other_number-rest n ps q e = let f = other_number n ps q e in sym (ap (λ b. if b then Some q else numbered n ps) f) ∙ e

above-less : (n m : ℕ) (ps : List Pair) → n < m → AllAbove m ps → AllAbove n ps
above-less n m [] i h = tt
above-less n m (p ∷ ps) i h = let j : m < p.number = h.0 in (grind arith, above-less n m ps i h.1)

above-put : (n : ℕ) (p : Pair) (ps : List Pair) → n < p.number → AllAbove n ps → AllAbove n (put_by_number p ps)
above-put n p [] i h = (i, tt)
above-put n p (q ∷ ps) i h =
    let ih = above-put n p ps i h.1 in
    elim (nat_le p.number q.number) as (λ b. AllAbove n (if b then p ∷ q ∷ ps else q ∷ put_by_number p ps)) [ true ↦ (i, h) | false ↦ (h.0, ih) ]

pub rising-put : (p : Pair) (ps : List Pair) → AreRising ps → numbered p.number ps ≡ None → AreRising (put_by_number p ps)
rising-put p [] h n = (tt, tt)
rising-put p (q ∷ ps) h n = by (nat_le p.number q.number) refl (rising-put p ps h.1 (other_number-rest p.number ps q n))
  where
    by : (b : Bool) → nat_le p.number q.number ≡ b → AreRising (put_by_number p ps) → AreRising (if b then p ∷ q ∷ ps else q ∷ put_by_number p ps)
    by true s ih =
        let other = other_number p.number ps q n in
        let i : p.number < q.number = grind arith in
        ((i, above-less p.number q.number ps i h.0), h)
    by false s ih = let i : q.number < p.number = grind arith in (above-put q.number p ps i h.0, ih)

-- the greatest number goes last
pub put-last : (p : Pair) (ps : List Pair) → AllBelow p.number ps → put_by_number p ps ≡ ps ++ p ∷ []
put-last p [] h = refl
put-last p (q ∷ ps) h =
    let i : q.number < p.number = h.0 in
    let w : nat_le p.number q.number ≡ false = grind arith in
    rw (w, put-last p ps h.1) refl

above-filter : (f : Pair → Bool) (n : ℕ) (ps : List Pair) → AllAbove n ps → AllAbove n (filter f ps)
above-filter f n [] h = tt
above-filter f n (p ∷ ps) h = by (f p) refl (above-filter f n ps h.1)
  where
    by : (c : Bool) → f p ≡ c → AllAbove n (filter f ps) → AllAbove n (filter f (p ∷ ps))
    by true t ih = rw t (h.0, ih)
    by false t ih = rw t ih

pub rising-filter : (f : Pair → Bool) (ps : List Pair) → AreRising ps → AreRising (filter f ps)
rising-filter f [] h = tt
rising-filter f (p ∷ ps) h = by (f p) refl (rising-filter f ps h.1)
  where
    by : (c : Bool) → f p ≡ c → AreRising (filter f ps) → AreRising (filter f (p ∷ ps))
    by true t ih = rw t (above-filter f p.number ps h.0, ih)
    by false t ih = rw t ih

above-touched : (n : ℕ) (t : Track) (m k : ℕ) (ps : List Pair) → AllAbove k ps → AllAbove k (touched n t m ps)
above-touched n t m k [] h = tt
above-touched n t m k (p ∷ ps) h = (h.0, above-touched n t m k ps h.1)

pub rising-touched : (n : ℕ) (t : Track) (m : ℕ) (ps : List Pair) → AreRising ps → AreRising (touched n t m ps)
rising-touched n t m [] h = tt
rising-touched n t m (p ∷ ps) h = (above-touched n t m p.number ps h.0, rising-touched n t m ps h.1)

pub length-touched : (n : ℕ) (t : Track) (m : ℕ) (ps : List Pair) → length (touched n t m ps) ≡ length ps
length-touched n t m [] = refl
length-touched n t m (p ∷ ps) = ap (λ l. suc l) (length-touched n t m ps)

length-put : (p : Pair) (ps : List Pair) → length (put_by_number p ps) ≡ suc (length ps)
length-put p [] = refl
length-put p (q ∷ ps) =
    let ih = length-put p ps in
    elim (nat_le p.number q.number) as (λ b. length (if b then p ∷ q ∷ ps else q ∷ put_by_number p ps) ≡ suc (suc (length ps))) [ true ↦ refl | false ↦ ap (λ l. suc l) ih ]

pub few-put : (p : Pair) (ps : List Pair) → length ps < 2 ^ 32 - 1 → length (put_by_number p ps) < 2 ^ 32
few-put p ps h = let e = length-put p ps in rw e (grind arith)

one_more : (a b c : ℕ) → a + b ≡ c → a + suc b ≡ suc c
one_more a b c e = grind arith

one_first : (a b c : ℕ) → a + b ≡ c → suc a + b ≡ suc c
one_first a b c e = grind arith

-- who stays and who goes are all
pub length-parts : (f : Pair → Bool) (ps : List Pair) → length (filter (λ p. not (f p)) ps) + length (filter f ps) ≡ length ps
length-parts f [] = refl
length-parts f (p ∷ ps) = by (f p) refl (length-parts f ps)
  where
    by : (c : Bool) → f p ≡ c → length (filter (λ p. not (f p)) ps) + length (filter f ps) ≡ length ps → length (filter (λ p. not (f p)) (p ∷ ps)) + length (filter f (p ∷ ps)) ≡ length (p ∷ ps)
    by true t ih = let a = one_more _ _ _ ih in rw t a
    by false t ih = let a = one_first _ _ _ ih in rw t a

pub length-filter : (f : Pair → Bool) (ps : List Pair) → length (filter f ps) ≤ length ps
length-filter f ps = let e = length-parts f ps in grind arith

pub few-filter : (f : Pair → Bool) (ps : List Pair) → length ps < 2 ^ 32 → length (filter f ps) < 2 ^ 32
few-filter f ps h = let i = length-filter f ps in grind arith

pub length-values : (es : List (ℕ × Pair)) → length (values_of es) ≡ length es
length-values [] = refl
length-values (e ∷ es) = ap (λ l. suc l) (length-values es)

entries-parts : (f : Pair → Bool) (es : List (ℕ × Pair)) → length (filter (λ e. not (f e.1)) es) + length (filter f (values_of es)) ≡ length es
entries-parts f [] = refl
entries-parts f (e ∷ es) = by (f e.1) refl (entries-parts f es)
  where
    by : (c : Bool) → f e.1 ≡ c → length (filter (λ e. not (f e.1)) es) + length (filter f (values_of es)) ≡ length es → length (filter (λ e. not (f e.1)) (e ∷ es)) + length (filter f (values_of (e ∷ es))) ≡ length (e ∷ es)
    by true t ih = let a = one_more _ _ _ ih in rw t a
    by false t ih = let a = one_first _ _ _ ih in rw t a

-- how many went, by how many there were and are
pub counted : (f : Pair → Bool) (es fs : List (ℕ × Pair)) (before after : ℕ) → before ≡ length es → after ≡ length fs → fs ≡ filter (λ e. not (f e.1)) es
    → (after ≤ before) × (before - after ≡ length (filter f (values_of es)))
counted f es fs before after b a e =
    let s : after ≡ length (filter (λ e. not (f e.1)) es) = a ∙ ap length e in
    let p = entries-parts f es in
    (grind arith, grind arith)

pub below_next : (n : ℕ) (ps : List Pair) → AllBelow n ps → AllBelow (n + 1) ps
below_next n [] h = tt
below_next n (p ∷ ps) h = let i : p.number < n = h.0 in (grind arith, below_next n ps h.1)

-- a counter that numbers the pairs stays above them
pub below_push : (ps : List Pair) (p : Pair) → AllBelow p.number ps → AllBelow (p.number + 1) (ps ++ p ∷ [])
below_push [] p h = (grind arith, tt)
below_push (q ∷ ps) p h = let i : q.number < p.number = h.0 in (grind arith, below_push ps p h.1)

pub below_filter : (f : Pair → Bool) (n : ℕ) (ps : List Pair) → AllBelow n ps → AllBelow n (filter f ps)
below_filter f n [] h = tt
below_filter f n (p ∷ ps) h = by (f p) refl (below_filter f n ps h.1)
  where
    by : (c : Bool) → f p ≡ c → AllBelow n (filter f ps) → AllBelow n (filter f (p ∷ ps))
    by true t ih = rw t (h.0, ih)
    by false t ih = rw t ih
