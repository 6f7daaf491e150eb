-- Sums over the lines of a port are sums over its calls.
use Rattle.std.proofs.Common.{◌≡◌, ◌<◌, ◌≤◌, ◌+◌, ◌-◌, ◌==◌, ◌&&◌, not, ℕ, zero, suc, Bool, true, false, if◌then◌else◌, List, [], ◌∷◌, ◌++◌, length, map, filter, refl, ap, ap₂, sym, ◌∙◌, arith, eq-eqb, ne_eqb}
use Rattle.std.specs.List.{flat_map}
use native.Mathlib.Decide.{ℕ_discrete}
use Rattle.vsw_port.specs.declared.event.Event.{Event}
use Rattle.vsw_port.specs.Calls.{Call, Deed, Carried, Asked, InOrder, calls_of, doer, next_count}
use Rattle.vsw_port.specs.History.{Opening}
use Rattle.vsw_port.specs.Next.{Goes}
use Rattle.vsw_policy.specs.Sound.{Each}
use Rattle.vsw_promise.specs.Summary.{total}
use Rattle.vsw_promise.specs.Told.{callers, entry_at, in_told_order, reads_at, reads_by_caller}
use Rattle.vsw_history_law.specs.MergingLaw.{IsKnown}
use Rattle.vsw_history_law.proofs.MergingCallers.{one_doer}

-- ---- sums

pub total_append : {A : Type 0} (f : A → ℕ) (xs ys : List A) → total f (xs ++ ys) ≡ total f xs + total f ys
total_append f [] ys = omega arith
total_append f (x ∷ xs) ys = omega (arith, total_append f xs ys)

pub total_map : {A B : Type 0} (f : B → ℕ) (g : A → B) (xs : List A) → total f (map g xs) ≡ total (λ x. f (g x)) xs
total_map f g [] = refl
total_map f g (x ∷ xs) = ap (λ n. f (g x) + n) (total_map f g xs)

pub total_same : {A : Type 0} (f g : A → ℕ) (xs : List A) → ((x : A) → f x ≡ g x) → total f xs ≡ total g xs
total_same f g [] e = refl
total_same f g (x ∷ xs) e = ap₂ (λ m n. m + n) (e x) (total_same f g xs e)

total_sum : {A : Type 0} (f g : A → ℕ) (xs : List A) → total (λ x. f x + g x) xs ≡ total f xs + total g xs
total_sum f g [] = refl
total_sum f g (x ∷ xs) = omega (arith, total_sum f g xs)

-- ---- at one count

-- a call's number, where it is a read at this count; where it is the entry of it
abbrev read_value : (Call → ℕ) → ℕ → Call → ℕ
read_value f n c = if not c.entry && (c.count == n) then f c else 0

abbrev entry_value : (Call → ℕ) → ℕ → Call → ℕ
entry_value f n c = if c.entry && (c.count == n) then f c else 0

filter_value : (f : Call → ℕ) (p : Call → Bool) (calls : List Call) → total f (filter p calls) ≡ total (λ c. if p c then f c else 0) calls
filter_value f p [] = refl
filter_value f p (c ∷ calls) = by (p c) (filter_value f p calls)
  where
    by : (b : Bool) → total f (filter p calls) ≡ total (λ c. if p c then f c else 0) calls → total f (if b then c ∷ filter p calls else filter p calls) ≡ (if b then f c else 0) + total (λ c. if p c then f c else 0) calls
    by true ih = ap (λ n. f c + n) ih
    by false ih = omega (arith, ih)

-- what lists of callers hold in two parts
flat_parts : (f : Call → ℕ) (g h k : ℕ → List Call) (ks : List ℕ) → ((i : ℕ) → total f (g i) ≡ total f (h i) + total f (k i)) → total f (flat_map g ks) ≡ total f (flat_map h ks) + total f (flat_map k ks)
flat_parts f g h k [] e = refl
flat_parts f g h k (i ∷ ks) e = omega (arith, total_append f (g i) (flat_map g ks), total_append f (h i) (flat_map h ks), total_append f (k i) (flat_map k ks), e i, flat_parts f g h k ks e)

-- the reads of a caller: those among the first call and those among the others
reads_parts : (f : Call → ℕ) (cs : List ℕ) (n i : ℕ) (c : Call) (calls : List Call) → total f (reads_at n (calls_of cs i (c ∷ calls))) ≡ total f (reads_at n (calls_of cs i (c ∷ []))) + total f (reads_at n (calls_of cs i calls))
reads_parts f cs n i c calls = by (doer cs c.deed == i) (not c.entry && (c.count == n)) refl
  where
    by : (a b : Bool) → (not c.entry && (c.count == n)) ≡ b → total f (reads_at n (if a then c ∷ calls_of cs i calls else calls_of cs i calls)) ≡ total f (reads_at n (if a then c ∷ [] else [])) + total f (reads_at n (calls_of cs i calls))
    by false b e = omega arith
    by true true e = rw e (omega arith)
    by true false e = rw e (omega arith)

own_call : (cs : List ℕ) (c : Call) → calls_of cs (doer cs c.deed) (c ∷ []) ≡ c ∷ []
own_call cs c = let t : (doer cs c.deed == doer cs c.deed) ≡ true = eq-eqb (doer cs c.deed) (doer cs c.deed) refl in rw t refl

other_call : (cs : List ℕ) (c : Call) (n k : ℕ) → (k ≡ doer cs c.deed → ⊥) → reads_at n (calls_of cs k (c ∷ [])) ≡ []
other_call cs c n k ne = let t : (doer cs c.deed == k) ≡ false = ne_eqb (doer cs c.deed) k (λ e. ne (sym e)) in rw t refl

known_most : (workers : ℕ) (cs : List ℕ) (d : Deed) → workers ≤ 16 → IsKnown workers cs d → IsKnown 16 cs d
known_most workers cs (Carried x parts fate bytes) few k = omega (arith, few, k)
known_most workers cs (Asked l reply) few k = k

one_read : (f : Call → ℕ) (cs : List ℕ) (workers n : ℕ) (c : Call) → workers ≤ 16 → IsKnown workers cs c.deed → total f (reads_by_caller cs n (c ∷ [])) ≡ read_value f n c
one_read f cs workers n c few known =
    ap (total f) (one_doer (λ k. reads_at n (calls_of cs k (c ∷ []))) cs 16 c.deed (omega arith) (known_most workers cs c.deed few known) (λ j ne. other_call cs c n j ne) ∙ ap (reads_at n) (own_call cs c))
    ∙ (filter_value f (λ c. not c.entry && (c.count == n)) (c ∷ []) ∙ plus_none (read_value f n c))
  where
    plus_none : (m : ℕ) → m + 0 ≡ m
    plus_none m = omega arith

reads_value : (f : Call → ℕ) (cs : List ℕ) (workers n : ℕ) (calls : List Call) → workers ≤ 16 → Each (λ c. IsKnown workers cs c.deed) calls → total f (reads_by_caller cs n calls) ≡ total (read_value f n) calls
reads_value f cs workers n [] few known = none (callers cs)
  where
    none : (ks : List ℕ) → total f (flat_map (λ k. reads_at n (calls_of cs k [])) ks) ≡ 0
    none [] = refl
    none (k ∷ ks) = none ks
reads_value f cs workers n (c ∷ calls) few known =
    flat_parts f (λ k. reads_at n (calls_of cs k (c ∷ calls))) (λ k. reads_at n (calls_of cs k (c ∷ []))) (λ k. reads_at n (calls_of cs k calls)) (callers cs) (λ i. reads_parts f cs n i c calls)
    ∙ ap₂ (λ x y. x + y) (one_read f cs workers n c few known.0) (reads_value f cs workers n calls few known.1)

-- ---- over all counts

-- a call's number, as often as the call is told from this count on, at as many more counts
abbrev value : (Call → ℕ) → ℕ → ℕ → Call → ℕ
value f n zero c = read_value f n c
value f n (suc m) c = read_value f n c + (entry_value f n c + value f (suc n) m c)

told_value : (f : Call → ℕ) (cs : List ℕ) (workers n m : ℕ) (calls : List Call) → workers ≤ 16 → Each (λ c. IsKnown workers cs c.deed) calls → total f (in_told_order cs calls n m) ≡ total (value f n m) calls
told_value f cs workers n zero calls few known = reads_value f cs workers n calls few known
told_value f cs workers n (suc m) calls few known =
    total_append f (reads_by_caller cs n calls) (entry_at n calls ++ in_told_order cs calls (suc n) m)
    ∙ (ap₂ (λ x y. x + y) (reads_value f cs workers n calls few known) (total_append f (entry_at n calls) (in_told_order cs calls (suc n) m) ∙ ap₂ (λ x y. x + y) (filter_value f (λ c. c.entry && (c.count == n)) calls) (told_value f cs workers (suc n) m calls few known))
    ∙ (ap (λ x. total (read_value f n) calls + x) (sym (total_sum (entry_value f n) (value f (suc n) m) calls)) ∙ sym (total_sum (read_value f n) (λ c. entry_value f n c + value f (suc n) m c) calls)))

-- it is told once

not_at : (f : Call → ℕ) (n : ℕ) (c : Call) → (c.count ≡ n → ⊥) → (read_value f n c ≡ 0) × (entry_value f n c ≡ 0)
not_at f n c ne = by c.entry (c.count == n) (ne_eqb c.count n ne)
  where
    by : (a b : Bool) → b ≡ false → ((if not a && b then f c else 0) ≡ 0) × ((if a && b then f c else 0) ≡ 0)
    by true false e = (refl, refl)
    by false false e = (refl, refl)
    by a true e = absurd (cc e)

past_value : (f : Call → ℕ) (n m : ℕ) (c : Call) → c.count < n → value f n m c ≡ 0
past_value f n zero c lt = (not_at f n c (λ e. omega (arith, e, lt))).0
past_value f n (suc m) c lt = let none = not_at f n c (λ e. omega (arith, e, lt)) in omega (arith, none.0, none.1, past_value f (suc n) m c (omega (arith, lt)))

next_entry : (c : Call) → c.entry ≡ true → next_count c ≡ c.count + 1
next_entry c e = rw e refl

-- at the last count only reads are told
last_value : (f : Call → ℕ) (n : ℕ) (c : Call) → n ≤ c.count → next_count c ≤ n → read_value f n c ≡ f c
last_value f n c low high = by c.entry refl
  where
    here : c.count ≤ n → (c.count == n) ≡ true
    here le = eq-eqb c.count n (omega (arith, low, le))

    by : (a : Bool) → c.entry ≡ a → (if not a && (c.count == n) then f c else 0) ≡ f c
    by true e = absurd (omega (arith, low, high, next_entry c e))
    by false e = let same : next_count c ≡ c.count = rw e refl in let t = here (omega (arith, high, same)) in rw t refl

here_value : (f : Call → ℕ) (n : ℕ) (c : Call) → c.count ≡ n → read_value f n c + entry_value f n c ≡ f c
here_value f n c e = by c.entry (c.count == n) (eq-eqb c.count n e)
  where
    by : (a b : Bool) → b ≡ true → (if not a && b then f c else 0) + (if a && b then f c else 0) ≡ f c
    by true true t = omega arith
    by false true t = omega arith
    by a false t = absurd (cc t)

once_value : (f : Call → ℕ) (n m : ℕ) (c : Call) → n ≤ c.count → next_count c ≤ n + m → value f n m c ≡ f c
once_value f n zero c low high = last_value f n c low (omega (arith, high))
once_value f n (suc m) c low high = by (ℕ_discrete c.count n) (λ ne. once_value f (suc n) m c (omega (arith, low, ne)) (omega (arith, high)))
  where
    by : Dec (c.count ≡ n) → ((c.count ≡ n → ⊥) → value f (suc n) m c ≡ f c) → read_value f n c + (entry_value f n c + value f (suc n) m c) ≡ f c
    by (yes e) ih = omega (arith, here_value f n c e, past_value f (suc n) m c (omega (arith, e)))
    by (no ne) ih = let none = not_at f n c ne in omega (arith, none.0, none.1, ih ne)

-- ---- the calls of a round

next_low : (c : Call) → c.count ≤ next_count c
next_low c = by c.entry
  where
    by : (b : Bool) → c.count ≤ (if b then c.count + 1 else c.count)
    by true = omega arith
    by false = omega arith

order_high : (low high : ℕ) (calls : List Call) → InOrder low calls high → low ≤ high
order_high low high [] p = p
order_high low high (c ∷ calls) p = omega (arith, p.0, next_low c, order_high (next_count c) high calls p.1)

all_once : (f : Call → ℕ) (n m low high : ℕ) (calls : List Call) → n ≤ low → high ≤ n + m → InOrder low calls high → total (value f n m) calls ≡ total f calls
all_once f n m low high [] le most p = refl
all_once f n m low high (c ∷ calls) le most p =
    ap₂ (λ x y. x + y) (once_value f n m c (omega (arith, le, p.0)) (omega (arith, most, order_high (next_count c) high calls p.1)))
    (all_once f n m (next_count c) high calls (omega (arith, le, p.0, next_low c)) most p.1)

-- each call of a round is told once
pub total_told : (f : Call → ℕ) (o : Opening) (before h : List Event) (workers : ℕ) (calls : List Call) → Goes o before h calls → workers ≤ 16 → Each (λ c. IsKnown workers o.controllers c.deed) calls
    → total f (in_told_order o.controllers calls (length before) (length h - length before)) ≡ total f calls
total_told f o before h workers calls g few known =
    told_value f o.controllers workers (length before) (length h - length before) calls few known
    ∙ all_once f (length before) (length h - length before) (length before) (length h) calls (omega arith) (omega arith) g.in_order
