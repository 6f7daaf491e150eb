-- The cuts of a trace, one after the other.
use Rattle.std.proofs.Common.{◌≡◌, ◌<◌, ◌≤◌, ◌+◌, ◌*◌, ◌/◌, ◌==◌, not, ℕ, zero, suc, Bool, true, false, true≢false, if◌then◌else◌, List, [], ◌∷◌, ◌++◌, map, filter, min, nat_lt, Option, Some, None, refl, ap, sym, ◌∙◌, arith}
use Rattle.std.proofs.lemmas.Grind.{common_steps}
use Rattle.vsw_commandfile.specs.declared.line.Line.{Line}
use Rattle.vsw_policy.specs.Sound.{Each}
use Rattle.vsw_port.specs.Order.{ascending, counted, put_in}
use Rattle.vsw_promise.specs.Jobs.{cuts, multiples_below}
use Rattle.vsw_promise.specs.Schedule.{head_of, least_from, next_at}
use Rattle.vsw_audit.specs.Private.Rounds.{cut_numbers, lesser_of}

lt_is : (m n : ℕ) → nat_lt m n ≡ true → m < n
lt_is m n e = grind (arith, common_steps)

lt_not : (m n : ℕ) → nat_lt m n ≡ false → n ≤ m
lt_not m n e = grind (arith, common_steps)

is_lt : (m n : ℕ) → m < n → nat_lt m n ≡ true
is_lt m n e = grind (arith, common_steps)

not_lt : (m n : ℕ) → n ≤ m → nat_lt m n ≡ false
not_lt m n e = grind (arith, common_steps)

eq_is : (m n : ℕ) → (m == n) ≡ true → m ≡ n
eq_is m n e = grind (arith, common_steps)

eq_not : (m n : ℕ) → (m == n) ≡ false → (m ≡ n → ⊥)
eq_not m n e f = true≢false (sym (grind (arith, common_steps, f)) ∙ e)

-- ---- numbers in order

abbrev Sorted : List ℕ → Type 0
Sorted [] = Unit {0}
Sorted (m ∷ ms) = Each (λ k. m < k) ms × Sorted ms

abbrev on : ℕ → List ℕ → List ℕ
on low ms = filter (λ n. not (nat_lt n low)) ms

each_put : (m n : ℕ) (ms : List ℕ) → m < n → Each (λ k. m < k) ms → Each (λ k. m < k) (put_in n ms)
each_put m n [] lt e = (lt, tt)
each_put m n (k ∷ ms) lt e = by (nat_lt n k) (n == k) (each_put m n ms lt e.1)
  where
    by : (b c : Bool) → Each (λ k. m < k) (put_in n ms) → Each (λ k. m < k) (if b then n ∷ k ∷ ms else if c then k ∷ ms else k ∷ put_in n ms)
    by true c ih = (lt, e)
    by false true ih = e
    by false false ih = (e.0, ih)

each_more : (m n : ℕ) (ms : List ℕ) → m < n → Each (λ k. n < k) ms → Each (λ k. m < k) ms
each_more m n [] lt e = tt
each_more m n (k ∷ ms) lt e = (omega (arith, lt, e.0), each_more m n ms lt e.1)

sorted_put : (n : ℕ) (ms : List ℕ) → Sorted ms → Sorted (put_in n ms)
sorted_put n [] s = (tt, tt)
sorted_put n (m ∷ ms) s = by (nat_lt n m) (n == m) refl refl (sorted_put n ms s.1)
  where
    by : (b c : Bool) → nat_lt n m ≡ b → (n == m) ≡ c → Sorted (put_in n ms) → Sorted (if b then n ∷ m ∷ ms else if c then m ∷ ms else m ∷ put_in n ms)
    by true c e f ih = ((lt_is n m e, each_more n m ms (lt_is n m e) s.0), s)
    by false true e f ih = s
    by false false e f ih = (each_put m n ms (above (lt_not n m e) (eq_not n m f)) s.0, ih)
      where
        above : m ≤ n → (n ≡ m → ⊥) → m < n
        above le ne = omega (arith, le, ne)

sorted : (ns : List ℕ) → Sorted (ascending ns)
sorted [] = tt
sorted (n ∷ ns) = sorted_put n (ascending ns) (sorted ns)

all_on : (low m : ℕ) (ms : List ℕ) → low ≤ m + 1 → Each (λ k. m < k) ms → on low ms ≡ ms
all_on low m [] le e = refl
all_on low m (k ∷ ms) le e = ap (λ b. if not b then k ∷ on low ms else on low ms) (not_lt k low (omega (arith, le, e.0))) ∙ ap (λ w. k ∷ w) (all_on low m ms le e.1)

-- the numbers from the least one on
abbrev pub rest_of : Option ℕ → List ℕ → List ℕ
rest_of None ms = []
rest_of (Some c) ms = c ∷ on (c + 1) ms

head_low : (low : ℕ) (ms : List ℕ) (c : ℕ) → head_of (on low ms) ≡ Some c → low ≤ c
head_low low [] c e = absurd (cc e)
head_low low (m ∷ ms) c e = by (nat_lt m low) refl e (λ g. head_low low ms c g)
  where
    by : (b : Bool) → nat_lt m low ≡ b → head_of (if not b then m ∷ on low ms else on low ms) ≡ Some c → (head_of (on low ms) ≡ Some c → low ≤ c) → low ≤ c
    by true f g ih = ih g
    by false f g ih = let h : m ≡ c = cc g in omega (arith, h, lt_not m low f)

pub on_is : (low : ℕ) (ms : List ℕ) → Sorted ms → on low ms ≡ rest_of (head_of (on low ms)) ms
on_is low [] s = refl
on_is low (m ∷ ms) s = by (nat_lt m low) refl (on_is low ms s.1)
  where
    skip : (o : Option ℕ) → head_of (on low ms) ≡ o → m < low → rest_of o ms ≡ rest_of o (m ∷ ms)
    skip None e lt = refl
    skip (Some c) e lt = ap (λ w. c ∷ w) (sym (ap (λ b. if not b then m ∷ on (c + 1) ms else on (c + 1) ms) (is_lt m (c + 1) (omega (arith, lt, head_low low ms c e)))))

    by : (b : Bool) → nat_lt m low ≡ b → on low ms ≡ rest_of (head_of (on low ms)) ms → (if not b then m ∷ on low ms else on low ms) ≡ rest_of (head_of (if not b then m ∷ on low ms else on low ms)) (m ∷ ms)
    by true e ih = ih ∙ skip (head_of (on low ms)) refl (lt_is m low e)
    by false e ih = ap (λ w. m ∷ w) (all_on low m ms (omega (arith, lt_not m low e)) s.0 ∙ (sym (all_on (m + 1) m ms (omega arith) s.0) ∙ sym (ap (λ b. if not b then m ∷ on (m + 1) ms else on (m + 1) ms) (is_lt m (m + 1) (omega arith)))))

-- ---- the least number

abbrev own : ℕ → ℕ → Option ℕ
own low n = if nat_lt n low then None else Some n

some_min : (m n : ℕ) → m ≤ n → Some (min m n) ≡ Some m
some_min m n le = ap Some (let e : min m n ≡ m = omega (arith, le) in e)

some_min_right : (m n : ℕ) → n ≤ m → Some (min m n) ≡ Some n
some_min_right m n le = ap Some (let e : min m n ≡ n = omega (arith, le) in e)

head_above : (low n : ℕ) (ms : List ℕ) → Each (λ k. n < k) ms → lesser_of (Some n) (head_of (on low ms)) ≡ Some n
head_above low n [] e = refl
head_above low n (m ∷ ms) e = by (nat_lt m low) (head_above low n ms e.1)
  where
    by : (b : Bool) → lesser_of (Some n) (head_of (on low ms)) ≡ Some n → lesser_of (Some n) (head_of (if not b then m ∷ on low ms else on low ms)) ≡ Some n
    by true ih = ih
    by false ih = some_min n m (omega (arith, e.0))

put_head : (low n : ℕ) (ms : List ℕ) → Sorted ms → head_of (on low (put_in n ms)) ≡ lesser_of (own low n) (head_of (on low ms))
put_head low n [] s = by (nat_lt n low)
  where
    by : (b : Bool) → head_of (if not b then n ∷ [] else []) ≡ lesser_of (if b then None else Some n) None
    by true = refl
    by false = refl
put_head low n (m ∷ ms) s = by (nat_lt n m) (n == m) refl refl (put_head low n ms s.1)
  where
    first : (b : Bool) → n < m → head_of (if not b then n ∷ on low (m ∷ ms) else on low (m ∷ ms)) ≡ lesser_of (if b then None else Some n) (head_of (on low (m ∷ ms)))
    first true lt = refl
    first false lt = sym (head_above low n (m ∷ ms) (lt, each_more n m ms lt s.0))

    same : (b c : Bool) → b ≡ c → n ≡ m → head_of (if not c then m ∷ on low ms else on low ms) ≡ lesser_of (if b then None else Some n) (head_of (if not c then m ∷ on low ms else on low ms))
    same true true e f = refl
    same false false e f = sym (some_min_right n m (omega (arith, f)))
    same true false e f = absurd (true≢false e)
    same false true e f = absurd (true≢false (sym e))

    later : (c : Bool) → nat_lt m low ≡ c → m ≤ n → head_of (on low (put_in n ms)) ≡ lesser_of (own low n) (head_of (on low ms)) → head_of (if not c then m ∷ on low (put_in n ms) else on low (put_in n ms)) ≡ lesser_of (own low n) (head_of (if not c then m ∷ on low ms else on low ms))
    later true e le ih = ih
    later false e le ih = sym (ap (λ b. lesser_of (if b then None else Some n) (Some m)) (not_lt n low (omega (arith, le, lt_not m low e))) ∙ some_min_right n m le)

    by : (b c : Bool) → nat_lt n m ≡ b → (n == m) ≡ c → head_of (on low (put_in n ms)) ≡ lesser_of (own low n) (head_of (on low ms)) → head_of (on low (if b then n ∷ m ∷ ms else if c then m ∷ ms else m ∷ put_in n ms)) ≡ lesser_of (own low n) (head_of (on low (m ∷ ms)))
    by true c e f ih = first (nat_lt n low) (lt_is n m e)
    by false true e f ih = same (nat_lt n low) (nat_lt m low) (ap (λ k. nat_lt k low) (eq_is n m f)) (eq_is n m f)
    by false false e f ih = later (nat_lt m low) refl (lt_not n m e) ih

pub least_cons : (low n : ℕ) (ns : List ℕ) → least_from low (n ∷ ns) ≡ lesser_of (own low n) (least_from low ns)
least_cons low n ns = put_head low n (ascending ns) (sorted ns)

lesser_assoc : (a b c : Option ℕ) → lesser_of (lesser_of a b) c ≡ lesser_of a (lesser_of b c)
lesser_assoc None b c = refl
lesser_assoc (Some a) None c = refl
lesser_assoc (Some a) (Some b) None = refl
lesser_assoc (Some a) (Some b) (Some c) = ap Some (let e : min (min a b) c ≡ min a (min b c) = omega arith in e)

pub least_append : (low : ℕ) (xs ys : List ℕ) → least_from low (xs ++ ys) ≡ lesser_of (least_from low xs) (least_from low ys)
least_append low [] ys = refl
least_append low (x ∷ xs) ys = least_cons low x (xs ++ ys) ∙ (ap (lesser_of (own low x)) (least_append low xs ys) ∙ (sym (lesser_assoc (own low x) (least_from low xs) (least_from low ys)) ∙ ap (λ o. lesser_of o (least_from low ys)) (sym (least_cons low x xs))))

-- ---- multiples

abbrev multiples : ℕ → ℕ → List ℕ
multiples a m = map (λ i. 1024 * i) (counted a m)

least_above : (low n a m : ℕ) → n ≤ 1024 * a → lesser_of (Some n) (least_from low (multiples a m)) ≡ Some n
least_above low n a zero le = refl
least_above low n a (suc m) le = ap (lesser_of (Some n)) (least_cons low (1024 * a) (multiples (suc a) m)) ∙ by (nat_lt (1024 * a) low) (least_above low n (suc a) m (omega (arith, le)))
  where
    by : (b : Bool) → lesser_of (Some n) (least_from low (multiples (suc a) m)) ≡ Some n → lesser_of (Some n) (lesser_of (if b then None else Some (1024 * a)) (least_from low (multiples (suc a) m))) ≡ Some n
    by true ih = ih
    by false ih = sym (lesser_assoc (Some n) (Some (1024 * a)) (least_from low (multiples (suc a) m))) ∙ (ap (λ o. lesser_of o (least_from low (multiples (suc a) m))) (some_min n (1024 * a) le) ∙ ih)

next_multiple : (first q a m : ℕ) → q ≡ first / 1024 + 1 → a ≤ q → least_from (first + 1) (multiples a m) ≡ (if nat_lt q (a + m) then Some (1024 * q) else None)
next_multiple first q a zero e le = sym (ap (λ b. if b then Some (1024 * q) else None) (not_lt q (a + 0) (omega (arith, le))))
next_multiple first q a (suc m) e le = least_cons (first + 1) (1024 * a) (multiples (suc a) m) ∙ by (nat_lt a q) refl (λ lt. next_multiple first q (suc a) m e lt)
  where
    here : a ≡ q → own (first + 1) (1024 * a) ≡ Some (1024 * a)
    here f = ap (λ b. if b then None else Some (1024 * a)) (not_lt (1024 * a) (first + 1) (omega (arith, e, f)))

    before : a < q → own (first + 1) (1024 * a) ≡ None
    before lt = ap (λ b. if b then None else Some (1024 * a)) (is_lt (1024 * a) (first + 1) (omega (arith, e, lt)))

    by : (b : Bool) → nat_lt a q ≡ b → (suc a ≤ q → least_from (first + 1) (multiples (suc a) m) ≡ (if nat_lt q (suc a + m) then Some (1024 * q) else None)) → lesser_of (own (first + 1) (1024 * a)) (least_from (first + 1) (multiples (suc a) m)) ≡ (if nat_lt q (a + suc m) then Some (1024 * q) else None)
    by true f ih = ap (λ o. lesser_of o (least_from (first + 1) (multiples (suc a) m))) (before (lt_is a q f)) ∙ (ih (omega (arith, lt_is a q f)) ∙ ap (λ n. if nat_lt q n then Some (1024 * q) else None) (let g : suc a + m ≡ a + suc m = omega arith in g))
    by false f ih =
        let same : a ≡ q = omega (arith, le, lt_not a q f) in
        ap (λ o. lesser_of o (least_from (first + 1) (multiples (suc a) m))) (here same) ∙ (least_above (first + 1) (1024 * a) (suc a) m (omega arith) ∙ (ap (λ n. Some (1024 * n)) same ∙ sym (ap (λ b. if b then Some (1024 * q) else None) (is_lt q (a + suc m) (omega (arith, same))))))

-- the next cut, by the next packet that a command names and the next multiple
pub next_is : (commands : List Line) (first total : ℕ) → least_from (first + 1) (cut_numbers commands total) ≡ lesser_of (next_at (first + 1) commands) (if nat_lt ((first / 1024 + 1) * 1024) total then Some ((first / 1024 + 1) * 1024) else None)
next_is commands first total =
    let q = first / 1024 + 1 in
    least_cons (first + 1) 0 (map (λ l. l.at) commands ++ multiples_below total)
    ∙ (ap (λ b. lesser_of (if b then None else Some 0) (least_from (first + 1) (map (λ l. l.at) commands ++ multiples_below total))) (is_lt 0 (first + 1) (omega arith))
    ∙ (least_append (first + 1) (map (λ l. l.at) commands) (multiples_below total)
    ∙ ap (lesser_of (next_at (first + 1) commands)) (next_multiple first q 0 ((total + 1023) / 1024) refl (omega arith) ∙ by (nat_lt q (0 + (total + 1023) / 1024)) (nat_lt (q * 1024) total) refl refl)))
  where
    times : (first / 1024 + 1) * 1024 ≡ 1024 * (first / 1024 + 1)
    times = omega arith

    by : (b c : Bool) → nat_lt (first / 1024 + 1) (0 + (total + 1023) / 1024) ≡ b → nat_lt ((first / 1024 + 1) * 1024) total ≡ c → (if b then Some (1024 * (first / 1024 + 1)) else None) ≡ (if c then Some ((first / 1024 + 1) * 1024) else None)
    by true true e f = ap Some (sym times)
    by false false e f = refl
    by true false e f = let g = lt_is (first / 1024 + 1) (0 + (total + 1023) / 1024) e in let h = lt_not ((first / 1024 + 1) * 1024) total f in absurd (omega (arith, g, h))
    by false true e f = let g = lt_not (first / 1024 + 1) (0 + (total + 1023) / 1024) e in let h = lt_is ((first / 1024 + 1) * 1024) total f in absurd (omega (arith, g, h))

-- ---- the cuts that are left

abbrev pub cuts_left : List Line → ℕ → Option ℕ → List ℕ
cuts_left commands total o = rest_of o (cuts commands total)

pub all_left : (commands : List Line) (total : ℕ) → cuts commands total ≡ cuts_left commands total (Some 0)
all_left commands total =
    sym (all (cuts commands total)) ∙ (on_is 0 (cuts commands total) (sorted (cut_numbers commands total)) ∙ ap (λ o. rest_of o (cuts commands total)) (least_cons 0 0 (map (λ l. l.at) commands ++ multiples_below total) ∙ zero_least (least_from 0 (map (λ l. l.at) commands ++ multiples_below total))))
  where
    all : (ms : List ℕ) → on 0 ms ≡ ms
    all [] = refl
    all (m ∷ ms) = ap (λ b. if not b then m ∷ on 0 ms else on 0 ms) (not_lt m 0 (omega arith)) ∙ ap (λ w. m ∷ w) (all ms)

    zero_least : (o : Option ℕ) → lesser_of (Some 0) o ≡ Some 0
    zero_least None = refl
    zero_least (Some n) = some_min 0 n (omega arith)

pub left_next : (commands : List Line) (total first : ℕ) (o : Option ℕ) → o ≡ least_from (first + 1) (cut_numbers commands total) → cuts_left commands total (Some first) ≡ first ∷ cuts_left commands total o
left_next commands total first o e = ap (λ w. first ∷ w) (on_is (first + 1) (cuts commands total) (sorted (cut_numbers commands total)) ∙ ap (λ p. rest_of p (cuts commands total)) (sym e))

pub next_named : (commands : List Line) (first total : ℕ) (named : Option ℕ) → named ≡ next_at (first + 1) commands → total ≤ (first / 1024 + 1) * 1024 → named ≡ least_from (first + 1) (cut_numbers commands total)
next_named commands first total named e le = e ∙ (sym (no_more (next_at (first + 1) commands)) ∙ (ap (λ b. lesser_of (next_at (first + 1) commands) (if b then Some ((first / 1024 + 1) * 1024) else None)) (sym (not_lt ((first / 1024 + 1) * 1024) total le)) ∙ sym (next_is commands first total)))
  where
    no_more : (o : Option ℕ) → lesser_of o None ≡ o
    no_more None = refl
    no_more (Some n) = refl

pub next_multiple_too : (commands : List Line) (first total n : ℕ) (named : Option ℕ) → named ≡ next_at (first + 1) commands → (first / 1024 + 1) * 1024 < total → Some n ≡ lesser_of named (Some ((first / 1024 + 1) * 1024)) → Some n ≡ least_from (first + 1) (cut_numbers commands total)
next_multiple_too commands first total n named e lt f =
    f ∙ (ap (λ o. lesser_of o (Some ((first / 1024 + 1) * 1024))) e ∙ (ap (λ b. lesser_of (next_at (first + 1) commands) (if b then Some ((first / 1024 + 1) * 1024) else None)) (sym (is_lt ((first / 1024 + 1) * 1024) total lt)) ∙ sym (next_is commands first total)))
