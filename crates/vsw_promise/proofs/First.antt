-- The first of ascending numbers from one on.
use Rattle.std.proofs.Common.{◌≡◌, ◌≤◌, ◌==◌, ℕ, suc, ◌&&◌, ◌||◌, Bool, true, false, not, cond, List, [], ◌∷◌, filter, nat_lt, Some, refl, sym, ◌∙◌, ap, arith}
use Rattle.std.specs.List.{slice_get, list_any}
use Rattle.std.proofs.lemmas.Bool.Decides.{nat_tests}
use Rattle.vsw_port.specs.Order.{put_in, ascending}
use Rattle.vsw_policy.specs.Sound.{Each}
use Rattle.vsw_promise.specs.Index.{count_below}
use Rattle.vsw_promise.specs.Schedule.{head_of}
use Rattle.vsw_promise.proofs.Counts.{Ascends}

first_is : (low : ℕ) (ns : List ℕ) → slice_get ns (count_below low ns) ≡ head_of (filter (λ n. not (nat_lt n low)) ns)
first_is low [] = refl
first_is low (n ∷ ns) = by (nat_lt n low) (first_is low ns)
  where
    by : (b : Bool) → slice_get ns (count_below low ns) ≡ head_of (filter (λ m. not (nat_lt m low)) ns)
        → slice_get (n ∷ ns) (cond b (suc (count_below low ns)) 0) ≡ head_of (cond (not b) (n ∷ filter (λ m. not (nat_lt m low)) ns) (filter (λ m. not (nat_lt m low)) ns))
    by true h = h
    by false h = refl

none_passes : (p : ℕ → Bool) (low : ℕ) (ns : List ℕ) → ((n : ℕ) → low ≤ n → p n ≡ false) → Each (λ n. low ≤ n) ns → list_any p ns ≡ false
none_passes p low [] h e = refl
none_passes p low (n ∷ ns) h e = rw (h n e.0) (none_passes p low ns h e.1)

-- the lesser of two first numbers is in one of the lists alone
clash : (x y : ℕ) (xs ys : List ℕ) → nat_lt x y ≡ true → Ascends (y ∷ ys) → list_any (λ n. nat_lt n y) (x ∷ xs) ≡ list_any (λ n. nat_lt n y) (y ∷ ys) → ⊥
clash x y xs ys e b h =
    let above : (n : ℕ) → y ≤ n → nat_lt n y ≡ false = λ n l. not_below n l in
    let none : list_any (λ n. nat_lt n y) (y ∷ ys) ≡ false = none_passes (λ n. nat_lt n y) y (y ∷ ys) above (omega arith, b.0) in
    let some : list_any (λ n. nat_lt n y) (x ∷ xs) ≡ true = rw e refl in
    cc
  where
    not_below : (n : ℕ) → y ≤ n → nat_lt n y ≡ false
    not_below n l = grind (arith, nat_tests)

-- ascending lists that pass each test alike begin with the same number
heads : (xs ys : List ℕ) → Ascends xs → Ascends ys → ((p : ℕ → Bool) → list_any p xs ≡ list_any p ys) → head_of xs ≡ head_of ys
heads [] [] a b h = refl
heads [] (y ∷ ys) a b h = let e : false ≡ true = h (λ n. true) in cc
heads (x ∷ xs) [] a b h = let e : true ≡ false = h (λ n. true) in cc
heads (x ∷ xs) (y ∷ ys) a b h = by (nat_lt x y) (nat_lt y x) refl refl
  where
    by : (s t : Bool) → nat_lt x y ≡ s → nat_lt y x ≡ t → Some x ≡ Some y
    by true t e f = absurd (clash x y xs ys e b (h (λ n. nat_lt n y)))
    by false true e f = absurd (clash y x ys xs f a (sym (h (λ n. nat_lt n x))))
    by false false e f = let same : x ≡ y = grind (arith, nat_tests) in ap (λ (n : ℕ). Some n) same

each_filter : (P : ℕ → Type 0) (q : ℕ → Bool) (ns : List ℕ) → Each P ns → Each P (filter q ns)
each_filter P q [] e = tt
each_filter P q (n ∷ ns) e = by (q n) (each_filter P q ns e.1)
  where
    by : (b : Bool) → Each P (filter q ns) → Each P (cond b (n ∷ filter q ns) (filter q ns))
    by true h = (e.0, h)
    by false h = h

ascends_filter : (q : ℕ → Bool) (ns : List ℕ) → Ascends ns → Ascends (filter q ns)
ascends_filter q [] a = tt
ascends_filter q (n ∷ ns) a = by (q n) (ascends_filter q ns a.1)
  where
    by : (b : Bool) → Ascends (filter q ns) → Ascends (cond b (n ∷ filter q ns) (filter q ns))
    by true h = (each_filter (λ m. n ≤ m) q ns a.0, h)
    by false h = h

any_filter : (p q : ℕ → Bool) (ns : List ℕ) → list_any p (filter q ns) ≡ list_any (λ n. q n && p n) ns
any_filter p q [] = refl
any_filter p q (n ∷ ns) = by (q n) (any_filter p q ns)
  where
    by : (b : Bool) → list_any p (filter q ns) ≡ list_any (λ m. q m && p m) ns → list_any p (cond b (n ∷ filter q ns) (filter q ns)) ≡ ((b && p n) || list_any (λ m. q m && p m) ns)
    by true h = ap (λ (t : Bool). p n || t) h
    by false h = h

twice : (a b : Bool) → (a || b) ≡ (a || (a || b))
twice true b = refl
twice false b = refl

swapped : (a b c : Bool) → (a || (b || c)) ≡ (b || (a || c))
swapped true true c = refl
swapped true false c = refl
swapped false true c = refl
swapped false false c = refl

-- numbers in order pass the same tests, and ascend
any_put : (p : ℕ → Bool) (n : ℕ) (ms : List ℕ) → list_any p (put_in n ms) ≡ (p n || list_any p ms)
any_put p n [] = refl
any_put p n (m ∷ ms) = by (nat_lt n m) (n == m) refl (any_put p n ms)
  where
    by : (b c : Bool) → (n == m) ≡ c → list_any p (put_in n ms) ≡ (p n || list_any p ms) → list_any p (cond b (n ∷ m ∷ ms) (cond c (m ∷ ms) (m ∷ put_in n ms))) ≡ (p n || (p m || list_any p ms))
    by true c e h = refl
    by false true e h = let same : n ≡ m = grind (arith, nat_tests) in twice (p m) (list_any p ms) ∙ ap (λ (k : ℕ). p k || (p m || list_any p ms)) (sym same)
    by false false e h = ap (λ (t : Bool). p m || t) h ∙ swapped (p m) (p n) (list_any p ms)

any_ascending : (p : ℕ → Bool) (ns : List ℕ) → list_any p (ascending ns) ≡ list_any p ns
any_ascending p [] = refl
any_ascending p (n ∷ ns) = any_put p n (ascending ns) ∙ ap (λ (t : Bool). p n || t) (any_ascending p ns)

each_put : (low n : ℕ) (ms : List ℕ) → low ≤ n → Each (λ m. low ≤ m) ms → Each (λ m. low ≤ m) (put_in n ms)
each_put low n [] l e = (l, tt)
each_put low n (m ∷ ms) l e = by (nat_lt n m) (n == m) (each_put low n ms l e.1)
  where
    by : (b c : Bool) → Each (λ k. low ≤ k) (put_in n ms) → Each (λ k. low ≤ k) (cond b (n ∷ m ∷ ms) (cond c (m ∷ ms) (m ∷ put_in n ms)))
    by true c h = (l, e)
    by false true h = e
    by false false h = (e.0, h)

each_more : (low high : ℕ) (ms : List ℕ) → low ≤ high → Each (λ m. high ≤ m) ms → Each (λ m. low ≤ m) ms
each_more low high [] l e = tt
each_more low high (m ∷ ms) l e = (omega (arith, e.0), each_more low high ms l e.1)

ascends_put : (n : ℕ) (ms : List ℕ) → Ascends ms → Ascends (put_in n ms)
ascends_put n [] a = (tt, tt)
ascends_put n (m ∷ ms) a = by (nat_lt n m) (n == m) refl (ascends_put n ms a.1)
  where
    by : (b c : Bool) → nat_lt n m ≡ b → Ascends (put_in n ms) → Ascends (cond b (n ∷ m ∷ ms) (cond c (m ∷ ms) (m ∷ put_in n ms)))
    by true c e h = let below : n ≤ m = grind (arith, nat_tests) in ((below, each_more n m ms below a.0), a)
    by false true e h = a
    by false false e h = let above : m ≤ n = grind (arith, nat_tests) in (each_put m n ms above a.0, h)

ascends_ascending : (ns : List ℕ) → Ascends (ascending ns)
ascends_ascending [] = tt
ascends_ascending (n ∷ ns) = ascends_put n (ascending ns) (ascends_ascending ns)

-- ascending numbers that pass each test as others do have the same first one
pub first_from : (low : ℕ) (xs ns : List ℕ) → Ascends xs → ((p : ℕ → Bool) → list_any p xs ≡ list_any p ns)
    → slice_get xs (count_below low xs) ≡ head_of (filter (λ n. not (nat_lt n low)) (ascending ns))
first_from low xs ns a h =
    let q = λ (n : ℕ). not (nat_lt n low) in
    first_is low xs ∙ heads (filter q xs) (filter q (ascending ns)) (ascends_filter q xs a) (ascends_filter q (ascending ns) (ascends_ascending ns))
    (λ p. any_filter p q xs ∙ h (λ n. q n && p n) ∙ sym (any_ascending (λ n. q n && p n) ns) ∙ sym (any_filter p q (ascending ns)))
