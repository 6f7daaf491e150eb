-- Numbers in ascending order are told by what stands among them.
use Rattle.std.proofs.Common.{◌≡◌, ◌<◌, ◌≤◌, ◌⊎◌, inl, inr, ℕ, suc, ◌==◌, Bool, true, false, nat_lt, if◌then◌else◌, List, [], ◌∷◌, ◌++◌, filter, refl, ap, sym, ◌∙◌, subst, arith, ne_eqb, eq-eqb}
use Rattle.std.proofs.lemmas.Grind.{common_steps}
use native.Mathlib.Decide.{ℕ_discrete}
use Rattle.vsw_port.specs.Order.{put_in, ascending}

-- a number stands among these
abbrev pub Has : ℕ → List ℕ → Type 0
Has n [] = ⊥
Has n (m ∷ ms) = (m ≡ n) ⊎ Has n ms

-- each is above the one before it, and the first no less than this
abbrev pub Ascends : ℕ → List ℕ → Type 0
Ascends low [] = Unit {0}
Ascends low (m ∷ ms) = (low ≤ m) × Ascends (suc m) ms

pub ascends_lower : (low mid : ℕ) (ms : List ℕ) → low ≤ mid → Ascends mid ms → Ascends low ms
ascends_lower low mid [] le a = tt
ascends_lower low mid (m ∷ ms) le a = (omega (arith, le, a.0), a.1)

pub has_from : (low n : ℕ) (ms : List ℕ) → Ascends low ms → Has n ms → low ≤ n
has_from low n [] a h = absurd h
has_from low n (m ∷ ms) a (inl e) = omega (arith, a.0, e)
has_from low n (m ∷ ms) a (inr h) = omega (arith, a.0, has_from (suc m) n ms a.1 h)

behind : (x y n : ℕ) (ys : List ℕ) → x ≡ y → suc x ≤ n → (y ≡ n) ⊎ Has n ys → Has n ys
behind x y n ys e le (inl f) = absurd (omega (arith, e, le, f))
behind x y n ys e le (inr h) = h

pub one_list : (low : ℕ) (xs ys : List ℕ) → Ascends low xs → Ascends low ys → ((n : ℕ) → Has n xs → Has n ys) → ((n : ℕ) → Has n ys → Has n xs) → xs ≡ ys
one_list low [] [] a b f g = refl
one_list low [] (y ∷ ys) a b f g = absurd (g y (inl refl))
one_list low (x ∷ xs) [] a b f g = absurd (f x (inl refl))
one_list low (x ∷ xs) (y ∷ ys) a b f g =
    let up : y ≤ x = has_from y x (y ∷ ys) (omega arith, b.1) (f x (inl refl)) in
    let down : x ≤ y = has_from x y (x ∷ xs) (omega arith, a.1) (g y (inl refl)) in
    let same : x ≡ y = omega (arith, up, down) in
    let tails = one_list (suc x) xs ys a.1 (subst (λ m. Ascends (suc m) ys) (sym same) b.1)
    (λ n h. behind x y n ys same (has_from (suc x) n xs a.1 h) (f n (inr h)))
    (λ n h. behind y x n xs (sym same) (has_from (suc y) n ys b.1 h) (g n (inr h))) in
    ap (λ w. x ∷ w) tails ∙ ap (λ m. m ∷ ys) same

-- ---- what stands where

pub eq_is : (a b : ℕ) → (a == b) ≡ true → a ≡ b
eq_is a b e = by (ℕ_discrete a b)
  where
    by : Dec (a ≡ b) → a ≡ b
    by (yes f) = f
    by (no ne) = absurd (let f = ne_eqb a b ne in cc (e, f))

pub lt_is : (m n : ℕ) → nat_lt m n ≡ true → m < n
lt_is m n h = grind (arith, common_steps)

pub lt_not : (m n : ℕ) → nat_lt m n ≡ false → n ≤ m
lt_not m n h = grind (arith, common_steps)

eq_not : (a b : ℕ) → (a == b) ≡ false → a ≡ b → ⊥
eq_not a b e f = absurd (cc (e, eq-eqb a b f))

abbrev put_by : Bool → Bool → ℕ → ℕ → List ℕ → List ℕ
put_by b c n m ms = if b then n ∷ m ∷ ms else if c then m ∷ ms else m ∷ put_in n ms

ascends_put : (low n : ℕ) (ms : List ℕ) → low ≤ n → Ascends low ms → Ascends low (put_in n ms)
ascends_put low n [] le a = (le, tt)
ascends_put low n (m ∷ ms) le a = by (nat_lt n m) (n == m) refl refl (λ lt. ascends_put (suc m) n ms lt a.1)
  where
    by : (b c : Bool) → nat_lt n m ≡ b → (n == m) ≡ c → (m < n → Ascends (suc m) (put_in n ms)) → Ascends low (put_by b c n m ms)
    by true c t e ih = (le, (omega (arith, lt_is n m t), a.1))
    by false true t e ih = a
    by false false t e ih = (a.0, ih (omega (arith, lt_not n m t, eq_not n m e)))

has_put : (k n : ℕ) (ms : List ℕ) → Has k (put_in n ms) → (n ≡ k) ⊎ Has k ms
has_put k n [] h = h
has_put k n (m ∷ ms) h = by (nat_lt n m) (n == m) (has_put k n ms) h
  where
    later : (n ≡ k) ⊎ Has k ms → (n ≡ k) ⊎ Has k (m ∷ ms)
    later (inl e) = inl e
    later (inr h) = inr (inr h)

    first : (m ≡ k) ⊎ Has k (put_in n ms) → (Has k (put_in n ms) → (n ≡ k) ⊎ Has k ms) → (n ≡ k) ⊎ Has k (m ∷ ms)
    first (inl e) ih = inr (inl e)
    first (inr h) ih = later (ih h)

    by : (b c : Bool) → (Has k (put_in n ms) → (n ≡ k) ⊎ Has k ms) → Has k (put_by b c n m ms) → (n ≡ k) ⊎ Has k (m ∷ ms)
    by true c ih h = h
    by false true ih h = inr h
    by false false ih h = first h ih

put_has : (k n : ℕ) (ms : List ℕ) → (n ≡ k) ⊎ Has k ms → Has k (put_in n ms)
put_has k n [] h = h
put_has k n (m ∷ ms) h = by (nat_lt n m) (n == m) refl (put_has k n ms) h
  where
    by : (b c : Bool) → (n == m) ≡ c → ((n ≡ k) ⊎ Has k ms → Has k (put_in n ms)) → (n ≡ k) ⊎ Has k (m ∷ ms) → Has k (put_by b c n m ms)
    by true c e ih h = h
    by false true e ih (inl f) = inl (sym (eq_is n m e) ∙ f)
    by false true e ih (inr h) = h
    by false false e ih (inl f) = inr (ih (inl f))
    by false false e ih (inr (inl f)) = inl f
    by false false e ih (inr (inr h)) = inr (ih (inr h))

pub ascending_ascends : (ns : List ℕ) → Ascends 0 (ascending ns)
ascending_ascends [] = tt
ascending_ascends (n ∷ ns) = ascends_put 0 n (ascending ns) (omega arith) (ascending_ascends ns)

pub has_ascending : (k : ℕ) (ns : List ℕ) → Has k (ascending ns) → Has k ns
has_ascending k [] h = h
has_ascending k (n ∷ ns) h = by (has_put k n (ascending ns) h) (has_ascending k ns)
  where
    by : (n ≡ k) ⊎ Has k (ascending ns) → (Has k (ascending ns) → Has k ns) → (n ≡ k) ⊎ Has k ns
    by (inl e) ih = inl e
    by (inr h) ih = inr (ih h)

pub ascending_has : (k : ℕ) (ns : List ℕ) → Has k ns → Has k (ascending ns)
ascending_has k [] h = h
ascending_has k (n ∷ ns) h = by h (ascending_has k ns)
  where
    by : (n ≡ k) ⊎ Has k ns → (Has k ns → Has k (ascending ns)) → Has k (put_in n (ascending ns))
    by (inl e) ih = put_has k n (ascending ns) (inl e)
    by (inr h) ih = put_has k n (ascending ns) (inr (ih h))

pub has_filter : (p : ℕ → Bool) (k : ℕ) (ms : List ℕ) → Has k (filter p ms) → Has k ms × (p k ≡ true)
has_filter p k [] h = absurd h
has_filter p k (m ∷ ms) h = by (p m) refl (has_filter p k ms) h
  where
    by : (b : Bool) → p m ≡ b → (Has k (filter p ms) → Has k ms × (p k ≡ true)) → Has k (if b then m ∷ filter p ms else filter p ms) → Has k (m ∷ ms) × (p k ≡ true)
    by true e ih (inl f) = (inl f, sym (ap p f) ∙ e)
    by true e ih (inr h) = (inr (ih h).0, (ih h).1)
    by false e ih h = (inr (ih h).0, (ih h).1)

pub filter_has : (p : ℕ → Bool) (k : ℕ) (ms : List ℕ) → Has k ms → p k ≡ true → Has k (filter p ms)
filter_has p k [] h t = absurd h
filter_has p k (m ∷ ms) h t = by (p m) refl (λ h. filter_has p k ms h t) h
  where
    by : (b : Bool) → p m ≡ b → (Has k ms → Has k (filter p ms)) → Has k (m ∷ ms) → Has k (if b then m ∷ filter p ms else filter p ms)
    by true e ih (inl f) = inl f
    by true e ih (inr h) = inr (ih h)
    by false e ih (inl f) = absurd (let g = ap p f in cc (e, t, g))
    by false e ih (inr h) = ih h

pub ascends_filter : (p : ℕ → Bool) (low : ℕ) (ms : List ℕ) → Ascends low ms → Ascends low (filter p ms)
ascends_filter p low [] a = tt
ascends_filter p low (m ∷ ms) a = by (p m) (ascends_filter p (suc m) ms a.1)
  where
    by : (b : Bool) → Ascends (suc m) (filter p ms) → Ascends low (if b then m ∷ filter p ms else filter p ms)
    by true ih = (a.0, ih)
    by false ih = ascends_lower low (suc m) (filter p ms) (omega (arith, a.0)) ih

pub has_append : (k : ℕ) (xs ys : List ℕ) → Has k (xs ++ ys) → Has k xs ⊎ Has k ys
has_append k [] ys h = inr h
has_append k (x ∷ xs) ys (inl e) = inl (inl e)
has_append k (x ∷ xs) ys (inr h) = by (has_append k xs ys h)
  where
    by : Has k xs ⊎ Has k ys → Has k (x ∷ xs) ⊎ Has k ys
    by (inl h) = inl (inr h)
    by (inr h) = inr h

pub append_has : (k : ℕ) (xs ys : List ℕ) → Has k xs ⊎ Has k ys → Has k (xs ++ ys)
append_has k [] ys (inl h) = absurd h
append_has k [] ys (inr h) = h
append_has k (x ∷ xs) ys (inl (inl e)) = inl e
append_has k (x ∷ xs) ys (inl (inr h)) = inr (append_has k xs ys (inl h))
append_has k (x ∷ xs) ys (inr h) = inr (append_has k xs ys (inr h))

pub ascends_append : (low mid : ℕ) (xs ys : List ℕ) → low ≤ mid → Ascends low xs → ((n : ℕ) → Has n xs → n < mid) → Ascends mid ys → Ascends low (xs ++ ys)
ascends_append low mid [] ys le a below b = ascends_lower low mid ys le b
ascends_append low mid (x ∷ xs) ys le a below b = (a.0, ascends_append (suc x) mid xs ys (below x (inl refl)) a.1 (λ n h. below n (inr h)) b)
