-- How many entries there are, by the callers that they name.
use Rattle.std.proofs.Common.{◌≡◌, ◌≢◌, ℕ, zero, suc, ◌+◌, ◌*◌, ◌<◌, ◌≤◌, ◌==◌, Bool, true, false, if◌then◌else◌, List, [], ◌∷◌, ◌++◌, length, refl, arith, eq-eqb, ne_eqb, suc-mul}
use native.Mathlib.Decide.{ℕ_discrete}
use Rattle.vsw_table.specs.Rules.{by_caller, AllBelow}

module _ {E : Type 0} (who : E → ℕ) where
  by_caller-append_if : (n : ℕ) (xs : List E) (e : E) (b : Bool) → (who e == n) ≡ b → by_caller who n (xs ++ e ∷ []) ≡ (if b then by_caller who n xs ++ e ∷ [] else by_caller who n xs)
  by_caller-append_if n [] e true p = rw p refl
  by_caller-append_if n [] e false p = rw p refl
  by_caller-append_if n (x ∷ xs) e true p = let ih = by_caller-append_if n xs e true p in grind (arith, ih)
  by_caller-append_if n (x ∷ xs) e false p = let ih = by_caller-append_if n xs e false p in grind (arith, ih)

  pub by_caller-mine : (n : ℕ) (xs : List E) (e : E) → who e ≡ n → by_caller who n (xs ++ e ∷ []) ≡ by_caller who n xs ++ e ∷ []
  by_caller-mine n xs e p = by_caller-append_if n xs e true (eq-eqb (who e) n p)

  pub by_caller-other : (n : ℕ) (xs : List E) (e : E) → who e ≢ n → by_caller who n (xs ++ e ∷ []) ≡ by_caller who n xs
  by_caller-other n xs e p = by_caller-append_if n xs e false (ne_eqb (who e) n p)

  pub all_below-append : (n : ℕ) (xs : List E) (e : E) → AllBelow who n xs → who e < n → AllBelow who n (xs ++ e ∷ [])
  all_below-append n [] e h p = (p, tt)
  all_below-append n (x ∷ xs) e h p = (h.0, all_below-append n xs e h.1 p)

  pub all_below-more : (n : ℕ) (xs : List E) → AllBelow who n xs → AllBelow who (n + 1) xs
  all_below-more n [] h = tt
  all_below-more n (x ∷ xs) h = (omega (arith, h.0), all_below-more n xs h.1)

  -- an entry list that names only numbers below n has none of n
  pub none_named : (n : ℕ) (xs : List E) → AllBelow who n xs → by_caller who n xs ≡ []
  none_named n [] h = refl
  none_named n (x ∷ xs) h = let ne : (who x == n) ≡ false = ne_eqb (who x) n (λ e. omega (arith, h.0, e)) in rw ne (none_named n xs h.1)

  total : ℕ → List E → ℕ
  total zero xs = 0
  total (suc n) xs = total n xs + length (by_caller who n xs)

  total_more_if : (n : ℕ) (x : E) (xs : List E) (b : Bool) → (who x == n) ≡ b → total n xs ≤ total n (x ∷ xs) → total (suc n) xs ≤ total (suc n) (x ∷ xs)
  unfolding total
  total_more_if n x xs true p ih = let s : length (by_caller who n (x ∷ xs)) ≡ length (by_caller who n xs) + 1 = rw p (omega arith) in omega (arith, ih, s)
  total_more_if n x xs false p ih = let s : length (by_caller who n (x ∷ xs)) ≡ length (by_caller who n xs) = rw p refl in omega (arith, ih, s)

  total_more : (n : ℕ) (x : E) (xs : List E) → total n xs ≤ total n (x ∷ xs)
  unfolding total
  total_more zero x xs = omega arith
  total_more (suc n) x xs = total_more_if n x xs (who x == n) refl (total_more n x xs)

  total_counts_if : (n : ℕ) (x : E) (xs : List E) → who x < suc n → (d : Dec (who x ≡ n)) → (who x < n → suc (total n xs) ≤ total n (x ∷ xs)) → suc (total (suc n) xs) ≤ total (suc n) (x ∷ xs)
  unfolding total
  total_counts_if n x xs h (yes e) ih = let s : length (by_caller who n (x ∷ xs)) ≡ length (by_caller who n xs) + 1 = rw (eq-eqb (who x) n e) (omega arith) in omega (arith, total_more n x xs, s)
  total_counts_if n x xs h (no ne) ih = let s : length (by_caller who n (x ∷ xs)) ≡ length (by_caller who n xs) = rw (ne_eqb (who x) n ne) refl in
      let lt : who x < n = omega (arith, h, ne) in omega (arith, ih lt, s)

  total_counts : (n : ℕ) (x : E) (xs : List E) → who x < n → suc (total n xs) ≤ total n (x ∷ xs)
  total_counts zero x xs h = absurd (omega arith)
  total_counts (suc n) x xs h = total_counts_if n x xs h (ℕ_discrete (who x) n) (total_counts n x xs)

  total_covers : (n : ℕ) (xs : List E) → AllBelow who n xs → length xs ≤ total n xs
  total_covers n [] h = omega arith
  total_covers n (x ∷ xs) h = let a = total_covers n xs h.1 in let b = total_counts n x xs h.0 in omega (arith, a, b)

  total_bounded : (n m : ℕ) (xs : List E) → ((k : ℕ) → length (by_caller who k xs) ≤ m) → total n xs ≤ n * m
  unfolding total
  total_bounded zero m xs h = omega arith
  total_bounded (suc n) m xs h = let ih = total_bounded n m xs h in let b = h n in omega (arith, ih, b, suc-mul n m)

  pub length_bounded : (n m : ℕ) (xs : List E) → AllBelow who n xs → ((k : ℕ) → length (by_caller who k xs) ≤ m) → length xs ≤ n * m
  length_bounded n m xs a h = omega (arith, total_covers n xs a, total_bounded n m xs h)
