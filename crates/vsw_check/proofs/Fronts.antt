-- The first place at which a test passes, behind a front that holds none.
use Rattle.std.proofs.Common.{◌≡◌, ℕ, zero, suc, ◌+◌, ◌-◌, ◌<◌, ◌≤◌, ◌||◌, not, Bool, true, false, true≢false, List, [], ◌∷◌, length, drop, take, length-drop, Some, None, nat_lt, refl, sym, ap, ◌∙◌, arith}
use Rattle.std.specs.Prelude.{if◌then◌else◌}
use Rattle.std.specs.List.{list_any, position, position_or_len}
use Rattle.std.proofs.lemmas.Bool.{ltb-false, ltb-true}
use Rattle.std.proofs.lemmas.List.{drop-drop, take_all}
use Rattle.std.proofs.lemmas.List.Quantifiers.{position-Some}
use Rattle.vsw_policy.proofs.Firsts.{place-some, place-none}

pub skipped : (p : ℕ → Bool) (n : ℕ) (xs : List ℕ) → n ≤ length xs → list_any p (take n xs) ≡ false → position_or_len p xs ≡ n + position_or_len p (drop n xs)
skipped p zero xs le e = omega arith
skipped p (suc n) [] le e = absurd (omega (arith, le))
skipped p (suc n) (x ∷ xs) le e = by (p x) refl e (skipped p n xs (omega (arith, le))) where
  by : (b : Bool) → p x ≡ b → (b || list_any p (take n xs)) ≡ false → (list_any p (take n xs) ≡ false → position_or_len p xs ≡ n + position_or_len p (drop n xs)) → position_or_len p (x ∷ xs) ≡ suc n + position_or_len p (drop n xs)
  by true q f more = absurd (true≢false f)
  by false q f more =
      let one : position_or_len p (x ∷ xs) ≡ 1 + position_or_len p xs = ap (λ b. if not b then 1 + position_or_len p xs else 0) q in
      omega (arith, one, more f)

pub further : (p : ℕ → Bool) (at n : ℕ) (xs : List ℕ) → at + n ≤ length xs → list_any p (take n (drop at xs)) ≡ false → position_or_len p xs ≡ at + position_or_len p (drop at xs) → position_or_len p xs ≡ at + n + position_or_len p (drop (at + n) xs)
further p at n xs le e f =
    let more : position_or_len p (drop at xs) ≡ n + position_or_len p (drop n (drop at xs)) = skipped p n (drop at xs) (omega (arith, le, length-drop at xs)) e in
    let there : position_or_len p (drop n (drop at xs)) ≡ position_or_len p (drop (at + n) xs) = ap (position_or_len p) (drop-drop n at xs) in
    omega (arith, f, more, there)

rest_is : (n : ℕ) (xs : List ℕ) → n ≤ length xs → take (length xs - n) (drop n xs) ≡ drop n xs
rest_is n xs le = take_all (length xs - n) (drop n xs) (omega (arith, length-drop n xs))

pub found : (p : ℕ → Bool) (n m : ℕ) (xs : List ℕ) → n ≤ length xs → position_or_len p xs ≡ n + position_or_len p (drop n xs) → position p (take (length xs - n) (drop n xs)) ≡ Some m → Some (n + m) ≡ position p xs
found p n m xs le e f =
    let here : position p (drop n xs) ≡ Some m = ap (position p) (sym (rest_is n xs le)) ∙ f in
    let m_is : m ≡ position_or_len p (drop n xs) = place-some p (drop n xs) m here in
    let lt : m < length (drop n xs) = (position-Some p (drop n xs) m 0 here).0 in
    by (omega (arith, e, m_is)) (omega (arith, e, m_is, lt, length-drop n xs)) (nat_lt (position_or_len p xs) (length xs)) refl where
      by : position_or_len p xs ≡ n + m → position_or_len p xs < length xs → (b : Bool) → nat_lt (position_or_len p xs) (length xs) ≡ b → Some (n + m) ≡ (if b then Some (position_or_len p xs) else None)
      by at lt true q = ap Some (sym at)
      by at lt false q = absurd (omega (arith, lt, ltb-false (position_or_len p xs) (length xs) q))

pub none_found : (p : ℕ → Bool) (n : ℕ) (xs : List ℕ) → n ≤ length xs → position_or_len p xs ≡ n + position_or_len p (drop n xs) → position p (take (length xs - n) (drop n xs)) ≡ None → None ≡ position p xs
none_found p n xs le e f =
    let there : length (drop n xs) ≡ position_or_len p (drop n xs) = place-none p (drop n xs) (ap (position p) (sym (rest_is n xs le)) ∙ f) in
    by (omega (arith, e, there, length-drop n xs)) (nat_lt (position_or_len p xs) (length xs)) refl where
      by : length xs ≤ position_or_len p xs → (b : Bool) → nat_lt (position_or_len p xs) (length xs) ≡ b → None ≡ (if b then Some (position_or_len p xs) else None)
      by le true q = absurd (omega (arith, le, ltb-true (position_or_len p xs) (length xs) q))
      by le false q = refl
