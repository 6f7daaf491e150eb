-- Texts without a byte, joined by it and split at it.
use Rattle.std.proofs.Common.{◌≡◌, ℕ, suc, ◌+◌, ◌/◌, ◌%◌, ◌^◌, ◌<◌, ◌==◌, ◌&&◌, Bool, true, false, not, List, [], ◌∷◌, ◌++◌, length, slice_index, refl, sym, ap, ap₂, ◌∙◌, arith}
use Rattle.std.specs.Prelude.{decimal, bytes_eq, nat_lt}
use Rattle.std.specs.List.{All, slice_split, join_with_byte}
use Rattle.std.proofs.lemmas.Bool.{and_parts, ne_eqb, eq-eqb, ltb-false, ltb-true, true_from_ne_false, agree_below_at}
use Rattle.std.proofs.lemmas.List.Elements.{All-nil, All-cons}
use Rattle.std.proofs.lemmas.List.Splits.{slice_split_at, slice_split_none}
use Rattle.std.proofs.lemmas.Fmt.{decimal_by_steps}
use Rattle.hex.specs.Hex.{encode_lower, encode_with, lower_digits, IsBytes}

-- no byte is c
abbrev pub is_free : ℕ → List ℕ → Bool
is_free c [] = true
is_free c (x ∷ xs) = not (x == c) && is_free c xs

abbrev pub all_free : ℕ → List (List ℕ) → Bool
all_free c [] = true
all_free c (x ∷ xs) = is_free c x && all_free c xs

pub two : {a b : Bool} → a ≡ true → b ≡ true → a && b ≡ true
two {a} {b} p q = ap₂ (λ x y. x && y) p q

not_true : (b : Bool) → not b ≡ true → b ≡ false
not_true true e = sym e
not_true false e = refl

pub free_all : (c : ℕ) (xs : List ℕ) → is_free c xs ≡ true → All (λ x. (x == c) ≡ false) xs
free_all c [] e = All-nil (λ x. (x == c) ≡ false)
free_all c (x ∷ xs) e = All-cons (λ x. (x == c) ≡ false) x xs (not_true (x == c) (and_parts _ _ e).0) (free_all c xs (and_parts _ _ e).1)

pub free_both : (c : ℕ) (xs ys : List ℕ) → is_free c xs ≡ true → is_free c ys ≡ true → is_free c (xs ++ ys) ≡ true
free_both c [] ys e f = f
free_both c (x ∷ xs) ys e f = two (and_parts _ _ e).0 (free_both c xs ys (and_parts _ _ e).1 f)

pub differs : (c x : ℕ) → c < x → not (x == c) ≡ true
differs c x lt = ap not (ne_eqb x c (λ e. omega (arith, e, lt)))

-- a number in decimal has no byte below 48
pub free_decimal : (c n : ℕ) → c < 48 → n < 2 ^ 64 → is_free c (decimal n) ≡ true
free_decimal c n small h = decimal_by_steps (λ n ds. is_free c ds ≡ true) (λ n lt. two (differs c (48 + n) (omega (arith, small))) refl) (λ n ds le e. free_both c ds ((48 + n % 10) ∷ []) e (two (differs c (48 + n % 10) (omega (arith, small))) refl)) n h

above : (n b : ℕ) → nat_lt n b ≡ true → n < b
above n b e = ltb-true n b e

-- all bytes are above 42
abbrev pub high : List ℕ → Bool
high [] = true
high (x ∷ xs) = nat_lt 42 x && high xs

-- a word has no byte below 43
pub free_high : (c : ℕ) (xs : List ℕ) → c < 43 → high xs ≡ true → is_free c xs ≡ true
free_high c [] small h = refl
free_high c (x ∷ xs) small h =
    two (differs c x (omega (arith, small, above 42 x (and_parts (nat_lt 42 x) (high xs) h).0))) (free_high c xs small (and_parts (nat_lt 42 x) (high xs) h).1)

abbrev digit_free : ℕ → ℕ → Bool
digit_free c d = not (slice_index lower_digits d == c)

free_digit : (c d : ℕ) → c < 48 → d < 16 → digit_free c d ≡ true
free_digit c d small lt =
    let at = agree_below_at (λ d. nat_lt 47 (slice_index lower_digits d)) (λ d. true) 16 d refl lt in
    differs c (slice_index lower_digits d) (omega (arith, small, above 47 (slice_index lower_digits d) at))

pub free_hex : (c : ℕ) (xs : List ℕ) → c < 48 → IsBytes xs → is_free c (encode_lower xs) ≡ true
unfolding encode_with
free_hex c [] small h = refl
free_hex c (x ∷ xs) small h = two (free_digit c (x / 16) small (omega (arith, h 0))) (two (free_digit c (x % 16) small (omega arith)) (free_hex c xs small (λ i. h (suc i))))

pub split_joined : (c : ℕ) (x : List ℕ) (xs : List (List ℕ)) → is_free c x ≡ true → all_free c xs ≡ true → slice_split (λ b. b == c) (join_with_byte c (x ∷ xs)) ≡ x ∷ xs
split_joined c x [] f fs = slice_split_none (λ b. b == c) x (free_all c x f)
split_joined c x (y ∷ ys) f fs =
    slice_split_at (λ b. b == c) x c (join_with_byte c (y ∷ ys)) (free_all c x f) (eq-eqb c c refl) ∙ ap (λ r. x ∷ r) (split_joined c y ys (and_parts _ _ fs).0 (and_parts _ _ fs).1)

pub free_joined : (c d : ℕ) (x : List ℕ) (xs : List (List ℕ)) → not (d == c) ≡ true → is_free c x ≡ true → all_free c xs ≡ true → is_free c (join_with_byte d (x ∷ xs)) ≡ true
free_joined c d x [] ne f fs = f
free_joined c d x (y ∷ ys) ne f fs = free_both c x (d ∷ join_with_byte d (y ∷ ys)) f (two ne (free_joined c d y ys ne (and_parts _ _ fs).0 (and_parts _ _ fs).1))

pub bytes_self : (xs : List ℕ) → bytes_eq xs xs ≡ true
bytes_self [] = refl
bytes_self (x ∷ xs) = two (eq-eqb x x refl) (bytes_self xs)

pub below_true : (n b : ℕ) → n < b → nat_lt n b ≡ true
below_true n b h = true_from_ne_false (nat_lt n b) (λ e. omega (arith, h, ltb-false n b e))

-- words are what they were before they were joined
pub split_whole : (c : ℕ) (fs : List (List ℕ)) → 0 < length fs → all_free c fs ≡ true → slice_split (λ b. b == c) (join_with_byte c fs) ≡ fs
split_whole c [] some f = absurd (omega (arith, some))
split_whole c (x ∷ xs) some f = split_joined c x xs (and_parts (is_free c x) (all_free c xs) f).0 (and_parts (is_free c x) (all_free c xs) f).1

pub free_whole : (c d : ℕ) (fs : List (List ℕ)) → not (d == c) ≡ true → all_free c fs ≡ true → is_free c (join_with_byte d fs) ≡ true
free_whole c d [] ne f = refl
free_whole c d (x ∷ xs) ne f = free_joined c d x xs ne (and_parts (is_free c x) (all_free c xs) f).0 (and_parts (is_free c x) (all_free c xs) f).1
