-- A word is a number exactly where it is that number in decimal.
use Rattle.std.proofs.Common.{◌≡◌, ◌≢◌, ℕ, zero, suc, ◌^◌, ◌<◌, ◌≤◌, ◌==◌, ◌&&◌, Bool, true, false, not, List, [], ◌∷◌, length, get_or, Some, None, Result, Ok, Err, is_ok, refl, sym, ap, ◌∙◌, subst, arith}
use Rattle.std.specs.Prelude.{decimal, bytes_eq, nat_le, if◌then◌else◌}
use Rattle.std.specs.Result.{result_ok}
use Rattle.std.specs.Str.{all_ascii_digits}
use Rattle.std.specs.Str.Parse.{digits_value, ParsesUnsigned}
use Rattle.std.proofs.lemmas.Bool.{and_parts, and_from, cond-true, cond-false, leb-true, le-leb, eq-eqb, ne_eqb, not-true, not_from_false, false_from_ne_true, both_ways, true≢false}
use Rattle.std.proofs.lemmas.Option.{none-some, same_Some, cond_some}
use Rattle.std.proofs.lemmas.Fmt.{decimal_digit, first_decimal, parse-decimal, digits_value-decimal, decimal-digits_value}
use Rattle.std.proofs.lemmas.Slice.Eq.{bytes_eq-Decides}
use Rattle.std.proofs.lemmas.Str.Parse.{IsNumeralModel, numerals_by_value, tells_all_ascii_digits, parse_plain}
use Rattle.vsw_run.specs.Plain.{is_plain}
use Rattle.vsw_run.specs.Words.{number_in}

own : IsNumeralModel (λ ds. all_ascii_digits ds ≡ true) (digits_value 10)
own = numerals_by_value (λ ds. all_ascii_digits ds ≡ true) tells_all_ascii_digits

-- the test that a number passes
abbrev passes : ℕ → ℕ → List ℕ → ℕ → Bool
passes least most word n = bytes_eq word (decimal n) && nat_le least n && nat_le n most

differs : (a b : ℕ) → (a ≡ b → ⊥) → not (a == b) ≡ true
differs a b h = not_from_false (a == b) (ne_eqb a b h)

same : (a b : ℕ) → not (a == b) ≡ true → a ≡ b → ⊥
same a b h e = both_ways (a == b) (not-true (a == b) h) (eq-eqb a b e)

-- ---- a number in decimal is plain, and a plain word begins with no sign and no needless zero

plain_first : (word : List ℕ) → 48 < get_or word 0 0 → is_plain word ≡ true
plain_first [] h = absurd (omega (arith, h))
plain_first (c ∷ []) h = differs c 43 (λ e. omega (arith, e, h))
plain_first (c ∷ d ∷ rest) h = and_from _ _ (differs c 43 (λ e. omega (arith, e, h))) (differs c 48 (λ e. omega (arith, e, h)))

plain_decimal : (n : ℕ) → n < 2 ^ 64 → is_plain (decimal n) ≡ true
plain_decimal zero h = subst (λ w. is_plain w ≡ true) (sym (decimal_digit 0 (omega arith))) refl
plain_decimal (suc n) h = plain_first (decimal (suc n)) (first_decimal (suc n) (omega arith) h)

no_sign : (word : List ℕ) → is_plain word ≡ true → get_or word 0 0 ≢ 43
no_sign [] h e = absurd (both_ways false refl h)
no_sign (c ∷ []) h e = same c 43 h e
no_sign (c ∷ d ∷ rest) h e = same c 43 (and_parts _ _ h).0 e

no_zero : (word : List ℕ) → is_plain word ≡ true → get_or word 0 0 ≡ 48 → length word ≡ 1
no_zero [] h e = absurd (both_ways false refl h)
no_zero (c ∷ []) h e = refl
no_zero (c ∷ d ∷ rest) h e = absurd (same c 48 (and_parts (not (c == 43)) _ h).1 e)

-- ---- the number that a word gives is in decimal what the word is, and within the bounds

passed : (least most : ℕ) (word : List ℕ) (n : ℕ) → passes least most word n ≡ true → (word ≡ decimal n) × (least ≤ n) × (n ≤ most)
passed least most word n t =
    let (front, high) = and_parts (bytes_eq word (decimal n) && nat_le least n) (nat_le n most) t in
    let (is, low) = and_parts (bytes_eq word (decimal n)) (nat_le least n) front in
    ((bytes_eq-Decides word (decimal n)).0 is, leb-true least n low, leb-true n most high)

pub number_is : (least most : ℕ) (word : List ℕ) (n : ℕ) → number_in least most word ≡ Some n → (word ≡ decimal n) × (least ≤ n) × (n ≤ most)
number_is least most word n e =
    let (t, v) = cond_some (passes least most word (digits_value 10 word)) (digits_value 10 word) n e in
    subst (λ m. (word ≡ decimal m) × (least ≤ m) × (m ≤ most)) v (passed least most word (digits_value 10 word) t)

-- ---- and each such number is given

passes_so : (least most n : ℕ) (word : List ℕ) → word ≡ decimal n → least ≤ n → n ≤ most → passes least most word n ≡ true
passes_so least most n word is low high =
    and_from _ _ (and_from _ _ ((bytes_eq-Decides word (decimal n)).1 is) (le-leb least n low)) (le-leb n most high)

gives : (least most n : ℕ) (word : List ℕ) → digits_value 10 word ≡ n → passes least most word n ≡ true → number_in least most word ≡ Some n
gives least most n word v t = subst (λ m. (if passes least most word m then Some m else None) ≡ Some n) (sym v) (cond-true _ _ _ t)

pub number_of : (least most n : ℕ) → most < 2 ^ 64 → least ≤ n → n ≤ most → number_in least most (decimal n) ≡ Some n
number_of least most n fits low high =
    gives least most n (decimal n) (digits_value-decimal own n (omega (arith, fits, high))) (passes_so least most n (decimal n) refl low high)

-- ---- what `parse` answers

unread : (least most : ℕ) (word : List ℕ) → ((n : ℕ) → word ≡ decimal n → n ≤ most → ⊥) → None ≡ number_in least most word
unread least most word never =
    sym (cond-false _ _ _ (false_from_ne_true (passes least most word (digits_value 10 word)) (λ t.
    let (is, low, high) = passed least most word (digits_value 10 word) t in never (digits_value 10 word) is high)))

pub not_plain : (least most : ℕ) (word : List ℕ) → most < 2 ^ 32 → is_plain word ≡ false → None ≡ number_in least most word
not_plain least most word fits h =
    unread least most word (λ n is high. both_ways (is_plain word) h (subst (λ w. is_plain w ≡ true) (sym is) (plain_decimal n (omega (arith, fits, high)))))

pub not_parsed : {E : Type 0} (least most : ℕ) (word : List ℕ) (r : Result ℕ E) (e : E) → most < 2 ^ 32 → r ≡ Err e → ParsesUnsigned 32 10 word r → None ≡ number_in least most word
not_parsed least most word r e fits failed h =
    unread least most word (λ n is high. true≢false (sym (ap is_ok (parse-decimal 32 n word r (omega (arith, fits, high)) (omega (arith, fits, high)) is h)) ∙ ap is_ok failed))

read_so : (E : Type 0) (least most : ℕ) (word : List ℕ) (n : ℕ) → is_plain word ≡ true → ParsesUnsigned {E = E} 32 10 word (Ok n) → least ≤ n → n ≤ most → Some n ≡ number_in least most word
read_so E least most word n plain h low high =
    let (shape, is) = parse_plain own {E = E} 32 word (Ok n) h (no_sign word plain) in
    let v : digits_value 10 word ≡ n = sym is in
    let d : decimal n ≡ word = subst (λ m. decimal m ≡ word) v (decimal-digits_value own word shape.0 shape.1 (no_zero word plain) (omega (arith, shape.2))) in
    sym (gives least most n word v (passes_so least most n word (sym d) low high))

pub parsed : {E : Type 0} (least most : ℕ) (word : List ℕ) (r : Result ℕ E) (n : ℕ) → is_plain word ≡ true → result_ok r ≡ Some n → ParsesUnsigned 32 10 word r → least ≤ n → n ≤ most → Some n ≡ number_in least most word
parsed {E} least most word (Ok m) n plain is h low high =
    let h : ParsesUnsigned {E = E} 32 10 word (Ok n) = subst (λ m. ParsesUnsigned {E = E} 32 10 word (Ok m)) (same_Some m n is) h in
    read_so E least most word n plain h low high
parsed {E} least most word (Err e) n plain is h low high = absurd (none-some n is)
