-- The number that digits write, from the left.
use Rattle.std.proofs.Common.{◌≡◌, ℕ, ◌+◌, ◌-◌, ◌*◌, ◌^◌, ◌<◌, ◌≤◌, ◌&&◌, Bool, true, false, List, [], ◌∷◌, length, drop, get_or, Some, None, nat_lt, refl, sym, ap, ap₂, ◌∙◌, arith}
use Rattle.std.specs.Prelude.{if◌then◌else◌}
use Rattle.std.specs.Char.{digit_value, is_ascii_digit}
use Rattle.std.proofs.lemmas.Grind.{common_steps}
use Rattle.std.specs.Str.{all_ascii_digits}
use Rattle.std.specs.Str.Parse.{digits_value, digits_value_after}
use Rattle.std.proofs.lemmas.Bool.{ltb-true, ltb-false}
use Rattle.std.proofs.lemmas.List.{drop_all, drop_more}
use Rattle.std.proofs.lemmas.Str.{digit_value_digit}
use Rattle.vsw_report.specs.Words.{number_in}
use Rattle.vsw_report.proofs.RoundsBack.{some_same}
use Rattle.vsw_check.proofs.Steps.{none_some}

grows : (ds : List ℕ) (n : ℕ) → n ≤ digits_value_after 10 n ds
grows [] n = omega arith
grows (d ∷ ds) n = omega (arith, grows ds (n * 10 + digit_value d))

pub too_large : (word rest : List ℕ) (v : ℕ) → digits_value_after 10 v rest ≡ digits_value_after 10 0 word → 2 ^ 32 ≤ v → number_in (2 ^ 32) word ≡ None
too_large word rest v e le = by (all_ascii_digits word) (nat_lt (digits_value 10 word) (2 ^ 32)) refl where
  by : (a b : Bool) → nat_lt (digits_value 10 word) (2 ^ 32) ≡ b → (if a && b then Some (digits_value 10 word) else None) ≡ None
  by true true p = absurd (omega (arith, le, e, grows rest v, ltb-true (digits_value 10 word) (2 ^ 32) p))
  by true false p = refl
  by false b p = refl

pub whole_number : (word : List ℕ) (i v : ℕ) → length word ≤ i → v < 2 ^ 32 → digits_value_after 10 v (drop i word) ≡ digits_value_after 10 0 word → all_ascii_digits (drop i word) ≡ all_ascii_digits word → Some v ≡ number_in (2 ^ 32) word
whole_number word i v le lt e f =
    let end : drop i word ≡ [] = drop_all i word le in
    let value : v ≡ digits_value 10 word = sym (ap (digits_value_after 10 v) end) ∙ e in
    let digits : all_ascii_digits word ≡ true = sym f ∙ ap all_ascii_digits end in
    ap Some value ∙ sym (ap₂ (λ a b. if a && b then Some (digits_value 10 word) else None) digits (small (nat_lt (digits_value 10 word) (2 ^ 32)) refl value)) where
      small : (b : Bool) → nat_lt (digits_value 10 word) (2 ^ 32) ≡ b → v ≡ digits_value 10 word → nat_lt (digits_value 10 word) (2 ^ 32) ≡ true
      small true p q = p
      small false p q = absurd (omega (arith, lt, q, ltb-false (digits_value 10 word) (2 ^ 32) p))

pub too_large_here : (word : List ℕ) (i v : ℕ) → i < length word → digits_value_after 10 v (drop i word) ≡ digits_value_after 10 0 word → 2 ^ 32 ≤ v * 10 + digit_value (get_or word i 0) → number_in (2 ^ 32) word ≡ None
too_large_here word i v lt e le = too_large word (drop (i + 1) word) (v * 10 + digit_value (get_or word i 0)) (sym (ap (digits_value_after 10 v) (drop_more word i 0 lt)) ∙ e) le

pub digit_is : (c : ℕ) → 48 ≤ c → c ≤ 57 → digit_value c ≡ c - 48
digit_is c low high = let is = digit_value_digit c (low, high) in omega (arith, is)

pub digit_of : (c : ℕ) → true ≡ is_ascii_digit c → digit_value c ≡ c - 48
digit_of c e = grind (arith, common_steps)

-- ---- below 2^16

both_tests : (word : List ℕ) (n : ℕ) → number_in (2 ^ 32) word ≡ Some n → (all_ascii_digits word ≡ true) × (digits_value 10 word ≡ n)
both_tests word n e = by (all_ascii_digits word) (nat_lt (digits_value 10 word) (2 ^ 32)) refl e where
  by : (a b : Bool) → all_ascii_digits word ≡ a → (if a && b then Some (digits_value 10 word) else None) ≡ Some n → (all_ascii_digits word ≡ true) × (digits_value 10 word ≡ n)
  by true true p q = (p, some_same q)
  by true false p q = absurd (none_some q)
  by false b p q = absurd (none_some q)

pub short_number : (word : List ℕ) (n : ℕ) → number_in (2 ^ 32) word ≡ Some n → n < 2 ^ 16 → number_in (2 ^ 16) word ≡ Some n
short_number word n e lt =
    let (digits, value) = both_tests word n e in
    ap₂ (λ a v. if a && nat_lt v (2 ^ 16) then Some v else None) digits value ∙ small (nat_lt n (2 ^ 16)) refl where
      small : (b : Bool) → nat_lt n (2 ^ 16) ≡ b → (if b then Some n else None) ≡ Some n
      small true p = refl
      small false p = absurd (omega (arith, lt, ltb-false n (2 ^ 16) p))

pub long_number : (word : List ℕ) (n : ℕ) → number_in (2 ^ 32) word ≡ Some n → 2 ^ 16 ≤ n → number_in (2 ^ 16) word ≡ None
long_number word n e le =
    let (digits, value) = both_tests word n e in
    ap₂ (λ a v. if a && nat_lt v (2 ^ 16) then Some v else None) digits value ∙ large (nat_lt n (2 ^ 16)) refl where
      large : (b : Bool) → nat_lt n (2 ^ 16) ≡ b → (if b then Some n else None) ≡ None
      large true p = absurd (omega (arith, le, ltb-true n (2 ^ 16) p))
      large false p = refl

pub no_short_number : (word : List ℕ) → number_in (2 ^ 32) word ≡ None → number_in (2 ^ 16) word ≡ None
no_short_number word e = by (all_ascii_digits word) (nat_lt (digits_value 10 word) (2 ^ 32)) (nat_lt (digits_value 10 word) (2 ^ 16)) refl refl refl e where
  by : (a b c : Bool) → all_ascii_digits word ≡ a → nat_lt (digits_value 10 word) (2 ^ 32) ≡ b → nat_lt (digits_value 10 word) (2 ^ 16) ≡ c
      → (if a && b then Some (digits_value 10 word) else None) ≡ None → (if a && c then Some (digits_value 10 word) else None) ≡ None
  by true true c p q r f = absurd (none_some (sym f))
  by true false true p q r f = absurd (omega (arith, ltb-false (digits_value 10 word) (2 ^ 32) q, ltb-true (digits_value 10 word) (2 ^ 16) r))
  by true false false p q r f = refl
  by false b c p q r f = refl
