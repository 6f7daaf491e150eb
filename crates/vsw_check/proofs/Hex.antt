-- Hexadecimal text, read by a table and from its end.
use Rattle.std.proofs.Common.{◌≡◌, ℕ, suc, ◌+◌, ◌*◌, ◌<◌, ◌≤◌, ◌==◌, ◌&&◌, ◌%◌, Bool, true, false, List, [], ◌∷◌, length, drop, get_or, Option, Some, None, nat_lt, refl, sym, ap, ap₂, ◌∙◌, subst, arith, set, zero}
use Rattle.std.specs.Prelude.{Result, Ok, Err, if◌then◌else◌}
use Rattle.std.proofs.lemmas.Bool.{and_parts, eq-eqb, eqb-true, ltb-true}
use Rattle.std.proofs.lemmas.List.{drop_all, drop_more, drop-set}
use Rattle.hex.specs.Hex.{◌>>=◌, hex_digit_value, digit_or_error, decode_pairs, decode_of}
use Rattle.hex.specs.declared.error.FromHexError.{FromHexError}
use Rattle.hex.specs.declared.error.FromHexError.TheVariants.{OddLength}
use Rattle.vsw_base.specs.declared.fate.Fate.TheVariants.{Pass}
use Rattle.vsw_report.specs.Words.{passed}
use Rattle.vsw_report.specs.declared.told.What.TheVariants as what
use Rattle.vsw_report.proofs.RoundsBack.{some_same}
use Rattle.vsw_check.specs.Private.Decode.{two, joined, pair_of, decoded}
use Rattle.vsw_check.proofs.Steps.{none_some}

-- ---- the table

abbrev pub values : List ℕ
values = 16 ∷ 16 ∷ 16 ∷ 16 ∷ 16 ∷ 16 ∷ 16 ∷ 16 ∷ 16 ∷ 16 ∷ 16 ∷ 16 ∷ 16 ∷ 16 ∷ 16 ∷ 16 ∷ 16 ∷ 16 ∷ 16 ∷ 16 ∷ 16 ∷ 16 ∷ 16 ∷ 16 ∷ 16 ∷ 16 ∷ 16 ∷ 16 ∷ 16 ∷ 16 ∷ 16 ∷ 16 ∷ 16 ∷ 16 ∷ 16 ∷ 16 ∷ 16 ∷ 16 ∷ 16 ∷ 16 ∷ 16 ∷ 16 ∷ 16 ∷ 16 ∷ 16 ∷ 16 ∷ 16 ∷ 16 ∷ 0 ∷ 1 ∷ 2 ∷ 3 ∷ 4 ∷ 5 ∷ 6 ∷ 7 ∷ 8 ∷ 9 ∷ 16 ∷ 16 ∷ 16 ∷ 16 ∷ 16 ∷ 16 ∷ 16 ∷ 10 ∷ 11 ∷ 12 ∷ 13 ∷ 14 ∷ 15 ∷ 16 ∷ 16 ∷ 16 ∷ 16 ∷ 16 ∷ 16 ∷ 16 ∷ 16 ∷ 16 ∷ 16 ∷ 16 ∷ 16 ∷ 16 ∷ 16 ∷ 16 ∷ 16 ∷ 16 ∷ 16 ∷ 16 ∷ 16 ∷ 16 ∷ 16 ∷ 16 ∷ 16 ∷ 16 ∷ 16 ∷ 10 ∷ 11 ∷ 12 ∷ 13 ∷ 14 ∷ 15 ∷ 16 ∷ 16 ∷ 16 ∷ 16 ∷ 16 ∷ 16 ∷ 16 ∷ 16 ∷ 16 ∷ 16 ∷ 16 ∷ 16 ∷ 16 ∷ 16 ∷ 16 ∷ 16 ∷ 16 ∷ 16 ∷ 16 ∷ 16 ∷ 16 ∷ 16 ∷ 16 ∷ 16 ∷ 16 ∷ 16 ∷ 16 ∷ 16 ∷ 16 ∷ 16 ∷ 16 ∷ 16 ∷ 16 ∷ 16 ∷ 16 ∷ 16 ∷ 16 ∷ 16 ∷ 16 ∷ 16 ∷ 16 ∷ 16 ∷ 16 ∷ 16 ∷ 16 ∷ 16 ∷ 16 ∷ 16 ∷ 16 ∷ 16 ∷ 16 ∷ 16 ∷ 16 ∷ 16 ∷ 16 ∷ 16 ∷ 16 ∷ 16 ∷ 16 ∷ 16 ∷ 16 ∷ 16 ∷ 16 ∷ 16 ∷ 16 ∷ 16 ∷ 16 ∷ 16 ∷ 16 ∷ 16 ∷ 16 ∷ 16 ∷ 16 ∷ 16 ∷ 16 ∷ 16 ∷ 16 ∷ 16 ∷ 16 ∷ 16 ∷ 16 ∷ 16 ∷ 16 ∷ 16 ∷ 16 ∷ 16 ∷ 16 ∷ 16 ∷ 16 ∷ 16 ∷ 16 ∷ 16 ∷ 16 ∷ 16 ∷ 16 ∷ 16 ∷ 16 ∷ 16 ∷ 16 ∷ 16 ∷ 16 ∷ 16 ∷ 16 ∷ 16 ∷ 16 ∷ 16 ∷ 16 ∷ 16 ∷ 16 ∷ 16 ∷ 16 ∷ 16 ∷ 16 ∷ 16 ∷ 16 ∷ 16 ∷ 16 ∷ 16 ∷ 16 ∷ 16 ∷ 16 ∷ 16 ∷ 16 ∷ 16 ∷ 16 ∷ 16 ∷ 16 ∷ 16 ∷ 16 ∷ 16 ∷ 16 ∷ 16 ∷ 16 ∷ 16 ∷ 16 ∷ 16 ∷ 16 ∷ 16 ∷ 16 ∷ 16 ∷ 16 ∷ 16 ∷ 16 ∷ 16 ∷ 16 ∷ 16 ∷ 16 ∷ 16 ∷ 16 ∷ 16 ∷ 16 ∷ 16 ∷ 16 ∷ []

-- a digit's value stands in the table, and 16 of what is none
abbrev same : ℕ → Option ℕ → Bool
same v None = v == 16
same v (Some w) = (v == w) && nat_lt w 16

abbrev agree : ℕ → List ℕ → Bool
agree c [] = true
agree c (v ∷ vs) = same v (hex_digit_value c) && agree (suc c) vs

values_agree : agree 0 values ≡ true
values_agree = refl

here : (c i : ℕ) (vs : List ℕ) → agree c vs ≡ true → i < length vs → same (get_or vs i 0) (hex_digit_value (c + i)) ≡ true
here c i [] e lt = absurd (omega (arith, lt))
here c zero (v ∷ vs) e lt = subst (λ k. same v (hex_digit_value k) ≡ true) zeroth (and_parts (same v (hex_digit_value c)) (agree (suc c) vs) e).0 where
  zeroth : c ≡ c + 0
  zeroth = omega arith
here c (suc i) (v ∷ vs) e lt =
    subst (λ k. same (get_or vs i 0) (hex_digit_value k) ≡ true) next (here (suc c) i vs (and_parts (same v (hex_digit_value c)) (agree (suc c) vs) e).1 (omega (arith, lt))) where
      next : suc c + i ≡ c + suc i
      next = omega arith

told : (c : ℕ) → c < 256 → same (get_or values c 0) (hex_digit_value c) ≡ true
told c lt = subst (λ k. same (get_or values c 0) (hex_digit_value k) ≡ true) from_zero (here 0 c values values_agree lt) where
  from_zero : 0 + c ≡ c
  from_zero = omega arith

pub digit_here : (c k : ℕ) → c < 256 → k ≡ c → get_or values k 0 < 16 → Some (get_or values k 0) ≡ hex_digit_value c
digit_here c k lt is small = by (hex_digit_value c) (subst (λ n. same (get_or values n 0) (hex_digit_value c) ≡ true) (sym is) (told c lt)) where
  by : (o : Option ℕ) → same (get_or values k 0) o ≡ true → Some (get_or values k 0) ≡ o
  by None e = absurd (omega (arith, small, eqb-true (get_or values k 0) 16 e))
  by (Some w) e = ap Some (eqb-true (get_or values k 0) w (and_parts (get_or values k 0 == w) (nat_lt w 16) e).0)

pub no_digit_here : (c k : ℕ) → c < 256 → k ≡ c → 16 ≤ get_or values k 0 → None ≡ hex_digit_value c
no_digit_here c k lt is large = by (hex_digit_value c) (subst (λ n. same (get_or values n 0) (hex_digit_value c) ≡ true) (sym is) (told c lt)) where
  by : (o : Option ℕ) → same (get_or values k 0) o ≡ true → None ≡ o
  by None e = refl
  by (Some w) e =
      let p = and_parts (get_or values k 0 == w) (nat_lt w 16) e in
      absurd (omega (arith, large, eqb-true (get_or values k 0) w p.0, ltb-true w 16 p.1))

pub digit_is_small : (c v : ℕ) → c < 256 → hex_digit_value c ≡ Some v → v < 16
digit_is_small c v lt e = by (hex_digit_value c) e (told c lt) where
  by : (o : Option ℕ) → o ≡ Some v → same (get_or values c 0) o ≡ true → v < 16
  by None p q = absurd (none_some p)
  by (Some w) p q = subst (λ k. k < 16) (some_same p) (ltb-true w 16 (and_parts (get_or values c 0 == w) (nat_lt w 16) q).1)

-- ---- from the end

two_front : (i : ℕ) (text : List ℕ) → decoded (drop (2 * i) text) ≡ None → decoded text ≡ None
two_front zero text e = e
two_front (suc i) [] e = absurd (none_some (sym e ∙ ap decoded (drop_all (2 * suc i) [] (omega arith))))
two_front (suc i) (d ∷ []) e = refl
two_front (suc i) (h ∷ l ∷ rest) e =
    let inner : decoded rest ≡ None = two_front i rest (ap (λ k. decoded (drop k (h ∷ l ∷ rest))) (sym twice) ∙ e) in
    ap (joined (pair_of h l)) inner ∙ nothing (pair_of h l) where
      twice : 2 * suc i ≡ suc (suc (2 * i))
      twice = omega arith

      nothing : (o : Option ℕ) → joined o None ≡ None
      nothing None = refl
      nothing (Some b) = refl

pair_before : (i : ℕ) (text : List ℕ) → 2 * i + 1 < length text → drop (2 * i) text ≡ get_or text (2 * i) 0 ∷ get_or text (2 * i + 1) 0 ∷ drop (2 * (i + 1)) text
pair_before i text lt =
    let twice : 2 * i + 1 + 1 ≡ 2 * (i + 1) = omega arith in
    drop_more text (2 * i) 0 (omega (arith, lt)) ∙ ap (λ t. get_or text (2 * i) 0 ∷ t) (drop_more text (2 * i + 1) 0 lt ∙ ap (λ k. get_or text (2 * i + 1) 0 ∷ drop k text) twice)

pub not_a_pair : (i : ℕ) (text : List ℕ) → 2 * i + 1 < length text → pair_of (get_or text (2 * i) 0) (get_or text (2 * i + 1) 0) ≡ None → decoded text ≡ None
not_a_pair i text lt e = two_front i text (ap decoded (pair_before i text lt) ∙ ap (λ o. joined o (decoded (drop (2 * (i + 1)) text))) e)

pub one_pair_more : (i byte : ℕ) (text out : List ℕ) → 2 * i + 1 < length text → i < length out → pair_of (get_or text (2 * i) 0) (get_or text (2 * i + 1) 0) ≡ Some byte → decoded (drop (2 * (i + 1)) text) ≡ Some (drop (i + 1) out) → decoded (drop (2 * i) text) ≡ Some (drop i (set out i byte))
one_pair_more i byte text out lt within e rest = ap decoded (pair_before i text lt) ∙ (ap₂ joined e rest ∙ ap Some (sym (drop-set out i byte within)))

-- ---- what decode answers

abbrev ok_of : {A E : Type 0} → Result A E → Option A
ok_of (Ok x) = Some x
ok_of (Err e) = None

joined_is : (i high low : ℕ) (a b : Option ℕ) (r : Result (List ℕ) FromHexError)
    → ok_of ((digit_or_error high i a >>= (λ x. digit_or_error low (i + 1) b >>= (λ y. Ok (x * 16 + y)))) >>= (λ byte. r >>= (λ bytes. Ok (byte ∷ bytes)))) ≡ joined (two a b) (ok_of r)
joined_is i high low None b r = refl
joined_is i high low (Some x) None r = refl
joined_is i high low (Some x) (Some y) (Ok bytes) = refl
joined_is i high low (Some x) (Some y) (Err e) = refl

pairs_are : (i : ℕ) (text : List ℕ) → ok_of (decode_pairs i text) ≡ decoded text
unfolding decode_pairs
pairs_are i [] = refl
pairs_are i (d ∷ []) = refl
pairs_are i (h ∷ l ∷ rest) = joined_is i h l (hex_digit_value h) (hex_digit_value l) (decode_pairs (i + 2) rest) ∙ ap (joined (pair_of h l)) (pairs_are (i + 2) rest)

decoded_length : (text bytes : List ℕ) → decoded text ≡ Some bytes → length text ≡ 2 * length bytes
decoded_length [] bytes e = ap (λ bs. 2 * length bs) (some_same e)
decoded_length (d ∷ []) bytes e = absurd (none_some e)
decoded_length (h ∷ l ∷ rest) bytes e = by (pair_of h l) (decoded rest) refl (decoded_length rest) e where
  by : (o : Option ℕ) (p : Option (List ℕ)) → decoded rest ≡ p → ((bs : List ℕ) → decoded rest ≡ Some bs → length rest ≡ 2 * length bs) → joined o p ≡ Some bytes → suc (suc (length rest)) ≡ 2 * length bytes
  by None p q more f = absurd (none_some f)
  by (Some b) None q more f = absurd (none_some f)
  by (Some b) (Some bs) q more f =
      let inner : length rest ≡ 2 * length bs = more bs q in
      let whole : suc (length bs) ≡ length bytes = ap length (some_same f) in
      omega (arith, inner, whole)

pub not_decoded : (len : ℕ) (text : List ℕ) → decoded text ≡ None → passed len (decode_of text) ≡ None
not_decoded len text e = by (length text % 2 == 1) (decode_pairs 0 text) (pairs_are 0 text) where
  by : (b : Bool) (r : Result (List ℕ) FromHexError) → ok_of r ≡ decoded text → passed len (if b then Err OddLength else r) ≡ None
  by true r q = refl
  by false (Ok bytes) q = absurd (none_some (sym (q ∙ e)))
  by false (Err f) q = refl

pub wrong_length : (len : ℕ) (text : List ℕ) → (length text ≡ 2 * len → ⊥) → passed len (decode_of text) ≡ None
wrong_length len text never = by (length text % 2 == 1) (decode_pairs 0 text) (pairs_are 0 text) where
  lengths : (bytes : List ℕ) (b : Bool) → length text ≡ 2 * length bytes → (length bytes == len) ≡ b → (if b then Some (what.Fate (Pass len) bytes) else None) ≡ None
  lengths bytes false p q = refl
  lengths bytes true p q = absurd (never (p ∙ ap (λ n. 2 * n) (eqb-true (length bytes) len q)))

  by : (b : Bool) (r : Result (List ℕ) FromHexError) → ok_of r ≡ decoded text → passed len (if b then Err OddLength else r) ≡ None
  by true r q = refl
  by false (Ok bytes) q = lengths bytes (length bytes == len) (decoded_length text bytes (sym q)) refl
  by false (Err f) q = refl

pub is_decoded : (len : ℕ) (text bytes : List ℕ) → length text ≡ 2 * len → decoded text ≡ Some bytes → passed len (decode_of text) ≡ Some (what.Fate (Pass len) bytes)
is_decoded len text bytes long e = by (length text % 2 == 1) refl (decode_pairs 0 text) (pairs_are 0 text) where
  same_length : length bytes ≡ len
  same_length = omega (arith, long, decoded_length text bytes e)

  by : (b : Bool) → (length text % 2 == 1) ≡ b → (r : Result (List ℕ) FromHexError) → ok_of r ≡ decoded text → passed len (if b then Err OddLength else r) ≡ Some (what.Fate (Pass len) bytes)
  by true p r q = absurd (omega (arith, long, eqb-true (length text % 2) 1 p))
  by false p (Ok bs) q =
      let is : bs ≡ bytes = some_same (q ∙ e) in
      ap (λ k. if length k == len then Some (what.Fate (Pass len) k) else None) is ∙ ap (λ b. if b then Some (what.Fate (Pass len) bytes) else None) (eq-eqb (length bytes) len same_length)
  by false p (Err f) q = absurd (none_some (q ∙ e))
