-- Where stamps and words stand in the table, and lists of seats.
use Rattle.std.proofs.Common.{◌≡◌, ◌≢◌, ◌⊎◌, ℕ, zero, suc, ◌+◌, ◌*◌, ◌-◌, ◌<◌, ◌≤◌, nat_lt, Bool, true, false, if◌then◌else◌, List, [], ◌∷◌, ◌++◌, length, refl, ap, sym, subst, inl, inr, ◌∙◌, arith, ⊎_elim, replicate, set, get_or, length-set, get_or-set_same, get_or-set_other}
use Rattle.std.proofs.lemmas.List.{length-replicate, set-get_or}
use Rattle.std.proofs.lemmas.Bool.{le-ltb, lt-ltb}
use Rattle.std.proofs.lemmas.Grind.{common_steps}
use mathlib.Core.Logic.{dite}
use native.Mathlib.Decide.{ℕ_discrete}
use mathlib.Core.Option.{some, some-injective, some-ne-none}
use lib.ListN.{get_elem?}
use Rattle.vsw_stamps.specs.Order.{turn_of, word_at}
use Rattle.vsw_stamps.proofs.Turns.{turn_inside, turns_apart, word_of_turn}
use Rattle.vsw_table.specs.Places.{table_size, stamp_place, turn_place, word_place}
use Rattle.vsw_table.specs.Rules.{AreWide, row_at, IsLaid}

pub all_wide : (rows : List (List ℕ)) → ((r : ℕ) → r < length rows → length (get_or rows r []) ≡ 73) → AreWide rows
all_wide [] h = tt
all_wide (x ∷ xs) h = (h 0 (omega arith), all_wide xs (λ r lt. h (suc r) (omega (arith, lt))))

-- what stands behind the first word
behind : (x : ℕ) (cells : List ℕ) (i : ℕ) → 0 < i → get_or (x ∷ cells) i 0 ≡ get_or cells (i - 1) 0
behind x cells zero h = absurd (omega arith)
behind x cells (suc i) h = let e : suc i - 1 ≡ i = omega arith in ap (λ (j : ℕ). get_or cells j 0) (sym e)

pub wide_at : (rows : List (List ℕ)) (r : ℕ) → AreWide rows → r < length rows → length (row_at rows r) ≡ 73
wide_at [] r wide there = absurd (omega (arith, there))
wide_at (x ∷ xs) zero wide there = wide.0
wide_at (x ∷ xs) (suc r) wide there = wide_at xs r wide.1 (omega (arith, there))

pub wide_set : (rows : List (List ℕ)) (r : ℕ) (row : List ℕ) → AreWide rows → length row ≡ 73 → AreWide (set rows r row)
wide_set [] r row wide is = tt
wide_set (x ∷ xs) zero row wide is = (is, wide.1)
wide_set (x ∷ xs) (suc r) row wide is = (wide.0, wide_set xs r row wide.1 is)

pub wide_of : (n : ℕ) (row : List ℕ) → length row ≡ 73 → AreWide (replicate n row)
wide_of zero row is = tt
wide_of (suc n) row is = (is, wide_of n row is)

-- a word stands in the near part of its row or in the far one
near : (n r k : ℕ) → k < 31 → turn_place n r k ≡ 15 + 32 * r + k
unfolding turn_place
near n r k lt = ap (λ (b : Bool). if b then 15 + 32 * r + k else 14 + 32 * n + 42 * r + (k - 31)) (lt-ltb k 31 lt)

far : (n r k : ℕ) → 31 ≤ k → turn_place n r k ≡ 14 + 32 * n + 42 * r + (k - 31)
unfolding turn_place
far n r k le = ap (λ (b : Bool). if b then 15 + 32 * r + k else 14 + 32 * n + 42 * r + (k - 31)) (le-ltb k 31 le)

parted_if : {P : Type 0} (k : ℕ) (b : Bool) → nat_lt k 31 ≡ b → (k < 31 → P) → (31 ≤ k → P) → P
parted_if k true is here there = here (grind (arith, common_steps))
parted_if k false is here there = there (grind (arith, common_steps))

parted : {P : Type 0} (k : ℕ) → (k < 31 → P) → (31 ≤ k → P) → P
parted k here there = parted_if k (nat_lt k 31) refl here there

turn_there : (n r k : ℕ) → r < n → k < 73 → (0 < turn_place n r k) × (turn_place n r k < table_size n)
turn_there n r k lt few = parted k (λ h. let e = near n r k h in (omega (arith, e), omega (arith, e, h, lt))) (λ h. let e = far n r k h in (omega (arith, e), omega (arith, e, h, lt, few)))

turns_of : (n r q j k : ℕ) → r < n → q < n → j < 73 → k < 73 → turn_place n r j ≡ turn_place n q k → (r ≡ q) × (j ≡ k)
turns_of n r q j k lr lq lj lk is =
    parted j
    (λ h. let a = near n r j h in parted k (λ h'. let b = near n q k h' in (omega (arith, a, b, is, h, h'), omega (arith, a, b, is, h, h'))) (λ h'. let b = far n q k h' in absurd (omega (arith, a, b, is, h, h', lr))))
    (λ h. let a = far n r j h in parted k (λ h'. let b = near n q k h' in absurd (omega (arith, a, b, is, h, h', lq))) (λ h'. let b = far n q k h' in (omega (arith, a, b, is, h, h', lj, lk), omega (arith, a, b, is, h, h', lj, lk))))

-- words of one part stand in a row, and within the table
pub in_part : (n r from k : ℕ) → r < n → from + k < 73 → (from + k < 31) ⊎ (31 ≤ from) → (turn_place n r from + k ≡ turn_place n r (from + k)) × (turn_place n r (from + k) < table_size n)
in_part n r from k lt few part =
    let there = turn_there n r (from + k) lt few in
    ⊎_elim
    (λ (h : from + k < 31). let a = near n r from (omega (arith, h)) in let b = near n r (from + k) h in (omega (arith, a, b), there.1))
    (λ (h : 31 ≤ from). let a = far n r from h in let b = far n r (from + k) (omega (arith, h)) in (omega (arith, a, b, h), there.1))
    part

-- behind word 0, and within the table
pub word_inside : (n r k : ℕ) → r < n → k < 73 → (0 < word_place n r k) × (word_place n r k < table_size n)
word_inside n r k lt few = turn_there n r (turn_of k) lt (turn_inside k few)

-- no two words stand in one place
pub word_apart : (n r q j k : ℕ) → r < n → q < n → j < 73 → k < 73 → word_place n r j ≡ word_place n q k → (r ≡ q) × (j ≡ k)
word_apart n r q j k lr lq lj lk is =
    let both = turns_of n r q (turn_of j) (turn_of k) lr lq (turn_inside j lj) (turn_inside k lk) is in
    (both.0, turns_apart j k lj lk both.1)

-- nor a word and a stamp
pub stamp_apart : (n r q k : ℕ) → r < n → q < n → k < 73 → stamp_place r ≡ word_place n q k → ⊥
stamp_apart n r q k lr lq lk is = parted (turn_of k) (λ h. let b = near n q (turn_of k) h in omega (arith, b, is, h)) (λ h. let b = far n q (turn_of k) h in omega (arith, b, is, h, lr))

-- where the word stands that is loaded at a turn
pub at_turn : (n r turn i : ℕ) → turn < 73 → i ≡ turn_place n r turn → i ≡ word_place n r (word_at turn)
at_turn n r turn i lt is = is ∙ ap (turn_place n r) (sym (word_of_turn turn lt))

-- a store of a word leaves the rest where it was
module _ (n : ℕ) (ws : List ℕ) (c : ℕ) (ss : List ℕ) (rs : List (List ℕ)) (l : IsLaid n ws c ss rs) where
  pub laid_again : (i : ℕ) → IsLaid n (set ws i (get_or ws i 0)) c ss rs
  laid_again i = subst (λ (xs : List ℕ). IsLaid n xs c ss rs) (sym (set-get_or ws i 0)) l

  pub laid_count : (d x : ℕ) → x ≡ 4294967296 + d → IsLaid n (set ws 0 x) d ss rs
  laid_count d x is = record {
    long = length-set ws 0 x ∙ l.long;
    count = get_or-set_same ws 0 x 0 (omega (arith, l.long)) ∙ is;
    stamp = λ r lt. get_or-set_other ws 0 (stamp_place r) x 0 (λ e. absurd (omega (arith, e))) ∙ l.stamp r lt;
    word = λ r k lt few. get_or-set_other ws 0 (word_place n r k) x 0 (λ e. let p = word_inside n r k lt few in absurd (omega (arith, e, p.0))) ∙ l.word r k lt few;
  }

  pub laid_stamp : (r i x : ℕ) → length ss ≡ n → r < n → i ≡ stamp_place r → IsLaid n (set ws i x) c (set ss r x) rs
  laid_stamp r i x many lt is = record {
    long = length-set ws i x ∙ l.long;
    count = get_or-set_other ws i 0 x 0 (λ e. absurd (omega (arith, e, is))) ∙ l.count;
    stamp = λ q lq. dite (ℕ_discrete q r)
        (λ e. subst (λ (p : ℕ). get_or (set ws i x) (stamp_place p) 0 ≡ get_or (set ss r x) p 0) (sym e)
        (subst (λ (p : ℕ). get_or (set ws i x) p 0 ≡ get_or (set ss r x) r 0) is (get_or-set_same ws i x 0 (omega (arith, is, lt, l.long)) ∙ sym (get_or-set_same ss r x 0 (omega (arith, lt, many))))))
        (λ ne. get_or-set_other ws i (stamp_place q) x 0 (λ e. ne (omega (arith, e, is))) ∙ (l.stamp q lq ∙ sym (get_or-set_other ss r q x 0 ne)));
    word = λ q k lq few. get_or-set_other ws i (word_place n q k) x 0 (λ e. absurd (stamp_apart n r q k lt lq few (sym is ∙ sym e))) ∙ l.word q k lq few;
  }

  pub laid_word : (r j i x : ℕ) → r < n → j < 73 → r < length rs → length (row_at rs r) ≡ 73 → i ≡ word_place n r j → IsLaid n (set ws i x) c ss (set rs r (set (row_at rs r) j x))
  laid_word r j i x lt few lr wide is =
      let inside = word_inside n r j lt few in
      let row = set (row_at rs r) j x in
      let here : row_at (set rs r row) r ≡ row = get_or-set_same rs r row [] lr in
      record {
        long = length-set ws i x ∙ l.long;
        count = get_or-set_other ws i 0 x 0 (λ e. absurd (omega (arith, e, is, inside.0))) ∙ l.count;
        stamp = λ q lq. get_or-set_other ws i (stamp_place q) x 0 (λ e. absurd (stamp_apart n q r j lq lt few (e ∙ is))) ∙ l.stamp q lq;
        word = λ q k lq fk. dite (ℕ_discrete q r)
            (λ e. subst (λ (p : ℕ). get_or (set ws i x) (word_place n p k) 0 ≡ get_or (row_at (set rs r row) p) k 0) (sym e)
            (dite (ℕ_discrete k j)
            (λ f. subst (λ (p : ℕ). get_or (set ws i x) (word_place n r p) 0 ≡ get_or (row_at (set rs r row) r) p 0) (sym f)
            (subst (λ (p : ℕ). get_or (set ws i x) p 0 ≡ get_or (row_at (set rs r row) r) j 0) is
            (get_or-set_same ws i x 0 (omega (arith, is, inside.1, l.long)) ∙ sym (ap (λ (xs : List ℕ). get_or xs j 0) here ∙ get_or-set_same (row_at rs r) j x 0 (omega (arith, few, wide))))))
            (λ ne. get_or-set_other ws i (word_place n r k) x 0 (λ g. ne (word_apart n r r k j lt lt fk few (g ∙ is)).1)
            ∙ (l.word r k lt fk ∙ sym (ap (λ (xs : List ℕ). get_or xs k 0) here ∙ get_or-set_other (row_at rs r) j k x 0 ne)))))
            (λ ne. get_or-set_other ws i (word_place n q k) x 0 (λ g. ne (word_apart n q r k j lq lt fk few (g ∙ is)).0)
            ∙ (l.word q k lq fk ∙ sym (ap (λ (xs : List ℕ). get_or xs k 0) (get_or-set_other rs r q row [] ne))));
      }

-- all stamps and words of a new table are 0
all_zero : (n i : ℕ) → let z : ℕ = 0 in get_or (replicate n z) i 0 ≡ 0
all_zero zero i = refl
all_zero (suc n) zero = refl
all_zero (suc n) (suc i) = all_zero n i

zero_row : (n r k : ℕ) → let z : ℕ = 0 in get_or (row_at (replicate n (replicate 73 z)) r) k 0 ≡ 0
zero_row zero r k = refl
zero_row (suc n) zero k = all_zero 73 k
zero_row (suc n) (suc r) k = zero_row n r k

pub laid_first : (n : ℕ) → let z : ℕ = 0 in IsLaid n (4294967296 ∷ replicate (13 + 74 * n) z) 0 (replicate n z) (replicate n (replicate 73 z))
laid_first n =
    let z : ℕ = 0 in
    let long : length (replicate (13 + 74 * n) z) ≡ 13 + 74 * n = length-replicate (13 + 74 * n) z in
    let empty : (i : ℕ) → 0 < i → get_or (4294967296 ∷ replicate (13 + 74 * n) z) i 0 ≡ 0 = λ i h. behind 4294967296 (replicate (13 + 74 * n) z) i h ∙ all_zero (13 + 74 * n) (i - 1) in
    record {
      long = omega (arith, long);
      count = omega arith;
      stamp = λ r lt. empty (stamp_place r) (omega arith) ∙ sym (all_zero n r);
      word = λ r k lt few. empty (word_place n r k) (word_inside n r k lt few).0 ∙ sym (zero_row n r k);
    }

module _ {A : Type 0} where
  pub at_end : (l : List A) (a b : A) (j : ℕ) → get_elem? (l ++ a ∷ []) j ≡ some b → ((j < length l) × (get_elem? l j ≡ some b)) ⊎ ((j ≡ length l) × (a ≡ b))
  at_end [] a b zero e = inr (refl, some-injective a b e)
  at_end [] a b (suc j) e = absurd (some-ne-none b (sym e))
  at_end (x ∷ xs) a b zero e = inl (omega arith, e)
  at_end (x ∷ xs) a b (suc j) e = ⊎_elim (λ (h : (j < length xs) × (get_elem? xs j ≡ some b)). inl (omega (arith, h.0), h.1)) (λ (t : (j ≡ length xs) × (a ≡ b)). inr (ap suc t.0, t.1)) (at_end xs a b j e)

  pub set_at : (l : List A) (i : ℕ) (a b : A) → get_elem? l i ≡ some a → get_elem? (set l i b) i ≡ some b
  set_at [] i a b e = absurd (some-ne-none a (sym e))
  set_at (x ∷ xs) zero a b e = refl
  set_at (x ∷ xs) (suc i) a b e = set_at xs i a b e

  pub set_last : (xs : List A) (a b : A) → set (xs ++ a ∷ []) (length xs) b ≡ xs ++ b ∷ []
  set_last [] a b = refl
  set_last (x ∷ xs) a b = ap (λ (ys : List A). x ∷ ys) (set_last xs a b)

  pub set_comm : (l : List A) (i j : ℕ) (a b : A) → j ≢ i → set (set l i a) j b ≡ set (set l j b) i a
  set_comm [] i j a b n = refl
  set_comm (x ∷ xs) zero zero a b n = absurd (n refl)
  set_comm (x ∷ xs) zero (suc j) a b n = refl
  set_comm (x ∷ xs) (suc i) zero a b n = refl
  set_comm (x ∷ xs) (suc i) (suc j) a b n = ap (λ (ys : List A). x ∷ ys) (set_comm xs i j a b (λ e. n (ap suc e)))

  pub before_last : (l : List A) (i : ℕ) (a : A) → get_elem? l i ≡ some a → i < length l
  before_last [] i a e = absurd (some-ne-none a (sym e))
  before_last (x ∷ xs) zero a e = omega arith
  before_last (x ∷ xs) (suc i) a e = let ih = before_last xs i a e in omega (arith, ih)

  pub first_of : (a b : A) (j : ℕ) → get_elem? (a ∷ []) j ≡ some b → (j ≡ 0) × (a ≡ b)
  first_of a b zero e = (refl, some-injective a b e)
  first_of a b (suc j) e = absurd (some-ne-none b (sym e))

  pub last_of : (xs : List A) (y d : A) → get_or (xs ++ y ∷ []) (length xs) d ≡ y
  last_of [] y d = refl
  last_of (x ∷ xs) y d = last_of xs y d

  pub get_or-longer : (l : List A) (i : ℕ) (d : A) → get_or (l ++ d ∷ []) i d ≡ get_or l i d
  get_or-longer [] zero d = refl
  get_or-longer [] (suc i) d = refl
  get_or-longer (x ∷ xs) zero d = refl
  get_or-longer (x ∷ xs) (suc i) d = get_or-longer xs i d

  pub get_or-beyond : (l : List A) (i : ℕ) (d : A) → length l ≤ i → get_or l i d ≡ d
  get_or-beyond [] i d h = refl
  get_or-beyond (x ∷ xs) zero d h = absurd (omega arith)
  get_or-beyond (x ∷ xs) (suc i) d h = get_or-beyond xs i d (omega arith)

  pub set_twice : (l : List A) (i : ℕ) (a b : A) → set (set l i a) i b ≡ set l i b
  set_twice [] i a b = refl
  set_twice (x ∷ xs) zero a b = refl
  set_twice (x ∷ xs) (suc i) a b = ap (λ (ys : List A). x ∷ ys) (set_twice xs i a b)
