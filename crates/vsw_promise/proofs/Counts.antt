-- How many of ascending numbers are below a limit.
use Rattle.std.proofs.Common.{◌≡◌, ◌≤◌, ◌<◌, ℕ, zero, suc, ◌+◌, Bool, true, false, cond, List, [], ◌∷◌, length, get_or, nat_lt, refl, ap, arith}
use Rattle.std.proofs.lemmas.Bool.Decides.{nat_tests}
use Rattle.std.specs.List.{AllWithin}
use Rattle.std.specs.List.Sorted.{IsNonDecreasing}
use Rattle.vsw_policy.specs.Sound.{Each}
use Rattle.vsw_promise.specs.Index.{count_below}

pub count_within : (limit : ℕ) (ns : List ℕ) → count_below limit ns ≤ length ns
count_within limit [] = omega arith
count_within limit (n ∷ ns) = by (nat_lt n limit) (count_within limit ns)
  where
    by : (b : Bool) → count_below limit ns ≤ length ns → cond b (suc (count_below limit ns)) 0 ≤ suc (length ns)
    by true h = omega arith
    by false h = omega arith

pub count_rises : (n : ℕ) (ns : List ℕ) → count_below n ns ≤ count_below (n + 1) ns
count_rises n [] = omega arith
count_rises n (m ∷ ms) = by (nat_lt m n) (nat_lt m (n + 1)) refl refl (count_rises n ms)
  where
    by : (b c : Bool) → nat_lt m n ≡ b → nat_lt m (n + 1) ≡ c → count_below n ms ≤ count_below (n + 1) ms → cond b (suc (count_below n ms)) 0 ≤ cond c (suc (count_below (n + 1) ms)) 0
    by true true e f h = omega arith
    by true false e f h = absurd (grind (arith, nat_tests))
    by false c e f h = omega arith

-- it is where the numbers below the limit end
pub count_is : (limit : ℕ) (ns : List ℕ) (i : ℕ) → i ≤ length ns → AllWithin (λ y. nat_lt y limit ≡ true) ns 0 i → AllWithin (λ y. nat_lt y limit ≡ false) ns i (length ns) → i ≡ count_below limit ns
count_is limit [] i inside low high = omega arith
count_is limit (n ∷ ns) zero inside low high = let above : nat_lt n limit ≡ false = high 0 0 (omega arith) (omega arith) in rw above refl
count_is limit (n ∷ ns) (suc i) inside low high =
    let under : nat_lt n limit ≡ true = low 0 0 (omega arith) (omega arith) in
    let rest = count_is limit ns i (omega arith) (λ k d a b. low (suc k) d (omega arith) (omega arith)) (λ k d a b. high (suc k) d (omega arith) (omega arith)) in
    rw under (ap suc rest)

-- each number is at most those after it
abbrev pub Ascends : List ℕ → Type 0
Ascends [] = Unit {0}
Ascends (n ∷ ns) = Each (λ m. n ≤ m) ns × Ascends ns

each_at : (n : ℕ) (ns : List ℕ) → ((k : ℕ) → k < length ns → n ≤ get_or ns k 0) → Each (λ m. n ≤ m) ns
each_at n [] h = tt
each_at n (m ∷ ms) h = (h 0 (omega arith), each_at n ms (λ k i. h (suc k) (omega arith)))

pub ascends : (ns : List ℕ) → IsNonDecreasing ns → Ascends ns
ascends [] h = tt
ascends (n ∷ ns) h = (each_at n ns (λ k i. h 0 (suc k) 0 (omega arith) (omega arith)), ascends ns (λ i j d a b. h (suc i) (suc j) d (omega arith) (omega arith)))

-- none is below a number that none is below
pub count_none : (low : ℕ) (ns : List ℕ) → Each (λ m. low ≤ m) ns → count_below low ns ≡ 0
count_none low [] h = refl
count_none low (n ∷ ns) h = let above : nat_lt n low ≡ false = grind (arith, nat_tests, h.0) in rw above refl
