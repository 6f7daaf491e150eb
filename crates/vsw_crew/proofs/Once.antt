-- The listed controllers have places of their own.
use Rattle.std.proofs.Common.{◌≡◌, ◌≢◌, ◌<◌, ◌≤◌, ℕ, suc, ◌==◌, ◌||◌, Bool, true, false, nat_lt, if◌then◌else◌, List, [], ◌∷◌, map, refl, sym, subst, arith, eq-eqb}
use Rattle.std.proofs.lemmas.Grind.{common_steps}
use Rattle.vsw_policy.specs.Layers.{place_of}
use Rattle.vsw_policy.specs.Sound.{Each, is_listed}
use Rattle.vsw_port.specs.Order.{put_in, ascending}
use Rattle.vsw_history_law.proofs.Callers.{place_one}
use Rattle.vsw_many.proofs.Passes.{each_weaker}
use Rattle.vsw_crew.specs.Private.Port.{AreOnce}

lt_true : (m n : ℕ) → nat_lt m n ≡ true → m < n
lt_true m n h = grind (arith, common_steps)

lt_false : (m n : ℕ) → nat_lt m n ≡ false → n ≤ m
lt_false m n h = grind (arith, common_steps)

eqb_not : (a b : ℕ) → (a == b) ≡ false → a ≢ b
eqb_not a b e f = absurd (let t = eq-eqb a b f in cc (e, t))

-- from low on the numbers ascend
abbrev Ascends : ℕ → List ℕ → Type 0
Ascends low [] = Unit {0}
Ascends low (m ∷ ms) = (low ≤ m) × Ascends (suc m) ms

abbrev put_by : Bool → Bool → ℕ → ℕ → List ℕ → List ℕ
put_by b c n m ms = if b then n ∷ m ∷ ms else if c then m ∷ ms else m ∷ put_in n ms

put_ascends : (low n : ℕ) (ms : List ℕ) → low ≤ n → Ascends low ms → Ascends low (put_in n ms)
put_ascends low n [] le a = (le, tt)
put_ascends low n (m ∷ ms) le a = by (nat_lt n m) (n == m) refl refl (λ lt. put_ascends (suc m) n ms lt a.1)
  where
    by : (b c : Bool) → nat_lt n m ≡ b → (n == m) ≡ c → (m < n → Ascends (suc m) (put_in n ms)) → Ascends low (put_by b c n m ms)
    by true c t e ih = (le, (omega (arith, lt_true n m t), a.1))
    by false true t e ih = a
    by false false t e ih = (a.0, ih (omega (arith, lt_false n m t, eqb_not n m e)))

ascending_ascends : (ns : List ℕ) → Ascends 0 (ascending ns)
ascending_ascends [] = tt
ascending_ascends (n ∷ ns) = put_ascends 0 n (ascending ns) (omega arith) (ascending_ascends ns)

above : (n low : ℕ) (ms : List ℕ) → n < low → Ascends low ms → Each (λ j. j ≢ n) ms
above n low [] lt a = tt
above n low (m ∷ ms) lt a = ((λ e. omega (arith, e, lt, a.0)), above n (suc m) ms (omega (arith, lt, a.0)) a.1)

-- what holds of each number holds of each in ascending order
put_each : (P : ℕ → Type 0) (n : ℕ) (ms : List ℕ) → P n → Each P ms → Each P (put_in n ms)
put_each P n [] p e = (p, tt)
put_each P n (m ∷ ms) p e = by (nat_lt n m) (n == m) (put_each P n ms p e.1)
  where
    by : (b c : Bool) → Each P (put_in n ms) → Each P (put_by b c n m ms)
    by true c ih = (p, e)
    by false true ih = e
    by false false ih = (e.0, ih)

ascending_each : (P : ℕ → Type 0) (ns : List ℕ) → Each P ns → Each P (ascending ns)
ascending_each P [] e = tt
ascending_each P (n ∷ ns) e = put_each P n (ascending ns) e.0 (ascending_each P ns e.1)

-- each number is listed among them all
listed_more : (n : ℕ) (ns : List ℕ) (m : ℕ) → is_listed ns m ≡ true → is_listed (n ∷ ns) m ≡ true
listed_more n ns m l = by (m == n)
  where
    by : (b : Bool) → (b || is_listed ns m) ≡ true
    by true = refl
    by false = l

listed_first : (n : ℕ) (ns : List ℕ) → is_listed (n ∷ ns) n ≡ true
listed_first n ns = subst (λ b. (b || is_listed ns n) ≡ true) (sym (eq-eqb n n refl)) refl

all_listed : (ns : List ℕ) → Each (λ m. is_listed ns m ≡ true) ns
all_listed [] = tt
all_listed (n ∷ ns) = (listed_first n ns, each_weaker (λ m. is_listed ns m ≡ true) (λ m. is_listed (n ∷ ns) m ≡ true) ns (listed_more n ns) (all_listed ns))

-- so are their places
apart : (cs : List ℕ) (n : ℕ) (ms : List ℕ) → is_listed cs n ≡ true → Each (λ m. m ≢ n) ms → Each (λ j. j ≢ place_of n cs) (map (λ m. place_of m cs) ms)
apart cs n [] l e = tt
apart cs n (m ∷ ms) l e = ((λ f. e.0 (sym (place_one cs n m l (sym f)))), apart cs n ms l e.1)

once_among : (cs : List ℕ) (low : ℕ) (ms : List ℕ) → Ascends low ms → Each (λ m. is_listed cs m ≡ true) ms → AreOnce (map (λ m. place_of m cs) ms)
once_among cs low [] a e = tt
once_among cs low (m ∷ ms) a e = (apart cs m ms e.0 (above m (suc m) ms (omega arith) a.1), once_among cs (suc m) ms a.1 e.1)

pub once : (cs listed : List ℕ) → listed ≡ ascending cs → AreOnce (map (λ m. place_of m cs) listed)
once cs listed is = subst (λ ms. AreOnce (map (λ m. place_of m cs) ms)) (sym is) (once_among cs 0 (ascending cs) (ascending_ascends cs) (ascending_each (λ m. is_listed cs m ≡ true) cs (all_listed cs)))
