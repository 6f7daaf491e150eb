-- Of the rows that stand at one spot: who joins and who leaves, the others stay.
use Rattle.std.proofs.Common.{◌≡◌, ◌≢◌, ◌+◌, ℕ, ◌==◌, Bool, true, false, ◌&&◌, ◌||◌, if◌then◌else◌, refl, sym, ◌∙◌, arith, true≢false}
use Rattle.vsw_flows.specs.declared.leaners.Leaners.{Leaners}
use Rattle.vsw_flows.specs.Leaners.{has, is_empty, joined, kept, none, pushed, three, without, without_fourth, without_second, without_third}

number_is : (a b : ℕ) → (a == b) ≡ true → a ≡ b
number_is a b e = grind arith

isn't : (a b : ℕ) → a ≢ b → (a == b) ≡ false
isn't a b h = by (a == b) refl
  where
    by : (t : Bool) → (a == b) ≡ t → t ≡ false
    by true e = absurd (h (number_is a b e))
    by false e = refl

is_other : (a b : ℕ) → (a == b) ≡ false → b ≢ a
is_other a b e is = true≢false (sym (same a b (sym is)) ∙ e)
  where
    same : (c d : ℕ) → c ≡ d → (c == d) ≡ true
    same c d h = grind arith

-- another row has another mark
another : (r s a : ℕ) → (r + 1 == a) ≡ true → s ≢ r → (s + 1 == a) ≡ false
another r s a e h = isn't (s + 1) a (λ is. h (grind (arith, is, number_is (r + 1) a e)))

no_mark : (a s : ℕ) → (a == 0) ≡ true → (s + 1 == a) ≡ false
no_mark a s e = isn't (s + 1) a (λ is. absurd (grind (arith, is, number_is a 0 e)))

mark_self : (r : ℕ) → (r + 1 == r + 1) ≡ true
mark_self r = grind arith

-- four tests, of which one is left out
shifted : (x a b c d : Bool) → (a || (b || (c || d))) ≡ true → d ≡ false → (x || (a || (b || c))) ≡ true
shifted true a b c d h e = refl
shifted false true b c d h e = refl
shifted false false true c d h e = refl
shifted false false false true d h e = refl
shifted false false false false true h e = absurd (true≢false e)
shifted false false false false false h e = absurd (true≢false (sym h))

no_first : (a b c d z : Bool) → (a || (b || (c || d))) ≡ true → a ≡ false → (b || (c || (d || z))) ≡ true
no_first true b c d z h e = absurd (true≢false e)
no_first false true c d z h e = refl
no_first false false true d z h e = refl
no_first false false false true z h e = refl
no_first false false false false z h e = absurd (true≢false (sym h))

no_second : (a b c d z : Bool) → (a || (b || (c || d))) ≡ true → b ≡ false → (a || (c || (d || z))) ≡ true
no_second true b c d z h e = refl
no_second false true c d z h e = absurd (true≢false e)
no_second false false true d z h e = refl
no_second false false false true z h e = refl
no_second false false false false z h e = absurd (true≢false (sym h))

no_third : (a b c d z : Bool) → (a || (b || (c || d))) ≡ true → c ≡ false → (a || (b || (d || z))) ≡ true
no_third true b c d z h e = refl
no_third false true c d z h e = refl
no_third false false true d z h e = absurd (true≢false e)
no_third false false false true z h e = refl
no_third false false false false z h e = absurd (true≢false (sym h))

no_fourth : (a b c d z : Bool) → (a || (b || (c || d))) ≡ true → d ≡ false → (a || (b || (c || z))) ≡ true
no_fourth true b c d z h e = refl
no_fourth false true c d z h e = refl
no_fourth false false true d z h e = refl
no_fourth false false false true z h e = absurd (true≢false e)
no_fourth false false false false z h e = absurd (true≢false (sym h))

-- the others stay when one joins, but for the one that gives way
pub joined_others : (l : Leaners) (r s : ℕ) → has l s ≡ true → s + 1 ≢ (joined l r).way → has (joined l r).leaners s ≡ true
joined_others l r s h = by (has l r)
  where
    by : (b : Bool) → s + 1 ≢ (if b then kept l else pushed l r).way → has (if b then kept l else pushed l r).leaners s ≡ true
    by true n = h
    by false n = shifted (s + 1 == r + 1) (s + 1 == l.first) (s + 1 == l.second) (s + 1 == l.third) (s + 1 == l.fourth) h (isn't (s + 1) l.fourth n)

-- the one that joins is there, and doesn't give way itself
or_self : (a b : Bool) → a ≡ true → (a || b) ≡ true
or_self true b e = refl
or_self false b e = absurd (true≢false (sym e))

pub joined_there : (l : Leaners) (r : ℕ) → has (joined l r).leaners r ≡ true
joined_there l r = by (has l r) refl
  where
    by : (b : Bool) → has l r ≡ b → has (if b then kept l else pushed l r).leaners r ≡ true
    by true h = h
    by false h = or_self (r + 1 == r + 1) ((r + 1 == l.first) || ((r + 1 == l.second) || (r + 1 == l.third))) (mark_self r)

none_of_four : (a b c d : Bool) → (a || (b || (c || d))) ≡ false → d ≡ false
none_of_four true b c d h = absurd (true≢false h)
none_of_four false true c d h = absurd (true≢false h)
none_of_four false false true d h = absurd (true≢false h)
none_of_four false false false d h = h

no_zero : (r : ℕ) → 0 ≢ r + 1
no_zero r e = absurd (grind (arith, e))

pub joined_way : (l : Leaners) (r : ℕ) → (joined l r).way ≢ r + 1
joined_way l r = by (has l r) refl
  where
    by : (b : Bool) → has l r ≡ b → (if b then kept l else pushed l r).way ≢ r + 1
    by true h = no_zero r
    by false h = is_other (r + 1) l.fourth (none_of_four (r + 1 == l.first) (r + 1 == l.second) (r + 1 == l.third) (r + 1 == l.fourth) h)

-- the others stay when one leaves
pub without_others : (l : Leaners) (r s : ℕ) → s ≢ r → has l s ≡ true → has (without l r) s ≡ true
without_others l r s n h = first (r + 1 == l.first) refl
  where
    fourth : (b : Bool) → (r + 1 == l.fourth) ≡ b → has (if b then three l.first l.second l.third else l) s ≡ true
    fourth true e = no_fourth (s + 1 == l.first) (s + 1 == l.second) (s + 1 == l.third) (s + 1 == l.fourth) (s + 1 == 0) h (another r s l.fourth e n)
    fourth false e = h

    third : (b : Bool) → (r + 1 == l.third) ≡ b → has (if b then three l.first l.second l.fourth else without_fourth l r) s ≡ true
    third true e = no_third (s + 1 == l.first) (s + 1 == l.second) (s + 1 == l.third) (s + 1 == l.fourth) (s + 1 == 0) h (another r s l.third e n)
    third false e = fourth (r + 1 == l.fourth) refl

    second : (b : Bool) → (r + 1 == l.second) ≡ b → has (if b then three l.first l.third l.fourth else without_third l r) s ≡ true
    second true e = no_second (s + 1 == l.first) (s + 1 == l.second) (s + 1 == l.third) (s + 1 == l.fourth) (s + 1 == 0) h (another r s l.second e n)
    second false e = third (r + 1 == l.third) refl

    first : (b : Bool) → (r + 1 == l.first) ≡ b → has (if b then three l.second l.third l.fourth else without_second l r) s ≡ true
    first true e = no_first (s + 1 == l.first) (s + 1 == l.second) (s + 1 == l.third) (s + 1 == l.fourth) (s + 1 == 0) h (another r s l.first e n)
    first false e = second (r + 1 == l.second) refl

-- where there is none, no row is
all_four : (a b c d : Bool) → (a && b && c && d) ≡ true → (a ≡ true) × ((b ≡ true) × ((c ≡ true) × (d ≡ true)))
all_four true true true true e = (refl, (refl, (refl, refl)))
all_four true true true false e = absurd (true≢false (sym e))
all_four true true false d e = absurd (true≢false (sym e))
all_four true false c d e = absurd (true≢false (sym e))
all_four false b c d e = absurd (true≢false (sym e))

no_four : (a b c d : Bool) → a ≡ false → b ≡ false → c ≡ false → d ≡ false → (a || (b || (c || d))) ≡ false
no_four a b c d e f g h = rw (e, f, g, h) refl

pub empty_has : (l : Leaners) (s : ℕ) → is_empty l ≡ true → has l s ≡ false
empty_has l s e =
    let h = all_four (l.first == 0) (l.second == 0) (l.third == 0) (l.fourth == 0) e in
    no_four (s + 1 == l.first) (s + 1 == l.second) (s + 1 == l.third) (s + 1 == l.fourth) (no_mark l.first s h.0) (no_mark l.second s h.1.0) (no_mark l.third s h.1.1.0) (no_mark l.fourth s h.1.1.1)

pub none_has : (s : ℕ) → has none s ≡ false
none_has s = empty_has none s refl
