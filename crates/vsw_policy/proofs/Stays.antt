-- The pairs that stay, by the marks of the rules that go.
use Rattle.std.proofs.Common.{◌≡◌, ℕ, Bool, true, false, not, ◌&&◌, ◌==◌, List, [], ◌∷◌, filter, get_or, replicate, zero, suc, refl, ap, sym}
use Rattle.std.specs.List.{list_any}
use Rattle.vsw_layerflow.specs.declared.pair.Pair.{Pair}
use Rattle.vsw_layerflow.specs.Pairs.{of_marked}
use Rattle.vsw_rule.specs.declared.rule.Rule.{Rule}
use Rattle.vsw_policy.specs.Staying.{is_gone, goes, staying, number_goes}

-- so many marks, none of them set
pub none-marked : (count n : ℕ) → get_or (replicate count false) n false ≡ false
none-marked zero zero = refl
none-marked zero (suc n) = refl
none-marked (suc count) zero = refl
none-marked (suc count) (suc n) = none-marked count n

-- where no rule goes, no pair does
none-goes : (g : ℕ) (old new : List Rule) (p : Pair) → list_any (is_gone new) old ≡ false → goes g old new p ≡ false
none-goes g [] new p e = refl
none-goes g (r ∷ rs) new p e = by (is_gone new r) refl (none-goes g rs new p)
  where
    by : (b : Bool) → is_gone new r ≡ b → (list_any (is_gone new) rs ≡ false → goes g rs new p ≡ false) → goes g (r ∷ rs) new p ≡ false
    by true s ih = let never = rw s at e in absurd (cc)
    by false s ih = rw s (ih (rw s at e))

pub staying-all : (g : ℕ) (old new : List Rule) (ps : List Pair) → list_any (is_gone new) old ≡ false → staying g old new ps ≡ ps
staying-all g old new [] e = refl
staying-all g old new (p ∷ ps) e = rw (none-goes g old new p e) (ap (λ qs. p ∷ qs) (staying-all g old new ps e))

-- a pair goes where it is of the group and the number of its rule goes
goes-is : (g : ℕ) (old new : List Rule) (p : Pair) → (p.group == g && number_goes old new p.rule) ≡ goes g old new p
goes-is g old new p = by (p.group == g) refl
  where
    and-false : (b : Bool) → (b && false) ≡ false
    and-false true = refl
    and-false false = refl

    none : (p.group == g) ≡ false → (rs : List Rule) → goes g rs new p ≡ false
    none e [] = refl
    none e (r ∷ rs) = rw (e, and-false (is_gone new r)) (none e rs)

    by : (b : Bool) → (p.group == g) ≡ b → (b && number_goes old new p.rule) ≡ goes g old new p
    by true e = rw e refl
    by false e = sym (none e old)

-- one pass by the marks leaves the pairs that stay, rule by rule
pub staying-marked : (g : ℕ) (old new : List Rule) (marks : List Bool) (ps : List Pair) → ((n : ℕ) → get_or marks n false ≡ number_goes old new n) → filter (λ p. not (of_marked g marks p)) ps ≡ staying g old new ps
staying-marked g old new marks ps h = ap (λ (f : Pair → Bool). filter (λ p. not (f p)) ps) (λ j p. alike p j)
  where
    alike : (p : Pair) → of_marked g marks p ≡ goes g old new p
    alike p = rw (h p.rule) (goes-is g old new p)
