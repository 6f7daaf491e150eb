-- The order of layers is an order.
use Rattle.std.proofs.Common.{◌≡◌, ℕ, Bool, true, false, List, refl, arith}
use Rattle.std.specs.Prelude.{nat_lt}
use Rattle.std.proofs.lemmas.Bool.Decides.{nat_tests}
use Rattle.vsw_policy.specs.Layer.{LayerSeen}
use Rattle.vsw_policy.specs.Layers.{place_of, less_or, is_before}

flip-less : (a b : ℕ) → nat_lt a b ≡ true → nat_lt b a ≡ false
flip-less a b h = grind (arith, nat_tests)

over-less : (a b x : ℕ) → nat_lt a b ≡ true → nat_lt x b ≡ false → nat_lt x a ≡ false
over-less a b x h i = grind (arith, nat_tests)

flip-next : (a b : ℕ) (n p : Bool) → (n ≡ true → p ≡ false) → less_or a b n ≡ true → less_or b a p ≡ false
flip-next a b true true f h = let e = f refl in absurd (grind arith)
flip-next a b true false f h = grind (arith, nat_tests)
flip-next a b false true f h = grind (arith, nat_tests)
flip-next a b false false f h = grind (arith, nat_tests)

over-next : (a b x : ℕ) (n p q : Bool) → (n ≡ true → p ≡ false → q ≡ false) → less_or a b n ≡ true → less_or x b p ≡ false → less_or x a q ≡ false
over-next a b x n p false f h i = grind (arith, nat_tests)
over-next a b x n true true f h i = grind (arith, nat_tests)
over-next a b x true false true f h i = let e = f refl refl in absurd (grind arith)
over-next a b x false false true f h i = grind (arith, nat_tests)

-- of two layers one isn't before the other
pub flip-before : (cs : List ℕ) (l m : LayerSeen) → is_before cs l m ≡ true → is_before cs m l ≡ false
flip-before cs l m h =
    flip-next l.spec.order m.spec.order _ _
    (λ i. flip-next (place_of l.controller cs) (place_of m.controller cs) _ _ (λ j. flip-less l.spec.layer m.spec.layer j) i) h

-- what isn't before the one isn't before what comes before that
pub over-before : (cs : List ℕ) (l m x : LayerSeen) → is_before cs l m ≡ true → is_before cs x m ≡ false → is_before cs x l ≡ false
over-before cs l m x h i =
    over-next l.spec.order m.spec.order x.spec.order _ _ _
    (λ h i. over-next (place_of l.controller cs) (place_of m.controller cs) (place_of x.controller cs) _ _ _ (λ h i. over-less l.spec.layer m.spec.layer x.spec.layer h i) h i) h i

across-less : (a b x : ℕ) → nat_lt a b ≡ true → nat_lt x b ≡ false → nat_lt a x ≡ true
across-less a b x h i = grind (arith, nat_tests)

across-next : (a b x : ℕ) (n p q : Bool) → (n ≡ true → p ≡ false → q ≡ true) → less_or a b n ≡ true → less_or x b p ≡ false → less_or a x q ≡ true
across-next a b x n p true f h i = grind (arith, nat_tests)
across-next a b x true true false f h i = grind (arith, nat_tests)
across-next a b x true false false f h i = let e = f refl refl in absurd (grind arith)
across-next a b x false p false f h i = grind (arith, nat_tests)

-- what comes before the one comes before what isn't before that
pub across-before : (cs : List ℕ) (l m x : LayerSeen) → is_before cs l m ≡ true → is_before cs x m ≡ false → is_before cs l x ≡ true
across-before cs l m x h i =
    across-next l.spec.order m.spec.order x.spec.order _ _ _
    (λ h i. across-next (place_of l.controller cs) (place_of m.controller cs) (place_of x.controller cs) _ _ _ (λ h i. across-less l.spec.layer m.spec.layer x.spec.layer h i) h i) h i
