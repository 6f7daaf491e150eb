-- The place of a controller among those that are listed.
use Rattle.std.proofs.Common.{◌≡◌, ◌<◌, ◌==◌, ◌||◌, ℕ, suc, Bool, true, false, if◌then◌else◌, List, [], ◌∷◌, length, refl, arith}
use Rattle.vsw_policy.specs.Layers.{place_of}
use Rattle.vsw_policy.specs.Sound.{is_listed}

or_cases : (a b : Bool) → (a || b) ≡ true → a ≡ false → b ≡ true
or_cases true b e f = absurd (cc f)
or_cases false b e f = e

pub place_within : (ns : List ℕ) (c : ℕ) → is_listed ns c ≡ true → place_of c ns < length ns
place_within [] c l = absurd (cc l)
place_within (n ∷ ns) c l = by (c == n) refl (λ m. place_within ns c m)
  where
    by : (b : Bool) → (c == n) ≡ b → (is_listed ns c ≡ true → place_of c ns < length ns) → (if b then 0 else suc (place_of c ns)) < suc (length ns)
    by true e ih = omega arith
    by false e ih = let rest = ih (or_cases (c == n) (is_listed ns c) l e) in omega (arith, rest)
