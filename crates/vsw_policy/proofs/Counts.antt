-- How many layers a policy has in all.
use Rattle.std.proofs.Common.{◌≡◌, ◌≤◌, ◌+◌, ◌*◌, ℕ, ◌==◌, Bool, true, false, not, List, [], ◌∷◌, length, filter, map, refl, arith}
use Rattle.std.proofs.lemmas.Bool.Decides.{nat_tests}
use Rattle.std.proofs.lemmas.List.{length-map}
use Rattle.vsw_policy.specs.declared.layer.Layer.{Layer}
use Rattle.vsw_policy.specs.Layer.{LayerSeen, seen}
use Rattle.vsw_policy.specs.Layers.{is_of}
use Rattle.vsw_policy.specs.Sound.{Each, IsGoodLayer, IsSound, is_listed}

parts : (c : ℕ) (ls : List LayerSeen) → length (filter (is_of c) ls) + length (filter (λ l. not (is_of c l)) ls) ≡ length ls
parts c [] = refl
parts c (l ∷ ls) = by (c == l.controller) refl (parts c ls)
  where
    by : (b : Bool) → (c == l.controller) ≡ b → length (filter (is_of c) ls) + length (filter (λ m. not (is_of c m)) ls) ≡ length ls → length (filter (is_of c) (l ∷ ls)) + length (filter (λ m. not (is_of c m)) (l ∷ ls)) ≡ length (l ∷ ls)
    by true e ih = rw e (omega (arith, ih))
    by false e ih = rw e (omega (arith, ih))

at_most : {a b n : ℕ} → a ≤ b → b ≤ n → a ≤ n
at_most h i = omega arith

fewer : (d c : ℕ) (ls : List LayerSeen) → length (filter (is_of d) (filter (λ l. not (is_of c l)) ls)) ≤ length (filter (is_of d) ls)
fewer d c [] = omega arith
fewer d c (l ∷ ls) = by (c == l.controller) refl (d == l.controller) refl (fewer d c ls)
  where
    by : (a : Bool) → (c == l.controller) ≡ a → (b : Bool) → (d == l.controller) ≡ b → length (filter (is_of d) (filter (λ m. not (is_of c m)) ls)) ≤ length (filter (is_of d) ls) → length (filter (is_of d) (filter (λ m. not (is_of c m)) (l ∷ ls))) ≤ length (filter (is_of d) (l ∷ ls))
    by true e true i ih = rw (e, i) (omega (arith, ih))
    by true e false i ih = rw (e, i) ih
    by false e true i ih = rw (e, i) (omega (arith, ih))
    by false e false i ih = rw (e, i) ih

unlisted : (c d : ℕ) (cs : List ℕ) → (c == d) ≡ false → is_listed (c ∷ cs) d ≡ true → is_listed cs d ≡ true
unlisted c d cs h i = let e : (d == c) ≡ false = grind (arith, nat_tests, h) in rw e at i

each-others : (c : ℕ) (cs : List ℕ) (ls : List LayerSeen) → Each (λ l. is_listed (c ∷ cs) l.controller ≡ true) ls → Each (λ l. is_listed cs l.controller ≡ true) (filter (λ l. not (is_of c l)) ls)
each-others c cs [] h = tt
each-others c cs (l ∷ ls) h = by (c == l.controller) refl (each-others c cs ls h.1)
  where
    by : (b : Bool) → (c == l.controller) ≡ b → Each (λ m. is_listed cs m.controller ≡ true) (filter (λ m. not (is_of c m)) ls) → Each (λ m. is_listed cs m.controller ≡ true) (filter (λ m. not (is_of c m)) (l ∷ ls))
    by true e ih = rw e ih
    by false e ih = rw e (unlisted c l.controller cs e h.0, ih)

-- each of the listed controllers has at most 16
all-few : (cs : List ℕ) (ls : List LayerSeen) → Each (λ l. is_listed cs l.controller ≡ true) ls → ((c : ℕ) → length (filter (is_of c) ls) ≤ 16) → length ls ≤ 16 * length cs
all-few [] [] h few = omega arith
all-few [] (l ∷ ls) h few = absurd (grind (arith, h.0))
all-few (c ∷ cs) ls h few =
    let ih = all-few cs (filter (λ l. not (is_of c l)) ls) (each-others c cs ls h) (λ d. at_most (fewer d c ls) (few d)) in
    let n = parts c ls in
    let m = few c in
    omega (arith, ih, n, m)

listed : (cs : List ℕ) (ls : List LayerSeen) → Each (IsGoodLayer cs) ls → Each (λ l. is_listed cs l.controller ≡ true) ls
listed cs [] h = tt
listed cs (l ∷ ls) h = (h.0.0, listed cs ls h.1)

pub few-layers : (cs : List ℕ) (ls : List Layer) (rooms : List ℕ) → IsSound (record { controllers = cs; layers = map seen ls; rooms = rooms }) → length ls ≤ 128
few-layers cs ls rooms h =
    let n = all-few cs (map seen ls) (listed cs (map seen ls) h.layers.good) h.layers.few in
    let k = length-map ls seen in
    let m = h.few_controllers in
    omega (arith, n, k, m)
