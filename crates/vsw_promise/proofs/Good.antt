-- What a good policy file gives each of its ports.
use Rattle.std.proofs.Common.{◌≡◌, ◌≢◌, ◌≤◌, suc, ℕ, ◌==◌, ◌&&◌, Bool, true, false, List, [], ◌∷◌, length, filter, map, refl, ap, sym, subst, ◌∙◌, arith}
use Rattle.std.specs.Prelude.{All}
use Rattle.std.specs.List.{AllPairs, list_any}
use Rattle.std.proofs.lemmas.Bool.Decides.{nat_tests}
use Rattle.vsw_rule.specs.Check.{bad_rule_of}
use Rattle.vsw_rule.specs.declared.rule.Rule.{Rule}
use Rattle.vsw_rule.specs.declared.rule.Group.{Group}
use Rattle.vsw_config.specs.declared.file.LayerFile.{LayerFile}
use Rattle.vsw_config.specs.declared.file.PortFile.{PortFile}
use Rattle.vsw_config.specs.declared.file.PolicyFile.{PolicyFile}
use Rattle.vsw_config.specs.Layer.{count_by}
use Rattle.vsw_config.specs.Good as good
use Rattle.vsw_policy.specs.Layers.{is_of}
use Rattle.vsw_policy.specs.Sound.{Each, AreApart, IsGoodRule, IsGoodGroup, IsGoodLayer, same_layer, same_group, same_number, is_listed, are_distinct}
use Rattle.vsw_promise.specs.File.{AreLayers, IsFile}
use Rattle.vsw_promise.specs.Ports.{whole}
use Rattle.vsw_promise.proofs.Firsts.{none-any}

-- ---- lists

each-map : {A B : Type 0} (f : A → B) (P : A → Type 0) (Q : B → Type 0) → ((x : A) → P x → Q (f x)) → (xs : List A) → All P xs → Each Q (map f xs)
each-map f P Q k [] h = tt
each-map f P Q k (x ∷ xs) h = (k x (h 0 x (omega arith)), each-map f P Q k xs (λ i d lt. h (suc i) d (omega (arith, lt))))

each-from : {A : Type 0} (P Q : A → Type 0) → ((x : A) → P x → Q x) → (xs : List A) → All P xs → Each Q xs
each-from P Q k [] h = tt
each-from P Q k (x ∷ xs) h = (k x (h 0 x (omega arith)), each-from P Q k xs (λ i d lt. h (suc i) d (omega (arith, lt))))

apart-from : {A : Type 0} (R : A → A → Type 0) (same : A → A → Bool) → ((x y : A) → R x y → same x y ≡ false) → (xs : List A) → AllPairs R xs → AreApart same xs
apart-from R same k [] h = tt
apart-from R same k (x ∷ xs) h = (
  each-from (λ y. R x y) (λ y. same x y ≡ false) (λ y r. k x y r) xs (λ i d lt. h 0 (suc i) d (omega arith) (omega (arith, lt))),
  apart-from R same k xs (λ i j d less lt. h (suc i) (suc j) d (omega (arith, less)) (omega (arith, lt))),
)

apart-map : {A B : Type 0} (f : A → B) (R : A → A → Type 0) (same : B → B → Bool) → ((x y : A) → R x y → same (f x) (f y) ≡ false) → (xs : List A) → AllPairs R xs → AreApart same (map f xs)
apart-map f R same k [] h = tt
apart-map f R same k (x ∷ xs) h = (
  each-map f (λ y. R x y) (λ y. same (f x) y ≡ false) (λ y r. k x y r) xs (λ i d lt. h 0 (suc i) d (omega arith) (omega (arith, lt))),
  apart-map f R same k xs (λ i j d less lt. h (suc i) (suc j) d (omega (arith, less)) (omega (arith, lt))),
)

unequal : (a b : ℕ) → a ≢ b → (a == b) ≡ false
unequal a b h = by (a == b) refl
  where
    by : (t : Bool) → (a == b) ≡ t → (a == b) ≡ false
    by true e = let same : a ≡ b = grind (arith, nat_tests, e) in absurd (h same)
    by false e = e

flip : (a b : ℕ) → (a == b) ≡ (b == a)
flip a b = grind (arith, nat_tests)

-- ---- rules and groups

good-rules : (g : Group) → good.AreGoodRules g.rules → IsGoodGroup g
unfolding good.AreGoodRules
good-rules g h = (
  h.0,
  each-from (λ r. bad_rule_of r ≡ _) IsGoodRule (λ r e. e) g.rules h.2,
  apart-from (λ (r s : Rule). r.number ≢ s.number) same_number (λ r s e. unequal r.number s.number e) g.rules h.1,
)

good-groups : (gs : List Group) → good.AreGoodGroups gs → (length gs ≤ 32) × Each IsGoodGroup gs × AreApart same_group gs
unfolding good.AreGoodGroups
good-groups gs h = (
  h.0,
  each-from (λ (g : Group). good.AreGoodRules g.rules) IsGoodGroup good-rules gs h.2,
  apart-from (λ (g k : Group). g.number ≢ k.number) same_group (λ g k e. unequal g.number k.number e) gs h.1,
)

-- ---- layers

listed-flip : (c : ℕ) (cs : List ℕ) → list_any (λ m. m == c) cs ≡ is_listed cs c
listed-flip c [] = refl
listed-flip c (d ∷ ds) = let ih = listed-flip c ds in rw (flip d c, ih) refl

good-layer : (known : List ℕ) (l : LayerFile) → good.IsGoodLayer known l → IsGoodLayer known (whole l)
unfolding good.IsGoodLayer
good-layer known l h = let gs = good-groups l.groups h.1 in (sym (listed-flip l.controller known) ∙ h.0, gs.0, gs.1, gs.2, tt)

apart-layers : (l m : LayerFile) → good.AreApart l m → same_layer (whole l) (whole m) ≡ false
apart-layers l m h = by (l.controller == m.controller) refl (l.spec.layer == m.spec.layer) refl
  where
    by : (a : Bool) → (l.controller == m.controller) ≡ a → (b : Bool) → (l.spec.layer == m.spec.layer) ≡ b → (l.controller == m.controller && l.spec.layer == m.spec.layer) ≡ false
    by true e b i = let same : l.controller ≡ m.controller = grind (arith, nat_tests, e) in rw e (unequal l.spec.layer m.spec.layer (h same))
    by false e b i = rw e refl

counted : (c : ℕ) (ls : List LayerFile) → count_by c ls ≡ length (filter (is_of c) (map whole ls))
counted c [] = refl
counted c (l ∷ ls) = by (c == l.controller) refl (l.controller == c) refl (flip c l.controller) (counted c ls)
  where
    by : (a : Bool) → (c == l.controller) ≡ a → (b : Bool) → (l.controller == c) ≡ b → (c == l.controller) ≡ (l.controller == c) → count_by c ls ≡ length (filter (is_of c) (map whole ls)) → count_by c (l ∷ ls) ≡ length (filter (is_of c) (map whole (l ∷ ls)))
    by true e true i same ih = rw (e, i) (ap (λ n. suc n) ih)
    by true e false i same ih = absurd (cc)
    by false e true i same ih = absurd (cc)
    by false e false i same ih = rw (e, i) ih

good-layers : (known : List ℕ) (ls : List LayerFile) → good.AreGoodLayers known ls → AreLayers known (map whole ls)
unfolding good.AreGoodLayers
good-layers known ls h = record {
  apart = apart-map whole good.AreApart same_layer apart-layers ls h.1;
  good = each-map whole (good.IsGoodLayer known) (IsGoodLayer known) (good-layer known) ls h.2;
  few = λ c. subst (λ n. n ≤ 16) (counted c ls) (h.0 c);
}

-- ---- the file

distinct : (cs : List ℕ) → AreApart (λ c d. c == d) cs → are_distinct cs ≡ true
distinct [] h = refl
distinct (c ∷ cs) h =
    let here : is_listed cs c ≡ false = none-any (λ d. c == d) cs h.0 in
    let rest = distinct cs h.1 in
    rw (here, rest) refl

good-ports : (known : List ℕ) (ps : List PortFile) → good.AreGoodPorts known ps → Each (λ p. AreLayers known (map whole p.layers)) ps
unfolding good.AreGoodPorts
good-ports known ps h = each-from (λ (p : PortFile). good.AreGoodLayers known p.layers) (λ (p : PortFile). AreLayers known (map whole p.layers)) (λ p g. good-layers known p.layers g) ps h.3

pub good-file : (f : PolicyFile) → good.IsGoodPolicy f → IsFile f
unfolding good.IsGoodPolicy
good-file f h = record {
  few_controllers = h.0;
  distinct = distinct f.controllers (apart-from (λ c d. c ≢ d) (λ c d. c == d) unequal f.controllers h.1);
  layers = good-ports f.controllers f.ports h.2;
}
