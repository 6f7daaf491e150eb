-- What the commands of a layer make of the layers.
use Rattle.std.proofs.Common.{◌≡◌, ◌≤◌, suc, ℕ, ◌==◌, ◌&&◌, Bool, true, false, cond, List, [], ◌∷◌, ◌++◌, length, filter, None, refl, ap, sym, subst, ◌∙◌, arith}
use Rattle.std.specs.Prelude.{nat_le}
use Rattle.std.specs.List.{list_any}
use Rattle.std.proofs.lemmas.Bool.Decides.{nat_tests}
use Rattle.vsw_policy.specs.Groups.{changed}
use Rattle.vsw_policy.specs.Layer.{LayerSeen}
use Rattle.vsw_policy.specs.declared.layer.LayerSpec.{LayerSpec}
use Rattle.vsw_policy.specs.declared.command.Command.TheVariants.{AddLayer}
use Rattle.vsw_policy.specs.Layers.{is_of, is_layer, is_before}
use Rattle.vsw_policy.specs.Obey.{placed, empty_layer, groups_of, groups_in, tests, first_refusal}
use Rattle.vsw_policy.specs.Sound.{Each, AreApart, AreInOrder, IsGoodLayer, same_group, same_layer, is_listed}
use Rattle.std.specs.List.Sorted.{IsPermutation}
use Rattle.std.specs.List.{position_or_len}
use Rattle.std.proofs.lemmas.List.Sorted.{IsPermutation-refl, IsPermutation-cons, IsPermutation-insert, IsPermutation-trans}
use Rattle.vsw_policy.proofs.Firsts.{placed-at}
use Rattle.vsw_policy.proofs.Keeps.{each-placed, count-placed, order-placed}
use Rattle.vsw_config.specs.declared.file.LayerFile.{LayerFile}
use Rattle.vsw_promise.specs.File.{AreLayers}
use Rattle.vsw_promise.specs.Groups.{with_groups, AdmitsAll}
use Rattle.vsw_promise.specs.Order.{StandInOrder}
use Rattle.vsw_promise.specs.Ports.{whole, in_order}
use Rattle.vsw_promise.proofs.Firsts.{none-any, any-placed, find-placed, changed-placed}

itself : (c n : ℕ) → (c == c && n == n) ≡ true
itself c n = grind (arith, nat_tests)

pub layer-allowed : (ls : List LayerSeen) (c : ℕ) (s : LayerSpec) → list_any (is_layer c s.layer) ls ≡ false → nat_le 16 (length (filter (is_of c) ls)) ≡ false → first_refusal (tests ls c (AddLayer s)) ≡ None
layer-allowed ls c s new room = rw (new, room) refl

-- the groups of the file may be added to the layer that was placed
pub admits-all : (cs ds : List ℕ) (ls new : List LayerSeen) (f : LayerFile) → IsGoodLayer cs (whole f) → list_any (is_layer f.controller f.spec.layer) ls ≡ false → ds ≡ cs → new ≡ placed cs (empty_layer f.controller f.spec) ls → AdmitsAll ds new f.controller f.spec.layer f.groups
admits-all cs ds ls new f good none same e =
    let c = f.controller in
    let n = f.spec.layer in
    let l = empty_layer c f.spec in
    let now : groups_in new c n ≡ [] = ap (λ ms. groups_in ms c n) e ∙ ap groups_of (find-placed cs (is_layer c n) l ls (itself c n) none) in
    record {
      listed = subst (λ xs. is_listed xs c ≡ true) (sym same) good.0;
      there = ap (λ ms. list_any (is_layer c n) ms) e ∙ any-placed cs (is_layer c n) l ls (itself c n);
      few = subst (λ xs. length (xs ++ f.groups) ≤ 32) (sym now) good.1;
      apart = subst (λ xs. AreApart same_group (xs ++ f.groups)) (sym now) good.3;
      good = good.2;
    }

pub whole-placed : (cs : List ℕ) (ls one two : List LayerSeen) (f : LayerFile) → list_any (is_layer f.controller f.spec.layer) ls ≡ false → one ≡ placed cs (empty_layer f.controller f.spec) ls → two ≡ changed (is_layer f.controller f.spec.layer) (with_groups f.groups) one → two ≡ placed cs (whole f) ls
whole-placed cs ls one two f none e i =
    let c = f.controller in
    let n = f.spec.layer in
    i ∙ ap (λ ms. changed (is_layer c n) (with_groups f.groups) ms) e
    ∙ changed-placed cs (is_layer c n) (with_groups f.groups) (empty_layer c f.spec) (λ m. refl) (itself c n) ls none

-- ---- all layers

pub each-in_order : (P : LayerSeen → Type 0) (cs : List ℕ) (ls : List LayerSeen) → Each P ls → Each P (in_order cs ls)
each-in_order P cs [] h = tt
each-in_order P cs (l ∷ ls) h = each-placed P cs l (in_order cs ls) (each-in_order P cs ls h.1) h.0

pub count-in_order : (c : ℕ) (cs : List ℕ) (ls : List LayerSeen) → length (filter (is_of c) (in_order cs ls)) ≡ length (filter (is_of c) ls)
count-in_order c cs [] = refl
count-in_order c cs (l ∷ ls) = by (c == l.controller) refl (count-placed c cs l (in_order cs ls)) (count-in_order c cs ls)
  where
    by : (b : Bool) → (c == l.controller) ≡ b → length (filter (is_of c) (placed cs l (in_order cs ls))) ≡ length (filter (is_of c) (l ∷ in_order cs ls)) → length (filter (is_of c) (in_order cs ls)) ≡ length (filter (is_of c) ls) → length (filter (is_of c) (placed cs l (in_order cs ls))) ≡ length (filter (is_of c) (l ∷ ls))
    by true e i ih = i ∙ rw e (ap (λ n. suc n) ih)
    by false e i ih = i ∙ rw e ih

pub layers-rest : (cs : List ℕ) (l : LayerSeen) (ls : List LayerSeen) → AreLayers cs (l ∷ ls) → AreLayers cs ls
layers-rest cs l ls h = record { apart = h.apart.1; good = h.good.1; few = λ c. few c (c == l.controller) (h.few c) }
  where
    few : (c : ℕ) (b : Bool) → length (cond b (l ∷ filter (is_of c) ls) (filter (is_of c) ls)) ≤ 16 → length (filter (is_of c) ls) ≤ 16
    few c true i = omega (arith, i)
    few c false i = i

pub layer-new : (cs : List ℕ) (l : LayerSeen) (ls now : List LayerSeen) → AreLayers cs (l ∷ ls) → now ≡ in_order cs ls → list_any (is_layer l.controller l.spec.layer) now ≡ false
layer-new cs l ls now h e = ap (λ ms. list_any (is_layer l.controller l.spec.layer) ms) e ∙ none-any (is_layer l.controller l.spec.layer) (in_order cs ls) (each-in_order (λ m. same_layer l m ≡ false) cs ls h.apart.0)

below : (n : ℕ) → suc n ≤ 16 → nat_le 16 n ≡ false
below n h = grind (arith, nat_tests)

same-controller : (c : ℕ) → (c == c) ≡ true
same-controller c = grind (arith, nat_tests)

pub layer-room : (cs : List ℕ) (l : LayerSeen) (ls now : List LayerSeen) → AreLayers cs (l ∷ ls) → now ≡ in_order cs ls → nat_le 16 (length (filter (is_of l.controller) now)) ≡ false
layer-room cs l ls now h e =
    let rest = filter (is_of l.controller) ls in
    let i = subst (λ b. length (cond b (l ∷ rest) rest) ≤ 16) (same-controller l.controller) (h.few l.controller) in
    ap (λ ms. nat_le 16 (length (filter (is_of l.controller) ms))) e
    ∙ ap (λ n. nat_le 16 n) (count-in_order l.controller cs ls)
    ∙ below (length (filter (is_of l.controller) ls)) i

-- ---- their order

all-in-order : (cs : List ℕ) (ls : List LayerSeen) → AreInOrder cs (in_order cs ls)
all-in-order cs [] = tt
all-in-order cs (l ∷ ls) = order-placed cs l (in_order cs ls) (all-in-order cs ls)

same-layers : (cs : List ℕ) (ls : List LayerSeen) → IsPermutation ls (in_order cs ls)
same-layers cs [] = IsPermutation-refl []
same-layers cs (l ∷ ls) =
    let ms = in_order cs ls in
    let one = IsPermutation-cons l ls ms (same-layers cs ls) in
    let two = subst (λ ks. IsPermutation (l ∷ ms) ks) (placed-at cs l ms) (IsPermutation-insert ms (position_or_len (is_before cs l) ms) l) in
    IsPermutation-trans (l ∷ ls) (l ∷ ms) (placed cs l ms) one two

pub stand-in-order : StandInOrder
stand-in-order cs ls = (all-in-order cs ls, same-layers cs ls)
