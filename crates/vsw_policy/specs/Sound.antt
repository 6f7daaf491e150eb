-- What holds of every policy.
use Rattle.std.specs.Prelude.{◌≡◌, ℕ, ◌==◌, ◌≤◌, ◌&&◌, List, [], ◌∷◌, Bool, true, false, not, IsTrue, length, filter, None}
use Rattle.std.specs.List.{list_any}
use Rattle.vsw_rule.specs.declared.rule.Group.{Group}
use Rattle.vsw_rule.specs.declared.rule.Rule.{Rule}
use Rattle.vsw_rule.specs.Check.{bad_rule_of}
use Rattle.vsw_layerflow.specs.Pairs.{AllBelow}
use Rattle.vsw_policy.specs.Groups.{is_group, is_rule}
use Rattle.vsw_policy.specs.Layer.{LayerSeen}
use Rattle.vsw_policy.specs.Layers.{PolicySeen, is_of, is_layer, is_before}

-- P holds of each element
abbrev pub Each : {A : Type 0} → (A → Type 0) → List A → Type 0
Each P [] = Unit {0}
Each P (x ∷ xs) = P x × Each P xs

abbrev pub is_listed : List ℕ → ℕ → Bool
is_listed cs c = list_any (λ d. c == d) cs

abbrev pub are_distinct : List ℕ → Bool
are_distinct [] = true
are_distinct (c ∷ cs) = not (is_listed cs c) && are_distinct cs

-- no element is the same as one after it
abbrev pub AreApart : {A : Type 0} → (A → A → Bool) → List A → Type 0
AreApart same [] = Unit {0}
AreApart same (x ∷ xs) = Each (λ y. same x y ≡ false) xs × AreApart same xs

abbrev pub same_layer : LayerSeen → LayerSeen → Bool
same_layer l m = is_layer l.controller l.spec.layer m

abbrev pub same_group : Group → Group → Bool
same_group g h = is_group g.number h

abbrev pub same_number : Rule → Rule → Bool
same_number r s = is_rule r.number s

-- nothing is wrong with the rule
abbrev pub IsGoodRule : Rule → Type 0
IsGoodRule r = bad_rule_of r ≡ None

abbrev pub IsGoodGroup : Group → Type 0
IsGoodGroup g = (length g.rules ≤ 1024) × Each IsGoodRule g.rules × AreApart same_number g.rules

abbrev pub IsGoodLayer : List ℕ → LayerSeen → Type 0
IsGoodLayer cs l = (is_listed cs l.controller ≡ true) × (length l.groups ≤ 32) × Each IsGoodGroup l.groups × AreApart same_group l.groups × AllBelow l.next_pair l.pairs

-- no layer is before one that stands in front of it
abbrev pub AreInOrder : List ℕ → List LayerSeen → Type 0
AreInOrder cs [] = Unit {0}
AreInOrder cs (l ∷ ls) = Each (λ m. is_before cs m l ≡ false) ls × AreInOrder cs ls

pub record AreGood (cs : List ℕ) (ls : List LayerSeen) : Type 0 where
  pub in_order : AreInOrder cs ls
  pub apart : AreApart same_layer ls
  pub good : Each (IsGoodLayer cs) ls
  pub few : (c : ℕ) → length (filter (is_of c) ls) ≤ 16

-- at most eight controllers, none named twice; the layers are theirs and in order, within the limits, no two have one name, and the
-- number of the next pair of each is above those of its pairs
pub record IsSound (p : PolicySeen) : Type 0 where
  pub few_controllers : length p.controllers ≤ 8
  pub distinct : IsTrue (are_distinct p.controllers)
  pub layers : AreGood p.controllers p.layers
