-- Groups that are added to a layer, one after another.
use Rattle.std.specs.Prelude.{◌≡◌, ◌≤◌, ℕ, List, ◌++◌, true, false, length, nat_le}
use Rattle.std.specs.List.{list_any}
use Rattle.vsw_rule.specs.declared.rule.Group.{Group}
use Rattle.vsw_policy.specs.Groups.{is_group}
use Rattle.vsw_policy.specs.Layer.{LayerSeen, with_parts}
use Rattle.vsw_policy.specs.Layers.{is_layer}
use Rattle.vsw_policy.specs.Obey.{groups_in}
use Rattle.vsw_policy.specs.Sound.{Each, AreApart, IsGoodGroup, same_group, is_listed}

-- a layer with these groups behind its own
abbrev pub with_groups : List Group → LayerSeen → LayerSeen
with_groups gs l = with_parts (l.groups ++ gs) l.pairs l

-- a controller's layer has room for a good group, and none of its number
pub record Admits (cs : List ℕ) (ls : List LayerSeen) (c n : ℕ) (g : Group) : Type 0 where
  pub listed : is_listed cs c ≡ true
  pub there : list_any (is_layer c n) ls ≡ true
  pub new : list_any (is_group g.number) (groups_in ls c n) ≡ false
  pub room : nat_le 32 (length (groups_in ls c n)) ≡ false
  pub good : IsGoodGroup g

-- the same of several, in their order
pub record AdmitsAll (cs : List ℕ) (ls : List LayerSeen) (c n : ℕ) (gs : List Group) : Type 0 where
  pub listed : is_listed cs c ≡ true
  pub there : list_any (is_layer c n) ls ≡ true
  pub few : length (groups_in ls c n ++ gs) ≤ 32
  pub apart : AreApart same_group (groups_in ls c n ++ gs)
  pub good : Each IsGoodGroup gs
