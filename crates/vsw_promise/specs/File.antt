-- What the commands want of a policy file.
use Rattle.std.specs.Prelude.{ℕ, ◌≤◌, List, IsTrue, length, filter, map}
use Rattle.vsw_policy.specs.Layer.{LayerSeen}
use Rattle.vsw_policy.specs.Layers.{is_of}
use Rattle.vsw_policy.specs.Sound.{Each, AreApart, same_layer, IsGoodLayer, are_distinct}
use Rattle.vsw_config.specs.declared.file.PolicyFile.{PolicyFile}
use Rattle.vsw_promise.specs.Ports.{whole}

-- layers of listed controllers, within the limits, and no two have one name
pub record AreLayers (cs : List ℕ) (ls : List LayerSeen) : Type 0 where
  pub apart : AreApart same_layer ls
  pub good : Each (IsGoodLayer cs) ls
  pub few : (c : ℕ) → length (filter (is_of c) ls) ≤ 16

-- at most eight controllers, none named twice, and each port's layers are such
pub record IsFile (f : PolicyFile) : Type 0 where
  pub few_controllers : length f.controllers ≤ 8
  pub distinct : IsTrue (are_distinct f.controllers)
  pub layers : Each (λ p. AreLayers f.controllers (map whole p.layers)) f.ports
