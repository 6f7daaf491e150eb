-- The numbers of a layer, within their bounds.
use Rattle.std.specs.Prelude.{◌≤◌}
use Rattle.vsw_policy.specs.declared.layer.LayerSpec.{LayerSpec}

-- at most 65,536 pairs, each of which may be idle, or linger once it is closed, from a second to a day
pub record IsGoodSpec (s : LayerSpec) : Type 0 where
  pub pairs : s.pairs ≤ 65536
  pub idle_from : 1 ≤ s.idle
  pub idle_to : s.idle ≤ 86400
  pub linger_from : 1 ≤ s.linger
  pub linger_to : s.linger ≤ 86400
