-- The ports that a policy file gives.
use Rattle.std.specs.Prelude.{ℕ, List, [], ◌∷◌, map}
use Rattle.vsw_policy.specs.Layer.{LayerSeen}
use Rattle.vsw_policy.specs.Obey.{placed}
use Rattle.vsw_config.specs.declared.file.LayerFile.{LayerFile}
use Rattle.vsw_config.specs.declared.file.PortFile.{PortFile}
use Rattle.vsw_config.specs.declared.file.PolicyFile.{PolicyFile}
use Rattle.vsw_promise.specs.declared.port.Port.{Port}

-- a layer of the file, without pairs
abbrev pub whole : LayerFile → LayerSeen
whole f = record { controller = f.controller; spec = f.spec; groups = f.groups; pairs = []; next_pair = 0 }

-- layers in the order in which outbound packets cross them
abbrev pub in_order : List ℕ → List LayerSeen → List LayerSeen
in_order cs [] = []
in_order cs (l ∷ ls) = placed cs l (in_order cs ls)

-- a port as it is seen, but for the room that its layers have for pairs
pub record PortSeen : Type 0 where
  pub number : ℕ
  pub mac : ℕ
  pub rows : ℕ
  pub controllers : List ℕ
  pub layers : List LayerSeen

abbrev pub port_seen : Port → PortSeen
port_seen p = record { number = p.number; mac = p.mac; rows = p.rows; controllers = p.policy.controllers; layers = p.policy.layers }

-- a port with the layers that the file gives it
abbrev pub port_of : List ℕ → PortFile → PortSeen
port_of cs p = record { number = p.port; mac = p.mac; rows = p.rows; controllers = cs; layers = in_order cs (map whole p.layers) }

-- the ports of the file, in the file's order
abbrev pub ports_of : PolicyFile → List PortSeen
ports_of f = map (port_of f.controllers) f.ports
