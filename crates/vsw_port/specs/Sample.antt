-- Values that were worked out by hand.
use Rattle.std.specs.Prelude.{◌≡◌, [], ◌∷◌, map, false}
use Rattle.vsw_base.specs.declared.flow.Crossing.{Crossing}
use Rattle.vsw_base.specs.declared.header.Header.TheVariants.{Ether, Ip, Vxlan}
use Rattle.vsw_base.specs.declared.packet.Control.TheVariants as control
use Rattle.vsw_base.specs.declared.packet.Dir.TheVariants.{Out}
use Rattle.vsw_port.specs.Fate.{length_of}
use Rattle.vsw_port.specs.Calls.{controller_at}

-- controllers call by their places in the policy's list, behind sixteen workers
abbrev pub CallersAre : Type 0
CallersAre = map (controller_at (7 ∷ 3 ∷ 5 ∷ [])) (3 ∷ 5 ∷ 7 ∷ []) ≡ 17 ∷ 18 ∷ 16 ∷ []

-- a packet of 94 bytes under one encapsulation, 44 of which stand inside
abbrev pub wrapped : Crossing
wrapped = record { caller = 0; packet = 0; id = record { dir = Out; stack = Ether 1 2 0x0800 ∷ Ip 3 4 17 false ∷ Vxlan 5 ∷ Ether 1 2 0x0806 ∷ [] }; control = control.None; moment = 0; sizes = record { whole = 94; one = 44; two = 0 } }

-- it leaves with 44 bytes without the encapsulation, and with 94 where another is pushed in its place
pub record AreMeasured : Type 0 where
  pub bare : length_of wrapped (record { stack = Ether 1 2 0x0806 ∷ []; kept = 0 }) ≡ 44
  pub pushed : length_of wrapped (record { stack = Ether 8 9 0x0800 ∷ Ip 6 7 17 false ∷ Vxlan 5 ∷ Ether 1 2 0x0806 ∷ []; kept = 0 }) ≡ 94
