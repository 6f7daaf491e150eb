-- At which place of a table the rows of a spot stand: a sum of products of 64 bits, whose upper half tells the place.
use Rattle.std.specs.Prelude.{ℕ, ◌+◌, ◌*◌, ◌/◌, ◌%◌, ◌^◌, cond}
use Rattle.vsw_base.specs.declared.address.Addr.{Addr}
use Rattle.vsw_base.specs.declared.address.Addr.TheVariants.{Absent, Four, Six}
use Rattle.vsw_base.specs.declared.packet.Dir.{Dir}
use Rattle.vsw_base.specs.declared.packet.Dir.TheVariants.{Out, In}
use Rattle.vsw_base.specs.declared.flow.LayerKey.{LayerKey}
use Rattle.vsw_layerflow.specs.declared.pair.Probe.{Probe}
use Rattle.vsw_flows.specs.declared.mixing.AddressFactors.{AddressFactors}
use Rattle.vsw_flows.specs.declared.mixing.Factors.{Factors}
use Rattle.vsw_flows.specs.declared.spot.Spot.{Spot}
use Rattle.vsw_flows.specs.declared.spot.Spot.TheVariants.{Missed, Found}

-- a sum with one product more
abbrev pub plus : ℕ → ℕ → ℕ → ℕ
plus sum factor word = (sum + factor * word % 2 ^ 64) % 2 ^ 64

-- with the four words of a long address, first word first
abbrev pub plus_long : ℕ → AddressFactors → ℕ → ℕ
plus_long sum f a = plus (plus (plus (plus sum f.first (a / 2 ^ 96 % 2 ^ 32)) f.second (a / 2 ^ 64 % 2 ^ 32)) f.third (a / 2 ^ 32 % 2 ^ 32)) f.fourth (a % 2 ^ 32)

-- with the words of an address
abbrev pub plus_address : ℕ → AddressFactors → Addr → ℕ
plus_address sum f Absent = sum
plus_address sum f (Four a) = plus sum f.first a
plus_address sum f (Six a) = plus_long sum f a

abbrev pub dir_word : Dir → ℕ
dir_word Out = 0
dir_word In = 2 ^ 24

-- the direction, the encapsulations, the mark of a fragment, and the protocol
abbrev pub rest_word : Dir → LayerKey → ℕ
rest_word d k = dir_word d + k.encaps * 2 ^ 16 + cond k.part 1 0 * 2 ^ 8 + k.proto

abbrev pub ports_word : LayerKey → ℕ
ports_word k = k.src_port * 2 ^ 16 + k.dst_port

-- the sum of a direction and key in a layer
abbrev pub fields_sum : Factors → ℕ → Probe → ℕ
fields_sum f layer p = plus (plus (plus (plus (plus f.start f.missed layer) f.rest (rest_word p.dir p.key)) f.ports (ports_word p.key)) f.outer p.key.vni_outer) f.second p.key.vni_second

abbrev pub missed_sum : Factors → ℕ → Probe → ℕ
missed_sum f layer p = plus_address (plus_address (fields_sum f layer p) f.src p.key.src) f.dst p.key.dst

-- the sum of a spot
abbrev pub spot_sum : Factors → Spot → ℕ
spot_sum f (Missed layer p) = missed_sum f layer p
spot_sum f (Found layer number) = plus (plus f.start f.layer layer) f.number number

-- as far among so many as the upper half of a sum is among the numbers of 32 bits
abbrev pub share : ℕ → ℕ → ℕ
share sum count = sum / 2 ^ 32 * count % 2 ^ 64 / 2 ^ 32 % 2 ^ 32

-- the place of a spot among so many
unfoldable pub place_of : Factors → Spot → ℕ → ℕ
place_of f s count = share (spot_sum f s) count
