-- What a probe feeds a hasher: few words of 64 bits, as each takes two multiplications.
use Rattle.std.specs.Prelude.{ℕ, ◌+◌, ◌*◌, ◌^◌, ◌++◌, [], cond}
use Rattle.std.specs.Hash as fed
use Rattle.vsw_base.specs.declared.address.Addr.{Addr}
use Rattle.vsw_base.specs.declared.address.Addr.TheVariants as addr
use Rattle.vsw_base.specs.declared.packet.Dir.{Dir}
use Rattle.vsw_base.specs.declared.packet.Dir.TheVariants.{Out, In}
use Rattle.vsw_base.specs.declared.flow.LayerKey.{LayerKey}
use Rattle.vsw_layerflow.specs.declared.pair.Probe.{Probe}

abbrev pub dir_bit : Dir → ℕ
dir_bit Out = 0
dir_bit In = 1

-- both VNIs, 32 bits each
abbrev pub vnis_number : LayerKey → ℕ
vnis_number k = k.vni_outer * 2 ^ 32 + k.vni_second

-- the direction, the encapsulations, the protocol, the mark of a fragment, and the ports
abbrev pub rest_number : Probe → ℕ
rest_number p = dir_bit p.dir * 2 ^ 56 + p.key.encaps * 2 ^ 48 + p.key.proto * 2 ^ 40 + cond p.key.part 1 0 * 2 ^ 32 + (p.key.src_port * 2 ^ 16 + p.key.dst_port)

-- all of a probe but its addresses
abbrev pub fields_number : Probe → ℕ
fields_number p = vnis_number p.key * 2 ^ 64 + rest_number p

-- an address of IPv4 is one word, one of IPv6 two, and an absent one none
abbrev pub address_input : Addr → fed.HashWrites
address_input addr.Absent = []
address_input (addr.Four a) = fed.u64 a
address_input (addr.Six a) = fed.u128 a

-- an address of IPv4 and the one behind it: two of IPv4 are one word
abbrev pub after_four : ℕ → Addr → fed.HashWrites
after_four a addr.Absent = fed.u64 a
after_four a (addr.Four b) = fed.u64 (a * 2 ^ 32 + b)
after_four a (addr.Six b) = fed.u64 a ++ fed.u128 b

abbrev pub addresses_input : Addr → Addr → fed.HashWrites
addresses_input addr.Absent d = address_input d
addresses_input (addr.Four a) d = after_four a d
addresses_input (addr.Six a) d = fed.u128 a ++ address_input d

abbrev pub probe_input : Probe → fed.HashWrites
probe_input p = fed.u128 (fields_number p) ++ addresses_input p.key.src p.key.dst
