-- The keys by which a layer finds its pairs.
use Rattle.std.specs.Prelude.{ℕ, List, [], ◌∷◌, get_or, Bool, false}
use Rattle.vsw_base.specs.declared.address.Addr.{Addr}
use Rattle.vsw_base.specs.declared.address.Addr.TheVariants as addr
use Rattle.vsw_base.specs.declared.flow.LayerKey.{LayerKey}
use Rattle.vsw_base.specs.declared.header.Header.{Header}
use Rattle.vsw_base.specs.declared.header.Header.TheVariants.{Ether, Ip, Vxlan, Ports, Six}
use Rattle.vsw_base.specs.Shape.{encaps, inner, vnis}

-- source, destination, protocol and fragment mark of inner headers
abbrev pub packet_of : List Header → Addr × Addr × ℕ × Bool
packet_of [] = (addr.Absent, addr.Absent, 0, false)
packet_of (ether ∷ []) = (addr.Absent, addr.Absent, 0, false)
packet_of (ether ∷ Ether dst src kind ∷ hs) = (addr.Absent, addr.Absent, 0, false)
packet_of (ether ∷ Ip src dst proto part ∷ hs) = (addr.Four src, addr.Four dst, proto, part)
packet_of (ether ∷ Vxlan vni ∷ hs) = (addr.Absent, addr.Absent, 0, false)
packet_of (ether ∷ Ports proto src dst ∷ hs) = (addr.Absent, addr.Absent, 0, false)
packet_of (ether ∷ Six src dst proto ∷ hs) = (addr.Six src, addr.Six dst, proto, false)

-- source and destination port of inner headers
abbrev pub ports_of : List Header → ℕ × ℕ
ports_of [] = (0, 0)
ports_of (ether ∷ []) = (0, 0)
ports_of (ether ∷ ip ∷ []) = (0, 0)
ports_of (ether ∷ ip ∷ Ether dst src kind ∷ hs) = (0, 0)
ports_of (ether ∷ ip ∷ Ip src dst proto part ∷ hs) = (0, 0)
ports_of (ether ∷ ip ∷ Vxlan vni ∷ hs) = (0, 0)
ports_of (ether ∷ ip ∷ Ports proto src dst ∷ hs) = (src, dst)
ports_of (ether ∷ ip ∷ Six src dst proto ∷ hs) = (0, 0)

-- what a key has of a stack, each absent, 0 or false where the stack hasn't it: the network of the encapsulation at a place
abbrev pub vni_at : ℕ → List Header → ℕ
vni_at place hs = get_or (vnis hs) place 0

-- the inner IP header's source
abbrev pub src_of : List Header → Addr
src_of hs = (packet_of (inner hs)).0

-- the inner IP header's destination
abbrev pub dst_of : List Header → Addr
dst_of hs = (packet_of (inner hs)).1

-- the inner IP header's protocol
abbrev pub proto_of : List Header → ℕ
proto_of hs = (packet_of (inner hs)).2

-- whether the inner IP header is of a fragment
abbrev pub is_part : List Header → Bool
is_part hs = (packet_of (inner hs)).3

-- the inner source port
abbrev pub src_port_of : List Header → ℕ
src_port_of hs = (ports_of (inner hs)).0

-- the inner destination port
abbrev pub dst_port_of : List Header → ℕ
dst_port_of hs = (ports_of (inner hs)).1

-- the key of a stack
abbrev pub key_from : List Header → LayerKey
key_from hs = record {
  encaps = encaps hs;
  vni_outer = vni_at 0 hs;
  vni_second = vni_at 1 hs;
  src = src_of hs;
  dst = dst_of hs;
  proto = proto_of hs;
  part = is_part hs;
  src_port = src_port_of hs;
  dst_port = dst_port_of hs;
}

-- the key of inner headers behind so many encapsulations, of these networks
abbrev pub key_behind : List Header → ℕ → ℕ → ℕ → LayerKey
key_behind hs encaps outer second = record {
  encaps = encaps;
  vni_outer = outer;
  vni_second = second;
  src = (packet_of hs).0;
  dst = (packet_of hs).1;
  proto = (packet_of hs).2;
  part = (packet_of hs).3;
  src_port = (ports_of hs).0;
  dst_port = (ports_of hs).1;
}

-- the key with source and destination exchanged
abbrev pub mirror_of : LayerKey → LayerKey
mirror_of k = record { encaps = k.encaps; vni_outer = k.vni_outer; vni_second = k.vni_second; src = k.dst; dst = k.src; proto = k.proto; part = k.part; src_port = k.dst_port; dst_port = k.src_port }
