-- The sixteen words of the identity of a flow. docs/FORMATS.md has them as a table.
use Rattle.std.specs.Prelude.{ℕ, ◌+◌, ◌*◌, ◌/◌, ◌%◌, ◌^◌, List, [], ◌∷◌, ◌++◌, Bool, true, false, take, replicate}
use Rattle.vsw_base.specs.declared.header.Header.{Header}
use Rattle.vsw_base.specs.declared.header.Header.TheVariants.{Ether, Ip, Vxlan, Ports, Six}
use Rattle.vsw_base.specs.declared.packet.Dir.{Dir}
use Rattle.vsw_base.specs.declared.packet.Dir.TheVariants.{Out, In}
use Rattle.vsw_base.specs.Shape.{encaps, inner, vnis}

-- fields in one word, each below its bound, the first lowest
abbrev pub joined : List ℕ → List ℕ → ℕ
joined [] xs = 0
joined (m ∷ ms) [] = 0
joined (m ∷ ms) (x ∷ xs) = joined ms xs * m + x

-- a truth value as one bit
abbrev pub bit : Bool → ℕ
bit true = 1
bit false = 0

-- the bit of a direction
abbrev pub side : Dir → ℕ
side Out = 0
side In = 1

-- so many words: the numbers of the list, and 0 behind them
abbrev pub padded : ℕ → List ℕ → List ℕ
padded n xs = take n (xs ++ replicate n 0)

-- destination and source of the Ethernet headers, outermost first
abbrev pub macs : List Header → List ℕ
macs [] = []
macs (Ether dst src kind ∷ hs) = dst ∷ src ∷ macs hs
macs (Ip src dst proto part ∷ hs) = macs hs
macs (Vxlan vni ∷ hs) = macs hs
macs (Ports proto src dst ∷ hs) = macs hs
macs (Six src dst proto ∷ hs) = macs hs

-- source and destination of the IPv4 headers, the source in the high half of a word
abbrev pub addresses : List Header → List ℕ
addresses [] = []
addresses (Ether dst src kind ∷ hs) = addresses hs
addresses (Ip src dst proto part ∷ hs) = (src * 2 ^ 32 + dst) ∷ addresses hs
addresses (Vxlan vni ∷ hs) = addresses hs
addresses (Ports proto src dst ∷ hs) = addresses hs
addresses (Six src dst proto ∷ hs) = addresses hs

-- high and low half of the source and of the destination of the IPv6 header
abbrev pub sixes : List Header → List ℕ
sixes [] = []
sixes (Ether dst src kind ∷ hs) = sixes hs
sixes (Ip src dst proto part ∷ hs) = sixes hs
sixes (Vxlan vni ∷ hs) = sixes hs
sixes (Ports proto src dst ∷ hs) = sixes hs
sixes (Six src dst proto ∷ hs) = src / 2 ^ 64 ∷ src % 2 ^ 64 ∷ dst / 2 ^ 64 ∷ dst % 2 ^ 64 ∷ sixes hs

-- whether ports stand at the front, and which
abbrev pub ports_of : List Header → Bool × ℕ × ℕ
ports_of [] = (false, 0, 0)
ports_of (Ether dst src kind ∷ hs) = (false, 0, 0)
ports_of (Ip src dst proto part ∷ hs) = (false, 0, 0)
ports_of (Vxlan vni ∷ hs) = (false, 0, 0)
ports_of (Ports proto src dst ∷ hs) = (true, src, dst)
ports_of (Six src dst proto ∷ hs) = (false, 0, 0)

-- what stands behind Ethernet of this type: whether IPv4 and ports are there, the fragment mark, whether IPv6 is there, protocol, type, and the ports
abbrev pub packet_fields : ℕ → List Header → List ℕ
packet_fields kind [] = 0 ∷ 0 ∷ 0 ∷ 0 ∷ 0 ∷ kind ∷ 0 ∷ 0 ∷ []
packet_fields kind (Ether dst src type ∷ hs) = []
packet_fields kind (Ip src dst proto part ∷ hs) = 1 ∷ bit (ports_of hs).0 ∷ bit part ∷ 0 ∷ proto ∷ kind ∷ (ports_of hs).1 ∷ (ports_of hs).2 ∷ []
packet_fields kind (Vxlan vni ∷ hs) = []
packet_fields kind (Ports proto src dst ∷ hs) = []
packet_fields kind (Six src dst proto ∷ hs) = 0 ∷ bit (ports_of hs).0 ∷ 0 ∷ 1 ∷ proto ∷ kind ∷ (ports_of hs).1 ∷ (ports_of hs).2 ∷ []

-- the same of inner headers, which begin with Ethernet
abbrev pub inner_fields : List Header → List ℕ
inner_fields [] = []
inner_fields (Ether dst src kind ∷ hs) = packet_fields kind hs
inner_fields (Ip src dst proto part ∷ hs) = []
inner_fields (Vxlan vni ∷ hs) = []
inner_fields (Ports proto src dst ∷ hs) = []
inner_fields (Six src dst proto ∷ hs) = []

-- the bounds of the first word's fields: bits 0, 1, 2 and 3, 4, 5, 6, 7, 8 to 15, 16 to 31, 32 to 47, 48 to 63
abbrev pub head_bounds : List ℕ
head_bounds = 2 ∷ 2 ∷ 4 ∷ 2 ∷ 2 ∷ 2 ∷ 2 ∷ 2 ^ 8 ∷ 2 ^ 16 ∷ 2 ^ 16 ∷ 2 ^ 16 ∷ []

-- the bounds of the second word's fields: both networks
abbrev pub vni_bounds : List ℕ
vni_bounds = 2 ^ 24 ∷ 2 ^ 24 ∷ []

-- the first word: a one, the direction, the encapsulations, and what the inner headers are
abbrev pub head_word : ℕ → ℕ → List Header → ℕ
head_word dir count hs = joined head_bounds (1 ∷ dir ∷ count ∷ inner_fields hs)

-- the words: the first one, the networks, six of Ethernet addresses, three of IPv4 addresses, four of IPv6 addresses, one of nothing
unfoldable pub key_words : Dir → List Header → List ℕ
key_words dir hs = head_word (side dir) (encaps hs) (inner hs) ∷ joined vni_bounds (padded 2 (vnis hs)) ∷ (padded 6 (macs hs) ++ (padded 3 (addresses hs) ++ (padded 4 (sixes hs) ++ 0 ∷ [])))
