-- A stack by its levels, each of three headers: what stands at fixed places of one, and that its numbers lie in the ranges of their fields.
use Rattle.std.specs.Prelude.{ℕ, ◌+◌, ◌*◌, ◌/◌, ◌%◌, ◌^◌, List, [], ◌∷◌}
use Rattle.vsw_base.specs.declared.header.Header.{Header}
use Rattle.vsw_base.specs.declared.header.Header.TheVariants.{Ether, Ip, Vxlan, Ports, Six}
use Rattle.vsw_base.specs.declared.packet.Dir.{Dir}
use Rattle.vsw_base.specs.Fits.{IsFit}
use Rattle.vsw_words.specs.Key.{head_word, joined, side, vni_bounds}

-- destination and source of an Ethernet header at the front
abbrev pub macs_at : List Header → ℕ × ℕ
macs_at [] = (0, 0)
macs_at (Ether dst src kind ∷ hs) = (dst, src)
macs_at (Ip src dst proto part ∷ hs) = (0, 0)
macs_at (Vxlan vni ∷ hs) = (0, 0)
macs_at (Ports proto src dst ∷ hs) = (0, 0)
macs_at (Six src dst proto ∷ hs) = (0, 0)

-- source and destination of an IPv4 header behind one other, in one word
abbrev pub pair_at : List Header → ℕ
pair_at [] = 0
pair_at (h ∷ []) = 0
pair_at (h ∷ Ether dst src kind ∷ hs) = 0
pair_at (h ∷ Ip src dst proto part ∷ hs) = src * 2 ^ 32 + dst
pair_at (h ∷ Vxlan vni ∷ hs) = 0
pair_at (h ∷ Ports proto src dst ∷ hs) = 0
pair_at (h ∷ Six src dst proto ∷ hs) = 0

-- the halves of source and destination of an IPv6 header behind one other
abbrev pub six_at : List Header → ℕ × ℕ × ℕ × ℕ
six_at [] = (0, 0, 0, 0)
six_at (h ∷ []) = (0, 0, 0, 0)
six_at (h ∷ Ether dst src kind ∷ hs) = (0, 0, 0, 0)
six_at (h ∷ Ip src dst proto part ∷ hs) = (0, 0, 0, 0)
six_at (h ∷ Vxlan vni ∷ hs) = (0, 0, 0, 0)
six_at (h ∷ Ports proto src dst ∷ hs) = (0, 0, 0, 0)
six_at (h ∷ Six src dst proto ∷ hs) = (src / 2 ^ 64, src % 2 ^ 64, dst / 2 ^ 64, dst % 2 ^ 64)

-- the network of a VXLAN header behind two others
abbrev pub vni_at : List Header → ℕ
vni_at [] = 0
vni_at (h ∷ []) = 0
vni_at (h ∷ g ∷ []) = 0
vni_at (h ∷ g ∷ Ether dst src kind ∷ hs) = 0
vni_at (h ∷ g ∷ Ip src dst proto part ∷ hs) = 0
vni_at (h ∷ g ∷ Vxlan vni ∷ hs) = vni
vni_at (h ∷ g ∷ Ports proto src dst ∷ hs) = 0
vni_at (h ∷ g ∷ Six src dst proto ∷ hs) = 0

-- the words of an identity, level by level; the last headers are the inner ones
abbrev pub level_words : ℕ → List Header → List Header → List Header → List Header → List ℕ
level_words head hs second third last = head ∷ joined vni_bounds (vni_at hs ∷ vni_at second ∷ []) ∷ (macs_at hs).0 ∷ (macs_at hs).1 ∷ (macs_at second).0 ∷ (macs_at second).1 ∷ (macs_at third).0 ∷ (macs_at third).1
    ∷ pair_at hs ∷ pair_at second ∷ pair_at third ∷ (six_at last).0 ∷ (six_at last).1 ∷ (six_at last).2 ∷ (six_at last).3 ∷ 0 ∷ []

-- the words of an identity without encapsulation
abbrev pub plain_words : Dir → List Header → List ℕ
plain_words dir hs = head_word (side dir) 0 hs ∷ 0 ∷ (macs_at hs).0 ∷ (macs_at hs).1 ∷ 0 ∷ 0 ∷ 0 ∷ 0 ∷ pair_at hs ∷ 0 ∷ 0 ∷ (six_at hs).0 ∷ (six_at hs).1 ∷ (six_at hs).2 ∷ (six_at hs).3 ∷ 0 ∷ []

-- what is read of each of these places lies in its range
abbrev pub FitsFirst : List Header → Type 0
FitsFirst [] = Unit {0}
FitsFirst (Ether dst src kind ∷ hs) = IsFit (Ether dst src kind)
FitsFirst (Ip src dst proto part ∷ hs) = Unit {0}
FitsFirst (Vxlan vni ∷ hs) = Unit {0}
FitsFirst (Ports proto src dst ∷ hs) = Unit {0}
FitsFirst (Six src dst proto ∷ hs) = Unit {0}

abbrev pub FitsSecond : List Header → Type 0
FitsSecond [] = Unit {0}
FitsSecond (h ∷ []) = Unit {0}
FitsSecond (h ∷ Ether dst src kind ∷ hs) = Unit {0}
FitsSecond (h ∷ Ip src dst proto part ∷ hs) = IsFit (Ip src dst proto part)
FitsSecond (h ∷ Vxlan vni ∷ hs) = Unit {0}
FitsSecond (h ∷ Ports proto src dst ∷ hs) = Unit {0}
FitsSecond (h ∷ Six src dst proto ∷ hs) = Unit {0}

abbrev pub FitsSix : List Header → Type 0
FitsSix [] = Unit {0}
FitsSix (h ∷ []) = Unit {0}
FitsSix (h ∷ Ether dst src kind ∷ hs) = Unit {0}
FitsSix (h ∷ Ip src dst proto part ∷ hs) = Unit {0}
FitsSix (h ∷ Vxlan vni ∷ hs) = Unit {0}
FitsSix (h ∷ Ports proto src dst ∷ hs) = Unit {0}
FitsSix (h ∷ Six src dst proto ∷ hs) = IsFit (Six src dst proto)

abbrev pub FitsPorts : List Header → Type 0
FitsPorts [] = Unit {0}
FitsPorts (Ether dst src kind ∷ hs) = Unit {0}
FitsPorts (Ip src dst proto part ∷ hs) = Unit {0}
FitsPorts (Vxlan vni ∷ hs) = Unit {0}
FitsPorts (Ports proto src dst ∷ hs) = IsFit (Ports proto src dst)
FitsPorts (Six src dst proto ∷ hs) = Unit {0}

-- ports behind Ethernet and a packet's header
abbrev pub FitsBehind : List Header → Type 0
FitsBehind [] = Unit {0}
FitsBehind (Ether dst src kind ∷ hs) = Unit {0}
FitsBehind (Ip src dst proto part ∷ hs) = FitsPorts hs
FitsBehind (Vxlan vni ∷ hs) = Unit {0}
FitsBehind (Ports proto src dst ∷ hs) = Unit {0}
FitsBehind (Six src dst proto ∷ hs) = FitsPorts hs

abbrev pub FitsThird : List Header → Type 0
FitsThird [] = Unit {0}
FitsThird (Ether dst src kind ∷ hs) = FitsBehind hs
FitsThird (Ip src dst proto part ∷ hs) = Unit {0}
FitsThird (Vxlan vni ∷ hs) = Unit {0}
FitsThird (Ports proto src dst ∷ hs) = Unit {0}
FitsThird (Six src dst proto ∷ hs) = Unit {0}
