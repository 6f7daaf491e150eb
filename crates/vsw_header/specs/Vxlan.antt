-- The UDP and VXLAN headers in front of an inner frame, as they are written.
use Rattle.std.specs.Prelude.{◌≡◌, ◌≤◌, ◌<◌, ◌^◌, ◌+◌, ℕ, List, [], ◌∷◌, ◌++◌, length, take, drop, Ok, Some}
use Rattle.byteorder.specs.Endian.{big_bytes}
use Rattle.vsw_base.specs.Udp.{udp_of}
use Rattle.vsw_base.specs.Vxlan.{vni_of, vxlan_port}

-- the VXLAN header (RFC 7348, section 5): the I flag alone, reserved, VNI, reserved
abbrev pub vxlan_bytes : ℕ → List ℕ
vxlan_bytes vni = (0x08 ∷ 0 ∷ 0 ∷ 0 ∷ []) ++ big_bytes 3 vni ++ (0 ∷ [])

-- the UDP header (RFC 768) of an inner frame of n bytes: source port; VXLAN's port; length with both headers; no
-- checksum (RFC 7348, section 5); and the VXLAN header
abbrev pub udp_vxlan_bytes : ℕ → ℕ → ℕ → List ℕ
udp_vxlan_bytes src_port n vni = big_bytes 2 src_port ++ big_bytes 2 vxlan_port ++ big_bytes 2 (n + 16) ++ big_bytes 2 0 ++ vxlan_bytes vni

-- what was written is read back: the payload is the VXLAN header and n bytes of what follows, and the rest of it slack
abbrev pub ReadsUdpBack : Type 0
ReadsUdpBack = (src_port n vni : ℕ) (rest : List ℕ) → src_port < 2 ^ 16 → n + 16 < 2 ^ 16 → n ≤ length rest → udp_of (udp_vxlan_bytes src_port n vni ++ rest) ≡ Ok (record { src = src_port; dst = vxlan_port; payload = vxlan_bytes vni ++ take n rest; slack = drop n rest })

abbrev pub ReadsVniBack : Type 0
ReadsVniBack = (vni : ℕ) (rest : List ℕ) → vni < 2 ^ 24 → vni_of (vxlan_bytes vni ++ rest) ≡ Some vni
