-- What was written is read back.
use Rattle.std.proofs.Common.{◌≡◌, ℕ, ◌+◌, ◌^◌, ◌<◌, ◌≤◌, List, ◌++◌, drop, take, length, refl, ◌∙◌, arith}
use Rattle.std.specs.Prelude.{Ok, Some, slice_index}
use Rattle.std.proofs.lemmas.Grind.{common_steps}
use Rattle.std.proofs.lemmas.List.{drop-drop, drop-take}
use Rattle.std.proofs.Math.Seq.{take-add}
use Rattle.byteorder.specs.Endian.{big_bytes, big_number}
use Rattle.vsw_base.specs.Udp.{udp_length, udp_of}
use Rattle.vsw_base.specs.Vxlan.{vni_of, vxlan_port}
use Rattle.vsw_header.specs.Vxlan.{ReadsUdpBack, ReadsVniBack, udp_vxlan_bytes, vxlan_bytes}
use Rattle.vsw_base.proofs.Numbers.{two_is}

three_is : (x : ℕ) → x < 2 ^ 24 → big_number 3 (big_bytes 3 x) ≡ x
three_is x h = omega arith

udp_is : (bytes payload slack : List ℕ) (src dst : ℕ) → 8 ≤ length bytes → 8 ≤ udp_length bytes → udp_length bytes ≤ length bytes → big_number 2 bytes ≡ src → big_number 2 (drop 2 bytes) ≡ dst → drop 8 (take (udp_length bytes) bytes) ≡ payload → drop (udp_length bytes) bytes ≡ slack → udp_of bytes ≡ Ok (record { src = src; dst = dst; payload = payload; slack = slack })
udp_is bytes payload slack src dst l f t s d p k = grind (arith, common_steps)

payload_is : (bytes tail : List ℕ) (m k : ℕ) → m ≡ 8 + k → drop 8 bytes ≡ tail → drop 8 (take m bytes) ≡ take k tail
payload_is bytes tail m k e d = rw (e, drop-take 8 k bytes, d) refl

taken : (vni n : ℕ) (rest : List ℕ) → take (8 + n) (vxlan_bytes vni ++ rest) ≡ vxlan_bytes vni ++ take n rest
taken vni n rest = take-add 8 n (vxlan_bytes vni ++ rest)

slack_is : (bytes tail : List ℕ) (m n : ℕ) → m ≡ 16 + n → drop 16 bytes ≡ tail → drop m bytes ≡ drop n tail
slack_is bytes tail m n e d = rw (e, ← drop-drop n 16 bytes, d) refl

pub reads_udp_back : ReadsUdpBack
reads_udp_back src_port n vni rest hs hn l =
    let bytes : List ℕ = udp_vxlan_bytes src_port n vni ++ rest in
    let t : udp_length bytes ≡ n + 16 = two_is (n + 16) hn in
    udp_is bytes (vxlan_bytes vni ++ take n rest) (drop n rest) src_port vxlan_port (omega arith) (omega (arith, t)) (omega (arith, t, l)) (two_is src_port hs) refl
    (payload_is bytes (vxlan_bytes vni ++ rest) (udp_length bytes) (8 + n) (omega (arith, t)) refl ∙ taken vni n rest)
    (slack_is bytes rest (udp_length bytes) n (omega (arith, t)) refl)

vni_is : (bytes : List ℕ) (vni : ℕ) → 8 ≤ length bytes → slice_index bytes 0 ≡ 0x08 → big_number 3 (drop 4 bytes) ≡ vni → vni_of bytes ≡ Some vni
vni_is bytes vni l f v = grind (arith, common_steps)

pub reads_vni_back : ReadsVniBack
reads_vni_back vni rest h = vni_is (vxlan_bytes vni ++ rest) vni (omega arith) refl (three_is vni h)
