-- The IPv4 checksums of pushed encapsulations are right.
use Rattle.std.proofs.Common.{◌≡◌, ℕ, zero, suc, refl, ◌∙◌, ap, ◌+◌, ◌*◌, ◌/◌, ◌%◌, ◌<◌, List, ◌∷◌, ◌++◌, length, take, arith}
use Rattle.vsw_base.specs.declared.header.Header.{Header}
use Rattle.vsw_base.specs.declared.header.Header.TheVariants.{Ether, Ip, Vxlan}
use Rattle.vsw_base.specs.Shape.{encaps, inner}
use Rattle.vsw_header.specs.Sum.{checksum, words_of}
use Rattle.vsw_header.specs.Ip.{ip_bytes, pushed_checksum, pushed_ip_bytes}
use Rattle.vsw_header.specs.IpRight.{IsRight}
use Rattle.vsw_header.specs.Vxlan.{udp_vxlan_bytes}
use Rattle.vsw_frame.specs.Bytes.{levels_changed, pushes, source_port}
use Rattle.vsw_frame.specs.Push.{pushed}
use Rattle.vsw_frame.specs.RoundTrip.{levels_pushed, levels_staying}
use Rattle.vsw_frame.proofs.TripPushed.{Encapped, fewer, first_three, stack_encapped}
use Rattle.vsw_frame.specs.Sums.{AreIpRight, PushRight}

word_is : (k : ℕ) → k < 65536 → k / 256 % 256 * 256 + (k % 256 * 1 + 0) ≡ k
word_is k h = omega arith

pushed_is : (src dst total : ℕ) (rest : List ℕ) → IsRight (pushed_ip_bytes src dst total ++ rest)
unfolding pushed_checksum
pushed_is src dst total rest = let k = checksum (words_of (ip_bytes src dst total 0)) in word_is k (omega arith)

pushed_right : (port : ℕ) (hs : List Header) (inner : List ℕ) → AreIpRight (levels_pushed port hs inner)
pushed_right port (Ether d s k ∷ Ip a b p f ∷ Vxlan v ∷ hs) inner =
    let x = pushed port hs inner in
    (pushed_is a b (length x + 36) (udp_vxlan_bytes port (length x) v ++ x), pushed_right port hs inner)
pushed_right port hs inner = tt

pushed_count : (j : ℕ) (hs : List Header) (port : ℕ) (inside : List ℕ) → Encapped j hs → length (levels_pushed port (take (3 * j) hs) inside) ≡ j
pushed_count zero hs port inside e = refl
pushed_count (suc j) (Ether d s k ∷ Ip a b p f ∷ Vxlan v ∷ hs) port inside e =
    ap (λ (gs : List Header). length (levels_pushed port gs inside)) (first_three j (Ether d s k) (Ip a b p f) (Vxlan v) hs) ∙ omega (arith, pushed_count j hs port inside e.8)
pushed_count (suc j) hs port inside e = absurd e

pub push_right : PushRight
push_right bytes p edited kept n h =
    let inside = levels_changed (inner p.stack) (inner edited) (levels_staying p kept) in
    let j = pushes edited kept in
    let port = source_port edited in
    record {
      count = pushed_count j edited port inside (fewer j (encaps edited) edited (omega arith) (stack_encapped edited h.edit.edited_shape h.fits));
      right = pushed_right port (take (3 * j) edited) inside;
    }
