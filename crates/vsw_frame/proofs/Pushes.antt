-- Encapsulations that were written in front of a frame.
use Rattle.std.proofs.Common.{◌≡◌, ℕ, ◌+◌, ◌-◌, ◌≤◌, List, [], ◌∷◌, ◌++◌, refl, sym, ◌∙◌, ap, arith, length, take, drop, length-drop, length-take, ◌*◌, ◌<◌, ◌^◌, subst, Some, None}
use Rattle.std.proofs.lemmas.List.{drop-drop}
use Rattle.std.proofs.Math.Seq.{drop-append_seam}
use borrow.Rule.Slice.PartMut.{put_mid}
use Rattle.vsw_base.specs.declared.header.Header.{Header}
use Rattle.vsw_base.specs.declared.header.Header.TheVariants.{Ether, Ip, Vxlan}
use Rattle.vsw_base.specs.Shape.{ipv4_kind, encaps}
use Rattle.vsw_header.specs.Ip.{pushed_ip_bytes}
use Rattle.vsw_header.specs.Vxlan.{udp_vxlan_bytes}
use Rattle.vsw_header.specs.Ether.{ether_bytes}
use Rattle.vsw_frame.specs.Push.{packet_pushed, encap_pushed, pushed, AreEncaps}
use Rattle.vsw_frame.specs.Headers.{outer_of}
use Rattle.vsw_frame.specs.declared.push.Outer.{Outer}
use Rattle.vsw_frame.proofs.Places.{joined_at, put_rest, rest_of}

pub packet_written : (port a b v : ℕ) (old first last : List ℕ) → 36 ≤ length old → length first ≡ length old → take 20 first ≡ pushed_ip_bytes a b (length old) → drop 20 first ≡ drop 20 old → take 16 last ≡ udp_vxlan_bytes port (length old - 36) v → drop 16 last ≡ drop 16 (take (length first - 20) (drop 20 first)) → put_mid 20 (length first - 20) first last ≡ packet_pushed port a b v (drop 36 old)
packet_written port a b v old first last h l f r g s =
    let total : length old ≡ length (drop 36 old) + 36 = omega (arith, length-drop 36 old) in
    let n : length old - 36 ≡ length (drop 36 old) = sym (length-drop 36 old) in
    let rest : drop 16 last ≡ drop 36 old = s ∙ ap (drop 16) (rest_of 20 first ∙ r) ∙ drop-drop 16 20 old in
    put_rest 20 first last (pushed_ip_bytes a b (length (drop 36 old) + 36)) (udp_vxlan_bytes port (length (drop 36 old)) v ++ drop 36 old) (omega arith)
    (f ∙ ap (pushed_ip_bytes a b) total)
    (joined_at 16 last (udp_vxlan_bytes port (length (drop 36 old)) v) (drop 36 old) (g ∙ ap (λ (m : ℕ). udp_vxlan_bytes port m v) n) rest)

pub encap_written : (port d s a b v : ℕ) (old first last : List ℕ) → 50 ≤ length old → length first ≡ length old → take 14 first ≡ ether_bytes d s ipv4_kind → drop 14 first ≡ drop 14 old → last ≡ packet_pushed port a b v (drop 36 (take (length first - 14) (drop 14 first))) → put_mid 14 (length first - 14) first last ≡ encap_pushed port d s a b v (drop 50 old)
encap_written port d s a b v old first last h l f r g =
    let rest : drop 36 (take (length first - 14) (drop 14 first)) ≡ drop 50 old = ap (drop 36) (rest_of 14 first ∙ r) ∙ drop-drop 36 14 old in
    put_rest 14 first last (ether_bytes d s ipv4_kind) (packet_pushed port a b v (drop 50 old)) (omega arith) f (g ∙ ap (packet_pushed port a b v) rest)

-- headers that begin with an encapsulation
pub record Begins (hs : List Header) (o : Outer) : Type 0 where
  pub more : AreEncaps (drop 3 hs)
  pub small : o.vni < 2 ^ 24
  pub long : 3 ≤ length hs
  pub count : encaps hs ≡ encaps (drop 3 hs) + 1
  pub pushes : (port : ℕ) (frame : List ℕ) → pushed port hs frame ≡ encap_pushed port o.dst o.src o.src_ip o.dst_ip o.vni (pushed port (drop 3 hs) frame)

pub begins : (hs : List Header) (o : Outer) → AreEncaps hs → Some o ≡ outer_of hs → Begins hs o
begins (Ether d s k ∷ Ip a b p f ∷ Vxlan v ∷ hs) o w e =
    let outer : Outer = record { dst = d; src = s; src_ip = a; dst_ip = b; vni = v } in
    let same : outer ≡ o = cc in
    let known : Begins (Ether d s k ∷ Ip a b p f ∷ Vxlan v ∷ hs) outer = record { more = w.1; small = w.0; long = omega arith; count = refl; pushes = λ port frame. refl } in
    subst (Begins (Ether d s k ∷ Ip a b p f ∷ Vxlan v ∷ hs)) same known
begins [] o w e = absurd (cc)
begins hs o w e = absurd w

pub none_pushed : (hs : List Header) (port : ℕ) (out : List ℕ) → AreEncaps hs → None ≡ outer_of hs → out ≡ pushed port hs (drop (50 * encaps hs) out)
none_pushed [] port out w e = refl
none_pushed (Ether d s k ∷ Ip a b p f ∷ Vxlan v ∷ hs) port out w e = absurd (cc)
none_pushed hs port out w e = absurd w

-- one more encapsulation in front of those that were written behind its room
pub more_written : (port : ℕ) (hs : List Header) (o : Outer) (old inner last : List ℕ) → Begins hs o → 50 ≤ length old → inner ≡ pushed port (drop 3 hs) (drop (50 * encaps (drop 3 hs)) (take (length old - 50) (drop 50 old))) → last ≡ encap_pushed port o.dst o.src o.src_ip o.dst_ip o.vni (drop 50 (put_mid 50 (length old - 50) old inner)) → last ≡ pushed port hs (drop (50 * encaps hs) old)
more_written port hs o old inner last b h e f =
    let room : take (length old - 50) (drop 50 old) ≡ drop 50 old = rest_of 50 old in
    let at : drop (50 * encaps (drop 3 hs)) (drop 50 old) ≡ drop (50 * encaps hs) old = drop-drop (50 * encaps (drop 3 hs)) 50 old ∙ ap (λ (n : ℕ). drop n old) (omega (arith, b.count)) in
    let frame : drop (50 * encaps (drop 3 hs)) (take (length old - 50) (drop 50 old)) ≡ drop (50 * encaps hs) old = ap (drop (50 * encaps (drop 3 hs))) room ∙ at in
    let whole : put_mid 50 (length old - 50) old inner ≡ take 50 old ++ inner = put_rest 50 old inner (take 50 old) inner h refl refl in
    let n : length (take 50 old) ≡ 50 = omega (arith, length-take 50 old) in
    let behind : drop 50 (take 50 old ++ inner) ≡ inner = ap (λ (m : ℕ). drop m (take 50 old ++ inner)) (sym n) ∙ drop-append_seam (take 50 old) inner in
    f ∙ ap (encap_pushed port o.dst o.src o.src_ip o.dst_ip o.vni) (ap (drop 50) whole ∙ behind ∙ e ∙ ap (pushed port (drop 3 hs)) frame) ∙ sym (b.pushes port (drop (50 * encaps hs) old))
