-- A frame of which nothing is edited leaves as it came.
use Rattle.std.proofs.Common.{◌≡◌, ◌≤◌, ◌<◌, ◌+◌, ◌-◌, ◌*◌, ◌/◌, ◌%◌, ◌^◌, ◌==◌, ℕ, Bool, true, false, cond, List, [], ◌∷◌, ◌++◌, length, take, drop, Option, Some, Result, Ok, Err, refl, sym, ap, subst, ◌∙◌, arith, length-drop, length-take, append_assoc}
use Rattle.std.proofs.Props.{props}
use Rattle.std.proofs.Math.Logic.{∥∥₁_elim}
use Rattle.std.proofs.Math.Seq.{drop-append_seam}
use Rattle.std.proofs.lemmas.Grind.{common_steps}
use Rattle.std.proofs.lemmas.List.{drop-drop, drop-take, drop_all, take-append-drop, take-append-le}
use Rattle.byteorder.specs.Endian.{big_bytes, big_number}
use Rattle.byteorder.specs.Numbers.{big_from-take}
use Rattle.vsw_base.specs.declared.fault.BadFrame.{BadFrame}
use Rattle.vsw_base.specs.declared.header.Header.{Header}
use Rattle.vsw_base.specs.declared.header.Header.TheVariants.{Vxlan}
use Rattle.vsw_base.specs.declared.packet.Control.{Control}
use Rattle.vsw_base.specs.declared.packet.Sizes.{Sizes}
use Rattle.vsw_base.specs.Ethernet.{EtherFields, ether_of}
use Rattle.vsw_base.specs.Frame as frame
use Rattle.vsw_base.specs.Frame.{End, Level, Opened, Parts, encap_parts, end_of, end6_of, frame_of, level_of, opened_of, plain_parts, ports, size_at, within}
use Rattle.vsw_base.specs.Ipv4.{IpFields, ip_header, ip_of, ip_total}
use Rattle.vsw_base.specs.Ipv6.{Ip6Fields, ip6_of, ip6_total}
use Rattle.vsw_base.specs.Shape.{encaps, inner}
use Rattle.vsw_base.specs.Tcp.{TcpFields, tcp_of}
use Rattle.vsw_base.proofs.Readings.{ether_bound, short_is, udp_dst, udp_src}
use Rattle.vsw_header.specs.EtherChange.{ether_changed}
use Rattle.vsw_header.specs.Ip6.{ip6_changed}
use Rattle.vsw_header.specs.IpChange.{ip_changed}
use Rattle.vsw_header.specs.L4Change.{checksum_changed, endpoint_words, tcp_changed, udp_changed, udp_checksum_changed}
use Rattle.vsw_header.specs.Sum.{AreBytes}
use Rattle.vsw_header.specs.Update.{written}
use Rattle.vsw_header.specs.declared.l4_change.Addresses.{Addresses}
use Rattle.vsw_header.specs.declared.l4_change.Addresses.TheVariants as at
use Rattle.vsw_header.specs.declared.l4_change.Endpoints.{Endpoints}
use Rattle.vsw_header.proofs.Bytes.{bytes_dropped, bytes_taken}
use Rattle.vsw_header.proofs.Changed.{keeps_unchanged}
use Rattle.vsw_header.proofs.Unchanged.{ip_stays}
use Rattle.vsw_frame.specs.Bytes.{encap_kept, levels_changed, outgoing, outgoing_size, source_port}
use Rattle.vsw_frame.specs.Change.{frame_changed, packet_changed}
use Rattle.vsw_frame.specs.Differ.{differ}
use Rattle.vsw_frame.specs.Kept.{udp_at}
use Rattle.vsw_frame.specs.Layout.{IsAround}
use Rattle.vsw_frame.specs.Levels.{levels_in}
use Rattle.vsw_frame.specs.Push.{pushed}
use Rattle.vsw_frame.specs.Read.{IsRead}
use Rattle.vsw_frame.specs.Tiles.{outermost}
use Rattle.vsw_frame.specs.declared.frame.Level as read
use Rattle.vsw_frame.proofs.Alike.{ip_bounds, ip6_bounds, tcp_bounds, udp_bounds}
use Rattle.vsw_frame.proofs.Cases.{EndCases, End6Cases, FrameCases, OpenedCases, end_cases, end6_cases, frame_cases, opened_cases, read_in}
use Rattle.vsw_frame.proofs.DifferingHeaders.{none_differs}
use Rattle.vsw_frame.proofs.Laid.{encap_laid, inner_same, levels_laid, no_vxlan}
use Rattle.vsw_frame.proofs.Rewritten.{changed_before}
use Rattle.vsw_frame.proofs.Tiles.{ether_rest, ip_payload, ip6_payload}

-- ---- headers with the numbers that are read of them

pub ether_stays : (dst src : ℕ) (bytes : List ℕ) → AreBytes bytes → 14 ≤ length bytes → dst ≡ big_number 6 bytes → src ≡ big_number 6 (drop 6 bytes) → ether_changed dst src (take 14 bytes) ≡ take 14 bytes
ether_stays dst src (d0 ∷ d1 ∷ d2 ∷ d3 ∷ d4 ∷ d5 ∷ s0 ∷ s1 ∷ s2 ∷ s3 ∷ s4 ∷ s5 ∷ k0 ∷ k1 ∷ rest) h l e f =
    let a : d0 ≡ dst / 2 ^ 40 % 256 = omega (arith, e, h 0, h 1, h 2, h 3, h 4, h 5) in
    let b : d1 ≡ dst / 2 ^ 32 % 256 = omega (arith, e, h 0, h 1, h 2, h 3, h 4, h 5) in
    let c : d2 ≡ dst / 2 ^ 24 % 256 = omega (arith, e, h 0, h 1, h 2, h 3, h 4, h 5) in
    let d : d3 ≡ dst / 2 ^ 16 % 256 = omega (arith, e, h 0, h 1, h 2, h 3, h 4, h 5) in
    let g : d4 ≡ dst / 256 % 256 = omega (arith, e, h 0, h 1, h 2, h 3, h 4, h 5) in
    let i : d5 ≡ dst % 256 = omega (arith, e, h 0, h 1, h 2, h 3, h 4, h 5) in
    let m : s0 ≡ src / 2 ^ 40 % 256 = omega (arith, f, h 6, h 7, h 8, h 9, h 10, h 11) in
    let n : s1 ≡ src / 2 ^ 32 % 256 = omega (arith, f, h 6, h 7, h 8, h 9, h 10, h 11) in
    let o : s2 ≡ src / 2 ^ 24 % 256 = omega (arith, f, h 6, h 7, h 8, h 9, h 10, h 11) in
    let p : s3 ≡ src / 2 ^ 16 % 256 = omega (arith, f, h 6, h 7, h 8, h 9, h 10, h 11) in
    let q : s4 ≡ src / 256 % 256 = omega (arith, f, h 6, h 7, h 8, h 9, h 10, h 11) in
    let r : s5 ≡ src % 256 = omega (arith, f, h 6, h 7, h 8, h 9, h 10, h 11) in
    let front = d0 ∷ d1 ∷ d2 ∷ d3 ∷ d4 ∷ d5 ∷ s0 ∷ s1 ∷ s2 ∷ s3 ∷ s4 ∷ s5 ∷ k0 ∷ k1 ∷ [] in
    let whole : front ≡ ether_changed dst src front = cc (a, b, c, d, g, i, m, n, o, p, q, r) in
    sym whole
ether_stays dst src bytes h l e f = absurd (omega (arith, l))

-- the bytes of a number of 16 bytes
sixteen : (x : ℕ) (bytes : List ℕ) → AreBytes bytes → 16 ≤ length bytes → x ≡ big_number 16 bytes → big_bytes 16 x ≡ take 16 bytes
sixteen x (b0 ∷ b1 ∷ b2 ∷ b3 ∷ b4 ∷ b5 ∷ b6 ∷ b7 ∷ b8 ∷ b9 ∷ c0 ∷ c1 ∷ c2 ∷ c3 ∷ c4 ∷ c5 ∷ rest) h l e =
    let a0 : b0 ≡ x / 2 ^ 120 % 256 = omega (arith, e, h 0, h 1, h 2, h 3, h 4, h 5, h 6, h 7, h 8, h 9, h 10, h 11, h 12, h 13, h 14, h 15) in
    let a1 : b1 ≡ x / 2 ^ 112 % 256 = omega (arith, e, h 0, h 1, h 2, h 3, h 4, h 5, h 6, h 7, h 8, h 9, h 10, h 11, h 12, h 13, h 14, h 15) in
    let a2 : b2 ≡ x / 2 ^ 104 % 256 = omega (arith, e, h 0, h 1, h 2, h 3, h 4, h 5, h 6, h 7, h 8, h 9, h 10, h 11, h 12, h 13, h 14, h 15) in
    let a3 : b3 ≡ x / 2 ^ 96 % 256 = omega (arith, e, h 0, h 1, h 2, h 3, h 4, h 5, h 6, h 7, h 8, h 9, h 10, h 11, h 12, h 13, h 14, h 15) in
    let a4 : b4 ≡ x / 2 ^ 88 % 256 = omega (arith, e, h 0, h 1, h 2, h 3, h 4, h 5, h 6, h 7, h 8, h 9, h 10, h 11, h 12, h 13, h 14, h 15) in
    let a5 : b5 ≡ x / 2 ^ 80 % 256 = omega (arith, e, h 0, h 1, h 2, h 3, h 4, h 5, h 6, h 7, h 8, h 9, h 10, h 11, h 12, h 13, h 14, h 15) in
    let a6 : b6 ≡ x / 2 ^ 72 % 256 = omega (arith, e, h 0, h 1, h 2, h 3, h 4, h 5, h 6, h 7, h 8, h 9, h 10, h 11, h 12, h 13, h 14, h 15) in
    let a7 : b7 ≡ x / 2 ^ 64 % 256 = omega (arith, e, h 0, h 1, h 2, h 3, h 4, h 5, h 6, h 7, h 8, h 9, h 10, h 11, h 12, h 13, h 14, h 15) in
    let a8 : b8 ≡ x / 2 ^ 56 % 256 = omega (arith, e, h 0, h 1, h 2, h 3, h 4, h 5, h 6, h 7, h 8, h 9, h 10, h 11, h 12, h 13, h 14, h 15) in
    let a9 : b9 ≡ x / 2 ^ 48 % 256 = omega (arith, e, h 0, h 1, h 2, h 3, h 4, h 5, h 6, h 7, h 8, h 9, h 10, h 11, h 12, h 13, h 14, h 15) in
    let d0 : c0 ≡ x / 2 ^ 40 % 256 = omega (arith, e, h 0, h 1, h 2, h 3, h 4, h 5, h 6, h 7, h 8, h 9, h 10, h 11, h 12, h 13, h 14, h 15) in
    let d1 : c1 ≡ x / 2 ^ 32 % 256 = omega (arith, e, h 0, h 1, h 2, h 3, h 4, h 5, h 6, h 7, h 8, h 9, h 10, h 11, h 12, h 13, h 14, h 15) in
    let d2 : c2 ≡ x / 2 ^ 24 % 256 = omega (arith, e, h 0, h 1, h 2, h 3, h 4, h 5, h 6, h 7, h 8, h 9, h 10, h 11, h 12, h 13, h 14, h 15) in
    let d3 : c3 ≡ x / 2 ^ 16 % 256 = omega (arith, e, h 0, h 1, h 2, h 3, h 4, h 5, h 6, h 7, h 8, h 9, h 10, h 11, h 12, h 13, h 14, h 15) in
    let d4 : c4 ≡ x / 256 % 256 = omega (arith, e, h 0, h 1, h 2, h 3, h 4, h 5, h 6, h 7, h 8, h 9, h 10, h 11, h 12, h 13, h 14, h 15) in
    let d5 : c5 ≡ x % 256 = omega (arith, e, h 0, h 1, h 2, h 3, h 4, h 5, h 6, h 7, h 8, h 9, h 10, h 11, h 12, h 13, h 14, h 15) in
    let front = b0 ∷ b1 ∷ b2 ∷ b3 ∷ b4 ∷ b5 ∷ b6 ∷ b7 ∷ b8 ∷ b9 ∷ c0 ∷ c1 ∷ c2 ∷ c3 ∷ c4 ∷ c5 ∷ [] in
    let whole : front ≡ big_bytes 16 x = cc (a0, a1, a2, a3, a4, a5, a6, a7, a8, a9, d0, d1, d2, d3, d4, d5) in
    sym whole
sixteen x bytes h l e = absurd (omega (arith, l))

pub ip6_stays : (src dst : ℕ) (bytes : List ℕ) → AreBytes bytes → 40 ≤ length bytes → src ≡ big_number 16 (drop 8 bytes) → dst ≡ big_number 16 (drop 24 bytes) → ip6_changed src dst bytes ≡ bytes
ip6_stays src dst bytes h l e f =
    let a : big_bytes 16 src ≡ take 16 (drop 8 bytes) = sixteen src (drop 8 bytes) (bytes_dropped 8 bytes h) (omega (arith, l, length-drop 8 bytes)) e in
    let b : big_bytes 16 dst ≡ take 16 (drop 24 bytes) = sixteen dst (drop 24 bytes) (bytes_dropped 24 bytes h) (omega (arith, l, length-drop 24 bytes)) f in
    let c : take 16 (drop 24 bytes) ++ drop 40 bytes ≡ drop 24 bytes = ap (λ (r : List ℕ). take 16 (drop 24 bytes) ++ r) (sym (drop-drop 16 24 bytes)) ∙ take-append-drop 16 (drop 24 bytes) in
    let d : take 16 (drop 8 bytes) ++ drop 24 bytes ≡ drop 8 bytes = ap (λ (r : List ℕ). take 16 (drop 8 bytes) ++ r) (sym (drop-drop 16 8 bytes)) ∙ take-append-drop 16 (drop 8 bytes) in
    ap (λ (x : List ℕ). take 8 bytes ++ (x ++ (big_bytes 16 dst ++ drop 40 bytes))) a
    ∙ ap (λ (x : List ℕ). take 8 bytes ++ (take 16 (drop 8 bytes) ++ (x ++ drop 40 bytes))) b
    ∙ ap (λ (x : List ℕ). take 8 bytes ++ (take 16 (drop 8 bytes) ++ x)) c
    ∙ ap (λ (x : List ℕ). take 8 bytes ++ x) d
    ∙ take-append-drop 8 bytes

pub tcp_stays : (p : Endpoints) (bytes : List ℕ) → AreBytes bytes → 20 ≤ length bytes → p.src_port ≡ big_number 2 bytes → p.dst_port ≡ big_number 2 (drop 2 bytes) → tcp_changed p p bytes ≡ bytes
tcp_stays p (s0 ∷ s1 ∷ d0 ∷ d1 ∷ b4 ∷ b5 ∷ b6 ∷ b7 ∷ b8 ∷ b9 ∷ b10 ∷ b11 ∷ b12 ∷ b13 ∷ b14 ∷ b15 ∷ c0 ∷ c1 ∷ u0 ∷ u1 ∷ rest) h l e f =
    let bytes = s0 ∷ s1 ∷ d0 ∷ d1 ∷ b4 ∷ b5 ∷ b6 ∷ b7 ∷ b8 ∷ b9 ∷ b10 ∷ b11 ∷ b12 ∷ b13 ∷ b14 ∷ b15 ∷ c0 ∷ c1 ∷ u0 ∷ u1 ∷ rest in
    let k = checksum_changed (big_number 2 (drop 16 bytes)) p p in
    let old : k ≡ big_number 2 (c0 ∷ c1 ∷ []) = keeps_unchanged (big_number 2 (drop 16 bytes)) (endpoint_words p) (omega (arith, h 16, h 17)) in
    let a : s0 ≡ p.src_port / 256 % 256 = omega (arith, e, h 0, h 1) in
    let b : s1 ≡ p.src_port % 256 = omega (arith, e, h 0, h 1) in
    let c : d0 ≡ p.dst_port / 256 % 256 = omega (arith, f, h 2, h 3) in
    let d : d1 ≡ p.dst_port % 256 = omega (arith, f, h 2, h 3) in
    let m : c0 ≡ k / 256 % 256 = omega (arith, old, h 16, h 17) in
    let n : c1 ≡ k % 256 = omega (arith, old, h 16, h 17) in
    let whole : bytes ≡ tcp_changed p p bytes = cc (a, b, c, d, m, n) in
    sym whole
tcp_stays p bytes h l e f = absurd (omega (arith, l))

-- no checksum stays none, and any other stays
udp_sum : (old : ℕ) (p : Endpoints) → old < 65536 → udp_checksum_changed old p p ≡ old
udp_sum old p h = by (old == 0) refl
  where
    by : (b : Bool) → (old == 0) ≡ b → udp_checksum_changed old p p ≡ old
    by true e = grind (arith, e)
    by false e =
        let stays : written old ≡ old = rw e refl in
        rw e (ap written (keeps_unchanged old (endpoint_words p) h) ∙ stays)

pub udp_stays : (p : Endpoints) (bytes : List ℕ) → AreBytes bytes → 8 ≤ length bytes → p.src_port ≡ big_number 2 bytes → p.dst_port ≡ big_number 2 (drop 2 bytes) → udp_changed p p bytes ≡ bytes
udp_stays p (s0 ∷ s1 ∷ d0 ∷ d1 ∷ l0 ∷ l1 ∷ c0 ∷ c1 ∷ rest) h l e f =
    let bytes = s0 ∷ s1 ∷ d0 ∷ d1 ∷ l0 ∷ l1 ∷ c0 ∷ c1 ∷ rest in
    let k = udp_checksum_changed (big_number 2 (drop 6 bytes)) p p in
    let old : k ≡ big_number 2 (c0 ∷ c1 ∷ []) = udp_sum (big_number 2 (drop 6 bytes)) p (omega (arith, h 6, h 7)) in
    let a : s0 ≡ p.src_port / 256 % 256 = omega (arith, e, h 0, h 1) in
    let b : s1 ≡ p.src_port % 256 = omega (arith, e, h 0, h 1) in
    let c : d0 ≡ p.dst_port / 256 % 256 = omega (arith, f, h 2, h 3) in
    let d : d1 ≡ p.dst_port % 256 = omega (arith, f, h 2, h 3) in
    let m : c0 ≡ k / 256 % 256 = omega (arith, old, h 6, h 7) in
    let n : c1 ≡ k % 256 = omega (arith, old, h 6, h 7) in
    let whole : bytes ≡ udp_changed p p bytes = cc (a, b, c, d, m, n) in
    sym whole
udp_stays p bytes h l e f = absurd (omega (arith, l))

-- ---- what is read of a header

ether_dst : (bytes : List ℕ) (e : EtherFields) → ether_of bytes ≡ Ok e → e.dst ≡ big_number 6 bytes
ether_dst bytes e h = grind (arith, common_steps)

ether_src : (bytes : List ℕ) (e : EtherFields) → ether_of bytes ≡ Ok e → e.src ≡ big_number 6 (drop 6 bytes)
ether_src bytes e h = grind (arith, common_steps)

ip_src : (bytes : List ℕ) (i : IpFields) → ip_of bytes ≡ Ok i → i.src ≡ big_number 4 (drop 12 bytes)
ip_src bytes i h = grind (arith, common_steps)

ip_dst : (bytes : List ℕ) (i : IpFields) → ip_of bytes ≡ Ok i → i.dst ≡ big_number 4 (drop 16 bytes)
ip_dst bytes i h = grind (arith, common_steps)

ip6_src : (bytes : List ℕ) (i : Ip6Fields) → ip6_of bytes ≡ Ok i → i.src ≡ big_number 16 (drop 8 bytes)
ip6_src bytes i h = grind (arith, common_steps)

ip6_dst : (bytes : List ℕ) (i : Ip6Fields) → ip6_of bytes ≡ Ok i → i.dst ≡ big_number 16 (drop 24 bytes)
ip6_dst bytes i h = grind (arith, common_steps)

abbrev ok_tcp : TcpFields → Result TcpFields BadFrame
ok_tcp t = Ok t

-- a TCP header's ports, once its two tests are passed
passed_ports : (b c : Bool) (e f : BadFrame) (x y : ℕ) (k : Control) (p : List ℕ) (t : TcpFields) → cond b (Err e) (cond c (Err f) (ok_tcp (record { src = x; dst = y; control = k; payload = p }))) ≡ Ok t → (t.src ≡ x) × (t.dst ≡ y)
passed_ports true c e f x y k p t h = absurd (cc)
passed_ports false true e f x y k p t h = absurd (cc)
passed_ports false false e f x y k p t h = (cc, cc)

tcp_ports : (bytes : List ℕ) (t : TcpFields) → tcp_of bytes ≡ Ok t → (t.src ≡ big_number 2 bytes) × (t.dst ≡ big_number 2 (drop 2 bytes))
tcp_ports bytes t h = search passed_ports

-- a number within the first bytes of others
number_in : (k i m : ℕ) (bytes : List ℕ) → i + k ≤ m → big_number k (drop i (take m bytes)) ≡ big_number k (drop i bytes)
number_in k i m bytes h =
    ap (λ (n : ℕ). big_number k (drop i (take n bytes))) (omega (arith, h)) ∙ ap (big_number k) (drop-take i (m - i) bytes) ∙ big_from-take 0 k (m - i) (drop i bytes) (omega (arith, h))

-- the payload of a packet is what stands behind its header, up to its length
front_of : (n m : ℕ) (bytes payload : List ℕ) → payload ≡ drop n (take m bytes) → n ≤ m → payload ≡ take (m - n) (drop n bytes)
front_of n m bytes payload e h = e ∙ ap (λ (k : ℕ). drop n (take k bytes)) (omega (arith, h)) ∙ drop-take n (m - n) bytes

-- ---- an inner frame

-- a packet behind Ethernet
behind_ether : (bytes packet : List ℕ) (e : EtherFields) → AreBytes bytes → ether_of bytes ≡ Ok e → packet ≡ drop 14 bytes → ether_changed e.dst e.src (take 14 bytes) ++ packet ≡ bytes
behind_ether bytes packet e h r p =
    ap (λ (x : List ℕ). x ++ packet) (ether_stays e.dst e.src bytes h (ether_bound bytes e r) (ether_dst bytes e r) (ether_src bytes e r)) ∙ ap (λ (x : List ℕ). take 14 bytes ++ x) p ∙ take-append-drop 14 bytes

-- the ports of a segment with as many bytes at least
record Segment (bytes : List ℕ) (src dst least : ℕ) : Type 0 where
  pub are : AreBytes bytes
  pub long : least ≤ length bytes
  pub src_is : src ≡ big_number 2 bytes
  pub dst_is : dst ≡ big_number 2 (drop 2 bytes)

segment : (n m least src dst : ℕ) (bytes payload : List ℕ) → AreBytes bytes → payload ≡ drop n (take m bytes) → n ≤ m → m ≤ length bytes → 8 ≤ least → least ≤ length payload → src ≡ big_number 2 payload → dst ≡ big_number 2 (drop 2 payload) → Segment (drop n bytes) src dst least
segment n m least src dst bytes payload h p le lm many few s d =
    let front : payload ≡ take (m - n) (drop n bytes) = front_of n m bytes payload p le in
    let size : length payload ≤ m - n = omega (arith, ap length front, length-take (m - n) (drop n bytes)) in
    record {
      are = bytes_dropped n bytes h;
      long = omega (arith, few, size, lm, length-drop n bytes);
      src_is = s ∙ ap (big_number 2) front ∙ number_in 2 0 (m - n) (drop n bytes) (omega (arith, many, few, size));
      dst_is = d ∙ ap (λ (x : List ℕ). big_number 2 (drop 2 x)) front ∙ number_in 2 2 (m - n) (drop n bytes) (omega (arith, many, few, size));
    }

abbrev ends_at : Addresses → ℕ → ℕ → Endpoints
ends_at at src dst = record { at = at; src_port = src; dst_port = dst }

-- IPv4 in front of what stays
ip_front : (bytes seg : List ℕ) (i : IpFields) → AreBytes bytes → ip_of bytes ≡ Ok i → seg ≡ drop (ip_header bytes) bytes → ip_changed i.src i.dst (take (ip_header bytes) bytes) ++ seg ≡ bytes
ip_front bytes seg i h r s =
    let b = ip_bounds bytes i r in
    let n : ℕ = ip_header bytes in
    ap (λ (x : List ℕ). ip_changed i.src i.dst (take n bytes) ++ x) s
    ∙ sym (changed_before i.src i.dst (take n bytes) (drop n bytes) (omega (arith, length-take n bytes, b.0, b.1, b.2)))
    ∙ ap (ip_changed i.src i.dst) (take-append-drop n bytes)
    ∙ ip_stays i.src i.dst bytes h (omega (arith, b.0, b.1, b.2)) (ip_src bytes i r) (ip_dst bytes i r)

-- the first 40 bytes of IPv6 before what follows
ip6_before : (src dst : ℕ) (bytes rest : List ℕ) → length bytes ≡ 40 → ip6_changed src dst bytes ++ rest ≡ ip6_changed src dst (bytes ++ rest)
ip6_before src dst bytes rest l =
    let a : take 8 (bytes ++ rest) ≡ take 8 bytes = take-append-le 8 bytes rest (omega (arith, l)) in
    let b : drop 40 (bytes ++ rest) ≡ rest = ap (λ (n : ℕ). drop n (bytes ++ rest)) (sym l) ∙ drop-append_seam bytes rest in
    let none : drop 40 bytes ≡ [] = drop_all 40 bytes (omega (arith, l)) in
    append_assoc (take 8 bytes) (big_bytes 16 src ++ (big_bytes 16 dst ++ drop 40 bytes)) rest
    ∙ ap (λ (x : List ℕ). take 8 bytes ++ x) (append_assoc (big_bytes 16 src) (big_bytes 16 dst ++ drop 40 bytes) rest)
    ∙ ap (λ (x : List ℕ). take 8 bytes ++ (big_bytes 16 src ++ x)) (append_assoc (big_bytes 16 dst) (drop 40 bytes) rest)
    ∙ ap (λ (x : List ℕ). take 8 bytes ++ (big_bytes 16 src ++ (big_bytes 16 dst ++ (x ++ rest)))) none
    ∙ ap (λ (x : List ℕ). x ++ (big_bytes 16 src ++ (big_bytes 16 dst ++ rest))) (sym a)
    ∙ ap (λ (x : List ℕ). take 8 (bytes ++ rest) ++ (big_bytes 16 src ++ (big_bytes 16 dst ++ x))) (sym b)

ip6_front : (bytes seg : List ℕ) (i : Ip6Fields) → AreBytes bytes → ip6_of bytes ≡ Ok i → seg ≡ drop 40 bytes → ip6_changed i.src i.dst (take 40 bytes) ++ seg ≡ bytes
ip6_front bytes seg i h r s =
    let b = ip6_bounds bytes i r in
    ap (λ (x : List ℕ). ip6_changed i.src i.dst (take 40 bytes) ++ x) s
    ∙ ip6_before i.src i.dst (take 40 bytes) (drop 40 bytes) (omega (arith, length-take 40 bytes, b.0, b.1))
    ∙ ap (ip6_changed i.src i.dst) (take-append-drop 40 bytes)
    ∙ ip6_stays i.src i.dst bytes h (omega (arith, b.0, b.1)) (ip6_src bytes i r) (ip6_dst bytes i r)

-- a packet with its own headers is as it was
abbrev PacketStays : List Header → List ℕ → Type 0
PacketStays hs bytes = packet_changed hs hs bytes ≡ bytes

packet_stays : (bytes : List ℕ) (i : IpFields) (end : End) → AreBytes bytes → ip_of bytes ≡ Ok i → end_of i ≡ Ok end → PacketStays (frame.ip_header i ∷ ports end) bytes
packet_stays bytes i end h r q =
    let b = ip_bounds bytes i r in
    let n : ℕ = ip_header bytes in
    let a : Addresses = at.Four i.src i.dst in
    let Q : End → Type 0 = λ end. PacketStays (frame.ip_header i ∷ ports end) bytes in
    let c : EndCases i Q = record {
      unread = ip_stays i.src i.dst bytes h (omega (arith, b.0, b.1, b.2)) (ip_src bytes i r) (ip_dst bytes i r);
      tcp = λ t s.
          let x = tcp_bounds i.payload t s in
          let y = tcp_ports i.payload t s in
          let g = segment n (ip_total bytes) 20 t.src t.dst bytes i.payload h (ip_payload bytes i r) b.1 b.2 (omega arith) (omega (arith, x.0, x.1)) y.0 y.1 in
          ip_front bytes (tcp_changed (ends_at a t.src t.dst) (ends_at a t.src t.dst) (drop n bytes)) i h r (tcp_stays (ends_at a t.src t.dst) (drop n bytes) g.are g.long g.src_is g.dst_is);
      udp = λ u s.
          let x = udp_bounds i.payload u s in
          let g = segment n (ip_total bytes) 8 u.src u.dst bytes i.payload h (ip_payload bytes i r) b.1 b.2 (omega arith) (omega (arith, x.0, x.1)) (sym (udp_src i.payload u s)) (sym (udp_dst i.payload u s)) in
          ip_front bytes (udp_changed (ends_at a u.src u.dst) (ends_at a u.src u.dst) (drop n bytes)) i h r (udp_stays (ends_at a u.src u.dst) (drop n bytes) g.are g.long g.src_is g.dst_is);
    } in
    end_cases i Q end c q

packet6_stays : (bytes : List ℕ) (i : Ip6Fields) (end : End) → AreBytes bytes → ip6_of bytes ≡ Ok i → end6_of i ≡ Ok end → PacketStays (frame.ip6_header i ∷ ports end) bytes
packet6_stays bytes i end h r q =
    let b = ip6_bounds bytes i r in
    let a : Addresses = at.Six i.src i.dst in
    let Q : End → Type 0 = λ end. PacketStays (frame.ip6_header i ∷ ports end) bytes in
    let c : End6Cases i Q = record {
      unread = ip6_stays i.src i.dst bytes h (omega (arith, b.0, b.1)) (ip6_src bytes i r) (ip6_dst bytes i r);
      tcp = λ t s.
          let x = tcp_bounds i.payload t s in
          let y = tcp_ports i.payload t s in
          let g = segment 40 (ip6_total bytes) 20 t.src t.dst bytes i.payload h (ip6_payload bytes i r) b.0 b.1 (omega arith) (omega (arith, x.0, x.1)) y.0 y.1 in
          ip6_front bytes (tcp_changed (ends_at a t.src t.dst) (ends_at a t.src t.dst) (drop 40 bytes)) i h r (tcp_stays (ends_at a t.src t.dst) (drop 40 bytes) g.are g.long g.src_is g.dst_is);
      udp = λ u s.
          let x = udp_bounds i.payload u s in
          let g = segment 40 (ip6_total bytes) 8 u.src u.dst bytes i.payload h (ip6_payload bytes i r) b.0 b.1 (omega arith) (omega (arith, x.0, x.1)) (sym (udp_src i.payload u s)) (sym (udp_dst i.payload u s)) in
          ip6_front bytes (udp_changed (ends_at a u.src u.dst) (ends_at a u.src u.dst) (drop 40 bytes)) i h r (udp_stays (ends_at a u.src u.dst) (drop 40 bytes) g.are g.long g.src_is g.dst_is);
    } in
    end6_cases i Q end c q

-- an inner frame with its own headers is as it was
abbrev FrameStays : List Header → List ℕ → Type 0
FrameStays hs bytes = frame_changed hs hs bytes ≡ bytes

rest_bytes : (bytes : List ℕ) (e : EtherFields) → AreBytes bytes → ether_of bytes ≡ Ok e → AreBytes e.rest
rest_bytes bytes e h r = subst AreBytes (sym (ether_rest bytes e r)) (bytes_dropped 14 bytes h)

opened_stays : (bytes : List ℕ) (o : Opened) → AreBytes bytes → opened_of bytes ≡ Ok o → FrameStays (o.front ++ ports o.end) bytes
opened_stays bytes o h r =
    let Q : Opened → Type 0 = λ o. FrameStays (o.front ++ ports o.end) bytes in
    let c : OpenedCases bytes Q = record {
      other = λ e s. behind_ether bytes (drop 14 bytes) e h s refl;
      packet = λ e i end s t q.
          let hs : List Header = frame.ip_header i ∷ ports end in
          behind_ether bytes (packet_changed hs hs (drop 14 bytes)) e h s (subst (PacketStays hs) (ether_rest bytes e s) (packet_stays e.rest i end (rest_bytes bytes e h s) t q));
      six = λ e i end s t q.
          let hs : List Header = frame.ip6_header i ∷ ports end in
          behind_ether bytes (packet_changed hs hs (drop 14 bytes)) e h s (subst (PacketStays hs) (ether_rest bytes e s) (packet6_stays e.rest i end (rest_bytes bytes e h s) t q));
    } in
    opened_cases bytes Q o c r

-- ---- encapsulations around it

level_more : (from to : List Header) (l : Level) (ls : List Level) → 1 ≤ length ls → levels_changed from to (l ∷ ls) ≡ encap_kept (differ from to) l (levels_changed from to ls)
level_more from to l [] h = absurd (omega (arith, h))
level_more from to l (m ∷ ls) h = refl

around_stays : (l : Level) (inside : List ℕ) → IsAround l inside → encap_kept false l inside ≡ l.bytes
around_stays l inside a =
    let n : ℕ = udp_at l.bytes in
    let tail : List ℕ = drop (n + 16) l.bytes in
    let ends : drop (length inside) tail ≡ l.slack ++ l.trailer = drop-drop (length inside) (n + 16) l.bytes ∙ a.behind in
    let within : inside ++ (l.slack ++ l.trailer) ≡ tail = ap (λ (x : List ℕ). x ++ (l.slack ++ l.trailer)) (sym a.inside) ∙ ap (λ (x : List ℕ). take (length inside) tail ++ x) (sym ends) ∙ take-append-drop (length inside) tail in
    let behind : tail ≡ drop 16 (drop n l.bytes) = sym (drop-drop 16 n l.bytes ∙ ap (λ (k : ℕ). drop k l.bytes) (omega arith)) in
    ap (λ (x : List ℕ). take n l.bytes ++ (take 16 (drop n l.bytes) ++ x)) (within ∙ behind)
    ∙ ap (λ (x : List ℕ). take n l.bytes ++ x) (take-append-drop 16 (drop n l.bytes))
    ∙ take-append-drop n l.bytes

-- the levels of a frame with its own inner headers are its bytes
record Stays (bytes : List ℕ) (p : Parts) : Type 0 where
  pub some : 1 ≤ length p.levels
  pub stays : AreBytes bytes → levels_changed (inner p.stack) (inner p.stack) p.levels ≡ bytes

plain_stays : (bytes : List ℕ) (o : Opened) → opened_of bytes ≡ Ok o → Stays bytes (plain_parts bytes o)
plain_stays bytes o r =
    let hs : List Header = o.front ++ ports o.end in
    let all : inner hs ≡ hs = ap (λ (n : ℕ). drop (3 * n) hs) (no_vxlan o bytes r) in
    record { some = omega arith; stays = λ h. subst (λ (gs : List Header). FrameStays gs bytes) (sym all) (opened_stays bytes o h r) }

encap_stays : (bytes : List ℕ) (o : Opened) (v : ℕ) (inside : List ℕ) (p : Parts) → opened_of bytes ≡ Ok o → within o.end ≡ Some (v, inside) → Stays inside p → Stays bytes (encap_parts bytes o v p)
encap_stays bytes o v inside p r w s =
    let l : Level = level_of bytes o in
    let hs : List Header = inner (o.front ++ Vxlan v ∷ p.stack) in
    let same : hs ≡ inner p.stack = inner_same bytes inside v o p.stack r w in
    let a : IsAround l inside = encap_laid bytes o v inside r w in
    record {
      some = omega arith;
      stays = λ h.
          let are : AreBytes inside = subst AreBytes a.inside (bytes_taken (length inside) (drop (udp_at bytes + 16) bytes) (bytes_dropped (udp_at bytes + 16) bytes h)) in
          let rest : levels_changed hs hs p.levels ≡ inside = ap (λ (gs : List Header). levels_changed gs gs p.levels) same ∙ s.stays are in
          level_more hs hs l p.levels s.some ∙ ap (λ (b : Bool). encap_kept b l (levels_changed hs hs p.levels)) (none_differs hs) ∙ ap (encap_kept false l) rest ∙ around_stays l inside a;
    }

frame_stays : (bytes : List ℕ) (p : Parts) → frame_of bytes ≡ Ok p → Stays bytes p
frame_stays bytes p h =
    let c : FrameCases Stays = record { plain = plain_stays; encap = λ bytes o v inside q s w i. encap_stays bytes o v inside q s w i } in
    frame_cases Stays 2 bytes p c (read_in bytes p h).1

-- a frame leaves as it came where nothing of it is edited, and is no longer than it was
pub record LeavesOwn (bytes : List ℕ) (p : Parts) : Type 0 where
  pub own : outgoing p p.stack (encaps p.stack) ≡ bytes
  pub size : outgoing_size p p.stack (encaps p.stack) ≡ length bytes
  pub short : length bytes ≤ 65600

size_first : (ls : List Level) (n : ℕ) → n ≡ 0 → size_at n ls + 50 * n ≡ length (outermost ls)
size_first [] n e = ap (λ (k : ℕ). size_at k [] + 50 * k) e
size_first (l ∷ ls) n e = ap (λ (k : ℕ). size_at k (l ∷ ls) + 50 * k) e ∙ omega arith

pub leaves_own : (bytes : List ℕ) (p : Parts) → AreBytes bytes → frame_of bytes ≡ Ok p → LeavesOwn bytes p
leaves_own bytes p are h =
    let none : encaps p.stack - encaps p.stack ≡ 0 = omega arith in
    let from : List Header = inner p.stack in
    let whole = (levels_laid bytes p h).whole in
    record {
      own = ap (λ (n : ℕ). pushed (source_port p.stack) (take (3 * n) p.stack) (levels_changed from from (drop n p.levels))) none ∙ (frame_stays bytes p h).stays are;
      size = size_first p.levels (encaps p.stack - encaps p.stack) none ∙ ap length whole;
      short = short_is (length bytes) (read_in bytes p h).0;
    }

own_prop : (bytes : List ℕ) (p : Parts) → IsProp (LeavesOwn bytes p)
own_prop bytes p = hlevel props

-- what is known of a frame that was read
pub known_own : (stack : List Header) (control : Control) (sizes : Sizes) (first : read.Level) (second third : Option read.Level) (payload : List ℕ) → AreBytes first.bytes.now → ∥ IsRead stack control sizes first second third payload ∥₁
    → LeavesOwn first.bytes.now (record { stack = stack; control = control; levels = levels_in first second third; payload = payload })
known_own stack control sizes first second third payload are t =
    let p : Parts = record { stack = stack; control = control; levels = levels_in first second third; payload = payload } in
    ∥∥₁_elim t (own_prop first.bytes.now p) (λ r. leaves_own first.bytes.now p are r.parts)
