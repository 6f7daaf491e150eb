-- A kept encapsulation is read around another inner frame.
use Rattle.std.proofs.Common.{◌≡◌, ℕ, zero, suc, ◌+◌, ◌-◌, ◌≤◌, ◌==◌, List, [], ◌∷◌, ◌++◌, Bool, true, false, cond, take, drop, Option, Some, None, option_map, Ok, refl, sym, ◌∙◌, ap, subst, arith, length, length-drop, length-take, length-append, append_assoc}
use Rattle.std.proofs.lemmas.List.{drop-drop, drop-take, take-take}
use Rattle.std.proofs.Math.Seq.{drop-append_seam, take-append_seam}
use Rattle.vsw_base.specs.Ethernet.{EtherFields}
use Rattle.vsw_base.specs.Ipv4.{IpFields, ip_header, ip_total}
use Rattle.vsw_base.specs.Udp.{UdpFields, udp_length, udp_of}
use Rattle.vsw_base.specs.Vxlan.{vni_of, vxlan_port}
use Rattle.vsw_base.specs.Frame as frame
use Rattle.vsw_base.specs.Frame.{Level, Opened, End, level_of, opened_of, slack_in, within}
use Rattle.vsw_frame.specs.Bytes.{encap_kept}
use Rattle.vsw_frame.specs.Kept.{udp_at, udp_kept}
use Rattle.vsw_frame.proofs.Alike.{ether_like, ip_before, ip_bounds, ip_like, udp_bounds, vni_like}
use Rattle.vsw_frame.proofs.Tiles.{ether_rest, ip_payload, ip_trailer, udp_payload, udp_slack}
use Rattle.vsw_frame.proofs.Inverted.{IsEncap, encap_by, over_ip}
use Rattle.vsw_frame.proofs.KeptRead.{kept_fields, udp_kept_read}
use Rattle.vsw_frame.proofs.Openings.{end_udp, opened_over}
use Rattle.vsw_frame.proofs.Rewritten.{ether_length}
use Rattle.vsw_base.proofs.Readings.{vni_long}

pub record EncapNew (bytes : List ℕ) (o : Opened) (v : ℕ) (new other : List ℕ) (q : Opened) : Type 0 where
  pub opened : opened_of other ≡ Ok q
  pub front : q.front ≡ o.front
  pub inside : within q.end ≡ Some (v, new)
  pub trailer : q.trailer ≡ o.trailer
  pub slack : slack_in q.end ≡ slack_in o.end
  pub there : length other ≡ length bytes

abbrev vxlan_at : Option ℕ → List ℕ → Option (ℕ × List ℕ)
vxlan_at r p = option_map (λ vni. (vni, drop 8 p)) r

-- a VXLAN header stays before another frame
vni_kept : (v : ℕ) (payload new : List ℕ) → vni_of payload ≡ Some v → 8 + length new ≡ length payload → vni_of (take 8 payload ++ new) ≡ Some v
vni_kept v payload new h l =
    let eight : length (take 8 payload) ≡ 8 = omega (arith, length-take 8 payload, l) in
    vni_like payload (take 8 payload ++ new) v (omega (arith, length-append (take 8 payload) new, eight, l))
    (ap (λ (k : ℕ). take k (take 8 payload ++ new)) (sym eight) ∙ take-append_seam (take 8 payload) new) h

within_kept : (u : UdpFields) (v : ℕ) (new : List ℕ) → (u.dst == vxlan_port) ≡ true → vni_of u.payload ≡ Some v → 8 + length new ≡ length u.payload → within (frame.OverUdp (kept_fields u new)) ≡ Some (v, new)
within_kept u v new p h l =
    let q = take 8 u.payload ++ new in
    let eight : 8 ≡ length (take 8 u.payload) = omega (arith, length-take 8 u.payload, l) in
    let behind : drop 8 q ≡ new = ap (λ (k : ℕ). drop k q) eight ∙ drop-append_seam (take 8 u.payload) new in
    ap (λ (b : Bool). cond b (vxlan_at (vni_of q) q) None) p ∙ ap (λ (r : Option ℕ). vxlan_at r q) (vni_kept v u.payload new h l) ∙ ap (λ (x : List ℕ). Some (v, x)) behind

-- what stands before and behind n bytes
taken_whole : (n t : ℕ) (front mid last : List ℕ) → length front ≡ n → n + length mid ≡ t → drop n (take t (front ++ (mid ++ last))) ≡ mid
taken_whole n t front mid last e f =
    let bytes = front ++ (mid ++ last) in
    ap (λ (k : ℕ). drop n (take k bytes)) (sym f) ∙ drop-take n (length mid) bytes ∙ ap (λ (k : ℕ). take (length mid) (drop k bytes)) (sym e) ∙ ap (take (length mid)) (drop-append_seam front (mid ++ last)) ∙ take-append_seam mid last

dropped_whole : (n t : ℕ) (front mid last : List ℕ) → length front ≡ n → n + length mid ≡ t → drop t (front ++ (mid ++ last)) ≡ last
dropped_whole n t front mid last e f =
    let bytes = front ++ (mid ++ last) in
    ap (λ (k : ℕ). drop k bytes) (omega (arith, f)) ∙ sym (drop-drop (length mid) n bytes) ∙ ap (λ (k : ℕ). drop (length mid) (drop k bytes)) (sym e) ∙ ap (drop (length mid)) (drop-append_seam front (mid ++ last)) ∙ drop-append_seam mid last

kept_length : (c : Bool) (bytes : List ℕ) → 16 ≤ length bytes → length (udp_kept c (take 16 bytes)) ≡ 16
kept_length false bytes l = omega (arith, length-take 16 bytes, l)
kept_length true (x0 ∷ x1 ∷ x2 ∷ x3 ∷ x4 ∷ x5 ∷ k0 ∷ k1 ∷ v0 ∷ v1 ∷ v2 ∷ v3 ∷ v4 ∷ v5 ∷ v6 ∷ v7 ∷ rest) l = omega arith
kept_length true bytes l = absurd (omega (arith, l))

drop-append-le : (n : ℕ) (xs ys : List ℕ) → n ≤ length xs → drop n (xs ++ ys) ≡ drop n xs ++ ys
drop-append-le zero xs ys h = refl
drop-append-le (suc n) [] ys h = absurd (omega (arith, h))
drop-append-le (suc n) (x ∷ xs) ys h = drop-append-le n xs ys (omega (arith, h))

abbrev pub KeptAs : Bool → List ℕ → Opened → ℕ → List ℕ → Type 0
KeptAs c bytes o v new = (q : Opened) × EncapNew bytes o v new (encap_kept c (level_of bytes o) new) q

kept_at : (c : Bool) (bytes : List ℕ) (o : Opened) (v : ℕ) (inner new : List ℕ) (e : EtherFields) (i : IpFields) (u : UdpFields) → IsEncap bytes o v inner e i u → length new ≡ length inner → KeptAs c bytes (over_ip e i (frame.OverUdp u)) v new
kept_at c bytes o v inner new e i u h l =
    let rest : e.rest ≡ drop 14 bytes = ether_rest bytes e h.ether in
    let b = ip_bounds e.rest i h.ip in
    let ub = udp_bounds i.payload u h.udp in
    let n = ip_header e.rest in
    let t = ip_total e.rest in
    let at : udp_at bytes ≡ 14 + n = ap (λ (x : List ℕ). 14 + ip_header x) (sym rest) in
    let long : length e.rest ≡ length bytes - 14 = ap length rest ∙ length-drop 14 bytes in
    let first : 14 ≤ length bytes = ether_length bytes e h.ether in
    let room : 8 + length new ≡ length u.payload = omega (arith, l, ap length h.inside, length-drop 8 u.payload, vni_long v u.payload h.vni) in
    let sizes : 8 + length u.payload + length u.slack ≡ length i.payload = omega (arith, ub.0, ub.1, ap length (udp_payload i.payload u h.udp), length-drop 8 (take (udp_length i.payload) i.payload), length-take (udp_length i.payload) i.payload, ap length (udp_slack i.payload u h.udp), length-drop (udp_length i.payload) i.payload) in
    let total : n + length i.payload ≡ t = omega (arith, ap length (ip_payload e.rest i h.ip), length-drop n (take t e.rest), length-take t e.rest, b.1, b.2) in
    let ends : length i.trailer ≡ length e.rest - t = ap length (ip_trailer e.rest i h.ip) ∙ length-drop t e.rest in
    let behind : drop (udp_at bytes) bytes ≡ drop n e.rest = ap (λ (k : ℕ). drop k bytes) at ∙ sym (ap (drop n) rest ∙ drop-drop n 14 bytes ∙ ap (λ (k : ℕ). drop k bytes) refl) in
    let sixteen : take 16 (drop (udp_at bytes) bytes) ≡ take 16 i.payload =
    ap (take 16) behind ∙ sym (ap (take 16) (ip_payload e.rest i h.ip) ∙ ap (λ (k : ℕ). take 16 (drop n (take k e.rest))) (sym total) ∙ ap (take 16) (drop-take n (length i.payload) e.rest) ∙ take-take 16 (length i.payload) (drop n e.rest) (omega (arith, sizes, room))) in
    let mid = udp_kept c (take 16 i.payload) ++ (new ++ u.slack) in
    let front = take (udp_at bytes) bytes in
    let other = encap_kept c (level_of bytes (over_ip e i (frame.OverUdp u))) new in
    let whole : other ≡ front ++ (mid ++ i.trailer) =
    ap (λ (x : List ℕ). front ++ (udp_kept c x ++ (new ++ (u.slack ++ i.trailer)))) sixteen
    ∙ ap (λ (x : List ℕ). front ++ (udp_kept c (take 16 i.payload) ++ x)) (sym (append_assoc new u.slack i.trailer))
    ∙ ap (λ (x : List ℕ). front ++ x) (sym (append_assoc (udp_kept c (take 16 i.payload)) (new ++ u.slack) i.trailer)) in
    let k16 : length (udp_kept c (take 16 i.payload)) ≡ 16 = kept_length c i.payload (omega (arith, sizes, room)) in
    let mids : length mid ≡ length i.payload = omega (arith, length-append (udp_kept c (take 16 i.payload)) (new ++ u.slack), length-append new u.slack, k16, sizes, room) in
    let fronts : length front ≡ 14 + n = omega (arith, length-take (udp_at bytes) bytes, at, first, long, b.1, b.2) in
    let size : length other ≡ length bytes = omega (arith, ap length whole, length-append front (mid ++ i.trailer), length-append mid i.trailer, mids, fronts, total, ends, long, first, b.2) in
    let same : take (14 + n) other ≡ take (14 + n) bytes = ap (λ (k : ℕ). take k other) (sym fronts) ∙ ap (take (length front)) whole ∙ take-append_seam front (mid ++ i.trailer) ∙ ap (λ (k : ℕ). take k bytes) at in
    let same14 : take 14 other ≡ take 14 bytes = sym (take-take 14 (14 + n) other (omega arith)) ∙ ap (take 14) same ∙ take-take 14 (14 + n) bytes (omega arith) in
    let next = drop 14 other in
    let same20 : take 20 next ≡ take 20 e.rest =
    sym (take-take 20 n next b.0) ∙ ap (take 20) (sym (drop-take 14 n other) ∙ ap (drop 14) same ∙ drop-take 14 n bytes) ∙ take-take 20 n (drop 14 bytes) b.0 ∙ ap (take 20) (sym rest) in
    let shape : next ≡ drop 14 front ++ (mid ++ i.trailer) = ap (drop 14) whole ∙ drop-append-le 14 front (mid ++ i.trailer) (omega (arith, fronts)) in
    let f14 : length (drop 14 front) ≡ n = omega (arith, length-drop 14 front, fronts) in
    let j = ip_before e.rest next i in
    let payload : j.payload ≡ mid = ap (λ (x : List ℕ). drop n (take t x)) shape ∙ taken_whole n t (drop 14 front) mid i.trailer f14 (omega (arith, mids, total)) in
    let trailer : j.trailer ≡ i.trailer = ap (drop t) shape ∙ dropped_whole n t (drop 14 front) mid i.trailer f14 (omega (arith, mids, total)) in
    let d : EtherFields = record { dst = e.dst; src = e.src; kind = e.kind; rest = next } in
    let ether = ether_like bytes other e size same14 h.ether in
    let ip = ip_like e.rest next i (omega (arith, length-drop 14 other, size, long)) same20 h.ip in
    let udp = ap udp_of payload ∙ udp_kept_read c i.payload new u h.udp room in
    let w = kept_fields u new in (
      over_ip d j (frame.OverUdp w),
      record {
        opened = opened_over other d j (frame.OverUdp w) ether h.kind ip (end_udp j w h.whole h.proto udp);
        front = refl;
        inside = within_kept u v new h.port h.vni room;
        trailer = trailer;
        slack = refl;
        there = size;
      },
    )

pub encap_kept_read : (c : Bool) (bytes : List ℕ) (o : Opened) (v : ℕ) (inner new : List ℕ) → opened_of bytes ≡ Ok o → within o.end ≡ Some (v, inner) → length new ≡ length inner → KeptAs c bytes o v new
encap_kept_read c bytes o v inner new h w l =
    let b = encap_by bytes o v inner h w in
    let P : Opened → Type 0 = λ o. KeptAs c bytes o v new in
    subst P (sym b.3.is) (kept_at c bytes o v inner new b.0 b.1 b.2 b.3 l)
