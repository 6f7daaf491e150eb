-- Other bytes in slacks and trailers are not read.
use Rattle.std.proofs.Common.{◌≡◌, ℕ, zero, suc, ◌+◌, ◌-◌, ◌≤◌, ◌==◌, nat_lt, length, List, [], ◌∷◌, ◌++◌, Bool, true, false, cond, take, drop, Option, Some, None, Result, Ok, Err, refl, sym, ◌∙◌, ap, subst, arith, length-drop, length-take, length-append}
use Rattle.std.proofs.lemmas.List.{take-take, drop-take, drop-drop}
use Rattle.std.proofs.Math.Seq.{take-length, take-append_seam, drop-append_seam}
use Rattle.vsw_base.specs.declared.header.Header.{Header}
use Rattle.vsw_base.specs.declared.header.Header.TheVariants.{Vxlan}
use Rattle.vsw_base.specs.declared.fault.BadFrame.{BadFrame}
use Rattle.vsw_base.specs.declared.fault.BadFrame.TheVariants.{TooLong}
use Rattle.std.proofs.lemmas.Bool.{cond-false}
use Rattle.vsw_base.specs.Ethernet.{EtherFields, ether_of}
use Rattle.vsw_base.specs.Ipv4.{IpFields, ip_of, ip_total, ip_header}
use Rattle.vsw_base.specs.Ipv6.{Ip6Fields, ip6_of, ip6_total}
use Rattle.vsw_base.specs.Tcp.{TcpFields, tcp_of, tcp_header}
use Rattle.vsw_base.specs.Udp.{UdpFields, udp_of, udp_length}
use Rattle.vsw_base.specs.Shape.{ipv4_kind, ipv6_kind}
use Rattle.vsw_base.specs.Frame as frame
use Rattle.vsw_base.specs.Frame.{Level, Parts, Opened, End, within, frame_of, end_of, end6_of, opened_ip, opened_ip6, opened_of, ports, control_in, frame_in, look_in, level_of, plain_parts, encap_parts, payload_in, slack_in, ◌>>=◌}
use Rattle.vsw_frame.proofs.Alike.{vni_like, ether_like, ip_like, ip_before, ip_bounds, ip6_like, ip6_before, ip6_bounds, tcp_like, tcp_before, tcp_bounds, udp_like, udp_before, udp_bounds}
use Rattle.vsw_frame.proofs.Tiles.{ether_rest, ip_payload, ip6_payload, ip_trailer, ip6_trailer, tcp_payload, udp_payload, udp_slack, frame_tiles}
use Rattle.vsw_frame.proofs.Within.{looked, looked_in}
use Rattle.vsw_frame.specs.Ends.{SameHeaders, OtherEnds, SaysAs, IsReadAs, EndsAreUnread, lengths}
use Rattle.vsw_frame.specs.Tiles.{Tiles, TilesAt, outermost}
use Rattle.vsw_base.specs.Vxlan.{vni_of, vxlan_port}
use Rattle.vsw_base.proofs.Readings.{ether_bound}
use Rattle.vsw_frame.proofs.Cases.{read_in}
use Rattle.vsw_frame.proofs.Payloads.{udp_within, vxlan_at, within_long}

take_less : (m n : ℕ) (xs ys : List ℕ) → m ≤ n → take n ys ≡ take n xs → take m ys ≡ take m xs
take_less m n xs ys h e = sym (take-take m n ys h) ∙ ap (take m) e ∙ take-take m n xs h

take_drop : (a b : ℕ) (xs ys : List ℕ) → take (a + b) ys ≡ take (a + b) xs → take b (drop a ys) ≡ take b (drop a xs)
take_drop a b xs ys e = sym (drop-take a b ys) ∙ ap (drop a) e ∙ drop-take a b xs

take_inner : (m n t : ℕ) (ys : List ℕ) → m + n ≤ t → take n (drop m (take t ys)) ≡ take n (drop m ys)
take_inner m n t ys h = sym (drop-take m n (take t ys)) ∙ ap (drop m) (take-take (m + n) t ys h) ∙ drop-take m n ys

take_whole : (n : ℕ) (ys : List ℕ) → n ≡ length ys → ys ≡ take n ys
take_whole n ys h = sym (ap (λ (k : ℕ). take k ys) h ∙ take-length ys)

-- the same end of a frame, with another payload and slack
abbrev pub with_payload : End → List ℕ → List ℕ → End
with_payload (frame.Rest p) q s = frame.Rest q
with_payload (frame.OverTcp t) q s = frame.OverTcp (record { src = t.src; dst = t.dst; control = t.control; payload = q })
with_payload (frame.OverUdp u) q s = frame.OverUdp (record { src = u.src; dst = u.dst; payload = q; slack = s })
with_payload (frame.OverUdp6 u) q s = frame.OverUdp6 (record { src = u.src; dst = u.dst; payload = q; slack = s })

-- other bytes that begin with the same headers end alike
abbrev EndCut : List ℕ → (List ℕ → Result End BadFrame) → End → Type 0
EndCut bytes f end =
    (x : ℕ) × (x + (length (payload_in end) + length (slack_in end)) ≡ length bytes)
    × ((q : List ℕ) → length q ≡ length bytes → take x q ≡ take x bytes → (e : End) × (f q ≡ Ok e) × (e ≡ with_payload end (payload_in e) (slack_in e)) × (payload_in e ≡ take (length (payload_in end)) (drop x q)))

abbrev ok_opened : Opened → Result Opened BadFrame
ok_opened o = Ok o

abbrev ok_parts : Parts → Result Parts BadFrame
ok_parts p = Ok p

abbrev ok_end : End → Result End BadFrame
ok_end end = Ok end

abbrev over_tcp : List ℕ → Result End BadFrame
over_tcp q = tcp_of q >>= (λ t. Ok (frame.OverTcp t))

abbrev over_udp : List ℕ → Result End BadFrame
over_udp q = udp_of q >>= (λ u. Ok (frame.OverUdp u))

abbrev over_udp6 : List ℕ → Result End BadFrame
over_udp6 q = udp_of q >>= (λ u. Ok (frame.OverUdp6 u))

abbrev unread : List ℕ → Result End BadFrame
unread q = Ok (frame.Rest q)

rest_cut : (bytes : List ℕ) (end : End) → unread bytes ≡ Ok end → EndCut bytes unread end
rest_cut bytes end h =
    let t : frame.Rest bytes ≡ end = cc in
    let c : EndCut bytes unread (frame.Rest bytes) = (0, omega arith, λ q l e. (frame.Rest q, refl, refl, take_whole (length bytes) q (sym l))) in
    subst (EndCut bytes unread) t c

tcp_cut : (bytes : List ℕ) (r : Result TcpFields BadFrame) (end : End) → tcp_of bytes ≡ r → r >>= (λ t. Ok (frame.OverTcp t)) ≡ Ok end → EndCut bytes over_tcp end
tcp_cut bytes (Err f) end s h = absurd (cc)
tcp_cut bytes (Ok t) end s h =
    let same : frame.OverTcp t ≡ end = cc in
    let x = tcp_header bytes in
    let b = tcp_bounds bytes t s in
    let p : length t.payload ≡ length bytes - x = ap length (tcp_payload bytes t s) ∙ length-drop x bytes in
    let c : EndCut bytes over_tcp (frame.OverTcp t) = (
      x,
      omega (arith, b.1, p),
      λ q l e.
          (frame.OverTcp (tcp_before bytes q t), ap (λ (r : Result TcpFields BadFrame). r >>= (λ t. Ok (frame.OverTcp t))) (tcp_like bytes q t l (take_less 20 x bytes q b.0 e) s), refl, take_whole (length t.payload) (drop x q) (omega (arith, p, l, length-drop x q))),
    ) in
    subst (EndCut bytes over_tcp) same c

udp_cut : (bytes : List ℕ) (r : Result UdpFields BadFrame) (end : End) → udp_of bytes ≡ r → r >>= (λ u. Ok (frame.OverUdp u)) ≡ Ok end → EndCut bytes over_udp end
udp_cut bytes (Err f) end s h = absurd (cc)
udp_cut bytes (Ok u) end s h =
    let same : frame.OverUdp u ≡ end = cc in
    let y = udp_length bytes in
    let b = udp_bounds bytes u s in
    let p : length u.payload ≡ y - 8 = ap length (udp_payload bytes u s) ∙ length-drop 8 (take y bytes) ∙ omega (arith, length-take y bytes, b.1) in
    let k : length u.slack ≡ length bytes - y = ap length (udp_slack bytes u s) ∙ length-drop y bytes in
    let n : 8 + length u.payload ≡ y = omega (arith, p, b.0) in
    let c : EndCut bytes over_udp (frame.OverUdp u) = (
      8,
      omega (arith, b.0, b.1, p, k),
      λ q l e.
          (frame.OverUdp (udp_before bytes q u), ap (λ (r : Result UdpFields BadFrame). r >>= (λ u. Ok (frame.OverUdp u))) (udp_like bytes q u l e s), refl, ap (λ (m : ℕ). drop 8 (take m q)) (sym n) ∙ drop-take 8 (length u.payload) q),
    ) in
    subst (EndCut bytes over_udp) same c

udp6_cut : (bytes : List ℕ) (r : Result UdpFields BadFrame) (end : End) → udp_of bytes ≡ r → r >>= (λ u. Ok (frame.OverUdp6 u)) ≡ Ok end → EndCut bytes over_udp6 end
udp6_cut bytes (Err f) end s h = absurd (cc)
udp6_cut bytes (Ok u) end s h =
    let same : frame.OverUdp6 u ≡ end = cc in
    let y = udp_length bytes in
    let b = udp_bounds bytes u s in
    let p : length u.payload ≡ y - 8 = ap length (udp_payload bytes u s) ∙ length-drop 8 (take y bytes) ∙ omega (arith, length-take y bytes, b.1) in
    let k : length u.slack ≡ length bytes - y = ap length (udp_slack bytes u s) ∙ length-drop y bytes in
    let n : 8 + length u.payload ≡ y = omega (arith, p, b.0) in
    let c : EndCut bytes over_udp6 (frame.OverUdp6 u) = (
      8,
      omega (arith, b.0, b.1, p, k),
      λ q l e.
          (frame.OverUdp6 (udp_before bytes q u), ap (λ (r : Result UdpFields BadFrame). r >>= (λ u. Ok (frame.OverUdp6 u))) (udp_like bytes q u l e s), refl, ap (λ (m : ℕ). drop 8 (take m q)) (sym n) ∙ drop-take 8 (length u.payload) q),
    ) in
    subst (EndCut bytes over_udp6) same c

cut_if : (b : Bool) (f g : List ℕ → Result End BadFrame) (bytes : List ℕ) (end : End) → (f bytes ≡ Ok end → EndCut bytes f end) → (g bytes ≡ Ok end → EndCut bytes g end) → cond b (f bytes) (g bytes) ≡ Ok end → EndCut bytes (λ q. cond b (f q) (g q)) end
cut_if true f g bytes end p q h = p h
cut_if false f g bytes end p q h = q h

abbrev end_by : Bool → Bool → Bool → List ℕ → Result End BadFrame
end_by part tcp udp q = cond part (unread q) (cond tcp (over_tcp q) (cond udp (over_udp q) (unread q)))

end_cut : (i : IpFields) (end : End) → end_of i ≡ Ok end → EndCut i.payload (end_by i.part (i.proto == 6) (i.proto == 17)) end
end_cut i end =
    let bytes = i.payload in
    let udp : cond (i.proto == 17) (over_udp bytes) (unread bytes) ≡ Ok end → EndCut bytes (λ q. cond (i.proto == 17) (over_udp q) (unread q)) end =
    cut_if (i.proto == 17) over_udp unread bytes end (udp_cut bytes (udp_of bytes) end refl) (rest_cut bytes end) in
    let tcp : cond (i.proto == 6) (over_tcp bytes) (cond (i.proto == 17) (over_udp bytes) (unread bytes)) ≡ Ok end → EndCut bytes (λ q. cond (i.proto == 6) (over_tcp q) (cond (i.proto == 17) (over_udp q) (unread q))) end =
    cut_if (i.proto == 6) over_tcp (λ q. cond (i.proto == 17) (over_udp q) (unread q)) bytes end (tcp_cut bytes (tcp_of bytes) end refl) udp in
    cut_if i.part unread (λ q. cond (i.proto == 6) (over_tcp q) (cond (i.proto == 17) (over_udp q) (unread q))) bytes end (rest_cut bytes end) tcp

abbrev end6_by : Bool → Bool → List ℕ → Result End BadFrame
end6_by tcp udp q = cond tcp (over_tcp q) (cond udp (over_udp6 q) (unread q))

end6_cut : (i : Ip6Fields) (end : End) → end6_of i ≡ Ok end → EndCut i.payload (end6_by (i.proto == 6) (i.proto == 17)) end
end6_cut i end =
    let bytes = i.payload in
    let udp : cond (i.proto == 17) (over_udp6 bytes) (unread bytes) ≡ Ok end → EndCut bytes (λ q. cond (i.proto == 17) (over_udp6 q) (unread q)) end =
    cut_if (i.proto == 17) over_udp6 unread bytes end (udp6_cut bytes (udp_of bytes) end refl) (rest_cut bytes end) in
    cut_if (i.proto == 6) over_tcp (λ q. cond (i.proto == 17) (over_udp6 q) (unread q)) bytes end (tcp_cut bytes (tcp_of bytes) end refl) udp

-- other bytes that begin with the same headers are opened alike
abbrev OpenedCut : List ℕ → Opened → Type 0
OpenedCut bytes o =
    (f : ℕ) × (f + (length (payload_in o.end) + (length (slack_in o.end) + length o.trailer)) ≡ length bytes)
    × ((other : List ℕ) → length other ≡ length bytes → take f other ≡ take f bytes → (p : Opened) × (opened_of other ≡ Ok p) × (p.front ≡ o.front) × (p.end ≡ with_payload o.end (payload_in p.end) (slack_in p.end)) × (payload_in p.end ≡ take (length (payload_in o.end)) (drop f other)))

abbrev not_ip : EtherFields → Opened
not_ip e = record { front = frame.ether_header e ∷ []; trailer = []; end = frame.Rest e.rest }

abbrev over_ip : EtherFields → IpFields → End → Opened
over_ip e i end = record { front = frame.ether_header e ∷ frame.ip_header i ∷ []; trailer = i.trailer; end = end }

abbrev over_ip6 : EtherFields → Ip6Fields → End → Opened
over_ip6 e i end = record { front = frame.ether_header e ∷ frame.ip6_header i ∷ []; trailer = i.trailer; end = end }

abbrev after : Bool → Bool → EtherFields → Result Opened BadFrame
after b c e = cond b (ip_of e.rest >>= opened_ip e) (cond c (ip6_of e.rest >>= opened_ip6 e) (Ok (not_ip e)))

abbrev before : List ℕ → EtherFields → EtherFields
before other e = record { dst = e.dst; src = e.src; kind = e.kind; rest = drop 14 other }

opened_after : (bytes other : List ℕ) (e : EtherFields) (b c : Bool) → length other ≡ length bytes → take 14 other ≡ take 14 bytes → ether_of bytes ≡ Ok e → (e.kind == ipv4_kind) ≡ b → (e.kind == ipv6_kind) ≡ c → opened_of other ≡ after b c (before other e)
opened_after bytes other e b c l t h k m =
    ap (λ (r : Result EtherFields BadFrame). r >>= (λ e. after (e.kind == ipv4_kind) (e.kind == ipv6_kind) e)) (ether_like bytes other e l t h)
    ∙ ap (λ (x : Bool). after x (e.kind == ipv6_kind) (before other e)) k
    ∙ ap (λ (x : Bool). after b x (before other e)) m

not_ip_cut : (bytes : List ℕ) (e : EtherFields) → ether_of bytes ≡ Ok e → (e.kind == ipv4_kind) ≡ false → (e.kind == ipv6_kind) ≡ false → OpenedCut bytes (not_ip e)
not_ip_cut bytes e h k m =
    let r : length e.rest ≡ length bytes - 14 = ap length (ether_rest bytes e h) ∙ length-drop 14 bytes in (
      14,
      omega (arith, r, ether_bound bytes e h),
      λ other l t.
          (not_ip (before other e), opened_after bytes other e false false l t h k m, refl, refl, take_whole (length e.rest) (drop 14 other) (omega (arith, r, l, length-drop 14 other))),
    )

-- a packet behind Ethernet: `head` bytes of a header, which says `total`, and an end that `f` reads of what it carries. Other bytes
-- with the same header are opened by `opens`, once it is known what their end is
packet_cut : (bytes rest payload trailer : List ℕ) (head total : ℕ) (f : List ℕ → Result End BadFrame) (front : List Header) (end : End)
    → 14 ≤ length bytes → rest ≡ drop 14 bytes → head ≤ total → total ≤ length rest → payload ≡ drop head (take total rest) → trailer ≡ drop total rest → EndCut payload f end
    → ((other : List ℕ) (n : ℕ) (e : End) → length other ≡ length bytes → length (drop 14 other) ≡ length rest → head ≤ n → take (14 + n) other ≡ take (14 + n) bytes → take n (drop 14 other) ≡ take n rest → f (drop head (take total (drop 14 other))) ≡ Ok e → (t : List ℕ) × (opened_of other ≡ Ok (record { front = front; trailer = t; end = e })))
    → OpenedCut bytes (record { front = front; trailer = trailer; end = end })
packet_cut bytes rest payload trailer head total f front end long is h t p q c opens =
    let x = c.0 in
    let r : length rest ≡ length bytes - 14 = ap length is ∙ length-drop 14 bytes in
    let lp : length payload ≡ total - head = ap length p ∙ length-drop head (take total rest) ∙ omega (arith, length-take total rest, t) in
    let lt : length trailer ≡ length rest - total = ap length q ∙ length-drop total rest in (
      14 + (head + x),
      omega (arith, c.1, r, lp, lt, h, t, long),
      λ other l same.
          let after = drop 14 other in
          let la : length after ≡ length rest = omega (arith, length-drop 14 other, l, r) in
          let begins : take (head + x) after ≡ take (head + x) rest = take_drop 14 (head + x) bytes other same ∙ ap (take (head + x)) (sym is) in
          let inside = drop head (take total after) in
          let room : head + x ≤ total = omega (arith, c.1, lp, h) in
          let li : length inside ≡ length payload = length-drop head (take total after) ∙ omega (arith, length-take total after, la, t, lp) in
          let si : take x inside ≡ take x payload = take_inner head x total after room ∙ take_drop head x rest after begins ∙ sym (take_inner head x total rest room) ∙ ap (take x) (sym p) in
          let w = c.2 inside li si in
          let n = length (payload_in end) in
          let deep : head + x + n ≤ total = omega (arith, c.1, lp, h) in
          let place : take n (drop x inside) ≡ take n (drop (14 + (head + x)) other) =
          ap (take n) (drop-drop x head (take total after)) ∙ take_inner (head + x) n total after deep ∙ ap (take n) (drop-drop (head + x) 14 other) in
          let o = opens other (head + x) w.0 l la (omega arith) same begins w.1 in (
            record { front = front; trailer = o.0; end = w.0 },
            o.1,
            refl,
            w.2,
            w.3 ∙ place,
          ),
    )

over_ip_cut : (bytes : List ℕ) (e : EtherFields) (i : IpFields) (end : End) → ether_of bytes ≡ Ok e → (e.kind == ipv4_kind) ≡ true → ip_of e.rest ≡ Ok i → end_of i ≡ Ok end → OpenedCut bytes (over_ip e i end)
over_ip_cut bytes e i end h k s u =
    let b = ip_bounds e.rest i s in
    packet_cut bytes e.rest i.payload i.trailer (ip_header e.rest) (ip_total e.rest) (end_by i.part (i.proto == 6) (i.proto == 17)) (frame.ether_header e ∷ frame.ip_header i ∷ []) end (ether_bound bytes e h) (ether_rest bytes e h) b.1 b.2 (ip_payload e.rest i s) (ip_trailer e.rest i s) (end_cut i end u) (λ other n end l lr m same begins is.
    let j = ip_before e.rest (drop 14 other) i in
    let like = ip_like e.rest (drop 14 other) i lr (take_less 20 n e.rest (drop 14 other) (omega (arith, b.0, m)) begins) s in (
      j.trailer,
      opened_after bytes other e true (e.kind == ipv6_kind) l (take_less 14 (14 + n) bytes other (omega arith) same) h k refl
          ∙ ap (λ (r : Result IpFields BadFrame). r >>= opened_ip (before other e)) like
          ∙ ap (λ (r : Result End BadFrame). r >>= (λ end. Ok (over_ip (before other e) j end))) is,
    ))

over_ip6_cut : (bytes : List ℕ) (e : EtherFields) (i : Ip6Fields) (end : End) → ether_of bytes ≡ Ok e → (e.kind == ipv4_kind) ≡ false → (e.kind == ipv6_kind) ≡ true → ip6_of e.rest ≡ Ok i → end6_of i ≡ Ok end → OpenedCut bytes (over_ip6 e i end)
over_ip6_cut bytes e i end h k m s u =
    let b = ip6_bounds e.rest i s in
    packet_cut bytes e.rest i.payload i.trailer 40 (ip6_total e.rest) (end6_by (i.proto == 6) (i.proto == 17)) (frame.ether_header e ∷ frame.ip6_header i ∷ []) end (ether_bound bytes e h) (ether_rest bytes e h) b.0 b.1 (ip6_payload e.rest i s) (ip6_trailer e.rest i s) (end6_cut i end u) (λ other n end l lr long same begins is.
    let j = ip6_before e.rest (drop 14 other) i in
    let like = ip6_like e.rest (drop 14 other) i lr (take_less 40 n e.rest (drop 14 other) long begins) s in (
      j.trailer,
      opened_after bytes other e false true l (take_less 14 (14 + n) bytes other (omega arith) same) h k m
          ∙ ap (λ (r : Result Ip6Fields BadFrame). r >>= opened_ip6 (before other e)) like
          ∙ ap (λ (r : Result End BadFrame). r >>= (λ end. Ok (over_ip6 (before other e) j end))) is,
    ))

ip_cut : (bytes : List ℕ) (e : EtherFields) (i : IpFields) (r : Result End BadFrame) (o : Opened) → ether_of bytes ≡ Ok e → (e.kind == ipv4_kind) ≡ true → ip_of e.rest ≡ Ok i → end_of i ≡ r → r >>= (λ end. Ok (over_ip e i end)) ≡ Ok o → OpenedCut bytes o
ip_cut bytes e i (Err f) o h k s u g = absurd (cc)
ip_cut bytes e i (Ok end) o h k s u g = let t : over_ip e i end ≡ o = cc in subst (OpenedCut bytes) t (over_ip_cut bytes e i end h k s u)

ether_ip_cut : (bytes : List ℕ) (e : EtherFields) (r : Result IpFields BadFrame) (o : Opened) → ether_of bytes ≡ Ok e → (e.kind == ipv4_kind) ≡ true → ip_of e.rest ≡ r → r >>= opened_ip e ≡ Ok o → OpenedCut bytes o
ether_ip_cut bytes e (Err f) o h k s g = absurd (cc)
ether_ip_cut bytes e (Ok i) o h k s g = ip_cut bytes e i (end_of i) o h k s refl g

ip6_cut : (bytes : List ℕ) (e : EtherFields) (i : Ip6Fields) (r : Result End BadFrame) (o : Opened) → ether_of bytes ≡ Ok e → (e.kind == ipv4_kind) ≡ false → (e.kind == ipv6_kind) ≡ true → ip6_of e.rest ≡ Ok i → end6_of i ≡ r → r >>= (λ end. Ok (over_ip6 e i end)) ≡ Ok o → OpenedCut bytes o
ip6_cut bytes e i (Err f) o h k m s u g = absurd (cc)
ip6_cut bytes e i (Ok end) o h k m s u g = let t : over_ip6 e i end ≡ o = cc in subst (OpenedCut bytes) t (over_ip6_cut bytes e i end h k m s u)

ether_ip6_cut : (bytes : List ℕ) (e : EtherFields) (r : Result Ip6Fields BadFrame) (o : Opened) → ether_of bytes ≡ Ok e → (e.kind == ipv4_kind) ≡ false → (e.kind == ipv6_kind) ≡ true → ip6_of e.rest ≡ r → r >>= opened_ip6 e ≡ Ok o → OpenedCut bytes o
ether_ip6_cut bytes e (Err f) o h k m s g = absurd (cc)
ether_ip6_cut bytes e (Ok i) o h k m s g = ip6_cut bytes e i (end6_of i) o h k m s refl g

after_cut : (bytes : List ℕ) (e : EtherFields) (b c : Bool) (o : Opened) → ether_of bytes ≡ Ok e → (e.kind == ipv4_kind) ≡ b → (e.kind == ipv6_kind) ≡ c → after b c e ≡ Ok o → OpenedCut bytes o
after_cut bytes e true c o h k m g = ether_ip_cut bytes e (ip_of e.rest) o h k refl g
after_cut bytes e false true o h k m g = ether_ip6_cut bytes e (ip6_of e.rest) o h k m refl g
after_cut bytes e false false o h k m g = let t : not_ip e ≡ o = cc in subst (OpenedCut bytes) t (not_ip_cut bytes e h k m)

ether_cut : (bytes : List ℕ) (r : Result EtherFields BadFrame) (o : Opened) → ether_of bytes ≡ r → r >>= (λ e. after (e.kind == ipv4_kind) (e.kind == ipv6_kind) e) ≡ Ok o → OpenedCut bytes o
ether_cut bytes (Err f) o h g = absurd (cc)
ether_cut bytes (Ok e) o h g = after_cut bytes e (e.kind == ipv4_kind) (e.kind == ipv6_kind) o h refl refl g

opened_cut : (bytes : List ℕ) (o : Opened) → opened_of bytes ≡ Ok o → OpenedCut bytes o
opened_cut bytes o h = ether_cut bytes (ether_of bytes) o refl h

ports_kept : (end : End) (q s : List ℕ) → ports (with_payload end q s) ≡ ports end
ports_kept (frame.Rest p) q s = refl
ports_kept (frame.OverTcp t) q s = refl
ports_kept (frame.OverUdp u) q s = refl
ports_kept (frame.OverUdp6 u) q s = refl

control_kept : (end : End) (q s : List ℕ) → control_in (with_payload end q s) ≡ control_in end
control_kept (frame.Rest p) q s = refl
control_kept (frame.OverTcp t) q s = refl
control_kept (frame.OverUdp u) q s = refl
control_kept (frame.OverUdp6 u) q s = refl

within_kept : (end : End) (s : List ℕ) → within (with_payload end (payload_in end) s) ≡ within end
within_kept (frame.Rest p) s = refl
within_kept (frame.OverTcp t) s = refl
within_kept (frame.OverUdp u) s = refl
within_kept (frame.OverUdp6 u) s = refl

-- the same headers before other lists
same_front : (f : ℕ) (h x y bytes other : List ℕ) → length h ≡ f → bytes ≡ h ++ x → other ≡ h ++ y → take f other ≡ take f bytes
same_front f h x y bytes other l b o =
    ap (λ (n : ℕ). take n other) (sym l) ∙ ap (take (length h)) o ∙ take-append_seam h y ∙ sym (take-append_seam h x) ∙ sym (ap (take (length h)) b) ∙ ap (λ (n : ℕ). take n bytes) l

what_follows : (f : ℕ) (h y other : List ℕ) → length h ≡ f → other ≡ h ++ y → drop f other ≡ y
what_follows f h y other l o = ap (λ (n : ℕ). drop n other) (sym l) ∙ ap (drop (length h)) o ∙ drop-append_seam h y

tail_length : (h p s t : List ℕ) → length (h ++ (p ++ (s ++ t))) ≡ length h + (length p + (length s + length t))
tail_length h p s t = omega (arith, length-append h (p ++ (s ++ t)), length-append p (s ++ t), length-append s t)

-- a frame in which no encapsulation was found
abbrev PlainAs : List ℕ → List ℕ → Opened → Type 0
PlainAs bytes other o = (p : Opened) × (opened_of other ≡ Ok p) × (within p.end ≡ within o.end) × SaysAs (plain_parts bytes o) (plain_parts other p)

plain_as : (bytes other : List ℕ) (o : Opened) → opened_of bytes ≡ Ok o → SameHeaders (level_of bytes o) (payload_in o.end) (payload_in o.end) other → PlainAs bytes other o
plain_as bytes other o h s =
    let c = opened_cut bytes o h in
    let p = payload_in o.end in
    let head : length s.0 ≡ c.0 = omega (arith, c.1, ap length s.2, tail_length s.0 p (slack_in o.end) o.trailer) in
    let w = c.2 other s.4 (same_front c.0 s.0 (p ++ (slack_in o.end ++ o.trailer)) (p ++ s.1) bytes other head s.2 s.3) in
    let payload : payload_in w.0.end ≡ p = w.4 ∙ ap (take (length p)) (what_follows c.0 s.0 (p ++ s.1) other head s.3) ∙ take-append_seam p s.1 in
    let rest = slack_in w.0.end in (
      w.0,
      w.1,
      ap within w.3 ∙ ap (λ (q : List ℕ). within (with_payload o.end q rest)) payload ∙ within_kept o.end rest,
      record {
        stack = ap (λ (front : List Header). front ++ ports w.0.end) w.2 ∙ ap (λ (hs : List Header). o.front ++ hs) (ap ports w.3 ∙ ports_kept o.end (payload_in w.0.end) rest);
        control = ap control_in w.3 ∙ control_kept o.end (payload_in w.0.end) rest;
        payload = payload;
        sizes = ap (λ (n : ℕ). n ∷ []) s.4;
      },
    )

within_other : (end : End) (v : ℕ) (inner q s : List ℕ) → within end ≡ Some (v, inner) → length q ≡ length (payload_in end) → take 8 q ≡ take 8 (payload_in end) → within (with_payload end q s) ≡ Some (v, drop 8 q)
within_other (frame.Rest p) v inner q s h l t = absurd (cc)
within_other (frame.OverUdp6 u) v inner q s h l t = absurd (cc)
within_other (frame.OverTcp u) v inner q s h l t = absurd (cc)
within_other (frame.OverUdp u) v inner q s h l t =
    let w = udp_within (u.dst == vxlan_port) (vni_of u.payload) v u.payload inner h in
    ap (λ (b : Bool). cond b (vxlan_at (vni_of q) q) None) w.0 ∙ ap (λ (r : Option ℕ). vxlan_at r q) (vni_like u.payload q v l t w.1)

-- an encapsulation before another inner frame
abbrev EncapAs : List ℕ → Opened → ℕ → List ℕ → Type 0
EncapAs other o v new = (p : Opened) × (opened_of other ≡ Ok p) × (p.front ≡ o.front) × (within p.end ≡ Some (v, new))

ok_same : (o p : Opened) → ok_opened o ≡ Ok p → o ≡ p
ok_same o p h = cc

encap_as : (bytes other : List ℕ) (o : Opened) (v : ℕ) (inner new : List ℕ) → opened_of bytes ≡ Ok o → within o.end ≡ Some (v, inner) → length new ≡ length inner → SameHeaders (level_of bytes o) inner new other → EncapAs other o v new
encap_as bytes other o v inner new h e l s =
    let c = opened_cut bytes o h in
    let f = c.0 in
    let p = payload_in o.end in
    let n = length p in
    let long = within_long o.end v inner e in
    let head : length s.0 ≡ f + 8 = omega (arith, c.1, long, ap length s.2, tail_length s.0 inner (slack_in o.end) o.trailer) in
    let front : take (f + 8) other ≡ take (f + 8) bytes = same_front (f + 8) s.0 (inner ++ (slack_in o.end ++ o.trailer)) (new ++ s.1) bytes other head s.2 s.3 in
    let w = c.2 other s.4 (take_less f (f + 8) bytes other (omega arith) front) in
    let self = c.2 bytes refl refl in
    let same : o ≡ self.0 = ok_same o self.0 (sym h ∙ self.1) in
    let mine : p ≡ take n (drop f bytes) = ap (λ (x : Opened). payload_in x.end) same ∙ self.4 in
    let q = payload_in w.0.end in
    let lq : length q ≡ n = ap length w.4 ∙ length-take n (drop f other) ∙ omega (arith, length-drop f other, s.4, c.1) in
    let eight : 8 ≤ n = omega (arith, long) in
    let tq : take 8 q ≡ take 8 p =
    ap (take 8) w.4 ∙ take-take 8 n (drop f other) eight ∙ take_drop f 8 bytes other front ∙ sym (take-take 8 n (drop f bytes) eight) ∙ sym (ap (take 8) mine) in
    let inside : drop 8 q ≡ new =
    ap (drop 8) w.4 ∙ ap (λ (m : ℕ). drop 8 (take m (drop f other))) (long ∙ ap (λ (m : ℕ). 8 + m) (sym l)) ∙ drop-take 8 (length new) (drop f other)
    ∙ ap (take (length new)) (drop-drop 8 f other ∙ what_follows (f + 8) s.0 (new ++ s.1) other head s.3) ∙ take-append_seam new s.1 in
    (w.0, w.1, w.2, ap within w.3 ∙ within_other o.end v inner q (slack_in w.0.end) e lq tq ∙ ap (λ (x : List ℕ). Some (v, x)) inside)

other_length : (ls : List Level) (payload other : List ℕ) → OtherEnds ls payload other → length other ≡ length (outermost ls)
other_length [] payload other h = absurd h
other_length (l ∷ []) payload other h = h.4
other_length (l ∷ m ∷ ls) payload other h = h.1.4

-- one more encapsulation around an inner frame that is read alike
encap_read : (bytes other : List ℕ) (o p : Opened) (v : ℕ) (parts : Parts) (r : Result Parts BadFrame) → p.front ≡ o.front → length other ≡ length bytes → IsReadAs parts r → IsReadAs (encap_parts bytes o v parts) (r >>= (λ parts. Ok (encap_parts other p v parts)))
encap_read bytes other o p v parts (Err f) e l h = absurd h
encap_read bytes other o p v parts (Ok q) e l h = record {
  stack = ap (λ (front : List Header). front ++ Vxlan v ∷ q.stack) e ∙ ap (λ (hs : List Header). o.front ++ Vxlan v ∷ hs) h.stack;
  control = h.control;
  payload = h.payload;
  sizes = ap (λ (n : ℕ). n ∷ lengths q.levels) l ∙ ap (λ (ns : List ℕ). length bytes ∷ ns) h.sizes;
}

-- what is looked for within a frame that is read alike
look_by : (inner : List ℕ → Result Parts BadFrame) (other : List ℕ) (p : Opened) (w : Option (ℕ × List ℕ)) → opened_of other ≡ Ok p → w ≡ within p.end → looked inner other p w ≡ opened_of other >>= look_in inner other
look_by inner other p w h e = looked_in inner other p w e ∙ sym (ap (λ (r : Result Opened BadFrame). r >>= look_in inner other) h)

abbrev AllReadAs : (List ℕ → Result Parts BadFrame) → Type 0
AllReadAs inner = (bytes other : List ℕ) (p : Parts) → inner bytes ≡ Ok p → OtherEnds p.levels p.payload other → IsReadAs p (inner other)

plain_read : (inner : List ℕ → Result Parts BadFrame) (bytes other : List ℕ) (o : Opened) (p : Parts) → opened_of bytes ≡ Ok o → within o.end ≡ None → ok_parts (plain_parts bytes o) ≡ Ok p → OtherEnds p.levels p.payload other → IsReadAs p (opened_of other >>= look_in inner other)
plain_read inner bytes other o p h e g s =
    let t : plain_parts bytes o ≡ p = cc in
    let P : Parts → Type 0 = λ p. OtherEnds p.levels p.payload other → IsReadAs p (opened_of other >>= look_in inner other) in
    let body : P (plain_parts bytes o) = λ s.
    let a = plain_as bytes other o h s in
    let to : Ok (plain_parts other a.0) ≡ opened_of other >>= look_in inner other = look_by inner other a.0 None a.1 (sym (a.2 ∙ e)) in
    subst (IsReadAs (plain_parts bytes o)) to a.3 in
    subst P t body s

zero_read : (bytes other : List ℕ) (r : Result Opened BadFrame) (p : Parts) → opened_of bytes ≡ r → r >>= (λ o. Ok (plain_parts bytes o)) ≡ Ok p → OtherEnds p.levels p.payload other → IsReadAs p (opened_of other >>= (λ o. Ok (plain_parts other o)))
zero_read bytes other (Err f) p h g s = absurd (cc)
zero_read bytes other (Ok o) p h g s =
    let t : plain_parts bytes o ≡ p = cc in
    let P : Parts → Type 0 = λ p. OtherEnds p.levels p.payload other → IsReadAs p (opened_of other >>= (λ o. Ok (plain_parts other o))) in
    let body : P (plain_parts bytes o) = λ s.
    let a = plain_as bytes other o h s in
    subst (IsReadAs (plain_parts bytes o)) (sym (ap (λ (r : Result Opened BadFrame). r >>= (λ o. Ok (plain_parts other o))) a.1)) a.3 in
    subst P t body s

encap_level : (bytes other : List ℕ) (o : Opened) (inner : List ℕ) (levels : List Level) (payload : List ℕ) → outermost levels ≡ inner → TilesAt levels payload → OtherEnds (level_of bytes o ∷ levels) payload other → (new : List ℕ) × SameHeaders (level_of bytes o) inner new other × OtherEnds levels payload new × (length new ≡ length inner)
encap_level bytes other o inner [] payload e t s = absurd t
encap_level bytes other o inner (m ∷ ls) payload e t s =
    (s.0, subst (λ (x : List ℕ). SameHeaders (level_of bytes o) x s.0 other) e s.1, s.2, other_length (m ∷ ls) payload s.0 s.2 ∙ ap length e)

some_read : (inner : List ℕ → Result Parts BadFrame) (bytes other : List ℕ) (o : Opened) (v : ℕ) (frame : List ℕ) (r : Result Parts BadFrame) (p : Parts) → AllReadAs inner → ((q : Parts) → r ≡ Ok q → Tiles frame q) → opened_of bytes ≡ Ok o → within o.end ≡ Some (v, frame) → inner frame ≡ r → r >>= (λ parts. Ok (encap_parts bytes o v parts)) ≡ Ok p → OtherEnds p.levels p.payload other → IsReadAs p (opened_of other >>= look_in inner other)
some_read inner bytes other o v frame (Err f) p ih tiles h e k g s = absurd (cc)
some_read inner bytes other o v frame (Ok parts) p ih tiles h e k g s =
    let t : encap_parts bytes o v parts ≡ p = cc in
    let P : Parts → Type 0 = λ p. OtherEnds p.levels p.payload other → IsReadAs p (opened_of other >>= look_in inner other) in
    let i = tiles parts refl in
    let body : P (encap_parts bytes o v parts) = λ s.
    let d = encap_level bytes other o frame parts.levels parts.payload i.whole i.tiled s in
    let a = encap_as bytes other o v frame d.0 h e d.3 d.1 in
    let to = look_by inner other a.0 (Some (v, d.0)) a.1 (sym a.3) in
    subst (IsReadAs (encap_parts bytes o v parts)) to (encap_read bytes other o a.0 v parts (inner d.0) a.2 d.1.4 (ih frame d.0 parts k d.2)) in
    subst P t body s

looked_read : (inner : List ℕ → Result Parts BadFrame) (bytes other : List ℕ) (o : Opened) (w : Option (ℕ × List ℕ)) (p : Parts) → AllReadAs inner → ((b : List ℕ) (q : Parts) → inner b ≡ Ok q → Tiles b q) → opened_of bytes ≡ Ok o → within o.end ≡ w → looked inner bytes o w ≡ Ok p → OtherEnds p.levels p.payload other → IsReadAs p (opened_of other >>= look_in inner other)
looked_read inner bytes other o None p ih tiles h e g s = plain_read inner bytes other o p h e g s
looked_read inner bytes other o (Some v) p ih tiles h e g s = some_read inner bytes other o v.0 v.1 (inner v.1) p ih (tiles v.1) h e refl g s

more_read : (inner : List ℕ → Result Parts BadFrame) (bytes other : List ℕ) (r : Result Opened BadFrame) (p : Parts) → AllReadAs inner → ((b : List ℕ) (q : Parts) → inner b ≡ Ok q → Tiles b q) → opened_of bytes ≡ r → r >>= look_in inner bytes ≡ Ok p → OtherEnds p.levels p.payload other → IsReadAs p (opened_of other >>= look_in inner other)
more_read inner bytes other (Err f) p ih tiles h g s = absurd (cc)
more_read inner bytes other (Ok o) p ih tiles h g s = looked_read inner bytes other o (within o.end) p ih tiles h refl (looked_in inner bytes o (within o.end) refl ∙ g) s

frame_read : (n : ℕ) (bytes other : List ℕ) (p : Parts) → frame_in n bytes ≡ Ok p → OtherEnds p.levels p.payload other → IsReadAs p (frame_in n other)
unfolding frame_in
frame_read zero bytes other p h s = zero_read bytes other (opened_of bytes) p refl h s
frame_read (suc n) bytes other p h s = more_read (frame_in n) bytes other (opened_of bytes) p (λ b o q. frame_read n b o q) (λ b q. frame_tiles n b q) refl h s

pub ends_are_unread : EndsAreUnread
ends_are_unread bytes other p h s =
    let w = read_in bytes p h in
    let tiles = frame_tiles 2 bytes p w.1 in
    let long : length other ≡ length bytes = other_length p.levels p.payload other s ∙ ap length tiles.whole in
    let fits : nat_lt 65600 (length other) ≡ false = ap (λ (n : ℕ). nat_lt 65600 n) long ∙ w.0 in
    subst (IsReadAs p) (sym (cond-false (nat_lt 65600 (length other)) (Err TooLong) (frame_in 2 other) fits)) (frame_read 2 bytes other p w.1 s)
