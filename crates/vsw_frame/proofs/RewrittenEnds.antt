-- TCP and UDP headers whose ports were changed are read.
use Rattle.std.proofs.Common.{◌≡◌, ℕ, ◌-◌, ◌*◌, ◌/◌, ◌^◌, ◌≤◌, ◌<◌, List, [], ◌∷◌, ◌++◌, take, drop, Ok, refl, sym, ◌∙◌, ap, arith, length}
use Rattle.std.specs.Prelude.{slice_index}
use Rattle.std.proofs.lemmas.Grind.{common_steps}
use Rattle.std.proofs.lemmas.List.{drop-drop, drop-take}
use Rattle.std.proofs.Math.Seq.{take-append-add}
use Rattle.byteorder.specs.Endian.{big_bytes, big_number}
use Rattle.vsw_base.specs.declared.packet.Control.{Control}
use Rattle.vsw_base.specs.Tcp.{TcpFields, control_of, tcp_header, tcp_of}
use Rattle.vsw_base.specs.Udp.{UdpFields, udp_length, udp_of}
use Rattle.vsw_header.specs.L4Change.{tcp_changed, udp_changed}
use Rattle.vsw_header.specs.declared.l4_change.Endpoints.{Endpoints}
use Rattle.vsw_frame.proofs.Alike.{tcp_bounds, udp_bounds}
use Rattle.vsw_frame.proofs.Tiles.{tcp_payload, udp_payload, udp_slack}

two_is : (x : ℕ) (rest : List ℕ) → x < 2 ^ 16 → big_number 2 (big_bytes 2 x ++ rest) ≡ x
two_is x rest h = omega arith

-- what is behind the changed bytes stays
pub record TcpNew (from to : Endpoints) (bytes new : List ℕ) : Type 0 where
  pub src : big_number 2 new ≡ to.src_port
  pub dst : big_number 2 (drop 2 new) ≡ to.dst_port
  pub offset : slice_index new 12 ≡ slice_index bytes 12
  pub flags : slice_index new 13 ≡ slice_index bytes 13
  pub rest : drop 20 new ≡ drop 20 bytes
  pub there : length new ≡ length bytes
  pub taken : (n : ℕ) → 20 ≤ n → take n new ≡ tcp_changed from to (take n bytes)

take_behind : (n : ℕ) (front tail : List ℕ) → length front ≤ n → take n (front ++ tail) ≡ front ++ take (n - length front) tail
take_behind n front tail h = ap (λ (k : ℕ). take k (front ++ tail)) (omega (arith, h)) ∙ take-append-add front tail (n - length front)

pub tcp_new : (from to : Endpoints) (bytes : List ℕ) → to.src_port < 2 ^ 16 → to.dst_port < 2 ^ 16 → 20 ≤ length bytes → TcpNew from to bytes (tcp_changed from to bytes)
tcp_new from to (b0 ∷ b1 ∷ b2 ∷ b3 ∷ b4 ∷ b5 ∷ b6 ∷ b7 ∷ b8 ∷ b9 ∷ c0 ∷ c1 ∷ c2 ∷ c3 ∷ c4 ∷ c5 ∷ c6 ∷ c7 ∷ c8 ∷ c9 ∷ tail) hs hd l =
    let bytes = b0 ∷ b1 ∷ b2 ∷ b3 ∷ b4 ∷ b5 ∷ b6 ∷ b7 ∷ b8 ∷ b9 ∷ c0 ∷ c1 ∷ c2 ∷ c3 ∷ c4 ∷ c5 ∷ c6 ∷ c7 ∷ c8 ∷ c9 ∷ tail in
    let front = b0 ∷ b1 ∷ b2 ∷ b3 ∷ b4 ∷ b5 ∷ b6 ∷ b7 ∷ b8 ∷ b9 ∷ c0 ∷ c1 ∷ c2 ∷ c3 ∷ c4 ∷ c5 ∷ c6 ∷ c7 ∷ c8 ∷ c9 ∷ [] in
    record {
      src = two_is to.src_port [] hs;
      dst = two_is to.dst_port [] hd;
      offset = refl;
      flags = refl;
      rest = refl;
      there = omega arith;
      taken = λ n h. take_behind n (tcp_changed from to front) tail h ∙ sym (ap (tcp_changed from to) (take_behind n front tail h));
    }
tcp_new from to bytes hs hd l = absurd (omega (arith, l))

tcp_facts : (bytes : List ℕ) (t : TcpFields) → tcp_of bytes ≡ Ok t → control_of (slice_index bytes 13) ≡ t.control
tcp_facts bytes t h = grind (arith, common_steps)

tcp_at : (bytes payload : List ℕ) (src dst : ℕ) (control : Control) → 20 ≤ length bytes → 20 ≤ tcp_header bytes → tcp_header bytes ≤ length bytes → big_number 2 bytes ≡ src → big_number 2 (drop 2 bytes) ≡ dst → control_of (slice_index bytes 13) ≡ control → drop (tcp_header bytes) bytes ≡ payload → tcp_of bytes ≡ Ok (record { src = src; dst = dst; control = control; payload = payload })
tcp_at bytes payload src dst control l h t s d c p = grind (arith, common_steps)

pub drop_more : (n : ℕ) (new bytes : List ℕ) → 20 ≤ n → drop 20 new ≡ drop 20 bytes → drop n new ≡ drop n bytes
drop_more n new bytes h e = ap (λ (k : ℕ). drop k new) (omega (arith, h)) ∙ sym (drop-drop (n - 20) 20 new) ∙ ap (drop (n - 20)) e ∙ drop-drop (n - 20) 20 bytes ∙ ap (λ (k : ℕ). drop k bytes) (omega (arith, h))

pub tcp_rewritten : (from to : Endpoints) (bytes : List ℕ) (t : TcpFields) → to.src_port < 2 ^ 16 → to.dst_port < 2 ^ 16 → tcp_of bytes ≡ Ok t → tcp_of (tcp_changed from to bytes) ≡ Ok (record { src = to.src_port; dst = to.dst_port; control = t.control; payload = t.payload })
tcp_rewritten from to bytes t hs hd h =
    let b = tcp_bounds bytes t h in
    let new = tcp_changed from to bytes in
    let a = tcp_new from to bytes hs hd (omega (arith, b.0, b.1)) in
    let m : tcp_header new ≡ tcp_header bytes = ap (λ (x : ℕ). 4 * (x / 16)) a.offset in
    tcp_at new t.payload to.src_port to.dst_port t.control (omega (arith, a.there, b.0, b.1)) (omega (arith, m, b.0)) (omega (arith, m, a.there, b.1)) a.src a.dst (ap control_of a.flags ∙ tcp_facts bytes t h)
    (ap (λ (k : ℕ). drop k new) m ∙ drop_more (tcp_header bytes) new bytes b.0 a.rest ∙ sym (tcp_payload bytes t h))

pub record UdpNew (from to : Endpoints) (bytes new : List ℕ) : Type 0 where
  pub src : big_number 2 new ≡ to.src_port
  pub dst : big_number 2 (drop 2 new) ≡ to.dst_port
  pub size : udp_length new ≡ udp_length bytes
  pub rest : drop 8 new ≡ drop 8 bytes
  pub there : length new ≡ length bytes
  pub taken : (n : ℕ) → 8 ≤ n → take n new ≡ udp_changed from to (take n bytes)

pub udp_new : (from to : Endpoints) (bytes : List ℕ) → to.src_port < 2 ^ 16 → to.dst_port < 2 ^ 16 → 8 ≤ length bytes → UdpNew from to bytes (udp_changed from to bytes)
udp_new from to (b0 ∷ b1 ∷ b2 ∷ b3 ∷ b4 ∷ b5 ∷ b6 ∷ b7 ∷ tail) hs hd l =
    let front = b0 ∷ b1 ∷ b2 ∷ b3 ∷ b4 ∷ b5 ∷ b6 ∷ b7 ∷ [] in
    record {
      src = two_is to.src_port [] hs;
      dst = two_is to.dst_port [] hd;
      size = refl;
      rest = refl;
      there = omega arith;
      taken = λ n h. take_behind n (udp_changed from to front) tail h ∙ sym (ap (udp_changed from to) (take_behind n front tail h));
    }
udp_new from to bytes hs hd l = absurd (omega (arith, l))

udp_at : (bytes payload slack : List ℕ) (src dst : ℕ) → 8 ≤ length bytes → 8 ≤ udp_length bytes → udp_length bytes ≤ length bytes → big_number 2 bytes ≡ src → big_number 2 (drop 2 bytes) ≡ dst → drop 8 (take (udp_length bytes) bytes) ≡ payload → drop (udp_length bytes) bytes ≡ slack → udp_of bytes ≡ Ok (record { src = src; dst = dst; payload = payload; slack = slack })
udp_at bytes payload slack src dst l h t s d p k = grind (arith, common_steps)

pub eight_behind : (n : ℕ) (new bytes : List ℕ) → 8 ≤ n → drop 8 new ≡ drop 8 bytes → drop n new ≡ drop n bytes
eight_behind n new bytes h e = ap (λ (k : ℕ). drop k new) (omega (arith, h)) ∙ sym (drop-drop (n - 8) 8 new) ∙ ap (drop (n - 8)) e ∙ drop-drop (n - 8) 8 bytes ∙ ap (λ (k : ℕ). drop k bytes) (omega (arith, h))

eight_inside : (n : ℕ) (bytes : List ℕ) → 8 ≤ n → drop 8 (take n bytes) ≡ take (n - 8) (drop 8 bytes)
eight_inside n bytes h = ap (λ (k : ℕ). drop 8 (take k bytes)) (omega (arith, h)) ∙ drop-take 8 (n - 8) bytes

pub udp_rewritten : (from to : Endpoints) (bytes : List ℕ) (u : UdpFields) → to.src_port < 2 ^ 16 → to.dst_port < 2 ^ 16 → udp_of bytes ≡ Ok u → udp_of (udp_changed from to bytes) ≡ Ok (record { src = to.src_port; dst = to.dst_port; payload = u.payload; slack = u.slack })
udp_rewritten from to bytes u hs hd h =
    let b = udp_bounds bytes u h in
    let n = udp_length bytes in
    let new = udp_changed from to bytes in
    let a = udp_new from to bytes hs hd (omega (arith, b.0, b.1)) in
    udp_at new u.payload u.slack to.src_port to.dst_port (omega (arith, a.there, b.0, b.1)) (omega (arith, a.size, b.0)) (omega (arith, a.size, a.there, b.1)) a.src a.dst
    (ap (λ (k : ℕ). drop 8 (take k new)) a.size ∙ eight_inside n new b.0 ∙ ap (take (n - 8)) a.rest ∙ sym (eight_inside n bytes b.0) ∙ sym (udp_payload bytes u h))
    (ap (λ (k : ℕ). drop k new) a.size ∙ eight_behind n new bytes b.0 a.rest ∙ sym (udp_slack bytes u h))

-- the headers of a kept encapsulation
pub record UdpKept (bytes new : List ℕ) : Type 0 where
  pub src : big_number 2 new ≡ big_number 2 bytes
  pub dst : big_number 2 (drop 2 new) ≡ big_number 2 (drop 2 bytes)
  pub size : udp_length new ≡ udp_length bytes
  pub rest : drop 8 new ≡ drop 8 bytes
