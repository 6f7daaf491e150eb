-- Ethernet and IPv4 headers whose addresses were changed are read.
use Rattle.std.proofs.Common.{◌≡◌, ℕ, ◌+◌, ◌-◌, ◌*◌, ◌/◌, ◌^◌, ◌≤◌, ◌<◌, List, [], ◌∷◌, ◌++◌, Bool, take, drop, Ok, refl, sym, ◌∙◌, ap, subst, arith, length, length-take, length-append}
use Rattle.std.specs.Prelude.{slice_index, bit_and}
use Rattle.std.proofs.lemmas.Grind.{common_steps}
use Rattle.std.proofs.lemmas.List.{drop-drop, drop-take}
use Rattle.std.proofs.Math.Seq.{drop-append_seam, take-add}
use Rattle.byteorder.specs.Endian.{big_bytes, big_number}
use Rattle.vsw_base.specs.Ethernet.{EtherFields, ether_of}
use Rattle.vsw_base.specs.Ipv4.{IpFields, ip_fields, ip_header, ip_of, ip_total, is_part}
use Rattle.vsw_header.specs.IpChange.{ip_changed}
use Rattle.vsw_header.specs.EtherChange.{ether_changed}
use Rattle.vsw_frame.proofs.Alike.{ip_bounds}

four_is : (x : ℕ) (rest : List ℕ) → x < 2 ^ 32 → big_number 4 (big_bytes 4 x ++ rest) ≡ x
four_is x rest h = omega arith

six_is : (x : ℕ) (rest : List ℕ) → x < 2 ^ 48 → big_number 6 (big_bytes 6 x ++ rest) ≡ x
six_is x rest h = omega arith

pub ether_length : (bytes : List ℕ) (e : EtherFields) → ether_of bytes ≡ Ok e → 14 ≤ length bytes
ether_length bytes e h = grind (arith, common_steps)

ether_kind : (bytes : List ℕ) (e : EtherFields) → ether_of bytes ≡ Ok e → big_number 2 (drop 12 bytes) ≡ e.kind
ether_kind bytes e h = grind (arith, common_steps)

ether_at : (bytes rest : List ℕ) (dst src kind : ℕ) → 14 ≤ length bytes → big_number 6 bytes ≡ dst → big_number 6 (drop 6 bytes) ≡ src → big_number 2 (drop 12 bytes) ≡ kind → drop 14 bytes ≡ rest → ether_of bytes ≡ Ok (record { dst = dst; src = src; kind = kind; rest = rest })
ether_at bytes rest dst src kind l d s k r = grind (arith, common_steps)

ether_new : (dst src kind : ℕ) (bytes rest : List ℕ) → dst < 2 ^ 48 → src < 2 ^ 48 → 14 ≤ length bytes → big_number 2 (drop 12 bytes) ≡ kind → ether_of (ether_changed dst src (take 14 bytes) ++ rest) ≡ Ok (record { dst = dst; src = src; kind = kind; rest = rest })
ether_new dst src kind (b0 ∷ b1 ∷ b2 ∷ b3 ∷ b4 ∷ b5 ∷ b6 ∷ b7 ∷ b8 ∷ b9 ∷ c0 ∷ c1 ∷ c2 ∷ c3 ∷ tail) rest hd hs l k =
    ether_at (ether_changed dst src (b0 ∷ b1 ∷ b2 ∷ b3 ∷ b4 ∷ b5 ∷ b6 ∷ b7 ∷ b8 ∷ b9 ∷ c0 ∷ c1 ∷ c2 ∷ c3 ∷ []) ++ rest) rest dst src kind (omega arith) (six_is dst [] hd) (six_is src [] hs) k refl
ether_new dst src kind bytes rest hd hs l k = absurd (omega (arith, l))

pub ether_rewritten : (dst src : ℕ) (bytes rest : List ℕ) (e : EtherFields) → dst < 2 ^ 48 → src < 2 ^ 48 → ether_of bytes ≡ Ok e → ether_of (ether_changed dst src (take 14 bytes) ++ rest) ≡ Ok (record { dst = dst; src = src; kind = e.kind; rest = rest })
ether_rewritten dst src bytes rest e hd hs h = ether_new dst src e.kind bytes rest hd hs (ether_length bytes e h) (ether_kind bytes e h)

pub ether_changed-length : (dst src : ℕ) (bytes rest : List ℕ) → 14 ≤ length bytes → length (ether_changed dst src (take 14 bytes) ++ rest) ≡ 14 + length rest
ether_changed-length dst src (b0 ∷ b1 ∷ b2 ∷ b3 ∷ b4 ∷ b5 ∷ b6 ∷ b7 ∷ b8 ∷ b9 ∷ c0 ∷ c1 ∷ c2 ∷ c3 ∷ tail) rest l = omega arith
ether_changed-length dst src bytes rest l = absurd (omega (arith, l))

-- a header that is changed before what stands behind it
pub changed_before : (src dst : ℕ) (bytes rest : List ℕ) → 20 ≤ length bytes → ip_changed src dst (bytes ++ rest) ≡ ip_changed src dst bytes ++ rest
changed_before src dst (b0 ∷ b1 ∷ b2 ∷ b3 ∷ b4 ∷ b5 ∷ b6 ∷ b7 ∷ b8 ∷ b9 ∷ c0 ∷ c1 ∷ c2 ∷ c3 ∷ c4 ∷ c5 ∷ c6 ∷ c7 ∷ c8 ∷ c9 ∷ tail) rest l = refl
changed_before src dst bytes rest l = absurd (omega (arith, l))

-- what is read of the changed header, and what is not changed in it
pub record IpNew (src dst : ℕ) (bytes new : List ℕ) : Type 0 where
  pub src_is : big_number 4 (drop 12 new) ≡ src
  pub dst_is : big_number 4 (drop 16 new) ≡ dst
  pub proto : slice_index new 9 ≡ slice_index bytes 9
  pub part : is_part new ≡ is_part bytes
  pub first : slice_index new 0 ≡ slice_index bytes 0
  pub total : ip_total new ≡ ip_total bytes
  pub rest : drop 20 new ≡ drop 20 bytes
  pub there : length new ≡ length bytes

ip_new : (src dst : ℕ) (bytes : List ℕ) → src < 2 ^ 32 → dst < 2 ^ 32 → 20 ≤ length bytes → IpNew src dst bytes (ip_changed src dst bytes)
ip_new src dst (b0 ∷ b1 ∷ b2 ∷ b3 ∷ b4 ∷ b5 ∷ b6 ∷ b7 ∷ b8 ∷ b9 ∷ c0 ∷ c1 ∷ c2 ∷ c3 ∷ c4 ∷ c5 ∷ c6 ∷ c7 ∷ c8 ∷ c9 ∷ tail) hs hd l =
    record { src_is = four_is src [] hs; dst_is = four_is dst [] hd; proto = refl; part = refl; first = refl; total = refl; rest = refl; there = omega arith }
ip_new src dst bytes hs hd l = absurd (omega (arith, l))

pub ip_changed-length : (src dst : ℕ) (bytes : List ℕ) → 20 ≤ length bytes → length (ip_changed src dst bytes) ≡ length bytes
ip_changed-length src dst (b0 ∷ b1 ∷ b2 ∷ b3 ∷ b4 ∷ b5 ∷ b6 ∷ b7 ∷ b8 ∷ b9 ∷ c0 ∷ c1 ∷ c2 ∷ c3 ∷ c4 ∷ c5 ∷ c6 ∷ c7 ∷ c8 ∷ c9 ∷ tail) l = omega arith
ip_changed-length src dst bytes l = absurd (omega (arith, l))

ip_at : (bytes : List ℕ) → 20 ≤ length bytes → slice_index bytes 0 / 16 ≡ 4 → 20 ≤ ip_header bytes → ip_header bytes ≤ ip_total bytes → ip_total bytes ≤ length bytes → ip_of bytes ≡ Ok (ip_fields bytes)
ip_at bytes l v h t u = grind (arith, common_steps)

pub ip_version : (bytes : List ℕ) (i : IpFields) → ip_of bytes ≡ Ok i → slice_index bytes 0 / 16 ≡ 4
ip_version bytes i h = grind (arith, common_steps)

pub ip_proto : (bytes : List ℕ) (i : IpFields) → ip_of bytes ≡ Ok i → slice_index bytes 9 ≡ i.proto
ip_proto bytes i h = grind (arith, common_steps)

ip_part : (bytes : List ℕ) (i : IpFields) → ip_of bytes ≡ Ok i → is_part bytes ≡ i.part
ip_part bytes i h = grind (arith, common_steps)

abbrev fields : ℕ → ℕ → ℕ → Bool → List ℕ → List ℕ → IpFields
fields s d o p l t = record { src = s; dst = d; proto = o; part = p; payload = l; trailer = t }

fields_are : (s s' d d' o o' : ℕ) (p p' : Bool) (l l' t t' : List ℕ) → s ≡ s' → d ≡ d' → o ≡ o' → p ≡ p' → l ≡ l' → t ≡ t' → fields s d o p l t ≡ fields s' d' o' p' l' t'
fields_are s s' d d' o o' p p' l l' t t' a b c e f g = rw (a, b, c, e, f, g) refl

payload_at : (n t : ℕ) (new seg : List ℕ) → ip_header new ≡ n → ip_total new ≡ t → n ≤ t → drop n new ≡ seg → drop (ip_header new) (take (ip_total new) new) ≡ take (t - n) seg
payload_at n t new seg e f h d = rw (e, f) (ap (λ (k : ℕ). drop n (take k new)) (omega (arith, h)) ∙ drop-take n (t - n) new ∙ ap (take (t - n)) d)

trailer_at : (n t : ℕ) (new seg : List ℕ) → ip_total new ≡ t → n ≤ t → drop n new ≡ seg → drop (ip_total new) new ≡ drop (t - n) seg
trailer_at n t new seg f h d = rw f (ap (λ (k : ℕ). drop k new) (omega (arith, h)) ∙ sym (drop-drop (t - n) n new) ∙ ap (drop (t - n)) d)

abbrev SameFront : List ℕ → List ℕ → Type 0
SameFront bytes other = (slice_index other 0 ≡ slice_index bytes 0) × (ip_total other ≡ ip_total bytes) × (slice_index other 9 ≡ slice_index bytes 9) × (is_part other ≡ is_part bytes)

-- the front of a header, whatever stands behind it
fronts : (n : ℕ) (bytes seg : List ℕ) → 20 ≤ n → n ≤ length bytes → SameFront bytes (take n bytes ++ seg)
fronts n (b0 ∷ b1 ∷ b2 ∷ b3 ∷ b4 ∷ b5 ∷ b6 ∷ b7 ∷ b8 ∷ b9 ∷ tail) seg h l =
    let bytes = b0 ∷ b1 ∷ b2 ∷ b3 ∷ b4 ∷ b5 ∷ b6 ∷ b7 ∷ b8 ∷ b9 ∷ tail in
    let e : take n bytes ≡ b0 ∷ b1 ∷ b2 ∷ b3 ∷ b4 ∷ b5 ∷ b6 ∷ b7 ∷ b8 ∷ b9 ∷ take (n - 10) tail = ap (λ (k : ℕ). take k bytes) (omega (arith, h)) ∙ take-add 10 (n - 10) bytes in
    let P : List ℕ → Type 0 = λ head. SameFront bytes (head ++ seg) in
    subst P (sym e) (refl, refl, refl, refl)
fronts n bytes seg h l = absurd (omega (arith, h, l))

-- the whole header, and as many bytes behind it
pub ip_rewritten : (src dst : ℕ) (bytes seg : List ℕ) (i : IpFields) → src < 2 ^ 32 → dst < 2 ^ 32 → ip_of bytes ≡ Ok i → length seg + ip_header bytes ≡ length bytes
    → ip_of (ip_changed src dst (take (ip_header bytes) bytes) ++ seg) ≡ Ok (fields src dst i.proto i.part (take (ip_total bytes - ip_header bytes) seg) (drop (ip_total bytes - ip_header bytes) seg))
ip_rewritten src dst bytes seg i hs hd h l =
    let b = ip_bounds bytes i h in
    let n = ip_header bytes in
    let t = ip_total bytes in
    let head = take n bytes in
    let size : length head ≡ n = omega (arith, length-take n bytes, b.1, b.2) in
    let long : 20 ≤ length bytes = omega (arith, b.0, b.1, b.2) in
    let new = ip_changed src dst (head ++ seg) in
    let other = ip_changed src dst head ++ seg in
    let same : new ≡ other = changed_before src dst head seg (omega (arith, size, b.0)) in
    let a = ip_new src dst (head ++ seg) hs hd (omega (arith, length-append head seg, size, b.0)) in
    let f = fronts n bytes seg (omega (arith, b.0)) (omega (arith, b.1, b.2)) in
    let m : ip_header new ≡ n = ap (λ (x : ℕ). 4 * bit_and x 15) (a.first ∙ f.0) in
    let u : ip_total new ≡ t = a.total ∙ f.1 in
    let there : length new ≡ length bytes = omega (arith, a.there, length-append head seg, size, l) in
    let behind : drop n new ≡ seg = ap (drop n) same ∙ ap (λ (k : ℕ). drop k other) (omega (arith, size, ip_changed-length src dst head (omega (arith, size, b.0)))) ∙ drop-append_seam (ip_changed src dst head) seg in
    ap ip_of (sym same)
    ∙ ip_at new (omega (arith, there, long)) (ap (λ (x : ℕ). x / 16) (a.first ∙ f.0) ∙ ip_version bytes i h) (omega (arith, m, b.0)) (omega (arith, m, u, b.1)) (omega (arith, u, there, b.2))
    ∙ ap Ok (fields_are _ src _ dst _ i.proto _ i.part _ (take (t - n) seg) _ (drop (t - n) seg) a.src_is a.dst_is (a.proto ∙ f.2 ∙ ip_proto bytes i h) (a.part ∙ f.3 ∙ ip_part bytes i h)
    (payload_at n t new seg m u b.1 behind)
    (trailer_at n t new seg u b.1 behind))
