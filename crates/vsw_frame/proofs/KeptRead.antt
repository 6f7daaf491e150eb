-- A kept encapsulation is read around another inner frame.
use Rattle.std.proofs.Common.{◌≡◌, ℕ, ◌+◌, ◌-◌, ◌≤◌, List, [], ◌∷◌, ◌++◌, Bool, true, false, take, drop, Ok, refl, sym, ◌∙◌, ap, arith, length, length-drop, length-take, length-append, append_assoc}
use Rattle.std.proofs.lemmas.Grind.{common_steps}
use Rattle.std.proofs.lemmas.List.{drop-drop, drop-take, take-take}
use Rattle.std.proofs.Math.Seq.{drop-append_seam, take-append_seam}
use Rattle.byteorder.specs.Endian.{big_number}
use Rattle.vsw_base.specs.Udp.{UdpFields, udp_length, udp_of}
use Rattle.vsw_frame.specs.Kept.{udp_kept}
use Rattle.vsw_frame.proofs.Alike.{udp_bounds}
use Rattle.vsw_frame.proofs.Tiles.{udp_payload}
use Rattle.vsw_base.proofs.Readings.{udp_src, udp_dst}

udp_is : (bytes payload slack : List ℕ) → 8 ≤ length bytes → 8 ≤ udp_length bytes → udp_length bytes ≤ length bytes → drop 8 (take (udp_length bytes) bytes) ≡ payload → drop (udp_length bytes) bytes ≡ slack → udp_of bytes ≡ Ok (record { src = big_number 2 bytes; dst = big_number 2 (drop 2 bytes); payload = payload; slack = slack })
udp_is bytes payload slack l h t p k = grind (arith, common_steps)

udp_found : (bytes : List ℕ) (n : ℕ) (payload slack : List ℕ) → udp_length bytes ≡ n → 8 ≤ n → n ≤ length bytes → drop 8 (take n bytes) ≡ payload → drop n bytes ≡ slack → udp_of bytes ≡ Ok (record { src = big_number 2 bytes; dst = big_number 2 (drop 2 bytes); payload = payload; slack = slack })
udp_found bytes n payload slack e h t p k = udp_is bytes payload slack (omega (arith, h, t)) (omega (arith, e, h)) (omega (arith, e, t)) (ap (λ (m : ℕ). drop 8 (take m bytes)) e ∙ p) (ap (λ (m : ℕ). drop m bytes) e ∙ k)

-- UDP's header, before eight bytes, an inner frame and slack
udp_around : (x0 x1 x2 x3 x4 x5 k0 k1 : ℕ) (vxlan new slack : List ℕ) → length vxlan ≡ 8 → udp_length (x0 ∷ x1 ∷ x2 ∷ x3 ∷ x4 ∷ x5 ∷ k0 ∷ k1 ∷ []) ≡ 16 + length new
    → udp_of (x0 ∷ x1 ∷ x2 ∷ x3 ∷ x4 ∷ x5 ∷ k0 ∷ k1 ∷ (vxlan ++ (new ++ slack))) ≡ Ok (record { src = big_number 2 (x0 ∷ x1 ∷ []); dst = big_number 2 (x2 ∷ x3 ∷ []); payload = vxlan ++ new; slack = slack })
udp_around x0 x1 x2 x3 x4 x5 k0 k1 vxlan new slack l n =
    let bytes = x0 ∷ x1 ∷ x2 ∷ x3 ∷ x4 ∷ x5 ∷ k0 ∷ k1 ∷ (vxlan ++ (new ++ slack)) in
    let m = length (vxlan ++ new) in
    let whole : vxlan ++ (new ++ slack) ≡ (vxlan ++ new) ++ slack = sym (append_assoc vxlan new slack) in
    let size : udp_length bytes ≡ 8 + m = n ∙ omega (arith, length-append vxlan new, l) in
    let inside : drop 8 (take (8 + m) bytes) ≡ vxlan ++ new = drop-take 8 m bytes ∙ ap (take m) whole ∙ take-append_seam (vxlan ++ new) slack in
    let behind : drop (8 + m) bytes ≡ slack = ap (λ (k : ℕ). drop k bytes) (omega arith) ∙ sym (drop-drop m 8 bytes) ∙ ap (drop m) whole ∙ drop-append_seam (vxlan ++ new) slack in
    udp_found bytes (8 + m) (vxlan ++ new) slack size (omega arith) (omega (arith, ap length whole, length-append (vxlan ++ new) slack)) inside behind

abbrev pub kept_fields : UdpFields → List ℕ → UdpFields
kept_fields u new = record { src = u.src; dst = u.dst; payload = take 8 u.payload ++ new; slack = u.slack }

abbrev fields : ℕ → ℕ → List ℕ → List ℕ → UdpFields
fields s d p k = record { src = s; dst = d; payload = p; slack = k }

fields_are : (s s' d d' : ℕ) (p p' k : List ℕ) → s ≡ s' → d ≡ d' → p ≡ p' → fields s d p k ≡ fields s' d' p' k
fields_are s s' d d' p p' k a b c = rw (a, b, c) refl

-- the first eight bytes of a payload
first_eight : (n : ℕ) (bytes : List ℕ) → 16 ≤ n → take 8 (drop 8 (take n bytes)) ≡ take 8 (drop 8 bytes)
first_eight n bytes h =
    ap (λ (k : ℕ). take 8 (drop 8 (take k bytes))) (omega (arith, h)) ∙ ap (take 8) (drop-take 8 (8 + (n - 16)) bytes) ∙ take-take 8 (8 + (n - 16)) (drop 8 bytes) (omega arith)

udp_kept_at : (c : Bool) (bytes new : List ℕ) (u : UdpFields) → udp_of bytes ≡ Ok u → udp_length bytes ≡ 16 + length new → 16 ≤ length bytes → udp_of (udp_kept c (take 16 bytes) ++ (new ++ u.slack)) ≡ Ok (fields (big_number 2 bytes) (big_number 2 (drop 2 bytes)) (take 8 (drop 8 bytes) ++ new) u.slack)
udp_kept_at false (x0 ∷ x1 ∷ x2 ∷ x3 ∷ x4 ∷ x5 ∷ k0 ∷ k1 ∷ v0 ∷ v1 ∷ v2 ∷ v3 ∷ v4 ∷ v5 ∷ v6 ∷ v7 ∷ rest) new u h n l =
    udp_around x0 x1 x2 x3 x4 x5 k0 k1 (v0 ∷ v1 ∷ v2 ∷ v3 ∷ v4 ∷ v5 ∷ v6 ∷ v7 ∷ []) new u.slack refl n
udp_kept_at true (x0 ∷ x1 ∷ x2 ∷ x3 ∷ x4 ∷ x5 ∷ k0 ∷ k1 ∷ v0 ∷ v1 ∷ v2 ∷ v3 ∷ v4 ∷ v5 ∷ v6 ∷ v7 ∷ rest) new u h n l =
    udp_around x0 x1 x2 x3 x4 x5 0 0 (v0 ∷ v1 ∷ v2 ∷ v3 ∷ v4 ∷ v5 ∷ v6 ∷ v7 ∷ []) new u.slack refl n
udp_kept_at c bytes new u h n l = absurd (omega (arith, l))

pub udp_kept_read : (c : Bool) (bytes new : List ℕ) (u : UdpFields) → udp_of bytes ≡ Ok u → 8 + length new ≡ length u.payload → udp_of (udp_kept c (take 16 bytes) ++ (new ++ u.slack)) ≡ Ok (kept_fields u new)
udp_kept_read c bytes new u h l =
    let b = udp_bounds bytes u h in
    let n = udp_length bytes in
    let size : n ≡ 16 + length new = omega (arith, l, ap length (udp_payload bytes u h), length-drop 8 (take n bytes), length-take n bytes, b.0, b.1) in
    let eight : take 8 (drop 8 bytes) ≡ take 8 u.payload = sym (ap (take 8) (udp_payload bytes u h) ∙ first_eight n bytes (omega (arith, size))) in
    udp_kept_at c bytes new u h size (omega (arith, size, b.1)) ∙ ap Ok (fields_are _ u.src _ u.dst _ (take 8 u.payload ++ new) u.slack (udp_src bytes u h) (udp_dst bytes u h) (ap (λ (p : List ℕ). p ++ new) eight))
