-- An answer that was written in its encapsulation.
use Rattle.std.proofs.Common.{◌≡◌, ℕ, ◌-◌, ◌≤◌, List, ◌++◌, refl, sym, ◌∙◌, ap, arith, length, take, drop, length-drop, length-take}
use Rattle.std.proofs.Math.Seq.{drop-append_seam}
use borrow.Rule.Slice.PartMut.{put_mid}
use Rattle.vsw_frame.specs.Push.{encap_pushed}
use Rattle.vsw_frame.proofs.Places.{put_rest, rest_of}
use Rattle.vsw_generate.specs.Packets.{frame_bytes, answer_bytes, port_of}
use Rattle.vsw_generate.specs.declared.frame.Ends.{Ends}

pub answer_written : (ends : Ends) (port dst src src_ip dst_ip : ℕ) (old inner last : List ℕ) → 92 ≤ length old → port ≡ port_of ends → dst ≡ 0x020000000a01 → src ≡ 0x020000000a02 → src_ip ≡ 0xac100002 → dst_ip ≡ 0xac100001
    → inner ≡ frame_bytes ends (length (take (length old - 50) (drop 50 old)) - 42)
    → last ≡ encap_pushed port dst src src_ip dst_ip 5001 (drop 50 (put_mid 50 (length old - 50) old inner))
    → last ≡ answer_bytes ends (length old - 92)
answer_written ends port dst src src_ip dst_ip old inner last h p d s a b f e =
    let whole : put_mid 50 (length old - 50) old inner ≡ take 50 old ++ inner = put_rest 50 old inner (take 50 old) inner (omega (arith, h)) refl refl in
    let n : length (take 50 old) ≡ 50 = omega (arith, h, length-take 50 old) in
    let behind : drop 50 (put_mid 50 (length old - 50) old inner) ≡ inner = ap (drop 50) whole ∙ ap (λ (m : ℕ). drop m (take 50 old ++ inner)) (sym n) ∙ drop-append_seam (take 50 old) inner in
    let room : length (take (length old - 50) (drop 50 old)) ≡ length old - 50 = ap (λ (l : List ℕ). length l) (rest_of 50 old) ∙ length-drop 50 old in
    let size : length (take (length old - 50) (drop 50 old)) - 42 ≡ length old - 92 = omega (arith, room, h) in
    let frame : drop 50 (put_mid 50 (length old - 50) old inner) ≡ frame_bytes ends (length old - 92) = behind ∙ f ∙ ap (frame_bytes ends) size in
    e ∙ ap (encap_pushed port dst src src_ip dst_ip 5001) frame ∙ rw (p, d, s, a, b) refl
