-- Kept encapsulations that were changed in place.
use Rattle.std.proofs.Common.{◌≡◌, ℕ, ◌+◌, ◌-◌, ◌≤◌, List, ◌∷◌, ◌++◌, ◌∙◌, ap, arith, length, take, drop, length-drop, length-take, append_assoc}
use Rattle.std.proofs.lemmas.List.{drop-drop}
use Rattle.std.proofs.lemmas.Slice.{take-put_mid, drop-put_mid}
use borrow.Rule.Slice.PartMut.{put_mid}
use Rattle.vsw_base.specs.declared.header.Header.{Header}
use Rattle.vsw_base.specs.Frame.{Level}
use Rattle.vsw_frame.specs.Bytes.{levels_changed}
use Rattle.vsw_frame.specs.Differ.{differ}
use Rattle.vsw_frame.specs.Kept.{udp_at, udp_kept}
use Rattle.vsw_frame.specs.Layout.{IsAround}

-- what is written over n bytes from k on
put_bytes : (k n : ℕ) (xs ys front rest : List ℕ) → take k xs ≡ front → drop (k + n) xs ≡ rest → put_mid k n xs ys ≡ front ++ (ys ++ rest)
put_bytes k n xs ys front rest e f = ap (λ (l : List ℕ). l ++ (ys ++ drop n (drop k xs))) e ∙ ap (λ (l : List ℕ). front ++ (ys ++ l)) (drop-drop n k xs ∙ ap (λ (m : ℕ). drop m xs) (omega arith) ∙ f)

pub kept_written : (l m : Level) (ls : List Level) (from to : List Header) (u : ℕ) (old x y : List ℕ) → old ≡ l.bytes → IsAround l m.bytes → u ≡ udp_at l.bytes → x ≡ udp_kept (differ from to) (take (u + 16 - u) (drop u old)) → length x ≡ length (take (u + 16 - u) (drop u old)) → y ≡ levels_changed from to (m ∷ ls) → put_mid (u + 16) (u + 16 + length m.bytes - (u + 16)) (put_mid u (u + 16 - u) old x) y ≡ levels_changed from to (l ∷ m ∷ ls)
kept_written l m ls from to u old x y same a h e w f =
    let n : ℕ = length m.bytes in
    let changed = differ from to in
    let inner : List ℕ = levels_changed from to (m ∷ ls) in
    let room : u + 16 + n ≤ length old = omega (arith, a.room, h, ap length same) in
    let k : u + 16 - u ≡ 16 = omega arith in
    let len : length x ≡ 16 = omega (arith, w, length-take (u + 16 - u) (drop u old), length-drop u old, room) in
    let once : List ℕ = put_mid u (u + 16 - u) old x in
    let front : take (u + 16) once ≡ take u old ++ x = take-put_mid u (u + 16 - u) old x (u + 16) (omega (arith, len)) (omega (arith, room)) in
    let ends : drop (u + 16 + n) old ≡ l.slack ++ l.trailer = ap (λ (b : List ℕ). drop (u + 16 + n) b) same ∙ ap (λ (v : ℕ). drop (v + 16 + n) l.bytes) h ∙ a.behind in
    let rest : drop (u + 16 + (u + 16 + n - (u + 16))) once ≡ l.slack ++ l.trailer = drop-put_mid u (u + 16 - u) old x (u + 16 + (u + 16 + n - (u + 16))) (omega arith) (omega (arith, room)) (omega (arith, len)) ∙ ap (λ (v : ℕ). drop v old) (omega arith) ∙ ends in
    let kept : x ≡ udp_kept changed (take 16 (drop (udp_at l.bytes) l.bytes)) =
    e ∙ ap (λ (v : ℕ). udp_kept changed (take v (drop u old))) k ∙ ap (λ (v : ℕ). udp_kept changed (take 16 (drop v old))) h ∙ ap (λ (b : List ℕ). udp_kept changed (take 16 (drop (udp_at l.bytes) b))) same in
    let before : take u old ≡ take (udp_at l.bytes) l.bytes = ap (λ (v : ℕ). take v old) h ∙ ap (take (udp_at l.bytes)) same in
    put_bytes (u + 16) (u + 16 + n - (u + 16)) once y (take u old ++ x) (l.slack ++ l.trailer) front rest
    ∙ append_assoc (take u old) x (y ++ (l.slack ++ l.trailer))
    ∙ ap (λ (b : List ℕ). b ++ (x ++ (y ++ (l.slack ++ l.trailer)))) before
    ∙ ap (λ (b : List ℕ). take (udp_at l.bytes) l.bytes ++ (b ++ (y ++ (l.slack ++ l.trailer)))) kept
    ∙ ap (λ (b : List ℕ). take (udp_at l.bytes) l.bytes ++ (udp_kept changed (take 16 (drop (udp_at l.bytes) l.bytes)) ++ (b ++ (l.slack ++ l.trailer)))) f

-- the inner frame is as it was behind UDP and VXLAN headers that were written
pub inside_kept : (l : Level) (inner : List ℕ) (u : ℕ) (old x : List ℕ) → old ≡ l.bytes → IsAround l inner → u ≡ udp_at l.bytes → length x ≡ length (take (u + 16 - u) (drop u old)) → take (u + 16 + length inner - (u + 16)) (drop (u + 16) (put_mid u (u + 16 - u) old x)) ≡ inner
inside_kept l inner u old x same a h w =
    let n : ℕ = length inner in
    let room : u + 16 + n ≤ length old = omega (arith, a.room, h, ap length same) in
    let len : length x ≡ 16 = omega (arith, w, length-take (u + 16 - u) (drop u old), length-drop u old, room) in
    let behind : drop (u + 16) (put_mid u (u + 16 - u) old x) ≡ drop (u + 16) old = drop-put_mid u (u + 16 - u) old x (u + 16) (omega arith) (omega (arith, room)) (omega (arith, len)) in
    ap (λ (k : ℕ). take k (drop (u + 16) (put_mid u (u + 16 - u) old x))) (omega arith) ∙ ap (take n) (behind ∙ ap (drop (u + 16)) same ∙ ap (λ (v : ℕ). drop (v + 16) l.bytes) h) ∙ a.inside
