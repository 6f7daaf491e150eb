-- What was written is read back, and its checksum is right.
use Rattle.std.proofs.Common.{◌≡◌, ℕ, ◌+◌, ◌*◌, ◌/◌, ◌%◌, ◌^◌, ◌<◌, ◌≤◌, false, List, ◌∷◌, ◌++◌, drop, take, length, refl, sym, ◌∙◌, ap, arith}
use Rattle.std.specs.Prelude.{Ok, slice_index}
use Rattle.std.proofs.lemmas.Grind.{common_steps}
use Rattle.std.proofs.lemmas.List.{drop-drop, drop-take}
use Rattle.byteorder.specs.Endian.{big_bytes, big_number}
use Rattle.vsw_base.specs.Ipv4.{IpFields, ip_fields, ip_of, ip_total}
use Rattle.vsw_header.specs.Sum.{AreWords, checksum, sum_ones, words_of}
use Rattle.vsw_header.proofs.Changed as changed
use Rattle.vsw_header.specs.Ip.{Checks, ReadsBack, ip_bytes, pushed_checksum}
use Rattle.vsw_base.proofs.Numbers.{two_is, word_is}

four_is : (x : ℕ) → x < 2 ^ 32 → big_number 4 (big_bytes 4 x) ≡ x
four_is x h = omega arith

ip_is : (bytes : List ℕ) → 20 ≤ length bytes → slice_index bytes 0 ≡ 0x45 → 20 ≤ ip_total bytes → ip_total bytes ≤ length bytes → ip_of bytes ≡ Ok (ip_fields bytes)
ip_is bytes l v t u = grind (arith, common_steps)

abbrev pub fields : ℕ → ℕ → List ℕ → List ℕ → IpFields
fields src dst payload trailer = record { src = src; dst = dst; proto = 17; part = false; payload = payload; trailer = trailer }

fields_are : (s s' d d' : ℕ) (p p' t t' : List ℕ) → s ≡ s' → d ≡ d' → p ≡ p' → t ≡ t' → fields s d p t ≡ fields s' d' p' t'
fields_are s s' d d' p p' t t' e f g h = rw (e, f, g, h) refl

payload_is : (bytes rest : List ℕ) (m n : ℕ) → m ≡ 20 + n → drop 20 bytes ≡ rest → drop 20 (take m bytes) ≡ take n rest
payload_is bytes rest m n e d = rw (e, drop-take 20 n bytes, d) refl

trailer_is : (bytes rest : List ℕ) (m n : ℕ) → m ≡ 20 + n → drop 20 bytes ≡ rest → drop m bytes ≡ drop n rest
trailer_is bytes rest m n e d = ap (λ (k : ℕ). drop k bytes) (omega arith) ∙ sym (drop-drop n 20 bytes) ∙ ap (drop n) d

read_back : (src dst n sum : ℕ) (rest : List ℕ) → src < 2 ^ 32 → dst < 2 ^ 32 → 20 + n < 2 ^ 16 → n ≤ length rest → ip_of (ip_bytes src dst (20 + n) sum ++ rest) ≡ Ok (fields src dst (take n rest) (drop n rest))
read_back src dst n sum rest hs hd hn l =
    let bytes : List ℕ = ip_bytes src dst (20 + n) sum ++ rest in
    let t : ip_total bytes ≡ 20 + n = two_is (20 + n) hn in
    ip_is bytes (omega arith) refl (omega (arith, t)) (omega (arith, t, l))
    ∙ ap Ok (fields_are _ src _ dst _ (take n rest) _ (drop n rest) (four_is src hs) (four_is dst hd) (payload_is bytes rest (ip_total bytes) n t refl) (trailer_is bytes rest (ip_total bytes) n t refl))

pub reads_back : ReadsBack
reads_back src dst n rest hs hd hn l = read_back src dst n (pushed_checksum src dst (20 + n)) rest hs hd hn l

checks_at : (first last : List ℕ) (w : ℕ) → AreWords first → AreWords last → w ≡ checksum (first ++ 0 ∷ last) → sum_ones (first ++ w ∷ last) ≡ 65535
checks_at first last w f l e = ap (λ (k : ℕ). sum_ones (first ++ k ∷ last)) e ∙ changed.checks first last f l

pub checks : Checks
unfolding pushed_checksum
checks src dst total hs hd ht =
    let bare : List ℕ = ip_bytes src dst total 0 in
    let k : ℕ = checksum (words_of bare) in
    checks_at (words_of (take 10 bare)) (words_of (drop 12 bare)) (256 * (k / 256 % 256) + k % 256) (omega arith, (omega arith, (omega arith, (omega arith, (omega arith, tt))))) (omega arith, (omega arith, (omega arith, (omega arith, tt)))) (word_is k (omega arith))
