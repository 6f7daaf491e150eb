-- What becomes of TCP and UDP checksums where endpoints change.
use Rattle.std.proofs.Common.{◌≡◌, ℕ, zero, suc, ◌+◌, ◌*◌, ◌/◌, ◌%◌, ◌<◌, ◌≤◌, List, [], ◌∷◌, ◌++◌, sym, ◌∙◌, ap, arith, length, take, drop, subst, ◌⊎◌}
use Rattle.vsw_header.specs.Sum.{AreBytes, AreWords, checksum, words_of}
use Rattle.vsw_header.specs.Update.{IsOtherZero, written}
use Rattle.vsw_header.proofs.Folds.{are_words}
use Rattle.vsw_header.specs.L4Change.{checksum_changed, tcp_changed}
use Rattle.vsw_header.specs.L4Right.{IsChange, TcpStaysRight, TcpStaysWrong, pseudo_of, tcp_checksum, tcp_words}
use Rattle.vsw_header.specs.declared.l4_change.Endpoints.{Endpoints}
use Rattle.vsw_header.proofs.L4Update.{ends_right, ends_were, pseudo_is, right_or_zero, words}
use Rattle.vsw_base.proofs.Numbers.{word_is}

-- a zero word in a checksum's place
pub zeroed : (xs : List ℕ) (a b : ℕ) (rest : List ℕ) → AreBytes (xs ++ a ∷ b ∷ rest) → AreBytes (xs ++ 0 ∷ 0 ∷ rest)
zeroed [] a b rest h zero = omega arith
zeroed [] a b rest h (suc zero) = omega arith
zeroed [] a b rest h (suc (suc i)) = h (suc (suc i))
zeroed (x ∷ xs) a b rest h zero = h 0
zeroed (x ∷ xs) a b rest h (suc i) = zeroed xs a b rest (λ j. h (suc j)) i

pub checksum_fits : (ws : List ℕ) → checksum ws < 65536
checksum_fits ws = omega arith

-- the words behind the ports of a TCP segment
abbrev tcp_last : List ℕ → List ℕ
tcp_last segment = words_of (take 12 (drop 4 segment) ++ (0 ∷ 0 ∷ drop 18 segment))

pub words_are : (e : Endpoints) (proto len x y : ℕ) (last : List ℕ) → x ≡ e.src_port → y ≡ e.dst_port → pseudo_of e.at proto len ++ x ∷ y ∷ last ≡ words e proto len last
words_are e proto len x y last p q = rw (p, q) (pseudo_is e.at proto len (e.src_port ∷ e.dst_port ∷ last))

-- a segment's words, and those of the changed one
abbrev TcpWords : Endpoints → Endpoints → List ℕ → Type 0
TcpWords from to segment =
    (tcp_words from.at segment ≡ words from 6 (length segment) (tcp_last segment))
    × (tcp_words to.at (tcp_changed from to segment) ≡ words to 6 (length segment) (tcp_last segment))
    × (tcp_checksum (tcp_changed from to segment) ≡ checksum_changed (tcp_checksum segment) from to)
    × AreWords (tcp_last segment)
    × (tcp_checksum segment < 65536)

tcp_are : (from to : Endpoints) (segment : List ℕ) → IsChange from to segment → 20 ≤ length segment → TcpWords from to segment
tcp_are from to (b0 ∷ b1 ∷ b2 ∷ b3 ∷ b4 ∷ b5 ∷ b6 ∷ b7 ∷ b8 ∷ b9 ∷ c0 ∷ c1 ∷ c2 ∷ c3 ∷ c4 ∷ c5 ∷ c6 ∷ c7 ∷ c8 ∷ c9 ∷ rest) h l =
    let segment = b0 ∷ b1 ∷ b2 ∷ b3 ∷ b4 ∷ b5 ∷ b6 ∷ b7 ∷ b8 ∷ b9 ∷ c0 ∷ c1 ∷ c2 ∷ c3 ∷ c4 ∷ c5 ∷ c6 ∷ c7 ∷ c8 ∷ c9 ∷ rest in
    let sum = checksum_changed (tcp_checksum segment) from to in
    let fits = checksum_fits in
    let last = tcp_last segment in
    let n = length segment in
    let bytes = h.are_bytes in (
      words_are from 6 n (256 * b0 + b1) (256 * b2 + b3) last (omega (arith, h.src_port)) (omega (arith, h.dst_port)),
      words_are to 6 n (256 * (to.src_port / 256 % 256) + to.src_port % 256) (256 * (to.dst_port / 256 % 256) + to.dst_port % 256) last (word_is to.src_port h.new.1) (word_is to.dst_port h.new.2),
      omega arith,
      are_words (b4 ∷ b5 ∷ b6 ∷ b7 ∷ b8 ∷ b9 ∷ c0 ∷ c1 ∷ c2 ∷ c3 ∷ c4 ∷ c5 ∷ 0 ∷ 0 ∷ c8 ∷ c9 ∷ rest) (zeroed (b4 ∷ b5 ∷ b6 ∷ b7 ∷ b8 ∷ b9 ∷ c0 ∷ c1 ∷ c2 ∷ c3 ∷ c4 ∷ c5 ∷ []) c6 c7 (c8 ∷ c9 ∷ rest) (λ i. bytes (suc (suc (suc (suc i)))))),
      omega (arith, bytes 16, bytes 17),
    )
tcp_are from to segment h l = absurd (omega (arith, l))

pub tcp_stays_right : TcpStaysRight
tcp_stays_right from to segment h l e =
    let w = tcp_are from to segment h l.0 in
    w.2 ∙ ends_right (tcp_checksum segment) from to 6 (length segment) (tcp_last segment) h.alike h.old h.new (omega arith) (omega arith) l.1 w.3 (e ∙ ap checksum w.0) ∙ ap checksum (sym w.1)

pub tcp_stays_wrong : TcpStaysWrong
tcp_stays_wrong from to segment h l e =
    let w = tcp_are from to segment h l.0 in
    let n = length segment in
    let last = tcp_last segment in
    let was = ends_were (tcp_checksum segment) from to 6 n last h.alike h.old h.new (omega arith) l.1 w.3 w.4 (ap written (sym w.2 ∙ e ∙ ap checksum w.1)) in
    let P : List ℕ → Type 0 = λ ws. (tcp_checksum segment ≡ checksum ws) ⊎ IsOtherZero (tcp_checksum segment) (checksum ws) in
    subst P (sym w.0) (right_or_zero (tcp_checksum segment) from 6 n last h.old (omega arith) (omega arith) l.1 w.3 was)
