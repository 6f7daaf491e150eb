-- Folding a sum as it grows, and at its end, are the same.
use Rattle.std.proofs.Common.{◌≡◌, ℕ, ◌+◌, ◌*◌, ◌-◌, ◌/◌, ◌%◌, ◌^◌, ◌<◌, List, [], ◌∷◌, ◌++◌, refl, sym, ◌∙◌, ap, add_comm, zero-add, arith, length, sum, drop, take, take_all, length-drop, get_or, suc}
use Rattle.std.proofs.Math.Nat.{add-mul-mod_self_left}
use Rattle.std.proofs.lemmas.List.{drop-drop}
use Rattle.std.proofs.lemmas.List.Sums.{sum_by-cons}
use Rattle.vsw_header.specs.Sum.{AreWords, checksum, plus_ones, pseudo_words, sum_ones, words_of}
use Rattle.vsw_header.specs.Fold.{fold_of}

-- 65,535 more fold away
pub fold_more : (n k : ℕ) → 0 < n → fold_of (n + 65535 * k) ≡ fold_of n
fold_more n k h = grind (arith, add-mul-mod_self_left (n - 1) 65535 k)

-- what a number is more than its word
pub fold_split : (n : ℕ) → fold_of n + 65535 * ((n - 1) / 65535) ≡ n
fold_split n = grind arith

pub fold_fits : (n : ℕ) → fold_of n < 65536
fold_fits n = grind arith

-- a sum may be folded before more is added
pub fold_early : (n m : ℕ) → fold_of (fold_of n + m) ≡ fold_of (n + m)
fold_early n m = grind (arith, fold_split n, fold_more (fold_of n + m) ((n - 1) / 65535))

pub fold_same : (a b c : ℕ) → fold_of a ≡ fold_of b → fold_of (a + c) ≡ fold_of (b + c)
fold_same a b c e = sym (fold_early a c) ∙ ap (λ (n : ℕ). fold_of (n + c)) e ∙ fold_early b c

plus_is : (a b : ℕ) → a < 65536 → b < 65536 → plus_ones a b ≡ fold_of (a + b)
plus_is a b ha hb = grind arith

-- carries may be left to the end
pub sum_is : (ws : List ℕ) → AreWords ws → sum_ones ws ≡ fold_of (sum ws)
sum_is [] h = refl
sum_is (w ∷ ws) h = ap (plus_ones w) (sum_is ws h.1) ∙ plus_is w (fold_of (sum ws)) h.0 (fold_fits (sum ws))
    ∙ ap fold_of (add_comm w (fold_of (sum ws))) ∙ fold_early (sum ws) w ∙ ap fold_of (add_comm (sum ws) w ∙ sym (sum_by-cons (λ (x : ℕ). x) w ws))

-- a number is added in the place of the words that it folds like
pub fold_step : (r s f a b whole : ℕ) → fold_of r ≡ fold_of (s + f) → fold_of (f + b) ≡ fold_of a → fold_of (s + a) ≡ whole → fold_of (r + b) ≡ whole
fold_step r s f a b whole e g h = fold_same r (s + f) b e ∙ ap fold_of (omega arith) ∙ fold_same (f + b) a s g ∙ ap fold_of (add_comm a s) ∙ h

-- the eight bytes at 8 * i are added
pub added_at : (bytes : List ℕ) (r s f i whole : ℕ) → fold_of r ≡ fold_of (s + f) → fold_of (f + sum (words_of (drop 8 (take (length bytes - 8 * i) (drop (8 * i) bytes))))) ≡ fold_of (sum (words_of (take (length bytes - 8 * i) (drop (8 * i) bytes)))) → fold_of (s + sum (words_of (drop (8 * i) bytes))) ≡ whole → fold_of (r + sum (words_of (drop (8 * (i + 1)) bytes))) ≡ whole
added_at bytes r s f i whole e g h =
    let tail : take (length bytes - 8 * i) (drop (8 * i) bytes) ≡ drop (8 * i) bytes = take_all (length bytes - 8 * i) (drop (8 * i) bytes) (omega (arith, length-drop (8 * i) bytes)) in
    let next : drop 8 (drop (8 * i) bytes) ≡ drop (8 * (i + 1)) bytes = drop-drop 8 (8 * i) bytes ∙ ap (λ (k : ℕ). drop k bytes) (omega arith) in
    let front = rw (tail, next) at g in
    fold_step r s f (sum (words_of (drop (8 * i) bytes))) (sum (words_of (drop (8 * (i + 1)) bytes))) whole e front h

-- bytes make words
pub are_words : (bytes : List ℕ) → ((i : ℕ) → get_or bytes i 0 < 256) → AreWords (words_of bytes)
are_words [] h = tt
are_words (a ∷ []) h = (omega (arith, h 0), tt)
are_words (a ∷ b ∷ rest) h = (omega (arith, h 0, h 1), are_words rest (λ i. h (suc (suc i))))

-- the checksum of words is the complement of what their sum folds to
pub checksum_is : (ws : List ℕ) (n : ℕ) → AreWords ws → fold_of n ≡ fold_of (sum ws) → 65535 - fold_of n ≡ checksum ws
checksum_is ws n h e = ap (λ (x : ℕ). 65535 - x) (e ∙ sym (sum_is ws h))

pub fresh_is : (bytes : List ℕ) (n : ℕ) → ((i : ℕ) → get_or bytes i 0 < 256) → fold_of n ≡ fold_of (0 + sum (words_of bytes)) → 65535 - fold_of n ≡ checksum (words_of bytes)
fresh_is bytes n h e = checksum_is (words_of bytes) n (are_words bytes h) (e ∙ ap fold_of (zero-add (sum (words_of bytes))))

-- an address is added whole
address_is : (a n : ℕ) → fold_of (a + n) ≡ fold_of (a / 65536 + (a % 65536 + n))
address_is a n = grind (arith, fold_more (a / 65536 + (a % 65536 + n)) (a / 65536))

six_sum : (a b c d e f : ℕ) (ws : List ℕ) → sum (a ∷ b ∷ c ∷ d ∷ e ∷ f ∷ ws) ≡ a + (b + (c + (d + (e + f + sum ws))))
six_sum a b c d e f ws = simp (sum_by-cons (λ (x : ℕ). x)) (omega arith)

pub pseudo_is : (bytes : List ℕ) (n start src dst proto len : ℕ) → ((i : ℕ) → get_or bytes i 0 < 256) → start ≡ src + dst + proto + len → src < 2 ^ 32 → dst < 2 ^ 32 → proto < 256 → len < 65536 → fold_of n ≡ fold_of (start + sum (words_of bytes)) → 65535 - fold_of n ≡ checksum (pseudo_words src dst proto len ++ words_of bytes)
pseudo_is bytes n start src dst proto len h hn hs hd hp hl e =
    let r : ℕ = proto + len + sum (words_of bytes) in
    let s : ℕ = src / 65536 in
    let t : ℕ = src % 65536 in
    let a : fold_of (start + sum (words_of bytes)) ≡ fold_of (src + (dst + r)) = ap fold_of (omega arith) in
    let b : fold_of (s + (t + (dst + r))) ≡ fold_of (dst + (s + (t + r))) = ap fold_of (omega arith) in
    let c : fold_of (dst / 65536 + (dst % 65536 + (s + (t + r)))) ≡ fold_of (sum (pseudo_words src dst proto len ++ words_of bytes)) = ap fold_of (omega arith ∙ sym (six_sum s t (dst / 65536) (dst % 65536) proto len (words_of bytes))) in
    checksum_is (pseudo_words src dst proto len ++ words_of bytes) n
    (omega (arith, hs), (omega arith, (omega (arith, hd), (omega arith, (omega (arith, hp), (hl, are_words bytes h))))))
    (e ∙ a ∙ address_is src (dst + r) ∙ b ∙ address_is dst (s + (t + r)) ∙ c)
