-- Checksums of words that change.
use Rattle.std.proofs.Common.{◌≡◌, ℕ, ◌+◌, ◌*◌, ◌-◌, ◌%◌, ◌<◌, ◌≤◌, List, [], ◌∷◌, ◌++◌, refl, sym, ◌∙◌, ap, add_comm, add-zero, drop, arith, length, sum, get_or, suc, Bool, true, false, ◌==◌, if◌then◌else◌}
use Rattle.std.proofs.lemmas.Grind.{common_steps}
use Rattle.std.proofs.lemmas.List.{append-nil, drop_all}
use Rattle.std.proofs.lemmas.List.Sums.{sum_by-append, sum_by-cons}
use Rattle.std.proofs.Math.Nat.{add-mul-mod_self_left, mod-add-mod}
use Rattle.vsw_header.specs.Sum.{AreWords, Checks, checksum, sum_ones}
use Rattle.vsw_header.specs.Fold.{fold_of}
use Rattle.vsw_header.specs.Update.{AreChanged, IgnoresSame, KeepsUnchanged, StaysRight, StaysWritten, changes, update_of, written}
use Rattle.vsw_header.proofs.Folds.{checksum_is, fold_early, fold_fits, fold_more, sum_is}

pub sum_cons : (w : ℕ) (ws : List ℕ) → sum (w ∷ ws) ≡ w + sum ws
sum_cons w ws = sum_by-cons (λ (x : ℕ). x) w ws

are_numbers : (ws : List ℕ) → ((i : ℕ) → get_or ws i 0 < 65536) → AreWords ws
are_numbers [] h = tt
are_numbers (w ∷ ws) h = (omega (arith, h 0), are_numbers ws (λ i. h (suc i)))

pub changes_words : (ms ns : List ℕ) → AreWords ns → AreWords (changes ms ns)
changes_words [] ns h = tt
changes_words (m ∷ ms) [] h = tt
changes_words (m ∷ ms) (n ∷ ns) h = grind (arith, common_steps, changes_words ms ns h.1)

-- a place that differs adds the new word, takes the old one away, and adds 65,535
place_sum : (x y : ℕ) (cs : List ℕ) → x < 65536 → x + sum (if x == y then cs else (65535 - x) ∷ y ∷ cs) ≡ y + sum cs + 65535 * (if x == y then 0 else 1)
place_sum x y cs h = grind (arith, common_steps, sum_cons (65535 - x) (y ∷ cs), sum_cons y cs)

changes_sum : (xs ys : List ℕ) → AreWords xs → length xs ≡ length ys → (k : ℕ) × (sum xs + sum (changes xs ys) ≡ sum ys + 65535 * k)
changes_sum [] [] h l = (0, refl)
changes_sum [] (y ∷ ys) h l = absurd (omega (arith, l))
changes_sum (x ∷ xs) [] h l = absurd (omega (arith, l))
changes_sum (x ∷ xs) (y ∷ ys) h l =
    let rest : (k : ℕ) × (sum xs + sum (changes xs ys) ≡ sum ys + 65535 * k) = changes_sum xs ys h.1 (omega (arith, l)) in
    (rest.0 + (if x == y then 0 else 1), omega (arith, rest.1, place_sum x y (changes xs ys) h.0, sum_cons x xs, sum_cons y ys))

-- an update as one folded sum
pub update_is : (old : ℕ) (ms ns : List ℕ) → AreWords (changes ms ns) → update_of old ms ns ≡ 65535 - fold_of (65535 - old + sum (changes ms ns))
update_is old ms ns h = sym (checksum_is ((65535 - old) ∷ changes ms ns) (65535 - old + sum (changes ms ns)) (omega arith, h) (ap fold_of (sym (sum_cons (65535 - old) (changes ms ns)))))

-- the loop's end: no place is left
pub updated_is : (old total i : ℕ) (ms ns : List ℕ) → ((j : ℕ) → get_or ns j 0 < 65536) → length ms ≤ i → fold_of (total + sum (changes (drop i ms) (drop i ns))) ≡ fold_of (65535 - old + sum (changes ms ns)) → 65535 - fold_of total ≡ update_of old ms ns
updated_is old total i ms ns h l e =
    let none : drop i ms ≡ [] = drop_all i ms l in
    let all = rw none at e in
    ap (λ (n : ℕ). 65535 - fold_of n) (sym (add-zero total)) ∙ ap (λ (n : ℕ). 65535 - n) all ∙ sym (update_is old ms ns (changes_words ms ns (are_numbers ns h)))

differ_words : (ms ns xs ys : List ℕ) → AreChanged ms ns xs ys → AreWords (changes ms ns)
differ_words ms ns xs ys c = rw c.differ (changes_words xs ys c.new_words)

pub stays_right : StaysRight
stays_right old ms ns xs ys c h e =
    let k : (k : ℕ) × (sum xs + sum (changes xs ys) ≡ sum ys + 65535 * k) = changes_sum xs ys c.old_words c.same_length in
    let o : 65535 - old ≡ fold_of (sum xs) = omega (arith, e, sum_is xs c.old_words, fold_fits (sum xs)) in
    let f : fold_of (65535 - old + sum (changes ms ns)) ≡ fold_of (sum ys) = rw (o, fold_early (sum xs) (sum (changes ms ns)), c.differ, k.1) (fold_more (sum ys) k.0 h) in
    update_is old ms ns (differ_words ms ns xs ys c) ∙ checksum_is ys (65535 - old + sum (changes ms ns)) c.new_words f

-- UDP's checksum is the complement of the sum's remainder
written_is : (n : ℕ) → written (65535 - fold_of n) ≡ 65535 - n % 65535
written_is n = grind arith

checksum_written : (ws : List ℕ) → AreWords ws → written (checksum ws) ≡ 65535 - sum ws % 65535
checksum_written ws h = ap written (sym (checksum_is ws (sum ws) h refl)) ∙ written_is (sum ws)

pub stays_written : StaysWritten
stays_written old ms ns xs ys c e =
    let k : (k : ℕ) × (sum xs + sum (changes xs ys) ≡ sum ys + 65535 * k) = changes_sum xs ys c.old_words c.same_length in
    let o : 65535 - old ≡ sum xs % 65535 = omega (arith, e, checksum_written xs c.old_words) in
    let f : (65535 - old + sum (changes ms ns)) % 65535 ≡ sum ys % 65535 = rw (o, mod-add-mod (sum xs) 65535 (sum (changes ms ns)), c.differ, k.1) (add-mul-mod_self_left (sum ys) 65535 k.0) in
    ap written (update_is old ms ns (differ_words ms ns xs ys c)) ∙ written_is (65535 - old + sum (changes ms ns)) ∙ ap (λ (n : ℕ). 65535 - n) f ∙ sym (checksum_written ys c.new_words)

pub append_words : (xs ys : List ℕ) → AreWords xs → AreWords ys → AreWords (xs ++ ys)
append_words [] ys f g = g
append_words (x ∷ xs) ys f g = (f.0, append_words xs ys f.1 g)

sum_among : (first last : List ℕ) (w : ℕ) → sum (first ++ w ∷ last) ≡ w + sum (first ++ 0 ∷ last)
sum_among first last w = omega (arith, sum_by-append (λ (x : ℕ). x) first (w ∷ last), sum_by-append (λ (x : ℕ). x) first (0 ∷ last), sum_cons w last, sum_cons 0 last)

pub checks : Checks
checks first last f l =
    let n : ℕ = sum (first ++ 0 ∷ last) in
    let w : ℕ = checksum (first ++ 0 ∷ last) in
    let s : sum_ones (first ++ 0 ∷ last) ≡ fold_of n = sum_is (first ++ 0 ∷ last) (append_words first (0 ∷ last) f (omega arith, l)) in
    let r : fold_of n + w ≡ 65535 = omega (arith, s, fold_fits n) in
    sum_is (first ++ w ∷ last) (append_words first (w ∷ last) f (omega arith, l)) ∙ ap fold_of (sum_among first last w ∙ add_comm w n) ∙ sym (fold_early n w) ∙ ap fold_of r

changes_same : (xs : List ℕ) → changes xs xs ≡ []
changes_same [] = refl
changes_same (x ∷ xs) = grind (arith, common_steps, changes_same xs)

place_append : (b : Bool) (p q : ℕ) (us vs : List ℕ) → (if b then us ++ vs else p ∷ q ∷ (us ++ vs)) ≡ (if b then us else p ∷ q ∷ us) ++ vs
place_append true p q us vs = refl
place_append false p q us vs = refl

pub changes-append : (xs ys zs ws : List ℕ) → length xs ≡ length ys → changes (xs ++ zs) (ys ++ ws) ≡ changes xs ys ++ changes zs ws
changes-append [] [] zs ws l = refl
changes-append [] (y ∷ ys) zs ws l = absurd (omega (arith, l))
changes-append (x ∷ xs) [] zs ws l = absurd (omega (arith, l))
changes-append (x ∷ xs) (y ∷ ys) zs ws l = rw (changes-append xs ys zs ws (omega (arith, l))) (place_append (x == y) (65535 - x) y (changes xs ys) (changes zs ws))

pub ignores_same : IgnoresSame
ignores_same first ms ns last l = changes-append first first (ms ++ last) (ns ++ last) refl ∙ rw (changes_same first, changes-append ms ns last last l, changes_same last) (append-nil (changes ms ns))

pub keeps_unchanged : KeepsUnchanged
keeps_unchanged old ms h = rw (changes_same ms) (grind arith)
