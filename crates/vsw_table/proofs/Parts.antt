-- The parts of a row that a look loads, put together.
use Rattle.std.proofs.Common.{◌≡◌, ℕ, zero, suc, ◌+◌, ◌-◌, ◌<◌, ◌≤◌, max, nat_lt, MatchBool, Bool, true, false, List, [], ◌∷◌, ◌++◌, length, map, take, replicate, get_or, bit_or, refl, ap, sym, ◌∙◌, arith, length-append, append_assoc}
use Rattle.std.proofs.lemmas.Grind.{common_steps}
use Rattle.std.proofs.lemmas.List.{length-replicate}
use Rattle.std.proofs.lemmas.Nat.{le_or_l, le_or_r}
use Rattle.vsw_stamps.specs.Order.{word_at}
use Rattle.vsw_stamps.specs.Sound.{Fills}
use Rattle.vsw_stamps.proofs.Turns.{front_word, last_word, other_at, other_word, plain_word}
use Rattle.vsw_table.specs.Held.{Differs}
use Rattle.vsw_table.specs.Private.Parts.{Apart, AreFar, AreOther}

at_left : (xs ys : List ℕ) (k : ℕ) → k < length xs → get_or (xs ++ ys) k 0 ≡ get_or xs k 0
at_left [] ys k lt = absurd (omega (arith, lt))
at_left (x ∷ xs) ys zero lt = refl
at_left (x ∷ xs) ys (suc k) lt = at_left xs ys k (omega (arith, lt))

at_right : (xs ys : List ℕ) (k : ℕ) → length xs ≤ k → get_or (xs ++ ys) k 0 ≡ get_or ys (k - length xs) 0
at_right [] ys k le = let e : k ≡ k - 0 = omega arith in ap (λ (j : ℕ). get_or ys j 0) e
at_right (x ∷ xs) ys zero le = absurd (omega (arith, le))
at_right (x ∷ xs) ys (suc k) le = let e : k - length xs ≡ suc k - suc (length xs) = omega arith in at_right xs ys k (omega (arith, le)) ∙ ap (λ (j : ℕ). get_or ys j 0) e

none_at : (n k : ℕ) → let z : ℕ = 0 in get_or (replicate n z) k 0 ≡ 0
none_at zero k = refl
none_at (suc n) zero = refl
none_at (suc n) (suc k) = none_at n k

zeros_long : (n : ℕ) → let z : ℕ = 0 in length (replicate n z) ≡ n
zeros_long n = let z : ℕ = 0 in length-replicate n z

-- zeros behind a list change no word of it
padded : (xs : List ℕ) (n k : ℕ) → let z : ℕ = 0 in get_or (xs ++ replicate n z) k 0 ≡ get_or xs k 0
padded [] n k = none_at n k
padded (x ∷ xs) n zero = refl
padded (x ∷ xs) n (suc k) = padded xs n k

beyond : (xs : List ℕ) (k : ℕ) → length xs ≤ k → get_or xs k 0 ≡ 0
beyond [] k le = refl
beyond (x ∷ xs) zero le = absurd (omega (arith, le))
beyond (x ∷ xs) (suc k) le = beyond xs k (omega (arith, le))

pub mapped_at : (key ks : List ℕ) (turn : ℕ) → turn < length ks → get_or (map (λ (k : ℕ). get_or key k 0) ks) turn 0 ≡ get_or key (get_or ks turn 0) 0
mapped_at key [] turn lt = absurd (omega (arith, lt))
mapped_at key (k ∷ ks) zero lt = refl
mapped_at key (k ∷ ks) (suc turn) lt = mapped_at key ks turn (omega (arith, lt))

-- the or of numbers is 0 where all are
or_all : ℕ → List ℕ → ℕ
or_all a [] = a
or_all a (x ∷ xs) = or_all (bit_or a x) xs

zeros_of : (a : ℕ) (xs : List ℕ) → or_all a xs ≡ 0 → (k : ℕ) → get_or (a ∷ xs) k 0 ≡ 0
unfolding or_all
zeros_of a [] e zero = e
zeros_of a [] e (suc k) = refl
zeros_of a (x ∷ xs) e zero = let both = zeros_of (bit_or a x) xs e 0 in omega (arith, both, le_or_l a x)
zeros_of a (x ∷ xs) e (suc zero) = let both = zeros_of (bit_or a x) xs e 0 in omega (arith, both, le_or_r a x)
zeros_of a (x ∷ xs) e (suc (suc k)) = zeros_of (bit_or a x) xs e (suc k)

-- a key whose other words have 0 as their or
pub plain_key : (key : List ℕ) → let at = get_or key in
    bit_or (bit_or (bit_or (bit_or (bit_or (bit_or (bit_or (bit_or (bit_or (bit_or (bit_or (at 1 0) (at 4 0)) (at 5 0)) (at 6 0)) (at 7 0)) (at 9 0)) (at 10 0)) (at 11 0)) (at 12 0)) (at 13 0)) (at 14 0)) (at 15 0) ≡ 0
    → (turn : ℕ) → turn < 12 → get_or key (word_at (31 + turn)) 0 ≡ 0
unfolding or_all
plain_key key e turn lt =
    let at = get_or key in
    sym (mapped_at key (1 ∷ 4 ∷ 5 ∷ 6 ∷ 7 ∷ 9 ∷ 10 ∷ 11 ∷ 12 ∷ 13 ∷ 14 ∷ 15 ∷ []) turn lt ∙ ap (λ (k : ℕ). get_or key k 0) (other_at turn lt))
    ∙ zeros_of (at 1 0) (at 4 0 ∷ at 5 0 ∷ at 6 0 ∷ at 7 0 ∷ at 9 0 ∷ at 10 0 ∷ at 11 0 ∷ at 12 0 ∷ at 13 0 ∷ at 14 0 ∷ at 15 0 ∷ []) e turn

by_less : {P : Type 0} (k n : ℕ) → (k < n → P) → (n ≤ k → P) → P
by_less {P} k n here there = by_if (nat_lt k n) refl
  where
    by_if : (b : Bool) → nat_lt k n ≡ b → P
    by_if true e = here (grind (arith, common_steps))
    by_if false e = there (grind (arith, common_steps))

-- a turn is one of the four parts
by_turn : {P : Type 0} (turn : ℕ) → (turn < 4 → P) → (4 ≤ turn → turn < 31 → P) → (31 ≤ turn → turn < 43 → P) → (43 ≤ turn → P) → P
by_turn turn a b c d = by_less turn 4 a (λ four. by_less turn 31 (b four) (λ low. by_less turn 43 (c low) d))

-- the first seven words are those of the front
front_taken : (plain three rest : List ℕ) → length plain ≡ 4 → length three ≡ 3 → take 7 (plain ++ (three ++ rest)) ≡ plain ++ three
front_taken plain three rest p t =
    let long : length (plain ++ three) ≡ 7 = omega (arith, length-append plain three, p, t) in
    ap (take 7) (sym (append_assoc plain three rest)) ∙ seam 7 (plain ++ three) rest long
  where
    seam : (n : ℕ) (xs ys : List ℕ) → length xs ≡ n → take n (xs ++ ys) ≡ xs
    seam zero [] ys e = refl
    seam zero (x ∷ xs) ys e = absurd (omega (arith, e))
    seam (suc n) [] ys e = absurd (omega (arith, e))
    seam (suc n) (x ∷ xs) ys e = ap (λ (l : List ℕ). x ∷ l) (seam n xs ys (omega (arith, e)))

module _ (used : List ℕ → ℕ) (key plain three others : List ℕ) (n : ℕ) (sixteen : length key ≡ 16) (four : length plain ≡ 4) (three_long : length three ≡ 3) (twelve : length others ≡ 12)
    (plain_is : (turn : ℕ) → turn < 4 → get_or plain turn 0 ≡ get_or key (word_at turn) 0) (others_are : (turn : ℕ) → turn < 12 → get_or others turn 0 ≡ get_or key (word_at (31 + turn)) 0)
    (n_is : n ≡ used (plain ++ three)) (low : 7 ≤ n) (high : n ≤ 73) where
  in_key : (body : List ℕ) (turn : ℕ) → word_at turn < 16 → get_or (key ++ body) (word_at turn) 0 ≡ get_or key (word_at turn) 0
  in_key body turn lt = at_left key body (word_at turn) (omega (arith, lt, sixteen))

  in_body : (body : List ℕ) (word : ℕ) → 16 ≤ word → get_or (key ++ body) word 0 ≡ get_or body (word - 16) 0
  in_body body word le = at_right key body word (omega (arith, le, sixteen)) ∙ ap (λ (m : ℕ). get_or body (word - m) 0) sixteen

  other_is : (turn : ℕ) → 31 ≤ turn → turn < 43 → get_or key (word_at turn) 0 ≡ get_or others (turn - 31) 0
  other_is turn a b = let e : 31 + (turn - 31) ≡ turn = omega (arith, a) in sym (others_are (turn - 31) (omega (arith, a, b)) ∙ ap (λ (k : ℕ). get_or key (word_at k) 0) e)

  -- words that lie behind the plain ones
  behind_plain : (tail : List ℕ) (turn : ℕ) → 4 ≤ turn → get_or (plain ++ tail) turn 0 ≡ get_or tail (turn - 4) 0
  behind_plain tail turn le = at_right plain tail turn (omega (arith, le, four)) ∙ ap (λ (m : ℕ). get_or tail (turn - m) 0) four

  at_plain : (tail body : List ℕ) (turn : ℕ) → turn < 4 → get_or (key ++ body) (word_at turn) 0 ≡ get_or (plain ++ tail) turn 0
  at_plain tail body turn lt = in_key body turn (plain_word turn lt) ∙ (sym (plain_is turn lt) ∙ sym (at_left plain tail turn (omega (arith, lt, four))))

  -- a row that is told by its near part
  pub near_told : (near body : List ℕ) → n ≤ 31 → others ≡ replicate 12 0 → length near ≡ n - 7 → body ≡ three ++ (near ++ replicate (54 - length near) 0) → Fills used (plain ++ (three ++ near)) (key ++ body)
  near_told near body small bare long is =
      let tail = three ++ near in
      let words = plain ++ tail in
      let zeros : List ℕ = replicate (54 - length near) 0 in
      let tail_long : length tail ≡ n - 4 = omega (arith, length-append three near, three_long, long, low) in
      let words_long : length words ≡ n = omega (arith, length-append plain tail, four, tail_long, low) in
      let body_is : body ≡ tail ++ zeros = is ∙ sym (append_assoc three near zeros) in
      let body_at : (k : ℕ) → get_or body k 0 ≡ get_or tail k 0 = λ k. ap (λ (l : List ℕ). get_or l k 0) body_is ∙ padded tail (54 - length near) k in
      let body_long : length body ≡ 57 = ap length body_is ∙ omega (arith, length-append tail zeros, zeros_long (54 - length near), tail_long, long, small, low) in (
        omega (arith, words_long, low),
        omega (arith, words_long, high),
        omega (arith, words_long, n_is, ap used (front_taken plain three near four three_long)),
        omega (arith, length-append key body, sixteen, body_long),
        λ turn lt. by_turn turn
            (λ a. at_plain tail body turn a)
            (λ a b. let e : (turn + 12) - 16 ≡ turn - 4 = omega (arith, a) in
            ap (λ (w : ℕ). get_or (key ++ body) w 0) (front_word turn a b) ∙ (in_body body (turn + 12) (omega (arith, a)) ∙ (ap (λ (k : ℕ). get_or body k 0) e ∙ (body_at (turn - 4) ∙ sym (behind_plain tail turn a)))))
            (λ a b. in_key body turn (other_word turn a b) ∙ (other_is turn a b ∙ (ap (λ (l : List ℕ). get_or l (turn - 31) 0) bare ∙ (none_at 12 (turn - 31) ∙ sym (beyond words turn (omega (arith, words_long, small, a)))))))
            (λ a. ap (λ (w : ℕ). get_or (key ++ body) w 0) (last_word turn a lt) ∙ (in_body body turn (omega (arith, a)) ∙ (body_at (turn - 16) ∙ (beyond tail (turn - 16) (omega (arith, tail_long, small, a)) ∙ sym (beyond words turn (omega (arith, words_long, small, a))))))),
      )

  -- a row that is told by its words in both parts
  pub far_told : (words rest body : List ℕ) → AreFar n others words rest → body ≡ three ++ rest → Fills used (plain ++ (three ++ words)) (key ++ body)
  far_told words rest body far is =
      let near = far.0 in
      let last = far.1 in
      let front = three ++ near in
      let zeros : List ℕ = replicate (30 - length last) 0 in
      let words_is : three ++ words ≡ front ++ (others ++ last) = ap (λ (l : List ℕ). three ++ l) far.2 ∙ sym (append_assoc three near (others ++ last)) in
      let body_is : body ≡ front ++ (last ++ zeros) = is ∙ (ap (λ (l : List ℕ). three ++ l) far.5 ∙ sym (append_assoc three near (last ++ zeros))) in
      let all = plain ++ (three ++ words) in
      let front_long : length front ≡ 27 = omega (arith, length-append three near, three_long, far.3) in
      let last_long : length last ≡ max n 43 - 43 = far.4 in
      let tail_long : length (three ++ words) ≡ 39 + length last = ap length words_is ∙ omega (arith, length-append front (others ++ last), length-append others last, front_long, twelve) in
      let all_long : length all ≡ 43 + length last = omega (arith, length-append plain (three ++ words), four, tail_long) in
      let body_long : length body ≡ 57 = ap length body_is ∙ omega (arith, length-append front (last ++ zeros), length-append last zeros, zeros_long (30 - length last), front_long, last_long, high) in
      let all_at : (turn : ℕ) → 4 ≤ turn → get_or all turn 0 ≡ get_or (front ++ (others ++ last)) (turn - 4) 0 = λ turn le. behind_plain (three ++ words) turn le ∙ ap (λ (l : List ℕ). get_or l (turn - 4) 0) words_is in
      let body_at : (k : ℕ) → get_or body k 0 ≡ get_or (front ++ (last ++ zeros)) k 0 = λ k. ap (λ (l : List ℕ). get_or l k 0) body_is in (
        omega (arith, all_long),
        omega (arith, all_long, last_long, high),
        omega (arith, all_long, last_long, n_is, ap used (front_taken plain three words four three_long)),
        omega (arith, length-append key body, sixteen, body_long),
        λ turn lt. by_turn turn
            (λ a. at_plain (three ++ words) body turn a)
            (λ a b. let e : (turn + 12) - 16 ≡ turn - 4 = omega (arith, a) in
            ap (λ (w : ℕ). get_or (key ++ body) w 0) (front_word turn a b) ∙ (in_body body (turn + 12) (omega (arith, a)) ∙ (ap (λ (k : ℕ). get_or body k 0) e
            ∙ (body_at (turn - 4) ∙ (at_left front (last ++ zeros) (turn - 4) (omega (arith, front_long, a, b)) ∙ sym (all_at turn a ∙ at_left front (others ++ last) (turn - 4) (omega (arith, front_long, a, b))))))))
            (λ a b. let e : (turn - 4) - length front ≡ turn - 31 = omega (arith, front_long, a) in
            in_key body turn (other_word turn a b) ∙ (other_is turn a b ∙ sym (all_at turn (omega (arith, a)) ∙ (at_right front (others ++ last) (turn - 4) (omega (arith, front_long, a)) ∙ (ap (λ (k : ℕ). get_or (others ++ last) k 0) e ∙ at_left others last (turn - 31) (omega (arith, twelve, a, b)))))))
            (λ a. let e : (turn - 4) - length front ≡ turn - 31 = omega (arith, front_long, a) in
            let e' : (turn - 31) - length others ≡ turn - 43 = omega (arith, twelve, a) in
            let f : (turn - 16) - length front ≡ turn - 43 = omega (arith, front_long, a) in
            ap (λ (w : ℕ). get_or (key ++ body) w 0) (last_word turn a lt) ∙ (in_body body turn (omega (arith, a)) ∙ (body_at (turn - 16) ∙ (at_right front (last ++ zeros) (turn - 16) (omega (arith, front_long, a)) ∙ (ap (λ (k : ℕ). get_or (last ++ zeros) k 0) f ∙ (padded last (30 - length last) (turn - 43)
            ∙ sym (all_at turn (omega (arith, a)) ∙ (at_right front (others ++ last) (turn - 4) (omega (arith, front_long, a)) ∙ (ap (λ (k : ℕ). get_or (others ++ last) k 0) e ∙ (at_right others last (turn - 31) (omega (arith, twelve, a)) ∙ ap (λ (k : ℕ). get_or last k 0) e')))))))))),
      )

  -- one of the key's other words isn't the wanted one
  pub far_differs : (words : List ℕ) → AreOther others words → Differs (plain ++ (three ++ words)) key
  far_differs words other =
      let k = other.0 in
      let turn = 31 + k in
      let lt : k < 12 = omega (arith, other.1, twelve) in
      let e : (turn - 4) - length three ≡ 24 + k = omega (arith, three_long) in
      let at : get_or (plain ++ (three ++ words)) turn 0 ≡ get_or words (24 + k) 0 = behind_plain (three ++ words) turn (omega arith) ∙ (at_right three words (turn - 4) (omega (arith, three_long)) ∙ ap (λ (j : ℕ). get_or words j 0) e) in (
        turn,
        omega (arith, length-append plain (three ++ words), length-append three words, four, three_long, other.2),
        other_word turn (omega arith) (omega (arith, lt)),
        λ same. other.3 (sym at ∙ (same ∙ sym (others_are k lt))),
      )

-- one of its plain words isn't
pub plain_differs : (key plain words : List ℕ) → length plain ≡ 4 → ((turn : ℕ) → turn < 4 → get_or plain turn 0 ≡ get_or key (word_at turn) 0) → Apart words plain → Differs words key
plain_differs key plain words four is apart =
    let lt : apart.0 < 4 = omega (arith, apart.2, four) in
    (apart.0, apart.1, plain_word apart.0 lt, λ same. apart.3 (same ∙ sym (is apart.0 lt)))

pub other_behind : (near words others : List ℕ) → length near ≡ 24 → Apart words others → AreOther others (near ++ words)
other_behind near words others long apart =
    let k = apart.0 in
    let e : (24 + k) - length near ≡ k = omega (arith, long) in
    (k, apart.2, omega (arith, length-append near words, long, apart.1), λ same. apart.3 (sym (at_right near words (24 + k) (omega (arith, long)) ∙ ap (λ (j : ℕ). get_or words j 0) e) ∙ same))

pub far_is : (used : ℕ) (near words others far rest beyond : List ℕ) → length near ≡ 24 → words ≡ others → length far ≡ max used 43 - 43 → used ≤ 73 → beyond ≡ replicate (30 - length far) 0 → rest ≡ near ++ (far ++ beyond) → AreFar used others ((near ++ words) ++ far) rest
far_is used near words others far rest beyond long is few high zeros whole =
    (near, far, append_assoc near words far ∙ ap (λ (l : List ℕ). near ++ (l ++ far)) is, long, few, whole ∙ ap (λ (l : List ℕ). near ++ (far ++ l)) zeros)

pub told_or_differs : (used : List ℕ → ℕ) (key plain three others : List ℕ) (n : ℕ) → length key ≡ 16 → length plain ≡ 4 → length three ≡ 3 → length others ≡ 12
    → ((turn : ℕ) → turn < 4 → get_or plain turn 0 ≡ get_or key (word_at turn) 0) → ((turn : ℕ) → turn < 12 → get_or others turn 0 ≡ get_or key (word_at (31 + turn)) 0) → n ≡ used (plain ++ three) → 7 ≤ n → n ≤ 73
    → (words rest : List ℕ) (all : Bool) → MatchBool all (AreFar n others words rest) (AreOther others words) → MatchBool all (Fills used (plain ++ (three ++ words)) (key ++ (three ++ rest))) (Differs (plain ++ (three ++ words)) key)
told_or_differs used key plain three others n k p t o pw ow is low high words rest true far = far_told used key plain three others n k p t o pw ow is low high words rest (three ++ rest) far refl
told_or_differs used key plain three others n k p t o pw ow is low high words rest false other = far_differs used key plain three others n k p t o pw ow is low high words other

-- words that were loaded in three steps
pub in_steps : (plain words three rest : List ℕ) → words ≡ plain → (words ++ three) ++ rest ≡ plain ++ (three ++ rest)
in_steps plain words three rest is = append_assoc words three rest ∙ ap (λ (l : List ℕ). l ++ (three ++ rest)) is

-- a key without other words, whose row is told by its near part
pub plain_told : (used : List ℕ → ℕ) (key plain three : List ℕ) (n : ℕ) → length key ≡ 16 → length plain ≡ 4 → length three ≡ 3 → ((turn : ℕ) → turn < 4 → get_or plain turn 0 ≡ get_or key (word_at turn) 0) → ((turn : ℕ) → turn < 12 → get_or key (word_at (31 + turn)) 0 ≡ 0)
    → n ≡ used (plain ++ three) → 7 ≤ n → n ≤ 31 → (near rest : List ℕ) → length near ≡ n - 7 → rest ≡ near ++ replicate (54 - length near) 0 → Fills used (plain ++ (three ++ near)) (key ++ (three ++ rest))
plain_told used key plain three n k p t pw none is low small near rest long told =
    near_told used key plain three (replicate 12 0) n k p t refl pw (λ turn lt. none_at 12 turn ∙ sym (none turn lt)) is low (omega (arith, small)) near (three ++ rest) small refl long (ap (λ (l : List ℕ). three ++ l) told)
