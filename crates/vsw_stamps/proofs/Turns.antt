-- Each word of a row is loaded at one turn. Found by counting them through.
use Rattle.std.proofs.Common.{◌≡◌, ℕ, zero, suc, ◌+◌, ◌-◌, ◌<◌, ◌≤◌, ◌==◌, ◌&&◌, nat_lt, Bool, true, false, refl, ap, sym, ◌∙◌, arith, List, [], ◌∷◌, length, take, get_or}
use mathlib.Core.Logic.{dite}
use native.Mathlib.Decide.{ℕ_discrete}
use Rattle.std.proofs.lemmas.Grind.{common_steps}
use Rattle.vsw_stamps.specs.Order.{word_at, turn_of, front}
use Rattle.vsw_stamps.proofs.Keeps.{is_equal}

-- a test that so many numbers meet, from one on
abbrev each : (ℕ → Bool) → ℕ → ℕ → Bool
each test from zero = true
each test from (suc n) = test from && each test (suc from) n

both_true : (a b : Bool) → (a && b) ≡ true → (a ≡ true) × (b ≡ true)
both_true true b e = (refl, e)
both_true false b e = absurd (cc e)

each_at : (test : ℕ → Bool) (from n k : ℕ) → each test from n ≡ true → from ≤ k → k < from + n → test k ≡ true
each_at test from zero k all low high = absurd (omega (arith, low, high))
each_at test from (suc n) k all low high =
    let both = both_true (test from) (each test (suc from) n) all in
    dite (ℕ_discrete k from) (λ e. ap test e ∙ both.0) (λ ne. each_at test (suc from) n k both.1 (omega (arith, low, ne)) (omega (arith, high)))

pub word_of_turn : (turn : ℕ) → turn < 73 → turn_of (word_at turn) ≡ turn
unfolding word_at turn_of
word_of_turn turn lt = is_equal (turn_of (word_at turn)) turn (each_at (λ n. turn_of (word_at n) == n) 0 73 turn refl (omega arith) lt)

pub turn_of_word : (word : ℕ) → word < 73 → word_at (turn_of word) ≡ word
unfolding word_at turn_of
turn_of_word word lt = is_equal (word_at (turn_of word)) word (each_at (λ n. word_at (turn_of n) == n) 0 73 word refl (omega arith) lt)

below : (a b : ℕ) → nat_lt a b ≡ true → a < b
below a b e = grind (arith, e, common_steps)

pub turn_inside : (word : ℕ) → word < 73 → turn_of word < 73
unfolding word_at turn_of
turn_inside word lt = below (turn_of word) 73 (each_at (λ n. nat_lt (turn_of n) 73) 0 73 word refl (omega arith) lt)

pub word_inside : (turn : ℕ) → turn < 73 → word_at turn < 73
unfolding word_at turn_of
word_inside turn lt = below (word_at turn) 73 (each_at (λ n. nat_lt (word_at n) 73) 0 73 turn refl (omega arith) lt)

-- the key's plain words, the front of the body, the key's other words, and the rest of the body
pub plain_word : (turn : ℕ) → turn < 4 → word_at turn < 16
unfolding word_at turn_of
plain_word turn lt = below (word_at turn) 16 (each_at (λ n. nat_lt (word_at n) 16) 0 4 turn refl (omega arith) lt)

pub front_word : (turn : ℕ) → 4 ≤ turn → turn < 31 → word_at turn ≡ turn + 12
unfolding word_at turn_of
front_word turn low high = is_equal (word_at turn) (turn + 12) (each_at (λ n. word_at n == n + 12) 4 27 turn refl low (omega (arith, high)))

pub other_word : (turn : ℕ) → 31 ≤ turn → turn < 43 → word_at turn < 16
unfolding word_at turn_of
other_word turn low high = below (word_at turn) 16 (each_at (λ n. nat_lt (word_at n) 16) 31 12 turn refl low (omega (arith, high)))

pub last_word : (turn : ℕ) → 43 ≤ turn → turn < 73 → word_at turn ≡ turn
unfolding word_at turn_of
last_word turn low high = is_equal (word_at turn) turn (each_at (λ n. word_at n == n) 43 30 turn refl low (omega (arith, high)))

-- the turns of words
pub turn_front : (word : ℕ) → 16 ≤ word → word < 43 → turn_of word ≡ word - 12
unfolding word_at turn_of
turn_front word low high = is_equal (turn_of word) (word - 12) (each_at (λ n. turn_of n == n - 12) 16 27 word refl low (omega (arith, high)))

pub turn_last : (word : ℕ) → 43 ≤ word → word < 73 → turn_of word ≡ word
unfolding word_at turn_of
turn_last word low high = is_equal (turn_of word) word (each_at (λ n. turn_of n == n) 43 30 word refl low (omega (arith, high)))

-- no word is loaded at two turns
pub turns_apart : (j k : ℕ) → j < 73 → k < 73 → turn_of j ≡ turn_of k → j ≡ k
turns_apart j k lj lk is = sym (turn_of_word j lj) ∙ (ap word_at is ∙ turn_of_word k lk)

seven : (ws : List ℕ) → 7 ≤ length ws → take 7 ws ≡ get_or ws 0 0 ∷ get_or ws 1 0 ∷ get_or ws 2 0 ∷ get_or ws 3 0 ∷ get_or ws 4 0 ∷ get_or ws 5 0 ∷ get_or ws 6 0 ∷ []
seven [] le = absurd (omega (arith, le))
seven (a ∷ []) le = absurd (omega (arith, le))
seven (a ∷ b ∷ []) le = absurd (omega (arith, le))
seven (a ∷ b ∷ c ∷ []) le = absurd (omega (arith, le))
seven (a ∷ b ∷ c ∷ d ∷ []) le = absurd (omega (arith, le))
seven (a ∷ b ∷ c ∷ d ∷ e ∷ []) le = absurd (omega (arith, le))
seven (a ∷ b ∷ c ∷ d ∷ e ∷ f ∷ []) le = absurd (omega (arith, le))
seven (a ∷ b ∷ c ∷ d ∷ e ∷ f ∷ g ∷ ws) le = refl

-- the words that are loaded first are the row's front
pub front_is : (row words : List ℕ) → 7 ≤ length words → ((turn : ℕ) → turn < 7 → get_or row (word_at turn) 0 ≡ get_or words turn 0) → front row ≡ take 7 words
unfolding word_at
front_is row words long same =
    let at : (turn : ℕ) → turn < 7 → get_or row (word_at turn) 0 ≡ get_or words turn 0 = same in
    (λ i. at 0 (omega arith) i ∷ at 1 (omega arith) i ∷ at 2 (omega arith) i ∷ at 3 (omega arith) i ∷ at 4 (omega arith) i ∷ at 5 (omega arith) i ∷ at 6 (omega arith) i ∷ []) ∙ sym (seven words long)

-- the words of a key, by their turns
pub turn_key : (word : ℕ) → word < 16 → get_or (0 ∷ 31 ∷ 1 ∷ 2 ∷ 32 ∷ 33 ∷ 34 ∷ 35 ∷ 3 ∷ 36 ∷ 37 ∷ 38 ∷ 39 ∷ 40 ∷ 41 ∷ 42 ∷ []) word 0 ≡ turn_of word
unfolding word_at turn_of
turn_key word lt =
    is_equal (get_or (0 ∷ 31 ∷ 1 ∷ 2 ∷ 32 ∷ 33 ∷ 34 ∷ 35 ∷ 3 ∷ 36 ∷ 37 ∷ 38 ∷ 39 ∷ 40 ∷ 41 ∷ 42 ∷ []) word 0) (turn_of word)
    (each_at (λ n. get_or (0 ∷ 31 ∷ 1 ∷ 2 ∷ 32 ∷ 33 ∷ 34 ∷ 35 ∷ 3 ∷ 36 ∷ 37 ∷ 38 ∷ 39 ∷ 40 ∷ 41 ∷ 42 ∷ []) n 0 == turn_of n) 0 16 word refl (omega arith) lt)

pub plain_at : (turn : ℕ) → turn < 4 → get_or (0 ∷ 2 ∷ 3 ∷ 8 ∷ []) turn 0 ≡ word_at turn
unfolding word_at turn_of
plain_at turn lt = is_equal (get_or (0 ∷ 2 ∷ 3 ∷ 8 ∷ []) turn 0) (word_at turn) (each_at (λ n. get_or (0 ∷ 2 ∷ 3 ∷ 8 ∷ []) n 0 == word_at n) 0 4 turn refl (omega arith) lt)

pub other_at : (turn : ℕ) → turn < 12 → get_or (1 ∷ 4 ∷ 5 ∷ 6 ∷ 7 ∷ 9 ∷ 10 ∷ 11 ∷ 12 ∷ 13 ∷ 14 ∷ 15 ∷ []) turn 0 ≡ word_at (31 + turn)
unfolding word_at turn_of
other_at turn lt =
    is_equal (get_or (1 ∷ 4 ∷ 5 ∷ 6 ∷ 7 ∷ 9 ∷ 10 ∷ 11 ∷ 12 ∷ 13 ∷ 14 ∷ 15 ∷ []) turn 0) (word_at (31 + turn))
    (each_at (λ n. get_or (1 ∷ 4 ∷ 5 ∷ 6 ∷ 7 ∷ 9 ∷ 10 ∷ 11 ∷ 12 ∷ 13 ∷ 14 ∷ 15 ∷ []) n 0 == word_at (31 + n)) 0 12 turn refl (omega arith) lt)
