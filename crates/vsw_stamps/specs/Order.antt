-- The order in which a look loads the words of a row. What a row of a plain packet of IPv4 needs comes first: four words of its key, and the front of its body. These lie
-- together, so that a look loads few cache lines; the twelve other words of the key are 0 in such a row.
use Rattle.std.specs.Prelude.{ℕ, ◌∷◌, List, [], slice_index_or}

-- the words of a row, 0 to 72, in the order in which a look loads them: the key's plain words, 27 of the body, the key's other words, the 30 words left of the body
abbrev pub turns : List ℕ
turns =
    0 ∷ 2 ∷ 3 ∷ 8
    ∷ 16 ∷ 17 ∷ 18 ∷ 19 ∷ 20 ∷ 21 ∷ 22 ∷ 23 ∷ 24 ∷ 25 ∷ 26 ∷ 27 ∷ 28 ∷ 29 ∷ 30 ∷ 31 ∷ 32 ∷ 33 ∷ 34 ∷ 35 ∷ 36 ∷ 37 ∷ 38 ∷ 39 ∷ 40 ∷ 41 ∷ 42
    ∷ 1 ∷ 4 ∷ 5 ∷ 6 ∷ 7 ∷ 9 ∷ 10 ∷ 11 ∷ 12 ∷ 13 ∷ 14 ∷ 15
    ∷ 43 ∷ 44 ∷ 45 ∷ 46 ∷ 47 ∷ 48 ∷ 49 ∷ 50 ∷ 51 ∷ 52 ∷ 53 ∷ 54 ∷ 55 ∷ 56 ∷ 57 ∷ 58 ∷ 59 ∷ 60 ∷ 61 ∷ 62 ∷ 63 ∷ 64 ∷ 65 ∷ 66 ∷ 67 ∷ 68 ∷ 69 ∷ 70 ∷ 71 ∷ 72
    ∷ []

-- the word that is loaded at a turn
unfoldable pub word_at : ℕ → ℕ
word_at turn = slice_index_or turns turn 0

-- the turn at which a word is loaded
unfoldable pub turn_of : ℕ → ℕ
turn_of word =
    slice_index_or
    (0 ∷ 31 ∷ 1 ∷ 2 ∷ 32 ∷ 33 ∷ 34 ∷ 35 ∷ 3 ∷ 36 ∷ 37 ∷ 38 ∷ 39 ∷ 40 ∷ 41 ∷ 42
    ∷ 4 ∷ 5 ∷ 6 ∷ 7 ∷ 8 ∷ 9 ∷ 10 ∷ 11 ∷ 12 ∷ 13 ∷ 14 ∷ 15 ∷ 16 ∷ 17 ∷ 18 ∷ 19 ∷ 20 ∷ 21 ∷ 22 ∷ 23 ∷ 24 ∷ 25 ∷ 26 ∷ 27 ∷ 28 ∷ 29 ∷ 30
    ∷ 43 ∷ 44 ∷ 45 ∷ 46 ∷ 47 ∷ 48 ∷ 49 ∷ 50 ∷ 51 ∷ 52 ∷ 53 ∷ 54 ∷ 55 ∷ 56 ∷ 57 ∷ 58 ∷ 59 ∷ 60 ∷ 61 ∷ 62 ∷ 63 ∷ 64 ∷ 65 ∷ 66 ∷ 67 ∷ 68 ∷ 69 ∷ 70 ∷ 71 ∷ 72
    ∷ [])
    word 0

-- the seven words that are loaded first: four of the key, and three of the body, which tell how many words are in use
abbrev pub front : List ℕ → List ℕ
front row = slice_index_or row 0 0 ∷ slice_index_or row 2 0 ∷ slice_index_or row 3 0 ∷ slice_index_or row 8 0 ∷ slice_index_or row 16 0 ∷ slice_index_or row 17 0 ∷ slice_index_or row 18 0 ∷ []
