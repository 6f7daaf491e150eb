-- Where stamps and words stand in the table, so that a look loads few cache lines.
use Rattle.std.specs.Prelude.{ℕ, ◌+◌, ◌-◌, ◌*◌, nat_lt, if◌then◌else◌}
use Rattle.vsw_stamps.specs.Order.{turn_of}

-- The table begins with word 0, which each entry changes, and 13 words of nobody, so that no row shares a cache line of eight words with it. Then comes the near part of
-- each row, 32 words: its stamp, and the 31 words that a look loads first. Behind those of all rows comes the far part of each, the other 42 words.
abbrev pub table_size : ℕ → ℕ
table_size rows = 14 + 74 * rows

-- where a row's stamp stands
abbrev pub stamp_place : ℕ → ℕ
stamp_place row = 14 + 32 * row

-- where the word of a row stands that is loaded at a turn, in a table of so many rows
unfoldable pub turn_place : ℕ → ℕ → ℕ → ℕ
turn_place rows row turn = if nat_lt turn 31 then 15 + 32 * row + turn else 14 + 32 * rows + 42 * row + (turn - 31)

-- where a row's word stands
abbrev pub word_place : ℕ → ℕ → ℕ → ℕ
word_place rows row word = turn_place rows row (turn_of word)
