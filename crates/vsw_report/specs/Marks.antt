-- Lines as marks over one text.
use Rattle.std.specs.Prelude.{◌≡◌, ◌≤◌, ◌==◌, ◌&&◌, ◌||◌, not, ℕ, suc, List, [], ◌∷◌, Bool, false, slice_range, if◌then◌else◌}
use Rattle.std.specs.List.{list_any}
use Rattle.vsw_report.specs.Line.{TextLine}
use Rattle.vsw_report.specs.declared.marks.Mark.{Mark}

-- the lines that begin at a place of a text: each ends where its mark says, and there the next begins
abbrev pub lines_in : ℕ → List Mark → List ℕ → List TextLine
lines_in from [] text = []
lines_in from (m ∷ ms) text = record { entry = m.entry; count = m.count; short = m.short; text = slice_range text from m.end } ∷ lines_in m.end ms text

-- from a place on the ends never fall, and the last one is the text's
abbrev pub AreEnds : ℕ → List Mark → ℕ → Type 0
AreEnds from [] top = from ≡ top
AreEnds from (m ∷ ms) top = (from ≤ m.end) × AreEnds m.end ms top

abbrev pub is_read_mark : ℕ → Mark → Bool
is_read_mark n m = not m.entry && (m.count == n)

abbrev pub is_entry_mark : ℕ → Mark → Bool
is_entry_mark n m = m.entry && (m.count == n)

-- the reads at a count at the front: how many, where their text ends, and whether one tells of want of memory
abbrev pub reads_len : ℕ → List Mark → ℕ
reads_len n [] = 0
reads_len n (m ∷ ms) = if is_read_mark n m then suc (reads_len n ms) else 0

abbrev pub reads_end : ℕ → ℕ → List Mark → ℕ
reads_end n from [] = from
reads_end n from (m ∷ ms) = if is_read_mark n m then reads_end n m.end ms else from

abbrev pub reads_short : ℕ → List Mark → Bool
reads_short n [] = false
reads_short n (m ∷ ms) = if is_read_mark n m then m.short || reads_short n ms else false

-- one of all the lines tells of want of memory
abbrev pub any_short : List Mark → Bool
any_short ms = list_any (λ m. m.short) ms

-- the same of the entry of a count, if it is at the front
abbrev pub entry_len : ℕ → List Mark → ℕ
entry_len n [] = 0
entry_len n (m ∷ ms) = if is_entry_mark n m then 1 else 0

abbrev pub entry_end : ℕ → ℕ → List Mark → ℕ
entry_end n from [] = from
entry_end n from (m ∷ ms) = if is_entry_mark n m then m.end else from

abbrev pub entry_short : ℕ → List Mark → Bool
entry_short n [] = false
entry_short n (m ∷ ms) = if is_entry_mark n m then m.short else false
