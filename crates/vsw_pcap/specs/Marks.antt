-- Records by marks: where the bytes of each begin and end among the bytes of all.
use Rattle.std.specs.Prelude.{ℕ, ◌-◌, ◌≤◌, List, [], ◌∷◌, take, drop}
use Rattle.vsw_pcap.specs.declared.batch.Mark.{Mark}
use Rattle.vsw_pcap.specs.declared.capture.Record.{Record}

-- the record of a mark
abbrev pub marked : List ℕ → Mark → Record
marked bytes m = record { moment = m.moment; original = m.original; bytes = take (m.end - m.begin) (drop m.begin bytes) }

abbrev pub all_marked : List ℕ → List Mark → List Record
all_marked bytes [] = []
all_marked bytes (m ∷ ms) = marked bytes m ∷ all_marked bytes ms

-- a mark lies within so many bytes
abbrev pub IsWithin : ℕ → Mark → Type 0
IsWithin n m = (m.begin ≤ m.end) × (m.end ≤ n)

abbrev pub AreWithin : ℕ → List Mark → Type 0
AreWithin n [] = Unit {0}
AreWithin n (m ∷ ms) = IsWithin n m × AreWithin n ms
