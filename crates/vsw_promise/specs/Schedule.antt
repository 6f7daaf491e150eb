-- Which commands belong to which round, and at which packets commands begin a round.
use Rattle.std.specs.Prelude.{ℕ, ◌==◌, not, List, [], ◌∷◌, map, filter, nat_lt, Option, Some, None}
use Rattle.vsw_commandfile.specs.declared.line.Line.{Line}
use Rattle.vsw_port.specs.Order.{ascending}

-- the commands of the round that begins with this packet, in file order
abbrev pub commands_at : ℕ → List Line → List Line
commands_at first lines = filter (λ l. l.at == first) lines

abbrev pub head_of : List ℕ → Option ℕ
head_of [] = None
head_of (n ∷ ns) = Some n

-- the least of these numbers from this one on
abbrev pub least_from : ℕ → List ℕ → Option ℕ
least_from low ns = head_of (filter (λ n. not (nat_lt n low)) (ascending ns))

-- the first packet from this one on that a command names
abbrev pub next_at : ℕ → List Line → Option ℕ
next_at low lines = least_from low (map (λ l. l.at) lines)
