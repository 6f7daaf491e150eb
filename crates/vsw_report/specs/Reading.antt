-- The rounds that a text tells.
use Rattle.std.specs.Prelude.{ℕ, ◌==◌, List, [], ◌∷◌, Option, Some, None, option_and_then, codes, bytes_eq, if◌then◌else◌}
use Rattle.std.specs.List.{slice_split}
use Rattle.vsw_report.specs.declared.round.Loose.{Loose}
use Rattle.vsw_report.specs.declared.round.PortRound.{PortRound}
use Rattle.vsw_report.specs.declared.round.Round.{Round}
use Rattle.vsw_report.specs.declared.told.ToldLine.{ToldLine}
use Rattle.vsw_report.specs.Words.{Line, of_round, of_port, of_told, loose_begins, of_loose, line_in}

abbrev pub in_front : Option Line → Option (List Line) → Option (List Line)
in_front (Some l) (Some ls) = Some (l ∷ ls)
in_front _ _ = None

-- the lines of the parts between line feeds; behind the last line feed there is nothing
abbrev pub lines_in : List (List ℕ) → Option (List Line)
lines_in [] = None
lines_in ([] ∷ []) = Some []
lines_in ((x ∷ xs) ∷ []) = None
lines_in (t ∷ u ∷ us) = in_front (line_in t) (lines_in (u ∷ us))

-- what the lines tell from some line on: loose packets of a round and then whole rounds, or lines of a port, ports and loose packets of a
-- round and then whole rounds
pub data Tail : Type 0 where
  in_loose : List Loose → List Round → Tail
  in_ports : List ToldLine → List PortRound → List Loose → List Round → Tail

-- the same with a line before
abbrev pub under_line : Line → Tail → Option Tail
under_line (of_loose l) (in_loose ls rs) = Some (in_loose (l ∷ ls) rs)
under_line loose_begins (in_loose ls rs) = Some (in_ports [] [] ls rs)
under_line (of_told t) (in_ports ts ps ls rs) = Some (in_ports (t ∷ ts) ps ls rs)
under_line (of_port port before after) (in_ports ts ps ls rs) = Some (in_ports [] (record { port = port; before = before; after = after; lines = ts } ∷ ps) ls rs)
under_line (of_round first) (in_ports [] ps ls rs) = Some (in_loose [] (record { first = first; ports = ps; loose = ls } ∷ rs))
under_line _ _ = None

abbrev pub tail_in : List Line → Option Tail
tail_in [] = Some (in_loose [] [])
tail_in (l ∷ ls) = option_and_then (under_line l) (tail_in ls)

-- whole rounds alone
abbrev pub whole : Tail → Option (List Round)
whole (in_loose [] rs) = Some rs
whole _ = None

-- the rounds that the parts of a text tell behind the head line
abbrev pub rounds_of : List (List ℕ) → Option (List Round)
rounds_of [] = None
rounds_of (head ∷ parts) = if bytes_eq head (codes "vsw report 1") then option_and_then whole (option_and_then tail_in (lines_in parts)) else None

-- the rounds of which the text is a report
abbrev pub rounds_in : List ℕ → Option (List Round)
rounds_in text = rounds_of (slice_split (λ b. b == 10) text)
