-- The rounds of the lines that were read so far, and what became of the next line, of the end, and of all lines.
use Rattle.std.specs.Prelude.{◌≡◌, ℕ, List, [], ◌∷◌, ◌++◌, Option, Some, None, Result, Ok, Err, option_and_then}
use Rattle.vsw_report.specs.Reading.{in_loose, tail_in, lines_in}
use Rattle.vsw_report.specs.Words.{line_in, Line, of_round, of_port, of_told, loose_begins, of_loose}
use Rattle.vsw_report.specs.declared.round.Round.{Round}
use Rattle.vsw_report.specs.declared.told.By.TheVariants.{Worker, Controller}
use Rattle.vsw_report.specs.declared.told.What.TheVariants as what
use Rattle.vsw_check.specs.Private.Machine.{step, next, last_bad, bad_line}
use Rattle.vsw_check.specs.declared.report.BadReport.{BadReport}
use Rattle.vsw_check.specs.declared.report.Report.{Report}
use Rattle.vsw_check.specs.declared.report.BadReport.TheVariants as bad
use Rattle.vsw_check.specs.declared.built.Built.{Built}
use Rattle.vsw_check.specs.declared.said.Said.{Said}
use Rattle.vsw_check.specs.declared.said.Said.TheVariants as said
use Rattle.vsw_check.specs.declared.place.Place.{Place}
use Rattle.vsw_check.specs.declared.place.Place.TheVariants.{AtFirst, AtLines, AtLoose}

-- a line that was read
abbrev pub line_of : Said → Line
line_of (said.Round first) = of_round first
line_of (said.Port port before after) = of_port port before after
line_of (said.Packet worker at fate bytes) = of_told (record { by = Worker worker; item = at.item; entry = at.entry; count = at.count; what = what.Fate fate bytes })
line_of (said.Command controller at reply) = of_told (record { by = Controller controller; item = at.item; entry = at.entry; count = at.count; what = what.Reply reply })
line_of said.LooseBegins = loose_begins
line_of (said.Loose l) = of_loose l

-- the port and the round under way, put behind those that are whole
abbrev pub closed_port : Built → Built
closed_port b = record b { ports = b.ports ++ record { port = b.port; before = b.before; after = b.after; lines = b.lines } ∷ []; lines = [] }

abbrev pub closed_round : Built → Built
closed_round b = record b { rounds = b.rounds ++ record { first = b.first; ports = b.ports; loose = b.loose } ∷ []; ports = []; loose = [] }

-- the port under way, and the round under way, are whole where they end
abbrev pub past_port : Place → Built → Built
past_port (AtLines n high low) b = closed_port b
past_port _ b = b

abbrev pub past_round : Place → Built → Built
past_round AtLoose b = closed_round b
past_round _ b = b

-- with one line more
abbrev pub put : Place → Built → Line → Built
put s b (of_round first) = record (past_round s b) { first = first }
put s b (of_port port before after) = record (past_port s b) { port = port; before = before; after = after }
put s b loose_begins = past_port s b
put s b (of_told l) = record b { lines = b.lines ++ l ∷ [] }
put s b (of_loose l) = record b { loose = b.loose ++ l ∷ [] }

-- all rounds
abbrev pub finished : Place → Built → List Round
finished s b = (past_round s b).rounds

-- nothing is built
pub record IsEmpty (b : Built) : Type 0 where
  pub rounds : b.rounds ≡ []
  pub ports : b.ports ≡ []
  pub lines : b.lines ≡ []
  pub loose : b.loose ≡ []

-- what became of a line: it can't stand here, or it was put
abbrev pub Takes : Place → Built → Built → List ℕ → Option Place → Type 0
Takes s b c bytes None = next s bytes ≡ None
Takes s b c bytes (Some t) = (l : Line) × (line_in bytes ≡ Some l) × (step s l ≡ Some t) × (c ≡ put s b l)

-- what became of the end
abbrev pub Ends : Place → Built → ℕ → List ℕ → Result Report BadReport → Type 0
Ends s b n rest (Ok report) = (last_bad s n rest ≡ None) × (report.rounds ≡ finished s b)
Ends s b n rest (Err (bad.Line number)) = last_bad s n rest ≡ Some number
Ends s b n rest (Err bad.Memory) = Unit {0}

-- what became of the lines behind the head line
abbrev pub Reads : List (List ℕ) → Result Report BadReport → Type 0
Reads parts (Ok report) = (bad_line AtFirst 2 parts ≡ None) × (option_and_then tail_in (lines_in parts) ≡ Some (in_loose [] report.rounds))
Reads parts (Err (bad.Line number)) = bad_line AtFirst 2 parts ≡ Some number
Reads parts (Err bad.Memory) = Unit {0}
