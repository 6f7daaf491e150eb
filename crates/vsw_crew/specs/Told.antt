-- What callers tell of their calls.
use Rattle.std.specs.Prelude.{ℕ, List, map}
use Rattle.vsw_harbour.specs.Crew.{lines_for}
use Rattle.vsw_port.specs.Calls.{Call, calls_of}
use Rattle.vsw_port.specs.Order.{counted}
use Rattle.vsw_report.specs.Line.{TextLine}

-- at each port the lines of those of these calls that are caller k's
abbrev pub told_row : List ℕ → List (List Call) → ℕ → List (List TextLine)
told_row cs calls k = map (λ c. lines_for (calls_of cs k c)) calls

-- the rows of so many callers, from this one on
abbrev pub told_rows : List ℕ → List (List Call) → ℕ → ℕ → List (List (List TextLine))
told_rows cs calls first n = map (told_row cs calls) (counted first n)
