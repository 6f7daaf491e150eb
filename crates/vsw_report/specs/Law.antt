-- The law of reading a report back.
use Rattle.std.specs.Prelude.{◌≡◌, ℕ, List, Some}
use Rattle.vsw_report.specs.Print.{report_text}
use Rattle.vsw_report.specs.declared.round.Round.{Round}
use Rattle.vsw_report.specs.Proper.{AreProper}
use Rattle.vsw_report.specs.Reading.{rounds_in}

-- proper rounds are read back from the text of their report
abbrev pub ReadsBack : Type 0
ReadsBack = (rounds : List Round) → AreProper rounds → rounds_in (report_text rounds) ≡ Some rounds

-- two reports with one text are one
abbrev pub OneReport : Type 0
OneReport = (rounds others : List Round) → AreProper rounds → AreProper others → report_text rounds ≡ report_text others → rounds ≡ others

-- rounds are read only of the text of their report
abbrev pub OnlyOfReports : Type 0
OnlyOfReports = (text : List ℕ) (rounds : List Round) → rounds_in text ≡ Some rounds → report_text rounds ≡ text
