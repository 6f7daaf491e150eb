-- Bytes are a report, or they have one bad line.
use Rattle.std.specs.Prelude.{◌≡◌, ◌⊎◌, ℕ, List}
use Rattle.vsw_report.specs.declared.round.Round.{Round}
use Rattle.vsw_check.specs.Report.{IsReport, IsBadLine}

-- all bytes are one of the two
abbrev pub EachIsJudged : Type 0
EachIsJudged = (bytes : List ℕ) → ((rounds : List Round) × IsReport bytes rounds) ⊎ ((number : ℕ) × IsBadLine bytes number)

-- a report has no bad line
abbrev pub NoReportIsBad : Type 0
NoReportIsBad = (bytes : List ℕ) (rounds : List Round) (number : ℕ) → IsReport bytes rounds → IsBadLine bytes number → ⊥

-- a bad line is the only one
abbrev pub OneBadLine : Type 0
OneBadLine = (bytes : List ℕ) (m n : ℕ) → IsBadLine bytes m → IsBadLine bytes n → m ≡ n

-- the rounds of a report are the only ones
abbrev pub OneReport : Type 0
OneReport = (bytes : List ℕ) (rounds others : List Round) → IsReport bytes rounds → IsReport bytes others → rounds ≡ others
