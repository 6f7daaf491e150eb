-- The text of a round in pieces.
use Rattle.std.specs.Prelude.{ℕ, List, ◌++◌}
use Rattle.std.specs.List.{concat}
use Rattle.vsw_report.specs.declared.sheets.RoundText.{RoundText}

-- the sheets one after the other, and then the end
abbrev pub whole_text : RoundText → List ℕ
whole_text t = concat t.sheets ++ t.end.items
