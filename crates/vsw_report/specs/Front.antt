-- The front of a line.
use Rattle.std.specs.Prelude.{ℕ, List, ◌++◌, codes, decimal}
use Rattle.vsw_report.specs.Print.{by_text, mark_text}
use Rattle.vsw_report.specs.declared.piece.Front.{Front}
use Rattle.vsw_report.specs.declared.told.ToldLine.{ToldLine}
use Rattle.vsw_report.specs.declared.told.What.{What}

-- who brought it, its number and its count
unfoldable pub front_text : Front → List ℕ
front_text f = by_text f.by ++ codes " " ++ decimal f.item ++ mark_text f.entry ++ decimal f.count ++ codes " "

-- a line with this front
abbrev pub fronted : Front → What → ToldLine
fronted f w = record { by = f.by; item = f.item; entry = f.entry; count = f.count; what = w }
