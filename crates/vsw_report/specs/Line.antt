-- A line of a port as a text, with what places it in the report.
use Rattle.std.specs.Prelude.{ℕ, List, Bool}
use Rattle.std.specs.List.{flat_map, list_any}
use Rattle.vsw_report.specs.declared.told.ToldLine.{ToldLine}
use Rattle.vsw_report.specs.Print.{line_text}
use Rattle.vsw_report.specs.Short.{tells_short}

-- its text, whether it is the entry of its count or a read there, and whether it tells of want of memory
pub record TextLine : Type 0 where
  pub entry : Bool
  pub count : ℕ
  pub short : Bool
  pub text : List ℕ

abbrev pub text_of : ToldLine → TextLine
text_of l = record { entry = l.entry; count = l.count; short = tells_short l.what; text = line_text l }

-- the texts of lines, one after the other
abbrev pub texts : List TextLine → List ℕ
texts ls = flat_map (λ l. l.text) ls

-- one of them tells of want of memory
abbrev pub are_short : List TextLine → Bool
are_short ls = list_any (λ l. l.short) ls
