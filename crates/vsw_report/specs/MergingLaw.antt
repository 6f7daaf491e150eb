-- What the order is for one caller.
use Rattle.std.specs.Prelude.{◌≡◌, ℕ, ◌+◌, List, [], ◌∷◌}
use Rattle.vsw_report.specs.Line.{TextLine}
use Rattle.vsw_report.specs.Order.{InCounts, in_order}

-- the lines of one caller stand in its own order
abbrev pub OneCallerInOrder : Type 0
OneCallerInOrder = (low more : ℕ) (lines : List TextLine) → InCounts low lines (low + more) → in_order (lines ∷ []) low more ≡ lines
