-- Values that several words of a line tell together.
use Rattle.std.specs.Prelude.{ℕ, List, [], ◌∷◌, Bool, Option, Some, None}
use Rattle.vsw_report.specs.Words.{Line, of_told}
use Rattle.vsw_report.specs.declared.told.By.{By}
use Rattle.vsw_report.specs.declared.told.What.{What}
use Rattle.vsw_check.specs.declared.said.At.{At}

-- C/L
abbrev pub pair_in : List (Option ℕ) → Option (ℕ × ℕ)
pair_in (Some c ∷ Some l ∷ []) = Some (c, l)
pair_in _ = None

-- C/L/G/R
abbrev pub four_in : List (Option ℕ) → Option (ℕ × ℕ × ℕ × ℕ)
four_in (Some c ∷ Some l ∷ Some g ∷ Some r ∷ []) = Some (c, l, g, r)
four_in _ = None

-- the number of the packet or of the command's line, whether it is an entry, and its count
abbrev pub at_with : Option ℕ → Option Bool → Option ℕ → Option At
at_with (Some item) (Some entry) (Some count) = Some (record { item = item; entry = entry; count = count })
at_with _ _ _ = None

-- a line of a port
abbrev pub told_at : By → Option At → Option What → Option Line
told_at by (Some at) (Some what) = Some (of_told (record { by = by; item = at.item; entry = at.entry; count = at.count; what = what }))
told_at by _ _ = None
