-- The lines of all callers at one port.
use Rattle.std.specs.Prelude.{◌≢◌, ℕ, zero, suc, List, [], ◌∷◌, ◌++◌, drop, map, set, take}
use Rattle.std.specs.List.{flat_map}
use Rattle.vsw_report.specs.Line.{TextLine}
use Rattle.vsw_policy.specs.Sound.{Each}
use Rattle.vsw_crew.specs.Texts.{caller_at, row_at}

-- so many callers with no lines
abbrev pub quiet : ℕ → List (List TextLine)
quiet zero = []
quiet (suc n) = [] ∷ quiet n

-- a row whose lines at a port are gone
abbrev pub gone : ℕ → List (List TextLine) → List (List TextLine)
gone place row = set row place []

abbrev pub all_gone : ℕ → List (List (List TextLine)) → List (List (List TextLine))
all_gone place rows = map (gone place) rows

-- no place is given twice
abbrev pub AreOnce : List ℕ → Type 0
AreOnce [] = Unit {0}
AreOnce (k ∷ ks) = Each (λ j. j ≢ k) ks × AreOnce ks

-- the lines of the controller at a place of the policy, out of both its rows
abbrev pub pair_at : ℕ → List (List (List TextLine)) → List (List (List TextLine)) → ℕ → List (List TextLine)
pair_at place firsts laters k = caller_at place (row_at k firsts) ∷ caller_at place (row_at k laters) ∷ []

-- of so many workers and of the controllers at these places
abbrev pub lines_at : ℕ → List ℕ → List (List (List TextLine)) → List (List (List TextLine)) → ℕ → List (List TextLine)
lines_at workers places lines firsts place = map (caller_at place) (take workers lines) ++ flat_map (pair_at place firsts (drop 16 lines)) places
