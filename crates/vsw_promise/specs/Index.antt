-- The index of a schedule: the packets that commands name, ascending, and beside each the place of its command.
use Rattle.std.specs.Prelude.{◌≡◌, ℕ, suc, ◌+◌, ◌-◌, List, [], ◌∷◌, map, length, take, drop, nat_lt, if◌then◌else◌, Some}
use Rattle.std.specs.List.{slice_get}
use Rattle.std.specs.List.Sorted.{IsNonDecreasing}
use Rattle.vsw_commandfile.specs.declared.line.Line.{Line}
use Rattle.vsw_promise.specs.Schedule.{commands_at, next_at}
use Rattle.vsw_promise.specs.declared.schedule.Entry.{Entry}

-- the packets of these commands, with the commands' places, the first of which is this one
abbrev pub entries_from : ℕ → List Line → List Entry
entries_from place [] = []
entries_from place (l ∷ ls) = record { at = l.at; place = place } ∷ entries_from (suc place) ls

-- how many of these ascending numbers are below a limit
abbrev pub count_below : ℕ → List ℕ → ℕ
count_below limit [] = 0
count_below limit (n ∷ ns) = if nat_lt n limit then suc (count_below limit ns) else 0

-- the stretch of a list that stands beside this number among ascending ones
abbrev pub beside : ℕ → List ℕ → List ℕ → List ℕ
beside n ns ys = take (count_below (n + 1) ns - count_below n ns) (drop (count_below n ns) ys)

-- these packets and places are the index of the commands
pub record IsIndex (lines : List Line) (firsts places : List ℕ) : Type 0 where
  pub sorted : IsNonDecreasing firsts
  pub long : length places ≡ length firsts
  pub commands : (n : ℕ) → map (λ place. slice_get lines place) (beside n firsts places) ≡ map Some (commands_at n lines)
  pub next : (low : ℕ) → slice_get firsts (count_below low firsts) ≡ next_at low lines
