-- A report read line by line. What is kept of the lines read is where they end, and at a port its counts alone.
use Rattle.std.specs.Prelude.{ℕ, suc, ◌==◌, ◌&&◌, nat_lt, List, [], ◌∷◌, Bool, true, false, Option, Some, None, option_and_then, codes, bytes_eq, if◌then◌else◌}
use Rattle.std.specs.List.{slice_split}
use Rattle.vsw_report.specs.Words.{Line, of_round, of_port, of_told, loose_begins, of_loose, line_in}
use Rattle.vsw_report.specs.declared.told.ToldLine.{ToldLine}
use Rattle.vsw_report.specs.declared.told.By.{By}
use Rattle.vsw_check.specs.Report.{rank}
use Rattle.vsw_check.specs.declared.said.Kind.{Kind}
use Rattle.vsw_check.specs.declared.said.Kind.TheVariants as kind
use Rattle.vsw_check.specs.declared.place.Place.{Place}
use Rattle.vsw_check.specs.declared.place.Place.TheVariants.{AtFirst, AtPorts, AtLines, AtLoose}

-- a report may end here
abbrev pub is_end : Place → Bool
is_end AtFirst = true
is_end AtLoose = true
is_end _ = false

-- behind the line of a port with these counts
abbrev pub opened : ℕ → ℕ → Option Place
opened before after = if nat_lt after before then None else Some (AtLines before after 0)

-- a read at the count that stands, or its entry
abbrev pub read_next : ℕ → ℕ → ℕ → ℕ → Option Place
read_next n high low r = if nat_lt r low then None else Some (AtLines n high r)

abbrev pub entry_next : ℕ → ℕ → Option Place
entry_next n high = if nat_lt n high then Some (AtLines (suc n) high 0) else None

-- behind a line of a port, at this count of these last ones, where the next read has at least this rank
abbrev pub told_step : ℕ → ℕ → ℕ → By → Bool → ℕ → Option Place
told_step n high low by entry count = if count == n then (if entry then entry_next n high else read_next n high low (rank by)) else None

abbrev pub told_next : ℕ → ℕ → ℕ → ToldLine → Option Place
told_next n high low l = told_step n high low l.by l.entry l.count

-- where the lines end with one of this kind
abbrev pub step_kind : Place → Kind → Option Place
step_kind AtFirst kind.Round = Some AtPorts
step_kind AtLoose kind.Round = Some AtPorts
step_kind AtLoose kind.Loose = Some AtLoose
step_kind AtPorts (kind.Port before after) = opened before after
step_kind AtPorts kind.LooseBegins = Some AtLoose
step_kind (AtLines n high low) (kind.Told by entry count) = told_step n high low by entry count
step_kind (AtLines n high low) (kind.Port before after) = if n == high then opened before after else None
step_kind (AtLines n high low) kind.LooseBegins = if n == high then Some AtLoose else None
step_kind _ _ = None

-- what of a line decides where it may stand
abbrev pub kind_of : Line → Kind
kind_of (of_round first) = kind.Round
kind_of (of_port port before after) = kind.Port before after
kind_of (of_told l) = kind.Told l.by l.entry l.count
kind_of loose_begins = kind.LooseBegins
kind_of (of_loose l) = kind.Loose

-- where the lines end with this one
abbrev pub step : Place → Line → Option Place
step s l = step_kind s (kind_of l)

-- where lines end
abbrev pub run : Place → List Line → Option Place
run s [] = Some s
run s (l ∷ ls) = option_and_then (λ t. run t ls) (step s l)

-- the same of a line's bytes
abbrev pub next : Place → List ℕ → Option Place
next s bytes = option_and_then (step s) (line_in bytes)

abbrev pub is_empty : List ℕ → Bool
is_empty [] = true
is_empty (x ∷ xs) = false

-- the end, before bytes without a line feed: they may be none alone, and behind an end alone
abbrev pub last_bad : Place → ℕ → List ℕ → Option ℕ
last_bad s n rest = if is_end s && is_empty rest then None else Some n

abbrev pub bad_after : ℕ → Option Place → (Place → Option ℕ) → Option ℕ
bad_after n None more = Some n
bad_after n (Some s) more = more s

-- the number of the first bad line from a state on, where the next one has number n; none where the parts between line feeds end a report
abbrev pub bad_line : Place → ℕ → List (List ℕ) → Option ℕ
bad_line s n [] = Some n
bad_line s n (rest ∷ []) = last_bad s n rest
bad_line s n (t ∷ u ∷ us) = bad_after n (next s t) (λ r. bad_line r (suc n) (u ∷ us))

-- of all parts between line feeds, the head line among them
abbrev pub bad_part : List (List ℕ) → Option ℕ
bad_part [] = Some 1
bad_part (rest ∷ []) = Some 1
bad_part (head ∷ t ∷ ts) = if bytes_eq head (codes "vsw report 1") then bad_line AtFirst 2 (t ∷ ts) else Some 1

-- the number of the first bad line, none where the bytes are a report
abbrev pub first_bad : List ℕ → Option ℕ
first_bad bytes = bad_part (slice_split (λ b. b == 10) bytes)

abbrev pub is_feed : ℕ → Bool
is_feed b = b == 10
