-- The merge, step by step: what goes over at a count stands at the front of each caller's lines.
use Rattle.std.specs.Prelude.{ℕ, zero, suc, ◌+◌, Bool, false, List, [], ◌∷◌, ◌++◌, map, take, drop, if◌then◌else◌}
use Rattle.std.specs.List.{flat_map}
use Rattle.vsw_report.specs.Order.{is_entry, is_read}
use Rattle.vsw_report.specs.Line.{TextLine}

abbrev pub begins : (TextLine → Bool) → List TextLine → Bool
begins p [] = false
begins p (l ∷ ls) = p l

-- the reads at a count at the front, and what follows them
abbrev pub first_reads : ℕ → List TextLine → List TextLine
first_reads n [] = []
first_reads n (l ∷ ls) = if is_read n l then l ∷ first_reads n ls else []

abbrev pub past_reads : ℕ → List TextLine → List TextLine
past_reads n [] = []
past_reads n (l ∷ ls) = if is_read n l then past_reads n ls else l ∷ ls

-- the entry of a count at the front, and what follows it
abbrev pub first_entry : ℕ → List TextLine → List TextLine
first_entry n ls = if begins (is_entry n) ls then take 1 ls else []

abbrev pub past_entry : ℕ → List TextLine → List TextLine
past_entry n ls = if begins (is_entry n) ls then drop 1 ls else ls

-- the callers' lines behind a count
abbrev pub past : ℕ → List (List TextLine) → List (List TextLine)
past n callers = map (past_entry n) (map (past_reads n) callers)

-- what goes over at a count: the reads of workers and of controllers, and then the entry
abbrev pub reads_of_all : ℕ → List (List TextLine) → List (List TextLine) → List TextLine
reads_of_all n workers controllers = flat_map (first_reads n) workers ++ flat_map (first_reads n) controllers

abbrev pub lines_of_all : ℕ → List (List TextLine) → List (List TextLine) → List TextLine
lines_of_all n workers controllers =
    reads_of_all n workers controllers ++ flat_map (first_entry n) (map (past_reads n) workers) ++ flat_map (first_entry n) (map (past_reads n) controllers)

-- the lines that go over at each count from n to n + more; at the last one reads alone
abbrev pub merged : List (List TextLine) → List (List TextLine) → ℕ → ℕ → List TextLine
merged workers controllers n zero = reads_of_all n workers controllers
merged workers controllers n (suc more) = lines_of_all n workers controllers ++ merged (past n workers) (past n controllers) (n + 1) more
