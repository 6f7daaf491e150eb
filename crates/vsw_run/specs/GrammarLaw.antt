-- The grammar, and what is worked out of the words, are one.
use Rattle.std.specs.Prelude.{◌≡◌, ◌↔◌, List, ℕ, Some, None}
use Rattle.vsw_run.specs.Grammar.{Asks}
use Rattle.vsw_run.specs.Words.{Asked, asked_in}

-- words ask for something exactly where it is worked out of them
abbrev pub ReadsGrammar : Type 0
ReadsGrammar = (words : List (List ℕ)) (asked : Asked) → (asked_in words ≡ Some asked) ↔ Asks words asked

-- they are refused exactly where they ask for nothing
abbrev pub RefusesOthers : Type 0
RefusesOthers = (words : List (List ℕ)) → (asked_in words ≡ None) ↔ ((asked : Asked) → ¬ (Asks words asked))

-- the grammar has one reading
abbrev pub OneReading : Type 0
OneReading = (words : List (List ℕ)) (one other : Asked) → Asks words one → Asks words other → one ≡ other
