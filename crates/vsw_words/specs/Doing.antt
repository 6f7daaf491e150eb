-- What the words of a body tell, and what its acts come to.
use Rattle.std.specs.Prelude.{◌≡◌, ℕ, ◌+◌, ◌/◌, List, [], ◌∷◌, Bool, true, false, length}
use Rattle.vsw_base.specs.declared.fate.Verdict.{Verdict}
use Rattle.vsw_base.specs.declared.header.Header.{Header}
use Rattle.vsw_base.specs.Shape.{encaps}
use Rattle.vsw_words.specs.declared.doing.Doing.{Doing}
use Rattle.vsw_transpose.specs.declared.act.Act.{Act}
use Rattle.vsw_transpose.specs.declared.act.Act.TheVariants.{Push, Pop, Modify, Ignore}
use Rattle.vsw_transpose.specs.Apply.{apply}
use Rattle.vsw_transpose.specs.Fits.{kept}
use Rattle.vsw_transpose.specs.Form.{pops, pushed}
use Rattle.vsw_words.specs.Reading.{IsBody}
use Rattle.vsw_words.specs.Row.{body_words}

-- the words are those of this body
abbrev pub AreOf : List ℕ → Verdict → List Act → ℕ → Type 0
AreOf words verdict by until = IsBody verdict by × (words ≡ body_words verdict by until)

-- one of the acts doesn't leave its header as it is
abbrev pub edits : List Act → Bool
edits [] = false
edits (Push h ∷ xs) = true
edits (Pop ∷ xs) = true
edits (Modify c ∷ xs) = true
edits (Ignore ∷ xs) = edits xs

-- the encapsulations that acts pop, and those that they push, three acts each, and whether they change anything
abbrev pub doing_by : List Act → Doing
doing_by by = record { pops = pops by / 3; pushes = length (pushed by) / 3; edits = edits by }

-- what that says of a stack that the acts fit: its encapsulations are those that are kept and those that are popped, the edited stack's those
-- that are kept and those that are pushed, and where nothing is changed the edited stack is the same, and all are kept
pub record Moves (by : List Act) (hs : List Header) (doing : Doing) : Type 0 where
  pub before : encaps hs ≡ kept by + doing.pops
  pub after : encaps (apply by hs) ≡ kept by + doing.pushes
  pub same : doing.edits ≡ false → apply by hs ≡ hs
  pub all : doing.edits ≡ false → kept by ≡ encaps hs
