-- Headers that the acts of rows make of those of their keys.
use Rattle.std.specs.Prelude.{◌≡◌, ◌<◌, ℕ, List, [], drop, get_or, length, true, Option, Some, None}
use Rattle.vsw_base.specs.declared.fate.Verdict.TheVariants.{Pass}
use Rattle.vsw_base.specs.declared.flow.Ufid.{Ufid}
use Rattle.vsw_base.specs.declared.header.Header.{Header}
use Rattle.vsw_base.specs.Shape.{encaps, is_stack}
use Rattle.vsw_offload.specs.Rows.{key_of}
use Rattle.vsw_transpose.specs.declared.act.Act.{Act}
use Rattle.vsw_transpose.specs.Apply.{apply}
use Rattle.vsw_transpose.specs.Fits as fit
use Rattle.vsw_words.specs.Doing.{AreOf}
use Rattle.vsw_words.specs.Key.{key_words}
use Rattle.vsw_words.specs.Law.{IsId}

-- the headers are those that the row's acts make, if it is a pass
abbrev pub IsEdited : List ℕ → List Header → Type 0
IsEdited words made = (id : Ufid) (by : List Act) (until : ℕ) → IsId id → key_of words ≡ key_words id.dir id.stack → AreOf (drop 16 words) Pass by until → made ≡ apply by id.stack

-- the same of a row's key and body
abbrev pub IsEditedBy : (key body : List ℕ) → List Header → Type 0
IsEditedBy key body made = (id : Ufid) (by : List Act) (until : ℕ) → IsId id → key ≡ key_words id.dir id.stack → AreOf body Pass by until → made ≡ apply by id.stack

-- acts of a pass with this body edit nothing
abbrev pub EditsNone : List ℕ → Type 0
EditsNone body = (by : List Act) (until : ℕ) (hs : List Header) → AreOf body Pass by until → is_stack hs ≡ true → fit.fits by hs ≡ true → (apply by hs ≡ hs) × (fit.kept by ≡ encaps hs)

-- at this place stand the headers that the row's acts make, if there is one
abbrev pub IsPlaceOf : List ℕ → List (List Header) → Option ℕ → Type 0
IsPlaceOf words stacks None = Unit {0}
IsPlaceOf words stacks (Some place) = (place < length stacks) × IsEdited words (get_or stacks place [])

-- headers stay where they are
abbrev pub Stay : List (List Header) → List (List Header) → Type 0
Stay old new = (n : ℕ) → n < length old → (n < length new) × (get_or new n [] ≡ get_or old n [])

-- the places of rows
abbrev pub ArePlaces : List (List ℕ) → List (Option ℕ) → List (List Header) → Type 0
ArePlaces rows places stacks = (n : ℕ) → IsPlaceOf (get_or rows n []) stacks (get_or places n None)

-- for a pass of these words it is what the acts make of a stack
abbrev pub IsMadeOf : List ℕ → List Header → List Header → Type 0
IsMadeOf words made stack = (by : List Act) (until : ℕ) → AreOf words Pass by until → made ≡ apply by stack
