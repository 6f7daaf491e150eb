-- Heads of rows whose packets pass, and all that is made of rows.
use Rattle.std.specs.Prelude.{◌≡◌, ◌≢◌, ◌≤◌, ◌<◌, ℕ, zero, suc, List, [], ◌∷◌, drop, get_or, length, true, Option, Some, None, IfSome}
use Rattle.vsw_base.specs.declared.fate.Verdict.TheVariants.{Pass}
use Rattle.vsw_base.specs.declared.flow.Ufid.{Ufid}
use Rattle.vsw_base.specs.declared.header.Header.{Header}
use Rattle.vsw_base.specs.Frame.{Parts}
use Rattle.vsw_base.specs.Shape.{encaps}
use Rattle.vsw_offload.specs.Answered.{bytes_by, bytes_told, fate_by}
use Rattle.vsw_offload.specs.declared.answer.Given.{Given}
use Rattle.vsw_offload.specs.declared.heads.Head.{Head}
use Rattle.vsw_offload.specs.declared.making.Edits.{Edits}
use Rattle.vsw_offload.specs.declared.port_rows.PortRows.{PortRows}
use Rattle.vsw_offload.specs.Private.Finding.{HasOne}
use Rattle.vsw_offload.specs.Private.Making.{ArePlaces, EditsNone, IsPlaceOf}
use Rattle.vsw_offload.specs.Rows.{IsRow, key_of}
use Rattle.vsw_policy.specs.Sound.{Each}
use Rattle.vsw_rows.specs.Good.{Row}
use Rattle.vsw_rows.specs.Rows.{Says}
use Rattle.vsw_transpose.specs.Apply.{apply}
use Rattle.vsw_transpose.specs.Fits as fit
use Rattle.vsw_transpose.specs.Form.{is_form}
use Rattle.vsw_words.specs.Key.{key_words}
use Rattle.vsw_words.specs.Law.{IsId}

-- a key with these words, and 0 in the place of the others
abbrev pub bare_key : ℕ → ℕ → ℕ → ℕ → List ℕ
bare_key first dst src pair = first ∷ 0 ∷ dst ∷ src ∷ 0 ∷ 0 ∷ 0 ∷ 0 ∷ pair ∷ 0 ∷ 0 ∷ 0 ∷ 0 ∷ 0 ∷ 0 ∷ 0 ∷ []

-- what a head keeps of a key
abbrev pub bare_of : List ℕ → List ℕ
bare_of key = bare_key (get_or key 0 0) (get_or key 2 0) (get_or key 3 0) (get_or key 8 0)

-- the key that a head is of
abbrev pub head_key : Head → List ℕ
head_key h = bare_key h.first h.dst h.src h.pair

-- at the place stand these headers, if it is one
abbrev pub AtPlace : List (List Header) → Option ℕ → List Header → Type 0
AtPlace stacks None made = Unit {0}
AtPlace stacks (Some place) made = (place < length stacks) × (get_or stacks place [] ≡ made)

-- a head is that of the words of a row whose packets pass: without a place they pass as they came
pub record IsHead (words : List ℕ) (stacks : List (List Header)) (h : Head) : Type 0 where
  pub key : key_of words ≡ head_key h
  pub pass : (r : Row) → Says words r → r.verdict ≡ Pass
  pub until : (r : Row) → Says words r → r.until ≡ h.until
  pub none : h.place ≡ None → EditsNone (drop 16 words)
  pub made : IsPlaceOf words stacks h.place

-- what stands in a free slot
abbrev pub no_head : Head
no_head = record { first = 0; dst = 0; src = 0; pair = 0; until = 0; place = None }

-- a head is that of one of the rows, unless the slot is free
abbrev pub IsHeadOf : List (List ℕ) → List (List Header) → Head → Type 0
IsHeadOf rows stacks h = h.first ≢ 0 → (words : List ℕ) × HasOne rows words × IsHead words stacks h

abbrev pub AreHeads : List (List ℕ) → List (List Header) → List Head → Type 0
AreHeads rows stacks hs = (n : ℕ) → IsHeadOf rows stacks (get_or hs n no_head)

-- with a head of one of their rows more, heads are of their rows still
abbrev pub TakesHead : Head → (old new : List Head) → Type 0
TakesHead h old new = (rows : List (List ℕ)) (stacks : List (List Header)) → IsHeadOf rows stacks h → AreHeads rows stacks old → AreHeads rows stacks new

-- the same of the head of a row with these words, which has this place
abbrev pub TakesRow : List ℕ → Option ℕ → (old new : List Head) → Type 0
TakesRow words place old new = (rows : List (List ℕ)) (stacks : List (List Header)) → HasOne rows words → IsPlaceOf words stacks place → AreHeads rows stacks old → AreHeads rows stacks new

-- a head is of what a key keeps, and good so late
pub record IsHeadFor (h : Head) (key : List ℕ) (moment : ℕ) : Type 0 where
  pub is : h.first ≢ 0
  pub same : head_key h ≡ bare_of key
  pub early : moment ≤ h.until

-- the row of a key passes its packets up to a moment, as a place of headers says
pub record PassesBy (rows : List (List ℕ)) (stacks : List (List Header)) (key : List ℕ) (moment : ℕ) (place : Option ℕ) : Type 0 where
  pub words : List ℕ
  pub one : HasOne rows words
  pub same : key_of words ≡ key
  pub pass : (r : Row) → Says words r → r.verdict ≡ Pass
  pub early : (r : Row) → Says words r → moment ≤ r.until
  pub none : place ≡ None → EditsNone (drop 16 words)
  pub made : IsPlaceOf words stacks place

-- of a frame of the row, too
pub record PassesFrame (p : Parts) (stacks : List (List Header)) (place : Option ℕ) (r : Row) : Type 0 where
  pub pass : r.verdict ≡ Pass
  pub form : is_form r.acts ≡ true
  pub fits : fit.fits r.acts p.stack ≡ true
  pub none : place ≡ None → (apply r.acts p.stack ≡ p.stack) × (fit.kept r.acts ≡ encaps p.stack)
  pub made : AtPlace stacks place (apply r.acts p.stack)

-- what a head answers of a frame of its row's identity
pub record IsByHead (rows : List (List ℕ)) (key : List ℕ) (moment : ℕ) (p : Parts) (g : Given) (out : List ℕ) : Type 0 where
  pub words : List ℕ
  pub one : HasOne rows words
  pub same : key_of words ≡ key
  pub is : IsRow words
  pub early : moment ≤ is.row.until
  pub fate : g.fate ≡ fate_by is.row.acts p is.row.verdict
  pub bytes : bytes_told g.own p g.fate out ≡ bytes_by is.row.acts p g.fate

-- what was made is of these rows
pub record AreMade (rows : List (List ℕ)) (e : Edits) : Type 0 where
  pub places : ArePlaces rows e.places e.stacks
  pub heads : AreHeads rows e.stacks e.heads

-- what is answered a frame of this key by the heads that were made, whichever rows they are of
abbrev pub AnswersByHead : Edits → List ℕ → ℕ → Parts → Option Given → List ℕ → Type 0
AnswersByHead e key moment p given out = (rows : List (List ℕ)) → AreMade rows e → Each IsRow rows → (id : Ufid) → IsId id → key ≡ key_words id.dir id.stack → id.stack ≡ p.stack
    → IfSome given (λ g. IsByHead rows key moment p g out)

-- what was made of the rows of ports
abbrev pub AllMade : List PortRows → List Edits → Type 0
AllMade [] [] = Unit {0}
AllMade [] (e ∷ es) = ⊥
AllMade (p ∷ ps) [] = ⊥
AllMade (p ∷ ps) (e ∷ es) = AreMade p.rows e × AllMade ps es

-- those of the port at a place
abbrev pub made_at : List Edits → ℕ → Option Edits
made_at [] n = None
made_at (e ∷ es) zero = Some e
made_at (e ∷ es) (suc n) = made_at es n
