-- What the words of a row's body say of a frame.
use Rattle.std.specs.Prelude.{◌≡◌, ℕ, List, [], true}
use Rattle.vsw_base.specs.declared.fate.Fate.{Fate}
use Rattle.vsw_base.specs.declared.fate.Fate.TheVariants.{Pass, Drop}
use Rattle.vsw_base.specs.declared.fate.Verdict.TheVariants as verdict
use Rattle.vsw_base.specs.declared.header.Header.{Header}
use Rattle.vsw_base.specs.Frame.{Parts}
use Rattle.vsw_frame.specs.Bytes.{outgoing}
use Rattle.vsw_offload.specs.Answered.{bytes_by, bytes_told, fate_by}
use Rattle.vsw_offload.specs.declared.answer.Given.{Given}
use Rattle.vsw_rows.specs.Good.{Row}
use Rattle.vsw_rows.specs.Rows.{Says}
use Rattle.vsw_transpose.specs.declared.act.Act.{Act}
use Rattle.vsw_transpose.specs.Apply.{apply}
use Rattle.vsw_transpose.specs.Fits as fit
use Rattle.vsw_transpose.specs.Form.{is_form}
use Rattle.vsw_words.specs.Doing.{AreOf}

-- the words are of this row's body, whose acts fit the frame where it passes
pub record SaysOf (words : List ℕ) (r : Row) (p : Parts) : Type 0 where
  pub are : AreOf words r.verdict r.acts r.until
  pub fits : r.verdict ≡ verdict.Pass → fit.fits r.acts p.stack ≡ true

-- the same of all words of the row
pub record SaysRow (words : List ℕ) (r : Row) (p : Parts) : Type 0 where
  pub says : Says words r
  pub fits : r.verdict ≡ verdict.Pass → fit.fits r.acts p.stack ≡ true

-- the bytes with which a frame of this fate leaves that has these headers, so many encapsulations kept. A dropped one leaves with none
abbrev pub bytes_with : Parts → List Header → ℕ → Fate → List ℕ
bytes_with p edited kept (Pass len) = outgoing p edited kept
bytes_with p edited kept (Drop why) = []

-- the bytes of what was given a frame are those that these acts leave of it
abbrev pub AreBytesBy : List Act → Parts → Given → List ℕ → Type 0
AreBytesBy acts p g out = bytes_told g.own p g.fate out ≡ bytes_by acts p g.fate

-- the fate is that of a frame which passes by the acts of these words, and so are the bytes
abbrev pub IsFateOfPass : List ℕ → Parts → Fate → Type 0
IsFateOfPass words p fate = (by : List Act) (until : ℕ) → AreOf words verdict.Pass by until → fit.fits by p.stack ≡ true → fate ≡ fate_by by p verdict.Pass

abbrev pub AreBytesOfPass : List ℕ → Parts → Given → List ℕ → Type 0
AreBytesOfPass words p g out = (by : List Act) (until : ℕ) → AreOf words verdict.Pass by until → fit.fits by p.stack ≡ true → AreBytesBy by p g out

-- of whichever acts of a form these headers are what they make of a frame which they fit, this is so
abbrev pub OfActs : Parts → List Header → (List Act → Type 0) → Type 0
OfActs p made so = (by : List Act) → is_form by ≡ true → fit.fits by p.stack ≡ true → made ≡ apply by p.stack → so by
