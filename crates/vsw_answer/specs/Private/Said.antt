-- What a row that was found says of the packet that found it.
use Rattle.std.specs.Prelude.{◌≡◌, ◌<◌, ◌≤◌, ◌++◌, ℕ, List, false, true, length, if◌then◌else◌}
use Rattle.vsw_answer.specs.declared.answer.RowAnswer.{RowAnswer}
use Rattle.vsw_answer.specs.declared.answer.RowAnswer.TheVariants.{Read, Control, Miss, Late}
use Rattle.vsw_base.specs.declared.fate.Cause.TheVariants.{Long}
use Rattle.vsw_base.specs.declared.fate.Fate.{Fate}
use Rattle.vsw_base.specs.declared.fate.Fate.TheVariants.{Pass, Drop}
use Rattle.vsw_base.specs.declared.fate.Verdict.TheVariants as verdict
use Rattle.vsw_base.specs.declared.flow.Crossing.{Crossing}
use Rattle.vsw_words.specs.Doing.{AreOf}
use Rattle.vsw_base.specs.declared.flow.Ufid.{Ufid}
use Rattle.vsw_base.specs.declared.header.Header.{Header}
use Rattle.vsw_base.specs.Frame.{Parts}
use Rattle.vsw_port.specs.Cross.{fate_after}
use Rattle.vsw_port.specs.Fate.{fate_by}
use Rattle.vsw_port.specs.Long.{is_long, outgoing_size}
use Rattle.vsw_port.specs.declared.event.Event.{Event}
use Rattle.vsw_port.specs.Calls.{Carried, Reads}
use Rattle.vsw_port.specs.History.{Opening, replay}
use Rattle.vsw_rows.specs.Good.{Good, Row}
use Rattle.vsw_rows.specs.LeanLaw.{stop_by}
use Rattle.vsw_port.specs.declared.crossing.Outcome.{Outcome}
use Rattle.vsw_port.specs.Crossed.{EditsPass, IsOwn}
use Rattle.vsw_rows.specs.Law.{row_found}
use Rattle.vsw_rows.specs.GoodRows.{IsGoodRow, words_of}
use Rattle.vsw_transpose.specs.declared.act.Act.{Act}
use Rattle.vsw_transpose.specs.Apply.{apply}
use Rattle.vsw_transpose.specs.Fits as fit
use Rattle.vsw_words.specs.declared.row.Body.{Body}
use Rattle.vsw_words.specs.Key.{key_words}

-- with the key words of this identity in front, the words are a good row after the history
abbrev pub IsFound : Opening → List Event → Ufid → List ℕ → Type 0
IsFound o h id words = IsGoodRow o h (key_words id.dir id.stack ++ words)

-- what a body says of the packets of this one's identity
abbrev pub row_with : Crossing → Body → Row
row_with x b = row_found x b.verdict b.by b.until

abbrev pub IsBodyOf : Opening → List Event → Crossing → Body → Type 0
IsBodyOf o h x b = Good (replay o h) (row_with x b)

-- with the key words of the packet's identity in front, the words are this row's
abbrev pub AreWordsOf : Crossing → List ℕ → Row → Type 0
AreWordsOf x words row = key_words x.id.dir x.id.stack ++ words ≡ words_of row

-- the words are those of this body, whose acts fit the packet where it passes
abbrev pub IsOf : Crossing → List ℕ → Body → Type 0
IsOf x words b = AreOf words b.verdict b.by b.until × (b.verdict ≡ verdict.Pass → fit.fits b.by x.id.stack ≡ true)

-- the fate that a body gives the packet
abbrev pub fate_said : Crossing → Body → Fate
fate_said x b = fate_by x (fate_after b.verdict (stop_by (row_with x b) x) (apply b.by x.id.stack) (fit.kept b.by))

-- the fate of a packet that passes by these acts, unless it gets too long
abbrev pub fate_passed : Crossing → List Act → Fate
fate_passed x by = if is_long x (apply by x.id.stack) (fit.kept by) then Drop Long else Pass (outgoing_size x (apply by x.id.stack) (fit.kept by))

-- the headers are those that the acts make of the packet's
pub record AreEdited (x : Crossing) (acts : List Act) (edited : List Header) (kept : ℕ) : Type 0 where
  pub stack : edited ≡ apply acts x.id.stack
  pub kept_is : kept ≡ fit.kept acts

abbrev pub IfPasses : Fate → Type 0 → Type 0
IfPasses (Pass len) fact = fact
IfPasses (Drop cause) fact = Unit {0}

abbrev pub IsEdited : Crossing → List Act → List Header → Outcome → Type 0
IsEdited x acts edited outcome = IfPasses outcome.fate (AreEdited x acts edited outcome.kept)

-- what is said of the packet by the row of these words is so after the history
pub record Said (o : Opening) (h : List Event) (x : Crossing) (words : List ℕ) (edited : List Header) (outcome : Outcome) (count : ℕ) : Type 0 where
  pub row : Row
  pub whole : AreWordsOf x words row
  pub id : row.id ≡ x.id
  pub good : Good (replay o h) row
  pub in_time : x.moment ≤ row.until
  pub count_is : count ≡ length h
  pub reads : (p : Parts) (bytes : List ℕ) → Reads (replay o h) (Carried x p outcome.fate bytes)
  pub edits : EditsPass (replay o h) x edited outcome.kept outcome.fate
  pub own : outcome.own ≡ true → IsOwn x edited outcome.kept
  pub entry : outcome.entry ≡ false

pub record SaidLate (o : Opening) (h : List Event) (x : Crossing) (words : List ℕ) : Type 0 where
  pub row : Row
  pub whole : AreWordsOf x words row
  pub id : row.id ≡ x.id
  pub good : Good (replay o h) row
  pub late : row.until < x.moment

abbrev pub Says : Opening → List Event → Crossing → List ℕ → List Header → RowAnswer → Type 0
Says o h x words edited (Read outcome count) = Said o h x words edited outcome count
Says o h x words edited Control = ⊥
Says o h x words edited Miss = ⊥
Says o h x words edited Late = SaidLate o h x words
