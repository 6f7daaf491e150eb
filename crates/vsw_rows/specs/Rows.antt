-- What the words of a row say, where one with some key words may stand, and which are those of a good row at some layers.
use Rattle.std.specs.Prelude.{◌≡◌, ◌⊎◌, ◌<◌, ◌+◌, ◌%◌, ℕ, List, slice_index_or}
use Rattle.vsw_port.specs.declared.event.Event.{Event}
use Rattle.vsw_port.specs.History.{after, replay}
use Rattle.vsw_policy.specs.Layer.{LayerSeen}
use Rattle.vsw_rows.specs.Good.{IsGoodLeaning, LeaningRow, Row}
use Rattle.vsw_rows.specs.Way.{looks}
use Rattle.vsw_policy.specs.Layers.{PolicySeen}
use Rattle.vsw_rows.specs.GoodRows.{opening_of, words_of}
use Rattle.vsw_walk.specs.declared.scratch.Looked.{Looked}
use Rattle.vsw_words.specs.Law.{IsId}
use Rattle.vsw_words.specs.Reading.{IsBody}
use Rattle.vsw_words.specs.Slot.{slot}

-- the layers after a history that began with this policy
abbrev pub layers_after : PolicySeen → List Event → List LayerSeen
layers_after p h = replay (opening_of p) h

-- the layers after one more entry
abbrev pub layers_then : PolicySeen → List LayerSeen → Event → List LayerSeen
layers_then p ls e = after p.controllers ls e

-- words that say a row
pub record Says (words : List ℕ) (r : Row) : Type 0 where
  pub words_is : words ≡ words_of r
  pub id : IsId r.id
  pub body : IsBody r.verdict r.acts

-- words of no row: a row's first word isn't 0
abbrev pub IsEmpty : List ℕ → Type 0
IsEmpty words = slice_index_or words 0 0 ≡ 0

-- words that are empty, or say a row
abbrev pub IsFormed : List ℕ → Type 0
IsFormed words = IsEmpty words ⊎ ((r : Row) × Says words r)

-- the place is one of the eight, of so many rows, at which a row with these key words may stand
pub record IsProbed (rows : ℕ) (key : List ℕ) (place : ℕ) : Type 0 where
  pub step : ℕ
  pub few : step < 8
  pub is : place ≡ (slot key rows + step) % rows

-- a row leans on all that the packets of its identity look for
abbrev pub leaning : List LayerSeen → Row → LeaningRow
leaning ls r = record { row = r; looks = looks ls r.id }

-- words and looks that are those of a good row at these layers
pub record IsFresh (ls : List LayerSeen) (words : List ℕ) (qs : List Looked) : Type 0 where
  pub row : Row
  pub says : Says words row
  pub good : IsGoodLeaning ls (record { row = row; looks = qs })
