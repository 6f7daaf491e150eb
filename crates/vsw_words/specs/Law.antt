-- Laws of the words.
use Rattle.std.specs.Prelude.{◌≡◌, ℕ, ◌<◌, ◌≤◌, List, true, length, slice_index_or}
use Rattle.vsw_base.specs.declared.fate.Verdict.{Verdict}
use Rattle.vsw_base.specs.declared.flow.Ufid.{Ufid}
use Rattle.vsw_base.specs.Fits.{AreFit}
use Rattle.vsw_base.specs.Shape.{is_stack}
use Rattle.vsw_stamps.specs.Order.{front, word_at}
use Rattle.vsw_words.specs.Key.{key_words}
use Rattle.vsw_words.specs.Id.{id_of}
use Rattle.vsw_words.specs.Row.{all_halves, row_words, in_use}
use Rattle.vsw_transpose.specs.declared.act.Act.{Act}

-- an identity: its headers are those of a stack, and its numbers lie in the ranges of their fields
pub record IsId (id : Ufid) : Type 0 where
  pub stack : is_stack id.stack ≡ true
  pub fit : AreFit id.stack

-- an identity is read back from its words
abbrev pub Decodes : Type 0
Decodes = (id : Ufid) → IsId id → id_of (key_words id.dir id.stack) ≡ id

-- identities with the same words are the same. What becomes of a packet and what it changes depends, beside its control, its moment and
-- its sizes, on its identity alone, so packets with the same words, control, moment and sizes have the same fate everywhere.
abbrev pub TellsApart : Type 0
TellsApart = (a b : Ufid) → IsId a → IsId b → key_words a.dir a.stack ≡ key_words b.dir b.stack → a ≡ b

-- a row is 0 beyond its words in use, in the order in which a look loads them; it has at most eighteen acts
abbrev pub EndsInZero : Type 0
EndsInZero = (id : Ufid) (verdict : Verdict) (by : List Act) (until : ℕ) → IsId id → length (all_halves by) ≤ 18
    → (turn : ℕ) → in_use (front (row_words id verdict by until)) ≤ turn → turn < 73 → slice_index_or (row_words id verdict by until) (word_at turn) 0 ≡ 0
