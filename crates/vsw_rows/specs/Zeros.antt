-- What the story of a port owes as a story: a good row is 0 beyond its words in use.
use Rattle.std.proofs.Common.{◌≡◌, ℕ, ◌<◌, ◌≤◌, List, sym, subst, length, slice_index_or}
use Rattle.vsw_port.specs.declared.event.Event.{Event}
use Rattle.vsw_port.specs.History.{Opening}
use Rattle.vsw_rows.specs.GoodRows.{IsGoodRow}
use Rattle.vsw_rows.specs.Good.{Row}
use Rattle.vsw_stamps.specs.Order.{front, word_at}
use Rattle.vsw_words.specs.Row.{in_use}
use Rattle.vsw_words.proofs.Used.{row_ends}

pub ends_in_zero : (o : Opening) (h : List Event) (words : List ℕ) → length words ≡ 73 → IsGoodRow o h words → (turn : ℕ) → in_use (front words) ≤ turn → turn < 73 → slice_index_or words (word_at turn) 0 ≡ 0
ends_in_zero o h words len good =
    let row : Row = good.row in
    subst (λ (ws : List ℕ). (turn : ℕ) → in_use (front ws) ≤ turn → turn < 73 → slice_index_or ws (word_at turn) 0 ≡ 0) (sym good.words_is) (row_ends row.id row.verdict row.acts row.until good.id good.body.few)
