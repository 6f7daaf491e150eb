-- What an export gives: the rows that are current, each good at the port's whole history.
use Rattle.std.specs.Prelude.{◌≡◌, ◌<◌, ◌^◌, ◌==◌, ◌++◌, ℕ, zero, suc, List, [], ◌∷◌, length, if◌then◌else◌}
use Rattle.vsw_core.specs.declared.exporting.Exported.{Exported}
use Rattle.vsw_flows.specs.Flows.{Writing}
use Rattle.vsw_policy.specs.Sound.{Each}
use Rattle.vsw_port.specs.declared.event.Event.{Event}
use Rattle.vsw_port.specs.History.{Opening}
use Rattle.vsw_rows.specs.GoodRows.{IsGoodRow}
use Rattle.vsw_table.specs.Rules.{row_at, stamp_at}

-- the words of the row at a place, if it is current
abbrev pub current_at : Writing → ℕ → List (List ℕ)
current_at v place = if stamp_at v.view.stamps place == 0 then [] else row_at v.view.rows place ∷ []

-- the current ones among the first rows, in the order of their places
abbrev pub current_rows : ℕ → Writing → List (List ℕ)
current_rows zero v = []
current_rows (suc n) v = current_rows n v ++ current_at v n

-- 73 words of 64 bits
pub record IsWide (words : List ℕ) : Type 0 where
  pub long : length words ≡ 73
  pub below : Each (λ w. w < 2 ^ 64) words

-- each row is good after this history, which has so many entries
pub record AreGoodAt (o : Opening) (h : List Event) (e : Exported) : Type 0 where
  pub good : Each (IsGoodRow o h) e.rows
  pub wide : Each IsWide e.rows
  pub count : e.count ≡ length h
