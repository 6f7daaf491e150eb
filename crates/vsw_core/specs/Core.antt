-- A port under its lock: what contracts see of it, how it begins, and what it keeps.
use Rattle.std.specs.Prelude.{◌≡◌, ◌≤◌, ◌+◌, ◌==◌, ℕ, zero, suc, List, [], ◌∷◌, Bool, Some, if◌then◌else◌}
use Rattle.vsw_base.specs.declared.header.Header.{Header}
use Rattle.vsw_port.specs.declared.event.Event.{Event}
use Rattle.vsw_policy.specs.Layer.{LayerSeen}
use Rattle.vsw_policy.specs.Layers.{PolicySeen}
use Rattle.vsw_port.specs.Ledger.{LedgerSeen}
use Rattle.vsw_rows.specs.GoodRows.{opening_of}
use Rattle.vsw_rows.specs.Rows.{IsEmpty, layers_after}
use Rattle.vsw_table.specs.Rules.{row_at, stamp_at}
use Rattle.vsw_flows.specs.Flows.{Writing}

-- the right to write rows, whose history is the port's, the headers with which the walk of the last packet ended, and whether the last packet that
-- was to leave a row has one that stands
pub record CoreSeen : Type 0 where
  pub writer : Writing
  pub edited : List Header
  pub left : Bool

-- the entries of the port, oldest first
abbrev pub history_of : CoreSeen → List Event
history_of c = c.writer.view.history

-- the layers that stand: those that the history leaves of the policy
abbrev pub layers_of : PolicySeen → CoreSeen → List LayerSeen
layers_of p c = layers_after p (history_of c)

-- the sum of permits
abbrev pub total : List ℕ → ℕ
total [] = 0
total (n ∷ ns) = n + total ns

-- how many of the first rows are current
abbrev pub current_among : ℕ → Writing → ℕ
current_among zero v = 0
current_among (suc n) v = current_among n v + (if stamp_at v.view.stamps n == 0 then 0 else 1)

-- a writer at the beginning: there is no entry and no permit, and all rows are empty and say nothing
pub record Begins (p : PolicySeen) (v : Writing) : Type 0 where
  pub opens : v.view.opening ≡ Some p
  pub history : v.view.history ≡ []
  pub stamps : (place : ℕ) → stamp_at v.view.stamps place ≡ 0
  pub rows : (place : ℕ) → IsEmpty (row_at v.view.rows place)
  pub permits : total v.view.kept ≡ 0

-- what a port keeps: its layers follow the one history that its rows have, and its journal has room for all entries that passes may make
pub record IsOwned (c : LedgerSeen) (v : Writing) (permits : ℕ) : Type 0 where
  pub opening : (p : PolicySeen) → v.view.opening ≡ Some p → c.opening ≡ opening_of p
  pub journal : c.journal ≡ v.view.history
  pub granted : total v.view.kept ≤ permits
  pub room : permits ≤ c.room
