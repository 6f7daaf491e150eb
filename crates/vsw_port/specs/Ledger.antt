-- A port's layers, and the history that leaves them so.
use Rattle.std.specs.Prelude.{ℕ, List}
use Rattle.vsw_port.specs.declared.event.Event.{Event}
use Rattle.vsw_port.specs.History.{Opening, replay}
use Rattle.vsw_policy.specs.Layer.{LayerSeen}

-- what a port began with, its history since, and for how many more entries its journal has room
pub record LedgerSeen : Type 0 where
  pub opening : Opening
  pub journal : List Event
  pub room : ℕ

-- the layers that stand: those that the history leaves
abbrev pub layers_in : LedgerSeen → List LayerSeen
layers_in c = replay c.opening c.journal
