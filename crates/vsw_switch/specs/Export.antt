-- Rows that ports give to be read elsewhere.
use Rattle.std.specs.Prelude.{◌≡◌, ℕ, zero, suc, List, [], ◌∷◌, length}
use Rattle.vsw_offload.specs.declared.port_rows.PortRows.{PortRows}
use Rattle.vsw_policy.specs.Sound.{Each}
use Rattle.vsw_port.specs.declared.event.Event.{Event}
use Rattle.vsw_promise.specs.Ports.{PortSeen}
use Rattle.vsw_promise.specs.Rounds.{opening_of}
use Rattle.vsw_rows.specs.GoodRows.{IsGoodRow}
use Rattle.vsw_switch.specs.Switch.{PortNow}

-- a port's rows, each good at its history
pub record Gives (p : PortNow) (r : PortRows) : Type 0 where
  pub port : r.port ≡ p.number
  pub mac : r.mac ≡ p.mac
  pub entries : r.entries ≡ length p.journal
  pub good : Each (IsGoodRow p.opening p.journal) r.rows

-- those of the port at a place
abbrev pub GivesAt : ℕ → List PortNow → PortRows → Type 0
GivesAt n [] r = ⊥
GivesAt zero (p ∷ ps) r = Gives p r
GivesAt (suc n) (p ∷ ps) r = GivesAt n ps r

-- rows of a port of the policy, each good at this history
pub record AreRowsAt (p : PortSeen) (h : List Event) (r : PortRows) : Type 0 where
  pub port : r.port ≡ p.number
  pub mac : r.mac ≡ p.mac
  pub entries : r.entries ≡ length h
  pub good : Each (IsGoodRow (opening_of p) h) r.rows

-- rows of the port at a place, each good at its history
abbrev pub HasRowsAt : ℕ → List PortSeen → List (List Event) → PortRows → Type 0
HasRowsAt zero (p ∷ ps) (h ∷ hs) r = AreRowsAt p h r
HasRowsAt (suc n) (p ∷ ps) (h ∷ hs) r = HasRowsAt n ps hs r
HasRowsAt n _ _ r = ⊥
