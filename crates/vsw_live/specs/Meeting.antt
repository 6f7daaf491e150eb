-- What a pass knows that meets its port.
use Rattle.std.specs.Prelude.{◌≡◌, ◌<◌, ◌+◌, ℕ, List, [], ◌∷◌}
use mathlib.Core.List.{IsPrefix}
use Rattle.vsw_flows.specs.Flows.{IsOf, Looking, Writing}
use Rattle.vsw_port.specs.declared.event.Event.{Event}
use Rattle.vsw_port.specs.Calls.{entries_naming, named}
use Rattle.vsw_port.specs.History.{AllRight}
use Rattle.vsw_live.specs.Ports.{PortSeen}
use Rattle.vsw_policy.specs.Sound.{Each}
use Rattle.vsw_rows.specs.GoodRows.{opening_of}

-- a port and its whole history, each entry of which is right
pub record HeldSeen : Type 0 where
  pub port : PortSeen
  pub history : List Event

abbrev pub IsRightAt : HeldSeen → Type 0
IsRightAt h = AllRight (opening_of h.port.looking.1) h.history

-- a pass met the port: it has seen the whole history, its receipts are the entries that name it, and every entry names one of the port's
-- passes. It has so many permits more, and nothing else of it has changed
pub record Meets (h : HeldSeen) (more : ℕ) (p q : Writing) : Type 0 where
  pub table : q.table ≡ p.table
  pub number : q.view.number ≡ p.view.number
  pub opens : q.view.opening ≡ p.view.opening
  pub seen : IsPrefix p.view.front h.history
  pub front : q.view.front ≡ h.history
  pub receipts : q.view.receipts ≡ p.view.receipts
  pub own : q.view.receipts ≡ entries_naming h.port.looking.1.controllers q.view.number h.history
  pub permits : q.view.permits ≡ p.view.permits + more
  pub named : Each (λ e. named h.port.looking.1.controllers e < h.port.passes) h.history
  pub right : IsRightAt h

-- passes of this lookup
abbrev pub AreOf : Looking → List Writing → Type 0
AreOf l [] = Unit {0}
AreOf l (p ∷ ps) = IsOf l p × AreOf l ps

-- each pass met the port, and has no more permits than before
abbrev pub AllMeet : HeldSeen → List Writing → List Writing → Type 0
AllMeet h [] [] = Unit {0}
AllMeet h [] (q ∷ qs) = ⊥
AllMeet h (p ∷ ps) [] = ⊥
AllMeet h (p ∷ ps) (q ∷ qs) = Meets h 0 p q × AllMeet h ps qs
