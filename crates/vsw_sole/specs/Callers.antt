-- The callers of a port: what is known of each one's pass, and what a call leaves of it.
use Rattle.std.specs.Prelude.{◌≡◌, ◌≤◌, ◌+◌, ℕ, suc, Bool, true, false, List, [], ◌∷◌, Option, Some, None, length}
use mathlib.Core.List.{IsPrefix}
use Rattle.vsw_answer.specs.declared.told.Why.{Why}
use Rattle.vsw_base.specs.declared.header.Header.{Header}
use Rattle.vsw_flows.specs.Flows.{IsOf, Looking}
use Rattle.vsw_port.specs.declared.event.Event.{Event}
use Rattle.vsw_flows.specs.Flows.{Writing}
use Rattle.vsw_sole.specs.declared.caller.Caller.{Caller}

-- 1, if so
abbrev pub one_if : Bool → ℕ
one_if true = 1
one_if false = 0

-- what is kept of a caller's pass is so
pub record IsTold (l : Looking) (c : Caller) : Type 0 where
  pub of : IsOf l c.pass
  pub seen : c.seen ≡ length c.pass.view.front
  pub made : c.made ≡ length c.pass.view.receipts
  pub permits : c.permits ≡ c.pass.view.permits
  pub few : c.made + c.permits ≤ 134217728

-- a caller of this number between calls: it has seen a front of the history, and may make as many entries as there is room for
pub record IsCaller (l : Looking) (h : List Event) (room number : ℕ) (c : Caller) : Type 0 where
  pub told : IsTold l c
  pub number_is : c.pass.view.number ≡ number
  pub front : IsPrefix c.pass.view.front h
  pub may : room ≤ c.permits

-- P holds of each caller and its number, which are counted from this one on
abbrev pub Numbered : (ℕ → Caller → Type 0) → ℕ → List Caller → Type 0
Numbered P n [] = Unit {0}
Numbered P n (c ∷ cs) = P n c × Numbered P (suc n) cs

-- a caller before and after a call, which is an entry or none: it has seen the whole history
pub record HasCalled (l : Looking) (h : List Event) (entry : Bool) (c d : Caller) : Type 0 where
  pub told : IsTold l d
  pub number_is : d.pass.view.number ≡ c.pass.view.number
  pub front : d.pass.view.front ≡ h
  pub permits : c.permits ≤ d.permits + one_if entry

-- a caller before and after permits were wanted for it: it has no fewer
pub record Refills (l : Looking) (h : List Event) (c d : Caller) : Type 0 where
  pub told : IsTold l d
  pub number_is : d.pass.view.number ≡ c.pass.view.number
  pub front : IsPrefix d.pass.view.front h
  pub permits : c.permits ≤ d.permits

-- the headers that were edited last: by a row, or by the layers
abbrev pub edited_by : Option Why → List Header → List Header → List Header
edited_by None row layers = row
edited_by (Some why) row layers = layers

-- what a port keeps: its core and its passes are those of one lookup, the workers' passes come first, and then the controllers'
pub record IsSole (l : Looking) (v : Writing) (controllers : List ℕ) (callers : List Caller) (workers room : ℕ) : Type 0 where
  pub core : IsOf l v
  pub callers_are : Numbered (IsCaller l v.view.history room) 0 callers
  pub controllers_are : controllers ≡ l.1.controllers
  pub many : length callers ≡ 16 + length controllers
  pub few : workers ≤ 16
