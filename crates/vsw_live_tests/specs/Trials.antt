-- What is tried: a port, and passes of it.
use Rattle.std.specs.Prelude.{◌≡◌, ◌≤◌, ◌+◌, ℕ, Bool, [], ◌∷◌}
use Rattle.vsw_flows.specs.Flows.{IsOf, Looking, Writing}
use Rattle.vsw_live.specs.Calls.{one_if}
use Rattle.vsw_live.specs.Ports.{AreNewPasses, OpenSeen}

-- a port of 64 rows, that began with a policy of controllers 1 and 2
pub record IsTried (l : Looking) : Type 0 where
  pub controllers : l.1.controllers ≡ 1 ∷ 2 ∷ []
  pub rows : l.2 ≡ 64

-- it is opened, with passes numbered from 0
pub record IsOpened (o : OpenSeen) : Type 0 where
  pub port : IsTried o.port.looking
  pub passes : AreNewPasses o.port.looking 0 o.passes

-- a pass of this port with this number, which may make at least so many entries
pub record Holds (l : Looking) (n left : ℕ) (p : Writing) : Type 0 where
  pub of : IsOf l p
  pub number : p.view.number ≡ n
  pub enough : left ≤ p.view.permits

-- the pass of controller 1, which stands behind those of sixteen workers
pub record Asks (l : Looking) (left : ℕ) (p : Writing) : Type 0 where
  pub pass : Holds l 16 left p
  pub port : IsTried l

-- a pass after one call more, which takes a permit where it is an entry
pub record Calls (entry : Bool) (p q : Writing) : Type 0 where
  pub table : q.table ≡ p.table
  pub opens : q.view.opening ≡ p.view.opening
  pub number : q.view.number ≡ p.view.number
  pub permits : p.view.permits ≡ q.view.permits + one_if entry
