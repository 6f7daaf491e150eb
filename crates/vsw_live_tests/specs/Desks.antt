-- A core over rows, with the passes of worker 0 and of the first controller.
use Rattle.std.specs.Prelude.{◌≡◌, ◌≤◌, ℕ, List, true}
use Rattle.vsw_core.specs.Core.{CoreSeen}
use Rattle.vsw_flows.specs.Flows.{IsOf, Looking, Writing}
use Rattle.vsw_policy.specs.Sound.{is_listed}
use Rattle.vsw_port.specs.Calls.{controller_at}

-- controller 1 stands first: its pass comes behind those of sixteen workers
pub record IsFirst (cs : List ℕ) : Type 0 where
  pub at : controller_at cs 1 ≡ 16
  pub listed : is_listed cs 1 ≡ true

-- all are of one lookup, whose policy has controller 1 first, and each pass has its number, and as many permits as it may make entries
pub record Sits (l : Looking) (c : CoreSeen) (w : Writing) (sends : ℕ) (k : Writing) (asks : ℕ) : Type 0 where
  pub core : IsOf l c.writer
  pub worker : IsOf l w
  pub first : w.view.number ≡ 0
  pub sending : sends ≤ w.view.permits
  pub controller : IsOf l k
  pub behind : k.view.number ≡ 16
  pub asking : asks ≤ k.view.permits
  pub controllers : IsFirst l.1.controllers
