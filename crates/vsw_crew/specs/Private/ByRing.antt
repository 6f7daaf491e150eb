-- A piece of a share whose packets come by a ring.
use Rattle.std.specs.Prelude.{◌≡◌, ◌+◌, ◌++◌, ℕ, List, [], ◌∷◌, length}
use Rattle.vsw_harbour.specs.Docks.{is_of, pass_in, permits}
use Rattle.vsw_harbour.specs.Lane.{Lane}
use Rattle.vsw_harbour.specs.Lanes.{AreFit, fronts_of}
use Rattle.vsw_harbour.specs.Seen.{DockSeen, StationSeen}
use Rattle.vsw_port.specs.declared.event.Event.{Event}
use Rattle.vsw_promise.specs.Jobs.{Placed}
use Rattle.vsw_crew.specs.Shares.{RowCarried}

-- a row carried this job behind those before it, and made at most one entry at each port
pub record CarriesOne (k : ℕ) (ds : List DockSeen) (job : Placed) (old new : List (Lane StationSeen)) : Type 0 where
  pub wide : length new ≡ length old
  pub fronts : fronts_of pass_in new ≡ fronts_of pass_in old
  pub fit : (left : ℕ) → AreFit pass_in is_of permits k (left + 1) ds old → AreFit pass_in is_of permits k left ds new
  pub carried : (hs : List (List Event)) (done : List Placed) → RowCarried k ds hs old done → RowCarried k ds hs new (done ++ job ∷ [])
