-- An actor's lanes that travel between pieces of its work.
use Rattle.std.specs.Prelude.{◌≡◌, ◌≤◌, ◌<◌, ℕ, List, drop, length, take}
use Rattle.vsw_promise.specs.Ports.{PortSeen}
use Rattle.vsw_port.specs.Calls.{Job, Call}
use Rattle.vsw_many.specs.Passes.{PassNow}
use Rattle.vsw_actors.specs.declared.actor.Placed.{Placed}
use Rattle.vsw_actors.specs.declared.lane.Lane.{Lane}
use Rattle.vsw_actors.specs.Actors.{AreAlike, AreMine, HasDone}
use Rattle.vsw_actors.specs.Lanes.{AreFit, fronts_of}

-- with these lanes actor k has done the first of these jobs, so many, and may go on
pub record IsHalfway {J P S : Type 0} (port_in : P → PortSeen) (locals : P → List ℕ) (pass_in : S → PassNow) (job_in : J → Job) (tells : S → List Call → Type 0) (is_of : P → S → Type 0) (permits : S → ℕ) (takes : P → ℕ → J → Type 0) (k : ℕ) (ps : List P) (ls : List (Lane S)) (js : List (Placed J)) (next : ℕ) : Type 0 where
  pub alike : AreAlike locals ps
  pub same : length ps ≡ length ls
  pub small : length ps < 65536
  pub few : length js < 4294967296
  pub within : next ≤ length js
  pub fit : AreFit pass_in is_of permits k (length (drop next js)) ps ls
  pub mine : AreMine port_in job_in takes k ps (drop next js)
  pub done : HasDone port_in locals pass_in job_in tells k ps (fronts_of pass_in ls) ls (take next js)
