use Rattle.std.proofs.Common.{◌≡◌, ℕ, List, map, take}
use Rattle.vsw_policy.specs.Sound.{Each}
use Rattle.vsw_actors.specs.Actors.{placed_of}
use Rattle.vsw_actors.specs.Picks.{IsPick, picked_jobs}
use Rattle.vsw_actors.specs.Work.{IsWork, job_in}
use Rattle.vsw_actors.proofs.pick.jobs_of.Given as goal

abbrev pub invariant-loop-pick : goal.invariant-loop-pick
invariant-loop-pick l = record {
  jobs : map (placed_of job_in) l.jobs.items ≡ picked_jobs l.worker l.first l.packets (take l.pick-index l.picks);
  work : (ports : ℕ) (cs : List ℕ) → Each (IsPick ports l.packets) l.picks → Each (IsWork ports cs) l.jobs.items;
}
