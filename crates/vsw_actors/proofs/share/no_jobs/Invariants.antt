use Rattle.std.proofs.Common.{◌≡◌, [], replicate}
use Rattle.vsw_actors.specs.Deal.{shared}
use Rattle.vsw_actors.proofs.share.no_jobs.Given as goal

abbrev pub invariant-loop : goal.invariant-loop
invariant-loop l = shared l.shares.items ≡ replicate l.counter []
