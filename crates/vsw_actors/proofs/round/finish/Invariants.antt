use Rattle.std.proofs.Common.{◌≡◌, ◌+◌, length}
use Rattle.vsw_workers.specs.Rounds.{GoesOn}
use Rattle.vsw_actors.proofs.round.finish.Given as goal

abbrev pub invariant-loop-job : goal.invariant-loop-job
invariant-loop-job g l = GoesOn g.F.Forwarder.what g.F.Forwarder.done g.F.Forwarder.todo l.initial.actor l.actor × (l.job + length (g.F.Forwarder.todo l.actor) ≡ length (g.F.Forwarder.todo l.initial.actor))
