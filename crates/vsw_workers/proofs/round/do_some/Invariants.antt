use Rattle.vsw_workers.specs.Rounds.{DoesSome}
use Rattle.vsw_workers.proofs.round.do_some.Given as goal

abbrev pub invariant-loop-place : goal.invariant-loop-place
invariant-loop-place g l = DoesSome g.F.Forwarder.what g.F.Forwarder.done g.F.Forwarder.todo l.place l.initial.actor l.actor
