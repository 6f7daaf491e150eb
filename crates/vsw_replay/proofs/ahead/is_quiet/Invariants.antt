use Rattle.std.proofs.Common.{◌≡◌, [], filter, take}
use Rattle.vsw_commandfile.specs.declared.line.Line.{Line}
use Rattle.vsw_promise.specs.Schedule.{commands_at}
use Rattle.vsw_replay.proofs.ahead.is_quiet.Given as goal

abbrev pub invariant-loop-place : goal.invariant-loop-place
invariant-loop-place l = filter (λ (k : Line). k.during) (take l.place (commands_at l.fn.first l.fn.schedule)) ≡ []
