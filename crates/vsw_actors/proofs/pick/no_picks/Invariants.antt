use Rattle.std.proofs.Common.{◌≡◌, [], map, replicate}
use Rattle.vsw_actors.proofs.pick.no_picks.Given as goal

abbrev pub invariant-loop : goal.invariant-loop
invariant-loop l = map (λ v. v.items) l.picks.items ≡ replicate l.counter []
