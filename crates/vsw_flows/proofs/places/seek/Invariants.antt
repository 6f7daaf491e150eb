use Rattle.std.proofs.Common.{◌≡◌}
use Rattle.vsw_flows.proofs.Searched.{IsSoughtTo}
use Rattle.vsw_flows.proofs.places.seek.Given as goal

abbrev pub invariant-loop-step : goal.invariant-loop-step
invariant-loop-step l = (l.writer ≡ l.initial.writer) × IsSoughtTo l.step l.rows l.key l.initial.writer l.found
