use Rattle.vsw_flows.proofs.Standings.{none_stand}
use Rattle.vsw_flows.proofs.rows.Rows.open.Goals as goal

pub invariant_of-result : goal.invariant_of-result
invariant_of-result c = none_stand c.args.writer _ (λ place current. current (c.requires.none place)) c.requires.formed
