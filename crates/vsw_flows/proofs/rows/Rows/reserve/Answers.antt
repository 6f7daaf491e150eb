use Rattle.std.proofs.Common.{subst, sym}
use Rattle.vsw_flows.specs.Standing.{AreStanding}
use Rattle.vsw_flows.proofs.rows.Rows.reserve.Goals as goal

pub invariant_of-self : goal.invariant_of-self
invariant_of-self c = subst (AreStanding c.self.inside.writer) (sym c.reserve.ensures.same) c.self.invariant
