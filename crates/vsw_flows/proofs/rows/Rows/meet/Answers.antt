use Rattle.std.proofs.Common.{ap, refl}
use Rattle.vsw_flows.specs.Flows.{Writing}
use Rattle.vsw_flows.proofs.Standings.{same_rows}
use Rattle.vsw_flows.proofs.rows.Rows.meet.Goals as goal

pub invariant_of-self : goal.invariant_of-self
invariant_of-self c =
    let is = c.meet.ensures.writer in
    same_rows c.self.inside.writer c.meet.new.self c.self.inside.leaning c.self.inside.leaning
    (ap (λ (u : Writing). u.view.opening) is) (ap (λ (u : Writing). u.view.history) is) (ap (λ (u : Writing). u.view.stamps) is) (ap (λ (u : Writing). u.view.rows) is) refl c.self.invariant
