use Rattle.std.proofs.Common.{◌≤◌, length, subst, sym}
use Rattle.vsw_policy.specs.Sound.{Each}
use Rattle.vsw_offload.proofs.ByRow.{all_few}
use Rattle.vsw_offload.proofs.rows.Rows.port_rows.Goals as goal

pub returns-clause-rows : goal.returns-clause-rows
returns-clause-rows c = subst (λ ps. Each (λ p. length p.rows ≤ 16384) ps) (sym c.as_slice.ensures) (all_few c.self.inside.ports c.self.invariant.0.each)
