use Rattle.std.proofs.Common.{◌≡◌, ◌-◌, subst}
use Rattle.vsw_table.specs.Steps.{shaken}
use Rattle.vsw_flows.specs.Flows.{Writing}
use Rattle.vsw_flows.proofs.Thinned.{shook}
use Rattle.vsw_flows.proofs.falling.fall.Goals as goal

pub returns-then-is_standing : goal.returns-then-is_standing
returns-then-is_standing c =
    shook c.args.mark c.args.writer.now c.shake.new.self c.args.leaning.now c.leave.new.self (c.is_standing.ensures.told c.if-is_standing.true).0
    (subst (λ (u : Writing). c.shake.new.self ≡ record u { view = shaken u.view (c.args.mark - 1) }) c.is_standing.ensures.same c.shake.ensures)
    c.leave.ensures.kept c.leave.ensures.others
