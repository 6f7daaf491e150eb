use Rattle.std.proofs.Common.{IfOk, subst}
use Rattle.vsw_switch.specs.Export.{GivesAt}
use Rattle.vsw_switch.specs.Switch.{SwitchNow}
use Rattle.vsw_switch.proofs.Given.{rows_ok}
use Rattle.vsw_switch.proofs.switch.Switch.export.Goals as goal

pub returns-clause-rows : goal.returns-clause-rows
returns-clause-rows c =
    rows_ok c.args.self.now c.args.place c.export_at.result
    (subst (λ (now : SwitchNow). IfOk c.export_at.result (GivesAt c.args.place now.ports)) c.self.view_is c.export_at.ensures.gives)
