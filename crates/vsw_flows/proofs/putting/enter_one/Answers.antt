use Rattle.vsw_flows.proofs.Settled.{entered_one}
use Rattle.vsw_flows.proofs.putting.enter_one.Goals as goal

pub returns-clause-enters : goal.returns-clause-enters
returns-clause-enters c =
    entered_one c.args.row c.enter-entered.result.way c.args.writer.now c.fall.new.writer c.args.leaning.now c.enter-entered.new.self c.fall.new.leaning
    c.enter-entered.ensures.kept c.enter-entered.ensures.way c.enter-entered.ensures.others c.fall.ensures
