use Rattle.vsw_flows.proofs.Settled.{enters_then}
use Rattle.vsw_flows.proofs.putting.+enter.Goals as goal

pub returns-clause-enters : goal.returns-clause-enters
returns-clause-enters t c =
    enters_then c.args.row c.args.writer.now c.enter_one.new.writer c.enter.new.writer c.args.leaning.now c.enter_one.new.leaning c.enter.new.leaning c.enter_one.ensures.enters c.enter.ensures.enters
