use Rattle.std.proofs.Common.{option_copied, ap}
use Rattle.vsw_port.proofs.Stays.{none_takes, some_takes}
use Rattle.vsw_port.proofs.wanting.taker.Goals as goal

pub returns-in-None : goal.returns-in-None
returns-in-None c =
    none_takes c.args.left c.args.flows.now.pairs c.args.pair.now c.back-probe.result (option_copied c.find.result) c.requires.apart c.back-probe.ensures c.find.ensures (ap option_copied c.in-None.is)

pub returns-in-Some : goal.returns-in-Some
returns-in-Some c =
    some_takes c.args.left c.args.flows.now.pairs c.args.pair.now c.in-Some.held.now c.back-probe.result (option_copied c.find.result) c.other_than.result c.requires.apart c.back-probe.ensures c.find.ensures (ap option_copied c.in-Some.is) c.other_than.ensures
