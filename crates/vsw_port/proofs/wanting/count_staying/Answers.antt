use Rattle.vsw_port.proofs.Stays.{count_stays}
use Rattle.vsw_port.proofs.wanting.count_staying.Goals as goal

pub returns-in-Some-clause-count : goal.returns-in-Some-clause-count
returns-in-Some-clause-count c =
    count_stays c.args.left c.in-Some.field-0 c.args.flows.now.pairs c.len-in-Some.result c.in-Some.is c.requires.there c.len-in-Some.ensures.apart c.len-in-Some.ensures.count
