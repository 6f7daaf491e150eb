use Rattle.vsw_flows.proofs.Spots.{PutsAt, enter_others, enter_there, enter_way}
use Rattle.vsw_flows.proofs.spread.enter_at.Goals as goal

pub returns-then-put_at-clause-there : goal.returns-then-put_at-clause-there
returns-then-put_at-clause-there c e =
    let at : PutsAt c.args.table.now c.put_at.new.table c.args.place c.joined-joined.result.leaners = record { here = c.put_at.ensures.here c.if-put_at.true; others = c.put_at.ensures.others } in
    enter_there c.args.table.now c.put_at.new.table c.args.place c.args.row c.leaners_at.result c.joined-joined.result c.joined-joined.ensures at

pub returns-then-put_at-clause-others : goal.returns-then-put_at-clause-others
returns-then-put_at-clause-others c =
    let at : PutsAt c.args.table.now c.put_at.new.table c.args.place c.joined-joined.result.leaners = record { here = c.put_at.ensures.here c.if-put_at.true; others = c.put_at.ensures.others } in
    enter_others c.args.table.now c.put_at.new.table c.args.place c.args.row c.leaners_at.result c.joined-joined.result c.leaners_at.ensures c.joined-joined.ensures at

pub returns-then-put_at-clause-way : goal.returns-then-put_at-clause-way
returns-then-put_at-clause-way c = enter_way c.args.row c.leaners_at.result c.joined-joined.result c.joined-joined.ensures
