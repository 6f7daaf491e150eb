use Rattle.vsw_flows.proofs.Spots.{leave_others}
use Rattle.vsw_flows.proofs.spread.leave_at.Goals as goal

pub returns : goal.returns
returns c = record {
  others = leave_others c.args.table.now c.put_at.new.table c.args.place c.args.row c.leaners_at.result c.without-rest.result c.put_at.result c.leaners_at.ensures c.without-rest.ensures c.put_at.ensures.here c.put_at.ensures.others c.put_at.ensures.same;
}
