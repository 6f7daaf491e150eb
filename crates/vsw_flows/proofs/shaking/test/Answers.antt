use Rattle.std.proofs.Common.{map}
use Rattle.vsw_policy.specs.Layer.{seen}
use Rattle.vsw_flows.proofs.Shaken.{fell_shaken}
use Rattle.vsw_flows.proofs.shaking.test.Goals as goal

pub returns-then-shakes_one-clause-thins : goal.returns-then-shakes_one-clause-thins
returns-then-shakes_one-clause-thins c =
    fell_shaken (map seen c.args.layers.now) c.args.change.now c.args.mark c.args.writer.now c.fall.new.writer c.args.leaning.now c.fall.new.leaning c.shakes_one.result c.looks_of.result.now
    c.looks_of.ensures c.shakes_one.ensures c.if-shakes_one.true c.fall.ensures
