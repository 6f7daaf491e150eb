use Rattle.std.proofs.Common.{map}
use Rattle.vsw_policy.specs.Layer.{seen}
use Rattle.vsw_flows.proofs.Shaken.{shaken_none, shaken_thins}
use Rattle.vsw_flows.proofs.shaking.+shake.Goals as goal

pub returns-clause-thins : goal.returns-clause-thins
returns-clause-thins t c =
    shaken_thins (map seen c.args.layers.now) c.args.changes.now c.in-Some.change.now c.in-Some.rest.now c.args.writer.now c.shake_one.new.writer c.shake.new.writer c.args.leaning.now c.shake_one.new.leaning c.shake.new.leaning
    c.in-Some.ensures.cases.0 c.shake_one.ensures.thins c.shake.ensures.thins

pub returns-clause-none : goal.returns-clause-none
returns-clause-none t c =
    shaken_none (map seen c.args.layers.now) c.args.changes.now c.in-Some.change.now c.in-Some.rest.now c.args.writer.now c.shake_one.new.writer c.shake.new.writer c.args.leaning.now c.shake_one.new.leaning c.shake.new.leaning
    c.in-Some.ensures.cases.0 c.shake_one.ensures.thins c.shake.ensures.thins c.shake_one.ensures.none c.shake.ensures.none
