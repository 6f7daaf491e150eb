use Rattle.std.proofs.Common.{◌<◌, map, rules}
use Rattle.vsw_policy.specs.Layer.{seen}
use Rattle.vsw_flows.proofs.Obeyed.{named_more}
use Rattle.vsw_flows.proofs.obeying.named_of.Goals as goal

pub loop-place-preserved : goal.loop-place-preserved
loop-place-preserved c =
    let less : c.loop-place.place < 128 = search rules in
    named_more (map seen c.args.layers.now) c.args.controller c.args.command.now c.loop-place.place c.loop-place.named c.names_at.result less c.names_at.ensures c.loop-place.invariant
