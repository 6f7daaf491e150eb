use Rattle.std.proofs.Common.{map}
use Rattle.std.specs.List.{slice_get}
use Rattle.vsw_policy.specs.declared.command.Command.TheVariants.{PutRules}
use Rattle.vsw_policy.specs.Layer.{seen}
use Rattle.vsw_spares.specs.Spared.{leaves_in}
use Rattle.vsw_flows.proofs.Obeyed.{all_more}
use Rattle.vsw_flows.proofs.obeying.+put_leaves_all.Goals as goal

pub returns-then-put_leaves_look : goal.returns-then-put_leaves_look
returns-then-put_leaves_look t c e =
    let ls = map seen c.args.layers.now in
    let p = c.args.put.now in
    all_more (λ q. leaves_in c.args.controller (PutRules p.layer p.group p.rules.now) (slice_get ls q.layer) q) c.args.looks.now c.in-Some.look.now c.in-Some.rest.now c.in-Some.ensures.cases.0 (c.put_leaves_look.ensures c.if-put_leaves_look.true) (c.put_leaves_all.ensures e)
