use Rattle.std.proofs.Common.{◌≡◌, Some, map, subst}
use Rattle.vsw_policy.specs.Layer.{seen}
use Rattle.vsw_policy.specs.Layers.{PolicySeen}
use Rattle.vsw_rows.specs.Rows.{layers_after}
use Rattle.vsw_flows.specs.Flows.{AllSpared, Any, Falls, Writing}
use Rattle.vsw_flows.proofs.Calls.{command_spares}
use Rattle.vsw_flows.proofs.Standings.{lessened}
use Rattle.vsw_flows.proofs.rows.Rows.obey.Goals as goal

pub invariant_of-self : goal.invariant_of-self
invariant_of-self c = lessened c.self.inside.writer c.obey.new.writer c.self.inside.leaning c.obey.new.leaning c.obey.ensures.lessens c.self.invariant

pub returns-clause-falls : goal.returns-clause-falls
returns-clause-falls c = subst (λ (r : Writing). Falls Any r c.obey.new.writer) c.self.view_is c.obey.ensures.lessens.falls

pub returns-clause-spared : goal.returns-clause-spared
returns-clause-spared c =
    let ls = map seen c.args.layers.now in
    let w = c.obey.new.writer in
    subst (λ (r : Writing). (o : PolicySeen) → r.view.opening ≡ Some o → ls ≡ layers_after o r.view.history → AllSpared ls c.args.controller c.args.command.now w) c.self.view_is
    (λ o opens same. command_spares o ls c.args.controller c.args.command.now c.self.inside.writer w c.self.inside.leaning c.obey.new.leaning c.obey.ensures.lessens c.obey.ensures.spared c.self.invariant opens same)
