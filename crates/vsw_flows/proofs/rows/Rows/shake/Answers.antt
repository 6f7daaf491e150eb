use Rattle.std.proofs.Common.{◌≡◌, Some, map, subst}
use Rattle.vsw_policy.specs.Layer.{seen}
use Rattle.vsw_policy.specs.Layers.{PolicySeen}
use Rattle.vsw_rows.specs.Rows.{layers_after}
use Rattle.vsw_flows.specs.Flows.{Any, Falls, NoneShaken, OthersStay, Writing}
use Rattle.vsw_flows.specs.Shaking.{IsShaken}
use Rattle.vsw_flows.proofs.Calls.{shaken_none, shaken_others}
use Rattle.vsw_flows.proofs.Standings.{thinned}
use Rattle.vsw_flows.proofs.Thinned.{falls_weaker}
use Rattle.vsw_flows.proofs.rows.Rows.shake.Goals as goal

pub invariant_of-self : goal.invariant_of-self
invariant_of-self c =
    thinned (IsShaken (map seen c.args.layers.now) c.args.changes.now c.self.inside.leaning.kept) c.self.inside.writer c.shake.new.writer c.self.inside.leaning c.shake.new.leaning c.shake.ensures.thins c.self.invariant

pub returns-clause-falls : goal.returns-clause-falls
returns-clause-falls c =
    subst (λ (r : Writing). Falls Any r c.shake.new.writer) c.self.view_is
    (falls_weaker (IsShaken (map seen c.args.layers.now) c.args.changes.now c.self.inside.leaning.kept) Any c.self.inside.writer c.shake.new.writer (λ place h. tt) c.shake.ensures.thins.falls)

pub returns-clause-none : goal.returns-clause-none
returns-clause-none c =
    let ls = map seen c.args.layers.now in
    let ws = c.args.changes.now in
    let w = c.shake.new.writer in
    subst (λ (r : Writing). (o : PolicySeen) → r.view.opening ≡ Some o → ls ≡ layers_after o r.view.history → NoneShaken ls ws w) c.self.view_is
    (λ o opens same. shaken_none o ls ws c.self.inside.writer w c.self.inside.leaning c.shake.new.leaning c.shake.ensures.thins c.shake.ensures.none c.self.invariant opens same)

pub returns-clause-others : goal.returns-clause-others
returns-clause-others c =
    let ls = map seen c.args.layers.now in
    let ws = c.args.changes.now in
    let w = c.shake.new.writer in
    subst (λ (r : Writing). (o : PolicySeen) → r.view.opening ≡ Some o → ls ≡ layers_after o r.view.history → OthersStay ls ws r w) c.self.view_is
    (λ o opens same. shaken_others o ls ws c.self.inside.writer w c.self.inside.leaning c.shake.new.leaning c.shake.ensures.thins c.self.invariant opens same)
