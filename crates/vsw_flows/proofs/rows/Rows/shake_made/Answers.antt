use Rattle.std.proofs.Common.{◌≡◌, [], Some, subst}
use Rattle.vsw_policy.specs.Layers.{PolicySeen}
use Rattle.vsw_rows.specs.Rows.{layers_after}
use Rattle.vsw_flows.specs.Flows.{Any, Falls, NoneShaken, OthersStay, Writing}
use Rattle.vsw_flows.specs.Shaking.{IsShaken}
use Rattle.vsw_flows.proofs.Calls.{made_none, made_others}
use Rattle.vsw_flows.proofs.Standings.{thinned}
use Rattle.vsw_flows.proofs.Thinned.{falls_weaker}
use Rattle.vsw_flows.proofs.rows.Rows.shake_made.Goals as goal

pub invariant_of-self : goal.invariant_of-self
invariant_of-self c =
    thinned (IsShaken [] c.args.changes.now c.self.inside.leaning.kept) c.self.inside.writer c.shake.new.writer c.self.inside.leaning c.shake.new.leaning c.shake.ensures.thins c.self.invariant

pub returns-clause-falls : goal.returns-clause-falls
returns-clause-falls c =
    subst (λ (r : Writing). Falls Any r c.shake.new.writer) c.self.view_is
    (falls_weaker (IsShaken [] c.args.changes.now c.self.inside.leaning.kept) Any c.self.inside.writer c.shake.new.writer (λ place h. tt) c.shake.ensures.thins.falls)

pub returns-clause-none : goal.returns-clause-none
returns-clause-none c =
    let ws = c.args.changes.now in
    let w = c.shake.new.writer in
    subst (λ (r : Writing). (o : PolicySeen) → r.view.opening ≡ Some o → NoneShaken (layers_after o r.view.history) ws w) c.self.view_is
    (λ o opens. made_none o [] ws c.self.inside.writer w c.self.inside.leaning c.shake.new.leaning c.requires.moves c.shake.ensures.thins c.shake.ensures.none c.self.invariant opens)

pub returns-clause-others : goal.returns-clause-others
returns-clause-others c =
    let ws = c.args.changes.now in
    let w = c.shake.new.writer in
    subst (λ (r : Writing). (o : PolicySeen) → r.view.opening ≡ Some o → OthersStay (layers_after o r.view.history) ws r w) c.self.view_is
    (λ o opens. made_others o [] ws c.self.inside.writer w c.self.inside.leaning c.shake.new.leaning c.requires.moves c.shake.ensures.thins c.self.invariant opens)
