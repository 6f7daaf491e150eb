use Rattle.std.proofs.Common.{◌∙◌, sym}
use Rattle.vsw_port.proofs.Makes.{can, judged_other, not_refused, walk_apart, walk_within}
use Rattle.vsw_port.specs.Walk.{walk_of}
use Rattle.vsw_port.proofs.committing.commit.Goals as goal

pub returns-in-Some-clause-memory : goal.returns-in-Some-clause-memory
returns-in-Some-clause-memory c = λ f. judged_other c.args.policy.now.layers c.args.crossing.now (walk_of c.args.policy.now.layers c.args.crossing.now) c.in-Some.stop (sym c.judge.ensures.exact ∙ c.in-Some.is) f

pub reserve_all-requires : goal.reserve_all-requires
reserve_all-requires c = rw (c.changes-changes.ensures ∙ c.requires.walk.changes) (walk_within c.args.policy.now.layers c.args.crossing.now)

pub change_all-requires-clause-can : goal.change_all-requires-clause-can
change_all-requires-clause-can c =
    let ls = c.args.policy.now.layers in
    let x = c.args.crossing.now in
    let passes = sym c.requires.walk.verdict ∙ c.in-Pass.is in
    let none = sym c.judge.ensures.exact ∙ c.in_default-judge.is in
    rw (c.reserve_all.ensures.layers, c.changes-changes.ensures ∙ c.requires.walk.changes)
    (can c.args.policy.now.controllers ls x c.layers.ensures.sound.layers.good c.requires.numbers (not_refused ls x (walk_of ls x) passes none) (rw (← c.requires.walk.changes) (c.judge.ensures.hold c.in_default-judge.is c.in-Pass.is)))

pub change_all-requires-clause-apart : goal.change_all-requires-clause-apart
change_all-requires-clause-apart c = rw (c.changes-changes.ensures ∙ c.requires.walk.changes) (walk_apart c.args.policy.now.layers c.args.crossing.now)
