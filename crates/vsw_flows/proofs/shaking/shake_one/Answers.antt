use Rattle.std.proofs.Common.{map, subst}
use Rattle.vsw_policy.specs.Layer.{seen}
use Rattle.vsw_flows.specs.declared.spot.Spot.TheVariants.{Missed}
use Rattle.vsw_flows.specs.Shaking.{Past}
use Rattle.vsw_flows.proofs.Shaken.{left, made, made_thins, touched}
use Rattle.vsw_flows.proofs.shaking.shake_one.Goals as goal

pub returns-in-Make-clause-thins : goal.returns-in-Make-clause-thins
returns-in-Make-clause-thins c =
    made_thins (map seen c.args.layers.now) c.args.change.now c.args.writer.now c.test_at.new.writer c.test_at-in-Make.new.writer c.args.leaning.now c.test_at.new.leaning c.test_at-in-Make.new.leaning c.test_at.ensures.thins c.test_at-in-Make.ensures.thins

pub returns-in-Make-clause-none : goal.returns-in-Make-clause-none
returns-in-Make-clause-none c =
    let ls = map seen c.args.layers.now in
    let w = c.args.change.now in
    let place = c.in-Make.layer in
    made ls w place c.in-Make.pair c.args.writer.now c.test_at.new.writer c.test_at-in-Make.new.writer c.args.leaning.now c.test_at.new.leaning c.test_at-in-Make.new.leaning c.in-Make.is c.test_at.ensures.thins c.test_at-in-Make.ensures.thins
    (λ as_of s. subst (λ k. Past ls w c.args.leaning.now.kept (Missed place k) c.test_at.new.writer) c.front-front.ensures (c.test_at.ensures.past as_of s))
    (λ as_of s. subst (λ k. Past ls w c.test_at.new.leaning.kept (Missed place k) c.test_at-in-Make.new.writer) c.back-back.ensures (c.test_at-in-Make.ensures.past as_of s))

pub returns-in-Touch-clause-none : goal.returns-in-Touch-clause-none
returns-in-Touch-clause-none c =
    touched (map seen c.args.layers.now) c.args.change.now c.in-Touch.layer c.in-Touch.number c.in-Touch.state c.in-Touch.last c.args.writer.now c.test_at-in-Touch.new.writer c.args.leaning.now c.in-Touch.is c.test_at-in-Touch.ensures.past

pub returns-in-Leave-clause-none : goal.returns-in-Leave-clause-none
returns-in-Leave-clause-none c =
    left (map seen c.args.layers.now) c.args.change.now c.in-Leave.layer c.in-Leave.number c.args.writer.now c.test_at-in-Leave.new.writer c.args.leaning.now c.in-Leave.is c.test_at-in-Leave.ensures.past
