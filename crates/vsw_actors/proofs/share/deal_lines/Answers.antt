use Rattle.std.proofs.Common.{◌≡◌, ◌<◌, true, length, ◌∙◌, arith}
use Rattle.vsw_commandfile.specs.declared.line.Line.{Line}
use Rattle.vsw_policy.specs.Obey.{rules_given}
use Rattle.vsw_policy.specs.Sound.{Each, IsGoodRule, is_listed}
use Rattle.vsw_promise.specs.Schedule.{commands_at}
use Rattle.vsw_actors.specs.Deal.{shared}
use Rattle.vsw_actors.proofs.Steps.{each_there, line_within, lines_all, lines_next, read_there}
use Rattle.vsw_actors.proofs.share.deal_lines.Goals as goal

pub line-line-requires : goal.line-line-requires
line-line-requires c =
    let places = c.places-places.result.now in
    let i = c.loop-place.place-index in
    let lt : i < length places = omega (arith, c.loop-place-test.true, c.loop-place.auto.place-index-end) in
    line_within c.args.schedule.now (commands_at c.args.first c.args.schedule.now) places i _ c.places-places.ensures lt (read_there places i _ lt)

pub loop-place-preserved : goal.loop-place-preserved
loop-place-preserved c =
    let places = c.places-places.result.now in
    let i = c.loop-place.place-index in
    let lt : i < length places = omega (arith, c.loop-place-test.true, c.loop-place.auto.place-index-end) in
    record {
      deals = lines_next c.args.controllers.now c.args.numbers.now places c.args.schedule.now c.args.first i _ c.line-line.result.now (shared c.args.shares.now.items) (shared c.loop-place.shares.items) (shared c.deal_line.new.shares.items) c.places-places.ensures lt (read_there places i _ lt) c.line-line.ensures
          c.loop-place.invariant.deals c.in_ok-deal_line.ensures.dealt;
      work = λ before. c.in_ok-deal_line.ensures.work (c.loop-place.invariant.work before);
      callers = c.deal_line.ensures.callers ∙ c.loop-place.invariant.callers;
    }

pub deal_line-requires-clause-port : goal.deal_line-requires-clause-port
deal_line-requires-clause-port c = each_there (λ (l : Line). is_listed c.args.numbers.now l.port ≡ true) c.args.schedule.now _ c.line-line.result.now c.line-line.ensures c.requires.ports

pub deal_line-requires-clause-controller : goal.deal_line-requires-clause-controller
deal_line-requires-clause-controller c = each_there (λ (l : Line). is_listed c.args.controllers.now l.controller ≡ true) c.args.schedule.now _ c.line-line.result.now c.line-line.ensures c.requires.controllers

pub deal_line-requires-clause-rules : goal.deal_line-requires-clause-rules
deal_line-requires-clause-rules c = each_there (λ (l : Line). Each IsGoodRule (rules_given l.command)) c.args.schedule.now _ c.line-line.result.now c.line-line.ensures c.requires.rules

pub returns-clause-dealt : goal.returns-clause-dealt
returns-clause-dealt c =
    let places = c.places-places.result.now in
    let end : c.loop-place.place-index ≡ length places = omega (arith, c.loop-place-test.false, c.loop-place.auto.place-index-end) in
    lines_all c.args.controllers.now c.args.numbers.now places c.args.schedule.now c.args.first c.loop-place.place-index (shared c.args.shares.now.items) (shared c.loop-place.shares.items) c.places-places.ensures end c.loop-place.invariant.deals
