use Rattle.std.proofs.Common.{◌<◌, length, arith}
use Rattle.vsw_promise.specs.Schedule.{commands_at}
use Rattle.vsw_replay.proofs.Picking.{line_within, quiet_all, quiet_next, read_there}
use Rattle.vsw_replay.proofs.ahead.is_quiet.Goals as goal

pub line-requires : goal.line-requires
line-requires c =
    let places = c.places-places.result.now in
    let i = c.loop-place.place in
    let lt : i < length places = omega (arith, c.loop-place-test.true, c.loop-place.auto.place-end) in
    line_within c.args.schedule.now (commands_at c.args.first c.args.schedule.now) places i _ c.places-places.ensures lt (read_there places i lt)

pub loop-place-preserved : goal.loop-place-preserved
loop-place-preserved c =
    let places = c.places-places.result.now in
    let i = c.loop-place.place in
    let lt : i < length places = omega (arith, c.loop-place-test.true, c.loop-place.auto.place-end) in
    quiet_next c.args.schedule.now (commands_at c.args.first c.args.schedule.now) places i _ c.line.result.now c.places-places.ensures lt (read_there places i lt) c.line.ensures c.if-line.false c.loop-place.invariant

pub returns : goal.returns
returns c = λ e.
    let places = c.places-places.result.now in
    quiet_all c.args.schedule.now places c.args.first c.loop-place.place c.places-places.ensures (omega (arith, c.loop-place-test.false, c.loop-place.auto.place-end)) c.loop-place.invariant
