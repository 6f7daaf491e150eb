use Rattle.std.proofs.Common.{◌-◌, subst, arith}
use Rattle.vsw_crew.specs.StreamShares.{IsStreamed, StreamSeen, stream_of}
use Rattle.vsw_crew.proofs.ByRing.{all_streamed, fit_fewer, streams_on}
use Rattle.vsw_crew.proofs.stream_share.carry_piece.Goals as goal

pub returns-in-End : goal.returns-in-End
returns-in-End g c =
    let i = c.share.inside in
    let s : StreamSeen = stream_of i.number i.docks.now i.row.items i.drain i.left in
    let took = c.in-End.ensures.takes in
    subst (λ (w : StreamSeen). IsStreamed w c.loop.row.items c.next.new.self) c.share.view_is
    (all_streamed s c.loop.row.items c.loop.drain c.next.new.self c.loop.left c.loop.invariant.streams c.in-End.ensures.ring took.0 took.1)

pub carry-requires-clause-fit : goal.carry-requires-clause-fit
carry-requires-clause-fit g c =
    let may = c.may_carry.ensures c.if-not-may_carry.false in
    fit_fewer c.share.inside.number c.loop.left 1 c.share.inside.docks.now c.loop.row.items may.0 c.loop.invariant.streams.share.fit

pub loop-preserved : goal.loop-preserved
loop-preserved g c =
    let i = c.share.inside in
    let s : StreamSeen = stream_of i.number i.docks.now i.row.items i.drain i.left in
    let may = c.may_carry.ensures c.if-not-may_carry.false in
    let took = c.in-Item.ensures.takes in
    record {
      streams = streams_on s c.loop.row.items c.carry.new.row.items c.loop.drain c.next.new.self c.loop.left (c.loop.left - 1) c.in-Item.packet (omega (arith, may.0)) c.loop.invariant.streams c.carry.ensures.carries c.in-Item.ensures.ring took.0 took.1;
      roomy = c.carry.ensures.roomy;
    }
