use Rattle.std.proofs.Common.{[], false, ap, append-nil, arith, sym, ◌∙◌}
use Rattle.std.proofs.lemmas.List.{take_all}
use Rattle.vsw_port.specs.Order.{numbered}
use Rattle.vsw_promise.specs.Jobs.{aim_of, placed_packet, placed_packets}
use Rattle.vsw_actors.specs.Picks.{dealt_to}
use Rattle.vsw_actors.proofs.Picking.{none_few, none_fit, none_picked, none_size}
use Rattle.vsw_actors.proofs.Steps.{loose_next, packets_more}
use Rattle.vsw_actors.proofs.pick.pick_packets.Goals as goal

pub loop-place-init : goal.loop-place-init
loop-place-init c = record {
  dealt = λ cs. none_picked 0 c.args.first c.args.workers c.args.packets.now cs c.args.picks.now.items c.requires.none;
  fit = none_fit _ c.args.workers c.args.packets.now c.args.picks.now.items c.requires.none;
  few = none_few c.args.workers c.args.picks.now.items c.requires.none;
  size = none_size c.args.workers c.args.picks.now.items c.requires.none;
  loose = sym (append-nil c.args.loose.now.items);
}

pub loop-place-preserved : goal.loop-place-preserved
loop-place-preserved c = record {
  dealt = λ cs. c.in_ok-pick_packet.ensures.dealt c.args.packets.now cs _ c.at-captured.ensures (c.loop-place.invariant.dealt cs)
      ∙ ap (dealt_to c.args.workers cs) (sym (packets_more (λ p. placed_packet c.args.workers p.0 p.1.moment [] (aim_of c.args.macs.now p.1)) c.args.first c.loop-place.place c.args.packets.now _ c.at-captured.ensures));
  fit = c.in_ok-pick_packet.ensures.fit c.args.packets.now c.at-captured.ensures c.loop-place.invariant.fit;
  few = c.in_ok-pick_packet.ensures.few c.loop-place.place c.loop-place.invariant.few;
  size = c.pick_packet.ensures.workers ∙ c.loop-place.invariant.size;
  loose = loose_next c.args.macs.now c.args.first c.loop-place.place c.args.packets.now _ c.args.loose.now.items c.loop-place.loose.items c.pick_packet.new.loose.items c.at-captured.ensures c.loop-place.invariant.loose c.in_ok-pick_packet.ensures.loose;
}

pub returns-clause-dealt : goal.returns-clause-dealt
returns-clause-dealt c = λ cs.
    let whole = take_all c.loop-place.place c.args.packets.now (omega (arith, c.loop-place-test.false, c.loop-place.auto.place-end, c.len-place-end.ensures)) in
    c.loop-place.invariant.dealt cs ∙ ap (λ w. dealt_to c.args.workers cs (placed_packets c.args.workers false c.args.macs.now [] (numbered c.args.first w))) whole
