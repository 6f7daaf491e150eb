use Rattle.std.proofs.Common.{◌∙◌}
use Rattle.vsw_actors.specs.Deal.{shared}
use Rattle.vsw_actors.proofs.Steps.{loose_next, packets_next}
use Rattle.vsw_actors.proofs.share.deal_packets.Goals as goal

pub loop-place-preserved : goal.loop-place-preserved
loop-place-preserved c = record {
  deals = λ cs. packets_next cs c.args.workers c.args.macs.now c.args.first c.loop-place.place c.args.packets.now _ (shared c.args.shares.now.items) (shared c.loop-place.shares.items) (shared c.deal_packet.new.shares.items) c.at-captured.ensures (c.loop-place.invariant.deals cs) (c.in_ok-deal_packet.ensures.dealt cs);
  work = λ cs before. c.in_ok-deal_packet.ensures.work cs (c.loop-place.invariant.work cs before);
  callers = c.deal_packet.ensures.callers ∙ c.loop-place.invariant.callers;
  loose = loose_next c.args.macs.now c.args.first c.loop-place.place c.args.packets.now _ c.args.loose.now.items c.loop-place.loose.items c.deal_packet.new.loose.items c.at-captured.ensures c.loop-place.invariant.loose c.in_ok-deal_packet.ensures.loose;
}
