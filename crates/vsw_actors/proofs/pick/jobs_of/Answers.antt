use Rattle.std.proofs.Common.{◌<◌, length, arith}
use Rattle.vsw_actors.proofs.Doing.{next_is}
use Rattle.vsw_actors.proofs.Picking.{jobs_next, work_next}
use Rattle.vsw_actors.proofs.Steps.{read_there}
use Rattle.vsw_actors.proofs.pick.jobs_of.Goals as goal

pub loop-pick-preserved : goal.loop-pick-preserved
loop-pick-preserved c =
    let picks = c.args.picks.now in
    let i = c.loop-pick.pick-index in
    let lt : i < length picks = omega (arith, c.loop-pick-test.true, c.loop-pick.auto.pick-index-end) in
    let there = next_is i picks _ lt (read_there picks i _ lt) in
    record {
      jobs = jobs_next c.args.worker c.args.first i c.args.packets.now picks _ c.packet_of-packet.result c.loop-pick.jobs.items c.put_packet.new.share.items there c.packet_of-packet.ensures.job c.in_ok-put_packet.ensures c.loop-pick.invariant.jobs;
      work = λ ports cs all. work_next ports i cs c.args.packets.now picks _ c.packet_of-packet.result c.loop-pick.jobs.items c.put_packet.new.share.items there (c.packet_of-packet.ensures.work ports cs) c.in_ok-put_packet.ensures all (c.loop-pick.invariant.work ports cs all);
    }
