use Rattle.std.proofs.Common.{arith, refl}
use Rattle.vsw_pcap.specs.declared.capture.Record.{Record}
use Rattle.vsw_audit.proofs.Dealt.{aims_more, loose_more}
use Rattle.vsw_audit.proofs.dealing.deal.Goals as goal

pub loop-packet-preserved : goal.loop-packet-preserved
loop-packet-preserved c =
    let r : Record = record { moment = c.at-captured.result.moment; original = c.at-captured.result.original; bytes = c.at-captured.result.bytes.now } in
    let i = c.loop-packet.invariant in
    record {
      least = omega (arith, i.least);
      most = omega (arith, i.most, c.loop-packet-test.true);
      aims = aims_more c.args.workers c.args.macs.now c.args.records.now c.args.first c.loop-packet.packet r c.loop-packet.aims.items c.deal_one.new.aims.items i.least c.at-captured.ensures i.aims (c.in_ok-deal_one.ensures.aims r refl);
      loose = loose_more c.args.macs.now c.args.records.now c.args.first c.loop-packet.packet r c.loop-packet.loose.items c.deal_one.new.loose.items i.least c.at-captured.ensures i.loose (c.in_ok-deal_one.ensures.loose r refl);
    }
