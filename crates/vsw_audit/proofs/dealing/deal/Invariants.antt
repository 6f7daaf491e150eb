use Rattle.std.proofs.Common.{◌≡◌, ◌≤◌, ◌+◌, ◌-◌}
use Rattle.vsw_promise.specs.Jobs.{loose_among, packets_between}
use Rattle.vsw_audit.specs.Private.Rounds.{aims_of}
use Rattle.vsw_audit.proofs.dealing.deal.Given as goal

abbrev pub invariant-loop-packet : goal.invariant-loop-packet
invariant-loop-packet l = record {
  least : l.first ≤ l.packet;
  most : l.packet ≤ l.end + (l.first - l.end);
  aims : l.aims.items ≡ aims_of l.workers l.macs (packets_between l.records l.first l.packet);
  loose : l.loose.items ≡ loose_among l.macs (packets_between l.records l.first l.packet);
}

abbrev pub decreases-loop-packet : goal.decreases-loop-packet
decreases-loop-packet l = l.end - l.packet
