use Rattle.std.proofs.Common.{◌≡◌, ◌++◌, ℕ, false, List, [], length, take}
use Rattle.vsw_port.specs.Order.{numbered}
use Rattle.vsw_promise.specs.Jobs.{loose_among, placed_packets}
use Rattle.vsw_actors.specs.Deal.{AreWork, shared}
use Rattle.vsw_actors.proofs.Steps.{Deals}
use Rattle.vsw_actors.proofs.share.deal_packets.Given as goal

abbrev pub invariant-loop-place : goal.invariant-loop-place
invariant-loop-place l = record {
  deals : (cs : List ℕ) → Deals cs (shared l.fn.shares.items) (placed_packets l.fn.workers false l.macs [] (numbered l.fn.first (take l.place l.packets))) (shared l.shares.items);
  work : (cs : List ℕ) → AreWork (length l.macs) cs l.fn.shares.items → AreWork (length l.macs) cs l.shares.items;
  callers : length l.shares.items ≡ length l.fn.shares.items;
  loose : l.loose.items ≡ l.fn.loose.items ++ loose_among l.macs (numbered l.fn.first (take l.place l.packets));
}
