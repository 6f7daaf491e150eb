use Rattle.std.proofs.Common.{◌≡◌, ◌++◌, ℕ, false, List, [], length, take}
use Rattle.vsw_port.specs.Order.{numbered}
use Rattle.vsw_promise.specs.Jobs.{loose_among, placed_packets}
use Rattle.vsw_actors.specs.Picks.{ArePicks, AtMost, dealt_to, picked}
use Rattle.vsw_actors.proofs.pick.pick_packets.Given as goal

abbrev pub invariant-loop-place : goal.invariant-loop-place
invariant-loop-place l = record {
  dealt : (cs : List ℕ) → picked 0 l.fn.first l.packets l.picks.items ≡ dealt_to l.fn.workers cs (placed_packets l.fn.workers false l.macs [] (numbered l.fn.first (take l.place l.packets)));
  fit : ArePicks (length l.macs) l.packets l.picks.items;
  few : AtMost l.place l.picks.items;
  size : length l.picks.items ≡ l.fn.workers;
  loose : l.loose.items ≡ l.fn.loose.items ++ loose_among l.macs (numbered l.fn.first (take l.place l.packets));
}
