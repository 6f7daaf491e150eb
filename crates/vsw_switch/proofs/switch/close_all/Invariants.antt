use Rattle.std.proofs.Common.{◌≡◌, length, map}
use Rattle.vsw_policy.specs.Sound.{Each}
use Rattle.vsw_report.specs.Whole.{whole_text}
use Rattle.vsw_switch.specs.Close.{IsCounted}
use Rattle.vsw_switch.specs.Stay.{standing}
use Rattle.vsw_switch.proofs.Closed.{ClosedTo}
use Rattle.vsw_switch.proofs.switch.close_all.Given as goal

abbrev pub invariant-loop-place : goal.invariant-loop-place
invariant-loop-place l = record {
  so_far : Each IsCounted l.fn.ports.items → ClosedTo l.place l.fn.ports.items l.ports.items (whole_text l.fn.out) (whole_text l.out) l.short;
  stays : map standing l.ports.items ≡ map standing l.fn.ports.items;
  count : length l.ports.items ≡ length l.fn.ports.items;
}
