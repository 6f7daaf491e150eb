use Rattle.std.proofs.Common.{◌≡◌}
use Rattle.std.specs.List.{AllWithin}
use Rattle.vsw_index.specs.Block.{IsWithin}
use Rattle.vsw_index.proofs.block.bounded.Given as goal

abbrev pub invariant-loop-range : goal.invariant-loop-range
invariant-loop-range l = record {
  end : l.block.end ≡ l.end;
  bounds : AllWithin (IsWithin l.block) l.ranges 0 l.range-index;
}
