use Rattle.std.proofs.Common.{◌≡◌, length}
use Rattle.vsw_index.specs.Block.{AreBlocks}
use Rattle.vsw_index.proofs.block.blocks_of.Given as goal

abbrev pub invariant-loop-at : goal.invariant-loop-at
invariant-loop-at l = record {
  blocks : AreBlocks l.ranges l.blocks.items;
  count : length l.blocks.items ≡ l.at;
}
