use Rattle.std.proofs.Common.{◌≡◌, List}
use Rattle.vsw_base.specs.declared.header.Header.{Header}
use Rattle.vsw_offload.specs.Private.Heading.{AreHeads}
use Rattle.vsw_offload.specs.Private.Making.{ArePlaces}
use Rattle.vsw_offload.proofs.heads.heads_of_port.Given as goal

abbrev pub invariant-loop-row : goal.invariant-loop-row
invariant-loop-row l = record {
  are : (stacks : List (List Header)) → ArePlaces l.rows l.fn.places stacks → AreHeads l.rows stacks l.heads.items;
  at : l.at ≡ l.row-index;
}
