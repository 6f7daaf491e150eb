use Rattle.std.proofs.Common.{◌≡◌, length}
use Rattle.vsw_offload.specs.Private.Making.{ArePlaces}
use Rattle.vsw_offload.proofs.making.places_of.Given as goal

abbrev pub invariant-loop-row : goal.invariant-loop-row
invariant-loop-row l = record {
  are : ArePlaces l.rows l.places l.stacks;
  long : length l.places ≡ l.row-index;
}
