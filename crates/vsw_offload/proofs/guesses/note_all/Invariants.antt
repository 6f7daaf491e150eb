use Rattle.std.proofs.Common.{◌≡◌, ◌<◌, length, take}
use Rattle.vsw_offload.specs.Private.Noting.{AreNoted, Keeps}
use Rattle.vsw_offload.proofs.guesses.note_all.Given as goal

abbrev pub invariant-loop-row : goal.invariant-loop-row
invariant-loop-row l = record {
  noted : AreNoted l.places.items l.slots (take l.row-index l.rows);
  kept : Keeps l.fn.places.items l.places.items;
  long : length l.places.items ≡ length l.fn.places.items;
  place : l.place < 65535;
}
