use Rattle.std.proofs.Common.{◌≡◌, length, take}
use Rattle.vsw_offload.specs.Private.Noting.{AllNoted}
use Rattle.vsw_offload.proofs.guesses.Guesses.of.Given as goal

abbrev pub invariant-loop-port : goal.invariant-loop-port
invariant-loop-port l = record {
  noted : AllNoted l.places.items l.slots (take l.port-index l.ports);
  long : length l.places.items ≡ l.slots;
}
