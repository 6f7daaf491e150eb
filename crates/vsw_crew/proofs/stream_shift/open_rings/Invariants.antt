use Rattle.std.proofs.Common.{◌≡◌, length}
use Rattle.vsw_crew.specs.Private.Flowing.{AreFresh}
use Rattle.vsw_crew.proofs.stream_shift.open_rings.Given as goal

abbrev pub invariant-loop : goal.invariant-loop
invariant-loop l = record {
  fresh : AreFresh l.room l.feeds.items l.drains.items;
  many : length l.feeds.items ≡ l.counter;
}
