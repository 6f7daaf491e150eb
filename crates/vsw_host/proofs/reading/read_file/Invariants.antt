use Rattle.std.proofs.Common.{◌≡◌, ◌+◌, ◌-◌, ◌≤◌, length}
use Rattle.vsw_host.specs.Reading.{piece}
use Rattle.vsw_host.proofs.Going.{Going}
use Rattle.vsw_host.proofs.reading.read_file.Given as goal

abbrev pub invariant-loop-buffer : goal.invariant-loop-buffer
invariant-loop-buffer g l = record {
  going : Going (g.H.Host.outside l.fn.host) (g.H.Host.outside l.host) l.name l.file l.got.items;
  short : length l.got.items ≤ l.limit + piece;
  sized : length l.buffer ≡ piece;
}

abbrev pub decreases-loop-buffer : goal.decreases-loop-buffer
decreases-loop-buffer g l = l.limit + 1 - length l.got.items
