use Rattle.vsw_harbour.specs.Actors.{IsRoomy}
use Rattle.vsw_harbour.specs.Docks.{fits}
use Rattle.vsw_crew.proofs.ByRing.{Streams}
use Rattle.vsw_crew.proofs.stream_share.carry_piece.Given as goal
use Rattle.vsw_crew.specs.StreamShares.{stream_of}

abbrev pub invariant-loop : goal.invariant-loop
invariant-loop g l = record {
  streams : Streams (stream_of l.number l.docks l.initial.row.items l.initial.drain l.initial.left) l.row.items l.drain l.left;
  roomy : IsRoomy fits l.docks l.parcel;
}
