use Rattle.std.proofs.Common.{◌≡◌, length}
use Rattle.vsw_actors.specs.Deal.{AreWork, shared}
use Rattle.vsw_actors.proofs.Steps.{Deals, lines_to}
use Rattle.vsw_actors.proofs.share.deal_lines.Given as goal

abbrev pub invariant-loop-place : goal.invariant-loop-place
invariant-loop-place l = record {
  deals : Deals l.controllers (shared l.fn.shares.items) (lines_to l.numbers l.schedule l.first l.place-index) (shared l.shares.items);
  work : AreWork (length l.numbers) l.controllers l.fn.shares.items → AreWork (length l.numbers) l.controllers l.shares.items;
  callers : length l.shares.items ≡ length l.fn.shares.items;
}
