use Rattle.std.proofs.Common.{◌-◌, ◌≤◌, length, map, take}
use Rattle.vsw_hands.specs.Hands.{AllDone}
use Rattle.vsw_hands.specs.Private.Briefs.{share_of}
use Rattle.vsw_hands.proofs.board.Board.gather.Given as goal

abbrev pub invariant-loop-place : goal.invariant-loop-place
invariant-loop-place g l = AllDone g.W.Hand.does (map share_of (take l.place l.briefs.items)) l.tolds.items × (l.place ≤ length l.briefs.items)

abbrev pub decreases-loop-place : goal.decreases-loop-place
decreases-loop-place g l = length l.briefs.items - l.place
