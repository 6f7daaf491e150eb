use Rattle.std.proofs.Common.{take}
use Rattle.vsw_classify.specs.Private.Rank.{meets_at}
use Rattle.vsw_classify.specs.Private.Search.{Narrows, OfferedIn}
use Rattle.vsw_classify.proofs.ranks.first_offered.Given as goal

abbrev pub invariant-loop-index : goal.invariant-loop-index
invariant-loop-index l = Narrows (meets_at l.rules l.keys l.packet) (OfferedIn (take l.index-index l.fields) l.packet) l.fn.limit l.best
