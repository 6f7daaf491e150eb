use Rattle.std.proofs.Common.{◌≡◌, ℕ, false}
use Rattle.std.specs.List.{AllWithin}
use Rattle.vsw_classify.specs.Private.Rank.{meets_at}
use Rattle.vsw_classify.proofs.ranks.first_listed.Given as goal

abbrev pub invariant-loop-rank : goal.invariant-loop-rank
invariant-loop-rank l = AllWithin (λ (k : ℕ). meets_at l.fn.rules l.fn.keys l.fn.packet k ≡ false) l.listed 0 l.rank-index
