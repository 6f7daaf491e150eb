use Rattle.std.proofs.Common.{◌<◌, ℕ}
use Rattle.std.specs.List.{All}
use Rattle.std.specs.List.Sorted.{IsNonDecreasing}
use Rattle.vsw_classify.specs.Private.Entry.{IsCovered}
use Rattle.vsw_classify.proofs.entry.gather.Given as goal

abbrev pub invariant-loop-rank : goal.invariant-loop-rank
invariant-loop-rank l = record {
  rises : IsNonDecreasing l.listed.items;
  below : All (λ (k : ℕ). k < l.rank) l.listed.items;
  covers : (k : ℕ) → k < l.rank → IsCovered l.rules l.keys l.listed.items l.entries.items k;
}
