use Rattle.std.proofs.Common.{◌-◌, ◌≡◌, ◌≤◌, ℕ, true}
use Rattle.vsw_classify.specs.Private.Rank.{meets_at}
use Rattle.vsw_classify.specs.Private.Search.{Offers}
use Rattle.vsw_classify.proofs.field_index.FieldIndex.first.Given as goal

abbrev pub invariant-loop-from : goal.invariant-loop-from
invariant-loop-from l = record {
  within : l.from ≤ l.limit;
  passed : (k : ℕ) → Offers l.self l.value k → meets_at l.rules l.keys l.packet k ≡ true → l.from ≤ k;
}

abbrev pub decreases-loop-from : goal.decreases-loop-from
decreases-loop-from l = l.limit - l.from
