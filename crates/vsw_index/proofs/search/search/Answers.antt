use Rattle.std.proofs.Common.{◌<◌, length, leb, arith, rules, get_or}
use Rattle.std.proofs.lemmas.Bool.{leb-false}
use Rattle.std.proofs.lemmas.List.Sorted.{IsPartitionPoint-from_clause, IsPartitionedBy-leb}
use Rattle.vsw_index.specs.declared.placed_range.PlacedRange.{PlacedRange}
use Rattle.vsw_index.specs.RangeLeast.{counts}
use Rattle.vsw_index.proofs.Least.{none_within, found}
use Rattle.vsw_index.proofs.Blocks.{looked, all_looked}
use Rattle.vsw_index.proofs.search.search.Goals as goal

pub loop-at-init : goal.loop-at-init
loop-at-init c =
    let parted = IsPartitionedBy-leb (λ (r : PlacedRange). r.low) _ c.args.value c.requires.by_low in
    let point = IsPartitionPoint-from_clause (λ (r : PlacedRange). leb r.low c.args.value) _ _ c.partition_point-behind.ensures.partitioned parted (λ a r q k. search rules) in
    record {
      within = omega arith;
      last = c.partition_point-behind.ensures.bound;
      later = λ k d low high. leb-false (get_or c.args.ranges.now k d).low c.args.value (point.1 k d low high);
      best = none_within (counts c.args.value c.args.from) (λ (r : PlacedRange). r.place) c.args.ranges.now 0;
    }

pub loop-at-preserved : goal.loop-at-preserved
loop-at-preserved c =
    let within : c.loop-at.at < length c.args.ranges.now = omega arith in
    record {
      within = omega arith;
      last = c.loop-at.invariant.last;
      later = c.loop-at.invariant.later;
      best = rw (c.lesser-found.ensures, c.place_of.ensures) (looked c.args.value c.args.from c.args.ranges.now c.loop-at.at (record { place = 0; low = 0; high = 0 }) c.loop-at.found within c.loop-at.invariant.best);
    }

pub returns : goal.returns
returns c =
    found (counts c.args.value c.args.from) (λ (r : PlacedRange). r.place) c.args.ranges.now c.loop-at.found
    (all_looked c.args.value c.args.from c.args.ranges.now c.partition_point-behind.result c.loop-at.at c.loop-at.found c.loop-at-test.false c.loop-at.invariant.within c.loop-at.invariant.later c.loop-at.invariant.best)
