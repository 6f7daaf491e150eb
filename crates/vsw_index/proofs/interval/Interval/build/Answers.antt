use Rattle.std.proofs.lemmas.List.Sorted.{IsPermutation-trans}
use Rattle.vsw_index.proofs.RangeAgreed.{agrees}
use Rattle.vsw_index.proofs.interval.Interval.build.Goals as goal

pub invariant_of-result : goal.invariant_of-result
invariant_of-result c =
    let by_place = rw c.in_ok-by_place.ensures at c.put_by_place.ensures.permutation in
    let by_low = rw (c.in_ok-by_low.ensures, c.deref.ensures.value) at c.put_by_low.ensures.permutation in
    let blocks = rw c.deref-2.ensures.value at c.in_ok-blocks.ensures.blocks in
    let count = rw c.deref-2.ensures.value at c.in_ok-blocks.ensures.count in
    rw c.in_ok-items.ensures (record {
      rises = c.in_ok-put_by_place.ensures.by_place;
      agrees_by_place = agrees c.args.items.now c.put_by_place.new.ranges.items by_place;
      index = record { by_low = c.in_ok-put_by_low.ensures.by_low; blocks_are = blocks; count = count };
      agrees_by_low = agrees c.args.items.now c.put_by_low.new.ranges.items (IsPermutation-trans c.args.items.now c.put_by_place.new.ranges.items c.put_by_low.new.ranges.items by_place by_low);
    })
