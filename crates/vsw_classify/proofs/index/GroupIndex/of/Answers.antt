use Rattle.vsw_classify.proofs.Complete.{index_is}
use Rattle.vsw_classify.proofs.index.GroupIndex.of.Goals as goal

pub invariant_of-result : goal.invariant_of-result
invariant_of-result c =
    let ranked = rw c.as_slice-rules.ensures at c.in_ok-keys.ensures in
    let gathered = rw (c.as_slice-rules.ensures, c.deref.ensures.value) at c.in_ok-gathered.ensures in
    let served = rw c.deref-2.ensures.value at c.in_ok-fields.ensures in
    let last = rw c.as_slice-rules.ensures at c.has_last.ensures in
    rw c.of-snapshot.ensures (index_is c.args.rules.now c.in_ok-keys.keys.items c.in_ok-gathered.gathered.listed.items c.in_ok-gathered.gathered.entries.items c.in_ok-fields.fields.items ranked gathered served, last)
