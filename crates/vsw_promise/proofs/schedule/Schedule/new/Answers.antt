use Rattle.std.proofs.Common.{◌≡◌, map, rules}
use Rattle.vsw_promise.specs.Index.{entries_from}
use Rattle.vsw_promise.specs.declared.schedule.Entry.{Entry}
use Rattle.vsw_promise.proofs.Indexed.{index_of}
use Rattle.vsw_promise.proofs.schedule.Schedule.new.Goals as goal

pub invariant_of-result : goal.invariant_of-result
invariant_of-result c =
    let es = c.put_in_order.new.entries.items in
    let old : c.in_ok-entries.entries.items ≡ entries_from 0 c.args.lines = (search rules) in
    let firsts : c.in_ok-firsts.firsts.items ≡ map (λ (e : Entry). e.at) es = (search rules) in
    let places : c.in_ok-places.places.items ≡ map (λ (e : Entry). e.place) es = (search rules) in
    index_of c.args.lines c.in_ok-entries.entries.items es _ _ old firsts places c.put_in_order.ensures.permutation c.in_ok-put_in_order.ensures.in_order c.in_ok-put_in_order.ensures.stable
