use Rattle.std.proofs.Common.{◌<◌, ◌^◌, length, arith}
use Rattle.std.proofs.lemmas.Bool.Decides.{nat_tests}
use Rattle.vsw_classify.proofs.Ranked.{ranks}
use Rattle.vsw_classify.proofs.order.keys_of.Goals as goal

pub returns : goal.returns
returns c =
    let few : length c.args.rules.now < 2 ^ 32 = grind (arith, nat_tests, c.if-rules-ge-PLACES.false) in
    ranks c.args.rules.now c.put_in_order.new.keys.items few (rw c.in_ok-keys.ensures at c.put_in_order.ensures.permutation) c.put_in_order.ensures.in_order
