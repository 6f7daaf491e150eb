use Rattle.std.proofs.Common.{◌≡◌, ◌++◌, drop}
use Rattle.vsw_classify.specs.Private.Rank.{keys_from}
use Rattle.vsw_classify.proofs.order.unordered.Given as goal

abbrev pub invariant-loop-place : goal.invariant-loop-place
invariant-loop-place l = l.keys.items ++ keys_from l.place (drop l.place l.rules) ≡ keys_from 0 l.rules
