use Rattle.std.proofs.Common.{◌≡◌, ◌<◌, true, IfSome, length}
use Rattle.std.specs.List.{slice_get}
use Rattle.vsw_classify.specs.Private.Entry.{may_enter}
use Rattle.vsw_classify.proofs.chosen.Sample.least_crowded.Given as goal

abbrev pub invariant-loop-at : goal.invariant-loop-at
invariant-loop-at l = record {
  within : IfSome l.found (λ at. at < length l.conditions);
  may : IfSome l.found (λ at. may_enter (slice_get l.conditions at) ≡ true);
}
