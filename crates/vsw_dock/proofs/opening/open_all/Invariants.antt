use Rattle.vsw_dock.specs.Opening.{AreOpened, CanOpen}
use Rattle.vsw_policy.specs.Sound.{Each}
use Rattle.vsw_dock.proofs.opening.open_all.Given as goal

abbrev pub invariant-loop-port : goal.invariant-loop-port
invariant-loop-port l = record {
  opened : AreOpened l.fn.passes l.yielded l.ports.items;
  can : Each CanOpen l.port-iterator.rest.items;
}
