use Rattle.std.proofs.Common.{rules, sym, subst, ◌++◌, ◌∷◌, []}
use Rattle.vsw_dock.proofs.Docked.{opened_more}
use Rattle.vsw_dock.specs.Opening.{AreOpened}
use Rattle.vsw_dock.proofs.opening.open_all.Goals as goal

pub loop-port-preserved : goal.loop-port-preserved
loop-port-preserved c = record {
  opened = subst (AreOpened c.args.passes (c.loop-port.yielded ++ c.in-Some.port ∷ [])) (sym c.in_ok-put.ensures.items)
      (opened_more c.args.passes c.loop-port.yielded c.loop-port.ports.items c.in-Some.port c.in_ok-open_port.field-0 c.loop-port.invariant.opened c.in_ok-open_port.ensures);
  can = search rules;
}
