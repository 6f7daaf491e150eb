use Rattle.std.proofs.Common.{◌∙◌, ◌+◌, length, sym, ap, subst, length-append}
use Rattle.vsw_core.specs.Core.{Begins}
use Rattle.vsw_sole.proofs.Opened.{more_begins, one_caller}
use Rattle.vsw_sole.proofs.open.callers.Goals as goal

pub returns-in_err-push-clause-begins : goal.returns-in_err-push-clause-begins
returns-in_err-push-clause-begins c = subst (Begins c.args.lookup.now.1) (sym c.pass.ensures.writer) (more_begins c.args.lookup.now.1 c.loop.writer c.loop.invariant.begins)

pub loop-preserved : goal.loop-preserved
loop-preserved c =
    let i = c.loop.invariant in
    record {
      begins = subst (Begins c.args.lookup.now.1) (sym c.pass.ensures.writer) (more_begins c.args.lookup.now.1 c.loop.writer i.begins);
      table = ap (λ w. w.table) c.pass.ensures.writer ∙ i.table;
      passes = ap (λ w. w.view.passes) c.pass.ensures.writer ∙ ap (λ n. n + 1) i.passes;
      callers = one_caller c.args.lookup.now c.loop.writer c.pass.result c.loop.counter c.loop.callers.items c.push.new.callers.items i.begins i.table i.passes i.count c.pass.ensures.pass c.in_ok-push.ensures i.callers;
      count = ap length c.in_ok-push.ensures ∙ (length-append _ _ ∙ ap (λ n. n + 1) i.count);
    }
