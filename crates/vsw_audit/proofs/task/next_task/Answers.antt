use Rattle.std.proofs.Common.{◌+◌, arith}
use Rattle.vsw_audit.proofs.Tasks.{next_found, passed}
use Rattle.vsw_audit.proofs.task.next_task.Goals as goal

pub returns-then-doer_at-caller-clause-next : goal.returns-then-doer_at-caller-clause-next
returns-then-doer_at-caller-clause-next c = next_found c.args.caller c.args.from c.loop-place.place c.doer_at.result c.args.tasks.now c.loop-place-test.true c.doer_at.ensures c.if-doer_at-caller.true c.loop-place.invariant.rest c.loop-place.invariant.front

pub loop-place-preserved : goal.loop-place-preserved
loop-place-preserved c =
    let t = passed c.args.caller c.args.from c.loop-place.place (c.loop-place.place + 1) c.doer_at.result c.args.tasks.now (omega arith) c.loop-place-test.true c.doer_at.ensures c.if-doer_at-caller.false c.loop-place.invariant.rest c.loop-place.invariant.front in
    record { rest = t.0; front = t.1 }
