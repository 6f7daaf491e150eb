use Rattle.std.proofs.Common.{◌+◌, ◌<◌, length, refl, sym, ◌∙◌, subst, arith}
use Rattle.vsw_replay.specs.declared.run.Run.{Run}
use Rattle.vsw_replay.specs.Going.{Goes}
use Rattle.vsw_replay.proofs.WorkloadRounds.{HasDrawn, turned}
use Rattle.vsw_replay.proofs.run.run_next.Goals as goal

pub returns-clause-goes : goal.returns-clause-goes
returns-clause-goes c = λ s all alone g.
    let old = c.args.run.now in
    let run : Run = record { workload = c.draw.new.workload; batch = c.draw.new.batch; text = old.text; tally = old.tally; short = old.short } in
    let drawn : HasDrawn old run = record { draws = c.in_ok-draw.ensures; tally = refl; short = refl } in
    let some : 0 < length run.batch = omega (arith, c.len-count.ensures, c.if-count-eq0.false) in
    subst (λ n. Goes s all (c.args.first + n) c.run_batch.new.run c.run_batch.new.switch) (sym c.len-count.ensures)
    (turned s all c.args.first old run c.run_batch.new.run c.args.switch.now c.run_batch.new.switch alone drawn some c.requires.few c.run_batch.ensures.workload (λ hs at. c.in_ok-run_batch.ensures.turn s hs (alone ∙ sym c.requires.alone) at) g)
