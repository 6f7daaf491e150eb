use Rattle.std.proofs.Common.{Ok, sym, ◌∙◌, ap, subst}
use Rattle.vsw_replay.specs.Private.Exporting.{Leaves, RunsNext}
use Rattle.vsw_replay.proofs.quiet.run_past.Goals as goal

pub returns-in-Ok-None : goal.returns-in-Ok-None
returns-in-Ok-None c = record {
  runs = λ s start now name e f.
      let run = c.run_next.new.run in
      let switch = c.run_next.new.switch in
      let clean = subst (λ n. RunsNext s start now name run.short switch (Ok n)) c.in-Ok-None.field-0-is (c.in-Ok-None.ensures.runs s start now name e (c.loop-next.invariant.past s start now name e f)) in
      subst (λ e. Leaves s start now name switch e) (sym c.clean_end.ensures) clean;
}

pub returns-in-Err : goal.returns-in-Err
returns-in-Err c = record { runs = λ s start now name e f. c.in-Err.ensures.runs s start now name e (c.loop-next.invariant.past s start now name e f) }

pub loop-next-preserved : goal.loop-next-preserved
loop-next-preserved c = record {
  past = λ s start now name e f. subst (λ n. RunsNext s start now name c.run_next.new.run.short c.run_next.new.switch (Ok n)) c.in-Ok-Some.field-0-is (c.in-Ok-Some.ensures.runs s start now name e (c.loop-next.invariant.past s start now name e f));
  served = c.in-Ok-Some.ensures.served c.args.schedule.now c.loop-next.invariant.served;
  empty = ap (λ r. r.batch) c.in-Ok-Some.ensures.reading ∙ c.loop-next.invariant.empty;
}
