use Rattle.std.proofs.Common.{Ok, sym, ◌∙◌, ap, subst}
use Rattle.vsw_replay.specs.Private.Going.{PutsNext}
use Rattle.vsw_replay.specs.Runs.{RunsTrace}
use Rattle.vsw_replay.proofs.trace.run_past.Goals as goal

pub returns-in-Ok-None : goal.returns-in-Ok-None
returns-in-Ok-None g c = record {
  runs = λ s start name e f.
      let now = g.H.Host.outside c.put_next.new.host in
      let run = c.put_next.new.run in
      let clean = subst (λ n. PutsNext s start now name run.short c.put_next.new.runner (Ok n)) c.in-Ok-None.field-0-is (c.in-Ok-None.ensures.puts s start name e (c.loop-next.invariant.past s start name e f)) in
      subst (λ e. RunsTrace s start now name e) (sym c.clean_end.ensures) clean;
}

pub returns-in-Err : goal.returns-in-Err
returns-in-Err g c = record { runs = λ s start name e f. c.in-Err.ensures.puts s start name e (c.loop-next.invariant.past s start name e f) }

pub loop-next-preserved : goal.loop-next-preserved
loop-next-preserved g c = record {
  past = λ s start name e f. subst (λ n. PutsNext s start (g.H.Host.outside c.put_next.new.host) name c.put_next.new.run.short c.put_next.new.runner (Ok n)) c.in-Ok-Some.field-0-is (c.in-Ok-Some.ensures.puts s start name e (c.loop-next.invariant.past s start name e f));
  served = c.in-Ok-Some.ensures.served c.args.schedule.now c.loop-next.invariant.served;
  empty = ap (λ r. r.batch) c.in-Ok-Some.ensures.reading ∙ c.loop-next.invariant.empty;
}
