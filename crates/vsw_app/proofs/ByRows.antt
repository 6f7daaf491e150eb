-- A trace was answered from rows.
use Rattle.std.proofs.Common.{◌≡◌, ◌≤◌, ◌⊎◌, ◌+◌, inl, inr, ℕ, List, [], ◌∷◌, Some, take, refl, sym, ◌∙◌, subst, arith}
use Rattle.vsw_engine.specs.Runs as engine
use Rattle.vsw_run.specs.Steps.{EndsUnopened, OpensNothing, Reads}
use Rattle.vsw_engine.specs.Runs.{AnswersTrace}
use Rattle.vsw_files.specs.Answering.{HasAnswered, HasRows}
use Rattle.vsw_files.proofs.Growing.{grows_as, rose_as, rose_from}
use Rattle.vsw_host.specs.Outside.{Opened, Outside, Grows}
use Rattle.vsw_host.specs.Told.{TellsHeld, TellsSince}
use Rattle.vsw_host.proofs.CallerLemmas.{TellsHeld-before, TellsSince-trans}
use Rattle.vsw_offload.specs.Rows.{rows_bytes}
use Rattle.vsw_offload.specs.declared.port_rows.PortRows.{PortRows}
use Rattle.vsw_run.specs.ByRows.{AreGood, BreaksOff, Ends, EndsSo, IsEarly, Opens, RunsByRows, TraceEnds}
use Rattle.vsw_run.specs.Files.{IsReadOf}
use Rattle.vsw_run.specs.Complaint.{status_of}
use Rattle.vsw_run.specs.IsRun.{IsCompleteByRows, IsRun, RunsBy}
use Rattle.vsw_run.specs.Law.{HasNoFault}
use Rattle.vsw_run.specs.Trace.{Trace}
use Rattle.vsw_run.specs.Words.{Engine, Query}
use Rattle.vsw_run.specs.declared.ending.Ending.{Ending}
use Rattle.vsw_run.specs.declared.ending.Ending.TheVariants as ending
use Rattle.vsw_run.specs.declared.ending.Status.{Status}
use Rattle.vsw_run.specs.declared.ending.Status.TheVariants as status
use Rattle.vsw_run.proofs.Answering.{ByRows, GoodRows, WrongRows, found_rows}
use Rattle.vsw_run.proofs.Answering as answering
use Rattle.vsw_run.proofs.Checking.{one_held}
use Rattle.vsw_run.proofs.Endings.{Says, one_ending}
use Rattle.vsw_app.proofs.Running.{read_as}

-- ---- the trace, behind the rows

abbrev two : (q : Query) (old now : Outside) (ports : List PortRows) → HasRows q old now ports → Opened → List Opened
two q old now ports h f = h.file ∷ f ∷ []

opens_trace : (q : Query) (old now new : Outside) (ports : List PortRows) (h : HasRows q old now ports) (t : Trace) (r : Reads now new q.trace t) → Opens old new q (two q old now ports h r.file)
opens_trace q old now new ports h t r = record {
  since = TellsSince-trans old.inputs now.inputs new.inputs (h.file ∷ []) (r.file ∷ []) h.opens.since r.since;
  held = (h.opens.held.0, (TellsHeld-before old.inputs now.inputs (h.file ∷ []) r.file.name r.file.bytes h.opens.since (subst (λ n. TellsHeld now.inputs n r.file.bytes) (sym r.named) r.held), tt));
  within = (h.opens.within.0, (r.within, tt));
  in_turn = (ports, h.is, r.named);
}

opens_none : (q : Query) (old now new : Outside) (ports : List PortRows) (h : HasRows q old now ports) → TellsSince now.inputs new.inputs [] → Opens old new q (h.file ∷ [])
opens_none q old now new ports h none = record { since = TellsSince-trans old.inputs now.inputs new.inputs (h.file ∷ []) [] h.opens.since none; held = h.opens.held; within = h.opens.within; in_turn = h.opens.in_turn }

read_since : (q : Query) (old now new : Outside) (ports : List PortRows) (h : HasRows q old now ports) (t : Trace) (r : Reads now new q.trace t) → IsReadOf old new r.file t
read_since q old now new ports h t r = read_as now new old new r.file t (rose_from old.input_faults now.input_faults new.input_faults h.later) r.read

puts_as : (q : Query) (old now new : Outside) (ports : List PortRows) (text : List ℕ) → HasRows q old now ports → Grows now.put new.put text → Grows old.put new.put text
puts_as q old now new ports text h g = grows_as now.put new.put old.put new.put text (sym h.outputs.put) refl g

by_trace : (q : Query) (old now new : Outside) (ports : List PortRows) (h : HasRows q old now ports) (end : Ending) (e : EndsSo ports (Reads now new q.trace) now new end) → EndsSo ports (IsReadOf old new e.reads.file) old new end
by_trace q old now new ports h end e = record { trace = e.trace; reads = read_since q old now new ports h e.trace e.reads; records = e.records; ends = e.ends; text = e.text; tells = e.tells; puts = puts_as q old now new ports e.text h e.puts }

by_break : (q : Query) (old now new : Outside) (ports : List PortRows) (h : HasRows q old now ports) (e : BreaksOff ports (Reads now new q.trace) now new) → BreaksOff ports (IsReadOf old new e.reads.file) old new
by_break q old now new ports h e = record { trace = e.trace; reads = read_since q old now new ports h e.trace e.reads; records = e.records; first = e.first; text = e.text; tells = e.tells; puts = (e.puts.0, puts_as q old now new ports (take e.puts.0 e.text) h e.puts.1) }

-- a run whose trace wasn't opened is early
early_behind : (q : Query) (old now new : Outside) (ports : List PortRows) (h : HasRows q old now ports) (end : Ending) → EndsUnopened now new end → OpensNothing now new × IsEarly old new (h.file ∷ []) end
early_behind q old now new ports h ending.ReadFault (rose, o) = (o, (rose_from old.input_faults now.input_faults new.input_faults h.later rose, short))
  where
    short : h.file.read ≤ 160000000 + 65536
    short = omega (arith, h.is.whole, h.is.few)
early_behind q old now new ports h ending.Memory o = (o, tt)
early_behind q old now new ports h ending.Done o = absurd o
early_behind q old now new ports h ending.WriteFault o = absurd o
early_behind q old now new ports h (ending.Trace bad) o = absurd o
early_behind q old now new ports h ending.Records o = absurd o
early_behind q old now new ports h ending.Usage o = absurd o
early_behind q old now new ports h (ending.Policy why) o = absurd o
early_behind q old now new ports h (ending.Commands why) o = absurd o
early_behind q old now new ports h (ending.Report why) o = absurd o
early_behind q old now new ports h (ending.Rows why) o = absurd o
early_behind q old now new ports h ending.Illegal o = absurd o

pub answered : (q : Query) (old now new : Outside) (ports : List PortRows) (end : Ending) → HasRows q old now ports → AnswersTrace ports now new q.trace end → HasAnswered q old new end
answered q old now new ports end h r = by r.ends
  where
    so : (end : Ending) (files : List Opened) → Opens old new q files → Ends q old new files end → HasAnswered q old new end
    so end files opens ends = record {
      runs = record { files = files; opens = opens; ends = ends };
      complained = r.complained ∙ h.outputs.complained;
      complain_faults = r.complain_faults ∙ h.outputs.complain_faults;
    }

    traced : (end : Ending) (t : Trace) (f : Reads now new q.trace t) → TraceEnds ports (IsReadOf old new f.file) old new end → HasAnswered q old new end
    traced end t f ends = so end (two q old now ports h f.file) (opens_trace q old now new ports h t f) (inr (record { rows = h.file; file = f.file; all = refl; ports = ports; are = h.is; ends = ends }))

    ends : (end : Ending) → TraceEnds ports (Reads now new q.trace) now new end → HasAnswered q old new end
    ends ending.Done e = traced ending.Done e.trace e.reads (by_trace q old now new ports h ending.Done e)
    ends (ending.Trace bad) e = traced (ending.Trace bad) e.trace e.reads (by_trace q old now new ports h (ending.Trace bad) e)
    ends ending.Records e = traced ending.Records e.trace e.reads (by_trace q old now new ports h ending.Records e)
    ends ending.ReadFault (rose, e) = traced ending.ReadFault e.trace e.reads (rose_from old.input_faults now.input_faults new.input_faults h.later rose, by_trace q old now new ports h ending.ReadFault e)
    ends ending.WriteFault (rose, e) = traced ending.WriteFault e.trace e.reads (rose_as now.put_faults new.put_faults old.put_faults new.put_faults (sym h.outputs.put_faults) refl rose, by_break q old now new ports h e)
    ends ending.Memory (inl e) = traced ending.Memory e.trace e.reads (inl (record { trace = e.trace; reads = read_since q old now new ports h e.trace e.reads; nothing = puts_as q old now new ports [] h e.nothing }))
    ends ending.Memory (inr e) = traced ending.Memory e.trace e.reads (inr (by_break q old now new ports h e))
    ends ending.Usage e = absurd e
    ends (ending.Policy why) e = absurd e
    ends (ending.Commands why) e = absurd e
    ends (ending.Report why) e = absurd e
    ends (ending.Rows why) e = absurd e
    ends ending.Illegal e = absurd e

    by : engine.Ends ports now new q.trace end → HasAnswered q old new end
    by (inl o) =
        let early = early_behind q old now new ports h end o in
        so end (h.file ∷ []) (opens_none q old now new ports h early.0.since) (inl (early.1, puts_as q old now new ports [] h early.0.nothing))
    by (inr e) = ends end e

-- ---- good files are answered

is_done : (q : Query) (old : Outside) (g : AreGood q old.inputs) (end : Ending) (text : List ℕ) → ByRows g.files.files q end text → end ≡ ending.Done
is_done q old g end text (WrongRows bytes why held is wrong none) = absurd (answering.not_wrong why g.ports g.are g.few (subst (answering.IsWrong why) (one_held g.files.files q.rows bytes (rows_bytes g.ports) held g.rows_held) wrong))
is_done q old g end text (GoodRows ports trace records held are few trace_held says texts) =
    let file = one_held g.files.files q.trace trace g.trace trace_held g.trace_held in
    (one_ending g.trace end ending.Done records g.records (subst (λ w. Says w end records) file says) (g.trace_good, g.short)).0

ends_well : (q : Query) (old new : Outside) (end : Ending) → AreGood q old.inputs → HasNoFault old new → RunsByRows q old new end → (status_of end ≡ status.Done) ⊎ (status_of end ≡ status.Memory)
ends_well q old new end g clean r = by end r
  where
    never : (end : Ending) → (end ≡ ending.Memory → ⊥) → RunsByRows q old new end → end ≡ ending.Done
    never end n r = let f = found_rows q old new g.files end g.told clean n r in is_done q old g end f.text f.found

    by : (end : Ending) → RunsByRows q old new end → (status_of end ≡ status.Done) ⊎ (status_of end ≡ status.Memory)
    by ending.Done r = inl refl
    by ending.Memory r = inr refl
    by ending.ReadFault r = absurd (let e = never ending.ReadFault (λ e. cc e) r in cc e)
    by ending.WriteFault r = absurd (let e = never ending.WriteFault (λ e. cc e) r in cc e)
    by ending.Usage r = absurd (let e = never ending.Usage (λ e. cc e) r in cc e)
    by (ending.Policy why) r = absurd (let e = never (ending.Policy why) (λ e. cc e) r in cc e)
    by (ending.Commands why) r = absurd (let e = never (ending.Commands why) (λ e. cc e) r in cc e)
    by (ending.Report why) r = absurd (let e = never (ending.Report why) (λ e. cc e) r in cc e)
    by ending.Illegal r = absurd (let e = never ending.Illegal (λ e. cc e) r in cc e)
    by (ending.Trace bad) r = absurd (let e = never (ending.Trace bad) (λ e. cc e) r in cc e)
    by ending.Records r = absurd (let e = never ending.Records (λ e. cc e) r in cc e)
    by (ending.Rows why) r = absurd (let e = never (ending.Rows why) (λ e. cc e) r in cc e)

pub complete_by_rows : (words : List (List ℕ)) (old new : Outside) (s : Status) → IsRun words old new s → IsCompleteByRows words old new s
complete_by_rows words old new s run q asks good no_read no_put =
    let asked : RunsBy (Some (Engine q)) old new run.end = subst (λ o. RunsBy o old new run.end) asks run.runs in
    subst (λ t. (t ≡ status.Done) ⊎ (t ≡ status.Memory)) (sym run.status_is) (ends_well q old new run.end good (record { read = no_read; put = no_put }) asked)
