-- The whole run: what is left behind its complaint, and what its status shows.
use Rattle.std.proofs.Common.{◌≡◌, ◌↔◌, ℕ, inl, inr, Bool, true, false, List, [], Option, Some, None, take, refl, sym, ◌∙◌, ap, subst}
use Rattle.vsw_commandfile.specs.declared.fault.CommandsFault.{CommandsFault}
use Rattle.vsw_commandfile.specs.declared.fault.CommandsFault.TheVariants as commands
use Rattle.vsw_host.specs.Outside.{Opened, Outside, Grows, Rose, SameInputs}
use Rattle.vsw_host.specs.Told.{TellsSince}
use Rattle.vsw_host.proofs.CallerLemmas.{TellsSince-SameInputs}
use Rattle.vsw_config.specs.declared.file.ConfigFault.{ConfigFault}
use Rattle.vsw_config.specs.declared.file.ConfigFault.TheVariants as policy
use Rattle.vsw_run.specs.Checks.{answer_text}
use Rattle.vsw_run.specs.Checks as checks
use Rattle.vsw_run.specs.ByRows as rows
use Rattle.vsw_offload.specs.declared.fault.BadRows.TheVariants as bad
use Rattle.vsw_offload.specs.declared.port_rows.PortRows.{PortRows}
use Rattle.vsw_run.specs.declared.ending.RowsFault.{RowsFault}
use Rattle.vsw_run.specs.declared.ending.RowsFault.TheVariants as fault
use Rattle.vsw_run.specs.Complaint.{policy_status, commands_status, report_status, rows_status, status_of, complaint, Complains}
use Rattle.vsw_run.specs.Exporting as exports
use Rattle.vsw_promise.specs.Jobs.{Setting}
use Rattle.vsw_run.specs.ByTrace as of_trace
use Rattle.vsw_run.specs.ByTrace.{BreaksOff, EndsSo}
use Rattle.vsw_run.specs.Files.{IsEarly, IsReadOf, Opens}
use Rattle.vsw_run.specs.Trace.{Trace}
use Rattle.vsw_run.specs.IsRun.{Ends, EndsGenerated, PutsSummary, Runs, RunsBy, IsRun}
use Rattle.vsw_run.specs.declared.ending.Ending.{Ending}
use Rattle.vsw_run.specs.declared.ending.Ending.TheVariants as ending
use Rattle.vsw_run.specs.declared.ending.ReportFault.{ReportFault}
use Rattle.vsw_run.specs.declared.ending.ReportFault.TheVariants as report
use Rattle.vsw_run.specs.declared.ending.Status.{Status}
use Rattle.vsw_run.specs.declared.ending.Status.TheVariants as status
use Rattle.vsw_run.specs.Words.{Request, Claim, Query, Asked, Forward, Deliver, Stream, Offload, Check, Engine, Generate, asked_in}
use Rattle.vsw_app.specs.Speaks.{KeepsPut}
use Rattle.vsw_app.specs.Stages.{HasEnded, HasEndedBy}
use Rattle.vsw_files.proofs.Growing.{grows_none, grows_as, rose_as}
use Rattle.vsw_app.proofs.Running.{read_as}

-- ---- behind the complaint

-- nothing was opened, read and put since
record IsLater (b c : Outside) : Type 0 where
  inputs : SameInputs b c
  put : KeepsPut b c

opens_later : (q : Request) (old b c : Outside) (files : List Opened) → IsLater b c → Opens old b q files → Opens old c q files
opens_later q old b c files l o = record { since = subst (λ i. TellsSince old.inputs i files) (sym l.inputs.inputs) o.since; held = o.held; within = o.within; in_turn = o.in_turn }

read_later : (old b c : Outside) (f : Opened) (t : Trace) → IsLater b c → IsReadOf old b f t → IsReadOf old c f t
read_later old b c f t l r = read_as old b old c f t (rose_as old.input_faults b.input_faults old.input_faults c.input_faults refl l.inputs.input_faults) r

read_rose : (old b c : Outside) → IsLater b c → Rose old.input_faults b.input_faults → Rose old.input_faults c.input_faults
read_rose old b c l rose = rose_as old.input_faults b.input_faults old.input_faults c.input_faults refl l.inputs.input_faults rose

put_rose : (old b c : Outside) → IsLater b c → Rose old.put_faults b.put_faults → Rose old.put_faults c.put_faults
put_rose old b c l rose = rose_as old.put_faults b.put_faults old.put_faults c.put_faults refl l.put.put_faults rose

grows_later : (old b c : Outside) (text : List ℕ) → IsLater b c → Grows old.put b.put text → Grows old.put c.put text
grows_later old b c text l g = grows_as old.put b.put old.put c.put text refl l.put.put g

early_later : (old b c : Outside) (files : List Opened) (end : Ending) → IsLater b c → IsEarly old b files end → IsEarly old c files end
early_later old b c files (ending.Policy why) l e = e
early_later old b c files (ending.Commands why) l e = e
early_later old b c files ending.ReadFault l e = (read_rose old b c l e.0, e.1)
early_later old b c files ending.Memory l e = tt
early_later old b c files ending.Done l e = absurd e
early_later old b c files ending.WriteFault l e = absurd e
early_later old b c files (ending.Trace bad) l e = absurd e
early_later old b c files ending.Records l e = absurd e
early_later old b c files ending.Usage l e = absurd e
early_later old b c files (ending.Report why) l e = absurd e
early_later old b c files ending.Illegal l e = absurd e
early_later old b c files (ending.Rows why) l e = absurd e

by_trace_later : (s : Setting) (f : Opened) (old b c : Outside) (end : Ending) → IsLater b c → EndsSo s (IsReadOf old b f) old b end → EndsSo s (IsReadOf old c f) old c end
by_trace_later s f old b c end l e = record { trace = e.trace; reads = read_later old b c f e.trace l e.reads; text = e.text; tells = e.tells; puts = grows_later old b c e.text l e.puts }

break_later : (s : Setting) (f : Opened) (old b c : Outside) → IsLater b c → BreaksOff s (IsReadOf old b f) old b → BreaksOff s (IsReadOf old c f) old c
break_later s f old b c l e = record { trace = e.trace; reads = read_later old b c f e.trace l e.reads; text = e.text; tells = e.tells; puts = (e.puts.0, grows_later old b c (take e.puts.0 e.text) l e.puts.1) }

trace_later : (s : Setting) (f : Opened) (old b c : Outside) (end : Ending) → IsLater b c → of_trace.Ends s (IsReadOf old b f) old b end → of_trace.Ends s (IsReadOf old c f) old c end
trace_later s f old b c ending.Done l e = by_trace_later s f old b c ending.Done l e
trace_later s f old b c (ending.Trace bad) l e = by_trace_later s f old b c (ending.Trace bad) l e
trace_later s f old b c ending.Records l e = by_trace_later s f old b c ending.Records l e
trace_later s f old b c ending.ReadFault l (rose, e) = (read_rose old b c l rose, by_trace_later s f old b c ending.ReadFault l e)
trace_later s f old b c ending.WriteFault l (rose, e) = (put_rose old b c l rose, break_later s f old b c l e)
trace_later s f old b c ending.Memory l (inl e) = inl (by_trace_later s f old b c ending.Memory l e)
trace_later s f old b c ending.Memory l (inr e) = inr (break_later s f old b c l e)
trace_later s f old b c (ending.Policy why) l e = absurd e
trace_later s f old b c (ending.Commands why) l e = absurd e
trace_later s f old b c ending.Usage l e = absurd e
trace_later s f old b c (ending.Report why) l e = absurd e
trace_later s f old b c ending.Illegal l e = absurd e
trace_later s f old b c (ending.Rows why) l e = absurd e

ends_later : (local : Bool) (q : Request) (old b c : Outside) (files : List Opened) (end : Ending) → IsLater b c → Ends local q old b files end → Ends local q old c files end
ends_later local q old b c files end l (inl e) = inl (early_later old b c files end l e.0, grows_later old b c [] l e.1)
ends_later local q old b c files end l (inr e) = inr (record { setting = e.setting; file = e.file; opened = e.opened; ends = trace_later e.setting e.file old b c end l e.ends })

-- the same of a run that exports
export_read_later : (s : Setting) (f : Opened) (old b c : Outside) (text : List ℕ) → IsLater b c → exports.ReadsExport s (IsReadOf old b f) text → exports.ReadsExport s (IsReadOf old c f) text
export_read_later s f old b c text l e = record { trace = e.trace; reads = read_later old b c f e.trace l e.reads; whole = e.whole; records = e.records; capture = e.capture; few = e.few; is = e.is }

unput_later : (s : Setting) (f : Opened) (old b c : Outside) (end : Ending) → IsLater b c → exports.EndsUnput s (IsReadOf old b f) old b end → exports.EndsUnput s (IsReadOf old c f) old c end
unput_later s f old b c end l e = record { trace = e.trace; reads = read_later old b c f e.trace l e.reads; text = e.text; tells = e.tells; nothing = grows_later old b c [] l e.nothing }

export_front_later : (s : Setting) (f : Opened) (old b c : Outside) → IsLater b c → exports.PutsExportFront s (IsReadOf old b f) old b → exports.PutsExportFront s (IsReadOf old c f) old c
export_front_later s f old b c l e = record { text = e.text; read = export_read_later s f old b c e.text l e.read; puts = (e.puts.0, grows_later old b c (take e.puts.0 e.text) l e.puts.1) }

export_trace_later : (s : Setting) (f : Opened) (old b c : Outside) (end : Ending) → IsLater b c → exports.TraceEnds s (IsReadOf old b f) old b end → exports.TraceEnds s (IsReadOf old c f) old c end
export_trace_later s f old b c ending.Done l e = record { text = e.text; read = export_read_later s f old b c e.text l e.read; puts = grows_later old b c e.text l e.puts }
export_trace_later s f old b c (ending.Trace bad) l e = unput_later s f old b c (ending.Trace bad) l e
export_trace_later s f old b c ending.Records l e = unput_later s f old b c ending.Records l e
export_trace_later s f old b c ending.ReadFault l (rose, e) = (read_rose old b c l rose, unput_later s f old b c ending.ReadFault l e)
export_trace_later s f old b c ending.WriteFault l (rose, e) = (put_rose old b c l rose, export_front_later s f old b c l e)
export_trace_later s f old b c ending.Memory l (inl e) = inl (record { trace = e.trace; reads = read_later old b c f e.trace l e.reads; nothing = grows_later old b c [] l e.nothing })
export_trace_later s f old b c ending.Memory l (inr e) = inr (export_front_later s f old b c l e)
export_trace_later s f old b c (ending.Policy why) l e = absurd e
export_trace_later s f old b c (ending.Commands why) l e = absurd e
export_trace_later s f old b c ending.Usage l e = absurd e
export_trace_later s f old b c (ending.Report why) l e = absurd e
export_trace_later s f old b c ending.Illegal l e = absurd e
export_trace_later s f old b c (ending.Rows why) l e = absurd e

export_later : (q : Request) (old b c : Outside) (files : List Opened) (end : Ending) → IsLater b c → exports.Ends q old b files end → exports.Ends q old c files end
export_later q old b c files end l (inl e) = inl (early_later old b c files end l e.0, grows_later old b c [] l e.1)
export_later q old b c files end l (inr e) = inr (record { setting = e.setting; file = e.file; opened = e.opened; ends = export_trace_later e.setting e.file old b c end l e.ends })

-- the same of a run that checks
checked_later : (k : Claim) (old b c : Outside) (files : List Opened) (end : Ending) → IsLater b c → checks.Ends k old b files end → checks.Ends k old c files end
checked_later k old b c files ending.Done l e = (e.0, grows_later old b c (answer_text true) l e.1)
checked_later k old b c files ending.Illegal l e = (e.0, grows_later old b c (answer_text false) l e.1)
checked_later k old b c files (ending.Policy why) l e = (e.0, grows_later old b c [] l e.1)
checked_later k old b c files (ending.Commands why) l e = (e.0, grows_later old b c [] l e.1)
checked_later k old b c files (ending.Trace bad) l e = (e.0, grows_later old b c [] l e.1)
checked_later k old b c files ending.Records l e = (e.0, grows_later old b c [] l e.1)
checked_later k old b c files (ending.Report why) l e = (e.0, grows_later old b c [] l e.1)
checked_later k old b c files ending.ReadFault l e = (rose_as old.input_faults b.input_faults old.input_faults c.input_faults refl l.inputs.input_faults e.0, e.1, grows_later old b c [] l e.2)
checked_later k old b c files ending.WriteFault l e =
    (rose_as old.put_faults b.put_faults old.put_faults c.put_faults refl l.put.put_faults e.0, (e.1.0, e.1.1, e.1.2, grows_later old b c (take e.1.1 (answer_text e.1.0)) l e.1.3))
checked_later k old b c files ending.Memory l e = grows_later old b c [] l e
checked_later k old b c files ending.Usage l e = absurd e
checked_later k old b c files (ending.Rows why) l e = absurd e

check_opens_later : (k : Claim) (old b c : Outside) (files : List Opened) → IsLater b c → checks.Opens old b k files → checks.Opens old c k files
check_opens_later k old b c files l o = record { since = subst (λ i. TellsSince old.inputs i files) (sym l.inputs.inputs) o.since; held = o.held; within = o.within; in_turn = o.in_turn }

-- the same of a run that answers from rows
rows_early_later : (old b c : Outside) (files : List Opened) (end : Ending) → IsLater b c → rows.IsEarly old b files end → rows.IsEarly old c files end
rows_early_later old b c files (ending.Rows why) l e = e
rows_early_later old b c files ending.ReadFault l e = (read_rose old b c l e.0, e.1)
rows_early_later old b c files ending.Memory l e = tt
rows_early_later old b c files ending.Done l e = absurd e
rows_early_later old b c files ending.WriteFault l e = absurd e
rows_early_later old b c files (ending.Trace bad) l e = absurd e
rows_early_later old b c files ending.Records l e = absurd e
rows_early_later old b c files ending.Usage l e = absurd e
rows_early_later old b c files (ending.Policy why) l e = absurd e
rows_early_later old b c files (ending.Commands why) l e = absurd e
rows_early_later old b c files (ending.Report why) l e = absurd e
rows_early_later old b c files ending.Illegal l e = absurd e

rows_so_later : (ports : List PortRows) (f : Opened) (old b c : Outside) (end : Ending) → IsLater b c → rows.EndsSo ports (IsReadOf old b f) old b end → rows.EndsSo ports (IsReadOf old c f) old c end
rows_so_later ports f old b c end l e = record { trace = e.trace; reads = read_later old b c f e.trace l e.reads; records = e.records; ends = e.ends; text = e.text; tells = e.tells; puts = grows_later old b c e.text l e.puts }

rows_break_later : (ports : List PortRows) (f : Opened) (old b c : Outside) → IsLater b c → rows.BreaksOff ports (IsReadOf old b f) old b → rows.BreaksOff ports (IsReadOf old c f) old c
rows_break_later ports f old b c l e = record { trace = e.trace; reads = read_later old b c f e.trace l e.reads; records = e.records; first = e.first; text = e.text; tells = e.tells; puts = (e.puts.0, grows_later old b c (take e.puts.0 e.text) l e.puts.1) }

rows_trace_later : (ports : List PortRows) (f : Opened) (old b c : Outside) (end : Ending) → IsLater b c → rows.TraceEnds ports (IsReadOf old b f) old b end → rows.TraceEnds ports (IsReadOf old c f) old c end
rows_trace_later ports f old b c ending.Done l e = rows_so_later ports f old b c ending.Done l e
rows_trace_later ports f old b c (ending.Trace bad) l e = rows_so_later ports f old b c (ending.Trace bad) l e
rows_trace_later ports f old b c ending.Records l e = rows_so_later ports f old b c ending.Records l e
rows_trace_later ports f old b c ending.ReadFault l (rose, e) = (read_rose old b c l rose, rows_so_later ports f old b c ending.ReadFault l e)
rows_trace_later ports f old b c ending.WriteFault l (rose, e) = (put_rose old b c l rose, rows_break_later ports f old b c l e)
rows_trace_later ports f old b c ending.Memory l (inl e) = inl (record { trace = e.trace; reads = read_later old b c f e.trace l e.reads; nothing = grows_later old b c [] l e.nothing })
rows_trace_later ports f old b c ending.Memory l (inr e) = inr (rows_break_later ports f old b c l e)
rows_trace_later ports f old b c (ending.Rows why) l e = absurd e
rows_trace_later ports f old b c ending.Usage l e = absurd e
rows_trace_later ports f old b c (ending.Policy why) l e = absurd e
rows_trace_later ports f old b c (ending.Commands why) l e = absurd e
rows_trace_later ports f old b c (ending.Report why) l e = absurd e
rows_trace_later ports f old b c ending.Illegal l e = absurd e

rows_later : (q : Query) (old b c : Outside) (files : List Opened) (end : Ending) → IsLater b c → rows.Ends q old b files end → rows.Ends q old c files end
rows_later q old b c files end l (inl e) = inl (rows_early_later old b c files end l e.0, grows_later old b c [] l e.1)
rows_later q old b c files end l (inr e) = inr (record { rows = e.rows; file = e.file; all = e.all; ports = e.ports; are = e.are; ends = rows_trace_later e.ports e.file old b c end l e.ends })

rows_opens_later : (q : Query) (old b c : Outside) (files : List Opened) → IsLater b c → rows.Opens old b q files → rows.Opens old c q files
rows_opens_later q old b c files l o = record { since = subst (λ i. TellsSince old.inputs i files) (sym l.inputs.inputs) o.since; held = o.held; within = o.within; in_turn = o.in_turn }

-- words that were complained where nothing had been since
complains_from : (a b c : Outside) (text : List ℕ) → b.complained ≡ a.complained → b.complain_faults ≡ a.complain_faults → Complains b c text → Complains a c text
complains_from a b c text e f (inl g) = inl (grows_as b.complained c.complained a.complained c.complained text (sym e) refl g)
complains_from a b c text e f (inr (n, g, r)) = inr (n, grows_as b.complained c.complained a.complained c.complained (take n text) (sym e) refl g, rose_as b.complain_faults c.complain_faults a.complain_faults c.complain_faults (sym f) refl r)

summary_later : (start packets : ℕ) (old b c : Outside) (short : Bool) → IsLater b c → PutsSummary start packets old b short → PutsSummary start packets old c short
summary_later start packets old b c short l e = record { text = e.text; summarizes = e.summarizes; puts = grows_later old b c e.text l e.puts }

generated_later : (start packets : ℕ) (old b c : Outside) (end : Ending) → IsLater b c → EndsGenerated start packets old b end → EndsGenerated start packets old c end
generated_later start packets old b c ending.Done l e = summary_later start packets old b c false l e
generated_later start packets old b c ending.WriteFault l (rose, e) =
    (rose_as old.put_faults b.put_faults old.put_faults c.put_faults refl l.put.put_faults rose, record { short = e.short; text = e.text; summarizes = e.summarizes; puts = (e.puts.0, grows_later old b c (take e.puts.0 e.text) l e.puts.1) })
generated_later start packets old b c ending.Memory l (inl e) = inl (grows_later old b c [] l e)
generated_later start packets old b c ending.Memory l (inr e) = inr (summary_later start packets old b c true l e)
generated_later start packets old b c ending.Usage l e = absurd e
generated_later start packets old b c ending.ReadFault l e = absurd e
generated_later start packets old b c (ending.Policy why) l e = absurd e
generated_later start packets old b c (ending.Commands why) l e = absurd e
generated_later start packets old b c (ending.Trace bad) l e = absurd e
generated_later start packets old b c ending.Records l e = absurd e
generated_later start packets old b c (ending.Report why) l e = absurd e
generated_later start packets old b c ending.Illegal l e = absurd e
generated_later start packets old b c (ending.Rows why) l e = absurd e

-- a run over files, which ended and was complained of
run_over_files : (words : List (List ℕ)) (local : Bool) (q : Request) (a : Asked) (old now new : Outside) (end : Ending) (s : Status) → asked_in words ≡ Some a → (Runs local q old new end → RunsBy (Some a) old new end) → HasEnded local q old now end → s ≡ status_of end → Complains now new (complaint end) → SameInputs now new → KeepsPut now new → IsRun words old new s
run_over_files words local q a old now new end s asked by h is complains same keeps =
    let later : IsLater now new = record { inputs = same; put = keeps } in
    let runs : Runs local q old new end = record { files = h.runs.files; opens = opens_later q old now new h.runs.files later h.runs.opens; ends = ends_later local q old now new h.runs.files end later h.runs.ends } in
    record {
      end = end;
      status_is = is;
      runs = subst (λ o. RunsBy o old new end) (sym asked) (by runs);
      complains = complains_from old now new (complaint end) h.complained h.complain_faults complains;
    }

-- the words ask for a run, which ended and was complained of
pub run_asked : (words : List (List ℕ)) (a : Asked) (old now new : Outside) (end : Ending) (s : Status) → asked_in words ≡ Some a → HasEndedBy a old now end → s ≡ status_of end → Complains now new (complaint end) → SameInputs now new → KeepsPut now new → IsRun words old new s
run_asked words (Forward q) old now new end s asked h is complains same keeps = run_over_files words false q (Forward q) old now new end s asked (λ r. r) h is complains same keeps
run_asked words (Deliver q) old now new end s asked h is complains same keeps = run_over_files words true q (Deliver q) old now new end s asked (λ r. r) h is complains same keeps
run_asked words (Stream q) old now new end s asked h is complains same keeps = run_over_files words false q (Stream q) old now new end s asked (λ r. r) h is complains same keeps
run_asked words (Offload q) old now new end s asked h is complains same keeps =
    let later : IsLater now new = record { inputs = same; put = keeps } in
    record {
      end = end;
      status_is = is;
      runs = subst (λ o. RunsBy o old new end) (sym asked) (record { files = h.runs.files; opens = opens_later q old now new h.runs.files later h.runs.opens; ends = export_later q old now new h.runs.files end later h.runs.ends });
      complains = complains_from old now new (complaint end) h.complained h.complain_faults complains;
    }
run_asked words (Check k) old now new end s asked h is complains same keeps =
    let later : IsLater now new = record { inputs = same; put = keeps } in
    record {
      end = end;
      status_is = is;
      runs = subst (λ o. RunsBy o old new end) (sym asked) (record { files = h.runs.files; opens = check_opens_later k old now new h.runs.files later h.runs.opens; ends = checked_later k old now new h.runs.files end later h.runs.ends });
      complains = complains_from old now new (complaint end) h.complained h.complain_faults complains;
    }
run_asked words (Engine q) old now new end s asked h is complains same keeps =
    let later : IsLater now new = record { inputs = same; put = keeps } in
    record {
      end = end;
      status_is = is;
      runs = subst (λ o. RunsBy o old new end) (sym asked) (record { files = h.runs.files; opens = rows_opens_later q old now new h.runs.files later h.runs.opens; ends = rows_later q old now new h.runs.files end later h.runs.ends });
      complains = complains_from old now new (complaint end) h.complained h.complain_faults complains;
    }
run_asked words (Generate start packets) old now new end s asked h is complains same keeps =
    let later : IsLater now new = record { inputs = same; put = keeps } in
    record {
      end = end;
      status_is = is;
      runs = subst (λ o. RunsBy o old new end) (sym asked) (record { opens = subst (λ i. TellsSince old.inputs i []) (sym same.inputs) h.runs.opens; ends = generated_later start packets old now new end later h.runs.ends });
      complains = complains_from old now new (complaint end) h.complained h.complain_faults complains;
    }

-- they are outside the grammar
pub run_unasked : (words : List (List ℕ)) (old new : Outside) (s : Status) → asked_in words ≡ None → s ≡ status.Usage → Complains old new (complaint ending.Usage) → SameInputs old new → KeepsPut old new → IsRun words old new s
run_unasked words old new s unasked is complains same keeps = record {
  end = ending.Usage;
  status_is = is;
  runs = subst (λ o. RunsBy o old new ending.Usage) (sym unasked) (record { usage = refl; opens = TellsSince-SameInputs old new same; nothing = grows_as old.put old.put old.put new.put [] refl keeps.put (grows_none old.put) });
  complains = complains;
}

-- ---- what the status shows

-- the statuses that one ending alone has
abbrev IsOwn : Status → Ending → Type 0
IsOwn status.Usage end = end ≡ ending.Usage
IsOwn status.ReadFault end = end ≡ ending.ReadFault
IsOwn status.WriteFault end = end ≡ ending.WriteFault
IsOwn s end = Unit {0}

own_policy : (why : ConfigFault) → IsOwn (policy_status why) (ending.Policy why)
own_policy (policy.Bad kind path) = tt
own_policy policy.PolicyLimit = tt
own_policy policy.PortsLimit = tt
own_policy policy.ControllersLimit = tt
own_policy policy.Memory = tt

own_commands : (why : CommandsFault) → IsOwn (commands_status why) (ending.Commands why)
own_commands (commands.Bad line kind path) = tt
own_commands commands.CommandsLimit = tt
own_commands commands.LinesLimit = tt
own_commands commands.Memory = tt

own_report : (why : ReportFault) → IsOwn (report_status why) (ending.Report why)
own_report (report.Line number) = tt
own_report report.ReportLimit = tt

own_rows : (why : RowsFault) → IsOwn (rows_status why) (ending.Rows why)
own_rows (fault.Bad bad.NotRows) = tt
own_rows (fault.Bad (bad.Cut at)) = tt
own_rows (fault.Bad (bad.ManyPorts at)) = tt
own_rows (fault.Bad (bad.PortTwice at)) = tt
own_rows (fault.Bad (bad.ManyRows at)) = tt
own_rows (fault.Bad (bad.BadRow at)) = tt
own_rows (fault.Bad (bad.Order at)) = tt
own_rows (fault.Bad (bad.Extra at)) = tt
own_rows (fault.Bad bad.Memory) = tt
own_rows fault.RowsLimit = tt

own : (end : Ending) → IsOwn (status_of end) end
own ending.Done = tt
own ending.Usage = refl
own ending.ReadFault = refl
own ending.WriteFault = refl
own (ending.Policy why) = own_policy why
own (ending.Commands why) = own_commands why
own (ending.Trace bad) = tt
own ending.Records = tt
own ending.Memory = tt
own (ending.Report why) = own_report why
own (ending.Rows why) = own_rows why
own ending.Illegal = tt

end_of : (words : List (List ℕ)) (old new : Outside) (s t : Status) (r : IsRun words old new s) → s ≡ t → IsOwn t r.end
end_of words old new s t r e = subst (λ u. IsOwn u r.end) (sym r.status_is ∙ e) (own r.end)

-- no run over files ends by Usage
no_usage : {A : Type 0} (local : Bool) (q : Request) (old new : Outside) (files : List Opened) → Ends local q old new files ending.Usage → A
no_usage local q old new files (inl e) = absurd e.0
no_usage local q old new files (inr e) = absurd e.ends

no_export_usage : {A : Type 0} (q : Request) (old new : Outside) (files : List Opened) → exports.Ends q old new files ending.Usage → A
no_export_usage q old new files (inl e) = absurd e.0
no_export_usage q old new files (inr e) = absurd e.ends

no_rows_usage : {A : Type 0} (q : Query) (old new : Outside) (files : List Opened) → rows.Ends q old new files ending.Usage → A
no_rows_usage q old new files (inl e) = absurd e.0
no_rows_usage q old new files (inr e) = absurd e.ends

-- words outside the grammar have no other status
usage_by : (o : Option Asked) (old new : Outside) (end : Ending) → RunsBy o old new end → (end ≡ ending.Usage) ↔ (o ≡ None)
usage_by None old new end r = ((λ e. refl), (λ e. r.usage))
usage_by (Some (Forward q)) old new end r = ((λ e. no_usage false q old new r.files (subst (Ends false q old new r.files) e r.ends)), (λ e. absurd (cc e)))
usage_by (Some (Deliver q)) old new end r = ((λ e. no_usage true q old new r.files (subst (Ends true q old new r.files) e r.ends)), (λ e. absurd (cc e)))
usage_by (Some (Stream q)) old new end r = ((λ e. no_usage false q old new r.files (subst (Ends false q old new r.files) e r.ends)), (λ e. absurd (cc e)))
usage_by (Some (Offload q)) old new end r = ((λ e. no_export_usage q old new r.files (subst (exports.Ends q old new r.files) e r.ends)), (λ e. absurd (cc e)))
usage_by (Some (Check k)) old new end r = ((λ e. absurd (subst (checks.Ends k old new r.files) e r.ends)), (λ e. absurd (cc e)))
usage_by (Some (Engine q)) old new end r = ((λ e. no_rows_usage q old new r.files (subst (rows.Ends q old new r.files) e r.ends)), (λ e. absurd (cc e)))
usage_by (Some (Generate start packets)) old new end r = ((λ e. absurd (subst (EndsGenerated start packets old new) e r.ends)), (λ e. absurd (cc e)))

pub usage_is : (words : List (List ℕ)) (old new : Outside) (s : Status) → IsRun words old new s → (s ≡ status.Usage) ↔ (asked_in words ≡ None)
usage_is words old new s r =
    let both = usage_by (asked_in words) old new r.end r.runs in
    ((λ e. both.0 (end_of words old new s status.Usage r e)), (λ e. r.status_is ∙ ap status_of (both.1 e)))

read_rises : (local : Bool) (q : Request) (old new : Outside) (files : List Opened) → Ends local q old new files ending.ReadFault → Rose old.input_faults new.input_faults
read_rises local q old new files (inl e) = e.0.0
read_rises local q old new files (inr e) = e.ends.0

export_read_rises : (q : Request) (old new : Outside) (files : List Opened) → exports.Ends q old new files ending.ReadFault → Rose old.input_faults new.input_faults
export_read_rises q old new files (inl e) = e.0.0
export_read_rises q old new files (inr e) = e.ends.0

write_rises : (local : Bool) (q : Request) (old new : Outside) (files : List Opened) → Ends local q old new files ending.WriteFault → Rose old.put_faults new.put_faults
write_rises local q old new files (inl e) = absurd e.0
write_rises local q old new files (inr e) = e.ends.0

export_write_rises : (q : Request) (old new : Outside) (files : List Opened) → exports.Ends q old new files ending.WriteFault → Rose old.put_faults new.put_faults
export_write_rises q old new files (inl e) = absurd e.0
export_write_rises q old new files (inr e) = e.ends.0

rows_read_rises : (q : Query) (old new : Outside) (files : List Opened) → rows.Ends q old new files ending.ReadFault → Rose old.input_faults new.input_faults
rows_read_rises q old new files (inl e) = e.0.0
rows_read_rises q old new files (inr e) = e.ends.0

rows_write_rises : (q : Query) (old new : Outside) (files : List Opened) → rows.Ends q old new files ending.WriteFault → Rose old.put_faults new.put_faults
rows_write_rises q old new files (inl e) = absurd e.0
rows_write_rises q old new files (inr e) = e.ends.0

-- a fault has its cause
read_by : (o : Option Asked) (old new : Outside) (end : Ending) → RunsBy o old new end → end ≡ ending.ReadFault → Rose old.input_faults new.input_faults
read_by None old new end r e = absurd (let u = r.usage in cc (u, e))
read_by (Some (Forward q)) old new end r e = read_rises false q old new r.files (subst (Ends false q old new r.files) e r.ends)
read_by (Some (Deliver q)) old new end r e = read_rises true q old new r.files (subst (Ends true q old new r.files) e r.ends)
read_by (Some (Stream q)) old new end r e = read_rises false q old new r.files (subst (Ends false q old new r.files) e r.ends)
read_by (Some (Offload q)) old new end r e = export_read_rises q old new r.files (subst (exports.Ends q old new r.files) e r.ends)
read_by (Some (Check k)) old new end r e = (subst (checks.Ends k old new r.files) e r.ends).0
read_by (Some (Engine q)) old new end r e = rows_read_rises q old new r.files (subst (rows.Ends q old new r.files) e r.ends)
read_by (Some (Generate start packets)) old new end r e = absurd (subst (EndsGenerated start packets old new) e r.ends)

pub read_fault_is : (words : List (List ℕ)) (old new : Outside) (s : Status) → IsRun words old new s → s ≡ status.ReadFault → Rose old.input_faults new.input_faults
read_fault_is words old new s r e = read_by (asked_in words) old new r.end r.runs (end_of words old new s status.ReadFault r e)

write_by : (o : Option Asked) (old new : Outside) (end : Ending) → RunsBy o old new end → end ≡ ending.WriteFault → Rose old.put_faults new.put_faults
write_by None old new end r e = absurd (let u = r.usage in cc (u, e))
write_by (Some (Forward q)) old new end r e = write_rises false q old new r.files (subst (Ends false q old new r.files) e r.ends)
write_by (Some (Deliver q)) old new end r e = write_rises true q old new r.files (subst (Ends true q old new r.files) e r.ends)
write_by (Some (Stream q)) old new end r e = write_rises false q old new r.files (subst (Ends false q old new r.files) e r.ends)
write_by (Some (Offload q)) old new end r e = export_write_rises q old new r.files (subst (exports.Ends q old new r.files) e r.ends)
write_by (Some (Check k)) old new end r e = (subst (checks.Ends k old new r.files) e r.ends).0
write_by (Some (Engine q)) old new end r e = rows_write_rises q old new r.files (subst (rows.Ends q old new r.files) e r.ends)
write_by (Some (Generate start packets)) old new end r e = (subst (EndsGenerated start packets old new) e r.ends).0

pub write_fault_is : (words : List (List ℕ)) (old new : Outside) (s : Status) → IsRun words old new s → s ≡ status.WriteFault → Rose old.put_faults new.put_faults
write_fault_is words old new s r e = write_by (asked_in words) old new r.end r.runs (end_of words old new s status.WriteFault r e)
