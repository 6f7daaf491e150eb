-- A run that exports opens and reads what one that forwards does, and ends as it does.
use Rattle.std.proofs.Common.{inl, inr, ℕ, List, [], ◌++◌, Option, Some, None, refl}
use Rattle.std.specs.Prelude.{option_map, false}
use Rattle.vsw_host.specs.Outside.{Opened, Outside, Grows}
use Rattle.vsw_promise.specs.Jobs.{Setting}
use Rattle.vsw_report.specs.Print.{report_text}
use Rattle.vsw_run.specs.declared.ending.Ending.{Ending}
use Rattle.vsw_run.specs.declared.ending.Ending.TheVariants as ending
use Rattle.vsw_run.specs.ByTrace as of_trace
use Rattle.vsw_run.specs.ByTrace.{BreaksOff, EndsSo}
use Rattle.vsw_run.specs.Exporting.{EndsUnput, PutsExportFront, ReadsExport, RunsExport, TraceEnds}
use Rattle.vsw_run.specs.Exporting as exporting
use Rattle.vsw_run.specs.Files.{HasTrace, IsEarly, IsReadOf, Reaches}
use Rattle.vsw_run.specs.IsRun.{Ends, Runs}
use Rattle.vsw_run.specs.Law.{ExportsAsForwards}
use Rattle.vsw_run.specs.Trace.{Reach, All, Fault, Stopped, TellsAll, Trace}
use Rattle.vsw_run.specs.Words.{Request}

-- the host, had this text been put and nothing else
abbrev pub had_put : Outside → Outside → List ℕ → Outside
had_put old new text = record { inputs = new.inputs; opens = new.opens; put = option_map (λ p. p ++ text) old.put; complained = new.complained; input_faults = new.input_faults; put_faults = new.put_faults; complain_faults = new.complain_faults }

grown : (o : Option (List ℕ)) (text : List ℕ) → Grows o (option_map (λ p. p ++ text) o) text
grown None text = tt
grown (Some p) text = refl

reaches_so : (old new : Outside) (f : Opened) (r : Reach) (text : List ℕ) → Reaches old new f r → Reaches old (had_put old new text) f r
reaches_so old new f All text h = h
reaches_so old new f Fault text h = h
reaches_so old new f Stopped text h = tt

read_so : (old new : Outside) (f : Opened) (t : Trace) (text : List ℕ) → IsReadOf old new f t → IsReadOf old (had_put old new text) f t
read_so old new f t text r = record { bytes = r.bytes; reaches = reaches_so old new f t.reach text r.reaches }

-- what was read and not told
told_so : (s : Setting) (old new : Outside) (f : Opened) (end : Ending) (e : EndsUnput s (IsReadOf old new f) old new end) → EndsSo s (IsReadOf old (had_put old new e.text) f) old (had_put old new e.text) end
told_so s old new f end e = record { trace = e.trace; reads = read_so old new f e.trace e.text e.reads; text = e.text; tells = e.tells; puts = grown old.put e.text }

-- the report of the run of which rows were put
abbrev report_of : (s : Setting) (old new : Outside) (f : Opened) (text : List ℕ) → ReadsExport s (IsReadOf old new f) text → List ℕ
report_of s old new f text e = report_text e.is.rounds

tells_of : (s : Setting) (old new : Outside) (f : Opened) (text : List ℕ) (e : ReadsExport s (IsReadOf old new f) text) → TellsAll s e.trace false (report_of s old new f text e)
tells_of s old new f text e = record { read = e.whole; records = e.records; capture = e.capture; few = e.few; rounds = e.is.rounds; are = e.is.are; short_is = e.is.whole; text_is = refl }

whole_so : (s : Setting) (old new : Outside) (f : Opened) (text : List ℕ) (e : ReadsExport s (IsReadOf old new f) text)
    → EndsSo s (IsReadOf old (had_put old new (report_of s old new f text e)) f) old (had_put old new (report_of s old new f text e)) ending.Done
whole_so s old new f text e =
    let report = report_of s old new f text e in record { trace = e.trace; reads = read_so old new f e.trace report e.reads; text = report; tells = tells_of s old new f text e; puts = grown old.put report }

-- none of it
broken_so : (s : Setting) (old new : Outside) (f : Opened) (e : PutsExportFront s (IsReadOf old new f) old new) → BreaksOff s (IsReadOf old (had_put old new []) f) old (had_put old new [])
broken_so s old new f e = record {
  trace = e.read.trace;
  reads = read_so old new f e.read.trace [] e.read.reads;
  text = report_of s old new f e.text e.read;
  tells = inl (ending.Done, tells_of s old new f e.text e.read);
  puts = (0, grown old.put []);
}

abbrev RanSo : Request → Outside → Outside → Ending → Type 0
RanSo q old new end = (text : List ℕ) × Runs false q old (had_put old new text) end

early_so : (old new : Outside) (files : List Opened) (end : Ending) → IsEarly old new files end → IsEarly old (had_put old new []) files end
early_so old new files (ending.Policy why) e = e
early_so old new files (ending.Commands why) e = e
early_so old new files ending.ReadFault e = e
early_so old new files ending.Memory e = tt
early_so old new files ending.Done e = absurd e
early_so old new files ending.WriteFault e = absurd e
early_so old new files (ending.Trace bad) e = absurd e
early_so old new files ending.Records e = absurd e
early_so old new files ending.Usage e = absurd e
early_so old new files (ending.Report why) e = absurd e
early_so old new files ending.Illegal e = absurd e
early_so old new files (ending.Rows why) e = absurd e

pub forwarded : (q : Request) (old new : Outside) (end : Ending) → RunsExport q old new end → RanSo q old new end
forwarded q old new end r = by r.ends
  where
    so : (end : Ending) (text : List ℕ) → Ends false q old (had_put old new text) r.files end → RanSo q old new end
    so end text ends = (text, record { files = r.files; opens = record { since = r.opens.since; held = r.opens.held; within = r.opens.within; in_turn = r.opens.in_turn }; ends = ends })

    traced : (end : Ending) (s : Setting) (f : Opened) (text : List ℕ) → HasTrace false q r.files s f → of_trace.Ends s (IsReadOf old (had_put old new text) f) old (had_put old new text) end → RanSo q old new end
    traced end s f text o ends = so end text (inr (record { setting = s; file = f; opened = o; ends = ends }))

    ends_so : (end : Ending) (s : Setting) (f : Opened) → HasTrace false q r.files s f → TraceEnds s (IsReadOf old new f) old new end → RanSo q old new end
    ends_so ending.Done s f o e = traced ending.Done s f (report_of s old new f e.text e.read) o (whole_so s old new f e.text e.read)
    ends_so (ending.Trace bad) s f o e = traced (ending.Trace bad) s f e.text o (told_so s old new f (ending.Trace bad) e)
    ends_so ending.Records s f o e = traced ending.Records s f e.text o (told_so s old new f ending.Records e)
    ends_so ending.ReadFault s f o (rose, e) = traced ending.ReadFault s f e.text o (rose, told_so s old new f ending.ReadFault e)
    ends_so ending.WriteFault s f o (rose, e) = traced ending.WriteFault s f [] o (rose, broken_so s old new f e)
    ends_so ending.Memory s f o (inl e) = so ending.Memory [] (inl (tt, grown old.put []))
    ends_so ending.Memory s f o (inr e) = traced ending.Memory s f [] o (inr (broken_so s old new f e))
    ends_so (ending.Policy why) s f o e = absurd e
    ends_so (ending.Commands why) s f o e = absurd e
    ends_so ending.Usage s f o e = absurd e
    ends_so (ending.Report why) s f o e = absurd e
    ends_so ending.Illegal s f o e = absurd e
    ends_so (ending.Rows why) s f o e = absurd e

    by : exporting.Ends q old new r.files end → RanSo q old new end
    by (inl e) = so end [] (inl (early_so old new r.files end e.0, grown old.put []))
    by (inr e) = ends_so end e.setting e.file e.opened e.ends

pub exports_as_forwards : ExportsAsForwards
exports_as_forwards q old new end r =
    let f = forwarded q old new end r in (had_put old new f.0, record { inputs = refl; read = refl; put = refl; complained = refl; complain = refl }, f.1)
