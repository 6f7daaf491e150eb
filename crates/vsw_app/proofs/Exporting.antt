-- A run that exports, ended before its trace or as its trace did.
use Rattle.std.proofs.Common.{◌≡◌, ℕ, inl, inr, List, [], ◌∷◌, take, false, refl, sym, ◌∙◌, subst, arith}
use Rattle.vsw_app.proofs.Running.{early_behind, files_with, has_trace, nothing_put, opens_behind, opens_trace, read_since, setting_of}
use Rattle.vsw_app.specs.Stages.{HasExported}
use Rattle.vsw_commandfile.specs.declared.line.Line.{Line}
use Rattle.vsw_config.specs.declared.file.PolicyFile.{PolicyFile}
use Rattle.vsw_files.specs.Early.{EndsEarly, HasCommands}
use Rattle.vsw_files.proofs.Growing.{grows_none, grows_same, grows_as, rose_from, rose_as}
use Rattle.vsw_host.specs.Outside.{Opened, Outside, Grows}
use Rattle.vsw_host.proofs.CallerLemmas.{TellsSince-refl}
use Rattle.vsw_promise.specs.Jobs.{Setting}
use Rattle.vsw_replay.specs.Endings.{ending_of}
use Rattle.vsw_replay.specs.Exports.{ExportEnds, ExportsTrace}
use Rattle.vsw_run.specs.Steps.{Reads}
use Rattle.vsw_replay.specs.declared.ending.TraceEnd.{TraceEnd}
use Rattle.vsw_replay.specs.declared.ending.TraceEnd.TheVariants as end
use Rattle.vsw_run.specs.declared.ending.Ending.{Ending}
use Rattle.vsw_run.specs.declared.ending.Ending.TheVariants as ending
use Rattle.vsw_run.specs.Exporting.{Ends, EndsUnput, PutsExport, PutsExportFront, ReadsExport, TraceEnds}
use Rattle.vsw_run.specs.Files.{IsReadOf, Opens}
use Rattle.vsw_run.specs.Trace.{Trace}
use Rattle.vsw_run.specs.Words.{Request}

-- ---- before the trace

pub exported_early : (q : Request) (old new : Outside) (end : Ending) → EndsEarly q old new end → HasExported q old new end
exported_early q old new end e = record {
  runs = record { files = e.files; opens = e.opens; ends = inl (e.why, grows_same old.put new.put e.outputs.put) };
  complained = e.outputs.complained;
  complain_faults = e.outputs.complain_faults;
}

-- no memory for the commands
pub unexported : (s : Setting) (old : Outside) (name : List ℕ) → ExportsTrace s old old name end.Memory
unexported s old name = record { ends = inl (record { since = TellsSince-refl old.inputs; nothing = grows_none old.put }); complained = refl; complain_faults = refl; inputs_later = omega arith; puts_later = omega arith }

-- ---- the trace, behind the other files

-- the whole rows, or a front of them, or nothing
read_export : (q : Request) (old now new : Outside) (p : PolicyFile) (lines : List Line) (h : HasCommands q old now p lines) (text : List ℕ) (e : ReadsExport (setting_of false q p lines) (Reads now new q.trace) text) → ReadsExport (setting_of false q p lines) (IsReadOf old new e.reads.file) text
read_export q old now new p lines h text e = record { trace = e.trace; reads = read_since q old now new p lines h e.trace e.reads; whole = e.whole; records = e.records; capture = e.capture; few = e.few; is = e.is }

by_rows : (q : Request) (old now new : Outside) (p : PolicyFile) (lines : List Line) (h : HasCommands q old now p lines) (e : PutsExport (setting_of false q p lines) (Reads now new q.trace) now new) → PutsExport (setting_of false q p lines) (IsReadOf old new e.read.reads.file) old new
by_rows q old now new p lines h e = record {
  text = e.text;
  read = read_export q old now new p lines h e.text e.read;
  puts = grows_as now.put new.put old.put new.put e.text (sym h.read.outputs.put) refl e.puts;
}

by_front : (q : Request) (old now new : Outside) (p : PolicyFile) (lines : List Line) (h : HasCommands q old now p lines) (e : PutsExportFront (setting_of false q p lines) (Reads now new q.trace) now new) → PutsExportFront (setting_of false q p lines) (IsReadOf old new e.read.reads.file) old new
by_front q old now new p lines h e = record {
  text = e.text;
  read = read_export q old now new p lines h e.text e.read;
  puts = (e.puts.0, grows_as now.put new.put old.put new.put (take e.puts.0 e.text) (sym h.read.outputs.put) refl e.puts.1);
}

none_since : (q : Request) (old now new : Outside) (p : PolicyFile) (lines : List Line) → HasCommands q old now p lines → Grows now.put new.put [] → Grows old.put new.put []
none_since q old now new p lines h g = grows_as now.put new.put old.put new.put [] (sym h.read.outputs.put) refl g

by_none : (q : Request) (old now new : Outside) (p : PolicyFile) (lines : List Line) (h : HasCommands q old now p lines) (end : Ending) (e : EndsUnput (setting_of false q p lines) (Reads now new q.trace) now new end) → EndsUnput (setting_of false q p lines) (IsReadOf old new e.reads.file) old new end
by_none q old now new p lines h end e = record {
  trace = e.trace;
  reads = read_since q old now new p lines h e.trace e.reads;
  text = e.text;
  tells = e.tells;
  nothing = none_since q old now new p lines h e.nothing;
}

-- the run ends as its trace did
exported : (q : Request) (old now new : Outside) (p : PolicyFile) (lines : List Line) (e : TraceEnd) → HasCommands q old now p lines → ExportsTrace (setting_of false q p lines) now new q.trace e → HasExported q old new (ending_of e)
exported q old now new p lines e h r = by r.ends
  where
    so : (end : Ending) (files : List Opened) → Opens old new q files → Ends q old new files end → HasExported q old new end
    so end files opens ends = record {
      runs = record { files = files; opens = opens; ends = ends };
      complained = r.complained ∙ h.read.outputs.complained;
      complain_faults = r.complain_faults ∙ h.read.outputs.complain_faults;
    }

    traced : (end : Ending) (t : Trace) (f : Reads now new q.trace t) → TraceEnds (setting_of false q p lines) (IsReadOf old new f.file) old new end → HasExported q old new end
    traced end t f ends = so end (files_with q old now p lines h f.file) (opens_trace q old now new p lines h t f) (inr (record { setting = setting_of false q p lines; file = f.file; opened = has_trace false q old now p lines h f.file; ends = ends }))

    ends : (end : Ending) → TraceEnds (setting_of false q p lines) (Reads now new q.trace) now new end → HasExported q old new end
    ends ending.Done d = traced ending.Done d.read.trace d.read.reads (by_rows q old now new p lines h d)
    ends (ending.Trace bad) d = traced (ending.Trace bad) d.trace d.reads (by_none q old now new p lines h (ending.Trace bad) d)
    ends ending.Records d = traced ending.Records d.trace d.reads (by_none q old now new p lines h ending.Records d)
    ends ending.ReadFault (rose, d) = traced ending.ReadFault d.trace d.reads (rose_from old.input_faults now.input_faults new.input_faults h.read.later rose, by_none q old now new p lines h ending.ReadFault d)
    ends ending.WriteFault (rose, d) = traced ending.WriteFault d.read.trace d.read.reads (rose_as now.put_faults new.put_faults old.put_faults new.put_faults (sym h.read.outputs.put_faults) refl rose, by_front q old now new p lines h d)
    ends ending.Memory (inl d) = traced ending.Memory d.trace d.reads (inl (record { trace = d.trace; reads = read_since q old now new p lines h d.trace d.reads; nothing = none_since q old now new p lines h d.nothing }))
    ends ending.Memory (inr d) = traced ending.Memory d.read.trace d.read.reads (inr (by_front q old now new p lines h d))
    ends (ending.Policy why) d = absurd d
    ends (ending.Commands why) d = absurd d
    ends ending.Usage d = absurd d
    ends (ending.Report why) d = absurd d
    ends ending.Illegal d = absurd d
    ends (ending.Rows why) d = absurd d

    by : ExportEnds (setting_of false q p lines) now new q.trace e → HasExported q old new (ending_of e)
    by (inl o) =
        let early = early_behind q old now new p lines h e o in
        so (ending_of e) (h.policy_file ∷ h.file ∷ []) (opens_behind q old now new p lines h early.0) (inl (early.1, nothing_put q old now new p lines h early.0))
    by (inr d) = ends (ending_of e) d

-- a run that exports has one worker
pub exported_as : (q : Request) (old now new : Outside) (p : PolicyFile) (lines : List Line) (e : TraceEnd) (end : Ending) → q.workers ≡ 1 → HasCommands q old now p lines → ExportsTrace (record { workers = 1; policy = p; commands = lines; local = false }) now new q.trace e → end ≡ ending_of e → HasExported q old new end
exported_as q old now new p lines e end one h r is =
    let alone = subst (λ n. ExportsTrace (record { workers = n; policy = p; commands = lines; local = false }) now new q.trace e) (sym one) r in
    subst (HasExported q old new) (sym is) (exported q old now new p lines e h alone)
