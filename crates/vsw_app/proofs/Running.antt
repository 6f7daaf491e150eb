-- The run of the trace, behind its files.
use Rattle.std.proofs.Common.{◌≡◌, ℕ, inl, inr, List, [], ◌∷◌, take, Bool, refl, sym, ◌∙◌, subst, arith}
use Rattle.vsw_commandfile.specs.declared.line.Line.{Line}
use Rattle.vsw_host.specs.Outside.{Opened, Outside, Grows, Rose}
use Rattle.vsw_host.specs.Told.{TellsHeld}
use Rattle.vsw_host.proofs.CallerLemmas.{TellsSince-refl}
use Rattle.vsw_config.specs.declared.file.PolicyFile.{PolicyFile}
use Rattle.vsw_run.specs.ByTrace as of_trace
use Rattle.vsw_run.specs.ByTrace.{BreaksOff, EndsSo}
use Rattle.vsw_run.specs.Files.{HasTrace, IsEarly, IsReadOf, Opens, Reaches}
use Rattle.vsw_run.specs.IsRun.{Ends}
use Rattle.vsw_promise.specs.Jobs.{Setting}
use Rattle.vsw_run.specs.Trace.{Reach, All as Whole, Fault, Stopped, Trace}
use Rattle.vsw_run.specs.declared.ending.Ending.{Ending}
use Rattle.vsw_run.specs.declared.ending.Ending.TheVariants as ending
use Rattle.vsw_replay.specs.Endings.{ending_of}
use Rattle.vsw_run.specs.Steps.{EndsUnopened, OpensNothing, Reads}
use Rattle.vsw_replay.specs.Runs.{RunsTrace}
use Rattle.vsw_replay.specs.Runs as runs
use Rattle.vsw_replay.specs.declared.ending.TraceEnd.{TraceEnd}
use Rattle.vsw_replay.specs.declared.ending.TraceEnd.TheVariants as end
use Rattle.vsw_run.specs.Words.{Request}
use Rattle.vsw_app.specs.Stages.{HasEnded}
use Rattle.vsw_files.specs.Early.{EndsEarly, HasCommands}
use Rattle.vsw_files.proofs.Growing.{grows_none, grows_same, grows_as, rose_from, rose_as}
use Rattle.vsw_files.proofs.Opening.{opens_more, opens_same}

-- ---- a run that ended before its trace

pub ended_early : (local : Bool) (q : Request) (old new : Outside) (end : Ending) → EndsEarly q old new end → HasEnded local q old new end
ended_early local q old new end e = record {
  runs = record { files = e.files; opens = e.opens; ends = inl (e.why, grows_same old.put new.put e.outputs.put) };
  complained = e.outputs.complained;
  complain_faults = e.outputs.complain_faults;
}

-- ---- no memory before the trace

pub unstarted : (s : Setting) (old : Outside) (name : List ℕ) → RunsTrace s old old name end.Memory
unstarted s old name = record { ends = inl (record { since = TellsSince-refl old.inputs; nothing = grows_none old.put }); complained = refl; complain_faults = refl; inputs_later = omega arith; puts_later = omega arith }

-- ---- the trace, behind the other files

-- what was read of a file, seen between other moments
pub reaches_as : (a b c d : Outside) (f : Opened) (r : Reach) → (Rose a.input_faults b.input_faults → Rose c.input_faults d.input_faults) → Reaches a b f r → Reaches c d f r
reaches_as a b c d f Whole later h = h
reaches_as a b c d f Fault later h = later h
reaches_as a b c d f Stopped later h = tt

pub read_as : (a b c d : Outside) (f : Opened) (t : Trace) → (Rose a.input_faults b.input_faults → Rose c.input_faults d.input_faults) → IsReadOf a b f t → IsReadOf c d f t
read_as a b c d f t later r = record { bytes = r.bytes; reaches = reaches_as a b c d f t.reach later r.reaches }

-- the setting of the files that were read
abbrev pub setting_of : (local : Bool) → Request → PolicyFile → List Line → Setting
setting_of local q p lines = record { workers = q.workers; policy = p; commands = lines; local = local }

abbrev pub files_with : (q : Request) (old now : Outside) (p : PolicyFile) (lines : List Line) → HasCommands q old now p lines → Opened → List Opened
files_with q old now p lines h f = h.policy_file ∷ h.file ∷ f ∷ []

pub opens_trace : (q : Request) (old now new : Outside) (p : PolicyFile) (lines : List Line) (h : HasCommands q old now p lines) (t : Trace) (r : Reads now new q.trace t) → Opens old new q (files_with q old now p lines h r.file)
opens_trace q old now new p lines h t r =
    opens_more q old now new (h.policy_file ∷ h.file ∷ []) q.trace r.file h.read.opens
    (record { named = r.named; since = r.since; held = subst (λ n. TellsHeld now.inputs n r.file.bytes) (sym r.named) r.held; within = r.within })
    (p, lines, h.policy_is, h.are, r.named)

pub has_trace : (local : Bool) (q : Request) (old now : Outside) (p : PolicyFile) (lines : List Line) (h : HasCommands q old now p lines) (f : Opened) → HasTrace local q (files_with q old now p lines h f) (setting_of local q p lines) f
has_trace local q old now p lines h f = record { policy = h.policy_file; commands = h.file; all = refl; workers = refl; hands_on = refl; policy_good = h.policy_is.good; commands_good = h.are.good }

pub read_since : (q : Request) (old now new : Outside) (p : PolicyFile) (lines : List Line) (h : HasCommands q old now p lines) (t : Trace) (r : Reads now new q.trace t) → IsReadOf old new r.file t
read_since q old now new p lines h t r = read_as now new old new r.file t (rose_from old.input_faults now.input_faults new.input_faults h.read.later) r.read

-- all that a run of the trace leaves, but for its ending
record IsBehind (q : Request) (old now new : Outside) (p : PolicyFile) (lines : List Line) : Type 0 where
  files : HasCommands q old now p lines
  complained : new.complained ≡ now.complained
  complain_faults : new.complain_faults ≡ now.complain_faults

finished : (local : Bool) (q : Request) (old now new : Outside) (p : PolicyFile) (lines : List Line) (b : IsBehind q old now new p lines) (end : Ending) (files : List Opened) → Opens old new q files → Ends local q old new files end → HasEnded local q old new end
finished local q old now new p lines b end files opens ends = record {
  runs = record { files = files; opens = opens; ends = ends };
  complained = b.complained ∙ b.files.read.outputs.complained;
  complain_faults = b.complain_faults ∙ b.files.read.outputs.complain_faults;
}

-- the trace gave the ending
by_trace : (local : Bool) (q : Request) (old now new : Outside) (p : PolicyFile) (lines : List Line) (h : HasCommands q old now p lines) (end : Ending) (e : EndsSo (setting_of local q p lines) (Reads now new q.trace) now new end) → EndsSo (setting_of local q p lines) (IsReadOf old new e.reads.file) old new end
by_trace local q old now new p lines h end e = record {
  trace = e.trace;
  reads = read_since q old now new p lines h e.trace e.reads;
  text = e.text;
  tells = e.tells;
  puts = grows_as now.put new.put old.put new.put e.text (sym h.read.outputs.put) refl e.puts;
}

-- or the run broke off
by_break : (local : Bool) (q : Request) (old now new : Outside) (p : PolicyFile) (lines : List Line) (h : HasCommands q old now p lines) (e : BreaksOff (setting_of local q p lines) (Reads now new q.trace) now new) → BreaksOff (setting_of local q p lines) (IsReadOf old new e.reads.file) old new
by_break local q old now new p lines h e = record {
  trace = e.trace;
  reads = read_since q old now new p lines h e.trace e.reads;
  text = e.text;
  tells = e.tells;
  puts = (e.puts.0, grows_as now.put new.put old.put new.put (take e.puts.0 e.text) (sym h.read.outputs.put) refl e.puts.1);
}

-- the trace wasn't opened
pub opens_behind : (q : Request) (old now new : Outside) (p : PolicyFile) (lines : List Line) (h : HasCommands q old now p lines) → OpensNothing now new → Opens old new q (h.policy_file ∷ h.file ∷ [])
opens_behind q old now new p lines h o = opens_same q old now new (h.policy_file ∷ h.file ∷ []) h.read.opens o.since

pub nothing_put : (q : Request) (old now new : Outside) (p : PolicyFile) (lines : List Line) → HasCommands q old now p lines → OpensNothing now new → Grows old.put new.put []
nothing_put q old now new p lines h o = grows_as now.put new.put old.put new.put [] (sym h.read.outputs.put) refl o.nothing

-- a run whose trace wasn't opened is early
pub early_behind : (q : Request) (old now new : Outside) (p : PolicyFile) (lines : List Line) (h : HasCommands q old now p lines) (e : TraceEnd) → EndsUnopened now new (ending_of e) → OpensNothing now new × IsEarly old new (h.policy_file ∷ h.file ∷ []) (ending_of e)
early_behind q old now new p lines h end.ReadFault (rose, o) = (o, (rose_from old.input_faults now.input_faults new.input_faults h.read.later rose, record { few = omega arith; cut_short = h.read.short }))
early_behind q old now new p lines h end.Memory o = (o, tt)
early_behind q old now new p lines h end.Done o = absurd o
early_behind q old now new p lines h end.WriteFault o = absurd o
early_behind q old now new p lines h (end.Refused bad) o = absurd o
early_behind q old now new p lines h end.Records o = absurd o

-- the run ends as its trace did
pub traced : (local : Bool) (q : Request) (old now new : Outside) (p : PolicyFile) (lines : List Line) (e : TraceEnd) → HasCommands q old now p lines → RunsTrace (setting_of local q p lines) now new q.trace e → HasEnded local q old new (ending_of e)
traced local q old now new p lines e h r = by r.ends
  where
    b : IsBehind q old now new p lines
    b = record { files = h; complained = r.complained; complain_faults = r.complain_faults }

    so : (end : Ending) (t : Trace) (f : Reads now new q.trace t) → of_trace.Ends (setting_of local q p lines) (IsReadOf old new f.file) old new end → HasEnded local q old new end
    so end t f ends = finished local q old now new p lines b end (files_with q old now p lines h f.file) (opens_trace q old now new p lines h t f) (inr (record { setting = setting_of local q p lines; file = f.file; opened = has_trace local q old now p lines h f.file; ends = ends }))

    ends : (end : Ending) → of_trace.Ends (setting_of local q p lines) (Reads now new q.trace) now new end → HasEnded local q old new end
    ends ending.Done d = so ending.Done d.trace d.reads (by_trace local q old now new p lines h ending.Done d)
    ends (ending.Trace bad) d = so (ending.Trace bad) d.trace d.reads (by_trace local q old now new p lines h (ending.Trace bad) d)
    ends ending.Records d = so ending.Records d.trace d.reads (by_trace local q old now new p lines h ending.Records d)
    ends ending.ReadFault (rose, d) = so ending.ReadFault d.trace d.reads (rose_from old.input_faults now.input_faults new.input_faults h.read.later rose, by_trace local q old now new p lines h ending.ReadFault d)
    ends ending.WriteFault (rose, d) = so ending.WriteFault d.trace d.reads (rose_as now.put_faults new.put_faults old.put_faults new.put_faults (sym h.read.outputs.put_faults) refl rose, by_break local q old now new p lines h d)
    ends ending.Memory (inl d) = so ending.Memory d.trace d.reads (inl (by_trace local q old now new p lines h ending.Memory d))
    ends ending.Memory (inr d) = so ending.Memory d.trace d.reads (inr (by_break local q old now new p lines h d))
    ends (ending.Policy why) d = absurd d
    ends (ending.Commands why) d = absurd d
    ends ending.Usage d = absurd d
    ends (ending.Report why) d = absurd d
    ends ending.Illegal d = absurd d
    ends (ending.Rows why) d = absurd d

    by : runs.Ends (setting_of local q p lines) now new q.trace e → HasEnded local q old new (ending_of e)
    by (inl o) =
        let early = early_behind q old now new p lines h e o in
        finished local q old now new p lines b (ending_of e) (h.policy_file ∷ h.file ∷ []) (opens_behind q old now new p lines h early.0) (inl (early.1, nothing_put q old now new p lines h early.0))
    by (inr d) = ends (ending_of e) d

pub traced_as : (local : Bool) (q : Request) (old now new : Outside) (p : PolicyFile) (lines : List Line) (e : TraceEnd) (end : Ending) → HasCommands q old now p lines → RunsTrace (setting_of local q p lines) now new q.trace e → end ≡ ending_of e → HasEnded local q old new end
traced_as local q old now new p lines e end h r is = subst (HasEnded local q old new) (sym is) (traced local q old now new p lines e h r)
