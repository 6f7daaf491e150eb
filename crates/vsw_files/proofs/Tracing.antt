-- The trace and the report of a run that checks, behind its policy and commands.
use Rattle.std.proofs.Common.{◌≡◌, ◌≤◌, ◌+◌, ℕ, inl, inr, List, [], ◌∷◌, ◌++◌, Result, Ok, Err, length, refl, sym, ◌∙◌, subst, arith, append-nil}
use Rattle.vsw_check.specs.declared.report.Report.{Report}
use Rattle.vsw_commandfile.specs.declared.line.Line.{Line}
use Rattle.vsw_config.specs.declared.file.PolicyFile.{PolicyFile}
use Rattle.vsw_files.specs.Claimed.{HasChecked, HasRecords, JudgesReport, ReadsReport, ReadsTrace}
use Rattle.vsw_files.specs.Early.{EndsEarly, HasCommands}
use Rattle.vsw_files.specs.Opened.{OpensFew, OpensOne}
use Rattle.vsw_files.specs.Private.Whole.{OpensTrace, Traces}
use Rattle.vsw_files.proofs.Growing.{grows_same, rose_from}
use Rattle.vsw_files.proofs.Opening.{opens_more, opens_same}
use Rattle.vsw_files.proofs.Reading.{IsLong, fault_read, got_of, long_read, memory_read, whole_read}
use Rattle.vsw_host.specs.Outside.{Opened, Outside, Grows, Rose, SameOutputs}
use Rattle.vsw_host.specs.Reading.{ReadsFile}
use Rattle.vsw_host.specs.Told.{TellsHeld, TellsSince}
use Rattle.vsw_host.specs.declared.reading.ReadEnd.TheVariants.{Whole, Fault, Long, Memory}
use Rattle.vsw_host.proofs.CallerLemmas.{SameOutputs-trans, TellsHeld-before, TellsSince-trans}
use Rattle.vsw_pcap.specs.declared.capture.Record.{Record}
use Rattle.vsw_port.proofs.Calls.{each_append}
use Rattle.vsw_reading.specs.declared.reading.Reading.{Reading}
use Rattle.vsw_run.specs.Checks.{Ends, InTurn, Opens}
use Rattle.vsw_run.specs.Files as files
use Rattle.vsw_run.specs.Files.{IsEarly}
use Rattle.vsw_run.specs.Words.{Claim}
use Rattle.vsw_run.specs.declared.ending.Ending.{Ending}
use Rattle.vsw_run.specs.declared.ending.Ending.TheVariants as ending
use Rattle.vsw_run.specs.declared.ending.ReportFault.TheVariants as fault

-- ---- files in their turn

-- up to the trace the turn is that of the run
turn_of : (c : Claim) (opened : List Opened) → files.InTurn c.run opened → InTurn c opened
turn_of c [] t = t
turn_of c (p ∷ []) t = t
turn_of c (p ∷ m ∷ []) t = t
turn_of c (p ∷ m ∷ f ∷ []) t = t
turn_of c (p ∷ m ∷ f ∷ r ∷ rs) t = absurd t

claimed : (c : Claim) (old new : Outside) (opened : List Opened) → files.Opens old new c.run opened → Opens old new c opened
claimed c old new opened o = record { since = o.since; held = o.held; within = o.within; in_turn = turn_of c opened o.in_turn }

-- ---- how a run that checks ends before its answer

-- nothing was put, and nothing complained
ends_so : (c : Claim) (old new : Outside) (end : Ending) (opened : List Opened) → SameOutputs old new → Opens old new c opened → Ends c old new opened end → HasChecked c old new end
ends_so c old new end opened same opens ends = record { runs = record { files = opened; opens = opens; ends = ends }; complained = same.complained; complain_faults = same.complain_faults }

-- before its trace was opened
pub checked_early : (c : Claim) (old new : Outside) (end : Ending) → EndsEarly c.run old new end → HasChecked c old new end
checked_early c old new end e = by end e.why
  where
    none : Grows old.put new.put []
    none = grows_same old.put new.put e.outputs.put

    so : (end : Ending) → Ends c old new e.files end → HasChecked c old new end
    so end ends = ends_so c old new end e.files e.outputs (claimed c old new e.files e.opens) ends

    by : (end : Ending) → IsEarly old new e.files end → HasChecked c old new end
    by (ending.Policy why) w = so (ending.Policy why) (w, none)
    by (ending.Commands why) w = so (ending.Commands why) (w, none)
    by ending.ReadFault w = so ending.ReadFault (w.0, w.1.cut_short, none)
    by ending.Memory w = so ending.Memory none
    by ending.Done w = absurd w
    by ending.Usage w = absurd w
    by ending.WriteFault w = absurd w
    by (ending.Trace bad) w = absurd w
    by ending.Records w = absurd w
    by (ending.Report why) w = absurd w
    by ending.Illegal w = absurd w
    by (ending.Rows why) w = absurd w

-- ---- the trace

pub trace_read : (c : Claim) (start old new : Outside) (p : PolicyFile) (lines : List Line) (name : List ℕ) (r : Result Reading Ending) → c.run.trace ≡ name → HasCommands c.run start old p lines → OpensTrace old new name r → ReadsTrace c start new p lines r
trace_read c start old new p lines name r named h o = by r o.finds
  where
    outputs : SameOutputs start new
    outputs = SameOutputs-trans start old new h.read.outputs o.outputs

    none : Grows start.put new.put []
    none = grows_same start.put new.put outputs.put

    two : List Opened
    two = h.policy_file ∷ h.file ∷ []

    three : Opened → List Opened
    three f = h.policy_file ∷ h.file ∷ f ∷ []

    opens : (f : Opened) → OpensOne old.inputs new.inputs name f → Opens start new c (three f)
    opens f one = claimed c start new (three f) (opens_more c.run start old new two name f h.read.opens one (p, lines, h.policy_is, h.are, one.named ∙ sym named))

    so : (f : Opened) (end : Ending) → OpensOne old.inputs new.inputs name f → Ends c start new (three f) end → HasChecked c start new end
    so f end one ends = ends_so c start new end (three f) outputs (opens f one) ends

    unopened : (end : Ending) → TellsSince old.inputs new.inputs [] → Ends c start new two end → HasChecked c start new end
    unopened end since ends = ends_so c start new end two outputs (claimed c start new two (opens_same c.run start old new two h.read.opens since)) ends

    rises : Rose old.input_faults new.input_faults → Rose start.input_faults new.input_faults
    rises rose = rose_from start.input_faults old.input_faults new.input_faults h.read.later rose

    by : (r : Result Reading Ending) → Traces old new name r → ReadsTrace c start new p lines r
    by (Ok reading) (f, one, is) = record {
      policy_file = h.policy_file;
      commands_file = h.file;
      file = f;
      read = record { opens = opens f one; short = h.read.short; outputs = outputs; later = omega (arith, h.read.later, o.later) };
      policy_is = h.policy_is;
      are = h.are;
      is = record { named = is.named ∙ sym named; whole = is.whole; sound = is.sound; few = is.few };
    }
    by (Err ending.Records) (records, (f, one, is)) = so f ending.Records one (record { policy = h.policy_file; commands = h.file; trace = f; only = refl; records = records; at = is.at; front = is.front; stops = is.stops; more = is.more; full = is.full }, none)
    by (Err (ending.Trace bad)) (records, (f, one, (is, few))) = so f (ending.Trace bad) one (record { policy = h.policy_file; commands = h.file; trace = f; only = refl; records = records; refused = is; few = few }, none)
    by (Err ending.ReadFault) (rose, inl since) = unopened ending.ReadFault since (rises rose, h.read.short, none)
    by (Err ending.ReadFault) (rose, inr (f, one, u)) = so f ending.ReadFault one (rises rose, h.read.short, none)
    by (Err ending.Memory) (inl since) = unopened ending.Memory since none
    by (Err ending.Memory) (inr (f, one, u)) = so f ending.Memory one none
    by (Err ending.Done) x = absurd x
    by (Err ending.Usage) x = absurd x
    by (Err ending.WriteFault) x = absurd x
    by (Err (ending.Policy why)) x = absurd x
    by (Err (ending.Commands why)) x = absurd x
    by (Err (ending.Report why)) x = absurd x
    by (Err ending.Illegal) x = absurd x
    by (Err (ending.Rows why)) x = absurd x

-- ---- the report

-- what was done of the four files
record IsBehind (c : Claim) (start old new : Outside) (p : PolicyFile) (lines : List Line) (records : List Record) : Type 0 where
  three : HasRecords c start old p lines records
  outputs : SameOutputs old new
  later : old.input_faults ≤ new.input_faults

abbrev opened : (c : Claim) (start old : Outside) (p : PolicyFile) (lines : List Line) (records : List Record) → HasRecords c start old p lines records → List Opened
opened c start old p lines records h = h.policy_file ∷ h.commands_file ∷ h.file ∷ []

all_outputs : (c : Claim) (start old new : Outside) (p : PolicyFile) (lines : List Line) (records : List Record) → IsBehind c start old new p lines records → SameOutputs start new
all_outputs c start old new p lines records b = SameOutputs-trans start old new b.three.read.outputs b.outputs

opens_report : (c : Claim) (start old new : Outside) (p : PolicyFile) (lines : List Line) (records : List Record) (h : HasRecords c start old p lines records) (f : Opened) (name : List ℕ) → c.report ≡ name → OpensOne old.inputs new.inputs name f → Opens start new c (opened c start old p lines records h ++ f ∷ [])
opens_report c start old new p lines records h f name named one =
    let xs = opened c start old p lines records h in record {
      since = TellsSince-trans start.inputs old.inputs new.inputs xs (f ∷ []) h.read.opens.since one.since;
      held = each_append (λ g. TellsHeld start.inputs g.name g.bytes) xs (f ∷ []) h.read.opens.held (TellsHeld-before start.inputs old.inputs xs f.name f.bytes h.read.opens.since one.held, tt);
      within = each_append (λ (g : Opened). g.read ≤ length g.bytes) xs (f ∷ []) h.read.opens.within (one.within, tt);
      in_turn = (p, lines, records, h.policy_is, h.are, h.is, one.named ∙ sym named);
    }

opens_none : (c : Claim) (start old new : Outside) (p : PolicyFile) (lines : List Line) (records : List Record) (h : HasRecords c start old p lines records) → TellsSince old.inputs new.inputs [] → Opens start new c (opened c start old p lines records h)
opens_none c start old new p lines records h none =
    let xs = opened c start old p lines records h in record {
      since = subst (λ l. TellsSince start.inputs new.inputs l) (append-nil xs) (TellsSince-trans start.inputs old.inputs new.inputs xs [] h.read.opens.since none);
      held = h.read.opens.held;
      within = h.read.opens.within;
      in_turn = h.read.opens.in_turn;
    }

-- the run ended at the report
report_ends : (c : Claim) (start old new : Outside) (p : PolicyFile) (lines : List Line) (records : List Record) (b : IsBehind c start old new p lines records) (f : Opened) (name : List ℕ) (end : Ending) → c.report ≡ name → OpensOne old.inputs new.inputs name f → Ends c start new (opened c start old p lines records b.three ++ f ∷ []) end → HasChecked c start new end
report_ends c start old new p lines records b f name end named one ends =
    ends_so c start new end (opened c start old p lines records b.three ++ f ∷ []) (all_outputs c start old new p lines records b) (opens_report c start old new p lines records b.three f name named one) ends

none_put : (c : Claim) (start old new : Outside) (p : PolicyFile) (lines : List Line) (records : List Record) → IsBehind c start old new p lines records → Grows start.put new.put []
none_put c start old new p lines records b = let same = all_outputs c start old new p lines records b in grows_same start.put new.put same.put

abbrev behind : (c : Claim) (start old new : Outside) (p : PolicyFile) (lines : List Line) (records : List Record) → HasRecords c start old p lines records → SameOutputs old new → old.input_faults ≤ new.input_faults → IsBehind c start old new p lines records
behind c start old new p lines records h same later = record { three = h; outputs = same; later = later }

pub report_read : (c : Claim) (start old new : Outside) (p : PolicyFile) (lines : List Line) (records : List Record) (name got bytes : List ℕ) (r : Result Report Ending) → c.report ≡ name → HasRecords c start old p lines records → ReadsFile 268435456 old new name got Whole → bytes ≡ got → JudgesReport bytes r → ReadsReport c start new p lines records r
report_read c start old new p lines records name got bytes r named h reads same j = by r (subst (λ (t : List ℕ). JudgesReport t r) same j)
  where
    b : IsBehind c start old new p lines records
    b = behind c start old new p lines records h reads.outputs reads.later

    file : Opened
    file = got_of name got

    one : OpensOne old.inputs new.inputs name file
    one = whole_read 268435456 old new name got reads

    none : Grows start.put new.put []
    none = none_put c start old new p lines records b

    four : List Opened
    four = opened c start old p lines records h ++ file ∷ []

    so : (end : Ending) → Ends c start new four end → HasChecked c start new end
    so end ends = report_ends c start old new p lines records b file name end named one ends

    by : (r : Result Report Ending) → JudgesReport got r → ReadsReport c start new p lines records r
    by (Ok report) says = record {
      policy_file = h.policy_file;
      commands_file = h.commands_file;
      trace_file = h.file;
      file = file;
      read = record { opens = opens_report c start old new p lines records h file name named one; short = h.read.short; outputs = all_outputs c start old new p lines records b; later = omega (arith, h.read.later, reads.later) };
      policy_is = h.policy_is;
      are = h.are;
      is = h.is;
      report_is = record { named = sym named; whole = refl; few = reads.sized; says = says };
    }
    by (Err (ending.Report (fault.Line number))) bad = so (ending.Report (fault.Line number)) (record { policy = h.policy_file; commands = h.commands_file; trace = h.file; report = file; all = refl; shown = (refl, reads.sized, bad) }, none)
    by (Err (ending.Report fault.ReportLimit)) x = absurd x
    by (Err ending.Memory) u = so ending.Memory none
    by (Err ending.Done) x = absurd x
    by (Err ending.Usage) x = absurd x
    by (Err ending.ReadFault) x = absurd x
    by (Err ending.WriteFault) x = absurd x
    by (Err (ending.Policy why)) x = absurd x
    by (Err (ending.Commands why)) x = absurd x
    by (Err (ending.Trace bad)) x = absurd x
    by (Err ending.Records) x = absurd x
    by (Err ending.Illegal) x = absurd x
    by (Err (ending.Rows why)) x = absurd x

pub report_fault : (c : Claim) (start old new : Outside) (p : PolicyFile) (lines : List Line) (records : List Record) (name got : List ℕ) → c.report ≡ name → HasRecords c start old p lines records → ReadsFile 268435456 old new name got Fault → HasChecked c start new ending.ReadFault
report_fault c start old new p lines records name got named h reads = by (fault_read 268435456 old new name got reads)
  where
    b : IsBehind c start old new p lines records
    b = behind c start old new p lines records h reads.outputs reads.later

    rises : Rose start.input_faults new.input_faults
    rises = rose_from start.input_faults old.input_faults new.input_faults h.read.later (reads.fault refl)

    by : OpensFew old.inputs new.inputs name (λ f. f.read ≤ 268435456) → HasChecked c start new ending.ReadFault
    by (inl none) = ends_so c start new ending.ReadFault (opened c start old p lines records h) (all_outputs c start old new p lines records b) (opens_none c start old new p lines records h none) (rises, h.read.short, none_put c start old new p lines records b)
    by (inr (f, one, few)) = report_ends c start old new p lines records b f name ending.ReadFault named one (rises, h.read.short, none_put c start old new p lines records b)

pub report_long : (c : Claim) (start old new : Outside) (p : PolicyFile) (lines : List Line) (records : List Record) (name got : List ℕ) → c.report ≡ name → HasRecords c start old p lines records → ReadsFile 268435456 old new name got Long → HasChecked c start new (ending.Report fault.ReportLimit)
report_long c start old new p lines records name got named h reads =
    let b = behind c start old new p lines records h reads.outputs reads.later in
    let l : IsLong 268435456 old.inputs new.inputs name = long_read 268435456 old new name got reads in
    report_ends c start old new p lines records b l.file name (ending.Report fault.ReportLimit) named l.opens (record { policy = h.policy_file; commands = h.commands_file; trace = h.file; report = l.file; all = refl; shown = (l.over, l.short) }, none_put c start old new p lines records b)

pub report_memory : (c : Claim) (start old new : Outside) (p : PolicyFile) (lines : List Line) (records : List Record) (name got : List ℕ) → c.report ≡ name → HasRecords c start old p lines records → ReadsFile 268435456 old new name got Memory → HasChecked c start new ending.Memory
report_memory c start old new p lines records name got named h reads = by (memory_read 268435456 old new name got reads)
  where
    b : IsBehind c start old new p lines records
    b = behind c start old new p lines records h reads.outputs reads.later

    by : OpensFew old.inputs new.inputs name (λ f. Unit {0}) → HasChecked c start new ending.Memory
    by (inl none) = ends_so c start new ending.Memory (opened c start old p lines records h) (all_outputs c start old new p lines records b) (opens_none c start old new p lines records h none) (none_put c start old new p lines records b)
    by (inr (f, one, u)) = report_ends c start old new p lines records b f name ending.Memory named one (none_put c start old new p lines records b)
