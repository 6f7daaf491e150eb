-- What holds of a run over files that ended well.
use Rattle.std.proofs.Common.{◌≡◌, ℕ, Bool, true, false, List, length, take, None, inl, inr, refl, ap, ◌∙◌, subst, arith}
use Rattle.vsw_commandfile.proofs.LinesRead.{each_is_good}
use Rattle.vsw_commandfile.specs.declared.fault.CommandsFault.{CommandsFault}
use Rattle.vsw_commandfile.specs.declared.fault.CommandsFault.TheVariants as commands
use Rattle.vsw_config.specs.declared.file.ConfigFault.{ConfigFault}
use Rattle.vsw_config.specs.declared.file.ConfigFault.TheVariants as policy
use Rattle.vsw_history_law.proofs.Covers.{packets_are_covered}
use Rattle.vsw_history_law.proofs.OneLine.{each_has_its_line}
use Rattle.vsw_history_law.proofs.PlainRuns.{agrees_alone}
use Rattle.vsw_history_law.proofs.Replies.{runs_replies_alone}
use Rattle.vsw_history_law.specs.Law.{AreServed}
use Rattle.vsw_host.specs.Outside.{Outside}
use Rattle.vsw_pcap.specs.Capture.{IsCapture}
use Rattle.vsw_promise.proofs.PortRounds.{take_whole}
use Rattle.vsw_promise.specs.Jobs.{cuts}
use Rattle.vsw_run.proofs.Bounds.{counted}
use Rattle.vsw_run.proofs.Grammars.{reads_grammar}
use Rattle.vsw_run.proofs.Runs.{each_asked, runs_over}
use Rattle.vsw_run.proofs.Wholes.{done_reads_all}
use Rattle.vsw_run.specs.Complaint.{commands_status, policy_status, report_status, rows_status, status_of}
use Rattle.vsw_run.specs.Well.{DoneRanWell, RanWell}
use Rattle.vsw_run.specs.ByTrace.{EndsSo, Puts}
use Rattle.vsw_run.specs.Files.{IsReadOf, IsWhole, Reaches}
use Rattle.vsw_run.specs.Grammar.{Asks, IsCount}
use Rattle.vsw_run.specs.IsRun.{Ends, EndsByTrace, Runs}
use Rattle.vsw_run.specs.Trace.{TellsAll}
use Rattle.vsw_run.specs.Words.{Forward, Deliver, Stream, Request, AskReport}
use Rattle.vsw_run.specs.declared.ending.Ending.{Ending}
use Rattle.vsw_run.specs.declared.ending.Ending.TheVariants as ending
use Rattle.vsw_run.specs.declared.ending.ReportFault.{ReportFault}
use Rattle.vsw_run.specs.declared.ending.ReportFault.TheVariants as report
use Rattle.vsw_offload.specs.declared.fault.BadRows.TheVariants as bad
use Rattle.vsw_run.specs.declared.ending.RowsFault.{RowsFault}
use Rattle.vsw_run.specs.declared.ending.RowsFault.TheVariants as rows
use Rattle.vsw_run.specs.declared.ending.Status.TheVariants as status

not_policy : (why : ConfigFault) → status.Done ≡ policy_status why → ⊥
not_policy (policy.Bad kind path) e = cc e
not_policy policy.PolicyLimit e = cc e
not_policy policy.PortsLimit e = cc e
not_policy policy.ControllersLimit e = cc e
not_policy policy.Memory e = cc e

not_commands : (why : CommandsFault) → status.Done ≡ commands_status why → ⊥
not_commands (commands.Bad line kind path) e = cc e
not_commands commands.CommandsLimit e = cc e
not_commands commands.LinesLimit e = cc e
not_commands commands.Memory e = cc e

not_report : (why : ReportFault) → status.Done ≡ report_status why → ⊥
not_report (report.Line number) e = cc e
not_report report.ReportLimit e = cc e

not_rows : (why : RowsFault) → status.Done ≡ rows_status why → ⊥
not_rows (rows.Bad bad.NotRows) e = cc e
not_rows (rows.Bad (bad.Cut at)) e = cc e
not_rows (rows.Bad (bad.ManyPorts at)) e = cc e
not_rows (rows.Bad (bad.PortTwice at)) e = cc e
not_rows (rows.Bad (bad.ManyRows at)) e = cc e
not_rows (rows.Bad (bad.BadRow at)) e = cc e
not_rows (rows.Bad (bad.Order at)) e = cc e
not_rows (rows.Bad (bad.Extra at)) e = cc e
not_rows (rows.Bad bad.Memory) e = cc e
not_rows rows.RowsLimit e = cc e

-- one ending has this status
done_is : (end : Ending) → status.Done ≡ status_of end → end ≡ ending.Done
done_is ending.Done e = refl
done_is ending.Usage e = absurd (cc e)
done_is ending.ReadFault e = absurd (cc e)
done_is ending.WriteFault e = absurd (cc e)
done_is (ending.Policy why) e = absurd (not_policy why e)
done_is (ending.Commands why) e = absurd (not_commands why e)
done_is (ending.Trace bad) e = absurd (cc e)
done_is ending.Records e = absurd (cc e)
done_is ending.Memory e = absurd (cc e)
done_is (ending.Report why) e = absurd (not_report why e)
done_is (ending.Rows why) e = absurd (not_rows why e)
done_is ending.Illegal e = absurd (cc e)

pub workers_are : (words : List (List ℕ)) (local : Bool) (q : Request) → AskReport words local q → IsCount q.workers
workers_are words false q (inl e) = let h : Asks words (Forward q) = (reads_grammar words (Forward q)).0 e in counted h.3.option q.workers h.3.option_is
workers_are words false q (inr e) = let h : Asks words (Stream q) = (reads_grammar words (Stream q)).0 e in counted h.3.option q.workers h.3.option_is
workers_are words true q e = let h : Asks words (Deliver q) = (reads_grammar words (Deliver q)).0 e in counted h.3.option q.workers h.3.option_is

ran_by : (local : Bool) (q : Request) (old new : Outside) → IsCount q.workers → (run : Runs local q old new ending.Done) → EndsByTrace local q old new run.files ending.Done → RanWell local q old new
ran_by local q old new count run by =
    let o = by.opened in
    let file = by.file in
    let s = by.setting in
    let ends : EndsSo s (IsReadOf old new file) old new ending.Done = by.ends in
    let all : TellsAll s ends.trace false ends.text = ends.tells in
    let asked = each_asked s.policy s.commands (each_is_good s.policy o.commands.bytes s.commands o.commands_good).can_ask in
    let served : AreServed s = record { least = omega (arith, o.workers, count.0); most = omega (arith, o.workers, count.1); asked = asked } in
    let whole : IsWhole file = subst (Reaches old new file) all.read ends.reads.reaches in
    let bytes : ends.trace.bytes ≡ file.bytes = ends.reads.bytes ∙ (ap (λ n. take n file.bytes) whole ∙ take_whole file.bytes) in
    let cs = cuts s.commands (length all.records) in
    let covered = (packets_are_covered s.commands all.records).0 in
    record {
      files = run.files;
      opens = run.opens;
      whole = done_reads_all local q old new run;
      setting = s;
      trace = file;
      given = o;
      served = served;
      records = all.records;
      capture = subst (λ w. IsCapture w all.records None) bytes all.capture;
      rounds = all.rounds;
      tells = record {
        are = all.are;
        replies = runs_replies_alone s all.records cs all.rounds served all.are all.short_is;
        lines = λ n r g. each_has_its_line s all.records cs all.rounds n r served covered all.are g;
        packets = λ apart plain. agrees_alone s all.records cs all.rounds apart plain served all.are all.short_is;
      };
      puts = subst (Puts old new) all.text_is ends.puts;
    }

ran_well : (local : Bool) (q : Request) (old new : Outside) → IsCount q.workers → Runs local q old new ending.Done → RanWell local q old new
ran_well local q old new count run = by run.ends
  where
    by : Ends local q old new run.files ending.Done → RanWell local q old new
    by (inl e) = absurd e.0
    by (inr e) = ran_by local q old new count run e

pub done_ran_well : DoneRanWell
done_ran_well words local q old new e r =
    ran_well local q old new (workers_are words local q e) (subst (Runs local q old new) (done_is r.end r.status_is) (runs_over words local q old new status.Done r e))
