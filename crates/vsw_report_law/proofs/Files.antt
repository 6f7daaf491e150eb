-- What is put of files that are read is a report, as one is read.
use Rattle.std.proofs.Common.{◌≡◌, ◌≤◌, ◌⊎◌, inl, inr, ℕ, Bool, true, false, List, [], length, drop, Ok, refl, sym, subst, arith}
use Rattle.hex.specs.Hex.{IsBytes}
use Rattle.vsw_check.specs.Report.{IsReport}
use Rattle.vsw_commandfile.proofs.LinesRead.{each_is_good}
use Rattle.vsw_commandfile.specs.Commands.{commands_file_of}
use Rattle.vsw_config.specs.Policy.{policy_file_of}
use Rattle.vsw_host.specs.Outside.{Opened}
use Rattle.vsw_pcap.specs.Capture.{Splits}
use Rattle.vsw_pcap.specs.declared.capture.Form.{Form}
use Rattle.vsw_pcap.specs.declared.capture.Record.{Record}
use Rattle.vsw_pcap.specs.declared.fault.BadTrace.TheVariants as bad
use Rattle.vsw_promise.specs.Jobs.{Setting}
use Rattle.vsw_report.specs.declared.round.Round.{Round}
use Rattle.vsw_run.proofs.Runs.{each_asked}
use Rattle.vsw_run.proofs.Well.{workers_are}
use Rattle.vsw_run.specs.Files.{HasTrace}
use Rattle.vsw_run.specs.Trace.{HasBadRecord, HasMore, Tells, TellsAll, TellsWithin, Trace}
use Rattle.vsw_run.specs.Words.{Request, AskReport}
use Rattle.vsw_run.specs.declared.ending.Ending.{Ending}
use Rattle.vsw_run.specs.declared.ending.Ending.TheVariants as ending
use Rattle.vsw_report_law.proofs.Outgoing.{front, rest}
use Rattle.vsw_report_law.proofs.Read.{commands_fit, policy_fits, records_are_bytes}
use Rattle.vsw_report_law.proofs.Texts.{report_is_read}
use Rattle.vsw_report_law.specs.Files.{DoneIsRead, FilesGive, PutIsRead}
use Rattle.vsw_report_law.specs.Given.{AreGiven}

pub files_give : FilesGive
files_give s policy commands trace back form records least most good asked are splits few = record {
  served = record { least = omega (arith, least); most = most; asked = each_asked s.policy s.commands (each_is_good s.policy commands s.commands asked).can_ask };
  policy = policy_fits policy s.policy good;
  commands = commands_fit s.policy commands s.commands asked;
  lines = (each_is_good s.policy commands s.commands asked).few;
  packets = few;
  bytes = records_are_bytes form (drop 24 trace) records back (rest 24 trace are) splits;
}

-- files that a run has read, but for its trace
record HasFiles (s : Setting) : Type 0 where
  policy : List ℕ
  commands : List ℕ
  least : 1 ≤ s.workers
  most : s.workers ≤ 16
  policy_good : policy_file_of policy ≡ Ok s.policy
  commands_good : commands_file_of s.policy commands ≡ Ok s.commands

given : (s : Setting) (bytes back : List ℕ) (form : Form) (records : List Record) → HasFiles s → IsBytes bytes → Splits form (drop 24 bytes) records back → length records ≤ 1048576 → AreGiven s records
given s bytes back form records f are splits few = files_give s f.policy f.commands bytes back form records f.least f.most f.policy_good f.commands_good are splits few

-- nothing, or a report
abbrev IsPut : List ℕ → Type 0
IsPut text = (text ≡ []) ⊎ ((rounds : List Round) × IsReport text rounds)

all_read : (s : Setting) (t : Trace) (short : Bool) (text : List ℕ) → HasFiles s → IsBytes t.bytes → TellsAll s t short text → (rounds : List Round) × IsReport text rounds
all_read s t short text f are w =
    let g : AreGiven s w.records = given s t.bytes [] w.capture.0 w.records f are w.capture.2 w.few in
    (w.rounds, subst (λ x. IsReport x w.rounds) (sym w.text_is) (report_is_read s w.records _ w.rounds g (inl refl) w.are))

within_read : (s : Setting) (records : List Record) (text : List ℕ) → AreGiven s records → TellsWithin s records text → IsPut text
within_read s records text g w = inr (w.rounds, subst (λ x. IsReport x w.rounds) (sym w.text_is) (report_is_read s records _ w.rounds g (inr refl) w.are))

tells_read : (s : Setting) (t : Trace) (end : Ending) (text : List ℕ) → HasFiles s → IsBytes t.bytes → Tells s t end text → IsPut text
tells_read s t ending.Done text f are w = inr (all_read s t false text f are w)
tells_read s t ending.Memory text f are w = inr (all_read s t true text f are w)
tells_read s t (ending.Trace bad.NotPcap) text f are w = inl w.nothing
tells_read s t (ending.Trace bad.Version) text f are w = inl w.nothing
tells_read s t (ending.Trace bad.LinkType) text f are w = inl w.nothing
tells_read s t (ending.Trace (bad.Cut at)) text f are w =
    let r : HasBadRecord s t (bad.Cut at) text = w.1 in
    within_read s r.records text (given s t.bytes r.refused.0.rest r.refused.0.form r.records f are r.refused.0.splits (omega (arith, r.few))) r.tells
tells_read s t (ending.Trace (bad.Huge at)) text f are w =
    let r : HasBadRecord s t (bad.Huge at) text = w in
    within_read s r.records text (given s t.bytes r.refused.rest r.refused.form r.records f are r.refused.splits (omega (arith, r.few))) r.tells
tells_read s t ending.Records text f are w =
    let r : HasMore s t text = w in
    within_read s r.records text (given s t.bytes r.stops.rest r.stops.form r.records f are r.stops.splits (omega (arith, r.full))) r.tells
tells_read s t ending.ReadFault text f are (reach, inl none) = inl none.nothing
tells_read s t ending.ReadFault text f are (reach, inr r) = within_read s r.records text (given s t.bytes r.stops.rest r.stops.form r.records f are r.stops.splits r.few) r.tells
tells_read s t ending.Usage text f are w = absurd w
tells_read s t ending.WriteFault text f are w = absurd w
tells_read s t (ending.Policy why) text f are w = absurd w
tells_read s t (ending.Commands why) text f are w = absurd w
tells_read s t (ending.Report why) text f are w = absurd w
tells_read s t ending.Illegal text f are w = absurd w
tells_read s t (ending.Rows why) text f are w = absurd w

has_files : (words : List (List ℕ)) (local : Bool) (q : Request) (files : List Opened) (s : Setting) (file : Opened) → AskReport words local q → HasTrace local q files s file → HasFiles s
has_files words local q files s file e o =
    let count = workers_are words local q e in
    record {
      policy = o.policy.bytes;
      commands = o.commands.bytes;
      least = omega (arith, o.workers, count.0);
      most = omega (arith, o.workers, count.1);
      policy_good = o.policy_good;
      commands_good = o.commands_good;
    }

pub put_is_read : PutIsRead
put_is_read words local q old new files s file end e o are ends =
    tells_read s ends.trace end ends.text (has_files words local q files s file e o) (subst IsBytes (sym ends.reads.bytes) (front file.read file.bytes are)) ends.tells

pub done_is_read : DoneIsRead
done_is_read words local q old new files s file e o are ends =
    all_read s ends.trace false ends.text (has_files words local q files s file e o) (subst IsBytes (sym ends.reads.bytes) (front file.read file.bytes are)) ends.tells
