-- A check ended by its answer.
use Rattle.std.proofs.Common.{◌≡◌, ℕ, Bool, true, false, List, [], ◌∷◌, Ok, Err, take, sym, ◌∙◌, subst, refl}
use Rattle.std.specs.Bool.{⊤}
use Rattle.vsw_app.specs.Answers.{Broken, Puts, PutsAnswer, Whole}
use Rattle.vsw_app.specs.Ending.{answered}
use Rattle.vsw_audit.specs.Check.{IsCheck}
use Rattle.vsw_commandfile.specs.declared.line.Line.{Line}
use Rattle.vsw_config.specs.declared.file.PolicyFile.{PolicyFile}
use Rattle.vsw_files.specs.Claimed.{HasChecked, HasReport}
use Rattle.vsw_files.proofs.Growing.{grows_as, grows_same, rose_as}
use Rattle.vsw_host.specs.Outside.{DoesPut, Opened, Outside, Grows}
use Rattle.vsw_host.specs.Told.{TellsSince}
use Rattle.vsw_host.specs.declared.host.Failed.{Failed}
use Rattle.vsw_pcap.specs.declared.capture.Record.{Record}
use Rattle.vsw_report.specs.declared.round.Round.{Round}
use Rattle.vsw_run.specs.Checks.{Answers, Ends, Opens, answer_text}
use Rattle.vsw_run.specs.Words.{Claim}
use Rattle.vsw_run.specs.declared.ending.Ending.{Ending}
use Rattle.vsw_run.specs.declared.ending.Ending.TheVariants as ending

-- ---- the answer, put

pub answer_put : (old new : Outside) (bytes : List ℕ) (answer : Bool) (u : ⊤) (end : Ending) → bytes ≡ answer_text answer → end ≡ answered answer → DoesPut old new bytes (Ok u) → PutsAnswer old new answer end
answer_put old new bytes answer u end is e d = record { puts = Whole e (subst (Grows old.put new.put) is d.told); inputs = d.inputs; complained = d.complained; complain_faults = d.complain_faults }

pub answer_broken : (old new : Outside) (bytes : List ℕ) (answer : Bool) (f : Failed) → bytes ≡ answer_text answer → DoesPut old new bytes (Err f) → PutsAnswer old new answer ending.WriteFault
answer_broken old new bytes answer f is d =
    let told = subst (λ (xs : List ℕ). (n : ℕ) × Grows old.put new.put (take n xs)) is d.told in
    record { puts = Broken refl d.cause.failed told.0 told.1; inputs = d.inputs; complained = d.complained; complain_faults = d.complain_faults }

-- ---- the run

-- nothing was opened since
opens_later : (c : Claim) (start now new : Outside) (files : List Opened) → new.inputs ≡ now.inputs → Opens start now c files → Opens start new c files
opens_later c start now new files same o = record { since = subst (λ i. TellsSince start.inputs i files) (sym same) o.since; held = o.held; within = o.within; in_turn = o.in_turn }

abbrev files_of : (c : Claim) (start now : Outside) (p : PolicyFile) (lines : List Line) (records : List Record) (rounds : List Round) → HasReport c start now p lines records rounds → List Opened
files_of c start now p lines records rounds h = h.policy_file ∷ h.commands_file ∷ h.trace_file ∷ h.file ∷ []

answers : (c : Claim) (start now : Outside) (p : PolicyFile) (lines : List Line) (records : List Record) (rounds : List Round) (answer : Bool) (h : HasReport c start now p lines records rounds) → IsCheck c.run.workers p lines records rounds answer → Answers c (files_of c start now p lines records rounds h) answer
answers c start now p lines records rounds answer h is = record {
  claim = record {
    policy_file = h.policy_file;
    commands_file = h.commands_file;
    trace_file = h.trace_file;
    report_file = h.file;
    all = refl;
    policy = p;
    policy_is = h.policy_is;
    commands = lines;
    commands_are = h.are;
    records = records;
    trace_is = h.is;
    rounds = rounds;
    report_is = h.report_is;
  };
  is = is;
}

pub checked : (c : Claim) (start now new : Outside) (p : PolicyFile) (lines : List Line) (records : List Record) (rounds : List Round) (answer : Bool) (end : Ending) → HasReport c start now p lines records rounds → IsCheck c.run.workers p lines records rounds answer → PutsAnswer now new answer end → HasChecked c start new end
checked c start now new p lines records rounds answer end h is puts = by answer is puts.puts
  where
    files : List Opened
    files = files_of c start now p lines records rounds h

    put : (text : List ℕ) → Grows now.put new.put text → Grows start.put new.put text
    put text g = grows_as now.put new.put start.put new.put text (sym h.read.outputs.put) refl g

    so : (end : Ending) → Ends c start new files end → HasChecked c start new end
    so end ends = record {
      runs = record { files = files; opens = opens_later c start now new files puts.inputs.inputs h.read.opens; ends = ends };
      complained = puts.complained ∙ h.read.outputs.complained;
      complain_faults = puts.complain_faults ∙ h.read.outputs.complain_faults;
    }

    gives : (answer : Bool) → IsCheck c.run.workers p lines records rounds answer → Answers c files answer
    gives answer is = answers c start now p lines records rounds answer h is

    by : (answer : Bool) → IsCheck c.run.workers p lines records rounds answer → Puts now new answer end → HasChecked c start new end
    by true is (Whole e g) = subst (HasChecked c start new) (sym e) (so ending.Done (gives true is, put (answer_text true) g))
    by false is (Whole e g) = subst (HasChecked c start new) (sym e) (so ending.Illegal (gives false is, put (answer_text false) g))
    by a is (Broken e rose count g) =
        subst (HasChecked c start new) (sym e)
        (so ending.WriteFault (rose_as now.put_faults new.put_faults start.put_faults new.put_faults (sym h.read.outputs.put_faults) refl rose, (a, count, gives a is, put (take count (answer_text a)) g)))

-- no memory for the answer
pub unanswered : (c : Claim) (start now : Outside) (p : PolicyFile) (lines : List Line) (records : List Record) (rounds : List Round) → HasReport c start now p lines records rounds → HasChecked c start now ending.Memory
unanswered c start now p lines records rounds h = record {
  runs = record { files = files_of c start now p lines records rounds h; opens = h.read.opens; ends = grows_same start.put now.put h.read.outputs.put };
  complained = h.read.outputs.complained;
  complain_faults = h.read.outputs.complain_faults;
}
