-- A check of good files is answered, but for faults and want of memory.
use Rattle.std.proofs.Common.{◌≡◌, ◌⊎◌, inl, inr, ℕ, Bool, true, false, List, Option, Some, refl, ap, sym, subst, arith}
use Rattle.vsw_check.proofs.Alone.{no_report_is_bad}
use Rattle.vsw_commandfile.specs.Commands.{commands_file_of}
use Rattle.vsw_commandfile.specs.declared.line.Line.{Line}
use Rattle.vsw_config.specs.Policy.{policy_file_of}
use Rattle.vsw_config.specs.declared.file.PolicyFile.{PolicyFile}
use Rattle.vsw_host.specs.Outside.{Inputs, Outside}
use Rattle.vsw_pcap.specs.declared.capture.Record.{Record}
use Rattle.vsw_run.specs.Checks.{AreGood, Checks}
use Rattle.vsw_run.specs.Complaint.{status_of}
use Rattle.vsw_run.specs.IsRun.{IsAnswered, IsRun, RunsBy}
use Rattle.vsw_run.specs.Law.{HasNoFault}
use Rattle.vsw_run.specs.Words.{Claim, Check}
use Rattle.vsw_run.specs.declared.ending.Ending.{Ending}
use Rattle.vsw_run.specs.declared.ending.Ending.TheVariants as ending
use Rattle.vsw_run.specs.declared.ending.Status.{Status}
use Rattle.vsw_run.specs.declared.ending.Status.TheVariants as status
use Rattle.vsw_run.proofs.Checking.{Answered, AtLine, BadCommands, BadPolicy, BadTrace, ByCommands, ByPolicy, ByReport, ByTrace, GoodCommands, GoodPolicy, GoodTrace, Over, answered, found_check, not_bad, not_both, ok_is, one_held, says_of}
use Rattle.vsw_run.proofs.Endings.{one_ending}

-- the endings that are answers
abbrev IsAnswer : Ending → Type 0
IsAnswer ending.Done = Unit {0}
IsAnswer ending.Illegal = Unit {0}
IsAnswer _ = ⊥

an_answer : (answer : Bool) → IsAnswer (answered answer)
an_answer true = tt
an_answer false = tt

-- ---- good files give an answer, and nothing else

by_report : (c : Claim) (inputs : Option Inputs) (g : AreGood c inputs) (policy : PolicyFile) (lines : List Line) (records : List Record) (e : Ending) → ByReport c policy lines records g.report e → IsAnswer e
by_report c inputs g policy lines records e (Over i long) = absurd (omega (arith, long, g.short))
by_report c inputs g policy lines records e (AtLine n i few b) = absurd (no_report_is_bad g.report g.rounds n g.report_good b)
by_report c inputs g policy lines records e (Answered rs a i few r k) = subst IsAnswer (sym i) (an_answer a)

by_trace : (c : Claim) (inputs : Option Inputs) (g : AreGood c inputs) (policy : PolicyFile) (lines : List Line) (e : Ending) → ByTrace g.files.files c policy lines e → IsAnswer e
by_trace c inputs g policy lines e (BadTrace t rs h bad s) =
    let says = says_of g.files.files c.run.trace t g.trace ending.Done g.records h g.trace_held (g.trace_good, g.few) in
    absurd (not_bad e (one_ending t e ending.Done rs g.records s says).0 bad)
by_trace c inputs g policy lines e (GoodTrace t rs b h s k d) =
    by_report c inputs g policy lines rs e (subst (λ w. ByReport c policy lines rs w e) (one_held g.files.files c.report b g.report k g.report_held) d)

by_commands : (c : Claim) (inputs : Option Inputs) (g : AreGood c inputs) (e : Ending) → ByCommands g.files.files c g.given e → IsAnswer e
by_commands c inputs g e (BadCommands b why h bad i) =
    absurd (not_both g.lines why (commands_file_of g.given g.commands) (commands_file_of g.given b) (ap (commands_file_of g.given) (one_held g.files.files c.run.commands g.commands b g.commands_held h)) g.commands_good bad)
by_commands c inputs g e (GoodCommands b lines h good d) = by_trace c inputs g g.given lines e d

by_policy : (c : Claim) (inputs : Option Inputs) (g : AreGood c inputs) (e : Ending) → ByPolicy g.files.files c e → IsAnswer e
by_policy c inputs g e (BadPolicy b why h bad i) =
    absurd (not_both g.given why (policy_file_of g.policy) (policy_file_of b) (ap policy_file_of (one_held g.files.files c.run.policy g.policy b g.policy_held h)) g.policy_good bad)
by_policy c inputs g e (GoodPolicy b p h good d) =
    let same : p ≡ g.given = ok_is p g.given (policy_file_of b) (policy_file_of g.policy) (ap policy_file_of (one_held g.files.files c.run.policy b g.policy h g.policy_held)) good g.policy_good in
    by_commands c inputs g e (subst (λ w. ByCommands g.files.files c w e) same d)

-- ---- the run

abbrev EndsWell : Ending → Type 0
EndsWell end = (status_of end ≡ status.Done) ⊎ (status_of end ≡ status.Illegal) ⊎ (status_of end ≡ status.Memory)

ends_well : (c : Claim) (old new : Outside) (end : Ending) → AreGood c old.inputs → HasNoFault old new → Checks c old new end → EndsWell end
ends_well c old new end g clean r = by end r
  where
    never : (end : Ending) → (end ≡ ending.Memory → ⊥) → Checks c old new end → IsAnswer end
    never end n r = by_policy c old.inputs g end (found_check c old new g.files end g.told clean n r).0

    by : (end : Ending) → Checks c old new end → EndsWell end
    by ending.Done r = inl refl
    by ending.Illegal r = inr (inl refl)
    by ending.Memory r = inr (inr refl)
    by ending.ReadFault r = absurd (clean.read r.ends.0)
    by ending.WriteFault r = absurd (clean.put r.ends.0)
    by ending.Usage r = absurd r.ends
    by (ending.Policy why) r = absurd (never (ending.Policy why) (λ e. cc e) r)
    by (ending.Commands why) r = absurd (never (ending.Commands why) (λ e. cc e) r)
    by (ending.Trace bad) r = absurd (never (ending.Trace bad) (λ e. cc e) r)
    by ending.Records r = absurd (never ending.Records (λ e. cc e) r)
    by (ending.Report why) r = absurd (never (ending.Report why) (λ e. cc e) r)
    by (ending.Rows why) r = absurd r.ends

pub answered_is : (words : List (List ℕ)) (old new : Outside) (s : Status) → IsRun words old new s → IsAnswered words old new s
answered_is words old new s run c asks good no_read no_put =
    let asked : RunsBy (Some (Check c)) old new run.end = subst (λ o. RunsBy o old new run.end) asks run.runs in
    subst (λ t. (t ≡ status.Done) ⊎ (t ≡ status.Illegal) ⊎ (t ≡ status.Memory)) (sym run.status_is) (ends_well c old new run.end good (record { read = no_read; put = no_put }) asked)
