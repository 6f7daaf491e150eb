-- Two checks of the same claim over the same files have one answer.
use Rattle.std.proofs.Common.{◌≡◌, ◌<◌, ◌≤◌, ℕ, Bool, true, false, List, [], ◌∷◌, length, Option, Some, Result, Ok, Err, refl, ap, sym, ◌∙◌, subst, arith}
use Rattle.vsw_audit.specs.Check.{IsCheck}
use Rattle.vsw_audit.proofs.Audited.{one_answer}
use Rattle.vsw_check.specs.Report.{IsReport, IsBadLine}
use Rattle.vsw_check.proofs.Alone.{no_report_is_bad, one_bad_line, one_report_of}
use Rattle.vsw_commandfile.specs.Commands.{commands_file_of}
use Rattle.vsw_commandfile.specs.declared.fault.CommandsFault.{CommandsFault}
use Rattle.vsw_commandfile.specs.declared.line.Line.{Line}
use Rattle.vsw_config.specs.Policy.{policy_file_of}
use Rattle.vsw_config.specs.declared.file.ConfigFault.{ConfigFault}
use Rattle.vsw_config.specs.declared.file.PolicyFile.{PolicyFile}
use Rattle.vsw_host.specs.Outside.{Inputs, Opened, Outside, Grows}
use Rattle.vsw_host.specs.Told.{TellsHeld}
use Rattle.vsw_pcap.specs.declared.capture.Record.{Record}
use Rattle.vsw_policy.specs.Sound.{Each}
use Rattle.vsw_report.specs.declared.round.Round.{Round}
use Rattle.vsw_run.specs.Checks.{Answers, Checks, HasBadReport, HasBadTrace, HasManyRecords, InTurn, ShowsReport, answer_text, most_report}
use Rattle.vsw_run.specs.Files.{HasBadCommands, HasBadPolicy}
use Rattle.vsw_run.specs.Law.{HasNoFault}
use Rattle.vsw_run.specs.Words.{Claim}
use Rattle.vsw_run.specs.declared.ending.Ending.{Ending}
use Rattle.vsw_run.specs.declared.ending.Ending.TheVariants as ending
use Rattle.vsw_run.specs.declared.ending.ReportFault.{ReportFault}
use Rattle.vsw_run.specs.declared.ending.ReportFault.TheVariants as report
use Rattle.vsw_run.proofs.Endings.{Says, one_ending, says_many}

-- what is held by names
abbrev pub Held : Type 0
Held = List ℕ → Option (List ℕ)

-- ---- how a check ends by its files, one after another

-- the ending of an answer
abbrev pub answered : Bool → Ending
answered true = ending.Done
answered false = ending.Illegal

-- by the report
pub data ByReport (c : Claim) (policy : PolicyFile) (lines : List Line) (records : List Record) (bytes : List ℕ) (e : Ending) : Type 0 where
  Over : e ≡ ending.Report report.ReportLimit → most_report < length bytes → ByReport c policy lines records bytes e
  AtLine : (number : ℕ) → e ≡ ending.Report (report.Line number) → length bytes ≤ most_report → IsBadLine bytes number → ByReport c policy lines records bytes e
  Answered : (rounds : List Round) (answer : Bool) → e ≡ answered answer → length bytes ≤ most_report → IsReport bytes rounds → IsCheck c.run.workers policy lines records rounds answer → ByReport c policy lines records bytes e

-- the endings by a trace that is refused, or over its limit
abbrev pub IsBad : Ending → Type 0
IsBad (ending.Trace bad) = Unit {0}
IsBad ending.Records = Unit {0}
IsBad _ = ⊥

-- by the trace
pub data ByTrace (files : Held) (c : Claim) (policy : PolicyFile) (lines : List Line) (e : Ending) : Type 0 where
  BadTrace : (trace : List ℕ) (records : List Record) → files c.run.trace ≡ Some trace → IsBad e → Says trace e records → ByTrace files c policy lines e
  GoodTrace : (trace : List ℕ) (records : List Record) (bytes : List ℕ) → files c.run.trace ≡ Some trace → Says trace ending.Done records → files c.report ≡ Some bytes → ByReport c policy lines records bytes e → ByTrace files c policy lines e

-- by the commands
pub data ByCommands (files : Held) (c : Claim) (policy : PolicyFile) (e : Ending) : Type 0 where
  BadCommands : (bytes : List ℕ) (why : CommandsFault) → files c.run.commands ≡ Some bytes → commands_file_of policy bytes ≡ Err why → e ≡ ending.Commands why → ByCommands files c policy e
  GoodCommands : (bytes : List ℕ) (lines : List Line) → files c.run.commands ≡ Some bytes → commands_file_of policy bytes ≡ Ok lines → ByTrace files c policy lines e → ByCommands files c policy e

-- by the policy
pub data ByPolicy (files : Held) (c : Claim) (e : Ending) : Type 0 where
  BadPolicy : (bytes : List ℕ) (why : ConfigFault) → files c.run.policy ≡ Some bytes → policy_file_of bytes ≡ Err why → e ≡ ending.Policy why → ByPolicy files c e
  GoodPolicy : (bytes : List ℕ) (policy : PolicyFile) → files c.run.policy ≡ Some bytes → policy_file_of bytes ≡ Ok policy → ByCommands files c policy e → ByPolicy files c e

-- ---- one ending

pub one_held : (files : Held) (name a b : List ℕ) → files name ≡ Some a → files name ≡ Some b → a ≡ b
one_held files name a b h k = cc (h, k)

pub ok_is : {A E : Type 0} (x y : A) (r s : Result A E) → r ≡ s → r ≡ Ok x → s ≡ Ok y → x ≡ y
ok_is x y r s i h k = cc (i, h, k)

err_is : {A E : Type 0} (x y : E) (r s : Result A E) → r ≡ s → r ≡ Err x → s ≡ Err y → x ≡ y
err_is x y r s i h k = cc (i, h, k)

pub not_both : {A E : Type 0} (x : A) (y : E) (r s : Result A E) → r ≡ s → r ≡ Ok x → s ≡ Err y → ⊥
not_both x y r s i h k = cc (i, h, k)

one_by_report : (c : Claim) (policy : PolicyFile) (lines : List Line) (records : List Record) (bytes : List ℕ) (e f : Ending) → ByReport c policy lines records bytes e → ByReport c policy lines records bytes f → e ≡ f
one_by_report c policy lines records bytes e f (Over i long) (Over j more) = i ∙ sym j
one_by_report c policy lines records bytes e f (Over i long) (AtLine n j few b) = absurd (omega (arith, long, few))
one_by_report c policy lines records bytes e f (Over i long) (Answered rs a j few r k) = absurd (omega (arith, long, few))
one_by_report c policy lines records bytes e f (AtLine m i few b) (Over j more) = absurd (omega (arith, more, few))
one_by_report c policy lines records bytes e f (AtLine m i few b) (AtLine n j also d) = i ∙ (ap (λ k. ending.Report (report.Line k)) (one_bad_line bytes m n b d) ∙ sym j)
one_by_report c policy lines records bytes e f (AtLine m i few b) (Answered rs a j also r k) = absurd (no_report_is_bad bytes rs m r b)
one_by_report c policy lines records bytes e f (Answered rs a i few r k) (Over j more) = absurd (omega (arith, more, few))
one_by_report c policy lines records bytes e f (Answered rs a i few r k) (AtLine n j also b) = absurd (no_report_is_bad bytes rs n r b)
one_by_report c policy lines records bytes e f (Answered rs a i few r k) (Answered qs b j also q l) =
    let same = one_report_of bytes qs rs q r in
    i ∙ (ap answered (one_answer c.run.workers policy lines records rs a b k (subst (λ xs. IsCheck c.run.workers policy lines records xs b) same l)) ∙ sym j)

pub not_bad : (e : Ending) → e ≡ ending.Done → IsBad e → ⊥
not_bad e i b = subst IsBad i b

-- what is found of a file, in the other's words
pub says_of : (files : Held) (name a b : List ℕ) (e : Ending) (records : List Record) → files name ≡ Some a → files name ≡ Some b → Says b e records → Says a e records
says_of files name a b e records h k s = subst (λ w. Says w e records) (one_held files name b a k h) s

one_by_trace : (files : Held) (c : Claim) (policy : PolicyFile) (lines : List Line) (e f : Ending) → ByTrace files c policy lines e → ByTrace files c policy lines f → e ≡ f
one_by_trace files c policy lines e f (BadTrace t rs h i s) (BadTrace u qs k j r) = (one_ending t e f rs qs s (says_of files c.run.trace t u f qs h k r)).0
one_by_trace files c policy lines e f (BadTrace t rs h i s) (GoodTrace u qs b k r m d) = absurd (not_bad e (one_ending t e ending.Done rs qs s (says_of files c.run.trace t u ending.Done qs h k r)).0 i)
one_by_trace files c policy lines e f (GoodTrace t rs a h s l d) (BadTrace u qs k j r) = absurd (not_bad f (one_ending u f ending.Done qs rs r (says_of files c.run.trace u t ending.Done rs k h s)).0 j)
one_by_trace files c policy lines e f (GoodTrace t rs a h s l d) (GoodTrace u qs b k r m g) =
    let records = (one_ending t ending.Done ending.Done rs qs s (says_of files c.run.trace t u ending.Done qs h k r)).1 in
    let bytes = one_held files c.report a b l m in
    one_by_report c policy lines rs a e f d (subst (λ xs. ByReport c policy lines xs a f) (sym records) (subst (λ w. ByReport c policy lines qs w f) (sym bytes) g))

one_by_commands : (files : Held) (c : Claim) (policy : PolicyFile) (e f : Ending) → ByCommands files c policy e → ByCommands files c policy f → e ≡ f
one_by_commands files c policy e f (BadCommands a why h x i) (BadCommands b how k y j) =
    i ∙ (ap (λ w. ending.Commands w) (err_is why how (commands_file_of policy a) (commands_file_of policy b) (ap (commands_file_of policy) (one_held files c.run.commands a b h k)) x y) ∙ sym j)
one_by_commands files c policy e f (BadCommands a why h x i) (GoodCommands b ms k y d) = absurd (not_both ms why (commands_file_of policy b) (commands_file_of policy a) (ap (commands_file_of policy) (one_held files c.run.commands b a k h)) y x)
one_by_commands files c policy e f (GoodCommands a ls h x d) (BadCommands b how k y j) = absurd (not_both ls how (commands_file_of policy a) (commands_file_of policy b) (ap (commands_file_of policy) (one_held files c.run.commands a b h k)) x y)
one_by_commands files c policy e f (GoodCommands a ls h x d) (GoodCommands b ms k y g) =
    let same = ok_is ls ms (commands_file_of policy a) (commands_file_of policy b) (ap (commands_file_of policy) (one_held files c.run.commands a b h k)) x y in
    one_by_trace files c policy ls e f d (subst (λ xs. ByTrace files c policy xs f) (sym same) g)

pub one_by_policy : (files : Held) (c : Claim) (e f : Ending) → ByPolicy files c e → ByPolicy files c f → e ≡ f
one_by_policy files c e f (BadPolicy a why h x i) (BadPolicy b how k y j) =
    i ∙ (ap (λ w. ending.Policy w) (err_is why how (policy_file_of a) (policy_file_of b) (ap policy_file_of (one_held files c.run.policy a b h k)) x y) ∙ sym j)
one_by_policy files c e f (BadPolicy a why h x i) (GoodPolicy b q k y d) = absurd (not_both q why (policy_file_of b) (policy_file_of a) (ap policy_file_of (one_held files c.run.policy b a k h)) y x)
one_by_policy files c e f (GoodPolicy a p h x d) (BadPolicy b how k y j) = absurd (not_both p how (policy_file_of a) (policy_file_of b) (ap policy_file_of (one_held files c.run.policy a b h k)) x y)
one_by_policy files c e f (GoodPolicy a p h x d) (GoodPolicy b q k y g) =
    let same = ok_is p q (policy_file_of a) (policy_file_of b) (ap policy_file_of (one_held files c.run.policy a b h k)) x y in
    one_by_commands files c p e f d (subst (λ w. ByCommands files c w f) (sym same) g)

-- ---- what a run found

held_as : (a : Inputs) (inputs : Option Inputs) (name other bytes : List ℕ) → inputs ≡ Some a → name ≡ other → TellsHeld inputs name bytes → a.files other ≡ Some bytes
held_as a inputs name other bytes e n t = ap a.files (sym n) ∙ subst (λ i. TellsHeld i name bytes) e t

-- what a run of this ending put
abbrev pub put_by : Ending → List ℕ
put_by ending.Done = answer_text true
put_by ending.Illegal = answer_text false
put_by _ = []

-- the files that were opened, told by the host
record Opens (a : Inputs) (c : Claim) (files : List Opened) : Type 0 where
  turn : InTurn c files
  held : Each (λ (f : Opened). a.files f.name ≡ Some f.bytes) files
  within : Each (λ (f : Opened). f.read ≤ length f.bytes) files

each_held : (a : Inputs) (inputs : Option Inputs) (files : List Opened) → inputs ≡ Some a → Each (λ f. TellsHeld inputs f.name f.bytes) files → Each (λ (f : Opened). a.files f.name ≡ Some f.bytes) files
each_held a inputs [] e h = tt
each_held a inputs (f ∷ fs) e h = (held_as a inputs f.name f.name f.bytes e refl h.0, each_held a inputs fs e h.1)

opens_of : (c : Claim) (old new : Outside) (e : Ending) (a : Inputs) (files : List Opened) (r : Checks c old new e) → old.inputs ≡ Some a → r.files ≡ files → Opens a c files
opens_of c old new e a files r told is = subst (Opens a c) is (record { turn = r.opens.in_turn; held = each_held a old.inputs r.files told r.opens.held; within = r.opens.within })

named : (a : Inputs) (f : Opened) (name : List ℕ) → f.name ≡ name → a.files f.name ≡ Some f.bytes → a.files name ≡ Some f.bytes
named a f name e h = subst (λ n. a.files n ≡ Some f.bytes) e h

found_policy : (c : Claim) (a : Inputs) (p : Opened) (why : ConfigFault) → Opens a c (p ∷ []) → policy_file_of p.bytes ≡ Err why → ByPolicy a.files c (ending.Policy why)
found_policy c a p why o bad = BadPolicy p.bytes why (named a p c.run.policy o.turn o.held.0) bad refl

found_commands : (c : Claim) (a : Inputs) (p m : Opened) (given : PolicyFile) (why : CommandsFault) → Opens a c (p ∷ m ∷ []) → policy_file_of p.bytes ≡ Ok given → commands_file_of given m.bytes ≡ Err why → ByPolicy a.files c (ending.Commands why)
found_commands c a p m given why o good bad =
    GoodPolicy p.bytes given (named a p c.run.policy o.turn.1.named o.held.0) good (BadCommands m.bytes why (named a m c.run.commands o.turn.2 o.held.1.0) bad refl)

found_trace : (c : Claim) (a : Inputs) (p m t : Opened) (records : List Record) (e : Ending) → Opens a c (p ∷ m ∷ t ∷ []) → IsBad e → Says t.bytes e records → ByPolicy a.files c e
found_trace c a p m t records e o bad says =
    let (policy, lines, is, are, name) = o.turn in
    GoodPolicy p.bytes policy (named a p c.run.policy is.named o.held.0) is.good (GoodCommands m.bytes lines (named a m c.run.commands are.named o.held.1.0) are.good (BadTrace t.bytes records (named a t c.run.trace name o.held.1.1.0) bad says))

-- behind three good files
behind : (c : Claim) (a : Inputs) (p m t r : Opened) (policy : PolicyFile) (lines : List Line) (records : List Record) (e : Ending) → Each (λ (f : Opened). a.files f.name ≡ Some f.bytes) (p ∷ m ∷ t ∷ r ∷ []) → p.name ≡ c.run.policy → policy_file_of p.bytes ≡ Ok policy → m.name ≡ c.run.commands → commands_file_of policy m.bytes ≡ Ok lines
    → t.name ≡ c.run.trace → Says t.bytes ending.Done records → r.name ≡ c.report → ByReport c policy lines records r.bytes e → ByPolicy a.files c e
behind c a p m t r policy lines records e held pn pg mn mg tn says rn d =
    GoodPolicy p.bytes policy (named a p c.run.policy pn held.0) pg (GoodCommands m.bytes lines (named a m c.run.commands mn held.1.0) mg (GoodTrace t.bytes records r.bytes (named a t c.run.trace tn held.1.1.0) says (named a r c.report rn held.1.1.1.0) d))

shown : (c : Claim) (policy : PolicyFile) (lines : List Line) (records : List Record) (r : Opened) (why : ReportFault) → r.read ≤ length r.bytes → ShowsReport why r → ByReport c policy lines records r.bytes (ending.Report why)
shown c policy lines records r report.ReportLimit within s = Over refl (omega (arith, s.0, within))
shown c policy lines records r (report.Line number) within s = AtLine number refl s.1 s.2

found_report : (c : Claim) (a : Inputs) (p m t r : Opened) (why : ReportFault) → Opens a c (p ∷ m ∷ t ∷ r ∷ []) → ShowsReport why r → ByPolicy a.files c (ending.Report why)
found_report c a p m t r why o s =
    let (policy, lines, records, is, are, sound, name) = o.turn in
    behind c a p m t r policy lines records (ending.Report why) o.held is.named is.good are.named are.good sound.named (sound.sound, sound.few) name (shown c policy lines records r why o.within.1.1.1.0 s)

found_answer : (c : Claim) (a : Inputs) (old new : Outside) (e : Ending) (answer : Bool) (r : Checks c old new e) → old.inputs ≡ Some a → Answers c r.files answer → ByPolicy a.files c (answered answer)
found_answer c a old new e answer r told x =
    let k = x.claim in
    let o = opens_of c old new e a (k.policy_file ∷ k.commands_file ∷ k.trace_file ∷ k.report_file ∷ []) r told k.all in
    behind c a k.policy_file k.commands_file k.trace_file k.report_file k.policy k.commands k.records (answered answer) o.held k.policy_is.named k.policy_is.good k.commands_are.named k.commands_are.good k.trace_is.named (k.trace_is.sound, k.trace_is.few) k.report_is.named
    (Answered k.rounds answer refl k.report_is.few k.report_is.says x.is)

-- a run that wasn't ended by a fault or want of memory ended by what it found
pub found_check : (c : Claim) (old new : Outside) (a : Inputs) (e : Ending) → old.inputs ≡ Some a → HasNoFault old new → (e ≡ ending.Memory → ⊥) → Checks c old new e → ByPolicy a.files c e × Grows old.put new.put (put_by e)
found_check c old new a ending.Done told clean n r = (found_answer c a old new ending.Done true r told r.ends.0, r.ends.1)
found_check c old new a ending.Illegal told clean n r = (found_answer c a old new ending.Illegal false r told r.ends.0, r.ends.1)
found_check c old new a (ending.Policy why) told clean n r =
    let b : HasBadPolicy r.files why = r.ends.0 in
    (found_policy c a b.policy why (opens_of c old new (ending.Policy why) a (b.policy ∷ []) r told b.only) b.bad, r.ends.1)
found_check c old new a (ending.Commands why) told clean n r =
    let b : HasBadCommands r.files why = r.ends.0 in
    (found_commands c a b.policy b.commands b.given why (opens_of c old new (ending.Commands why) a (b.policy ∷ b.commands ∷ []) r told b.only) b.good b.bad, r.ends.1)
found_check c old new a (ending.Trace bad) told clean n r =
    let b : HasBadTrace r.files bad = r.ends.0 in
    (found_trace c a b.policy b.commands b.trace b.records (ending.Trace bad) (opens_of c old new (ending.Trace bad) a (b.policy ∷ b.commands ∷ b.trace ∷ []) r told b.only) tt (b.refused, b.few), r.ends.1)
found_check c old new a ending.Records told clean n r =
    let b : HasManyRecords r.files = r.ends.0 in
    (found_trace c a b.policy b.commands b.trace b.records ending.Records (opens_of c old new ending.Records a (b.policy ∷ b.commands ∷ b.trace ∷ []) r told b.only) tt (says_many b.trace.bytes b.records b.at b.front b.stops b.more b.full), r.ends.1)
found_check c old new a (ending.Report why) told clean n r =
    let b : HasBadReport r.files why = r.ends.0 in
    (found_report c a b.policy b.commands b.trace b.report why (opens_of c old new (ending.Report why) a (b.policy ∷ b.commands ∷ b.trace ∷ b.report ∷ []) r told b.all) b.shown, r.ends.1)
found_check c old new a ending.ReadFault told clean n r = absurd (clean.read r.ends.0)
found_check c old new a ending.WriteFault told clean n r = absurd (clean.put r.ends.0)
found_check c old new a ending.Memory told clean n r = absurd (n refl)
found_check c old new a ending.Usage told clean n r = absurd r.ends
found_check c old new a (ending.Rows why) told clean n r = absurd r.ends
