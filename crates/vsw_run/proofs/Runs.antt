-- Two runs of the same words over the same files.
use Rattle.std.proofs.Common.{◌≡◌, ◌≢◌, ℕ, zero, suc, Bool, true, false, List, [], ◌∷◌, ◌++◌, length, take, drop, Option, Some, None, Ok, Err, Result, inl, inr, refl, ap, sym, ◌∙◌, subst, arith, All}
use Rattle.vsw_commandfile.specs.declared.fault.CommandsFault.{CommandsFault}
use Rattle.vsw_commandfile.specs.Commands.{commands_file_of}
use Rattle.vsw_commandfile.specs.declared.line.Line.{Line}
use Rattle.vsw_commandfile.proofs.LinesRead.{each_is_good}
use Rattle.vsw_commandfile.specs.Good.{CanAsk}
use Rattle.vsw_host.specs.Outside.{Inputs, Opened, Outside, Grows}
use Rattle.vsw_host.specs.Told.{TellsHeld}
use Rattle.vsw_pcap.specs.declared.capture.Record.{Record}
use Rattle.vsw_pcap.specs.declared.fault.BadTrace.TheVariants.{NotPcap, Version, LinkType, Cut, Huge}
use Rattle.vsw_policy.specs.Sound.{Each, is_listed}
use Rattle.vsw_config.specs.declared.file.PolicyFile.{PolicyFile}
use Rattle.vsw_config.specs.declared.file.ConfigFault.{ConfigFault}
use Rattle.vsw_config.specs.Policy.{policy_file_of}
use Rattle.vsw_run.specs.declared.ending.Ending.{Ending}
use Rattle.vsw_run.specs.declared.ending.Ending.TheVariants as ending
use Rattle.vsw_run.specs.declared.ending.Status.{Status}
use Rattle.vsw_run.specs.declared.ending.Status.TheVariants as status
use Rattle.vsw_report.specs.declared.round.Round.{Round}
use Rattle.vsw_run.specs.Complaint.{status_of}
use Rattle.vsw_pcap.specs.Capture.{IsCapture}
use Rattle.vsw_pcap.proofs.Unique.{captures_are_unique}
use Rattle.vsw_run.specs.ByTrace as of_trace
use Rattle.vsw_run.specs.ByTrace.{EndsSo}
use Rattle.vsw_run.specs.Files.{InTurn, HasBadPolicy, HasBadCommands, HasTrace, IsEarly, IsReadOf, Opens, Reaches}
use Rattle.vsw_run.specs.IsRun.{Ends, IsRun, Runs, RunsBy, RunsGenerated, PutsSummary}
use Rattle.vsw_promise.specs.Alone.{rounds_alone}
use Rattle.vsw_run.specs.Generated.{Summarizes, alone_under, generated_records}
use Rattle.vsw_promise.specs.Summary.{summary_text}
use Rattle.vsw_promise.specs.Jobs.{Setting, cuts, cuts_within}
use Rattle.vsw_report.specs.Print.{report_text}
use Rattle.vsw_promise.specs.Rounds.{AreRounds}
use Rattle.vsw_run.specs.Trace.{All as Whole, Trace, Tells}
use Rattle.vsw_run.specs.Words.{Request, Asked, Forward, Deliver, Stream, Offload, Check, Engine, Generate, AskReport, asked_in}
use Rattle.vsw_history_law.specs.Law.{AreAsked}
use Rattle.vsw_run.specs.Law.{AreAlike, HasNoFault, OneText, OneStatus, OneRun, TellsWant}
use Rattle.vsw_run.proofs.Answering.{ByRows, found_rows, same_rows}
use Rattle.vsw_run.proofs.Checking.{ByPolicy, found_check, one_by_policy, put_by}
use Rattle.vsw_run.proofs.Exports.{forwarded, had_put}
use Rattle.vsw_run.proofs.Endings.{Says, one_ending, IsOfFile, header_longer, says_cut, says_huge, says_more}
use Rattle.vsw_history_law.proofs.Values.{one_value}
use Rattle.vsw_run.proofs.Wants.{plenty_rounds}
use Rattle.vsw_promise.proofs.PortRounds.{take_whole}

-- ---- texts

-- what one worker tells of a trace that ended cleanly is one text
pub one_text : OneText
one_text s t text other apart w e a b =
    let same : a.records ≡ b.records = (captures_are_unique t.bytes a.records b.records None None a.capture b.capture).0 in
    let first : a.rounds ≡ rounds_alone s a.records (cuts s.commands (length a.records)) = one_value s a.records (cuts s.commands (length a.records)) a.rounds apart w e a.are a.short_is in
    let second : b.rounds ≡ rounds_alone s b.records (cuts s.commands (length b.records)) = one_value s b.records (cuts s.commands (length b.records)) b.rounds apart w e b.are b.short_is in
    a.text_is ∙ (ap report_text (first ∙ (ap (λ rs. rounds_alone s rs (cuts s.commands (length rs))) same ∙ sym second)) ∙ sym b.text_is)

-- the text after these records, by the ending
abbrev Texts : Setting → Ending → List Record → List ℕ → Type 0
Texts s ending.Done rs text = (rounds : List Round) × AreRounds s rs (cuts s.commands (length rs)) rounds × (text ≡ report_text rounds)
Texts s (ending.Trace NotPcap) rs text = text ≡ []
Texts s (ending.Trace Version) rs text = text ≡ []
Texts s (ending.Trace LinkType) rs text = text ≡ []
Texts s (ending.Trace (Cut at)) rs text = (rounds : List Round) × AreRounds s rs (cuts_within s.commands (length rs)) rounds × (text ≡ report_text rounds)
Texts s (ending.Trace (Huge at)) rs text = (rounds : List Round) × AreRounds s rs (cuts_within s.commands (length rs)) rounds × (text ≡ report_text rounds)
Texts s ending.Records rs text = (rounds : List Round) × AreRounds s rs (cuts_within s.commands (length rs)) rounds × (text ≡ report_text rounds)
Texts s _ rs text = Unit {0}

one_report : (s : Setting) (rs : List Record) (cuts : List ℕ) (text other : List ℕ) → s.local ≡ false → s.workers ≡ 1 → AreAsked s → ¬ (TellsWant text) → ¬ (TellsWant other)
    → ((rounds : List Round) × AreRounds s rs cuts rounds × (text ≡ report_text rounds)) → ((rounds : List Round) × AreRounds s rs cuts rounds × (other ≡ report_text rounds)) → text ≡ other
one_report s rs cuts text other apart w asked none nothing (a, are, e) (b, too, f) =
    e ∙ (ap report_text (one_value s rs cuts a apart w asked are (plenty_rounds a text e none) ∙ sym (one_value s rs cuts b apart w asked too (plenty_rounds b other f nothing))) ∙ sym f)

-- the endings by a trace
abbrev IsByTrace : Ending → Type 0
IsByTrace ending.Done = Unit {0}
IsByTrace (ending.Trace bad) = Unit {0}
IsByTrace ending.Records = Unit {0}
IsByTrace _ = ⊥

one_text_by : (s : Setting) (e : Ending) (rs : List Record) (text other : List ℕ) → IsByTrace e → s.local ≡ false → s.workers ≡ 1 → AreAsked s → ¬ (TellsWant text) → ¬ (TellsWant other) → Texts s e rs text → Texts s e rs other → text ≡ other
one_text_by s ending.Done rs text other i apart w asked none nothing a b = one_report s rs (cuts s.commands (length rs)) text other apart w asked none nothing a b
one_text_by s (ending.Trace NotPcap) rs text other i apart w asked none nothing a b = a ∙ sym b
one_text_by s (ending.Trace Version) rs text other i apart w asked none nothing a b = a ∙ sym b
one_text_by s (ending.Trace LinkType) rs text other i apart w asked none nothing a b = a ∙ sym b
one_text_by s (ending.Trace (Cut at)) rs text other i apart w asked none nothing a b = one_report s rs (cuts_within s.commands (length rs)) text other apart w asked none nothing a b
one_text_by s (ending.Trace (Huge at)) rs text other i apart w asked none nothing a b = one_report s rs (cuts_within s.commands (length rs)) text other apart w asked none nothing a b
one_text_by s ending.Records rs text other i apart w asked none nothing a b = one_report s rs (cuts_within s.commands (length rs)) text other apart w asked none nothing a b
one_text_by s ending.Usage rs text other i apart w asked none nothing a b = absurd i
one_text_by s ending.ReadFault rs text other i apart w asked none nothing a b = absurd i
one_text_by s ending.WriteFault rs text other i apart w asked none nothing a b = absurd i
one_text_by s (ending.Policy why) rs text other i apart w asked none nothing a b = absurd i
one_text_by s (ending.Commands why) rs text other i apart w asked none nothing a b = absurd i
one_text_by s ending.Memory rs text other i apart w asked none nothing a b = absurd i
one_text_by s (ending.Report why) rs text other i apart w asked none nothing a b = absurd i
one_text_by s ending.Illegal rs text other i apart w asked none nothing a b = absurd i
one_text_by s (ending.Rows why) rs text other i apart w asked none nothing a b = absurd i

-- ---- what a run found in the files

-- the trace decided: what its file says, and the text that was put
record FoundTrace (local : Bool) (q : Request) (files : List ℕ → Option (List ℕ)) (old new : Option (List ℕ)) (e : Ending) : Type 0 where
  setting : Setting
  policy : List ℕ
  policy_held : files q.policy ≡ Some policy
  policy_good : policy_file_of policy ≡ Ok setting.policy
  commands : List ℕ
  commands_held : files q.commands ≡ Some commands
  commands_good : commands_file_of setting.policy commands ≡ Ok setting.commands
  workers : setting.workers ≡ q.workers
  hands_on : setting.local ≡ local
  file : List ℕ
  held : files q.trace ≡ Some file
  records : List Record
  says : Says file e records
  text : List ℕ
  texts : Texts setting e records text
  puts : Grows old new text

-- the policy is bad, or the commands are
record FoundPolicy (q : Request) (files : List ℕ → Option (List ℕ)) (why : ConfigFault) : Type 0 where
  policy : List ℕ
  held : files q.policy ≡ Some policy
  bad : policy_file_of policy ≡ Err why

record FoundCommands (q : Request) (files : List ℕ → Option (List ℕ)) (why : CommandsFault) : Type 0 where
  policy : List ℕ
  policy_held : files q.policy ≡ Some policy
  given : PolicyFile
  good : policy_file_of policy ≡ Ok given
  commands : List ℕ
  held : files q.commands ≡ Some commands
  bad : commands_file_of given commands ≡ Err why

data Found (local : Bool) (q : Request) (files : List ℕ → Option (List ℕ)) (old new : Option (List ℕ)) (e : Ending) : Type 0 where
  AtPolicy : (why : ConfigFault) → e ≡ ending.Policy why → FoundPolicy q files why → Grows old new [] → Found local q files old new e
  AtCommands : (why : CommandsFault) → e ≡ ending.Commands why → FoundCommands q files why → Grows old new [] → Found local q files old new e
  ByTrace : IsByTrace e → FoundTrace local q files old new e → Found local q files old new e

held_as : (a : Inputs) (inputs : Option Inputs) (name other bytes : List ℕ) → inputs ≡ Some a → name ≡ other → TellsHeld inputs name bytes → a.files other ≡ Some bytes
held_as a inputs name other bytes e n t = ap a.files (sym n) ∙ subst (λ i. TellsHeld i name bytes) e t

take_drop : (n : ℕ) (xs : List ℕ) → xs ≡ take n xs ++ drop n xs
take_drop zero xs = refl
take_drop (suc n) [] = refl
take_drop (suc n) (x ∷ xs) = ap (λ w. x ∷ w) (take_drop n xs)

of_file : (old new : Outside) (f : Opened) (t : Trace) → IsReadOf old new f t → IsOfFile f.bytes t
of_file old new f t r = record {
  more = drop f.read f.bytes;
  is = take_drop f.read f.bytes ∙ ap (λ w. w ++ drop f.read f.bytes) (sym r.bytes);
  all = λ e. sym (r.bytes ∙ (ap (λ n. take n f.bytes) (whole e) ∙ take_whole f.bytes));
}
  where
    whole : t.reach ≡ Whole → f.read ≡ length f.bytes
    whole e = subst (Reaches old new f) e r.reaches

-- what the ending of a run by its trace shows of the file
record Shown (s : Setting) (file : List ℕ) (e : Ending) (text : List ℕ) : Type 0 where
  records : List Record
  says : Says file e records
  texts : Texts s e records text

shown_by : (s : Setting) (file : List ℕ) (t : Trace) (e : Ending) (text : List ℕ) → IsByTrace e → IsOfFile file t → Tells s t e text → Shown s file e text
shown_by s file t ending.Done text b i r = record { records = r.records; says = (subst (λ w. IsCapture w r.records None) (sym (i.all r.read)) r.capture, r.few); texts = (r.rounds, r.are, r.text_is) }
shown_by s file t (ending.Trace NotPcap) text b i r = record { records = []; says = ((header_longer file t NotPcap i r.refused.0 r.shown, refl), omega arith); texts = r.nothing }
shown_by s file t (ending.Trace Version) text b i r = record { records = []; says = ((header_longer file t Version i r.refused.0 r.shown, refl), omega arith); texts = r.nothing }
shown_by s file t (ending.Trace LinkType) text b i r = record { records = []; says = ((header_longer file t LinkType i r.refused.0 r.shown, refl), omega arith); texts = r.nothing }
shown_by s file t (ending.Trace (Cut at)) text b i r = record { records = r.1.records; says = says_cut s file t at text i r.0 r.1; texts = (r.1.tells.rounds, r.1.tells.are, r.1.tells.text_is) }
shown_by s file t (ending.Trace (Huge at)) text b i r = record { records = r.records; says = says_huge s file t at text i r; texts = (r.tells.rounds, r.tells.are, r.tells.text_is) }
shown_by s file t ending.Records text b i r = record { records = r.records; says = says_more s file t text i r; texts = (r.tells.rounds, r.tells.are, r.tells.text_is) }
shown_by s file t ending.Usage text b i r = absurd b
shown_by s file t ending.ReadFault text b i r = absurd b
shown_by s file t ending.WriteFault text b i r = absurd b
shown_by s file t (ending.Policy why) text b i r = absurd b
shown_by s file t (ending.Commands why) text b i r = absurd b
shown_by s file t ending.Memory text b i r = absurd b
shown_by s file t (ending.Report why) text b i r = absurd b
shown_by s file t ending.Illegal text b i r = absurd b
shown_by s file t (ending.Rows why) text b i r = absurd b

-- the files that were opened, as the words name them and the host told them
record Reached (q : Request) (old new : Outside) (a : Inputs) (files : List Opened) : Type 0 where
  told : old.inputs ≡ Some a
  opens : Opens old new q files

found_trace : (local : Bool) (q : Request) (old new : Outside) (a : Inputs) (e : Ending) (files : List Opened) (s : Setting) (file : Opened) → Reached q old new a files → HasTrace local q files s file → IsByTrace e → EndsSo s (IsReadOf old new file) old new e → FoundTrace local q a.files old.put new.put e
found_trace local q old new a e files s file r o b ends =
    let turn : InTurn q (o.policy ∷ o.commands ∷ file ∷ []) = subst (InTurn q) o.all r.opens.in_turn in
    let held : Each (λ f. TellsHeld old.inputs f.name f.bytes) (o.policy ∷ o.commands ∷ file ∷ []) = subst (Each (λ f. TellsHeld old.inputs f.name f.bytes)) o.all r.opens.held in
    let shown = shown_by s file.bytes ends.trace e ends.text b (of_file old new file ends.trace ends.reads) ends.tells in record {
      setting = s;
      policy = o.policy.bytes;
      policy_held = held_as a old.inputs o.policy.name q.policy o.policy.bytes r.told turn.2.named held.0;
      policy_good = o.policy_good;
      commands = o.commands.bytes;
      commands_held = held_as a old.inputs o.commands.name q.commands o.commands.bytes r.told turn.3.named held.1.0;
      commands_good = o.commands_good;
      workers = o.workers;
      hands_on = o.hands_on;
      file = file.bytes;
      held = held_as a old.inputs file.name q.trace file.bytes r.told turn.4 held.1.1.0;
      records = shown.records;
      says = shown.says;
      text = ends.text;
      texts = shown.texts;
      puts = ends.puts;
    }

found_policy : (q : Request) (old new : Outside) (a : Inputs) (why : ConfigFault) (files : List Opened) → Reached q old new a files → HasBadPolicy files why → FoundPolicy q a.files why
found_policy q old new a why files r b =
    let turn : InTurn q (b.policy ∷ []) = subst (InTurn q) b.only r.opens.in_turn in
    let held : Each (λ f. TellsHeld old.inputs f.name f.bytes) (b.policy ∷ []) = subst (Each (λ f. TellsHeld old.inputs f.name f.bytes)) b.only r.opens.held in
    record { policy = b.policy.bytes; held = held_as a old.inputs b.policy.name q.policy b.policy.bytes r.told turn held.0; bad = b.bad }

found_commands : (q : Request) (old new : Outside) (a : Inputs) (why : CommandsFault) (files : List Opened) → Reached q old new a files → HasBadCommands files why → FoundCommands q a.files why
found_commands q old new a why files r b =
    let turn : InTurn q (b.policy ∷ b.commands ∷ []) = subst (InTurn q) b.only r.opens.in_turn in
    let held : Each (λ f. TellsHeld old.inputs f.name f.bytes) (b.policy ∷ b.commands ∷ []) = subst (Each (λ f. TellsHeld old.inputs f.name f.bytes)) b.only r.opens.held in record {
      policy = b.policy.bytes;
      policy_held = held_as a old.inputs b.policy.name q.policy b.policy.bytes r.told turn.1.named held.0;
      given = b.given;
      good = b.good;
      commands = b.commands.bytes;
      held = held_as a old.inputs b.commands.name q.commands b.commands.bytes r.told turn.2 held.1.0;
      bad = b.bad;
    }

-- a run that wasn't ended by a fault or want of memory found one of the three
found : (local : Bool) (q : Request) (old new : Outside) (a : Inputs) (e : Ending) → old.inputs ≡ Some a → HasNoFault old new → status_of e ≢ status.Memory → Runs local q old new e → Found local q a.files old.put new.put e
found local q old new a e told clean n r = by r.ends
  where
    reached : Reached q old new a r.files
    reached = record { told = told; opens = r.opens }

    early : (e : Ending) → status_of e ≢ status.Memory → Grows old.put new.put [] → IsEarly old new r.files e → Found local q a.files old.put new.put e
    early (ending.Policy why) n g b = AtPolicy why refl (found_policy q old new a why r.files reached b) g
    early (ending.Commands why) n g b = AtCommands why refl (found_commands q old new a why r.files reached b) g
    early ending.ReadFault n g b = absurd (clean.read b.0)
    early ending.Memory n g b = absurd (n refl)
    early ending.Done n g b = absurd b
    early ending.WriteFault n g b = absurd b
    early (ending.Trace bad) n g b = absurd b
    early ending.Records n g b = absurd b
    early ending.Usage n g b = absurd b
    early (ending.Report why) n g b = absurd b
    early ending.Illegal n g b = absurd b
    early (ending.Rows why) n g b = absurd b

    traced : (e : Ending) (s : Setting) (file : Opened) → status_of e ≢ status.Memory → HasTrace local q r.files s file → of_trace.Ends s (IsReadOf old new file) old new e → Found local q a.files old.put new.put e
    traced ending.Done s file n o d = ByTrace tt (found_trace local q old new a ending.Done r.files s file reached o tt d)
    traced (ending.Trace bad) s file n o d = ByTrace tt (found_trace local q old new a (ending.Trace bad) r.files s file reached o tt d)
    traced ending.Records s file n o d = ByTrace tt (found_trace local q old new a ending.Records r.files s file reached o tt d)
    traced ending.ReadFault s file n o d = absurd (clean.read d.0)
    traced ending.WriteFault s file n o d = absurd (clean.put d.0)
    traced ending.Memory s file n o d = absurd (n refl)
    traced (ending.Policy why) s file n o d = absurd d
    traced (ending.Commands why) s file n o d = absurd d
    traced ending.Usage s file n o d = absurd d
    traced (ending.Report why) s file n o d = absurd d
    traced ending.Illegal s file n o d = absurd d
    traced (ending.Rows why) s file n o d = absurd d

    by : Ends local q old new r.files e → Found local q a.files old.put new.put e
    by (inl x) = early e n x.1 x.0
    by (inr x) = traced e x.setting x.file n x.opened x.ends

-- ---- two such runs

some_is : {A : Type 0} (x y : A) → Some x ≡ Some y → x ≡ y
some_is x y e = cc e

ok_is : {A E : Type 0} (x y : A) → ◌≡◌ {A = Result A E} (Ok x) (Ok y) → x ≡ y
ok_is x y e = cc e

err_is : {A E : Type 0} (x y : E) → ◌≡◌ {A = Result A E} (Err x) (Err y) → x ≡ y
err_is x y e = cc e

not_both : {A E : Type 0} (x : A) (y : E) → ◌≡◌ {A = Result A E} (Ok x) (Err y) → ⊥
not_both x y e = cc e

pub each_asked : (p : PolicyFile) (ls : List Line) → All (CanAsk p) ls → Each (λ l. is_listed p.controllers l.controller ≡ true) ls
each_asked p [] h = tt
each_asked p (l ∷ ls) h = ((h 0 l (omega arith)).0, each_asked p ls (λ i d lt. h (suc i) d (omega (arith, lt))))

same_policy : (files : List ℕ → Option (List ℕ)) (name p r : List ℕ) → files name ≡ Some p → files name ≡ Some r → policy_file_of p ≡ policy_file_of r
same_policy files name p r a b = ap policy_file_of (some_is p r (sym a ∙ b))

same_commands : (files : List ℕ → Option (List ℕ)) (name p r : List ℕ) (a b : PolicyFile) → files name ≡ Some p → files name ≡ Some r → a ≡ b → commands_file_of a p ≡ commands_file_of b r
same_commands files name p r a b h k e = ap (λ w. commands_file_of w p) e ∙ ap (commands_file_of b) (some_is p r (sym h ∙ k))

-- what two runs agree on: the ending, and with one worker the text, where no packet is handed on
record Agree (local : Bool) (q : Request) (one two : Option (List ℕ)) (old other : Option (List ℕ)) (e f : Ending) : Type 0 where
  ends : e ≡ f
  text : local ≡ false → q.workers ≡ 1 → (a b : List ℕ) → old ≡ Some [] → other ≡ Some [] → one ≡ Some a → two ≡ Some b → ¬ (TellsWant a) → ¬ (TellsWant b) → a ≡ b

put_is : (old new : Option (List ℕ)) (text a : List ℕ) → old ≡ Some [] → new ≡ Some a → Grows old new text → a ≡ text
put_is old new text a e f g = subst (λ o. Grows o (Some a) text) e (subst (λ n. Grows old n text) f g)

nothing_is : (local : Bool) (q : Request) (old new other last : Option (List ℕ)) (e f : Ending) → e ≡ f → Grows old new [] → Grows other last [] → Agree local q new last old other e f
nothing_is local q old new other last e f same g h = record { ends = same; text = λ d w a b o p n l none nothing. put_is old new [] a o n g ∙ sym (put_is other last [] b p l h) }

by_trace : (local : Bool) (q : Request) (files : List ℕ → Option (List ℕ)) (old new other last : Option (List ℕ)) (e f : Ending) → IsByTrace e → FoundTrace local q files old new e → FoundTrace local q files other last f → Agree local q new last old other e f
by_trace local q files old new other last e f i a b =
    let policies : a.setting.policy ≡ b.setting.policy = ok_is a.setting.policy b.setting.policy (sym a.policy_good ∙ (same_policy files q.policy a.policy b.policy a.policy_held b.policy_held ∙ b.policy_good)) in
    let lines : a.setting.commands ≡ b.setting.commands = ok_is a.setting.commands b.setting.commands (sym a.commands_good ∙ (same_commands files q.commands a.commands b.commands a.setting.policy b.setting.policy a.commands_held b.commands_held policies ∙ b.commands_good)) in
    let settings : a.setting ≡ b.setting = (λ i. record { workers = (a.workers ∙ sym b.workers) i; policy = policies i; commands = lines i; local = (a.hands_on ∙ sym b.hands_on) i }) in
    let file : a.file ≡ b.file = some_is a.file b.file (sym a.held ∙ b.held) in
    let one = one_ending a.file e f a.records b.records a.says (subst (λ w. Says w f b.records) (sym file) b.says) in
    let asked : AreAsked a.setting = each_asked a.setting.policy a.setting.commands (each_is_good a.setting.policy a.commands a.setting.commands a.commands_good).can_ask in
    let texts : Texts a.setting e a.records b.text = subst (λ w. Texts w e a.records b.text) (sym settings) (subst (λ w. Texts b.setting w a.records b.text) (sym one.0) (subst (λ w. Texts b.setting f w b.text) (sym one.1) b.texts)) in record {
      ends = one.0;
      text = λ d w x y o p n l none nothing.
          let first = put_is old new a.text x o n a.puts in
          let second = put_is other last b.text y p l b.puts in
          first ∙ (one_text_by a.setting e a.records a.text b.text i (a.hands_on ∙ d) (a.workers ∙ w) asked (subst (λ t. ¬ (TellsWant t)) first none) (subst (λ t. ¬ (TellsWant t)) second nothing) a.texts texts ∙ sym second);
    }

agree : (local : Bool) (q : Request) (files : List ℕ → Option (List ℕ)) (old new other last : Option (List ℕ)) (e f : Ending) → Found local q files old new e → Found local q files other last f → Agree local q new last old other e f
agree local q files old new other last e f (AtPolicy why i a g) (AtPolicy how j b h) =
    nothing_is local q old new other last e f (i ∙ (ap (λ w. ending.Policy w) (err_is why how (sym a.bad ∙ (same_policy files q.policy a.policy b.policy a.held b.held ∙ b.bad))) ∙ sym j)) g h
agree local q files old new other last e f (AtPolicy why i a g) (AtCommands how j b h) = absurd (not_both b.given why (sym b.good ∙ (same_policy files q.policy b.policy a.policy b.policy_held a.held ∙ a.bad)))
agree local q files old new other last e f (AtPolicy why i a g) (ByTrace j b) = absurd (not_both b.setting.policy why (sym b.policy_good ∙ (same_policy files q.policy b.policy a.policy b.policy_held a.held ∙ a.bad)))
agree local q files old new other last e f (AtCommands why i a g) (AtPolicy how j b h) = absurd (not_both a.given how (sym a.good ∙ (same_policy files q.policy a.policy b.policy a.policy_held b.held ∙ b.bad)))
agree local q files old new other last e f (AtCommands why i a g) (AtCommands how j b h) =
    let policies = ok_is a.given b.given (sym a.good ∙ (same_policy files q.policy a.policy b.policy a.policy_held b.policy_held ∙ b.good)) in
    nothing_is local q old new other last e f (i ∙ (ap (λ w. ending.Commands w) (err_is why how (sym a.bad ∙ (same_commands files q.commands a.commands b.commands a.given b.given a.held b.held policies ∙ b.bad))) ∙ sym j)) g h
agree local q files old new other last e f (AtCommands why i a g) (ByTrace j b) =
    let policies = ok_is b.setting.policy a.given (sym b.policy_good ∙ (same_policy files q.policy b.policy a.policy b.policy_held a.policy_held ∙ a.good)) in
    absurd (not_both b.setting.commands why (sym b.commands_good ∙ (same_commands files q.commands b.commands a.commands b.setting.policy a.given b.commands_held a.held policies ∙ a.bad)))
agree local q files old new other last e f (ByTrace i a) (AtPolicy how j b h) = absurd (not_both a.setting.policy how (sym a.policy_good ∙ (same_policy files q.policy a.policy b.policy a.policy_held b.held ∙ b.bad)))
agree local q files old new other last e f (ByTrace i a) (AtCommands how j b h) =
    let policies = ok_is a.setting.policy b.given (sym a.policy_good ∙ (same_policy files q.policy a.policy b.policy a.policy_held b.policy_held ∙ b.good)) in
    absurd (not_both a.setting.commands how (sym a.commands_good ∙ (same_commands files q.commands a.commands b.commands a.setting.policy b.given a.commands_held b.held policies ∙ b.bad)))
agree local q files old new other last e f (ByTrace i a) (ByTrace j b) = by_trace local q files old new other last e f i a b

-- ---- a generated workload

-- where nothing failed and memory sufficed, the summary was put
summarized : (start packets : ℕ) (old new : Outside) (e : Ending) → HasNoFault old new → (status_of e ≡ status.Memory → ⊥) → RunsGenerated start packets old new e → (e ≡ ending.Done) × PutsSummary start packets old new false
summarized start packets old new ending.Done clean plenty r = (refl, r.ends)
summarized start packets old new ending.WriteFault clean plenty r = absurd (clean.put r.ends.0)
summarized start packets old new ending.Memory clean plenty r = absurd (plenty refl)
summarized start packets old new ending.Usage clean plenty r = absurd r.ends
summarized start packets old new ending.ReadFault clean plenty r = absurd r.ends
summarized start packets old new (ending.Policy why) clean plenty r = absurd r.ends
summarized start packets old new (ending.Commands why) clean plenty r = absurd r.ends
summarized start packets old new (ending.Trace bad) clean plenty r = absurd r.ends
summarized start packets old new ending.Records clean plenty r = absurd r.ends
summarized start packets old new (ending.Report why) clean plenty r = absurd r.ends
summarized start packets old new ending.Illegal clean plenty r = absurd r.ends
summarized start packets old new (ending.Rows why) clean plenty r = absurd r.ends

-- there is one summary
one_summary : (start packets : ℕ) (a b : List ℕ) → Summarizes start packets false a → Summarizes start packets false b → a ≡ b
one_summary start packets a b x y =
    let records = generated_records start packets in
    let cs = cuts [] packets in
    let policies : x.policy ≡ y.policy = ok_is x.policy y.policy (sym x.good ∙ y.good) in
    let first = one_value (alone_under x.policy) records cs x.rounds refl refl tt x.are x.short_is in
    let second = one_value (alone_under y.policy) records cs y.rounds refl refl tt y.are y.short_is in
    x.text_is ∙ (ap (summary_text packets) (first ∙ (ap (λ p. rounds_alone (alone_under p) records cs) policies ∙ sym second)) ∙ sym y.text_is)

-- ---- one run

pub runs_as : (words : List (List ℕ)) (o : Option Asked) (old new : Outside) (s : Status) (r : IsRun words old new s) → asked_in words ≡ o → RunsBy o old new r.end
runs_as words o old new s r e = subst (λ w. RunsBy w old new r.end) e r.runs

pub runs_over : (words : List (List ℕ)) (local : Bool) (q : Request) (old new : Outside) (s : Status) (r : IsRun words old new s) → AskReport words local q → Runs local q old new r.end
runs_over words false q old new s r (inl e) = runs_as words (Some (Forward q)) old new s r e
runs_over words false q old new s r (inr e) = runs_as words (Some (Stream q)) old new s r e
runs_over words true q old new s r e = runs_as words (Some (Deliver q)) old new s r e

record Both (q : Option Asked) (old new other last : Outside) (e f : Ending) : Type 0 where
  ends : status_of e ≡ status_of f
  text : ((r : Request) → q ≡ Some (Forward r) → r.workers ≡ 1) → ((r : Request) → q ≡ Some (Stream r) → r.workers ≡ 1) → ((r : Request) → q ≢ Some (Deliver r)) → ((r : Request) → q ≢ Some (Offload r)) → (a b : List ℕ) → old.put ≡ Some [] → other.put ≡ Some [] → new.put ≡ Some a → last.put ≡ Some b → ¬ (TellsWant a) → ¬ (TellsWant b) → a ≡ b

both_over : (words : List (List ℕ)) (local : Bool) (q : Request) (old new other last : Outside) (s t : Status) → AskReport words local q → (same : AreAlike old other) → HasNoFault old new → HasNoFault other last → (r : IsRun words old new s) (u : IsRun words other last t) → s ≢ status.Memory → t ≢ status.Memory → Agree local q new.put last.put old.put other.put r.end u.end
both_over words local q old new other last s t e same clean also r u m n =
    let a = found local q old new same.files r.end same.told clean (λ k. m (r.status_is ∙ k)) (runs_over words local q old new s r e) in
    let b = found local q other last same.others u.end same.told_too also (λ k. n (u.status_is ∙ k)) (runs_over words local q other last t u e) in
    agree local q same.files.files old.put new.put other.put last.put r.end u.end a (subst (λ f. Found local q f other.put last.put u.end) (sym same.same) b)

both : (words : List (List ℕ)) (old new other last : Outside) (s t : Status) (o : Option Asked) → asked_in words ≡ o → AreAlike old other → HasNoFault old new → HasNoFault other last → (r : IsRun words old new s) (u : IsRun words other last t) → s ≢ status.Memory → t ≢ status.Memory → Both o old new other last r.end u.end
both words old new other last s t None e same clean also r u m n =
    let a = runs_as words None old new s r e in
    let b = runs_as words None other last t u e in
    record { ends = ap status_of (a.usage ∙ sym b.usage); text = λ w v d i x y o p k l none nothing. put_is old.put new.put [] x o k a.nothing ∙ sym (put_is other.put last.put [] y p l b.nothing) }
both words old new other last s t (Some (Forward q)) e same clean also r u m n =
    let agreed = both_over words false q old new other last s t (inl e) same clean also r u m n in record { ends = ap status_of agreed.ends; text = λ w v d i. agreed.text refl (w q refl) }
both words old new other last s t (Some (Deliver q)) e same clean also r u m n =
    let agreed = both_over words true q old new other last s t e same clean also r u m n in record { ends = ap status_of agreed.ends; text = λ w v d i. absurd (d q refl) }
both words old new other last s t (Some (Stream q)) e same clean also r u m n =
    let agreed = both_over words false q old new other last s t (inr e) same clean also r u m n in record { ends = ap status_of agreed.ends; text = λ w v d i. agreed.text refl (v q refl) }
both words old new other last s t (Some (Offload q)) e same clean also r u m n =
    let a = forwarded q old new r.end (runs_as words (Some (Offload q)) old new s r e) in
    let b = forwarded q other last u.end (runs_as words (Some (Offload q)) other last t u e) in
    let one = had_put old new a.0 in
    let two = had_put other last b.0 in
    let first = found false q old one same.files r.end same.told (record { read = clean.read; put = clean.put }) (λ k. m (r.status_is ∙ k)) a.1 in
    let second = found false q other two same.others u.end same.told_too (record { read = also.read; put = also.put }) (λ k. n (u.status_is ∙ k)) b.1 in
    let agreed = agree false q same.files.files old.put one.put other.put two.put r.end u.end first (subst (λ f. Found false q f other.put two.put u.end) (sym same.same) second) in
    record { ends = ap status_of agreed.ends; text = λ w v d i. absurd (i q refl) }
both words old new other last s t (Some (Check c)) e same clean also r u m n =
    let a = found_check c old new same.files r.end same.told clean (λ k. m (r.status_is ∙ ap status_of k)) (runs_as words (Some (Check c)) old new s r e) in
    let b = found_check c other last same.others u.end same.told_too also (λ k. n (u.status_is ∙ ap status_of k)) (runs_as words (Some (Check c)) other last t u e) in
    let ends = one_by_policy same.files.files c r.end u.end a.0 (subst (λ f. ByPolicy f c u.end) (sym same.same) b.0) in
    record { ends = ap status_of ends; text = λ w v d i x y o p k l none nothing. put_is old.put new.put (put_by r.end) x o k a.1 ∙ (ap put_by ends ∙ sym (put_is other.put last.put (put_by u.end) y p l b.1)) }
both words old new other last s t (Some (Engine q)) e same clean also r u m n =
    let a = found_rows q old new same.files r.end same.told clean (λ k. m (r.status_is ∙ ap status_of k)) (runs_as words (Some (Engine q)) old new s r e) in
    let b = found_rows q other last same.others u.end same.told_too also (λ k. n (u.status_is ∙ ap status_of k)) (runs_as words (Some (Engine q)) other last t u e) in
    let agreed = same_rows q same.files.files r.end u.end a.text b.text a.found (subst (λ f. ByRows f q u.end b.text) (sym same.same) b.found) in
    record { ends = agreed.0; text = λ w v d i x y o p k l none nothing. put_is old.put new.put a.text x o k a.puts ∙ (agreed.1 ∙ sym (put_is other.put last.put b.text y p l b.puts)) }
both words old new other last s t (Some (Generate start packets)) e same clean also r u m n =
    let a = summarized start packets old new r.end clean (λ k. m (r.status_is ∙ k)) (runs_as words (Some (Generate start packets)) old new s r e) in
    let b = summarized start packets other last u.end also (λ k. n (u.status_is ∙ k)) (runs_as words (Some (Generate start packets)) other last t u e) in
    record { ends = ap status_of (a.0 ∙ sym b.0); text = λ w v d i x y o p k l none nothing. put_is old.put new.put a.1.text x o k a.1.puts ∙ (one_summary start packets a.1.text b.1.text a.1.summarizes b.1.summarizes ∙ sym (put_is other.put last.put b.1.text y p l b.1.puts)) }

pub one_status : OneStatus
one_status words old new other last s t same clean also r u m n =
    r.status_is ∙ ((both words old new other last s t (asked_in words) refl same clean also r u m n).ends ∙ sym u.status_is)

pub one_run : OneRun
one_run words old new other last s t same clean also r u m n w v d i a b =
    let agreed = both words old new other last s t (asked_in words) refl same clean also r u m n in
    let texts = agreed.text w v d i a.text b.text a.before b.before a.now b.now a.plenty b.plenty in
    (a.now ∙ (ap (λ x. Some x) texts ∙ sym b.now), r.status_is ∙ (agreed.ends ∙ sym u.status_is))
