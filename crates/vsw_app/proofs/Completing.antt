-- A run over good files ends well, but for faults and want of memory.
use Rattle.std.proofs.Common.{◌≡◌, ◌<◌, ◌≤◌, ◌⊎◌, inl, inr, ℕ, ◌+◌, Bool, true, false, List, [], ◌∷◌, ◌++◌, length, take, drop, Option, Some, None, Result, Ok, Err, refl, ap, sym, ◌∙◌, subst, arith}
use Rattle.std.proofs.Math.Seq.{take-length}
use Rattle.std.proofs.lemmas.List.{length-append, drop-append-le, take-append-drop}
use Rattle.vsw_commandfile.specs.Commands.{commands_file_of}
use Rattle.vsw_commandfile.specs.declared.fault.CommandsFault.{CommandsFault}
use Rattle.vsw_commandfile.specs.declared.line.Line.{Line}
use Rattle.vsw_host.specs.Outside.{Inputs, Opened, Outside, Rose}
use Rattle.vsw_host.specs.Told.{TellsHeld}
use Rattle.vsw_pcap.specs.Capture.{header_of, Splits, Stops, IsCapture}
use Rattle.vsw_pcap.specs.declared.capture.Form.{Form}
use Rattle.vsw_pcap.specs.declared.capture.Front.TheVariants.{Oversize}
use Rattle.vsw_pcap.specs.declared.capture.Record.{Record}
use Rattle.vsw_pcap.specs.declared.fault.BadTrace.{BadTrace}
use Rattle.vsw_pcap.specs.declared.fault.BadTrace.TheVariants.{NotPcap, Version, LinkType, Cut, Huge}
use Rattle.vsw_pcap.proofs.Format.{whole_is, accepted_long, accepted-append, header_of-append, oversize-append, Splits-append}
use Rattle.vsw_pcap.proofs.Unique.{captures_are_unique}
use Rattle.vsw_policy.specs.Sound.{Each}
use Rattle.vsw_config.specs.Policy.{policy_file_of}
use Rattle.vsw_config.specs.declared.file.ConfigFault.{ConfigFault}
use Rattle.vsw_config.specs.declared.file.PolicyFile.{PolicyFile}
use Rattle.vsw_run.proofs.Exports.{forwarded, had_put}
use Rattle.vsw_run.proofs.Runs.{runs_as}
use Rattle.vsw_run.specs.Complaint.{status_of}
use Rattle.vsw_run.specs.ByTrace as of_trace
use Rattle.vsw_run.specs.Files.{InTurn, HasBadPolicy, HasBadCommands, HasTrace, IsEarly, IsReadOf, Opens, Reaches}
use Rattle.vsw_run.specs.IsRun.{AreAdmitted, AskRun, Ends, IsComplete, IsCompleteAlone, IsRun, Runs, RunsBy, RunsGenerated}
use Rattle.vsw_promise.specs.Jobs.{Setting}
use Rattle.vsw_run.specs.Trace.{All, Trace, IsRefused, HasMore, most_records}
use Rattle.vsw_run.specs.declared.ending.Ending.{Ending}
use Rattle.vsw_run.specs.declared.ending.Ending.TheVariants as ending
use Rattle.vsw_run.specs.declared.ending.Status.{Status}
use Rattle.vsw_run.specs.declared.ending.Status.TheVariants as status
use Rattle.vsw_run.specs.Words.{Request, Forward, Deliver, Stream, Offload, Generate, asked_in}

-- ---- a file that is a capture, of which a trace was read

-- more bytes follow, but none if the file's end was reached
record IsOf (file : List ℕ) (t : Trace) : Type 0 where
  more : List ℕ
  is : file ≡ t.bytes ++ more
  all : t.reach ≡ All → file ≡ t.bytes

one_form : (file : List ℕ) (f g : Form) → header_of file ≡ Ok f → header_of file ≡ Ok g → f ≡ g
one_form file f g a b = cc

-- a good capture is refused nowhere
good_or_bad : (file : List ℕ) (rs qs : List Record) (bad : BadTrace) → IsCapture file rs None → IsCapture file qs (Some bad) → ⊥
good_or_bad file rs qs bad c d = let t = (captures_are_unique file rs qs None (Some bad) c d).1 in cc t

-- a header that was refused is the file's
header_longer : (file : List ℕ) (t : Trace) (bad : BadTrace) → IsOf file t → header_of t.bytes ≡ Err bad → (t.reach ≡ All) ⊎ (24 ≤ length t.bytes) → header_of file ≡ Err bad
header_longer file t bad i h (inl all) = ap header_of (i.all all) ∙ h
header_longer file t bad i h (inr long) = ap header_of i.is ∙ (header_of-append t.bytes i.more long ∙ h)

good_header : (file : List ℕ) (rs : List Record) (t : Trace) (bad : BadTrace) → IsCapture file rs None → IsOf file t → header_of t.bytes ≡ Err bad → (t.reach ≡ All) ⊎ (24 ≤ length t.bytes) → ⊥
good_header file rs t bad c i h shown = let e = header_longer file t bad i h shown in let f = c.1 in cc (e, f)

longer : (bytes more : List ℕ) (rs : List Record) (form : Form) (rest : List ℕ) → header_of bytes ≡ Ok form → Splits form (drop 24 bytes) rs rest → Splits form (drop 24 (bytes ++ more)) rs (rest ++ more)
longer bytes more rs form rest h s = rw (drop-append-le 24 bytes more (accepted_long bytes form h)) (Splits-append form (drop 24 bytes) rs rest more s)

-- so is a record that was too long
huge_longer : (bytes more : List ℕ) (rs : List Record) (at : ℕ) → Stops bytes rs at Oversize → Stops (bytes ++ more) rs at Oversize
huge_longer bytes more rs at s = record {
  form = s.form;
  rest = s.rest ++ more;
  header = accepted-append bytes more s.form s.header;
  splits = longer bytes more rs s.form s.rest s.header s.splits;
  place = omega (arith, s.place, length-append s.rest more, length-append bytes more);
  begins = oversize-append s.form s.rest more s.begins;
}

not_refused : (s : Setting) (file : List ℕ) (rs : List Record) (t : Trace) (bad : BadTrace) (text : List ℕ) → IsCapture file rs None → IsOf file t → IsRefused s t bad text → ⊥
not_refused s file rs t NotPcap text c i r = good_header file rs t NotPcap c i r.refused.0 r.shown
not_refused s file rs t Version text c i r = good_header file rs t Version c i r.refused.0 r.shown
not_refused s file rs t LinkType text c i r = good_header file rs t LinkType c i r.refused.0 r.shown
not_refused s file rs t (Cut at) text c i r = good_or_bad file rs r.1.records (Cut at) c (subst (λ w. IsCapture w r.1.records (Some (Cut at))) (sym (i.all r.0)) r.1.refused)
not_refused s file rs t (Huge at) text c i r = good_or_bad file rs r.records (Huge at) c (subst (λ w. Stops w r.records at Oversize) (sym i.is) (huge_longer t.bytes i.more r.records at r.refused))

-- fewer records are split off if bytes are left
fewer : (form : Form) (bytes : List ℕ) (qs rs : List Record) (tail : List ℕ) → Splits form bytes qs tail → Splits form bytes rs [] → 0 < length tail → length qs < length rs
fewer form bytes [] [] tail s t some = absurd (omega (arith, some, ap length s, ap length t))
fewer form bytes [] (r ∷ rs) tail s t some = omega arith
fewer form bytes (q ∷ qs) [] tail s t some = absurd (omega (arith, (whole_is form bytes s.0 s.1).0, ap length t))
fewer form bytes (q ∷ qs) (r ∷ rs) tail s t some =
    let one = s.1 in
    let two = t.1 in
    let same : t.0 ≡ s.0 = cc in
    let moved = subst (λ n. Splits form (drop (16 + n) bytes) rs []) same t.3 in omega (arith, fewer form (drop (16 + s.0) bytes) qs rs tail s.3 moved some)

not_over : (s : Setting) (file : List ℕ) (rs : List Record) (t : Trace) (text : List ℕ) → IsCapture file rs None → length rs ≤ most_records → IsOf file t → HasMore s t text → ⊥
not_over s file rs t text c few i r =
    let rest = r.stops.rest ++ i.more in
    let header : header_of file ≡ Ok r.stops.form = ap header_of i.is ∙ accepted-append t.bytes i.more r.stops.form r.stops.header in
    let splits : Splits r.stops.form (drop 24 file) r.records rest = subst (λ w. Splits r.stops.form (drop 24 w) r.records rest) (sym i.is) (longer t.bytes i.more r.records r.stops.form r.stops.rest r.stops.header r.stops.splits) in
    let whole : Splits r.stops.form (drop 24 file) rs [] = subst (λ f. Splits f (drop 24 file) rs []) (one_form file c.0 r.stops.form c.1 header) c.2 in
    omega (arith, few, r.full, fewer r.stops.form (drop 24 file) r.records rs rest splits whole (omega (arith, r.more, r.stops.place, length-append r.stops.rest i.more)))

-- ---- the files that a run found

some_is : {A : Type 0} (x y : A) (o : Option A) → o ≡ Some x → o ≡ Some y → x ≡ y
some_is x y o e f = cc

ok_is : {A E : Type 0} (x y : A) (r : Result A E) → r ≡ Ok x → r ≡ Ok y → x ≡ y
ok_is x y r e f = cc

not_both : {A E : Type 0} (x : A) (y : E) (r : Result A E) → r ≡ Ok x → r ≡ Err y → ⊥
not_both x y r e f = cc

-- all is said of the files that the words name, and the host counted no fault
record IsClean (words : List (List ℕ)) (old new : Outside) : Type 0 where
  admitted : AreAdmitted words old.inputs
  no_read : ¬ (Rose old.input_faults new.input_faults)
  no_put : ¬ (Rose old.put_faults new.put_faults)

-- a file that was opened by a name holds what the host told
found : (inputs : Option Inputs) (a : Inputs) (name other bytes held : List ℕ) → inputs ≡ Some a → name ≡ other → TellsHeld inputs name bytes → a.files other ≡ Some held → bytes ≡ held
found inputs a name other bytes held e n t h = some_is bytes held (a.files other) (ap a.files (sym n) ∙ subst (λ i. TellsHeld i name bytes) e t) h

-- files that a run opened, as the words name them and the host told them
record Reached (q : Request) (old new : Outside) (a : Inputs) (files : List Opened) : Type 0 where
  told : old.inputs ≡ Some a
  opens : Opens old new q files

good_policy : (q : Request) (old new : Outside) (why : ConfigFault) (a : Inputs) (bytes : List ℕ) (p : PolicyFile) (files : List Opened) → Reached q old new a files → a.files q.policy ≡ Some bytes → policy_file_of bytes ≡ Ok p → HasBadPolicy files why → ⊥
good_policy q old new why a bytes p files r held good b =
    let turn : InTurn q (b.policy ∷ []) = subst (InTurn q) b.only r.opens.in_turn in
    let holds : Each (λ f. TellsHeld old.inputs f.name f.bytes) (b.policy ∷ []) = subst (Each (λ f. TellsHeld old.inputs f.name f.bytes)) b.only r.opens.held in
    let same = found old.inputs a b.policy.name q.policy b.policy.bytes bytes r.told turn holds.0 held in
    not_both p why (policy_file_of bytes) good (subst (λ w. policy_file_of w ≡ Err why) same b.bad)

good_commands : (q : Request) (old new : Outside) (why : CommandsFault) (a : Inputs) (bytes text : List ℕ) (p : PolicyFile) (lines : List Line) (files : List Opened) → Reached q old new a files → a.files q.policy ≡ Some bytes → policy_file_of bytes ≡ Ok p → a.files q.commands ≡ Some text → commands_file_of p text ≡ Ok lines → HasBadCommands files why → ⊥
good_commands q old new why a bytes text p lines files r held good holding right b =
    let turn : InTurn q (b.policy ∷ b.commands ∷ []) = subst (InTurn q) b.only r.opens.in_turn in
    let holds : Each (λ f. TellsHeld old.inputs f.name f.bytes) (b.policy ∷ b.commands ∷ []) = subst (Each (λ f. TellsHeld old.inputs f.name f.bytes)) b.only r.opens.held in
    let same = found old.inputs a b.policy.name q.policy b.policy.bytes bytes r.told turn.1.named holds.0 held in
    let alike = found old.inputs a b.commands.name q.commands b.commands.bytes text r.told turn.2 holds.1.0 holding in
    let given : b.given ≡ p = ok_is b.given p (policy_file_of bytes) (subst (λ w. policy_file_of w ≡ Ok b.given) same b.good) good in
    not_both lines why (commands_file_of p text) right (subst (λ g. commands_file_of g text ≡ Err why) given (subst (λ w. commands_file_of b.given w ≡ Err why) alike b.bad))

-- the trace that was read is of the file that the host holds
of_file : (old new : Outside) (f : Opened) (t : Trace) (file : List ℕ) → IsReadOf old new f t → f.bytes ≡ file → IsOf file t
of_file old new f t file r same = subst (λ w. IsOf w t) same (record {
  more = drop f.read f.bytes;
  is = sym (take-append-drop f.read f.bytes) ∙ ap (λ w. w ++ drop f.read f.bytes) (sym r.bytes);
  all = λ e. sym (r.bytes ∙ (ap (λ n. take n f.bytes) (subst (Reaches old new f) e r.reaches) ∙ take-length f.bytes));
})

trace_found : (local : Bool) (q : Request) (old new : Outside) (a : Inputs) (file : List ℕ) (files : List Opened) (s : Setting) (f : Opened) (t : Trace) → Reached q old new a files → HasTrace local q files s f → IsReadOf old new f t → a.files q.trace ≡ Some file → IsOf file t
trace_found local q old new a file files s f t r o read held =
    let three = o.policy ∷ o.commands ∷ f ∷ [] in
    let turn : InTurn q three = subst (InTurn q) o.all r.opens.in_turn in
    let holds : Each (λ f. TellsHeld old.inputs f.name f.bytes) three = subst (Each (λ f. TellsHeld old.inputs f.name f.bytes)) o.all r.opens.held in
    of_file old new f t file read (found old.inputs a f.name q.trace f.bytes file r.told turn.4 holds.1.1.0 held)

-- ---- the run

ends_well : (words : List (List ℕ)) (local : Bool) (q : Request) (old new : Outside) (end : Ending) (c : IsClean words old new) → c.admitted.request ≡ q → Runs local q old new end → (status_of end ≡ status.Done) ⊎ (status_of end ≡ status.Memory)
ends_well words local q old new end c same r = by r.ends
  where
    d : AreAdmitted words old.inputs
    d = c.admitted

    reached : Reached q old new d.files r.files
    reached = record { told = d.told; opens = r.opens }

    policy_held : d.files.files q.policy ≡ Some d.policy
    policy_held = subst (λ k. d.files.files k.policy ≡ Some d.policy) same d.policy_held

    commands_held : d.files.files q.commands ≡ Some d.commands
    commands_held = subst (λ k. d.files.files k.commands ≡ Some d.commands) same d.commands_held

    trace_held : d.files.files q.trace ≡ Some d.trace
    trace_held = subst (λ k. d.files.files k.trace ≡ Some d.trace) same d.trace_held

    early : (end : Ending) → IsEarly old new r.files end → (status_of end ≡ status.Done) ⊎ (status_of end ≡ status.Memory)
    early (ending.Policy why) e = absurd (good_policy q old new why d.files d.policy d.setting.policy r.files reached policy_held d.policy_good e)
    early (ending.Commands why) e = absurd (good_commands q old new why d.files d.policy d.commands d.setting.policy d.setting.commands r.files reached policy_held d.policy_good commands_held d.commands_good e)
    early ending.ReadFault e = absurd (c.no_read e.0)
    early ending.Memory e = inr refl
    early ending.Done e = absurd e
    early ending.WriteFault e = absurd e
    early (ending.Trace bad) e = absurd e
    early ending.Records e = absurd e
    early ending.Usage e = absurd e
    early (ending.Report why) e = absurd e
    early ending.Illegal e = absurd e
    early (ending.Rows why) e = absurd e

    of_held : (s : Setting) (f : Opened) (t : Trace) → HasTrace local q r.files s f → IsReadOf old new f t → IsOf d.trace t
    of_held s f t o read = trace_found local q old new d.files d.trace r.files s f t reached o read trace_held

    traced : (end : Ending) (s : Setting) (f : Opened) → HasTrace local q r.files s f → of_trace.Ends s (IsReadOf old new f) old new end → (status_of end ≡ status.Done) ⊎ (status_of end ≡ status.Memory)
    traced ending.Done s f o e = inl refl
    traced ending.Memory s f o e = inr refl
    traced ending.ReadFault s f o e = absurd (c.no_read e.0)
    traced ending.WriteFault s f o e = absurd (c.no_put e.0)
    traced (ending.Trace bad) s f o e = absurd (not_refused s d.trace d.records e.trace bad e.text d.trace_good (of_held s f e.trace o e.reads) e.tells)
    traced ending.Records s f o e = absurd (not_over s d.trace d.records e.trace e.text d.trace_good d.few (of_held s f e.trace o e.reads) e.tells)
    traced (ending.Policy why) s f o e = absurd e
    traced (ending.Commands why) s f o e = absurd e
    traced ending.Usage s f o e = absurd e
    traced (ending.Report why) s f o e = absurd e
    traced ending.Illegal s f o e = absurd e
    traced (ending.Rows why) s f o e = absurd e

    by : Ends local q old new r.files end → (status_of end ≡ status.Done) ⊎ (status_of end ≡ status.Memory)
    by (inl e) = early end e.0
    by (inr e) = traced end e.setting e.file e.opened e.ends

-- a run is complete
pub complete_is : (words : List (List ℕ)) (old new : Outside) (s : Status) → IsRun words old new s → IsComplete words old new s
complete_is words old new s run admitted n m = subst (λ t. (t ≡ status.Done) ⊎ (t ≡ status.Memory)) (sym run.status_is) (by admitted.asked)
  where
    q : Request
    q = admitted.request

    clean : IsClean words old new
    clean = record { admitted = admitted; no_read = n; no_put = m }

    over : (local : Bool) → Runs local q old new run.end → (status_of run.end ≡ status.Done) ⊎ (status_of run.end ≡ status.Memory)
    over local r = ends_well words local q old new run.end clean refl r

    -- as one that forwards
    exported : asked_in words ≡ Some (Offload q) → (status_of run.end ≡ status.Done) ⊎ (status_of run.end ≡ status.Memory)
    exported e =
        let f = forwarded q old new run.end (runs_as words (Some (Offload q)) old new s run e) in
        ends_well words false q old (had_put old new f.0) run.end (record { admitted = admitted; no_read = n; no_put = m }) refl f.1

    by : AskRun words q → (status_of run.end ≡ status.Done) ⊎ (status_of run.end ≡ status.Memory)
    by (inl e) = over false (runs_as words (Some (Forward q)) old new s run e)
    by (inr (inl e)) = over true (runs_as words (Some (Deliver q)) old new s run e)
    by (inr (inr (inl e))) = over false (runs_as words (Some (Stream q)) old new s run e)
    by (inr (inr (inr e))) = exported e

generated_well : (start packets : ℕ) (old new : Outside) (end : Ending) → ¬ (Rose old.put_faults new.put_faults) → RunsGenerated start packets old new end → (status_of end ≡ status.Done) ⊎ (status_of end ≡ status.Memory)
generated_well start packets old new ending.Done n r = inl refl
generated_well start packets old new ending.Memory n r = inr refl
generated_well start packets old new ending.WriteFault n r = absurd (n r.ends.0)
generated_well start packets old new ending.Usage n r = absurd r.ends
generated_well start packets old new ending.ReadFault n r = absurd r.ends
generated_well start packets old new (ending.Policy why) n r = absurd r.ends
generated_well start packets old new (ending.Commands why) n r = absurd r.ends
generated_well start packets old new (ending.Trace bad) n r = absurd r.ends
generated_well start packets old new ending.Records n r = absurd r.ends
generated_well start packets old new (ending.Report why) n r = absurd r.ends
generated_well start packets old new ending.Illegal n r = absurd r.ends
generated_well start packets old new (ending.Rows why) n r = absurd r.ends

-- so is one over a workload
pub complete_alone : (words : List (List ℕ)) (old new : Outside) (s : Status) → IsRun words old new s → IsCompleteAlone words old new s
complete_alone words old new s run start packets asks n =
    let asked : RunsBy (Some (Generate start packets)) old new run.end = subst (λ o. RunsBy o old new run.end) asks run.runs in
    subst (λ t. (t ≡ status.Done) ⊎ (t ≡ status.Memory)) (sym run.status_is) (generated_well start packets old new run.end n asked)
