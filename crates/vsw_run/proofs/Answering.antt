-- Two runs that answer the same trace from the same rows put the same.
use Rattle.std.proofs.Common.{◌≡◌, ◌≢◌, ◌<◌, ◌≤◌, ℕ, zero, suc, List, [], ◌∷◌, ◌++◌, length, take, drop, get_or, Option, Some, None, Result, Ok, Err, inl, inr, refl, ap, sym, ◌∙◌, subst, arith, length-append}
use Rattle.std.specs.Prelude.{IsSome, codes, decimal}
use Rattle.vsw_base.specs.declared.fate.Fate.{Fate}
use Rattle.vsw_base.specs.declared.flow.Place.{Place}
use Rattle.vsw_base.specs.Frame.{Parts}
use Rattle.vsw_host.specs.Outside.{Inputs, Opened, Outside, Grows}
use Rattle.vsw_host.specs.Told.{TellsHeld}
use Rattle.vsw_offload.proofs.Alone.{one_answer}
use Rattle.vsw_offload.proofs.ByRow.{rows_rise}
use Rattle.vsw_offload.proofs.Exact.{files_are_right, files_tell}
use Rattle.vsw_offload.specs.Answered.{rows_at}
use Rattle.vsw_offload.specs.Bad.{IsBadRows}
use Rattle.vsw_offload.specs.Rows.{AreRows, macs_of, numbers_of, rows_bytes}
use Rattle.vsw_offload.specs.declared.fault.BadRows.{BadRows}
use Rattle.vsw_offload.specs.declared.fault.BadRows.TheVariants as bad
use Rattle.vsw_offload.specs.declared.port_rows.PortRows.{PortRows}
use Rattle.vsw_pcap.proofs.Format.{accepted-append}
use Rattle.vsw_pcap.specs.Capture.{header_of, IsCapture, Splits, Stops}
use Rattle.vsw_pcap.specs.declared.capture.Front.TheVariants.{Oversize}
use Rattle.vsw_pcap.specs.declared.capture.Record.{Record}
use Rattle.vsw_pcap.specs.declared.fault.BadTrace.TheVariants.{NotPcap, Version, LinkType, Cut, Huge}
use Rattle.vsw_policy.specs.Sound.{Each}
use Rattle.vsw_promise.proofs.PortRounds.{take_whole}
use Rattle.vsw_promise.specs.Jobs.{aim_of, crossing_by}
use Rattle.vsw_report.specs.declared.round.LooseCause.{LooseCause}
use Rattle.vsw_run.specs.ByRows as rows_of
use Rattle.vsw_run.specs.ByRows.{Ends, EndsByTrace, EndsBehind, EndsSo, HasBadRows, HasMore, InTurn, IsEarly, RunsByRows, ShowsRows, TellsLines, TraceEnds, most_rows}
use Rattle.vsw_run.specs.Complaint.{rows_status, status_of}
use Rattle.vsw_run.specs.declared.ending.Ending.{Ending}
use Rattle.vsw_run.specs.declared.ending.Ending.TheVariants as ending
use Rattle.vsw_run.specs.declared.ending.RowsFault.{RowsFault}
use Rattle.vsw_run.specs.declared.ending.RowsFault.TheVariants as rows
use Rattle.vsw_run.specs.declared.ending.Status.TheVariants as status
use Rattle.vsw_run.specs.Engine.{AreEngineLines, IsAnswerLine, IsEngineLine, answer_text, engine_head}
use Rattle.vsw_run.specs.Files.{IsReadOf, Reaches}
use Rattle.vsw_run.specs.Law.{HasNoFault}
use Rattle.vsw_run.specs.Trace.{All, Trace}
use Rattle.vsw_run.specs.Words.{Query}
use Rattle.vsw_run.proofs.Checking.{Held, one_held}
use Rattle.vsw_run.proofs.Endings.{IsOfFile, Says, header_longer, huge_longer, longer, one_ending}

-- ---- lines are one text

abbrev line_of : List PortRows → ℕ → Place → Option Fate → List ℕ → List ℕ
line_of ports n place fate bytes = decimal n ++ codes " " ++ decimal (get_or (numbers_of ports) place.port 0) ++ codes " " ++ answer_text fate bytes ++ codes "\n"

-- what isn't answered has no bytes in its line
same_text : (ports : List PortRows) (n : ℕ) (place : Place) (one other : Option Fate) (bytes others : List ℕ) → one ≡ other → (IsSome one → bytes ≡ others) → line_of ports n place one bytes ≡ line_of ports n place other others
same_text ports n place None other bytes others same by = ap (λ f. line_of ports n place f others) same
same_text ports n place (Some f) other bytes others same by = ap (λ b. line_of ports n place (Some f) b) (by refl) ∙ ap (λ f. line_of ports n place f others) same

one_answer_line : (ports : List PortRows) (n moment : ℕ) (place : Place) (p : Parts) (line other : List ℕ) → AreRows ports → IsAnswerLine ports n moment place p line → IsAnswerLine ports n moment place p other → line ≡ other
one_answer_line ports n moment place p line other are a b =
    let one = one_answer (rows_at ports place.port) (crossing_by 0 n place moment p) p a.fate b.fate a.bytes b.bytes (rows_rise ports place.port are) a.answered b.answered in
    a.line_is ∙ (same_text ports n place a.fate b.fate a.bytes b.bytes one.0 one.1 ∙ sym b.line_is)

one_line : (ports : List PortRows) (n moment : ℕ) (to : Result (Place × Parts) LooseCause) (line other : List ℕ) → AreRows ports → IsEngineLine ports n moment to line → IsEngineLine ports n moment to other → line ≡ other
one_line ports n moment (Ok a) line other are x y = one_answer_line ports n moment a.0 a.1 line other are x y
one_line ports n moment (Err why) line other are x y = x ∙ sym y

one_lines : (ports : List PortRows) (n : ℕ) (records : List Record) (text other : List ℕ) → AreRows ports → AreEngineLines ports n records text → AreEngineLines ports n records other → text ≡ other
one_lines ports n [] text other are a b = a ∙ sym b
one_lines ports n (r ∷ rs) text other are (line, rest, is, says, more) (line', rest', is', says', more') =
    let first : line ≡ line' = one_line ports n r.moment (aim_of (macs_of ports) r) line line' are says says' in
    let others : rest ≡ rest' = one_lines ports (suc n) rs rest rest' are more more' in
    is ∙ ((λ i. first i ++ others i) ∙ sym is')

-- ---- what a run finds

-- what the trace gives by its ending: nothing behind a bad header
abbrev Texts : List PortRows → Ending → List Record → List ℕ → Type 0
Texts ports (ending.Trace NotPcap) records text = text ≡ []
Texts ports (ending.Trace Version) records text = text ≡ []
Texts ports (ending.Trace LinkType) records text = text ≡ []
Texts ports e records text = (lines : List ℕ) × AreEngineLines ports 0 records lines × (text ≡ engine_head ++ lines)

-- what is wrong with the bytes of rows
abbrev pub IsWrong : RowsFault → List ℕ → Type 0
IsWrong rows.RowsLimit bytes = most_rows < length bytes
IsWrong (rows.Bad why) bytes = (length bytes ≤ most_rows) × IsBadRows bytes why × (why ≢ bad.Memory)

-- how a run ends by its files, and what it puts
pub data ByRows (files : Held) (q : Query) (e : Ending) (text : List ℕ) : Type 0 where
  WrongRows : (bytes : List ℕ) (why : RowsFault) → files q.rows ≡ Some bytes → e ≡ ending.Rows why → IsWrong why bytes → text ≡ [] → ByRows files q e text
  GoodRows : (ports : List PortRows) (trace : List ℕ) (records : List Record) → files q.rows ≡ Some (rows_bytes ports) → AreRows ports → length (rows_bytes ports) ≤ most_rows → files q.trace ≡ Some trace → Says trace e records → Texts ports e records text → ByRows files q e text

refused : (why : BadRows) → why ≢ bad.Memory → rows_status (rows.Bad why) ≡ status.Refused
refused bad.NotRows n = refl
refused (bad.Cut at) n = refl
refused (bad.ManyPorts at) n = refl
refused (bad.PortTwice at) n = refl
refused (bad.ManyRows at) n = refl
refused (bad.BadRow at) n = refl
refused (bad.Order at) n = refl
refused (bad.Extra at) n = refl
refused bad.Memory n = absurd (n refl)

same_wrong : (why how : RowsFault) (bytes : List ℕ) → IsWrong why bytes → IsWrong how bytes → rows_status why ≡ rows_status how
same_wrong rows.RowsLimit rows.RowsLimit bytes a b = refl
same_wrong rows.RowsLimit (rows.Bad how) bytes a b = absurd (omega (arith, a, b.0))
same_wrong (rows.Bad why) rows.RowsLimit bytes a b = absurd (omega (arith, a.0, b))
same_wrong (rows.Bad why) (rows.Bad how) bytes a b = refused why a.2 ∙ sym (refused how b.2)

pub not_wrong : (why : RowsFault) (ports : List PortRows) → AreRows ports → length (rows_bytes ports) ≤ most_rows → IsWrong why (rows_bytes ports) → ⊥
not_wrong rows.RowsLimit ports are few w = omega (arith, few, w)
not_wrong (rows.Bad why) ports are few w = w.2 (files_are_right ports why are w.1)

one_text : (ports : List PortRows) (e : Ending) (records : List Record) (text other : List ℕ) → AreRows ports → Texts ports e records text → Texts ports e records other → text ≡ other
one_text ports e records text other are a b = by e a b
  where
    told : ((lines : List ℕ) × AreEngineLines ports 0 records lines × (text ≡ engine_head ++ lines)) → ((lines : List ℕ) × AreEngineLines ports 0 records lines × (other ≡ engine_head ++ lines)) → text ≡ other
    told (l, x, i) (m, y, j) = i ∙ (ap (λ (t : List ℕ). engine_head ++ t) (one_lines ports 0 records l m are x y) ∙ sym j)

    by : (e : Ending) → Texts ports e records text → Texts ports e records other → text ≡ other
    by (ending.Trace NotPcap) a b = a ∙ sym b
    by (ending.Trace Version) a b = a ∙ sym b
    by (ending.Trace LinkType) a b = a ∙ sym b
    by (ending.Trace (Cut at)) a b = told a b
    by (ending.Trace (Huge at)) a b = told a b
    by ending.Done a b = told a b
    by ending.Usage a b = told a b
    by ending.ReadFault a b = told a b
    by ending.WriteFault a b = told a b
    by (ending.Policy why) a b = told a b
    by (ending.Commands why) a b = told a b
    by ending.Records a b = told a b
    by (ending.Report why) a b = told a b
    by (ending.Rows why) a b = told a b
    by ending.Illegal a b = told a b
    by ending.Memory a b = told a b

pub same_rows : (q : Query) (files : Held) (e f : Ending) (text other : List ℕ) → ByRows files q e text → ByRows files q f other → (status_of e ≡ status_of f) × (text ≡ other)
same_rows q files e f text other (WrongRows a why h i w t) (WrongRows b how k j v u) =
    (ap status_of i ∙ (same_wrong why how a w (subst (IsWrong how) (one_held files q.rows b a k h) v) ∙ sym (ap status_of j)), t ∙ sym u)
same_rows q files e f text other (WrongRows a why h i w t) (GoodRows ps tr rs k are few l s x) = absurd (not_wrong why ps are few (subst (IsWrong why) (one_held files q.rows a (rows_bytes ps) h k) w))
same_rows q files e f text other (GoodRows ps tr rs k are few l s x) (WrongRows a why h i w t) = absurd (not_wrong why ps are few (subst (IsWrong why) (one_held files q.rows a (rows_bytes ps) h k) w))
same_rows q files e f text other (GoodRows ps tr rs h are few l s x) (GoodRows qs us vs k too some m r y) =
    let ports : ps ≡ qs = files_tell ps qs are too (one_held files q.rows (rows_bytes ps) (rows_bytes qs) h k) in
    let trace : tr ≡ us = one_held files q.trace tr us l m in
    let one = one_ending tr e f rs vs s (subst (λ w. Says w f vs) (sym trace) r) in
    let theirs : Texts ps e rs other = subst (λ w. Texts w e rs other) (sym ports) (subst (λ w. Texts qs w rs other) (sym one.0) (subst (λ w. Texts qs f w other) (sym one.1) y)) in
    (ap status_of one.0, one_text ps e rs text other are x theirs)

-- ---- what a run shows of its files

-- what was found and put
pub record FoundRows (files : Held) (q : Query) (old new : Option (List ℕ)) (e : Ending) : Type 0 where
  pub text : List ℕ
  pub found : ByRows files q e text
  pub puts : Grows old new text

record Opens (a : Inputs) (q : Query) (files : List Opened) : Type 0 where
  turn : InTurn q files
  held : Each (λ (f : Opened). a.files f.name ≡ Some f.bytes) files
  within : Each (λ (f : Opened). f.read ≤ length f.bytes) files

held_as : (a : Inputs) (inputs : Option Inputs) (name bytes : List ℕ) → inputs ≡ Some a → TellsHeld inputs name bytes → a.files name ≡ Some bytes
held_as a inputs name bytes e t = subst (λ i. TellsHeld i name bytes) e t

each_held : (a : Inputs) (inputs : Option Inputs) (files : List Opened) → inputs ≡ Some a → Each (λ f. TellsHeld inputs f.name f.bytes) files → Each (λ (f : Opened). a.files f.name ≡ Some f.bytes) files
each_held a inputs [] e h = tt
each_held a inputs (f ∷ fs) e h = (held_as a inputs f.name f.bytes e h.0, each_held a inputs fs e h.1)

opens_of : (q : Query) (old new : Outside) (a : Inputs) (opened files : List Opened) → rows_of.Opens old new q opened → old.inputs ≡ Some a → opened ≡ files → Opens a q files
opens_of q old new a opened files r told is = subst (Opens a q) is (record { turn = r.in_turn; held = each_held a old.inputs opened told r.held; within = r.within })

named : (a : Inputs) (f : Opened) (name : List ℕ) → f.name ≡ name → a.files f.name ≡ Some f.bytes → a.files name ≡ Some f.bytes
named a f name e h = subst (λ n. a.files n ≡ Some f.bytes) e h

take_drop : (n : ℕ) (xs : List ℕ) → xs ≡ take n xs ++ drop n xs
take_drop zero xs = refl
take_drop (suc n) [] = refl
take_drop (suc n) (x ∷ xs) = ap (λ w. x ∷ w) (take_drop n xs)

of_file : (old new : Outside) (f : Opened) (t : Trace) → IsReadOf old new f t → IsOfFile f.bytes t
of_file old new f t r = record {
  more = drop f.read f.bytes;
  is = take_drop f.read f.bytes ∙ ap (λ w. w ++ drop f.read f.bytes) (sym r.bytes);
  all = λ e. sym (r.bytes ∙ (ap (λ n. take n f.bytes) (whole e) ∙ take_whole f.bytes));
}
  where
    whole : t.reach ≡ All → f.read ≡ length f.bytes
    whole e = subst (Reaches old new f) e r.reaches

record Shown (ports : List PortRows) (file : List ℕ) (e : Ending) (text : List ℕ) : Type 0 where
  records : List Record
  says : Says file e records
  texts : Texts ports e records text

abbrev IsByTrace : Ending → Type 0
IsByTrace ending.Done = Unit {0}
IsByTrace (ending.Trace bad) = Unit {0}
IsByTrace ending.Records = Unit {0}
IsByTrace _ = ⊥

-- a byte follows in the file, too
says_over : (file : List ℕ) (t : Trace) (records : List Record) → IsOfFile file t → HasMore t.bytes records → Says file ending.Records records
says_over file t records i r = (
  record {
    form = r.stops.form;
    rest = r.stops.rest ++ i.more;
    header = ap header_of i.is ∙ accepted-append t.bytes i.more r.stops.form r.stops.header;
    splits = subst (λ w. Splits r.stops.form (drop 24 w) records (r.stops.rest ++ i.more)) (sym i.is) (longer t.bytes i.more records r.stops.form r.stops.rest r.stops.header r.stops.splits);
    more = omega (arith, r.more, r.stops.place, length-append r.stops.rest i.more);
  },
  r.full,
)

shown_by : (ports : List PortRows) (file : List ℕ) (t : Trace) (e : Ending) (rs : Option (List Record)) (text : List ℕ) → IsByTrace e → IsOfFile file t → EndsBehind t e rs → TellsLines ports rs text → Shown ports file e text
shown_by ports file t ending.Done None text b i r w = absurd r
shown_by ports file t ending.Done (Some rs) text b i r w = record { records = rs; says = (subst (λ w. IsCapture w rs None) (sym (i.all r.0)) r.1, r.2); texts = w }
shown_by ports file t (ending.Trace NotPcap) None text b i r w = record { records = []; says = ((header_longer file t NotPcap i r.0.0 r.1, refl), omega arith); texts = w }
shown_by ports file t (ending.Trace Version) None text b i r w = record { records = []; says = ((header_longer file t Version i r.0.0 r.1, refl), omega arith); texts = w }
shown_by ports file t (ending.Trace LinkType) None text b i r w = record { records = []; says = ((header_longer file t LinkType i r.0.0 r.1, refl), omega arith); texts = w }
shown_by ports file t (ending.Trace (Cut at)) None text b i r w = absurd r
shown_by ports file t (ending.Trace (Huge at)) None text b i r w = absurd r
shown_by ports file t (ending.Trace NotPcap) (Some rs) text b i r w = absurd r
shown_by ports file t (ending.Trace Version) (Some rs) text b i r w = absurd r
shown_by ports file t (ending.Trace LinkType) (Some rs) text b i r w = absurd r
shown_by ports file t (ending.Trace (Cut at)) (Some rs) text b i r w = record { records = rs; says = (subst (λ w. IsCapture w rs (Some (Cut at))) (sym (i.all r.0)) r.1, r.2); texts = w }
shown_by ports file t (ending.Trace (Huge at)) (Some rs) text b i r w = record { records = rs; says = (subst (λ w. Stops w rs at Oversize) (sym i.is) (huge_longer t.bytes i.more rs at r.0), r.1); texts = w }
shown_by ports file t ending.Records None text b i r w = absurd r
shown_by ports file t ending.Records (Some rs) text b i r w = record { records = rs; says = says_over file t rs i r; texts = w }
shown_by ports file t ending.Usage rs text b i r w = absurd b
shown_by ports file t ending.ReadFault rs text b i r w = absurd b
shown_by ports file t ending.WriteFault rs text b i r w = absurd b
shown_by ports file t (ending.Policy why) rs text b i r w = absurd b
shown_by ports file t (ending.Commands why) rs text b i r w = absurd b
shown_by ports file t ending.Memory rs text b i r w = absurd b
shown_by ports file t (ending.Report why) rs text b i r w = absurd b
shown_by ports file t (ending.Rows why) rs text b i r w = absurd b
shown_by ports file t ending.Illegal rs text b i r w = absurd b

found_trace : (q : Query) (old new : Outside) (a : Inputs) (e f : Ending) (files : List Opened) → rows_of.Opens old new q files → old.inputs ≡ Some a → IsByTrace e → (r : EndsByTrace q old new files f) → EndsSo r.ports (IsReadOf old new r.file) old new e → FoundRows a.files q old.put new.put e
found_trace q old new a e f files opens told b reads ends =
    let o : Opens a q (reads.rows ∷ reads.file ∷ []) = opens_of q old new a files (reads.rows ∷ reads.file ∷ []) opens told reads.all in
    let shown = shown_by reads.ports reads.file.bytes ends.trace e ends.records ends.text b (of_file old new reads.file ends.trace ends.reads) ends.ends ends.tells in
    let held : a.files q.rows ≡ Some (rows_bytes reads.ports) = named a reads.rows q.rows reads.are.named o.held.0 ∙ ap (λ (bytes : List ℕ). Some bytes) reads.are.is in record {
      text = ends.text;
      found = GoodRows reads.ports reads.file.bytes shown.records held reads.are.are (subst (λ (bytes : List ℕ). length bytes ≤ most_rows) reads.are.is reads.are.few) (named a reads.file q.trace o.turn.2 o.held.1.0) shown.says shown.texts;
      puts = ends.puts;
    }

wrong_of : (why : RowsFault) (f : Opened) → f.read ≤ length f.bytes → ShowsRows why f → IsWrong why f.bytes
wrong_of rows.RowsLimit f within s = omega (arith, s.0, within)
wrong_of (rows.Bad why) f within s = (s.1, s.2, s.3)

found_bad : (q : Query) (old new : Outside) (a : Inputs) (why : RowsFault) (files : List Opened) → rows_of.Opens old new q files → old.inputs ≡ Some a → HasBadRows files why → Grows old.put new.put [] → FoundRows a.files q old.put new.put (ending.Rows why)
found_bad q old new a why files opens told b puts =
    let o : Opens a q (b.rows ∷ []) = opens_of q old new a files (b.rows ∷ []) opens told b.only in
    record { text = []; found = WrongRows b.rows.bytes why (named a b.rows q.rows o.turn o.held.0) refl (wrong_of why b.rows o.within.0 b.shown) refl; puts = puts }

-- a run that wasn't ended by a fault or want of memory ended by what it found
pub found_rows : (q : Query) (old new : Outside) (a : Inputs) (e : Ending) → old.inputs ≡ Some a → HasNoFault old new → (e ≡ ending.Memory → ⊥) → RunsByRows q old new e → FoundRows a.files q old.put new.put e
found_rows q old new a e told clean n r = by r.ends
  where
    early : (e : Ending) → (e ≡ ending.Memory → ⊥) → Grows old.put new.put [] → IsEarly old new r.files e → FoundRows a.files q old.put new.put e
    early (ending.Rows why) n g b = found_bad q old new a why r.files r.opens told b g
    early ending.ReadFault n g b = absurd (clean.read b.0)
    early ending.Memory n g b = absurd (n refl)
    early ending.Done n g b = absurd b
    early ending.WriteFault n g b = absurd b
    early (ending.Trace bad) n g b = absurd b
    early ending.Records n g b = absurd b
    early ending.Usage n g b = absurd b
    early (ending.Policy why) n g b = absurd b
    early (ending.Commands why) n g b = absurd b
    early (ending.Report why) n g b = absurd b
    early ending.Illegal n g b = absurd b

    traced : (f e : Ending) (x : EndsByTrace q old new r.files f) → (e ≡ ending.Memory → ⊥) → TraceEnds x.ports (IsReadOf old new x.file) old new e → FoundRows a.files q old.put new.put e
    traced f ending.Done x n d = found_trace q old new a ending.Done f r.files r.opens told tt x d
    traced f (ending.Trace bad) x n d = found_trace q old new a (ending.Trace bad) f r.files r.opens told tt x d
    traced f ending.Records x n d = found_trace q old new a ending.Records f r.files r.opens told tt x d
    traced f ending.ReadFault x n d = absurd (clean.read d.0)
    traced f ending.WriteFault x n d = absurd (clean.put d.0)
    traced f ending.Memory x n d = absurd (n refl)
    traced f (ending.Rows why) x n d = absurd d
    traced f ending.Usage x n d = absurd d
    traced f (ending.Policy why) x n d = absurd d
    traced f (ending.Commands why) x n d = absurd d
    traced f (ending.Report why) x n d = absurd d
    traced f ending.Illegal x n d = absurd d

    by : Ends q old new r.files e → FoundRows a.files q old.put new.put e
    by (inl x) = early e n x.1 x.0
    by (inr x) = traced e e x n x.ends
