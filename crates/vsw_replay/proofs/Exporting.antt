-- The rows file behind a run, and how an export ends.
use Rattle.std.proofs.Common.{◌≡◌, ◌≤◌, ◌+◌, inl, inr, ℕ, zero, suc, Bool, true, false, if◌then◌else◌, Result, Ok, Err, OnOk, List, [], ◌∷◌, ◌++◌, length, take, take_all, refl, sym, ◌∙◌, ap, subst, arith, append_assoc, append-nil}
use Rattle.std.specs.Bool.{⊤}
use Rattle.std.specs.List.{flat_map}
use Rattle.byteorder.specs.Endian.{little_bytes}
use Rattle.vsw_base.specs.declared.fault.NoMemory.{NoMemory}
use Rattle.vsw_host.specs.Outside.{Opened, Outside, Grows, Rose, SameOutputs, DoesPut}
use Rattle.vsw_host.specs.declared.host.Failed.{Failed}
use Rattle.vsw_offload.specs.Rows.{Rise, head, in_key_order, in_order_behind, is_before, ordered, port_bytes, put_in}
use Rattle.vsw_offload.specs.declared.port_rows.PortRows.{PortRows}
use Rattle.vsw_offload.proofs.Sorted.{rise_put, rise_split}
use Rattle.vsw_policy.specs.Sound.{Each}
use Rattle.vsw_port.specs.declared.event.Event.{Event}
use Rattle.vsw_promise.specs.Jobs.{Setting}
use Rattle.vsw_promise.specs.Ports.{PortSeen, ports_of}
use Rattle.vsw_promise.specs.Rounds.{opening_of}
use Rattle.vsw_reading.proofs.Staying.{whole_put}
use Rattle.vsw_rows.specs.GoodRows.{IsGoodRow}
use Rattle.vsw_run.specs.Export.{AreExported, IsExport, IsExported}
use Rattle.vsw_run.specs.Files.{Reaches}
use Rattle.vsw_run.specs.Trace.{Reach, All, Fault, Stopped, Trace}
use Rattle.vsw_run.specs.declared.ending.Ending.{Ending}
use Rattle.vsw_run.specs.declared.ending.Ending.TheVariants as ending
use Rattle.vsw_crew.specs.Export.{AreRowsAt, HasRowsAt}
use Rattle.vsw_crew.specs.Switch.{AllStandAt, IsAt, PortNow, SwitchNow}
use Rattle.vsw_run.specs.ByTrace.{EndsSo}
use Rattle.vsw_run.specs.Exporting.{EndsUnput}
use Rattle.vsw_replay.specs.Exports.{ExportEnds, ExportsTrace}
use Rattle.vsw_replay.specs.Private.Exporting.{IsFile, IsThrough, IsWritten, Leaves, unput}
use Rattle.vsw_run.specs.Steps.{OpensNothing, Reads}
use Rattle.vsw_replay.specs.Runs.{Ends, RunsTrace}
use Rattle.vsw_replay.specs.declared.ending.TraceEnd.{TraceEnd}
use Rattle.vsw_replay.specs.declared.ending.TraceEnd.TheVariants as end
use Rattle.vsw_run.proofs.ReadTo.{read_to, reads_whole}
use Rattle.vsw_replay.proofs.Growing.{grows_none}

-- ---- rows in the order of their keys

each_put : (Q : List ℕ → Type 0) (r : List ℕ) (ss : List (List ℕ)) → Q r → Each Q ss → Each Q (put_in r ss)
each_put Q r [] q e = (q, tt)
each_put Q r (s ∷ ss) q e = by (is_before s r) (is_before r s) (each_put Q r ss q e.1)
  where
    by : (b c : Bool) → Each Q (put_in r ss) → Each Q (if b then s ∷ put_in r ss else if c then r ∷ s ∷ ss else s ∷ ss)
    by true c ih = (e.0, ih)
    by false true ih = (q, (e.0, e.1))
    by false false ih = (e.0, e.1)

each_in_order : (Q : List ℕ → Type 0) (done rows : List (List ℕ)) → Each Q done → Each Q rows → Each Q (in_order_behind done rows)
each_in_order Q done [] d e = d
each_in_order Q done (r ∷ rs) d e = each_in_order Q (put_in r done) rs (each_put Q r done e.0 d) e.1

order_rises : (done rows : List (List ℕ)) → Rise done → Rise (in_order_behind done rows)
order_rises done [] rise = rise
order_rises done (r ∷ rs) rise = order_rises (put_in r done) rs (rise_put r done rise)

-- a row behind those that come before it
put_last : (r : List ℕ) (done : List (List ℕ)) → Each (λ f. is_before f r ≡ true) done → put_in r done ≡ done ++ r ∷ []
put_last r [] e = refl
put_last r (s ∷ ss) e = rw e.0 (ap (λ (xs : List (List ℕ)). s ∷ xs) (put_last r ss e.1))

-- rows that rise are in order
rising_in_order : (done rows : List (List ℕ)) → Rise (done ++ rows) → in_order_behind done rows ≡ done ++ rows
rising_in_order done [] rise = sym (append-nil done)
rising_in_order done (r ∷ rs) rise =
    let split = rise_split done r rs rise in
    let joined : (done ++ r ∷ []) ++ rs ≡ done ++ r ∷ rs = append_assoc done (r ∷ []) rs in
    ap (λ (d : List (List ℕ)). in_order_behind d rs) (put_last r done split.2) ∙ (rising_in_order (done ++ r ∷ []) rs (subst Rise (sym joined) rise) ∙ joined)

ordered_once : (rows : List (List ℕ)) → in_key_order (in_key_order rows) ≡ in_key_order rows
ordered_once rows = rising_in_order [] (in_key_order rows) (order_rises [] rows tt)

-- ---- rows of the first ports

exported : (p : PortSeen) (h : List Event) (r : PortRows) → AreRowsAt p h r → IsExported p h (ordered r)
exported p h r a = record { port = a.port; mac = a.mac; entries = a.entries; good = each_in_order (IsGoodRow (opening_of p) h) [] r.rows tt a.good; order = ordered_once r.rows }

exported_more : (place : ℕ) (ps : List PortSeen) (hs : List (List Event)) (rs : List PortRows) (r : PortRows) → AreExported (take place ps) (take place hs) rs → HasRowsAt place ps hs r → AreExported (take (suc place) ps) (take (suc place) hs) (rs ++ ordered r ∷ [])
exported_more zero (p ∷ ps) (h ∷ hs) [] r a g = (exported p h r g, tt)
exported_more zero (p ∷ ps) (h ∷ hs) (q ∷ rs) r a g = absurd a
exported_more zero [] hs rs r a g = absurd g
exported_more zero (p ∷ ps) [] rs r a g = absurd g
exported_more (suc n) (p ∷ ps) (h ∷ hs) (q ∷ rs) r a g = (a.0, exported_more n ps hs rs r a.1 g)
exported_more (suc n) (p ∷ ps) (h ∷ hs) [] r a g = absurd a
exported_more (suc n) [] hs rs r a g = absurd g
exported_more (suc n) (p ∷ ps) [] rs r a g = absurd g

flat_push : (rs : List PortRows) (r : PortRows) → flat_map port_bytes (rs ++ r ∷ []) ≡ flat_map port_bytes rs ++ port_bytes r
flat_push [] r = append-nil (port_bytes r)
flat_push (q ∷ rs) r = ap (λ t. port_bytes q ++ t) (flat_push rs r) ∙ sym (append_assoc (port_bytes q) (flat_map port_bytes rs) (port_bytes r))

-- the rows of one more port were written
pub written_more : (s : Setting) (hs : List (List Event)) (place : ℕ) (front old new : List ℕ) (r : PortRows) → HasRowsAt place (ports_of s.policy) hs r → new ≡ old ++ port_bytes (ordered r) → IsWritten s hs place front old → IsWritten s hs (place + 1) front new
written_more s hs place front old new r has e w =
    let next : suc place ≡ place + 1 = omega arith in
    record {
      rows = w.rows ++ ordered r ∷ [];
      exported = subst (λ n. AreExported (take n (ports_of s.policy)) (take n hs) (w.rows ++ ordered r ∷ [])) next (exported_more place (ports_of s.policy) hs w.rows r w.exported has);
      text_is = e ∙ (ap (λ t. t ++ port_bytes (ordered r)) w.text_is ∙ (append_assoc front (flat_map port_bytes w.rows) (port_bytes (ordered r)) ∙ ap (λ t. front ++ t) (sym (flat_push w.rows (ordered r)))));
    }

pub writes_more : (switch : SwitchNow) (place : ℕ) (old new : List ℕ) (rows : PortRows) (r : Result ⊤ NoMemory) → ((s : Setting) (hs : List (List Event)) → IsAt s hs switch → HasRowsAt place (ports_of s.policy) hs rows) → OnOk r (new ≡ old ++ port_bytes (ordered rows))
    → OnOk r ((s : Setting) (hs : List (List Event)) (front : List ℕ) → IsAt s hs switch → IsWritten s hs place front old → IsWritten s hs (place + 1) front new)
writes_more switch place old new rows (Ok u) has e = λ s hs front at w. written_more s hs place front old new rows (has s hs at) e w
writes_more switch place old new rows (Err x) has e = tt

-- none were
pub written_none : (s : Setting) (hs : List (List Event)) (front : List ℕ) → IsWritten s hs 0 front front
written_none s hs front = record { rows = []; exported = tt; text_is = sym (append-nil front) }

stand_lengths : (workers : ℕ) (ps : List PortSeen) (hs : List (List Event)) (ns : List PortNow) → AllStandAt workers ps hs ns → (length ps ≡ length ns) × (length hs ≡ length ns)
stand_lengths workers [] [] [] a = (refl, refl)
stand_lengths workers (p ∷ ps) (h ∷ hs) (n ∷ ns) a = let ih = stand_lengths workers ps hs ns a.1 in (ap suc ih.0, ap suc ih.1)
stand_lengths workers [] [] (n ∷ ns) a = absurd a
stand_lengths workers [] (h ∷ hs) ns a = absurd a
stand_lengths workers (p ∷ ps) [] ns a = absurd a
stand_lengths workers (p ∷ ps) (h ∷ hs) [] a = absurd a

exported_length : (ps : List PortSeen) (hs : List (List Event)) (rs : List PortRows) → AreExported ps hs rs → length rs ≡ length ps
exported_length [] [] [] a = refl
exported_length (p ∷ ps) (h ∷ hs) (r ∷ rs) a = ap suc (exported_length ps hs rs a.1)
exported_length [] [] (r ∷ rs) a = absurd a
exported_length [] (h ∷ hs) rs a = absurd a
exported_length (p ∷ ps) [] rs a = absurd a
exported_length (p ∷ ps) (h ∷ hs) [] a = absurd a

-- those of all ports were
pub all_written : (s : Setting) (hs : List (List Event)) (switch : SwitchNow) (ports place : ℕ) (text : List ℕ) → ports ≡ length switch.ports → ports ≤ place → IsAt s hs switch → IsWritten s hs place (head ++ little_bytes 4 ports) text → IsFile s hs text
all_written s hs switch ports place text count most at w =
    let ps = ports_of s.policy in
    let size = stand_lengths s.workers ps hs switch.ports at.ports in
    let ports_are : take place ps ≡ ps = take_all place ps (omega (arith, count, most, size.0)) in
    let histories_are : take place hs ≡ hs = take_all place hs (omega (arith, count, most, size.1)) in
    let all : AreExported ps hs w.rows = subst (λ xs. AreExported xs hs w.rows) ports_are (subst (λ gs. AreExported (take place ps) gs w.rows) histories_are w.exported) in
    let number : ports ≡ length w.rows = count ∙ (sym size.0 ∙ sym (exported_length ps hs w.rows all)) in
    record {
      rows = w.rows;
      exported = all;
      text_is = w.text_is ∙ (append_assoc head (little_bytes 4 ports) (flat_map port_bytes w.rows) ∙ ap (λ n. head ++ little_bytes 4 n ++ flat_map port_bytes w.rows) number);
    }

-- ---- how it ends

same_grows : (old new : Outside) → SameOutputs old new → Grows old.put new.put []
same_grows old new o = subst (λ p. Grows old.put p []) (sym o.put) (grows_none old.put)

-- what was read, whatever is told of what was put
reaches_so : (old new : Outside) (f : Opened) (r : Reach) → Reaches (unput old) new f r → Reaches old new f r
reaches_so old new f All h = h
reaches_so old new f Fault h = h
reaches_so old new f Stopped h = tt

reads_so : (old new : Outside) (name : List ℕ) (t : Trace) → Reads (unput old) new name t → Reads old new name t
reads_so old new name t r = record { file = r.file; named = r.named; since = r.since; held = r.held; within = r.within; read = record { bytes = r.read.bytes; reaches = reaches_so old new r.file t.reach r.read.reaches } }

ends_unput : (s : Setting) (old new : Outside) (name : List ℕ) (e : Ending) → SameOutputs old new → EndsSo s (Reads (unput old) new name) (unput old) new e → EndsUnput s (Reads old new name) old new e
ends_unput s old new name e o x = record { trace = x.trace; reads = reads_so old new name x.trace x.reads; text = x.text; tells = x.tells; nothing = same_grows old new o }

exports_so : (s : Setting) (old new : Outside) (name : List ℕ) (e : TraceEnd) → RunsTrace s (unput old) new name e → ExportEnds s old new name e → ExportsTrace s old new name e
exports_so s old new name e r ends = record { ends = ends; complained = r.complained; complain_faults = r.complain_faults; inputs_later = r.inputs_later; puts_later = r.puts_later }

unopened : (old new : Outside) → SameOutputs old new → OpensNothing (unput old) new → OpensNothing old new
unopened old new o n = record { since = n.since; nothing = same_grows old new o }

-- a run that puts nothing ends as the one does that would have put
ends_so : (s : Setting) (old new : Outside) (name : List ℕ) (e : TraceEnd) → (e ≡ end.Done → ⊥) → (e ≡ end.WriteFault → ⊥) → SameOutputs old new → Ends s (unput old) new name e → ExportEnds s old new name e
ends_so s old new name end.Done done fault o x = absurd (done refl)
ends_so s old new name end.WriteFault done fault o x = absurd (fault refl)
ends_so s old new name end.ReadFault done fault o (inl (rose, n)) = inl (rose, unopened old new o n)
ends_so s old new name end.ReadFault done fault o (inr (rose, x)) = inr (rose, ends_unput s old new name ending.ReadFault o x)
ends_so s old new name (end.Refused bad) done fault o (inl n) = absurd n
ends_so s old new name (end.Refused bad) done fault o (inr x) = inr (ends_unput s old new name (ending.Trace bad) o x)
ends_so s old new name end.Records done fault o (inl n) = absurd n
ends_so s old new name end.Records done fault o (inr x) = inr (ends_unput s old new name ending.Records o x)
ends_so s old new name end.Memory done fault o (inl n) = inl (unopened old new o n)
ends_so s old new name end.Memory done fault o (inr (inl x)) = inr (inl (record { trace = x.trace; reads = reads_so old new name x.trace x.reads; nothing = same_grows old new o }))
ends_so s old new name end.Memory done fault o (inr (inr x)) = inr (inl (record { trace = x.trace; reads = reads_so old new name x.trace x.reads; nothing = same_grows old new o }))

-- before all rounds were run
pub leaves_exports : (s : Setting) (old new : Outside) (name : List ℕ) (switch : SwitchNow) (e : TraceEnd) → (e ≡ end.Done → ⊥) → SameOutputs old new → Leaves s old new name switch e → ExportsTrace s old new name e
leaves_exports s old new name switch end.Done other o r = absurd (other refl)
leaves_exports s old new name switch end.WriteFault other o r = absurd r
leaves_exports s old new name switch end.ReadFault other o r = exports_so s old new name end.ReadFault r (ends_so s old new name end.ReadFault (λ e. cc e) (λ e. cc e) o r.ends)
leaves_exports s old new name switch (end.Refused bad) other o r = exports_so s old new name (end.Refused bad) r (ends_so s old new name (end.Refused bad) (λ e. cc e) (λ e. cc e) o r.ends)
leaves_exports s old new name switch end.Records other o r = exports_so s old new name end.Records r (ends_so s old new name end.Records (λ e. cc e) (λ e. cc e) o r.ends)
leaves_exports s old new name switch end.Memory other o r = exports_so s old new name end.Memory r (ends_so s old new name end.Memory (λ e. cc e) (λ e. cc e) o r.ends)

-- no memory for the rows
pub unmade_exports : (s : Setting) (old new : Outside) (name : List ℕ) (switch : SwitchNow) → SameOutputs old new → IsThrough s (unput old) new name switch → ExportsTrace s old new name end.Memory
unmade_exports s old new name switch o t = record {
  ends = inr (inl (record { trace = read_to All t.bytes; reads = reads_whole old new name t.bytes t.whole; nothing = same_grows old new o }));
  complained = o.complained;
  complain_faults = o.complain_faults;
  inputs_later = t.later;
  puts_later = omega (arith, o.put_faults);
}

-- the run's rows
is_export : (s : Setting) (old new : Outside) (name text : List ℕ) (switch : SwitchNow) → (t : IsThrough s old new name switch) → IsFile s t.histories text → IsExport s t.records text
is_export s old new name text switch t f = record {
  rounds = t.rounds;
  are = record { histories = t.histories; right = t.so.right; are = t.so.are; chained = t.so.chained };
  whole = t.short_is;
  rows = f.rows;
  exported = f.exported;
  text_is = f.text_is;
}

-- they were put
pub put_exports : (s : Setting) (old mid new : Outside) (name text : List ℕ) (switch : SwitchNow) (u : ⊤) → SameOutputs old mid → (t : IsThrough s (unput old) mid name switch) → IsFile s t.histories text → DoesPut mid new text (Ok u) → ExportsTrace s old new name end.Done
put_exports s old mid new name text switch u o t f d =
    let later : old.input_faults ≤ mid.input_faults = t.later in
    record {
      ends = inr (record {
        text = text;
        read = record {
          trace = read_to All t.bytes;
          reads = reads_whole old new name t.bytes (whole_put old mid new name t.bytes d.inputs t.whole);
          whole = refl;
          records = t.records;
          capture = t.capture;
          few = t.few;
          is = is_export s (unput old) mid name text switch t f;
        };
        puts = subst (λ p. Grows p new.put text) o.put d.told;
      });
      complained = d.complained ∙ o.complained;
      complain_faults = d.complain_faults ∙ o.complain_faults;
      inputs_later = omega (arith, later, d.inputs.input_faults);
      puts_later = omega (arith, o.put_faults, d.cause.later);
    }

-- or a front of them
pub unput_exports : (s : Setting) (old mid new : Outside) (name text : List ℕ) (switch : SwitchNow) (e : Failed) → SameOutputs old mid → (t : IsThrough s (unput old) mid name switch) → IsFile s t.histories text → DoesPut mid new text (Err e) → ExportsTrace s old new name end.WriteFault
unput_exports s old mid new name text switch e o t f d =
    let later : old.input_faults ≤ mid.input_faults = t.later in
    record {
      ends = inr (
        subst (λ n. Rose n new.put_faults) o.put_faults d.cause.failed,
        record {
          text = text;
          read = record {
            trace = read_to All t.bytes;
            reads = reads_whole old new name t.bytes (whole_put old mid new name t.bytes d.inputs t.whole);
            whole = refl;
            records = t.records;
            capture = t.capture;
            few = t.few;
            is = is_export s (unput old) mid name text switch t f;
          };
          puts = (d.told.0, subst (λ p. Grows p new.put (take d.told.0 text)) o.put d.told.1);
        },
      );
      complained = d.complained ∙ o.complained;
      complain_faults = d.complain_faults ∙ o.complain_faults;
      inputs_later = omega (arith, later, d.inputs.input_faults);
      puts_later = omega (arith, o.put_faults, d.cause.later);
    }
