-- A run of which nothing is put.
use Rattle.std.proofs.Common.{◌≡◌, ◌≤◌, ◌+◌, ◌||◌, ℕ, Bool, true, false, nat_lt, if◌then◌else◌, Some, None, Result, Ok, Err, IfErr, OnOk, List, [], ◌∷◌, ◌++◌, length, map, inl, refl, sym, ◌∙◌, ap, subst, arith}
use Rattle.std.specs.Bool.{⊤}
use Rattle.vsw_base.specs.declared.fault.NoMemory.{NoMemory}
use Rattle.vsw_commandfile.specs.declared.line.Line.{Line}
use Rattle.vsw_host.specs.Outside.{Outside, SameInputs, SameOutputs}
use Rattle.vsw_host.specs.Source.{IsReading, OpensSource}
use Rattle.vsw_host.specs.declared.source.Unopened.{Unopened}
use Rattle.vsw_host.specs.declared.source.Unopened.TheVariants as unopened
use Rattle.vsw_host.proofs.CallerLemmas.{TellsSince-SameInputs}
use Rattle.vsw_pcap.specs.declared.fault.BadTrace.TheVariants.{NotPcap, Version, LinkType, Cut, Huge}
use Rattle.vsw_port.specs.declared.event.Event.{Event}
use Rattle.vsw_promise.specs.Jobs.{Setting}
use Rattle.vsw_promise.specs.Ports.{ports_of}
use Rattle.vsw_promise.specs.Schedule.{next_at}
use Rattle.vsw_reading.specs.Reads.{IsOpen, IsRead}
use Rattle.vsw_reading.specs.declared.reading.Stop.{Stop}
use Rattle.vsw_reading.specs.declared.reading.Stop.TheVariants as stop
use Rattle.vsw_report.specs.Short.{are_short, is_short_round}
use Rattle.vsw_report.specs.Whole.{whole_text}
use Rattle.vsw_report.specs.declared.round.Round.{Round}
use Rattle.vsw_run.specs.Trace.{most_records}
use Rattle.vsw_crew.specs.Switch.{SwitchNow, IsAt}
use Rattle.vsw_replay.specs.Private.Exporting.{IsEarly, Leaves, RunsRead, Stays, unput}
use Rattle.vsw_replay.specs.Private.Going.{Since, IsFilled, IsFirst, IsNear, IsOpened, IsPast, IsTurn, AfterPut, CanRead, GoesOn, clean_of, is_run_of, unheaded_of}
use Rattle.vsw_replay.specs.Private.SoFar.{AreSoFar}
use Rattle.vsw_replay.specs.Runs.{RunsTrace}
use Rattle.vsw_replay.specs.declared.ending.TraceEnd.{TraceEnd}
use Rattle.vsw_replay.specs.declared.ending.TraceEnd.TheVariants as end
use Rattle.vsw_replay.specs.declared.trace.Run.{Run}
use Rattle.vsw_replay.specs.declared.trace.Stretch.{Stretch}
use Rattle.vsw_replay.proofs.Beginning.{head_begun}
use Rattle.vsw_replay.proofs.Cuts.{until_last}
use Rattle.vsw_replay.proofs.Lasting.{past_ends}
use Rattle.vsw_replay.proofs.Putting.{IsPutBy, after_for, next_by, next_unput, stopped_filled, stretch_put}
use Rattle.vsw_replay.proofs.Turning.{rounds_run, short_push}

-- ---- what stays outside

pub inputs_same : (o : Outside) → SameInputs o o
inputs_same o = record { inputs = refl; opens = refl; input_faults = refl }

pub outputs_same : (o : Outside) → SameOutputs o o
outputs_same o = record { put = refl; complained = refl; put_faults = refl; complain_faults = refl }

pub outputs_then : (a b c : Outside) → SameOutputs a b → SameOutputs b c → SameOutputs a c
outputs_then a b c p q = record { put = q.put ∙ p.put; complained = q.complained ∙ p.complained; put_faults = q.put_faults ∙ p.put_faults; complain_faults = q.complain_faults ∙ p.complain_faults }

-- ---- a round

unput_by : (start now : Outside) (rounds : List Round) (r : Round) (was short is : Bool) → Since (unput start) now → are_short rounds ≡ was → short ≡ (was || is) → is ≡ is_short_round r → IsPutBy (unput start) now (rounds ++ r ∷ []) short
unput_by start now rounds r was short is since e f h = record { since = since; short_is = short_push rounds r was short is e h f; puts = tt }

-- the round that was read was run
pub stretch_ran : (s : Setting) (start now : Outside) (name : List ℕ) (run new : Run) (switch after : SwitchNow) (t : Stretch) → is_run_of s.commands (length run.reading.batch) t.first t.stop ≡ true → new.reading ≡ run.reading → ((hs : List (List Event)) → IsAt s hs switch → IsTurn s hs t.first run new after)
    → IsFilled s (unput start) now name run switch t → AfterPut s (unput start) now name new after t t.stop
stretch_ran s start now name run new switch after t runs same turn f =
    let p = turn f.histories f.at in
    let ran = p.ran in
    after_for s (unput start) now name new after t f.bytes (f.given ++ run.reading.batch) (f.rounds ++ ran.round ∷ []) ran.histories t.stop (stopped_filled s (unput start) now now name run new switch t same (inputs_same now) f)
    (rounds_run s t.first t.next f.given run.reading.batch f.rounds f.histories after p.short [] (whole_text new.text) t.stop f.count f.cut f.next f.long runs f.so ran)
    ran.at
    (unput_by start now f.rounds ran.round run.short new.short p.short f.since f.short_is p.short_is ran.short_is)

-- there was no memory for it
pub stretch_stopped : (s : Setting) (start now : Outside) (name : List ℕ) (run : Run) (switch : SwitchNow) (t : Stretch) → is_run_of s.commands (length run.reading.batch) t.first t.stop ≡ true → IsFilled s (unput start) now name run switch t → RunsTrace s (unput start) now name end.Memory
stretch_stopped s start now name run switch t runs f = stretch_put s (unput start) now now name run run switch switch t (Err end.Memory) runs refl (inputs_same now) (λ hs at. refl) f

-- one or the other
pub stretch_runs : (s : Setting) (start now : Outside) (name : List ℕ) (lines : List Line) (run new : Run) (switch after : SwitchNow) (t : Stretch) (r : Result ⊤ NoMemory) → s.commands ≡ lines → is_run_of s.commands (length run.reading.batch) t.first t.stop ≡ true → new.reading ≡ run.reading
    → OnOk r ((s : Setting) (hs : List (List Event)) → s.commands ≡ lines → IsAt s hs switch → IsTurn s hs t.first run new after) → IsFilled s (unput start) now name run switch t → RunsRead s start now name new after t r
stretch_runs s start now name lines run new switch after t (Ok u) e runs same turn f = stretch_ran s start now name run new switch after t runs same (λ hs at. turn s hs e at) f
stretch_runs s start now name lines run new switch after t (Err x) e runs same turn f = stretch_stopped s start now name run switch t runs f

-- the trace can be read on as before
pub near_same : (now : Outside) (run new : Run) (t : Stretch) → new.reading ≡ run.reading → IsNear now run t → IsNear now new t
near_same now run new t same n = record { low = n.low; rises = n.rises; size = subst (λ r. length r.batch ≤ most_records) (sym same) n.size; goes = by t.stop n.goes }
  where
    by : (st : Stop) → CanRead now run t.next st → CanRead now new t.next st
    by stop.Full g = (subst (λ r. IsOpen now r) (sym same) g.0, g.1)
    by stop.End g = tt
    by stop.Fault g = tt
    by (stop.Bad bad) g = tt

-- a further round was run
pub next_ran : (s : Setting) (start now : Outside) (name : List ℕ) (run new : Run) (switch after : SwitchNow) (first next : ℕ) → run.reading.batch ≡ [] → next_at (first + 1) s.commands ≡ Some next → ((hs : List (List Event)) → IsAt s hs switch → IsTurn s hs next run new after)
    → IsPast s (unput start) now name run.short switch first → IsPast s (unput start) now name new.short after next
next_ran s start now name run new switch after first next none e turn f =
    let p = turn f.histories f.at in
    next_by s (unput start) now now name run new switch after first next none e (inputs_same now) f p (unput_by start now f.rounds p.ran.round run.short new.short p.short f.since f.short_is p.short_is p.ran.short_is)

pub next_stopped : (s : Setting) (start now : Outside) (name : List ℕ) (run : Run) (switch : SwitchNow) (first next : ℕ) → run.reading.batch ≡ [] → next_at (first + 1) s.commands ≡ Some next → IsPast s (unput start) now name run.short switch first → RunsTrace s (unput start) now name end.Memory
next_stopped s start now name run switch first next none e f = next_unput s (unput start) now now name run run switch switch first next end.Memory none e (inputs_same now) (λ hs at. refl) f

-- ---- how the run ends

-- no command names a further packet
pub past_leaves : (s : Setting) (start now : Outside) (name : List ℕ) (lines : List Line) (short : Bool) (switch : SwitchNow) (first : ℕ) → s.commands ≡ lines → next_at (first + 1) lines ≡ None → IsPast s (unput start) now name short switch first → Leaves s start now name switch (clean_of short)
past_leaves s start now name lines true switch first same none f = past_ends s (unput start) now name lines true switch first same none f
past_leaves s start now name lines false switch first same none f = record {
  bytes = f.bytes;
  records = f.records;
  rounds = f.rounds;
  histories = f.histories;
  since = f.since;
  later = f.later;
  whole = f.whole;
  capture = f.capture;
  few = f.few;
  so = subst (λ c. AreSoFar s f.records c f.rounds f.histories) (until_last s.commands first (length f.records) (ap (λ ls. next_at (first + 1) ls) same ∙ none) f.behind) f.so;
  at = f.at;
  short_is = f.short_is;
}

early_leaves : (s : Setting) (start now : Outside) (name : List ℕ) (switch : SwitchNow) (e : TraceEnd) → IsEarly e → RunsTrace s (unput start) now name e → Leaves s start now name switch e
early_leaves s start now name switch end.Done i r = absurd i
early_leaves s start now name switch end.ReadFault i r = r
early_leaves s start now name switch end.WriteFault i r = absurd i
early_leaves s start now name switch (end.Refused bad) i r = r
early_leaves s start now name switch end.Records i r = r
early_leaves s start now name switch end.Memory i r = r

-- the next round was read, or the run ended before
pub early_stays : (s : Setting) (start now : Outside) (name : List ℕ) (run : Run) (switch : SwitchNow) (r : Result Stretch TraceEnd) → IfErr r IsEarly → GoesOn s (unput start) now name run switch r → Stays s start now name run switch r
early_stays s start now name run switch (Ok t) i g = g
early_stays s start now name run switch (Err e) i g = early_leaves s start now name switch e i g

-- ---- the first round

unheaded_early : (st : Stop) (seen : ℕ) (e : TraceEnd) → unheaded_of st seen ≡ Some e → IsEarly e
unheaded_early stop.Full seen e i = absurd (cc i)
unheaded_early stop.End seen e i = absurd (cc i)
unheaded_early stop.Fault seen e i = by (nat_lt seen 24) i
  where
    by : (b : Bool) → (if b then Some end.ReadFault else None) ≡ Some e → IsEarly e
    by true h = let same : end.ReadFault ≡ e = cc h in subst IsEarly same tt
    by false h = absurd (cc h)
unheaded_early (stop.Bad NotPcap) seen e i = let same : end.Refused NotPcap ≡ e = cc i in subst IsEarly same tt
unheaded_early (stop.Bad Version) seen e i = let same : end.Refused Version ≡ e = cc i in subst IsEarly same tt
unheaded_early (stop.Bad LinkType) seen e i = let same : end.Refused LinkType ≡ e = cc i in subst IsEarly same tt
unheaded_early (stop.Bad (Cut at)) seen e i = absurd (cc i)
unheaded_early (stop.Bad (Huge at)) seen e i = absurd (cc i)

pub unheaded_leaves : (s : Setting) (start now : Outside) (name : List ℕ) (switch : SwitchNow) (st : Stop) (seen : ℕ) (e : TraceEnd) → unheaded_of st seen ≡ Some e → RunsTrace s (unput start) now name e → Leaves s start now name switch e
unheaded_leaves s start now name switch st seen e i r = early_leaves s start now name switch e (unheaded_early st seen e i) r

-- the header was accepted
pub first_begun : (s : Setting) (start now : Outside) (name : List ℕ) (run : Run) (switch : SwitchNow) (t : Stretch) → unheaded_of t.stop run.reading.seen ≡ None → IsFirst s (unput start) now name run switch t t.next → IsFilled s (unput start) now name run switch t
first_begun s start now name run switch t e f = head_begun s (unput start) now now name run switch t e (inputs_same now) f.since tt f

-- ---- the trace was opened, or it wasn't

read_so : (start now : Outside) (name : List ℕ) (file : ℕ) (got : List ℕ) → IsReading start now name file got → IsReading (unput start) now name file got
read_so start now name file got r = record { front = r.front; number = r.number; is_open = r.is_open; later = r.later }

pub opened_quietly : (s : Setting) (start now : Outside) (name : List ℕ) (run : Run) (switch : SwitchNow) (file : ℕ) → SameOutputs start now → IsReading start now name file [] → ((start now : Outside) (name : List ℕ) → IsReading start now name file [] → IsRead start now name run.reading [] []) → run.reading.batch ≡ [] → run.short ≡ false
    → IsAt s (map (λ p. []) (ports_of s.policy)) switch → IsOpened s (unput start) now name run switch
opened_quietly s start now name run switch file o reading read batch short at = record {
  since = record { complained = o.complained; complain_faults = o.complain_faults; puts_later = omega (arith, o.put_faults) };
  read = read (unput start) now name (read_so start now name file [] reading);
  batch = batch;
  at = at;
  short_is = short;
  puts = tt;
}

pub unopened_fault_outputs : (start now : Outside) (name : List ℕ) (why : Unopened) → why ≡ unopened.Fault → OpensSource start now name (Err why) → SameOutputs start now
unopened_fault_outputs start now name why e opens = (subst (λ w. OpensSource start now name (Err w)) e opens).0

pub unopened_fault : (s : Setting) (start now : Outside) (name : List ℕ) (switch : SwitchNow) (why : Unopened) → why ≡ unopened.Fault → OpensSource start now name (Err why) → Leaves s start now name switch end.ReadFault
unopened_fault s start now name switch why e opens =
    let o = subst (λ w. OpensSource start now name (Err w)) e opens in
    record { ends = inl (o.2, record { since = o.3.since; nothing = tt }); complained = o.0.complained; complain_faults = o.0.complain_faults; inputs_later = o.1; puts_later = omega (arith, o.0.put_faults) }

pub unopened_memory_outputs : (start now : Outside) (name : List ℕ) (why : Unopened) → why ≡ unopened.Memory → OpensSource start now name (Err why) → SameOutputs start now
unopened_memory_outputs start now name why e opens = (subst (λ w. OpensSource start now name (Err w)) e opens).0

pub unopened_memory : (s : Setting) (start now : Outside) (name : List ℕ) (switch : SwitchNow) (why : Unopened) → why ≡ unopened.Memory → OpensSource start now name (Err why) → Leaves s start now name switch end.Memory
unopened_memory s start now name switch why e opens =
    let o = subst (λ w. OpensSource start now name (Err w)) e opens in
    record { ends = inl (record { since = TellsSince-SameInputs start now o.1; nothing = tt }); complained = o.0.complained; complain_faults = o.0.complain_faults; inputs_later = omega (arith, o.1.input_faults); puts_later = omega (arith, o.0.put_faults) }
