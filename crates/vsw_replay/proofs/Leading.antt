-- The thread that leads, from call to call.
use Rattle.std.proofs.Common.{◌≡◌, ◌≤◌, ℕ, Bool, Option, Some, None, Result, Ok, Err, IfOk, OnErr, OnOk, List, [], refl, sym, ap, subst, arith}
use Rattle.std.specs.Bool.{⊤}
use Rattle.vsw_base.specs.declared.fault.NoMemory.{NoMemory}
use Rattle.vsw_commandfile.specs.declared.line.Line.{Line}
use Rattle.vsw_crew.specs.Crew.{CrewSeen, crew_now}
use Rattle.vsw_crew.specs.Shift.{IsOut, IsPicked, Owes, TellsOwed}
use Rattle.vsw_crew.specs.Shares.{ShareSeen}
use Rattle.vsw_crew.specs.declared.picked.Picked.{Picked}
use Rattle.vsw_crew.specs.declared.underway.Underway.{Underway}
use Rattle.vsw_crew.specs.Switch.{AreServed, SwitchNow}
use Rattle.vsw_crew.specs.declared.owed.Owed.{Owed}
use Rattle.vsw_harbour.specs.Harbour.{HarbourSeen}
use Rattle.vsw_host.specs.Outside.{Outside, SameInputs}
use Rattle.vsw_pcap.specs.declared.capture.Record.{Record}
use Rattle.vsw_promise.specs.Jobs.{Setting}
use Rattle.vsw_reading.specs.Reads.{IsOpen}
use Rattle.vsw_reading.specs.declared.reading.Reading.{Reading}
use Rattle.vsw_reading.specs.declared.reading.Stop.TheVariants as stop
use Rattle.vsw_report.specs.Print.{round_text}
use Rattle.vsw_report.specs.Short.{is_short_round}
use Rattle.vsw_replay.specs.Private.Ahead.{IsAhead, IsOwing, none_left, with_batch}
use Rattle.vsw_replay.specs.Private.Going.{CanRead, GoesOn, IsFilled, IsNear}
use Rattle.vsw_replay.specs.Private.Leading.{LeadsTo, LedSo, MayLead, OwesAt, Paid, SettlesSo, StaysBeside, left_by, outcome, with_round}
use Rattle.vsw_replay.specs.Private.Next.{in_batch}
use Rattle.vsw_replay.specs.Runs.{RunsTrace}
use Rattle.vsw_replay.specs.declared.ahead.Ahead.{Ahead}
use Rattle.vsw_replay.specs.declared.ending.TraceEnd.{TraceEnd}
use Rattle.vsw_replay.specs.declared.ending.TraceEnd.TheVariants as end
use Rattle.vsw_replay.specs.declared.trace.Run.{Run}
use Rattle.vsw_replay.specs.declared.trace.Stretch.{Stretch}
use Rattle.vsw_reading.proofs.Open.{open_cleared}
use Rattle.vsw_reading.proofs.Staying.{open_put}
use Rattle.vsw_replay.proofs.Owing.{ahead_stops, debt_put, debt_unput, done_ahead, filled_owing, owing_filled, owing_stops}

-- ---- the text that is owed

-- it was put, or the run ended in that
pub paid_settles : (s : Setting) (start old now : Outside) (name : List ℕ) (run new : Run) (switch : SwitchNow) (h : HarbourSeen) (o : Owed) (t : Stretch) (r : Result ⊤ TraceEnd) → new.reading ≡ run.reading → ((text : List ℕ) (short : Bool) → Owes h o text short → Paid old now run.short new.short text short r)
    → IsOwing s start old name run switch (left_by h (Some o)) t → SettlesSo s start now name new switch t r
paid_settles s start old now name run new switch h o t (Ok u) same paid w =
    let (round, one, owes) = w.are_left in
    let p = paid (round_text round) (is_short_round round) owes in
    debt_put s start old now name run new switch (left_by h (Some o)) t (round_text round) (is_short_round round) u same p.1 p.0 w (record { round = round; one = one; text_is = refl; short_is = refl })
paid_settles s start old now name run new switch h o t (Err end.WriteFault) same paid w =
    let (round, one, owes) = w.are_left in
    let p = paid (round_text round) (is_short_round round) owes in
    debt_unput s start old now name run switch (left_by h (Some o)) t (round_text round) (is_short_round round) p.0 p.1 w (record { round = round; one = one; text_is = refl; short_is = refl })
paid_settles s start old now name run new switch h o t (Err end.Memory) same paid w =
    let (round, one, owes) = w.are_left in
    subst (λ w. RunsTrace s start w name end.Memory) (sym (paid (round_text round) (is_short_round round) owes)) (owing_stops s start old name run switch (left_by h (Some o)) t w)
paid_settles s start old now name run new switch h o t (Err end.Done) same paid w = let (round, one, owes) = w.are_left in absurd (paid (round_text round) (is_short_round round) owes)
paid_settles s start old now name run new switch h o t (Err end.ReadFault) same paid w = let (round, one, owes) = w.are_left in absurd (paid (round_text round) (is_short_round round) owes)
paid_settles s start old now name run new switch h o t (Err (end.Refused bad)) same paid w = let (round, one, owes) = w.are_left in absurd (paid (round_text round) (is_short_round round) owes)
paid_settles s start old now name run new switch h o t (Err end.Records) same paid w = let (round, one, owes) = w.are_left in absurd (paid (round_text round) (is_short_round round) owes)

-- none is
pub none_settles : (s : Setting) (start now : Outside) (name : List ℕ) (run : Run) (switch : SwitchNow) (h : HarbourSeen) (t : Stretch) → IsOwing s start now name run switch (left_by h None) t → IsOwing s start now name run switch none_left t
none_settles s start now name run switch h t w = record {
  given = w.given;
  rounds = w.rounds;
  owing = w.owing;
  histories = w.histories;
  since = w.since;
  read = w.read;
  count = w.count;
  cut = w.cut;
  so = w.so;
  at = w.at;
  short_is = w.short_is;
  puts = w.puts;
  are_left = w.are_left;
}

-- ---- what can be read next

-- the batch is of no matter, nor is what was put since
pub open_on : (old now : Outside) (r new : Reading) → SameInputs old now → new ≡ r → IsOpen old (in_batch r []) → IsOpen now (in_batch new [])
open_on old now r new inputs same o = subst (λ q. IsOpen now (in_batch q [])) (sym same) (open_put old now (in_batch r []) inputs o)

-- behind a whole round
pub near_open : (now : Outside) (run : Run) (packets : List Record) (t : Stretch) → t.stop ≡ stop.Full → IsNear now (with_batch run packets) t → IsOpen now (in_batch run.reading [])
near_open now run packets t full n = open_cleared now (in_batch run.reading packets) (subst (λ st. CanRead now (with_batch run packets) t.next st) full n.goes).0

-- ---- the round that was out

-- another room for the packets is of no matter
pub ahead_back : (s : Setting) (start now : Outside) (name : List ℕ) (run new : Run) (switch : SwitchNow) (first : ℕ) (packets : List Record) (t next : Stretch) → new ≡ run → next ≡ t → IsAhead s start now name run switch first packets t → IsAhead s start now name new switch first packets next
ahead_back s start now name run new switch first packets t next e f a = subst (λ q. IsAhead s start now name new switch first packets q) (sym f) (subst (λ q. IsAhead s start now name q switch first packets t) (sym e) a)

-- there was no memory to pick the next one
pub ahead_unpicked : (s : Setting) (start now : Outside) (name : List ℕ) (run : Run) (switch : SwitchNow) (first : ℕ) (packets : List Record) (t : Stretch) (e : TraceEnd) → e ≡ end.Memory → IsAhead s start now name run switch first packets t → RunsTrace s start now name e
ahead_unpicked s start now name run switch first packets t e is a = subst (λ x. RunsTrace s start now name x) (sym is) (ahead_stops s start now name run switch first packets t a)

-- it is done
pub ahead_done : (s : Setting) (start now : Outside) (name : List ℕ) (run : Run) (lines : List Line) (c after : CrewSeen) (first : ℕ) (packets : List Record) (o : Owed) (t : Stretch) → s.commands ≡ lines → after.harbour ≡ c.harbour → TellsOwed c lines first packets o after → IsAhead s start now name run (crew_now c) first packets t
    → IsOwing s start now name run (crew_now after) (left_by after.harbour (Some o)) t
ahead_done s start now name run lines c after first packets o t e same tells a =
    let (text, short, owes, ran) = tells.tells s a.histories e a.at in
    done_ahead s start now name run (crew_now c) (crew_now after) first packets t (left_by after.harbour (Some o)) short text
    (λ r u v. (r, refl, subst (λ h. Owes h o (round_text r) (is_short_round r)) (sym same) (subst (λ b. Owes c.harbour o (round_text r) b) v (subst (λ w. Owes c.harbour o w short) u owes)))) a ran

-- a round that was picked is out by its first packet
pub out_at : (c : CrewSeen) (lines : List Line) (first : ℕ) (packets : List Record) (p : Picked) (u : Underway) (out : List ShareSeen) → IsPicked c.harbour first packets p → ((ps : List Record) → IsPicked c.harbour p.first ps p → IsOut c lines p.first ps u out) → IsOut c lines first packets u out
out_at c lines first packets p u out picked gives = subst (λ n. IsOut c lines n packets u out) picked.first_is (gives packets (subst (λ n. IsPicked c.harbour n packets p) (sym picked.first_is) picked))

-- ---- the last text

pub settled_leads : (s : Setting) (start old now : Outside) (name : List ℕ) (run new : Run) (switch : SwitchNow) (h : HarbourSeen) (owed : Option Owed) (t : Stretch) (r : Result ⊤ TraceEnd) → new.reading ≡ run.reading
    → ((packets : List Record) → IsOwing s start old name (with_batch run packets) switch (left_by h owed) t → SettlesSo s start now name (with_batch new packets) switch t r) → IsOwing s start old name run switch (left_by h owed) t → LedSo s start now name new switch t r
settled_leads s start old now name run new switch h owed t (Ok u) same settles o =
    let back : with_batch new run.reading.batch ≡ new = ap (λ (q : Reading). with_batch new q.batch) (sym same) in
    filled_owing s start now name new switch t (subst (λ q. IsOwing s start now name q switch none_left t) back (settles run.reading.batch o))
settled_leads s start old now name run new switch h owed t (Err e) same settles o = settles run.reading.batch o

-- ---- the first round

-- it was picked or not
pub picked_owes : {J G : Type 0} (s : Setting) (start now : Outside) (name : List ℕ) (a p : Ahead J G) → a.owed ≡ None → StaysBeside a p → with_round p.run p.picked ≡ a.run → IsFilled s start now name a.run (crew_now a.crew) a.stretch → OwesAt s start now name p p.picked
picked_owes s start now name a p none same back f =
    let base = owing_filled s start now name a.run (crew_now a.crew) (left_by a.crew.harbour a.owed) a.stretch (subst (λ w. left_by a.crew.harbour w []) (sym none) refl) f in
    let by_crew = subst (λ x. IsOwing s start now name a.run (crew_now x) (left_by x.harbour a.owed) a.stretch) (sym same.crew) base in
    let by_owed = subst (λ w. IsOwing s start now name a.run (crew_now p.crew) (left_by p.crew.harbour w) a.stretch) (sym same.owed) by_crew in
    let by_stretch = subst (λ t. IsOwing s start now name a.run (crew_now p.crew) (left_by p.crew.harbour p.owed) t) (sym same.stretch) by_owed in
    subst (λ r. IsOwing s start now name r (crew_now p.crew) (left_by p.crew.harbour p.owed) p.stretch) (sym back) by_stretch

-- there was no memory for that
pub filled_stops : (s : Setting) (start now : Outside) (name : List ℕ) (run : Run) (switch : SwitchNow) (t : Stretch) (e : TraceEnd) → e ≡ end.Memory → IsFilled s start now name run switch t → RunsTrace s start now name e
filled_stops s start now name run switch t e is f = subst (λ x. RunsTrace s start now name x) (sym is) (owing_stops s start now name run switch none_left t (owing_filled s start now name run switch none_left t refl f))

-- ---- what the lead makes

pub led_on : {J G : Type 0} (a b : Ahead J G) (w v : Outside) → b.end ≡ None → ((s : Setting) (start : Outside) (name : List ℕ) → s.commands ≡ a.schedule.now → IsFilled s start w name a.run (crew_now a.crew) a.stretch → IsFilled s start v name b.run (crew_now b.crew) b.stretch)
    → IsNear v b.run b.stretch → AreServed (crew_now b.crew) a.schedule.now → a.stretch.first ≤ b.stretch.first → LeadsTo a w b v
led_on a b w v none goes near served rises =
    let out : Ok b.stretch ≡ outcome b.stretch b.end = ap (outcome b.stretch) (sym none) in record {
      goes = λ s start name e f. subst (λ r. GoesOn s start v name b.run (crew_now b.crew) r) out (goes s start name e f);
      near = subst (λ r. IfOk r (λ t. IsNear v b.run t)) out near;
      served = subst (λ r. OnOk r (AreServed (crew_now b.crew) a.schedule.now)) out served;
      rises = subst (λ r. IfOk r (λ t. a.stretch.first ≤ t.first)) out rises;
    }

pub led_over : {J G : Type 0} (a b : Ahead J G) (w v : Outside) (x : TraceEnd) → b.end ≡ Some x → ((s : Setting) (start : Outside) (name : List ℕ) → s.commands ≡ a.schedule.now → IsFilled s start w name a.run (crew_now a.crew) a.stretch → RunsTrace s start v name x) → LeadsTo a w b v
led_over a b w v x is goes =
    let out : Err x ≡ outcome b.stretch b.end = ap (outcome b.stretch) (sym is) in record {
      goes = λ s start name e f. subst (λ r. GoesOn s start v name b.run (crew_now b.crew) r) out (goes s start name e f);
      near = subst (λ r. IfOk r (λ t. IsNear v b.run t)) out tt;
      served = subst (λ r. OnOk r (AreServed (crew_now b.crew) a.schedule.now)) out tt;
      rises = subst (λ r. IfOk r (λ t. a.stretch.first ≤ t.first)) out tt;
    }

-- the threads were started, or nothing was done
pub hands_led : {H J G : Type 0} (outside : H → Outside) (a b : Ahead J G) (w v : H) (r : Result ⊤ NoMemory) → MayLead a (outside w) → OnOk r (LeadsTo a (outside w) b (outside v)) → OnErr r ((b ≡ a) × (v ≡ w)) → LeadsTo a (outside w) b (outside v)
hands_led outside a b w v (Ok u) may led same = led
hands_led outside a b w v (Err e) may led same =
    let here = led_on a a (outside w) (outside w) may.end (λ s start name e f. f) may.near may.served (omega arith) in
    subst (λ y. LeadsTo a (outside w) b (outside y)) (sym same.1) (subst (λ y. LeadsTo a (outside w) y (outside w)) (sym same.0) here)
