-- The rounds that are worked out are rounds, for any number of workers, where no packet is handed on.
use Rattle.std.proofs.Common.{◌≡◌, ℕ, suc, ◌-◌, Bool, true, false, List, [], ◌∷◌, ◌++◌, length, map, refl, ap, sym, ◌∙◌, subst, append_assoc}
use Rattle.vsw_base.specs.declared.fate.Fate.{Fate}
use Rattle.vsw_base.specs.declared.fate.Fate.TheVariants.{Pass, Drop}
use Rattle.vsw_base.specs.declared.flow.Crossing.{Crossing}
use Rattle.vsw_base.specs.Frame.{Parts}
use Rattle.vsw_port.specs.Cross.{cross_of}
use Rattle.vsw_policy.specs.Layer.{LayerSeen}
use Rattle.vsw_pcap.specs.declared.capture.Record.{Record}
use Rattle.vsw_promise.specs.Ports.{PortSeen, ports_of}
use Rattle.vsw_port.specs.declared.event.Event.{Event}
use Rattle.vsw_report.specs.declared.round.PortRound.{PortRound}
use Rattle.vsw_port.specs.Calls.{Job, Carry, Ask, Call, job_of, entries_of, Shows, ShowsAt}
use Rattle.vsw_port.specs.History.{Opening, replay, AllRight}
use Rattle.vsw_port.specs.Fate.{fate_at}
use Rattle.vsw_promise.specs.Jobs.{Setting, Jobs, jobs_of, cuts}
use Rattle.vsw_port.specs.Next.{IsDone, Enters, Reading, IsNext, Goes}
use Rattle.vsw_promise.specs.Rounds.{opening_of, IsPortRound, ArePortRounds, AreRoundsAt, AreChained, AreHistories, AllBegin, end_before}
use Rattle.vsw_promise.specs.Told.{lines_of}
use Rattle.vsw_promise.specs.Alone.{shown, deed_at, enters_at, call_at, next_history, calls_from, history_from, port_round_from, all_of, port_rounds_from, histories_from, rounds_from, rounds_alone}
use Rattle.vsw_promise.specs.Exist.{AlwaysRounds}
use Rattle.vsw_port.proofs.Fronts.{prefix_self, prefix_trans, append_end}
use Rattle.vsw_port.proofs.Calls.{entries_append}
use Rattle.vsw_port.proofs.Next.{goes_none, goes_on}
use Rattle.vsw_promise.proofs.Handed.{jobs_untold}
use Rattle.vsw_promise.proofs.PortRounds.{round_of_goes, port_round_later}

shows_shown : (ls : List LayerSeen) (x : Crossing) (p : Parts) (fate : Fate) → Shows ls x p fate (shown ls x p fate)
shows_shown ls x p (Pass len) = refl
shows_shown ls x p (Drop cause) = refl

carried_done : (o : Opening) (g : List Event) (x : Crossing) (p : Parts) (b : Bool) → (cross_of (replay o g) x).changed ≡ b → IsDone o g (deed_at o.controllers (replay o g) (Carry x p)) b
carried_done o g x p true e = Enters refl (refl, e)
carried_done o g x p false e = Reading refl (refl, e)

done_at : (o : Opening) (g : List Event) (j : Job) → IsDone o g (deed_at o.controllers (replay o g) j) (enters_at o.controllers (replay o g) j)
done_at o g (Carry x p) = carried_done o g x p (cross_of (replay o g) x).changed refl
done_at o g (Ask l) = Enters refl refl

shows_at : (o : Opening) (g : List Event) (j : Job) → ShowsAt (replay o g) (deed_at o.controllers (replay o g) j)
shows_at o g (Carry x p) = shows_shown (replay o g) x p (fate_at (replay o g) x)
shows_at o g (Ask l) = tt

call_next : (o : Opening) (g : List Event) (j : Job) → IsNext o g (call_at o g j)
call_next o g j = record { last = refl; done = done_at o g j; shows = shows_at o g j }

goes_from : (o : Opening) (before g : List Event) (cs : List Call) (js : List Job) → Goes o before g cs → Goes o before (history_from o g js) (cs ++ calls_from o g js)
goes_from o before g cs [] go = subst (λ w. Goes o before w (cs ++ [])) (sym (append_end g)) (subst (λ w. Goes o before g w) (sym (append_end cs)) go)
goes_from o before g cs (j ∷ js) go =
    let c = call_at o g j in
    let next = next_history o g j in
    let more : Goes o before (history_from o next js) ((cs ++ c ∷ []) ++ calls_from o next js) = goes_from o before next (cs ++ c ∷ []) js (goes_on o before g cs c go (call_next o g j)) in
    let history : history_from o next js ≡ history_from o g (j ∷ js) = append_assoc g (entries_of (c ∷ [])) (entries_of (calls_from o next js)) ∙ ap (λ w. g ++ w) (sym (entries_append (c ∷ []) (calls_from o next js))) in
    subst (λ w. Goes o before w (cs ++ c ∷ calls_from o next js)) history (subst (λ w. Goes o before (history_from o next js) w) (append_assoc cs (c ∷ []) (calls_from o next js)) more)

job_back : (cs : List ℕ) (ls : List LayerSeen) (j : Job) → job_of (deed_at cs ls j) ≡ j
job_back cs ls (Carry x p) = refl
job_back cs ls (Ask l) = refl

jobs_back : (o : Opening) (g : List Event) (js : List Job) → map (λ c. job_of c.deed) (calls_from o g js) ≡ js
jobs_back o g [] = refl
jobs_back o g (j ∷ js) = ap (λ w. w ∷ map (λ c. job_of c.deed) (calls_from o (next_history o g j) js)) (job_back o.controllers (replay o g) j) ∙ ap (λ w. j ∷ w) (jobs_back o (next_history o g j) js)

calls_split : (o : Opening) (g : List Event) (js ks : List Job) → calls_from o g (js ++ ks) ≡ calls_from o g js ++ calls_from o (history_from o g js) ks
calls_split o g [] ks = ap (λ w. calls_from o w ks) (sym (append_end g))
calls_split o g (j ∷ js) ks =
    let c = call_at o g j in
    let next = next_history o g j in
    let history : history_from o next js ≡ history_from o g (j ∷ js) = append_assoc g (entries_of (c ∷ [])) (entries_of (calls_from o next js)) ∙ ap (λ w. g ++ w) (sym (entries_append (c ∷ []) (calls_from o next js))) in
    ap (λ w. c ∷ w) (calls_split o next js ks ∙ ap (λ w. calls_from o next js ++ calls_from o w ks) history)

-- ---- a port's round

port_exists : (workers : ℕ) (p : PortSeen) (g : List Event) (jobs : Jobs) → AllRight (opening_of p) g → IsPortRound workers p (history_from (opening_of p) g (all_of jobs)) jobs (port_round_from p g (all_of jobs)) × AllRight (opening_of p) (history_from (opening_of p) g (all_of jobs))
port_exists workers p g jobs right =
    let o = opening_of p in
    let first = calls_from o g jobs.first in
    let later = calls_from o (history_from o g jobs.first) jobs.later in
    let split : calls_from o g (all_of jobs) ≡ first ++ later = calls_split o g jobs.first jobs.later in
    let h = history_from o g (all_of jobs) in
    let go : Goes o g h (calls_from o g (all_of jobs)) = goes_from o g g [] (all_of jobs) (goes_none o g right) in (
      round_of_goes workers p g h first later jobs (port_round_from p g (all_of jobs)) (subst (λ w. Goes o g h w) split go) (jobs_back o g jobs.first) (jobs_back o (history_from o g jobs.first) jobs.later)
          (ap (λ w. record { port = p.number; before = length g; after = length h; lines = lines_of p.controllers w (length g) (length h - length g) }) split),
      go.right,
    )

-- ---- all ports

pub begin_self : (hs : List (List Event)) → AllBegin hs hs
begin_self [] = tt
begin_self (h ∷ hs) = (prefix_self h, begin_self hs)

pub begin_trans : (fs gs hs : List (List Event)) → AllBegin fs gs → AllBegin gs hs → AllBegin fs hs
begin_trans [] [] [] a b = tt
begin_trans (f ∷ fs) (g ∷ gs) (h ∷ hs) a b = (prefix_trans f g h a.0 b.0, begin_trans fs gs hs a.1 b.1)
begin_trans [] [] (h ∷ hs) a b = absurd b
begin_trans [] (g ∷ gs) hs a b = absurd a
begin_trans (f ∷ fs) [] hs a b = absurd a
begin_trans (f ∷ fs) (g ∷ gs) [] a b = absurd b

pub ports_later : (s : Setting) (records : List Record) (told : List PortRound) (first next n : ℕ) (ps : List PortSeen) (hs ks : List (List Event)) (rs : List PortRound) → AllBegin hs ks → ArePortRounds s records told first next n ps hs rs → ArePortRounds s records told first next n ps ks rs
ports_later s records told first next n [] [] [] [] b a = tt
ports_later s records told first next n (p ∷ ps) (h ∷ hs) (k ∷ ks) (r ∷ rs) b a = (port_round_later s.workers p h k (jobs_of s records told first next n p.number) r b.0 a.0, ports_later s records told first next (suc n) ps hs ks rs b.1 a.1)
ports_later s records told first next n [] [] [] (r ∷ rs) b a = absurd a
ports_later s records told first next n [] [] (k ∷ ks) rs b a = absurd b
ports_later s records told first next n [] (h ∷ hs) ks rs b a = absurd a
ports_later s records told first next n (p ∷ ps) [] ks rs b a = absurd a
ports_later s records told first next n (p ∷ ps) (h ∷ hs) [] rs b a = absurd b
ports_later s records told first next n (p ∷ ps) (h ∷ hs) (k ∷ ks) [] b a = absurd a

-- the round of all ports after these histories
record PortsExist (s : Setting) (records : List Record) (told : List PortRound) (first next n : ℕ) (ps : List PortSeen) (gs : List (List Event)) : Type 0 where
  are : ArePortRounds s records told first next n ps (histories_from s records first next n ps gs) (port_rounds_from s records first next n ps gs)
  right : AreHistories ps (histories_from s records first next n ps gs)
  begin : AllBegin gs (histories_from s records first next n ps gs)
  before : map (λ r. r.before) (port_rounds_from s records first next n ps gs) ≡ map length gs
  after : map (λ r. r.after) (port_rounds_from s records first next n ps gs) ≡ map length (histories_from s records first next n ps gs)

ports_exist : (s : Setting) (records : List Record) (told : List PortRound) (first next n : ℕ) (ps : List PortSeen) (gs : List (List Event)) → s.local ≡ false → AreHistories ps gs → PortsExist s records told first next n ps gs
ports_exist s records told first next n [] [] alone a = record { are = tt; right = tt; begin = tt; before = refl; after = refl }
ports_exist s records told first next n (p ∷ ps) (g ∷ gs) alone a =
    let jobs = jobs_of s records [] first next n p.number in
    let h = history_from (opening_of p) g (all_of jobs) in
    let one = port_exists s.workers p g jobs a.0 in
    let rest = ports_exist s records told first next (suc n) ps gs alone a.1 in record {
      are = (subst (λ w. IsPortRound s.workers p h w (port_round_from p g (all_of jobs))) (jobs_untold s records [] told first next n p.number alone) one.0, rest.are);
      right = (one.1, rest.right);
      begin = ((entries_of (calls_from (opening_of p) g (all_of (jobs_of s records [] first next n p.number))), refl), rest.begin);
      before = ap (λ w. length g ∷ w) rest.before;
      after = ap (λ w. length (history_from (opening_of p) g (all_of (jobs_of s records [] first next n p.number))) ∷ w) rest.after;
    }
ports_exist s records told first next n [] (g ∷ gs) alone a = absurd a
ports_exist s records told first next n (p ∷ ps) [] alone a = absurd a

-- ---- all rounds

-- rounds at these cuts that follow these histories
pub record RoundsExist (s : Setting) (records : List Record) (gs : List (List Event)) (cuts : List ℕ) : Type 0 where
  pub histories : List (List Event)
  pub right : AreHistories (ports_of s.policy) histories
  pub begin : AllBegin gs histories
  pub are : AreRoundsAt s records histories cuts (rounds_from s records gs cuts)
  pub chained : AreChained (map length gs) (rounds_from s records gs cuts) (map length histories)

pub rounds_exist : (s : Setting) (records : List Record) (gs : List (List Event)) (cuts : List ℕ) → s.local ≡ false → AreHistories (ports_of s.policy) gs → RoundsExist s records gs cuts
rounds_exist s records gs [] alone a = record { histories = gs; right = a; begin = begin_self gs; are = tt; chained = refl }
rounds_exist s records gs (cut ∷ cuts) alone a =
    let next = end_before cuts (length records) in
    let ports = ports_exist s records (port_rounds_from s records cut next 0 (ports_of s.policy) gs) cut next 0 (ports_of s.policy) gs alone a in
    let hs = histories_from s records cut next 0 (ports_of s.policy) gs in
    let rest = rounds_exist s records hs cuts alone ports.right in record {
      histories = rest.histories;
      right = rest.right;
      begin = begin_trans gs hs rest.histories ports.begin rest.begin;
      are = (record { first_is = refl; loose = refl; ports = ports_later s records (port_rounds_from s records cut next 0 (ports_of s.policy) gs) cut next 0 (ports_of s.policy) hs rest.histories (port_rounds_from s records cut next 0 (ports_of s.policy) gs) rest.begin ports.are }, rest.are);
      chained = (ports.before, subst (λ w. AreChained w (rounds_from s records hs cuts) (map length rest.histories)) (sym ports.after) rest.chained);
    }

pub none_yet : (ps : List PortSeen) → AreHistories ps (map (λ p. []) ps)
none_yet [] = tt
none_yet (p ∷ ps) = (tt, none_yet ps)

pub no_counts : (ps : List PortSeen) → map length (map {A = PortSeen} {B = List Event} (λ p. []) ps) ≡ map (λ p. 0) ps
no_counts [] = refl
no_counts (p ∷ ps) = ap (λ w. 0 ∷ w) (no_counts ps)

pub always_rounds : AlwaysRounds
always_rounds s records cuts alone =
    let all = rounds_exist s records (map (λ p. []) (ports_of s.policy)) cuts alone (none_yet (ports_of s.policy)) in record {
      histories = all.histories;
      right = all.right;
      are = all.are;
      chained = subst (λ w. AreChained w (rounds_alone s records cuts) (map length all.histories)) (no_counts (ports_of s.policy)) all.chained;
    }
