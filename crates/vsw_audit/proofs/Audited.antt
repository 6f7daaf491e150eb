-- A whole report is replayed exactly where it tells the rounds of a run.
use Rattle.std.proofs.Common.{◌≡◌, ◌≤◌, ◌<◌, ◌+◌, ◌-◌, ◌==◌, Bool, true, false, if◌then◌else◌, ℕ, zero, suc, List, [], ◌∷◌, ◌++◌, length, map, take, nat_lt, refl, ap, sym, subst, ◌∙◌, arith, eq-eqb, length-append}
use Rattle.std.proofs.lemmas.Grind.{common_steps}
use mathlib.Core.List.{IsPrefix}
use Rattle.vsw_config.specs.declared.file.PortFile.{PortFile}
use Rattle.vsw_pcap.specs.declared.capture.Record.{Record}
use Rattle.vsw_policy.specs.Sound.{Each}
use Rattle.vsw_port.specs.declared.event.Event.{Event}
use Rattle.vsw_port.specs.Calls.{AreShares, Call, HasBytes, IsCall, IsOneOrder, ShowsAt, calls_of, entries_naming, entries_of, job_doer, named}
use Rattle.vsw_port.specs.History.{AllRight, Opening, replay}
use Rattle.vsw_port.specs.Order.{StandsOnce}
use Rattle.vsw_port.proofs.Calls.{calls_append, each_of_all, entries_append}
use Rattle.vsw_port.proofs.Fronts.{prefix_take, take_prefix}
use Rattle.vsw_port.proofs.Next.{count_within, naming_append, naming_calls}
use Rattle.vsw_promise.specs.Ports.{PortSeen, port_of, ports_of}
use Rattle.vsw_promise.specs.Told.{callers}
use Rattle.vsw_promise.proofs.Exists.{begin_self, begin_trans, no_counts, none_yet, ports_later}
use Rattle.vsw_promise.proofs.PortRounds.{take_length}
use Rattle.vsw_report.specs.declared.round.PortRound.{PortRound}
use Rattle.vsw_report.specs.declared.round.Round.{Round}
use Rattle.vsw_history_law.proofs.Values.{jobs_stand, right_front}
use Rattle.vsw_audit.specs.Audit.{AreKnown, AuditIsComplete, AuditIsSound, PortsReplay, ReplayDecides, RunReplays}
use Rattle.vsw_audit.specs.Check.{OneAnswer, checked}
use Rattle.vsw_promise.specs.Jobs.{Jobs, Setting, cuts, jobs_of}
use Rattle.vsw_audit.specs.Replay.{Replays, continued}
use Rattle.vsw_promise.specs.Rounds.{AllBegin, AreChained, AreHistories, ArePortRounds, AreRoundsAt, IsPortRound, end_before, opening_of}
use Rattle.vsw_audit.proofs.Replaying.{replay_is_sound, take_more}
use Rattle.vsw_audit.proofs.Replayed.{replay_is_complete, same_end}

lt_true : (m n : ℕ) → nat_lt m n ≡ true → m < n
lt_true m n e = grind (arith, common_steps)

lt_false : (m n : ℕ) → nat_lt m n ≡ false → n ≤ m
lt_false m n e = grind (arith, common_steps)

right_prefix : (o : Opening) (h k : List Event) → IsPrefix h k → AllRight o k → AllRight o h
right_prefix o h k p a = right_front o.controllers o.layers h p.0 (subst (AllRight o) (sym p.1) a)

-- ---- a port's round needs no more of its history than it tells of

-- not all entries are named among fewer of them
over : (ns : List ℕ) (m : ℕ) (es : List Event) (rest : ℕ → List Event) → m < length es → ((k : ℕ) → entries_naming ns k (take m es) ≡ entries_naming ns k es ++ rest k) → ⊥
over ns m [] rest lt f = omega (arith, lt)
over ns zero (e ∷ es) rest lt f =
    let own : (named ns e == named ns e) ≡ true = eq-eqb (named ns e) (named ns e) refl in
    let is : [] ≡ e ∷ (entries_naming ns (named ns e) es ++ rest (named ns e)) = f (named ns e) ∙ rw own refl in cc is
over ns (suc m) (e ∷ es) rest lt f = over ns m es rest (omega (arith, lt)) (λ k. by k (named ns e == k) (f k))
  where
    by : (k : ℕ) (b : Bool) → (if b then e ∷ entries_naming ns k (take m es) else entries_naming ns k (take m es)) ≡ (if b then e ∷ entries_naming ns k es else entries_naming ns k es) ++ rest k → entries_naming ns k (take m es) ≡ entries_naming ns k es ++ rest k
    by k true is = cc is
    by k false is = is

bytes_sooner : (o : Opening) (h k : List Event) (cs : List Call) → IsPrefix h k → Each (IsCall o h) cs → Each (HasBytes o k) cs → Each (HasBytes o h) cs
bytes_sooner o h k [] p i b = tt
bytes_sooner o h k (c ∷ cs) p i b = (subst (λ w. ShowsAt (replay o w) c.deed) (prefix_take h k c.count p (count_within o h c i.0)) b.0, bytes_sooner o h k cs p i.1 b.1)

-- the "before" commands are told of
reached : (workers : ℕ) (p : PortSeen) (k : List Event) (jobs : Jobs) (r : PortRound) (i : IsPortRound workers p k jobs r) → ¬ (r.after < r.before + length (entries_of i.first))
reached workers p k jobs r i lt = over ns m es (λ n. entries_of (calls_of ns n i.later)) (omega (arith, lt, i.low)) named_all
  where
    ns : List ℕ
    ns = p.controllers

    es : List Event
    es = entries_of i.first

    m : ℕ
    m = r.after - r.before

    start : List Event
    start = take r.before k

    low : length start ≡ r.before
    low = take_length r.before k (omega (arith, i.low, i.high))

    long : length (take (r.before + length es) k) ≡ r.before + length es
    long = ap length i.first_entries ∙ (length-append start es ∙ ap (λ n. n + length es) low)

    split : take r.after k ≡ start ++ take m es
    split =
        let sum : r.after ≡ length start + m = omega (arith, low, i.low) in
        prefix_take (take (r.before + length es) k) k r.after (take_prefix (r.before + length es) k) (omega (arith, long, lt)) ∙ (ap (take r.after) i.first_entries ∙ (ap (λ n. take n (start ++ es)) sum ∙ take_more start es m))

    named_all : (n : ℕ) → entries_naming ns n (take m es) ≡ entries_naming ns n es ++ entries_of (calls_of ns n i.later)
    named_all n = same_end (entries_naming ns n start) (entries_naming ns n (take m es)) (entries_naming ns n es ++ entries_of (calls_of ns n i.later))
        (sym (naming_append ns n start (take m es)) ∙ (ap (entries_naming ns n) (sym split) ∙ ((i.shares n).entries ∙ ap (λ w. entries_naming ns n start ++ w) (ap entries_of (calls_append ns n i.first i.later) ∙ (entries_append (calls_of ns n i.first) (calls_of ns n i.later) ∙ ap (λ w. w ++ entries_of (calls_of ns n i.later)) (sym (naming_calls ns n i.first)))))))

not_less : (m n : ℕ) → ¬ (m < n) → n ≤ m
not_less m n f = by (nat_lt m n) refl
  where
    by : (b : Bool) → nat_lt m n ≡ b → n ≤ m
    by true e = absurd (f (lt_true m n e))
    by false e = lt_false m n e

round_shorter : (workers : ℕ) (p : PortSeen) (k : List Event) (jobs : Jobs) (r : PortRound) → IsPortRound workers p k jobs r → IsPortRound workers p (take r.after k) jobs r
round_shorter workers p k jobs r i = record {
  port = i.port;
  low = i.low;
  high = omega (arith, size);
  first = i.first;
  later = i.later;
  first_jobs = i.first_jobs;
  later_jobs = i.later_jobs;
  shares = subst (λ w. AreShares o w (take r.after h) (i.first ++ i.later)) start (subst (λ w. AreShares o (take r.before k) w (i.first ++ i.later)) end i.shares);
  bytes = bytes_sooner o h k (i.first ++ i.later) front (each_of_all (IsCall o h) p.controllers (i.first ++ i.later) (λ n. (i.shares n).each)) i.bytes;
  first_entries = sym (prefix_take h k (r.before + length (entries_of i.first)) front (omega (arith, size, not_less r.after (r.before + length (entries_of i.first)) (reached workers p k jobs r i)))) ∙ (i.first_entries ∙ ap (λ w. w ++ entries_of i.first) start);
  later_counts = i.later_counts;
  one = λ e. subst (λ w. IsOneOrder w (take r.after h) (i.first ++ i.later)) start (subst (λ w. IsOneOrder (take r.before k) w (i.first ++ i.later)) end (i.one e));
  lines = i.lines;
}
  where
    o : Opening
    o = opening_of p

    h : List Event
    h = take r.after k

    front : IsPrefix h k
    front = take_prefix r.after k

    size : length h ≡ r.after
    size = take_length r.after k i.high

    start : take r.before k ≡ take r.before h
    start = prefix_take h k r.before front (omega (arith, size, i.low))

    end : take r.after k ≡ take r.after h
    end = prefix_take h k r.after front (omega (arith, size))

-- ---- sound

record AreTold (s : Setting) (records : List Record) (told : List PortRound) (first next i : ℕ) (ps : List PortSeen) (hs gs : List (List Event)) (rs : List PortRound) : Type 0 where
  are : ArePortRounds s records told first next i ps gs rs
  right : AreHistories ps gs
  begin : AllBegin hs gs
  before : map (λ r. r.before) rs ≡ map length hs
  after : map (λ r. r.after) rs ≡ map length gs

cons_both : (x y : ℕ) (xs ys : List ℕ) → x ≡ y → xs ≡ ys → x ∷ xs ≡ y ∷ ys
cons_both x y xs ys e f = ap (λ w. w ∷ xs) e ∙ ap (λ w. y ∷ w) f

are_told : (s : Setting) (records : List Record) (told : List PortRound) (first next i : ℕ) (ps : List PortSeen) (hs gs : List (List Event)) (rs : List PortRound) → AreHistories ps hs → PortsReplay s records told first next i ps hs gs rs → AreTold s records told first next i ps hs gs rs
are_told s records told first next i [] [] [] [] a w = record { are = tt; right = tt; begin = tt; before = refl; after = refl }
are_told s records told first next i (p ∷ ps) (h ∷ hs) (g ∷ gs) (r ∷ rs) a w =
    let one = replay_is_sound s.workers p h (jobs_of s records told first next i p.number) r a.0 w.0 in
    let rest = are_told s records told first next (suc i) ps hs gs rs a.1 w.2 in
    let is : continued h w.0.calls ≡ g = sym w.1 in record {
      are = (subst (λ k. IsPortRound s.workers p k (jobs_of s records told first next i p.number) r) is one.0, rest.are);
      right = (subst (AllRight (opening_of p)) is one.1, rest.right);
      begin = (subst (λ k. IsPrefix h k) is (entries_of w.0.calls, refl), rest.begin);
      before = cons_both r.before (length h) (map (λ r. r.before) rs) (map length hs) w.0.low rest.before;
      after = cons_both r.after (length g) (map (λ r. r.after) rs) (map length gs) (w.0.high ∙ ap length is) rest.after;
    }
are_told s records told first next i [] [] [] (r ∷ rs) a w = absurd w
are_told s records told first next i [] [] (g ∷ gs) rs a w = absurd w
are_told s records told first next i [] (h ∷ hs) gs rs a w = absurd w
are_told s records told first next i (p ∷ ps) [] gs rs a w = absurd w
are_told s records told first next i (p ∷ ps) (h ∷ hs) [] rs a w = absurd w
are_told s records told first next i (p ∷ ps) (h ∷ hs) (g ∷ gs) [] a w = absurd w

record RunTold (s : Setting) (records : List Record) (hs : List (List Event)) (cuts : List ℕ) (gs : List (List Event)) (rounds : List Round) : Type 0 where
  are : AreRoundsAt s records gs cuts rounds
  right : AreHistories (ports_of s.policy) gs
  begin : AllBegin hs gs
  chained : AreChained (map length hs) rounds (map length gs)

run_told : (s : Setting) (records : List Record) (hs : List (List Event)) (cuts : List ℕ) (gs : List (List Event)) (rounds : List Round) → AreHistories (ports_of s.policy) hs → RunReplays s records hs cuts gs rounds → RunTold s records hs cuts gs rounds
run_told s records hs [] gs [] right d = record { are = tt; right = subst (AreHistories (ports_of s.policy)) (sym d) right; begin = subst (AllBegin hs) (sym d) (begin_self hs); chained = ap (map length) d }
run_told s records hs (cut ∷ cuts) gs (r ∷ rs) right d =
    let next = end_before cuts (length records) in
    let ms = d.0 in
    let one = are_told s records r.ports cut next 0 (ports_of s.policy) hs ms r.ports right d.1.ports in
    let rest = run_told s records ms cuts gs rs one.right d.2 in record {
      are = (record { first_is = d.1.first_is; loose = d.1.loose; ports = ports_later s records r.ports cut next 0 (ports_of s.policy) ms gs r.ports rest.begin one.are }, rest.are);
      right = rest.right;
      begin = begin_trans hs ms gs one.begin rest.begin;
      chained = (one.before, subst (λ w. AreChained w rs (map length gs)) (sym one.after) rest.chained);
    }
run_told s records hs [] gs (r ∷ rs) right d = absurd d
run_told s records hs (cut ∷ cuts) gs [] right d = absurd d

pub audit_is_sound : AuditIsSound
audit_is_sound s records cuts rounds gs d =
    let t = run_told s records (map (λ p. []) (ports_of s.policy)) cuts gs rounds (none_yet (ports_of s.policy)) d in
    record { histories = gs; right = t.right; are = t.are; chained = subst (λ w. AreChained w rounds (map length gs)) (no_counts (ports_of s.policy)) t.chained }

-- ---- complete

-- the fronts of histories, of so many entries each
abbrev fronts : List ℕ → List (List Event) → List (List Event)
fronts (n ∷ ns) (h ∷ hs) = take n h ∷ fronts ns hs
fronts _ _ = []

abbrev TheyKnow : List ℕ → List PortSeen → Type 0
TheyKnow ns ps = Each (λ p. p.controllers ≡ ns) ps

ports_replay : (s : Setting) (records : List Record) (told : List PortRound) (first next i : ℕ) (ps : List PortSeen) (hs : List (List Event)) (rs : List PortRound) → AreKnown s records → TheyKnow s.policy.controllers ps → AreHistories ps hs → ArePortRounds s records told first next i ps hs rs
    → PortsReplay s records told first next i ps (fronts (map (λ r. r.before) rs) hs) (fronts (map (λ r. r.after) rs) hs) rs
ports_replay s records told first next i [] [] [] known same right a = tt
ports_replay s records told first next i (p ∷ ps) (h ∷ hs) (r ∷ rs) known same right a =
    let jobs = jobs_of s records told first next i p.number in
    let g : List Event = take r.after h in
    let size : length g ≡ r.after = take_length r.after h a.0.high in
    let ours : Each (λ j. StandsOnce (job_doer p.controllers j) (callers p.controllers)) (jobs.first ++ jobs.later) = subst (λ ns. Each (λ j. StandsOnce (job_doer ns j) (callers ns)) (jobs.first ++ jobs.later)) (sym same.0) (known told first next i p.number) in
    let w = replay_is_complete s.workers p g jobs r (right_prefix (opening_of p) g h (take_prefix r.after h) right.0) (sym size) ours (round_shorter s.workers p h jobs r a.0) in
    let start : take r.before g ≡ take r.before h = sym (prefix_take g h r.before (take_prefix r.after h) (omega (arith, size, a.0.low))) in
    let moved : (v : Replays s.workers p (take r.before h) jobs r) × (g ≡ continued (take r.before h) v.calls) = subst (λ k. (v : Replays s.workers p k jobs r) × (g ≡ continued k v.calls)) start (w.0, w.1) in
    (moved.0, moved.1, ports_replay s records told first next (suc i) ps hs rs known same.1 right.1 a.1)
ports_replay s records told first next i [] [] (r ∷ rs) known same right a = absurd a
ports_replay s records told first next i [] (h ∷ hs) rs known same right a = absurd right
ports_replay s records told first next i (p ∷ ps) [] rs known same right a = absurd right
ports_replay s records told first next i (p ∷ ps) (h ∷ hs) [] known same right a = absurd a

run_replays : (s : Setting) (records : List Record) (hs : List (List Event)) (counts : List ℕ) (cuts last : List ℕ) (rounds : List Round) → AreKnown s records → TheyKnow s.policy.controllers (ports_of s.policy) → AreHistories (ports_of s.policy) hs → AreRoundsAt s records hs cuts rounds → AreChained counts rounds last
    → RunReplays s records (fronts counts hs) cuts (fronts last hs) rounds
run_replays s records hs counts [] last [] known same right a c = ap (λ w. fronts w hs) c
run_replays s records hs counts (cut ∷ cuts) last (r ∷ rs) known same right a c =
    let next = end_before cuts (length records) in
    let here = ports_replay s records r.ports cut next 0 (ports_of s.policy) hs r.ports known same right a.0.ports in (
      fronts (map (λ p. p.after) r.ports) hs,
      record { first_is = a.0.first_is; loose = a.0.loose; ports = subst (λ w. PortsReplay s records r.ports cut next 0 (ports_of s.policy) (fronts w hs) (fronts (map (λ p. p.after) r.ports) hs) r.ports) c.0 here },
      run_replays s records hs (map (λ p. p.after) r.ports) cuts last rs known same right a.1 c.1,
    )
run_replays s records hs counts [] last (r ∷ rs) known same right a c = absurd a
run_replays s records hs counts (cut ∷ cuts) last [] known same right a c = absurd a

know_all : (ns : List ℕ) (ps : List PortFile) → TheyKnow ns (map (port_of ns) ps)
know_all ns [] = tt
know_all ns (p ∷ ps) = (refl, know_all ns ps)

none_of_each : (ps : List PortSeen) (hs : List (List Event)) → AreHistories ps hs → fronts (map (λ p. 0) ps) hs ≡ map (λ p. []) ps
none_of_each [] [] a = refl
none_of_each (p ∷ ps) (h ∷ hs) a = ap (λ w. [] ∷ w) (none_of_each ps hs a.1)
none_of_each [] (h ∷ hs) a = absurd a
none_of_each (p ∷ ps) [] a = absurd a

pub audit_is_complete : AuditIsComplete
audit_is_complete s records cuts rounds known a =
    let run = run_replays s records a.histories (map (λ p. 0) (ports_of s.policy)) cuts (map length a.histories) rounds known (know_all s.policy.controllers s.policy.ports) a.right a.are a.chained in
    (fronts (map length a.histories) a.histories, subst (λ w. RunReplays s records w cuts (fronts (map length a.histories) a.histories) rounds) (none_of_each (ports_of s.policy) a.histories a.right) run)

pub replay_decides : ReplayDecides
replay_decides workers policy commands records rounds served =
    let s : Setting = checked workers policy commands in (
      (λ a. audit_is_complete s records (cuts commands (length records)) rounds (λ told first next place number. jobs_stand s records told first next place number served) a),
      (λ r. audit_is_sound s records (cuts commands (length records)) rounds r.0 r.1),
    )

pub one_answer : OneAnswer
one_answer workers policy commands records rounds true true a b = refl
one_answer workers policy commands records rounds false false a b = refl
one_answer workers policy commands records rounds true false a b = sym (b.back (a.yes refl))
one_answer workers policy commands records rounds false true a b = a.back (b.yes refl)
