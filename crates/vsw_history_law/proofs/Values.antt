-- What one worker tells is one value.
use Rattle.std.proofs.Common.{◌≡◌, ◌<◌, ◌≤◌, ℕ, suc, ◌+◌, ◌-◌, ◌==◌, ◌&&◌, ◌||◌, not, Bool, true, false, if◌then◌else◌, List, [], ◌∷◌, ◌++◌, length, map, filter, take, refl, ap, sym, ◌∙◌, subst, arith, eq-eqb}
use Rattle.std.specs.List.{list_any}
use Rattle.std.proofs.lemmas.Nat.{mod_below}
use mathlib.Core.List.{IsPrefix}
use Rattle.vsw_base.specs.Frame.{Parts}
use Rattle.vsw_commandfile.specs.declared.line.Line.{Line}
use Rattle.vsw_header.specs.FlowSum.{flow_sum_of}
use Rattle.vsw_pcap.specs.declared.capture.Record.{Record}
use Rattle.vsw_policy.specs.Sound.{Each, is_listed}
use Rattle.vsw_config.specs.declared.file.PortFile.{PortFile}
use Rattle.vsw_promise.specs.Ports.{PortSeen, port_of, ports_of}
use Rattle.vsw_port.specs.declared.event.Event.{Event}
use Rattle.vsw_report.specs.declared.round.PortRound.{PortRound}
use Rattle.vsw_report.specs.declared.round.Round.{Round}
use Rattle.vsw_port.specs.Calls.{Job, Ask, Call, job_of, job_doer, doer, calls_of, InOrder, IsCall, HasBytes, ShowsAt, entries_of, IsOneOrder}
use Rattle.vsw_port.specs.History.{Opening, replay, after, AreRight, AllRight}
use Rattle.vsw_policy.specs.Layer.{LayerSeen}
use Rattle.vsw_promise.specs.Jobs.{Setting, Jobs, at_place, cuts, jobs_of, placed_packets, worker_of, loose_among, macs_of, packets_between}
use Rattle.vsw_port.specs.Order.{StandsOnce}
use Rattle.vsw_promise.specs.Rounds.{opening_of, IsPortRound, ArePortRounds, AreRoundsAt, AreChained, AreHistories, end_before}
use Rattle.vsw_promise.specs.Told.{callers, line_of, what_of, in_told_order, lines_of}
use Rattle.vsw_report.specs.Short.{tells_short, is_short_port, is_short_round}
use Rattle.vsw_promise.specs.Alone.{calls_from, history_from, port_round_from, all_of, port_rounds_from, histories_from, rounds_from}
use Rattle.vsw_history_law.specs.Law.{AreServed, OneValue}
use Rattle.vsw_port.proofs.Fronts.{prefix_take, take_prefix}
use Rattle.vsw_port.proofs.Calls.{each_append, each_of_all}
use Rattle.vsw_history_law.proofs.Callers.{worker_once, controller_once}
use Rattle.vsw_port.proofs.Next.{count_within}
use Rattle.vsw_history_law.proofs.Telling.{told_calls}
use Rattle.vsw_history_law.proofs.Reports.{doer_job, each_filter, map_each, each_map, round_jobs}
use Rattle.vsw_history_law.proofs.Ones.{Runs, runs_of, calls_are}
use Rattle.vsw_promise.proofs.Handed.{each_packet_at, jobs_untold}
use Rattle.vsw_promise.proofs.PortRounds.{take_length}

-- ---- memory wasn't wanting

or_none : (a b : Bool) → (a || b) ≡ false → (a ≡ false) × (b ≡ false)
or_none true b e = absurd (cc e)
or_none false b e = (refl, e)

pub any_none : {A : Type 0} (p : A → Bool) (xs : List A) → list_any p xs ≡ false → Each (λ x. p x ≡ false) xs
any_none p [] e = tt
any_none p (x ∷ xs) e = let t = or_none (p x) (list_any p xs) e in (t.0, any_none p xs t.1)

each_doer : (P : Call → Type 0) (ns : List ℕ) (cs : List Call) → Each (λ c. StandsOnce (doer ns c.deed) (callers ns)) cs → ((n : ℕ) → StandsOnce n (callers ns) → Each P (calls_of ns n cs)) → Each P cs
each_doer P ns [] s e = tt
each_doer P ns (c ∷ cs) s e = (own (e (doer ns c.deed) s.0), each_doer P ns cs s.1 (λ n t. rest (doer ns c.deed == n) (calls_of ns n cs) (e n t)))
  where
    rest : (b : Bool) (ds : List Call) → Each P (if b then c ∷ ds else ds) → Each P ds
    rest true ds p = p.1
    rest false ds p = p

    own : Each P (calls_of ns (doer ns c.deed) (c ∷ cs)) → P c
    own p = (subst (λ b. Each P (if b then c ∷ calls_of ns (doer ns c.deed) cs else calls_of ns (doer ns c.deed) cs)) (eq-eqb (doer ns c.deed) (doer ns c.deed) refl) p).0

pub order_at : (workers : ℕ) (p : PortSeen) (h : List Event) (jobs : Jobs) (r : PortRound) (i : IsPortRound workers p h jobs r) (k : ℕ) → InOrder r.before (calls_of p.controllers k (i.first ++ i.later)) (r.before + (r.after - r.before))
order_at workers p h jobs r i k =
    let calls = calls_of p.controllers k (i.first ++ i.later) in
    let low : length (take r.before h) ≡ r.before = take_length r.before h (omega (arith, i.low, i.high)) in
    let high : length (take r.after h) ≡ r.before + (r.after - r.before) = take_length r.after h i.high ∙ omega (arith, i.low) in
    subst (λ n. InOrder n calls (r.before + (r.after - r.before))) low (subst (λ n. InOrder (length (take r.before h)) calls n) high (i.shares k).in_order)

doers_stand : (ns : List ℕ) (cs : List Call) → Each (λ j. StandsOnce (job_doer ns j) (callers ns)) (map (λ c. job_of c.deed) cs) → Each (λ c. StandsOnce (doer ns c.deed) (callers ns)) cs
doers_stand ns [] e = tt
doers_stand ns (c ∷ cs) e = (subst (λ n. StandsOnce n (callers ns)) (doer_job ns c.deed) e.0, doers_stand ns cs e.1)

-- the callers of these jobs are those of the port
abbrev pub AreCallers : List ℕ → List Job → Type 0
AreCallers ns js = Each (λ j. StandsOnce (job_doer ns j) (callers ns)) js

pub plenty : (workers : ℕ) (p : PortSeen) (h : List Event) (jobs : Jobs) (r : PortRound) (i : IsPortRound workers p h jobs r) → AreCallers p.controllers (jobs.first ++ jobs.later) → is_short_port r ≡ false → Each (λ c. tells_short (what_of c.deed) ≡ false) (i.first ++ i.later)
plenty workers p h jobs r i stand short =
    let ns = p.controllers in
    let calls = i.first ++ i.later in
    let told : Each (λ c. tells_short (what_of c.deed) ≡ false) (in_told_order ns calls r.before (r.after - r.before)) = map_each (λ l. tells_short l.what ≡ false) line_of (in_told_order ns calls r.before (r.after - r.before)) (subst (Each (λ l. tells_short l.what ≡ false)) i.lines (any_none (λ l. tells_short l.what) r.lines short)) in
    each_doer (λ c. tells_short (what_of c.deed) ≡ false) ns calls (doers_stand ns calls (subst (AreCallers ns) (sym (round_jobs workers p h jobs r i)) stand))
    (λ n t. subst (Each (λ c. tells_short (what_of c.deed) ≡ false)) (told_calls ns calls r.before (r.after - r.before) n t (order_at workers p h jobs r i n)) (each_filter (λ c. tells_short (what_of c.deed) ≡ false) (λ c. doer ns c.deed == n) (in_told_order ns calls r.before (r.after - r.before)) told))

-- ---- a port's round

pub right_front : (cs : List ℕ) (ls : List LayerSeen) (h k : List Event) → AreRight cs ls (h ++ k) → AreRight cs ls h
right_front cs ls [] k a = tt
right_front cs ls (e ∷ h) k a = (a.0, right_front cs (after cs ls e) h k a.1)

right_prefix : (o : Opening) (h k : List Event) → IsPrefix h k → AllRight o k → AllRight o h
right_prefix o h k p a = right_front o.controllers o.layers h p.0 (subst (AllRight o) (sym p.1) a)

bytes_sooner : (o : Opening) (h k : List Event) (cs : List Call) → IsPrefix h k → Each (IsCall o h) cs → Each (HasBytes o k) cs → Each (HasBytes o h) cs
bytes_sooner o h k [] p e b = tt
bytes_sooner o h k (c ∷ cs) p e b = (subst (λ w. ShowsAt (replay o w) c.deed) (prefix_take h k c.count p (count_within o h c e.0)) b.0, bytes_sooner o h k cs p e.1 b.1)

port_value : (p : PortSeen) (h : List Event) (jobs : Jobs) (r : PortRound) → IsPortRound 1 p h jobs r → AllRight (opening_of p) h → AreCallers p.controllers (jobs.first ++ jobs.later) → is_short_port r ≡ false
    → (r ≡ port_round_from p (take r.before h) (all_of jobs)) × (take r.after h ≡ history_from (opening_of p) (take r.before h) (all_of jobs))
port_value p h jobs r i right stand short =
    let o = opening_of p in
    let calls = i.first ++ i.later in
    let g = take r.before h in
    let k = take r.after h in
    let one : IsOneOrder g k calls = i.one refl in
    let each : Each (IsCall o k) calls = each_of_all (IsCall o k) p.controllers calls (λ n. (i.shares n).each) in
    let runs : Runs o g calls = runs_of o g k calls (right_prefix o k h (take_prefix r.after h) right) one.entries one.in_order each (bytes_sooner o k h calls (take_prefix r.after h) each i.bytes) in
    let are : calls ≡ calls_from o g (all_of jobs) = calls_are o g calls runs (plenty 1 p h jobs r i stand short) ∙ ap (calls_from o g) (round_jobs 1 p h jobs r i) in
    let grown : k ≡ history_from o g (all_of jobs) = one.entries ∙ ap (λ w. g ++ entries_of w) are in
    let low : r.before ≡ length g = sym (take_length r.before h (omega (arith, i.low, i.high))) in
    let high : r.after ≡ length (history_from o g (all_of jobs)) = sym (take_length r.after h i.high) ∙ ap length grown in (
      λ j. record {
        port = i.port j;
        before = low j;
        after = high j;
        lines = (i.lines ∙ λ m. lines_of p.controllers (are m) (low m) (high m - low m)) j;
      },
      grown,
    )

-- ---- all ports

-- the first so many entries of each history
abbrev fronts : List ℕ → List (List Event) → List (List Event)
fronts (n ∷ ns) (h ∷ hs) = take n h ∷ fronts ns hs
fronts _ _ = []

-- the jobs of all ports are those of their callers
abbrev AllCallers : Setting → List Record → ℕ → ℕ → ℕ → List PortSeen → Type 0
AllCallers s records first next n [] = Unit {0}
AllCallers s records first next n (p ∷ ps) = AreCallers p.controllers (all_of (jobs_of s records [] first next n p.number)) × AllCallers s records first next (suc n) ps

ports_value : (s : Setting) (records : List Record) (told : List PortRound) (first next n : ℕ) (ps : List PortSeen) (hs : List (List Event)) (rs : List PortRound) → s.local ≡ false → s.workers ≡ 1 → ArePortRounds s records told first next n ps hs rs → AreHistories ps hs → AllCallers s records first next n ps → Each (λ r. is_short_port r ≡ false) rs
    → (rs ≡ port_rounds_from s records first next n ps (fronts (map (λ r. r.before) rs) hs)) × (fronts (map (λ r. r.after) rs) hs ≡ histories_from s records first next n ps (fronts (map (λ r. r.before) rs) hs))
ports_value s records told first next n [] [] [] alone w a right stand short = (refl, refl)
ports_value s records told first next n (p ∷ ps) (h ∷ hs) (r ∷ rs) alone w a right stand short =
    let jobs = jobs_of s records [] first next n p.number in
    let is : IsPortRound s.workers p h jobs r = subst (λ js. IsPortRound s.workers p h js r) (jobs_untold s records told [] first next n p.number alone) a.0 in
    let one = port_value p h jobs r (subst (λ k. IsPortRound k p h jobs r) w is) right.0 stand.0 short.0 in
    let rest = ports_value s records told first next (suc n) ps hs rs alone w a.1 right.1 stand.1 short.1 in
    (λ i. one.0 i ∷ rest.0 i, λ i. one.1 i ∷ rest.1 i)
ports_value s records told first next n [] [] (r ∷ rs) alone w a right stand short = absurd a
ports_value s records told first next n [] (h ∷ hs) rs alone w a right stand short = absurd a
ports_value s records told first next n (p ∷ ps) [] rs alone w a right stand short = absurd a
ports_value s records told first next n (p ∷ ps) (h ∷ hs) [] alone w a right stand short = absurd a

rounds_value : (s : Setting) (records : List Record) (hs : List (List Event)) → s.local ≡ false → s.workers ≡ 1 → AreHistories (ports_of s.policy) hs → ((first next : ℕ) → AllCallers s records first next 0 (ports_of s.policy))
    → (cuts : List ℕ) (rounds : List Round) (counts last : List ℕ) → AreRoundsAt s records hs cuts rounds → AreChained counts rounds last → Each (λ r. is_short_round r ≡ false) rounds → rounds ≡ rounds_from s records (fronts counts hs) cuts
rounds_value s records hs alone w right stand [] [] counts last a c short = refl
rounds_value s records hs alone w right stand (cut ∷ cuts) (r ∷ rs) counts last a c short =
    let next = end_before cuts (length records) in
    let ports = ports_value s records r.ports cut next 0 (ports_of s.policy) hs r.ports alone w a.0.ports right (stand cut next) (any_none is_short_port r.ports short.0) in
    let begins : fronts (map (λ q. q.before) r.ports) hs ≡ fronts counts hs = ap (λ ns. fronts ns hs) c.0 in
    let rest = rounds_value s records hs alone w right stand cuts rs (map (λ q. q.after) r.ports) last a.1 c.1 short.1 in
    let round : r ≡ record { first = cut; ports = port_rounds_from s records cut next 0 (ports_of s.policy) (fronts counts hs); loose = loose_among (macs_of s.policy) (packets_between records cut next) } =
    (λ i. record { first = a.0.first_is i; ports = (ports.0 ∙ ap (port_rounds_from s records cut next 0 (ports_of s.policy)) begins) i; loose = a.0.loose i }) in
    let more : rs ≡ rounds_from s records (histories_from s records cut next 0 (ports_of s.policy) (fronts counts hs)) cuts = rest ∙ ap (λ g. rounds_from s records g cuts) (ports.1 ∙ ap (histories_from s records cut next 0 (ports_of s.policy)) begins) in
    λ i. round i ∷ more i
rounds_value s records hs alone w right stand [] (r ∷ rs) counts last a c short = absurd a
rounds_value s records hs alone w right stand (cut ∷ cuts) [] counts last a c short = absurd a

-- ---- who may call

worker_stands : (ns : List ℕ) (workers : ℕ) (p : Parts) → 0 < workers → workers ≤ 16 → StandsOnce (worker_of workers p) (callers ns)
worker_stands ns workers p least most = worker_once ns (worker_of workers p) (omega (arith, mod_below (flow_sum_of p.stack) workers least, most))

lines_stand : (ns : List ℕ) (ls : List Line) → Each (λ l. is_listed ns l.controller ≡ true) ls → Each (λ l. StandsOnce (job_doer ns (Ask l)) (callers ns)) ls
lines_stand ns [] e = tt
lines_stand ns (l ∷ ls) e = (controller_once ns l.controller e.0, lines_stand ns ls e.1)

asked_stand : (ns : List ℕ) (p : Line → Bool) (ls : List Line) → Each (λ l. is_listed ns l.controller ≡ true) ls → AreCallers ns (map Ask (filter p ls))
asked_stand ns p ls e = each_map (λ j. StandsOnce (job_doer ns j) (callers ns)) Ask (filter p ls) (each_filter (λ l. StandsOnce (job_doer ns (Ask l)) (callers ns)) p ls (lines_stand ns ls e))

-- all jobs are those of a port's callers, for 1 to 16 workers
pub jobs_stand : (s : Setting) (records : List Record) (told : List PortRound) (first next place number : ℕ) → AreServed s → AreCallers s.policy.controllers (all_of (jobs_of s records told first next place number))
jobs_stand s records told first next place number served =
    let ns = s.policy.controllers in
    let P : Job → Type 0 = λ j. StandsOnce (job_doer ns j) (callers ns) in
    let jobs = jobs_of s records told first next place number in
    each_append P jobs.first jobs.later (asked_stand ns (λ l. (l.at == first) && (l.port == number) && not l.during) s.commands served.asked)
    (each_append P (map Ask (filter (λ l. (l.at == first) && (l.port == number) && l.during) s.commands)) (at_place place (placed_packets s.workers s.local (macs_of s.policy) told (packets_between records first next)))
    (asked_stand ns (λ l. (l.at == first) && (l.port == number) && l.during) s.commands served.asked)
    (each_packet_at P s.workers s.local (macs_of s.policy) told place (packets_between records first next) (λ n moment frame to parts. worker_stands ns s.workers frame served.least served.most)))

all_stand : (s : Setting) (records : List Record) (first next n : ℕ) (fs : List PortFile) → AreServed s → AllCallers s records first next n (map (port_of s.policy.controllers) fs)
all_stand s records first next n [] served = tt
all_stand s records first next n (f ∷ fs) served = (jobs_stand s records [] first next n f.port served, all_stand s records first next (suc n) fs served)

no_fronts : (ps : List PortSeen) (hs : List (List Event)) → AreHistories ps hs → fronts (map (λ p. 0) ps) hs ≡ map (λ p. []) ps
no_fronts [] [] a = refl
no_fronts (p ∷ ps) (h ∷ hs) a = ap (λ w. [] ∷ w) (no_fronts ps hs a.1)
no_fronts [] (h ∷ hs) a = absurd a
no_fronts (p ∷ ps) [] a = absurd a

pub one_value : OneValue
one_value s records cuts rounds alone w e run short =
    rounds_value s records run.histories alone w run.right (λ first next. all_stand s records first next 0 s.policy.ports (record { least = omega (arith, w); most = omega (arith, w); asked = e })) cuts rounds (map (λ p. 0) (ports_of s.policy)) (map length run.histories) run.are run.chained (any_none is_short_round rounds short)
    ∙ ap (λ g. rounds_from s records g cuts) (no_fronts (ports_of s.policy) run.histories run.right)
