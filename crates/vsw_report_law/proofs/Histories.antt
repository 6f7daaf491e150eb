-- Rounds fix the histories: each caller's calls are its lines and its jobs, and each entry is a call of the round that tells it.
use Rattle.std.proofs.Common.{◌≡◌, ◌≤◌, ◌<◌, ◌+◌, ◌-◌, ◌==◌, ◌&&◌, Bool, true, false, true≢false, if◌then◌else◌, ℕ, zero, suc, List, [], ◌∷◌, ◌++◌, length, map, take, Some, nat_lt, refl, ap, sym, subst, ◌∙◌, arith, ne_eqb}
use Rattle.std.proofs.lemmas.Grind.{common_steps}
use Rattle.std.specs.List.{slice_get}
use native.Mathlib.Decide.{ℕ_discrete}
use Rattle.vsw_config.specs.declared.file.PortFile.{PortFile}
use Rattle.vsw_history_law.proofs.Callers.{eqb_is}
use Rattle.vsw_history_law.proofs.Entries.{each_entry_is_told, map_filter, told_at}
use Rattle.vsw_history_law.proofs.Reports.{each_filter, jobs_of_calls, lines_are_calls, map_at, port_at, round_jobs}
use Rattle.vsw_history_law.proofs.Values.{jobs_stand}
use Rattle.vsw_history_law.specs.Law.{AreServed, entry_lines}
use Rattle.vsw_pcap.specs.declared.capture.Record.{Record}
use Rattle.vsw_policy.specs.Sound.{Each}
use Rattle.vsw_port.proofs.Calls.{each_of_all}
use Rattle.vsw_port.specs.Calls.{Asked, Call, Carried, Deed, Entry, IsCall, Job, Read, Short, calls_of, event_of, job_doer, job_of, jobs_by}
use Rattle.vsw_port.specs.History.{Opening}
use Rattle.vsw_port.specs.Order.{StandsOnce}
use Rattle.vsw_port.specs.declared.event.Event.{Event}
use Rattle.vsw_promise.specs.Jobs.{Jobs, Setting, jobs_of}
use Rattle.vsw_promise.specs.Ports.{PortSeen, port_of, ports_of}
use Rattle.vsw_promise.specs.Rounds.{AreChained, AreHistories, AreRoundsAt, IsPortRound, end_before, opening_of}
use Rattle.vsw_promise.specs.Told.{callers, entry_at, in_told_order, line_of, what_of}
use Rattle.vsw_report.specs.declared.round.PortRound.{PortRound}
use Rattle.vsw_report.specs.declared.round.Round.{Round}
use Rattle.vsw_report.specs.declared.told.ToldLine.{ToldLine}
use Rattle.vsw_report_law.specs.Law.{OneHistory}

-- ---- a call is its line and its job

deed_is : (a b : Deed) → what_of a ≡ what_of b → job_of a ≡ job_of b → a ≡ b
deed_is (Carried x p f bytes) (Carried y q g others) e j =
    let xs : x ≡ y = cc j in
    let ps : p ≡ q = cc j in
    let fs : f ≡ g = cc e in
    let bs : bytes ≡ others = cc e in
    λ i. Carried (xs i) (ps i) (fs i) (bs i)
deed_is (Asked l r) (Asked m t) e j =
    let ls : l ≡ m = cc j in
    let rs : r ≡ t = cc e in
    λ i. Asked (ls i) (rs i)
deed_is (Carried x p f bytes) (Asked m t) e j = absurd (cc j)
deed_is (Asked l r) (Carried y q g others) e j = absurd (cc j)

call_is : (c d : Call) → line_of c ≡ line_of d → job_of c.deed ≡ job_of d.deed → c ≡ d
call_is c d e j =
    let deeds = deed_is c.deed d.deed (ap (λ (l : ToldLine). l.what) e) j in
    λ i. record { deed = deeds i; entry = (e i).entry; count = (e i).count }

calls_are : (xs ys : List Call) → map line_of xs ≡ map line_of ys → map (λ c. job_of c.deed) xs ≡ map (λ c. job_of c.deed) ys → xs ≡ ys
calls_are [] [] e j = refl
calls_are [] (y ∷ ys) e j = absurd (cc e)
calls_are (x ∷ xs) [] e j = absurd (cc e)
calls_are (x ∷ xs) (y ∷ ys) e j =
    let line : line_of x ≡ line_of y = cc e in
    let lines : map line_of xs ≡ map line_of ys = cc e in
    let job : job_of x.deed ≡ job_of y.deed = cc j in
    let jobs : map (λ (c : Call). job_of c.deed) xs ≡ map (λ (c : Call). job_of c.deed) ys = cc j in
    let first = call_is x y line job in
    let rest = calls_are xs ys lines jobs in
    λ i. first i ∷ rest i

-- ---- the calls of each caller in a round

abbrev Known : List ℕ → List Job → Type 0
Known ns js = Each (λ j. StandsOnce (job_doer ns j) (callers ns)) js

no_job : (ns : List ℕ) (k : ℕ) (j : Job) (js : List Job) → (job_doer ns j == k) ≡ false → jobs_by ns k (j ∷ js) ≡ jobs_by ns k js
no_job ns k j js e = rw e refl

-- a caller that has jobs stands once among the callers
known_or_none : (ns : List ℕ) (k : ℕ) (js : List Job) → Known ns js → (P : Type 0) → (StandsOnce k (callers ns) → P) → (jobs_by ns k js ≡ [] → P) → P
known_or_none ns k [] e P known none = none refl
known_or_none ns k (j ∷ js) e P known none = by (ℕ_discrete (job_doer ns j) k) (λ f. known_or_none ns k js e.1 P known f)
  where
    by : Dec (job_doer ns j ≡ k) → ((jobs_by ns k js ≡ [] → P) → P) → P
    by (yes same) more = known (subst (λ m. StandsOnce m (callers ns)) same e.0)
    by (no ne) more = more (λ f. none (no_job ns k j js (ne_eqb (job_doer ns j) k ne) ∙ f))

no_calls : (xs : List Call) → map (λ c. job_of c.deed) xs ≡ [] → xs ≡ []
no_calls [] e = refl
no_calls (x ∷ xs) e = absurd (cc e)

round_same : (workers : ℕ) (p : PortSeen) (h g : List Event) (jobs : Jobs) (r : PortRound) → Known p.controllers (jobs.first ++ jobs.later) → (i : IsPortRound workers p h jobs r) (j : IsPortRound workers p g jobs r) (k : ℕ)
    → calls_of p.controllers k (j.first ++ j.later) ≡ calls_of p.controllers k (i.first ++ i.later)
round_same workers p h g jobs r known i j k =
    let ns : List ℕ = p.controllers in
    let cs : List Call = i.first ++ i.later in
    let ds : List Call = j.first ++ j.later in
    let own : map (λ (c : Call). job_of c.deed) (calls_of ns k cs) ≡ jobs_by ns k (jobs.first ++ jobs.later) = jobs_of_calls ns k cs ∙ ap (jobs_by ns k) (round_jobs workers p h jobs r i) in
    let theirs : map (λ (c : Call). job_of c.deed) (calls_of ns k ds) ≡ jobs_by ns k (jobs.first ++ jobs.later) = jobs_of_calls ns k ds ∙ ap (jobs_by ns k) (round_jobs workers p g jobs r j) in
    known_or_none ns k (jobs.first ++ jobs.later) known (calls_of ns k ds ≡ calls_of ns k cs)
    (λ once. calls_are (calls_of ns k ds) (calls_of ns k cs) (sym (lines_are_calls workers p g jobs r k j once) ∙ lines_are_calls workers p h jobs r k i once) (theirs ∙ sym own))
    (λ none. no_calls (calls_of ns k ds) (theirs ∙ none) ∙ sym (no_calls (calls_of ns k cs) (own ∙ none)))

-- ---- the entries of a round

each_both : {A : Type 0} (P Q : A → Type 0) (xs : List A) → Each P xs → Each Q xs → Each (λ x. P x × Q x) xs
each_both P Q [] p q = tt
each_both P Q (x ∷ xs) p q = ((p.0, q.0), each_both P Q xs p.1 q.1)

stands_of : (o : Opening) (h : List Event) (c : Call) → IsCall o h c → c.entry ≡ true → slice_get h c.count ≡ Some (event_of c.deed)
stands_of o h c (Entry i) e = i.stands
stands_of o h c (Read i) e = absurd (true≢false (sym e ∙ i.marked))
stands_of o h c (Short i) e = absurd (true≢false (sym e ∙ i.marked))

stands_here : (o : Opening) (h : List Event) (n : ℕ) (c : Call) → IsCall o h c → (c.entry ≡ true) × (c.count ≡ n) → slice_get h n ≡ Some (event_of c.deed)
stands_here o h n c i e = ap (slice_get h) (sym e.1) ∙ stands_of o h c i e.0

and_true : (a b : Bool) → (a && b) ≡ true → (a ≡ true) × (b ≡ true)
and_true true b e = (refl, e)
and_true false b e = absurd (true≢false (sym e))

entries_each : (n : ℕ) (cs : List Call) → Each (λ c. (c.entry ≡ true) × (c.count ≡ n)) (entry_at n cs)
entries_each n [] = tt
entries_each n (c ∷ cs) = by (c.entry && (c.count == n)) refl (entries_each n cs)
  where
    by : (b : Bool) → (c.entry && (c.count == n)) ≡ b → Each (λ c. (c.entry ≡ true) × (c.count ≡ n)) (entry_at n cs) → Each (λ c. (c.entry ≡ true) × (c.count ≡ n)) (if b then c ∷ entry_at n cs else entry_at n cs)
    by true t ih = let u = and_true c.entry (c.count == n) t in ((u.0, eqb_is c.count n u.1), ih)
    by false t ih = ih

entry_same : (o : Opening) (h g : List Event) (n : ℕ) (f : (c : Call) × ((IsCall o h c × IsCall o g c) × ((c.entry ≡ true) × (c.count ≡ n)))) → slice_get h n ≡ slice_get g n
entry_same o h g n f = stands_here o h n f.0 f.1.0.0 f.1.1 ∙ sym (stands_here o g n f.0 f.1.0.1 f.1.1)

first_of : (P : Call → Type 0) (xs : List Call) (l : ToldLine) → map line_of xs ≡ l ∷ [] → Each P xs → (c : Call) × P c
first_of P [] l e h = absurd (cc e)
first_of P (c ∷ xs) l e h = (c, h.0)

get_take : (k n : ℕ) (xs : List Event) → n < k → slice_get (take k xs) n ≡ slice_get xs n
get_take zero n xs lt = absurd (omega (arith, lt))
get_take (suc k) n [] lt = refl
get_take (suc k) zero (x ∷ xs) lt = refl
get_take (suc k) (suc n) (x ∷ xs) lt = get_take k n xs (omega (arith, lt))

some_event : (h : List Event) (n : ℕ) → n < length h → (e : Event) × (slice_get h n ≡ Some e)
some_event [] n lt = absurd (omega (arith, lt))
some_event (e ∷ h) zero lt = (e, refl)
some_event (e ∷ h) (suc n) lt = some_event h n (omega (arith, lt))

round_entry : (workers : ℕ) (p : PortSeen) (h g : List Event) (jobs : Jobs) (r : PortRound) → Known p.controllers (jobs.first ++ jobs.later) → IsPortRound workers p h jobs r → IsPortRound workers p g jobs r
    → (n : ℕ) → r.before ≤ n → n < r.after → slice_get h n ≡ slice_get g n
round_entry workers p h g jobs r known i j n low high =
    let ns : List ℕ = p.controllers in
    let o : Opening = opening_of p in
    let cs : List Call = i.first ++ i.later in
    let more : ℕ = r.after - r.before in
    let same = round_same workers p h g jobs r known i j in
    let mine : Each (IsCall o (take r.after h)) cs = each_of_all (IsCall o (take r.after h)) ns cs (λ k. (i.shares k).each) in
    let theirs : Each (IsCall o (take r.after g)) cs = each_of_all (IsCall o (take r.after g)) ns cs (λ k. subst (Each (IsCall o (take r.after g))) (same k) (j.shares k).each) in
    let all : Each (λ c. IsCall o (take r.after h) c × IsCall o (take r.after g) c) cs = each_both (IsCall o (take r.after h)) (IsCall o (take r.after g)) cs mine theirs in
    let here : Each (λ c. IsCall o (take r.after h) c × IsCall o (take r.after g) c) (entry_at n cs) = each_filter (λ c. IsCall o (take r.after h) c × IsCall o (take r.after g) c) (λ c. c.entry && (c.count == n)) cs all in
    let some = some_event h n (omega (arith, high, i.high)) in
    let told = each_entry_is_told workers p h jobs r n some.0 i low high some.1 in
    let lines : map line_of (entry_at n cs) ≡ line_of told.call ∷ [] =
    ap (map line_of) (sym (told_at ns cs n r.before more low (omega (arith, low, high)))) ∙ (sym (map_filter n (in_told_order ns cs r.before more)) ∙ (ap (entry_lines n) (sym i.lines) ∙ told.line)) in
    let f = first_of (λ c. (IsCall o (take r.after h) c × IsCall o (take r.after g) c) × ((c.entry ≡ true) × (c.count ≡ n))) (entry_at n cs) (line_of told.call) lines (each_both (λ c. IsCall o (take r.after h) c × IsCall o (take r.after g) c) (λ c. (c.entry ≡ true) × (c.count ≡ n)) (entry_at n cs) here (entries_each n cs)) in
    sym (get_take r.after n h high) ∙ (entry_same o (take r.after h) (take r.after g) n f ∙ get_take r.after n g high)

-- ---- the entries of a run

lt_true : (m n : ℕ) → nat_lt m n ≡ true → m < n
lt_true m n e = grind (arith, common_steps)

lt_false : (m n : ℕ) → nat_lt m n ≡ false → n ≤ m
lt_false m n e = grind (arith, common_steps)

before_or_after : (m n : ℕ) (P : Type 0) → (m < n → P) → (n ≤ m → P) → P
before_or_after m n P less more = by (nat_lt m n) refl
  where
    by : (b : Bool) → nat_lt m n ≡ b → P
    by true e = less (lt_true m n e)
    by false e = more (lt_false m n e)

same_number : (a b : ℕ) → Some a ≡ Some b → a ≡ b
same_number a b e = cc e

same_round : (a b : PortRound) → Some a ≡ Some b → a ≡ b
same_round a b e = cc e

run_entry : (s : Setting) (records : List Record) (hs gs : List (List Event)) (i : ℕ) (p : PortSeen) (h g : List Event) → AreServed s → p.controllers ≡ s.policy.controllers → slice_get (ports_of s.policy) i ≡ Some p → slice_get hs i ≡ Some h → slice_get gs i ≡ Some g
    → (cuts : List ℕ) (rounds : List Round) (counts last : List ℕ) (low high n : ℕ) → AreRoundsAt s records hs cuts rounds → AreRoundsAt s records gs cuts rounds → AreChained counts rounds last → slice_get counts i ≡ Some low → slice_get last i ≡ Some high
    → low ≤ n → n < high → slice_get h n ≡ slice_get g n
run_entry s records hs gs i p h g served names e f t [] [] counts last low high n a b c l m lo hi =
    let none : low ≡ high = same_number low high (sym l ∙ (ap (λ w. slice_get w i) (sym c) ∙ m)) in
    absurd (omega (arith, none, lo, hi))
run_entry s records hs gs i p h g served names e f t (cut ∷ cuts) (r ∷ rs) counts last low high n a b c l m lo hi =
    let next = end_before cuts (length records) in
    let one = port_at s records r.ports cut next 0 i (ports_of s.policy) hs r.ports p h a.0.ports e f in
    let two = port_at s records r.ports cut next 0 i (ports_of s.policy) gs r.ports p g b.0.ports e t in
    let round = one.0 in
    let jobs = jobs_of s records r.ports cut next (0 + i) p.number in
    let other : IsPortRound s.workers p g jobs round = subst (IsPortRound s.workers p g jobs) (same_round two.0 round (sym two.1 ∙ one.1)) two.2 in
    let known : Known p.controllers (jobs.first ++ jobs.later) = subst (λ ns. Known ns (jobs.first ++ jobs.later)) (sym names) (jobs_stand s records r.ports cut next (0 + i) p.number served) in
    let begins : round.before ≡ low = same_number round.before low (sym (map_at (λ q. q.before) r.ports i round one.1) ∙ (ap (λ w. slice_get w i) c.0 ∙ l)) in
    before_or_after n round.after (slice_get h n ≡ slice_get g n)
    (λ lt. round_entry s.workers p h g jobs round known one.2 other n (omega (arith, begins, lo)) lt)
    (λ le. run_entry s records hs gs i p h g served names e f t cuts rs (map (λ q. q.after) r.ports) last round.after high n a.1 b.1 c.1 (map_at (λ q. q.after) r.ports i round one.1) m le hi)
run_entry s records hs gs i p h g served names e f t [] (r ∷ rs) counts last low high n a b c l m lo hi = absurd a
run_entry s records hs gs i p h g served names e f t (cut ∷ cuts) [] counts last low high n a b c l m lo hi = absurd a

-- ---- the law

same_list : (h g : List Event) → length h ≡ length g → ((n : ℕ) → n < length h → slice_get h n ≡ slice_get g n) → h ≡ g
same_list [] [] e f = refl
same_list [] (y ∷ g) e f = absurd (omega (arith, e))
same_list (x ∷ h) [] e f = absurd (omega (arith, e))
same_list (x ∷ h) (y ∷ g) e f =
    let first : x ≡ y = same_event x y (f 0 (omega arith)) in
    let rest = same_list h g (omega (arith, e)) (λ n lt. f (suc n) (omega (arith, lt))) in
    λ i. first i ∷ rest i
  where
    same_event : (a b : Event) → Some a ≡ Some b → a ≡ b
    same_event a b e = cc e

all_same : (ps : List PortSeen) (hs gs : List (List Event)) → AreHistories ps hs → AreHistories ps gs
    → ((i : ℕ) (p : PortSeen) (h g : List Event) → slice_get ps i ≡ Some p → slice_get hs i ≡ Some h → slice_get gs i ≡ Some g → h ≡ g) → hs ≡ gs
all_same [] [] [] a b f = refl
all_same (p ∷ ps) (h ∷ hs) (g ∷ gs) a b f =
    let first : h ≡ g = f 0 p h g refl refl refl in
    let rest = all_same ps hs gs a.1 b.1 (λ i q k l. f (suc i) q k l) in
    λ i. first i ∷ rest i
all_same [] (h ∷ hs) gs a b f = absurd a
all_same [] [] (g ∷ gs) a b f = absurd b
all_same (p ∷ ps) [] gs a b f = absurd a
all_same (p ∷ ps) (h ∷ hs) [] a b f = absurd b

one_last : (counts : List ℕ) (rounds : List Round) (a b : List ℕ) → AreChained counts rounds a → AreChained counts rounds b → a ≡ b
one_last counts [] a b c d = c ∙ sym d
one_last counts (r ∷ rs) a b c d = one_last (map (λ p. p.after) r.ports) rs a b c.1 d.1

-- each port knows the policy's controllers
names_at : (ns : List ℕ) (ps : List PortFile) (i : ℕ) (p : PortSeen) → slice_get (map (port_of ns) ps) i ≡ Some p → p.controllers ≡ ns
names_at ns [] i p e = absurd (cc e)
names_at ns (q ∷ ps) zero p e = let same : port_of ns q ≡ p = cc e in ap (λ (p : PortSeen). p.controllers) (sym same)
names_at ns (q ∷ ps) (suc i) p e = names_at ns ps i p e

pub one_history : OneHistory
one_history s records cuts rounds served run other = all_same (ports_of s.policy) run.histories other.histories run.right other.right (λ i p h g e f t. (
    let last : map length run.histories ≡ map length other.histories = one_last (map (λ p. 0) (ports_of s.policy)) rounds (map length run.histories) (map length other.histories) run.chained other.chained in
    let size : length h ≡ length g = same_number (length h) (length g) (sym (map_at length run.histories i h f) ∙ (ap (λ w. slice_get w i) last ∙ map_at length other.histories i g t)) in
    same_list h g size (λ n lt. run_entry s records run.histories other.histories i p h g served (names_at s.policy.controllers s.policy.ports i p e) e f t cuts rounds (map (λ p. 0) (ports_of s.policy)) (map length run.histories) 0 (length h) n run.are other.are run.chained (map_at (λ p. 0) (ports_of s.policy) i p e) (map_at length run.histories i h f) (omega arith) lt)
    ))
