-- The lines of a round and the calls of a run.
use Rattle.std.proofs.Common.{◌≡◌, ℕ, zero, suc, ◌+◌, ◌-◌, ◌==◌, ◌&&◌, ◌||◌, not, Bool, true, false, if◌then◌else◌, List, [], ◌∷◌, ◌++◌, length, map, filter, take, Some, slice_get, refl, ap, sym, ◌∙◌, subst, arith, append_assoc, eq-eqb}
use Rattle.std.specs.List.{flat_map, list_any}
use Rattle.std.specs.Prelude.{option_to_list}
use Rattle.vsw_pcap.specs.declared.capture.Record.{Record}
use Rattle.vsw_policy.specs.Sound.{Each}
use Rattle.vsw_promise.specs.Ports.{PortSeen, ports_of}
use Rattle.vsw_port.specs.declared.event.Event.{Event}
use Rattle.vsw_report.specs.declared.round.PortRound.{PortRound}
use Rattle.vsw_report.specs.declared.round.Round.{Round}
use Rattle.vsw_report.specs.declared.told.ToldLine.{ToldLine}
use Rattle.vsw_promise.specs.Agree.{lines_at}
use Rattle.vsw_port.specs.Order.{StandsOnce}
use Rattle.vsw_port.specs.Calls.{Deed, Carried, Asked, Job, Call, job_of, job_item, job_doer, jobs_by, doer, calls_of, InOrder, AreShares, HasBytes, entries_naming}
use Rattle.vsw_port.specs.History.{Opening, AllRight}
use Rattle.vsw_promise.specs.Jobs.{Setting, Jobs, jobs_of}
use Rattle.vsw_promise.specs.Rounds.{opening_of, IsPortRound, ArePortRounds, AreRoundsAt, AreChained, AreHistories, end_before}
use Rattle.vsw_promise.specs.Told.{callers, line_of, line_doer, reads_at, entry_at, reads_by_caller, in_told_order}
use Rattle.vsw_history_law.specs.Law.{lines_by, LinesAreCalls, OneLineEach, NoOtherLines, all_jobs, RunsLegally}
use Rattle.vsw_port.proofs.Fronts.{append_end, prefix_self}
use Rattle.vsw_port.proofs.Calls.{calls_append, each_append, shares_join, legal_of}
use Rattle.vsw_promise.proofs.PortRounds.{take_length, take_whole}
use Rattle.vsw_history_law.proofs.Telling.{read_off}

-- ---- lines

pub doer_job : (ns : List ℕ) (d : Deed) → job_doer ns (job_of d) ≡ doer ns d
doer_job ns (Carried x p fate bytes) = refl
doer_job ns (Asked l reply) = refl

item_job : (d : Deed) (c : Call) → c.deed ≡ d → (line_of c).item ≡ job_item (job_of c.deed)
item_job (Carried x p fate bytes) c e = rw e refl
item_job (Asked l reply) c e = rw e refl

-- the jobs of a caller's calls are that caller's jobs
pub jobs_of_calls : (ns : List ℕ) (k : ℕ) (cs : List Call) → map (λ c. job_of c.deed) (calls_of ns k cs) ≡ jobs_by ns k (map (λ c. job_of c.deed) cs)
jobs_of_calls ns k [] = refl
jobs_of_calls ns k (c ∷ cs) = by (doer ns c.deed == k) (ap (λ w. w == k) (doer_job ns c.deed)) (jobs_of_calls ns k cs)
  where
    by : (b : Bool) → (job_doer ns (job_of c.deed) == k) ≡ b → map (λ c. job_of c.deed) (calls_of ns k cs) ≡ jobs_by ns k (map (λ c. job_of c.deed) cs) → map (λ c. job_of c.deed) (if b then c ∷ calls_of ns k cs else calls_of ns k cs) ≡ jobs_by ns k (job_of c.deed ∷ map (λ c. job_of c.deed) cs)
    by true e ih = rw e (ap (λ w. job_of c.deed ∷ w) ih)
    by false e ih = rw e ih

items_are : (cs : List Call) → map (λ l. l.item) (map line_of cs) ≡ map job_item (map (λ c. job_of c.deed) cs)
items_are [] = refl
items_are (c ∷ cs) = ap (λ n. n ∷ map (λ l. l.item) (map line_of cs)) (item_job c.deed c refl) ∙ ap (λ w. job_item (job_of c.deed) ∷ w) (items_are cs)

pub map_append : {A B : Type 0} (f : A → B) (xs ys : List A) → map f (xs ++ ys) ≡ map f xs ++ map f ys
map_append f [] ys = refl
map_append f (x ∷ xs) ys = ap (λ w. f x ∷ w) (map_append f xs ys)

pub round_jobs : (workers : ℕ) (p : PortSeen) (h : List Event) (jobs : Jobs) (r : PortRound) (i : IsPortRound workers p h jobs r) → map (λ c. job_of c.deed) (i.first ++ i.later) ≡ jobs.first ++ jobs.later
round_jobs workers p h jobs r i = map_append (λ c. job_of c.deed) i.first i.later ∙ (ap (λ w. w ++ map (λ c. job_of c.deed) i.later) i.first_jobs ∙ ap (λ w. jobs.first ++ w) i.later_jobs)

pub lines_are_calls : LinesAreCalls
lines_are_calls workers p h jobs r k i once =
    let ns = p.controllers in
    let calls = i.first ++ i.later in
    let low : length (take r.before h) ≡ r.before = take_length r.before h (omega (arith, i.low, i.high)) in
    let high : length (take r.after h) ≡ r.before + (r.after - r.before) = take_length r.after h i.high ∙ omega (arith, i.low) in
    let order : InOrder r.before (calls_of ns k calls) (r.before + (r.after - r.before)) = subst (λ n. InOrder n (calls_of ns k calls) (r.before + (r.after - r.before))) low (subst (λ n. InOrder (length (take r.before h)) (calls_of ns k calls) n) high (i.shares k).in_order) in
    ap (lines_by ns k) i.lines ∙ read_off ns calls r.before (r.after - r.before) k once order

pub one_line_each : OneLineEach
one_line_each workers p h jobs r k i once =
    let ns = p.controllers in
    let calls = i.first ++ i.later in
    ap (map (λ l. l.item)) (lines_are_calls workers p h jobs r k i once)
    ∙ (items_are (calls_of ns k calls)
    ∙ ap (map job_item) (jobs_of_calls ns k calls ∙ ap (jobs_by ns k) (round_jobs workers p h jobs r i)))

pub each_filter : {A : Type 0} (P : A → Type 0) (p : A → Bool) (xs : List A) → Each P xs → Each P (filter p xs)
each_filter P p [] e = tt
each_filter P p (x ∷ xs) e = by (p x) (each_filter P p xs e.1)
  where
    by : (b : Bool) → Each P (filter p xs) → Each P (if b then x ∷ filter p xs else filter p xs)
    by true ih = (e.0, ih)
    by false ih = ih

each_reads : (P : Call → Type 0) (ns : List ℕ) (n : ℕ) (cs : List Call) (js : List ℕ) → Each P cs → Each P (flat_map (λ k. reads_at n (calls_of ns k cs)) js)
each_reads P ns n cs [] e = tt
each_reads P ns n cs (j ∷ js) e = each_append P (reads_at n (calls_of ns j cs)) (flat_map (λ k. reads_at n (calls_of ns k cs)) js) (each_filter P (λ c. not c.entry && (c.count == n)) (calls_of ns j cs) (each_filter P (λ c. doer ns c.deed == j) cs e)) (each_reads P ns n cs js e)

-- what holds of all calls holds of all that are told
pub each_told : (P : Call → Type 0) (ns : List ℕ) (cs : List Call) (n m : ℕ) → Each P cs → Each P (in_told_order ns cs n m)
each_told P ns cs n zero e = each_reads P ns n cs (callers ns) e
each_told P ns cs n (suc m) e = each_append P (reads_by_caller ns n cs) (entry_at n cs ++ in_told_order ns cs (suc n) m) (each_reads P ns n cs (callers ns) e) (each_append P (entry_at n cs) (in_told_order ns cs (suc n) m) (each_filter P (λ c. c.entry && (c.count == n)) cs e) (each_told P ns cs (suc n) m e))

pub each_map : {A B : Type 0} (P : B → Type 0) (f : A → B) (xs : List A) → Each (λ x. P (f x)) xs → Each P (map f xs)
each_map P f [] e = tt
each_map P f (x ∷ xs) e = (e.0, each_map P f xs e.1)

pub map_each : {A B : Type 0} (P : B → Type 0) (f : A → B) (xs : List A) → Each P (map f xs) → Each (λ x. P (f x)) xs
map_each P f [] e = tt
map_each P f (x ∷ xs) e = (e.0, map_each P f xs e.1)

line_as : (ns : List ℕ) (d : Deed) (c : Call) → c.deed ≡ d → job_doer ns (job_of c.deed) ≡ line_doer ns (line_of c)
line_as ns (Carried x p fate bytes) c e = rw e refl
line_as ns (Asked l reply) c e = rw e refl

lines_as : (P : ℕ → Type 0) (ns : List ℕ) (cs : List Call) → Each (λ c. P (job_doer ns (job_of c.deed))) cs → Each (λ c. P (line_doer ns (line_of c))) cs
lines_as P ns [] e = tt
lines_as P ns (c ∷ cs) e = (subst P (line_as ns c.deed c refl) e.0, lines_as P ns cs e.1)

any_behind : {A : Type 0} (p : A → Bool) (xs ys : List A) → list_any p ys ≡ true → list_any p (xs ++ ys) ≡ true
any_behind p [] ys e = e
any_behind p (x ∷ xs) ys e = or_right (p x) (list_any p (xs ++ ys)) (any_behind p xs ys e)
  where
    or_right : (a b : Bool) → b ≡ true → (a || b) ≡ true
    or_right true b e = refl
    or_right false b e = e

or_left : (a b : Bool) → a ≡ true → (a || b) ≡ true
or_left true b e = refl
or_left false b e = absurd (cc e)

each_among : (ns : List ℕ) (front js : List Job) → Each (λ j. list_any (λ i. job_doer ns i == job_doer ns j) (front ++ js) ≡ true) js
each_among ns front [] = tt
each_among ns front (j ∷ js) = (
  any_behind (λ i. job_doer ns i == job_doer ns j) front (j ∷ js) (or_left (job_doer ns j == job_doer ns j) (list_any (λ i. job_doer ns i == job_doer ns j) js) (eq-eqb (job_doer ns j) (job_doer ns j) refl)),
  subst (λ w. Each (λ k. list_any (λ i. job_doer ns i == job_doer ns k) w ≡ true) js) (append_assoc front (j ∷ []) js) (each_among ns (front ++ j ∷ []) js),
)

pub no_other_lines : NoOtherLines
no_other_lines workers p h jobs r i =
    let ns = p.controllers in
    let calls = i.first ++ i.later in
    let P : ℕ → Type 0 = λ n. list_any (λ j. job_doer ns j == n) (jobs.first ++ jobs.later) ≡ true in
    let each : Each (λ j. P (job_doer ns j)) (map (λ c. job_of c.deed) calls) = subst (Each (λ j. P (job_doer ns j))) (sym (round_jobs workers p h jobs r i)) (each_among ns [] (jobs.first ++ jobs.later)) in
    let of : Each (λ c. P (line_doer ns (line_of c))) calls = lines_as P ns calls (map_each (λ j. P (job_doer ns j)) (λ c. job_of c.deed) calls each) in
    subst (Each (λ l. P (line_doer ns l))) (sym i.lines) (each_map (λ l. P (line_doer ns l)) line_of (in_told_order ns calls r.before (r.after - r.before)) (each_told (λ c. P (line_doer ns (line_of c))) ns calls r.before (r.after - r.before) of))

-- ---- runs

-- the round of the port at a place
pub port_at : (s : Setting) (records : List Record) (told : List PortRound) (first next n i : ℕ) (ps : List PortSeen) (hs : List (List Event)) (rs : List PortRound) (p : PortSeen) (h : List Event) → ArePortRounds s records told first next n ps hs rs → slice_get ps i ≡ Some p → slice_get hs i ≡ Some h
    → (r : PortRound) × (slice_get rs i ≡ Some r) × IsPortRound s.workers p h (jobs_of s records told first next (n + i) p.number) r
port_at s records told first next n i [] [] [] p h a e f = absurd (cc e)
port_at s records told first next n zero (q ∷ ps) (g ∷ hs) (r ∷ rs) p h a e f =
    let same : q ≡ p = cc e in
    let also : g ≡ h = cc f in
    (r, refl, subst (λ m. IsPortRound s.workers p h (jobs_of s records told first next m p.number) r) (omega arith) (subst (λ p. IsPortRound s.workers p h (jobs_of s records told first next n p.number) r) same (subst (λ h. IsPortRound s.workers q h (jobs_of s records told first next n q.number) r) also a.0)))
port_at s records told first next n (suc i) (q ∷ ps) (g ∷ hs) (r ∷ rs) p h a e f =
    let rest = port_at s records told first next (suc n) i ps hs rs p h a.1 e f in
    (rest.0, rest.1, subst (λ m. IsPortRound s.workers p h (jobs_of s records told first next m p.number) rest.0) (omega arith) rest.2)
port_at s records told first next n i [] [] (r ∷ rs) p h a e f = absurd a
port_at s records told first next n i [] (g ∷ hs) rs p h a e f = absurd a
port_at s records told first next n i (q ∷ ps) [] rs p h a e f = absurd a
port_at s records told first next n i (q ∷ ps) (g ∷ hs) [] p h a e f = absurd a

pub map_at : {A B : Type 0} (f : A → B) (xs : List A) (i : ℕ) (x : A) → slice_get xs i ≡ Some x → slice_get (map f xs) i ≡ Some (f x)
map_at f [] i x e = absurd (cc e)
map_at f (y ∷ xs) zero x e = let same : y ≡ x = cc e in ap (λ w. Some (f w)) same
map_at f (y ∷ xs) (suc i) x e = map_at f xs i x e

shares_none : (o : Opening) (h : List Event) → AreShares o h h []
shares_none o h k = record { begins = prefix_self h; each = tt; in_order = omega arith; entries = sym (append_end (entries_naming o.controllers k h)) }

-- a port's calls from one count of entries to another
pub record Spans (s : Setting) (records : List Record) (cuts : List ℕ) (rounds : List Round) (place : ℕ) (p : PortSeen) (h : List Event) (low high : ℕ) : Type 0 where
  pub calls : List Call
  pub shares : AreShares (opening_of p) (take low h) (take high h) calls
  pub bytes : Each (HasBytes (opening_of p) h) calls
  pub jobs : map (λ c. job_of c.deed) calls ≡ all_jobs s records cuts rounds place p.number
  pub lines : (k : ℕ) → StandsOnce k (callers p.controllers) → lines_by p.controllers k (lines_at place rounds) ≡ map line_of (calls_of p.controllers k calls)

spans_none : (s : Setting) (records : List Record) (place : ℕ) (p : PortSeen) (h : List Event) (low high : ℕ) → low ≡ high → Spans s records [] [] place p h low high
spans_none s records place p h low high e = subst (λ n. Spans s records [] [] place p h low n) e (record { calls = []; shares = shares_none (opening_of p) (take low h); bytes = tt; jobs = refl; lines = λ k once. refl })

some_same : (a b : ℕ) → Some a ≡ Some b → a ≡ b
some_same a b e = cc e

lines_append : (ns : List ℕ) (k : ℕ) (xs ys : List ToldLine) → lines_by ns k (xs ++ ys) ≡ lines_by ns k xs ++ lines_by ns k ys
lines_append ns k [] ys = refl
lines_append ns k (x ∷ xs) ys = by (line_doer ns x == k) (lines_append ns k xs ys)
  where
    by : (b : Bool) → lines_by ns k (xs ++ ys) ≡ lines_by ns k xs ++ lines_by ns k ys → (if b then x ∷ lines_by ns k (xs ++ ys) else lines_by ns k (xs ++ ys)) ≡ (if b then x ∷ lines_by ns k xs else lines_by ns k xs) ++ lines_by ns k ys
    by true ih = ap (λ w. x ∷ w) ih
    by false ih = ih

-- the lines of a port over rounds are those of the first and of the others
lines_more : (ns : List ℕ) (k i : ℕ) (r : Round) (rs : List Round) (q : PortRound) → slice_get r.ports i ≡ Some q → lines_by ns k (lines_at i (r ∷ rs)) ≡ lines_by ns k q.lines ++ lines_by ns k (lines_at i rs)
lines_more ns k i r rs q e =
    ap (λ o. lines_by ns k (flat_map (λ p. p.lines) (option_to_list o) ++ lines_at i rs)) e
    ∙ (ap (λ w. lines_by ns k (w ++ lines_at i rs)) (append_end q.lines) ∙ lines_append ns k q.lines (lines_at i rs))

spans_of : (s : Setting) (records : List Record) (hs : List (List Event)) (i : ℕ) (p : PortSeen) (h : List Event) → slice_get (ports_of s.policy) i ≡ Some p → slice_get hs i ≡ Some h
    → (cuts : List ℕ) (rounds : List Round) (counts last : List ℕ) (low high : ℕ) → AreRoundsAt s records hs cuts rounds → AreChained counts rounds last → slice_get counts i ≡ Some low → slice_get last i ≡ Some high → Spans s records cuts rounds i p h low high
spans_of s records hs i p h e f [] [] counts last low high a c l m = spans_none s records i p h low high (some_same low high (sym l ∙ (ap (λ w. slice_get w i) (sym c) ∙ m)))
spans_of s records hs i p h e f (cut ∷ cuts) (r ∷ rs) counts last low high a c l m =
    let here = port_at s records r.ports cut (end_before cuts (length records)) 0 i (ports_of s.policy) hs r.ports p h a.0.ports e f in
    let round = here.0 in
    let jobs = jobs_of s records r.ports cut (end_before cuts (length records)) i p.number in
    let is : IsPortRound s.workers p h jobs round = subst (λ n. IsPortRound s.workers p h (jobs_of s records r.ports cut (end_before cuts (length records)) n p.number) round) (omega arith) here.2 in
    let begins : round.before ≡ low = some_same round.before low (sym (map_at (λ q. q.before) r.ports i round here.1) ∙ (ap (λ w. slice_get w i) c.0 ∙ l)) in
    let rest = spans_of s records hs i p h e f cuts rs (map (λ q. q.after) r.ports) last round.after high a.1 c.1 (map_at (λ q. q.after) r.ports i round here.1) m in record {
      calls = (is.first ++ is.later) ++ rest.calls;
      shares = shares_join (opening_of p) (take low h) (take round.after h) (take high h) (is.first ++ is.later) rest.calls (subst (λ n. AreShares (opening_of p) (take n h) (take round.after h) (is.first ++ is.later)) begins is.shares) rest.shares;
      bytes = each_append (HasBytes (opening_of p) h) (is.first ++ is.later) rest.calls is.bytes rest.bytes;
      jobs = map_append (λ c. job_of c.deed) (is.first ++ is.later) rest.calls ∙ (ap (λ w. w ++ map (λ c. job_of c.deed) rest.calls) (round_jobs s.workers p h jobs round is) ∙ ap (λ w. (jobs.first ++ jobs.later) ++ w) rest.jobs);
      lines = λ k once. lines_more p.controllers k i r rs round here.1
          ∙ (ap (λ w. w ++ lines_by p.controllers k (lines_at i rs)) (lines_are_calls s.workers p h jobs round k is once)
          ∙ (ap (λ w. map line_of (calls_of p.controllers k (is.first ++ is.later)) ++ w) (rest.lines k once)
          ∙ (sym (map_append line_of (calls_of p.controllers k (is.first ++ is.later)) (calls_of p.controllers k rest.calls))
          ∙ ap (map line_of) (sym (calls_append p.controllers k (is.first ++ is.later) rest.calls)))));
    }
spans_of s records hs i p h e f [] (r ∷ rs) counts last low high a c l m = absurd a
spans_of s records hs i p h e f (cut ∷ cuts) [] counts last low high a c l m = absurd a

right_at : (ps : List PortSeen) (hs : List (List Event)) (i : ℕ) (p : PortSeen) (h : List Event) → AreHistories ps hs → slice_get ps i ≡ Some p → slice_get hs i ≡ Some h → AllRight (opening_of p) h
right_at [] [] i p h a e f = absurd (cc e)
right_at (q ∷ ps) (g ∷ hs) zero p h a e f =
    let same : q ≡ p = cc e in
    let also : g ≡ h = cc f in subst (λ p. AllRight (opening_of p) h) same (subst (λ h. AllRight (opening_of q) h) also a.0)
right_at (q ∷ ps) (g ∷ hs) (suc i) p h a e f = right_at ps hs i p h a.1 e f
right_at [] (g ∷ hs) i p h a e f = absurd a
right_at (q ∷ ps) [] i p h a e f = absurd a

-- the calls of a whole run are legal, at each port
pub runs_legally : RunsLegally
runs_legally s records cuts rounds run i p h e f =
    let spans = spans_of s records run.histories i p h e f cuts rounds (map (λ p. 0) (ports_of s.policy)) (map length run.histories) 0 (length h) run.are run.chained (map_at (λ q. 0) (ports_of s.policy) i p e) (map_at length run.histories i h f) in record {
      calls = spans.calls;
      legal = legal_of (opening_of p) h spans.calls (right_at (ports_of s.policy) run.histories i p h run.right e f) (subst (λ w. AreShares (opening_of p) [] w spans.calls) (take_whole h) spans.shares);
      bytes = spans.bytes;
      jobs = spans.jobs;
      lines = spans.lines;
    }
