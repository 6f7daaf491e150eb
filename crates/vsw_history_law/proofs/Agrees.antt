-- What the lines of packets tell.
use Rattle.std.proofs.Common.{◌≡◌, ◌<◌, ◌≤◌, ◌==◌, ◌+◌, ◌-◌, ℕ, zero, suc, Bool, true, false, if◌then◌else◌, List, [], ◌∷◌, ◌++◌, length, map, filter, take, drop, Option, Some, None, Result, Ok, Err, slice_get, refl, ap, sym, ◌∙◌, subst, arith, append_assoc, eq-eqb, ne_eqb}
use Rattle.std.specs.List.{flat_map}
use native.Mathlib.Decide.{ℕ_discrete}
use Rattle.std.proofs.lemmas.Nat.{mod_below}
use Rattle.vsw_base.specs.declared.fate.Fate.{Fate}
use Rattle.vsw_base.specs.declared.flow.Place.{Place}
use Rattle.vsw_base.specs.Frame.{Parts}
use Rattle.vsw_commandfile.specs.declared.line.Line.{Line}
use Rattle.vsw_header.specs.FlowSum.{flow_sum_of}
use Rattle.vsw_pcap.specs.declared.capture.Record.{Record}
use Rattle.vsw_policy.specs.Sound.{Each}
use Rattle.vsw_promise.specs.Ports.{PortSeen}
use Rattle.vsw_report.specs.declared.round.LooseCause.{LooseCause}
use Rattle.vsw_port.specs.declared.event.Event.{Event}
use Rattle.vsw_port.specs.Calls.{Job, Carry, Ask, Deed, Carried, Asked, Call, job_of, doer, calls_of, InOrder}
use Rattle.vsw_port.specs.Order.{numbered, StandsOnce}
use Rattle.vsw_report.specs.declared.round.PortRound.{PortRound}
use Rattle.vsw_report.specs.declared.told.What.{What}
use Rattle.vsw_report.specs.declared.told.What.TheVariants as what
use Rattle.vsw_promise.specs.Jobs.{Hop, Placed, aim_of, Setting, at_place, hops_of, jobs_of, placed_packet, placed_packets, second_job, worker_of, macs_of, packets_between, during_jobs, before_jobs}
use Rattle.vsw_promise.specs.Rounds.{IsPortRound}
use Rattle.vsw_promise.specs.Told.{callers, fates_in, is_packet, line_of, what_of, in_told_order}
use Rattle.vsw_promise.proofs.Handed.{each_at}
use Rattle.vsw_port.proofs.Calls.{each_append}
use Rattle.vsw_history_law.proofs.Callers.{worker_once}
use Rattle.vsw_history_law.proofs.Reports.{round_jobs, map_each, each_told}
use Rattle.vsw_history_law.proofs.Telling.{told_calls}
use Rattle.vsw_history_law.proofs.Values.{order_at}
use Rattle.vsw_history_law.specs.Plain.{what_became}

-- ---- the packets of a round have their numbers from the trace

-- each of these is a record of the trace, with its number
abbrev pub AreNumbered : List Record → List (ℕ × Record) → Type 0
AreNumbered records ps = Each (λ p. slice_get records p.0 ≡ Some p.1) ps

get_behind : {A : Type 0} (front back : List A) (x : A) → slice_get (front ++ x ∷ back) (length front) ≡ Some x
get_behind [] back x = refl
get_behind (y ∷ front) back x = get_behind front back x

length_end : {A : Type 0} (xs : List A) (x : A) → length (xs ++ x ∷ []) ≡ suc (length xs)
length_end [] x = refl
length_end (y ∷ xs) x = ap suc (length_end xs x)

numbered_are : (front back : List Record) → AreNumbered (front ++ back) (numbered (length front) back)
numbered_are front [] = tt
numbered_are front (r ∷ back) = (
  get_behind front back r,
  subst (λ n. AreNumbered (front ++ r ∷ back) (numbered n back)) (length_end front r) (subst (λ w. AreNumbered w (numbered (length (front ++ r ∷ [])) back)) (append_assoc front (r ∷ []) back) (numbered_are (front ++ r ∷ []) back)),
)

each_take : {A : Type 0} (P : A → Type 0) (n : ℕ) (xs : List A) → Each P xs → Each P (take n xs)
each_take P zero xs e = tt
each_take P (suc n) [] e = tt
each_take P (suc n) (x ∷ xs) e = (e.0, each_take P n xs e.1)

each_drop : {A : Type 0} (P : A → Type 0) (n : ℕ) (xs : List A) → Each P xs → Each P (drop n xs)
each_drop P zero xs e = e
each_drop P (suc n) [] e = tt
each_drop P (suc n) (x ∷ xs) e = each_drop P n xs e.1

pub between_are : (records : List Record) (first next : ℕ) → AreNumbered records (packets_between records first next)
between_are records first next = each_take (λ p. slice_get records p.0 ≡ Some p.1) (next - first) (drop first (numbered 0 records)) (each_drop (λ p. slice_get records p.0 ≡ Some p.1) first (numbered 0 records) (numbered_are [] records))

-- ---- one worker brings each packet

-- the worker of a packet that goes to a port
abbrev worker_aimed : ℕ → Result (Place × Parts) LooseCause → ℕ
worker_aimed workers (Err why) = 0
worker_aimed workers (Ok a) = worker_of workers a.1

abbrev worker_got : ℕ → List ℕ → Option Record → ℕ
worker_got workers macs None = 0
worker_got workers macs (Some r) = worker_aimed workers (aim_of macs r)

-- the worker of packet n
abbrev worker_at : Setting → List Record → ℕ → ℕ
worker_at s records n = worker_got s.workers (macs_of s.policy) (slice_get records n)

aimed_low : (workers : ℕ) (to : Result (Place × Parts) LooseCause) → 0 < workers → workers ≤ 16 → worker_aimed workers to < 16
aimed_low workers (Err why) least most = omega arith
aimed_low workers (Ok a) least most = omega (arith, mod_below (flow_sum_of a.1.stack) workers least, most)

got_low : (workers : ℕ) (macs : List ℕ) (o : Option Record) → 0 < workers → workers ≤ 16 → worker_got workers macs o < 16
got_low workers macs None least most = omega arith
got_low workers macs (Some r) least most = aimed_low workers (aim_of macs r) least most

abbrev pub is_job : ℕ → Job → Bool
is_job n (Carry x p) = x.packet == n
is_job n (Ask l) = false

-- whoever brings packet n is this caller
abbrev IsBroughtBy : ℕ → ℕ → Job → Type 0
IsBroughtBy n k (Carry x p) = (x.packet == n) ≡ true → x.caller ≡ k
IsBroughtBy n k (Ask l) = Unit {0}

pub eq_is : (a b : ℕ) → (a == b) ≡ true → a ≡ b
eq_is a b e = by (ℕ_discrete a b)
  where
    by : Dec (a ≡ b) → a ≡ b
    by (yes f) = f
    by (no ne) = absurd (cc (e, ne_is))
      where
        ne_is : (a == b) ≡ false
        ne_is = ne_eqb a b ne

-- the worker of packet m brings it, each time
packet_by : (s : Setting) (records : List Record) (n m : ℕ) (r : Record) (hops : List Hop) (to : Result (Place × Parts) LooseCause) → aim_of (macs_of s.policy) r ≡ to → slice_get records m ≡ Some r → Each (λ t. IsBroughtBy n (worker_at s records n) t.1) (placed_packet s.workers m r.moment hops to)
packet_by s records n m r hops (Err why) e g = tt
packet_by s records n m r hops (Ok a) e g = (own, seconds hops)
  where
    own : (m == n) ≡ true → worker_of s.workers a.1 ≡ worker_at s records n
    own t = sym (ap (λ k. worker_at s records k) (sym (eq_is m n t)) ∙ (ap (worker_got s.workers (macs_of s.policy)) g ∙ ap (worker_aimed s.workers) e))

    seconds : (hops : List Hop) → Each (λ (t : Placed). IsBroughtBy n (worker_at s records n) t.1) (map (second_job (worker_of s.workers a.1) m r.moment) hops)
    seconds [] = tt
    seconds (h ∷ hs) = (own, seconds hs)

packets_by : (s : Setting) (records : List Record) (told : List PortRound) (n : ℕ) (packets : List (ℕ × Record)) → AreNumbered records packets → Each (λ t. IsBroughtBy n (worker_at s records n) t.1) (placed_packets s.workers s.local (macs_of s.policy) told packets)
packets_by s records told n [] e = tt
packets_by s records told n (p ∷ ps) e =
    let hops = hops_of s.local (macs_of s.policy) told p.0 (aim_of (macs_of s.policy) p.1) in
    each_append (λ t. IsBroughtBy n (worker_at s records n) t.1) (placed_packet s.workers p.0 p.1.moment hops (aim_of (macs_of s.policy) p.1)) (placed_packets s.workers s.local (macs_of s.policy) told ps)
    (packet_by s records n p.0 p.1 hops (aim_of (macs_of s.policy) p.1) refl e.0) (packets_by s records told n ps e.1)

lines_by : (n k : ℕ) (ls : List Line) → Each (IsBroughtBy n k) (map Ask ls)
lines_by n k [] = tt
lines_by n k (l ∷ ls) = (tt, lines_by n k ls)

jobs_by_one : (s : Setting) (records : List Record) (told : List PortRound) (first next place number n : ℕ) → Each (IsBroughtBy n (worker_at s records n)) ((jobs_of s records told first next place number).first ++ (jobs_of s records told first next place number).later)
jobs_by_one s records told first next place number n =
    let P = IsBroughtBy n (worker_at s records n) in
    let placed = placed_packets s.workers s.local (macs_of s.policy) told (packets_between records first next) in
    let packets = at_place place placed in
    each_append P (before_jobs s.commands first number) (during_jobs s.commands first number ++ packets) (lines_by n (worker_at s records n) _)
    (each_append P (during_jobs s.commands first number) packets (lines_by n (worker_at s records n) _) (each_at P place placed (packets_by s records told n (packets_between records first next) (between_are records first next))))

-- ---- the lines of a packet are those of its calls

abbrev is_of : ℕ → Call → Bool
is_of n c = is_packet n (line_of c)

deed_by : (ns : List ℕ) (n k : ℕ) (d : Deed) (c : Call) → c.deed ≡ d → IsBroughtBy n k (job_of c.deed) → is_of n c ≡ true → doer ns c.deed ≡ k
deed_by ns n k (Carried x p fate bytes) c e b t = subst (λ d. doer ns d ≡ k) (sym e) ((subst (λ d. IsBroughtBy n k (job_of d)) e b) (subst (λ d. is_packet n (line_of (record { deed = d; entry = c.entry; count = c.count })) ≡ true) e t))
deed_by ns n k (Asked l reply) c e b t = absurd (let f : is_packet n (line_of (record { deed = Asked l reply; entry = c.entry; count = c.count })) ≡ true = subst (λ d. is_packet n (line_of (record { deed = d; entry = c.entry; count = c.count })) ≡ true) e t in cc f)

calls_by : (ns : List ℕ) (n k : ℕ) (cs : List Call) → Each (λ c. IsBroughtBy n k (job_of c.deed)) cs → Each (λ c. is_of n c ≡ true → doer ns c.deed ≡ k) cs
calls_by ns n k [] e = tt
calls_by ns n k (c ∷ cs) e = (deed_by ns n k c.deed c refl e.0, calls_by ns n k cs e.1)

-- what passes one test passes another, so the other may be made first
filter_first : {A : Type 0} (p q : A → Bool) (xs : List A) → Each (λ x. p x ≡ true → q x ≡ true) xs → filter p xs ≡ filter p (filter q xs)
filter_first p q [] e = refl
filter_first p q (x ∷ xs) e = by (p x) (q x) refl refl (filter_first p q xs e.1)
  where
    by : (b c : Bool) → p x ≡ b → q x ≡ c → filter p xs ≡ filter p (filter q xs) → (if b then x ∷ filter p xs else filter p xs) ≡ filter p (if c then x ∷ filter q xs else filter q xs)
    by true true f g ih = rw f (ap (λ w. x ∷ w) ih)
    by true false f g ih = absurd (let t = e.0 f in cc (t, g))
    by false true f g ih = rw f ih
    by false false f g ih = ih

by_caller : (ns : List ℕ) (n k : ℕ) (cs : List Call) → Each (λ c. is_of n c ≡ true → doer ns c.deed ≡ k) cs → Each (λ c. is_of n c ≡ true → (doer ns c.deed == k) ≡ true) cs
by_caller ns n k [] e = tt
by_caller ns n k (c ∷ cs) e = ((λ t. eq-eqb (doer ns c.deed) k (e.0 t)), by_caller ns n k cs e.1)

told_packets : (ns : List ℕ) (n k : ℕ) (cs : List Call) (low more : ℕ) → StandsOnce k (callers ns) → InOrder low (calls_of ns k cs) (low + more) → Each (λ c. is_of n c ≡ true → doer ns c.deed ≡ k) cs → filter (is_of n) (in_told_order ns cs low more) ≡ filter (is_of n) cs
told_packets ns n k cs low more once order e =
    filter_first (is_of n) (λ c. doer ns c.deed == k) (in_told_order ns cs low more) (by_caller ns n k (in_told_order ns cs low more) (each_told (λ c. is_of n c ≡ true → doer ns c.deed ≡ k) ns cs low more e))
    ∙ (ap (filter (is_of n)) (told_calls ns cs low more k once order)
    ∙ sym (filter_first (is_of n) (λ c. doer ns c.deed == k) cs (by_caller ns n k cs e)))

filter_lines : (n : ℕ) (cs : List Call) → fates_in n (map line_of cs) ≡ map (λ (c : Call). what_of c.deed) (filter (is_of n) cs)
filter_lines n [] = refl
filter_lines n (c ∷ cs) = by (is_of n c) (filter_lines n cs)
  where
    by : (b : Bool) → fates_in n (map line_of cs) ≡ map (λ (c : Call). what_of c.deed) (filter (is_of n) cs)
        → map (λ l. l.what) (if b then line_of c ∷ filter (is_packet n) (map line_of cs) else filter (is_packet n) (map line_of cs)) ≡ map (λ (c : Call). what_of c.deed) (if b then c ∷ filter (is_of n) cs else filter (is_of n) cs)
    by true ih = ap (λ w. what_of c.deed ∷ w) ih
    by false ih = ih

-- of what became of packets, that of packet n
abbrev pub picked : ℕ → List (ℕ × Fate × List ℕ) → List What
picked n ts = map (λ (t : ℕ × Fate × List ℕ). what.Fate t.1 t.2) (filter (λ (t : ℕ × Fate × List ℕ). t.0 == n) ts)

pub picked_append : (n : ℕ) (xs ys : List (ℕ × Fate × List ℕ)) → picked n (xs ++ ys) ≡ picked n xs ++ picked n ys
picked_append n [] ys = refl
picked_append n (x ∷ xs) ys = by (x.0 == n) (picked_append n xs ys)
  where
    by : (b : Bool) → picked n (xs ++ ys) ≡ picked n xs ++ picked n ys → map (λ (t : ℕ × Fate × List ℕ). what.Fate t.1 t.2) (if b then x ∷ filter (λ (t : ℕ × Fate × List ℕ). t.0 == n) (xs ++ ys) else filter (λ (t : ℕ × Fate × List ℕ). t.0 == n) (xs ++ ys)) ≡ map (λ (t : ℕ × Fate × List ℕ). what.Fate t.1 t.2) (if b then x ∷ filter (λ (t : ℕ × Fate × List ℕ). t.0 == n) xs else filter (λ (t : ℕ × Fate × List ℕ). t.0 == n) xs) ++ picked n ys
    by true ih = ap (λ w. what.Fate x.1 x.2 ∷ w) ih
    by false ih = ih

one_picked : (n : ℕ) (d : Deed) (c : Call) → c.deed ≡ d → map (λ (c : Call). what_of c.deed) (filter (is_of n) (c ∷ [])) ≡ picked n (what_became c.deed)
one_picked n (Carried x p fate bytes) c e = subst (λ d. map (λ (c : Call). what_of c.deed) (filter (is_of n) (record { deed = d; entry = c.entry; count = c.count } ∷ [])) ≡ picked n (what_became d)) (sym e) (by (x.packet == n))
  where
    by : (b : Bool) → map (λ (c : Call). what_of c.deed) (if b then record { deed = Carried x p fate bytes; entry = c.entry; count = c.count } ∷ [] else []) ≡ map (λ (t : ℕ × Fate × List ℕ). what.Fate t.1 t.2) (if b then (x.packet, fate, bytes) ∷ [] else [])
    by true = refl
    by false = refl
one_picked n (Asked l reply) c e = subst (λ d. map (λ (c : Call). what_of c.deed) (filter (is_of n) (record { deed = d; entry = c.entry; count = c.count } ∷ [])) ≡ picked n (what_became d)) (sym e) refl

all_picked : (n : ℕ) (cs : List Call) → map (λ (c : Call). what_of c.deed) (filter (is_of n) cs) ≡ picked n (flat_map (λ c. what_became c.deed) cs)
all_picked n [] = refl
all_picked n (c ∷ cs) = by (is_of n c) (one_picked n c.deed c refl) (all_picked n cs) ∙ sym (picked_append n (what_became c.deed) (flat_map (λ c. what_became c.deed) cs))
  where
    by : (b : Bool) → map (λ (c : Call). what_of c.deed) (if b then c ∷ [] else []) ≡ picked n (what_became c.deed) → map (λ (c : Call). what_of c.deed) (filter (is_of n) cs) ≡ picked n (flat_map (λ c. what_became c.deed) cs)
        → map (λ (c : Call). what_of c.deed) (if b then c ∷ filter (is_of n) cs else filter (is_of n) cs) ≡ picked n (what_became c.deed) ++ picked n (flat_map (λ c. what_became c.deed) cs)
    by true one ih = ap (λ w. what_of c.deed ∷ w) ih ∙ ap (λ w. w ++ picked n (flat_map (λ c. what_became c.deed) cs)) one
    by false one ih = ih ∙ ap (λ w. w ++ picked n (flat_map (λ c. what_became c.deed) cs)) one

-- the lines of a port's round tell of packet n what became of it
pub round_tells : (s : Setting) (records : List Record) (told : List PortRound) (first next place : ℕ) (p : PortSeen) (h : List Event) (r : PortRound) (n : ℕ) → 0 < s.workers → s.workers ≤ 16 → (i : IsPortRound s.workers p h (jobs_of s records told first next place p.number) r) → fates_in n r.lines ≡ picked n (flat_map (λ c. what_became c.deed) (i.first ++ i.later))
round_tells s records told first next place p h r n least most i =
    let ns = p.controllers in
    let calls = i.first ++ i.later in
    let k = worker_at s records n in
    let jobs = jobs_of s records told first next place p.number in
    let brought : Each (λ c. IsBroughtBy n k (job_of c.deed)) calls = map_each (IsBroughtBy n k) (λ c. job_of c.deed) calls (subst (Each (IsBroughtBy n k)) (sym (round_jobs s.workers p h jobs r i)) (jobs_by_one s records told first next place p.number n)) in
    ap (fates_in n) i.lines
    ∙ (filter_lines n (in_told_order ns calls r.before (r.after - r.before))
    ∙ (ap (map (λ (c : Call). what_of c.deed)) (told_packets ns n k calls r.before (r.after - r.before) (worker_once ns k (got_low s.workers (macs_of s.policy) (slice_get records n) least most)) (order_at s.workers p h jobs r i k) (calls_by ns n k calls brought))
    ∙ all_picked n calls))
