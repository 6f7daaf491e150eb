-- The lines of a report stand in the order in which one is read.
use Rattle.std.proofs.Common.{◌≡◌, ◌≤◌, ◌<◌, ℕ, zero, suc, ◌+◌, ◌-◌, ◌^◌, ◌==◌, ◌&&◌, not, Bool, true, false, if◌then◌else◌, List, [], ◌∷◌, ◌++◌, length, map, filter, Some, slice_get, refl, ap, sym, ◌∙◌, subst, arith}
use Rattle.std.specs.List.{flat_map}
use Rattle.std.specs.Prelude.{MatchBool}
use Rattle.vsw_check.specs.Report.{AreTold, IsTold, Tells, rank}
use Rattle.vsw_config.specs.declared.file.PortFile.{PortFile}
use Rattle.vsw_history_law.proofs.Callers.{Ascends, ascending_ascends, eqb_is, place_one}
use Rattle.vsw_history_law.proofs.Entries.{each_entry_is_told, map_filter, told_at}
use Rattle.vsw_history_law.proofs.Replies.{IsServed, jobs_served}
use Rattle.vsw_history_law.proofs.Reports.{each_map, map_append, map_each, round_jobs}
use Rattle.vsw_history_law.specs.Law.{AreServed, entry_lines}
use Rattle.vsw_pcap.specs.declared.capture.Record.{Record}
use Rattle.vsw_policy.specs.Sound.{Each}
use Rattle.vsw_port.proofs.Fronts.{append_end}
use Rattle.vsw_port.specs.Calls.{Asked, Call, Carried, Deed, calls_of, controller_at, doer, job_of}
use Rattle.vsw_port.specs.Order.{ascending, counted}
use Rattle.vsw_port.specs.declared.event.Event.{Event}
use Rattle.vsw_promise.specs.Jobs.{Jobs, Setting, jobs_of}
use Rattle.vsw_promise.specs.Ports.{PortSeen, port_of}
use Rattle.vsw_promise.specs.Rounds.{ArePortRounds, AreRoundsAt, IsPortRound, end_before}
use Rattle.vsw_promise.specs.Told.{by_of, entry_at, in_told_order, line_of, reads_at, reads_by_caller}
use Rattle.vsw_report.specs.declared.round.PortRound.{PortRound}
use Rattle.vsw_report.specs.declared.round.Round.{Round}
use Rattle.vsw_report.specs.declared.told.ToldLine.{ToldLine}
use Rattle.vsw_run.specs.Order.{RoundsAreTold}

-- ---- reads by rank

-- lines of reads at one count, by rank from this one on
abbrev AreRanked : ℕ → ℕ → List ToldLine → Type 0
AreRanked n low [] = Unit {0}
AreRanked n low (l ∷ ls) = (l.count ≡ n) × (l.entry ≡ false) × (low ≤ rank l.by) × AreRanked n (rank l.by) ls

ranked_lower : (n low high : ℕ) (ls : List ToldLine) → low ≤ high → AreRanked n high ls → AreRanked n low ls
ranked_lower n low high [] le a = tt
ranked_lower n low high (l ∷ ls) le a = (a.0, a.1, omega (arith, le, a.2), a.3)

-- a read at this count, by who has this rank
abbrev IsReadBy : ℕ → ℕ → ToldLine → Type 0
IsReadBy n r l = (l.count ≡ n) × (l.entry ≡ false) × (rank l.by ≡ r)

group : (n low r : ℕ) (ls rest : List ToldLine) → Each (IsReadBy n r) ls → low ≤ r → AreRanked n r rest → AreRanked n low (ls ++ rest)
group n low r [] rest e le a = ranked_lower n low r rest le a
group n low r (l ∷ ls) rest e le a = (e.0.0, e.0.1, omega (arith, le, e.0.2), subst (λ k. AreRanked n k (ls ++ rest)) (sym e.0.2) (group n r r ls rest e.1 (omega arith) a))

-- what stands behind reads is told whatever their rank
told_on : (n high low : ℕ) (ls rest : List ToldLine) → AreRanked n low ls → ((k : ℕ) → Tells n high k rest) → Tells n high low (ls ++ rest)
told_on n high low [] rest a t = t low
told_on n high low (l ∷ ls) rest a t = (
  a.0,
  subst (λ b. MatchBool b ((n < high) × Tells (suc n) high 0 (ls ++ rest)) ((low ≤ rank l.by) × Tells n high (rank l.by) (ls ++ rest))) (sym a.1) (a.2, told_on n high (rank l.by) ls rest a.3 t),
)

-- ---- the lines of a caller's reads

filter_each : {A : Type 0} (P : A → Type 0) (p : A → Bool) (xs : List A) → Each (λ x. p x ≡ true → P x) xs → Each P (filter p xs)
filter_each P p [] e = tt
filter_each P p (x ∷ xs) e = by (p x) refl (filter_each P p xs e.1)
  where
    by : (b : Bool) → p x ≡ b → Each P (filter p xs) → Each P (if b then x ∷ filter p xs else filter p xs)
    by true t ih = (e.0 t, ih)
    by false t ih = ih

both_true : (a b : Bool) → (a && b) ≡ true → (a ≡ true) × (b ≡ true)
both_true true b e = (refl, e)
both_true false b e = absurd (cc e)

not_true : (a : Bool) → not a ≡ true → a ≡ false
not_true true e = absurd (cc e)
not_true false e = refl

reads_are : (ns : List ℕ) (n k r : ℕ) (cs : List Call) → Each (λ c. IsServed ns (job_of c.deed)) cs → ((d : Deed) → IsServed ns (job_of d) → (doer ns d == k) ≡ true → rank (by_of d) ≡ r) → Each (IsReadBy n r) (map line_of (reads_at n (calls_of ns k cs)))
reads_are ns n k r cs served ranks =
    each_map (IsReadBy n r) line_of (reads_at n (calls_of ns k cs))
    (filter_each (λ c. IsReadBy n r (line_of c)) (λ c. not c.entry && (c.count == n)) (calls_of ns k cs)
    (filter_each (λ c. (not c.entry && (c.count == n)) ≡ true → IsReadBy n r (line_of c)) (λ c. doer ns c.deed == k) cs (all cs served)))
  where
    all : (cs : List Call) → Each (λ c. IsServed ns (job_of c.deed)) cs → Each (λ c. (doer ns c.deed == k) ≡ true → (not c.entry && (c.count == n)) ≡ true → IsReadBy n r (line_of c)) cs
    all [] e = tt
    all (c ∷ cs) e = ((λ t u. let v = both_true (not c.entry) (c.count == n) u in (eqb_is c.count n v.1, not_true c.entry v.0, ranks c.deed e.0 t)), all cs e.1)

worker_rank : (ns : List ℕ) (k : ℕ) → k < 16 → (d : Deed) → IsServed ns (job_of d) → (doer ns d == k) ≡ true → rank (by_of d) ≡ k
worker_rank ns k lt (Carried x p fate bytes) s e = eqb_is x.caller k e
worker_rank ns k lt (Asked l reply) s e = absurd (omega (arith, lt, eqb_is (controller_at ns l.controller) k e))

controller_rank : (ns : List ℕ) (c : ℕ) (d : Deed) → IsServed ns (job_of d) → (doer ns d == controller_at ns c) ≡ true → rank (by_of d) ≡ 2 ^ 32 + c
controller_rank ns c (Carried x p fate bytes) s e = absurd (omega (arith, s, eqb_is x.caller (controller_at ns c) e))
controller_rank ns c (Asked l reply) s e = ap (λ n. 2 ^ 32 + n) (place_one ns l.controller c s (omega (arith, eqb_is (controller_at ns l.controller) (controller_at ns c) e)))

-- ---- the reads at a count

-- the lines of these callers' reads
abbrev lines_by : List ℕ → ℕ → List Call → List ℕ → List ToldLine
lines_by ns n cs ks = map line_of (flat_map (λ k. reads_at n (calls_of ns k cs)) ks)

lines_more : (ns : List ℕ) (n : ℕ) (cs : List Call) (k : ℕ) (ks : List ℕ) → lines_by ns n cs (k ∷ ks) ≡ map line_of (reads_at n (calls_of ns k cs)) ++ lines_by ns n cs ks
lines_more ns n cs k ks = map_append line_of (reads_at n (calls_of ns k cs)) (flat_map (λ k. reads_at n (calls_of ns k cs)) ks)

by_controllers : (ns : List ℕ) (n : ℕ) (cs : List Call) → Each (λ c. IsServed ns (job_of c.deed)) cs → (low : ℕ) (ms : List ℕ) → Ascends low ms → AreRanked n (2 ^ 32 + low) (lines_by ns n cs (map (controller_at ns) ms))
by_controllers ns n cs served low [] a = tt
by_controllers ns n cs served low (m ∷ ms) a =
    let rest = lines_by ns n cs (map (controller_at ns) ms) in
    let own = map line_of (reads_at n (calls_of ns (controller_at ns m) cs)) in
    subst (AreRanked n (2 ^ 32 + low)) (sym (lines_more ns n cs (controller_at ns m) (map (controller_at ns) ms)))
    (group n (2 ^ 32 + low) (2 ^ 32 + m) own rest (reads_are ns n (controller_at ns m) (2 ^ 32 + m) cs served (controller_rank ns m)) (omega (arith, a.0))
    (ranked_lower n (2 ^ 32 + m) (2 ^ 32 + suc m) rest (omega arith) (by_controllers ns n cs served (suc m) ms a.1)))

by_workers : (ns : List ℕ) (n : ℕ) (cs : List Call) → Each (λ c. IsServed ns (job_of c.deed)) cs → (ks : List ℕ) → AreRanked n 16 (lines_by ns n cs ks) → (first more : ℕ) → first + more ≡ 16 → AreRanked n first (lines_by ns n cs (counted first more ++ ks))
by_workers ns n cs served ks a first zero e = ranked_lower n first 16 (lines_by ns n cs ks) (omega (arith, e)) a
by_workers ns n cs served ks a first (suc more) e =
    let rest = lines_by ns n cs (counted (suc first) more ++ ks) in
    let own = map line_of (reads_at n (calls_of ns first cs)) in
    subst (AreRanked n first) (sym (lines_more ns n cs first (counted (suc first) more ++ ks)))
    (group n first first own rest (reads_are ns n first first cs served (worker_rank ns first (omega (arith, e)))) (omega arith)
    (ranked_lower n first (suc first) rest (omega arith) (by_workers ns n cs served ks a (suc first) more (omega (arith, e)))))

by_callers : (ns : List ℕ) (n : ℕ) (cs : List Call) → Each (λ c. IsServed ns (job_of c.deed)) cs → AreRanked n 0 (map line_of (reads_by_caller ns n cs))
by_callers ns n cs served =
    let ks = map (controller_at ns) (ascending ns) in
    by_workers ns n cs served ks (ranked_lower n 16 (2 ^ 32 + 0) (lines_by ns n cs ks) (omega arith) (by_controllers ns n cs served 0 (ascending ns) (ascending_ascends ns))) 0 16 refl

-- ---- the lines of a port's round

-- the one entry of this number
record OneEntry (cs : List Call) (n : ℕ) : Type 0 where
  call : Call
  alone : entry_at n cs ≡ call ∷ []
  count : call.count ≡ n
  entry : call.entry ≡ true

in_order : (ns : List ℕ) (cs : List Call) → Each (λ c. IsServed ns (job_of c.deed)) cs → (m n high : ℕ) → n + m ≡ high → ((j : ℕ) → n ≤ j → j < high → OneEntry cs j) → (low : ℕ) → AreRanked n low (map line_of (reads_by_caller ns n cs)) → Tells n high low (map line_of (in_told_order ns cs n m))
in_order ns cs served zero n high e ones low a = subst (Tells n high low) (append_end (map line_of (reads_by_caller ns n cs))) (told_on n high low (map line_of (reads_by_caller ns n cs)) [] a (λ k. omega (arith, e)))
in_order ns cs served (suc m) n high e ones low a =
    let one = ones n (omega arith) (omega (arith, e)) in
    let reads = reads_by_caller ns n cs in
    let rest = in_told_order ns cs (suc n) m in
    let behind : map line_of (entry_at n cs ++ rest) ≡ line_of one.call ∷ map line_of rest = ap (λ w. map line_of (w ++ rest)) one.alone in
    let next : Tells (suc n) high 0 (map line_of rest) = in_order ns cs served m (suc n) high (omega (arith, e)) (λ j lo hi. ones j (omega (arith, lo)) hi) 0 (by_callers ns (suc n) cs served) in
    let here : (k : ℕ) → Tells n high k (line_of one.call ∷ map line_of rest) = (λ k. (
      one.count,
      subst (λ b. MatchBool b ((n < high) × Tells (suc n) high 0 (map line_of rest)) ((k ≤ rank (line_of one.call).by) × Tells n high (rank (line_of one.call).by) (map line_of rest))) (sym one.entry) (omega (arith, e), next),
    )) in
    subst (Tells n high low) (sym (map_append line_of reads (entry_at n cs ++ rest) ∙ ap (λ w. map line_of reads ++ w) behind)) (told_on n high low (map line_of reads) (line_of one.call ∷ map line_of rest) a here)

some_event : (h : List Event) (n : ℕ) → n < length h → (e : Event) × (slice_get h n ≡ Some e)
some_event [] n lt = absurd (omega (arith, lt))
some_event (e ∷ h) zero lt = (e, refl)
some_event (e ∷ h) (suc n) lt = some_event h n (omega (arith, lt))

entries_each : (n : ℕ) (cs : List Call) → Each (λ c. (c.count ≡ n) × (c.entry ≡ true)) (entry_at n cs)
entries_each n cs = filter_each (λ c. (c.count ≡ n) × (c.entry ≡ true)) (λ c. c.entry && (c.count == n)) cs (all cs)
  where
    all : (cs : List Call) → Each (λ c. (c.entry && (c.count == n)) ≡ true → (c.count ≡ n) × (c.entry ≡ true)) cs
    all [] = tt
    all (c ∷ cs) = ((λ t. let v = both_true c.entry (c.count == n) t in (eqb_is c.count n v.1, v.0)), all cs)

one_entry : (workers : ℕ) (p : PortSeen) (h : List Event) (jobs : Jobs) (r : PortRound) (i : IsPortRound workers p h jobs r) (n : ℕ) → r.before ≤ n → n < r.after → OneEntry (i.first ++ i.later) n
one_entry workers p h jobs r i n lo hi =
    let cs = i.first ++ i.later in
    let m = r.after - r.before in
    let event = some_event h n (omega (arith, hi, i.high)) in
    let line = each_entry_is_told workers p h jobs r n event.0 i lo hi event.1 in
    let same : map line_of (entry_at n cs) ≡ line_of line.call ∷ [] =
    sym (ap (entry_lines n) i.lines ∙ (map_filter n (in_told_order p.controllers cs r.before m) ∙ ap (map line_of) (told_at p.controllers cs n r.before m lo (omega (arith, i.low, hi))))) ∙ line.line in
    by cs (line_of line.call) (entry_at n cs) refl (entries_each n cs) same
  where
    by : (cs : List Call) (l : ToldLine) (xs : List Call) → entry_at n cs ≡ xs → Each (λ c. (c.count ≡ n) × (c.entry ≡ true)) xs → map line_of xs ≡ l ∷ [] → OneEntry cs n
    by cs l [] e each same = absurd (omega (arith, ap length same))
    by cs l (c ∷ []) e each same = record { call = c; alone = e; count = each.0.0; entry = each.0.1 }
    by cs l (c ∷ d ∷ xs) e each same = absurd (omega (arith, ap length same))

port_told : (workers : ℕ) (p : PortSeen) (h : List Event) (jobs : Jobs) (r : PortRound) → IsPortRound workers p h jobs r → Each (IsServed p.controllers) (jobs.first ++ jobs.later) → IsTold r
port_told workers p h jobs r i served =
    let cs = i.first ++ i.later in
    let each : Each (λ c. IsServed p.controllers (job_of c.deed)) cs = map_each (IsServed p.controllers) (λ c. job_of c.deed) cs (subst (Each (IsServed p.controllers)) (sym (round_jobs workers p h jobs r i)) served) in (
      i.low,
      subst (Tells r.before r.after 0) (sym i.lines) (in_order p.controllers cs each (r.after - r.before) r.before r.after (omega (arith, i.low)) (λ j lo hi. one_entry workers p h jobs r i j lo hi) 0 (by_callers p.controllers r.before cs each)),
    )

-- ---- all rounds

ports_told : (s : Setting) (records : List Record) (told : List PortRound) (first next n : ℕ) (fs : List PortFile) (hs : List (List Event)) (rs : List PortRound) → AreServed s → ArePortRounds s records told first next n (map (port_of s.policy.controllers) fs) hs rs → Each IsTold rs
ports_told s records told first next n [] [] [] served a = tt
ports_told s records told first next n (f ∷ fs) (h ∷ hs) (r ∷ rs) served a = (
  port_told s.workers (port_of s.policy.controllers f) h (jobs_of s records told first next n f.port) r a.0 (jobs_served s records told first next n f.port served),
  ports_told s records told first next (suc n) fs hs rs served a.1,
)
ports_told s records told first next n [] [] (r ∷ rs) served a = absurd a
ports_told s records told first next n [] (h ∷ hs) rs served a = absurd a
ports_told s records told first next n (f ∷ fs) [] rs served a = absurd a
ports_told s records told first next n (f ∷ fs) (h ∷ hs) [] served a = absurd a

all_told : (s : Setting) (records : List Record) (hs : List (List Event)) → AreServed s → (cuts : List ℕ) (rounds : List Round) → AreRoundsAt s records hs cuts rounds → AreTold rounds
all_told s records hs served [] [] a = tt
all_told s records hs served (cut ∷ cuts) (r ∷ rs) a = (ports_told s records r.ports cut (end_before cuts (length records)) 0 s.policy.ports hs r.ports served a.0.ports, all_told s records hs served cuts rs a.1)
all_told s records hs served [] (r ∷ rs) a = absurd a
all_told s records hs served (cut ∷ cuts) [] a = absurd a

pub rounds_are_told : RoundsAreTold
rounds_are_told s records cuts rounds served run = all_told s records run.histories served cuts rounds run.are
