-- Calls in one order, in the order of jobs, and in any order that keeps each caller's.
use Rattle.std.proofs.Common.{◌≡◌, ◌≢◌, ℕ, zero, suc, ◌+◌, ◌==◌, ◌&&◌, Bool, true, false, if◌then◌else◌, List, [], ◌∷◌, ◌++◌, length, map, drop, Option, Some, None, slice_get, refl, ap, sym, ◌∙◌, subst, arith, ne_eqb, eq-eqb}
use Rattle.std.specs.List.{flat_map}
use native.Mathlib.Decide.{ℕ_discrete}
use mathlib.Core.List.{IsPrefix}
use Rattle.vsw_policy.specs.Sound.{Each}
use Rattle.vsw_port.specs.declared.event.Event.{Event}
use Rattle.vsw_port.specs.Calls.{Job, Call, job_of, job_doer, jobs_by, doer, named, calls_of, event_of, next_count, entries_of, IsCall, Entry, Read, Short, InOrder, IsShare, AreShares, IsOneOrder}
use Rattle.vsw_port.specs.History.{Opening}
use Rattle.vsw_port.proofs.Calls.{calls_append, each_of_all}
use Rattle.vsw_port.proofs.Next.{each_of, named_doer}
use Rattle.vsw_promise.specs.Told.{line_of, callers, reads_at, entry_at, reads_by_caller, in_told_order}
use Rattle.vsw_promise.proofs.PortRounds.{drop_front}
use Rattle.vsw_history_law.proofs.Callers.{eqb_is}
use Rattle.vsw_history_law.proofs.Ones.{room}
use Rattle.vsw_history_law.proofs.Same.{added_length}
use Rattle.vsw_many.specs.Law.{OrderIsFree}
use Rattle.vsw_many.specs.Phases.{SameByCaller}

-- ---- one order: the calls' entries are what was added

room_if : (c : Call) (cs : List Call) (b : Bool) → c.entry ≡ b → c.count + length (entries_of (c ∷ cs)) ≡ next_count c + length (entries_of cs)
room_if c cs true e = rw e (omega arith)
room_if c cs false e = rw e refl

-- what is left from a place on begins with the element there
pub drop_at : {A : Type 0} (n : ℕ) (h : List A) (e : A) → slice_get h n ≡ Some e → drop n h ≡ e ∷ drop (suc n) h
drop_at n [] e g = absurd cc
drop_at zero (x ∷ h) e g = cc g
drop_at (suc n) (x ∷ h) e g = drop_at n h e g

drop_all : {A : Type 0} (n : ℕ) (h : List A) → n ≡ length h → drop n h ≡ []
drop_all n [] e = rw e refl
drop_all zero (x ∷ h) e = absurd (omega (arith, e))
drop_all (suc n) (x ∷ h) e = drop_all n h (omega (arith, e))

still_entry : (g : List Event) (c : Call) (cs : List Call) (low : ℕ) → low ≡ c.count → drop (next_count c) g ≡ entries_of cs → c.entry ≡ false → drop low g ≡ entries_of (c ∷ cs)
still_entry g c cs low e ih m =
    let next : next_count c ≡ low = rw m (sym e) in
    let more : entries_of (c ∷ cs) ≡ entries_of cs = rw m refl in
    ap (λ n. drop n g) (sym next) ∙ (ih ∙ sym more)

first_entry : (o : Opening) (g : List Event) (c : Call) (cs : List Call) (low : ℕ) → low ≡ c.count → drop (next_count c) g ≡ entries_of cs → IsCall o g c → drop low g ≡ entries_of (c ∷ cs)
first_entry o g c cs low e ih (Entry i) =
    let stands : drop low g ≡ event_of c.deed ∷ drop (suc low) g = drop_at low g (event_of c.deed) (ap (slice_get g) e ∙ i.stands) in
    let next : next_count c ≡ suc low = (rw i.marked (omega (arith, e))) in
    let more : entries_of (c ∷ cs) ≡ event_of c.deed ∷ entries_of cs = rw i.marked refl in
    stands ∙ (ap (λ w. event_of c.deed ∷ w) (ap (λ n. drop n g) (sym next) ∙ ih) ∙ sym more)
first_entry o g c cs low e ih (Read i) = still_entry g c cs low e ih i.marked
first_entry o g c cs low e ih (Short i) = still_entry g c cs low e ih i.marked

-- where the entries of calls fill what is left of a history, they are what is left
entries_fill : (o : Opening) (g : List Event) (low : ℕ) (cs : List Call) → InOrder low cs (length g) → low + length (entries_of cs) ≡ length g → Each (IsCall o g) cs → drop low g ≡ entries_of cs
entries_fill o g low [] p e c = drop_all low g (omega (arith, e))
entries_fill o g low (c ∷ cs) p e is =
    let last : low ≡ c.count = omega (arith, p.0, room (next_count c) (length g) cs p.1, room_if c cs c.entry refl, e) in
    first_entry o g c cs low last (entries_fill o g (next_count c) cs p.1 (omega (arith, last, room_if c cs c.entry refl, e)) is.1) is.0

-- the shares of all callers, in one order of counts, are in one order of all
pub one_order : (o : Opening) (h g : List Event) (cs : List Call) → IsPrefix h g → AreShares o h g cs → InOrder (length h) cs (length g) → IsOneOrder h g cs
one_order o h g cs p s order =
    let each : Each (IsCall o g) cs = each_of_all (IsCall o g) o.controllers cs (λ k. (s k).each) in
    let rest : drop (length h) g ≡ entries_of cs = entries_fill o g (length h) cs order (sym (added_length o h g cs p s)) each in
    record { entries = sym p.1 ∙ ap (λ w. h ++ w) (sym (drop_front h p.0) ∙ (ap (drop (length h)) p.1 ∙ rest)); in_order = order }

-- ---- the order of jobs

keep : (ns : List ℕ) (k : ℕ) (c : Call) (cs : List Call) → doer ns c.deed ≡ k → calls_of ns k (c ∷ cs) ≡ c ∷ calls_of ns k cs
keep ns k c cs e = let t : (doer ns c.deed == k) ≡ true = eq-eqb (doer ns c.deed) k e in rw t refl

skip : (ns : List ℕ) (k : ℕ) (c : Call) (cs : List Call) → doer ns c.deed ≢ k → calls_of ns k (c ∷ cs) ≡ calls_of ns k cs
skip ns k c cs e = let t : (doer ns c.deed == k) ≡ false = ne_eqb (doer ns c.deed) k e in rw t refl

-- calls without the first of a caller
record Picked (ns : List ℕ) (k : ℕ) (j : Job) (js : List Job) (calls : List Call) : Type 0 where
  call : Call
  without : List Call
  job : job_of call.deed ≡ j
  doer_is : doer ns call.deed ≡ k
  own : calls_of ns k calls ≡ call ∷ calls_of ns k without
  jobs : map (λ c. job_of c.deed) (calls_of ns k without) ≡ js
  others : (n : ℕ) → n ≢ k → calls_of ns n without ≡ calls_of ns n calls

pick : (ns : List ℕ) (k : ℕ) (j : Job) (js : List Job) (calls : List Call) → map (λ c. job_of c.deed) (calls_of ns k calls) ≡ j ∷ js → Picked ns k j js calls
pick ns k j js [] e = absurd (cc e)
pick ns k j js (c ∷ cs) e = by (ℕ_discrete (doer ns c.deed) k) (λ f. pick ns k j js cs f)
  where
    by : Dec (doer ns c.deed ≡ k) → (map (λ c. job_of c.deed) (calls_of ns k cs) ≡ j ∷ js → Picked ns k j js cs) → Picked ns k j js (c ∷ cs)
    by (yes same) more =
        let rest : job_of c.deed ∷ map (λ c. job_of c.deed) (calls_of ns k cs) ≡ j ∷ js = ap (map (λ c. job_of c.deed)) (sym (keep ns k c cs same)) ∙ e in
        record { call = c; without = cs; job = cc rest; doer_is = same; own = keep ns k c cs same; jobs = cc rest; others = λ n ne. sym (skip ns n c cs (λ f. ne (sym f ∙ same))) }
    by (no ne) more =
        let p = more (ap (map (λ c. job_of c.deed)) (sym (skip ns k c cs ne)) ∙ e) in
        record {
          call = p.call;
          without = c ∷ p.without;
          job = p.job;
          doer_is = p.doer_is;
          own = skip ns k c cs ne ∙ (p.own ∙ ap (λ w. p.call ∷ w) (sym (skip ns k c p.without ne)));
          jobs = ap (map (λ c. job_of c.deed)) (skip ns k c p.without ne) ∙ p.jobs;
          others = λ n nk. ap (λ w. if doer ns c.deed == n then c ∷ w else w) (p.others n nk);
        }

-- calls in the order of these jobs, each caller's as they were
pub record Assembled (ns : List ℕ) (jobs : List Job) (calls : List Call) : Type 0 where
  pub later : List Call
  pub jobs_are : map (λ c. job_of c.deed) later ≡ jobs
  pub same : SameByCaller ns later calls

none_left : (ns : List ℕ) (k : ℕ) (cs : List Call) → map (λ c. job_of c.deed) (calls_of ns k cs) ≡ [] → calls_of ns k cs ≡ []
none_left ns k cs e = empty (calls_of ns k cs) e
  where
    empty : (ds : List Call) → map (λ c. job_of c.deed) ds ≡ [] → ds ≡ []
    empty [] e = refl
    empty (d ∷ ds) e = absurd (cc e)

own_job : (ns : List ℕ) (j : Job) (js : List Job) → jobs_by ns (job_doer ns j) (j ∷ js) ≡ j ∷ jobs_by ns (job_doer ns j) js
own_job ns j js = let t : (job_doer ns j == job_doer ns j) ≡ true = eq-eqb (job_doer ns j) (job_doer ns j) refl in rw t refl

other_job : (ns : List ℕ) (k : ℕ) (j : Job) (js : List Job) → k ≢ job_doer ns j → jobs_by ns k (j ∷ js) ≡ jobs_by ns k js
other_job ns k j js ne = let t : (job_doer ns j == k) ≡ false = ne_eqb (job_doer ns j) k (λ e. ne (sym e)) in rw t refl

-- each caller's calls have its jobs among these
abbrev pub DoJobs : List ℕ → List Job → List Call → Type 0
DoJobs ns jobs calls = (k : ℕ) → map (λ c. job_of c.deed) (calls_of ns k calls) ≡ jobs_by ns k jobs

pick_own : (ns : List ℕ) (j : Job) (js : List Job) (calls : List Call) → DoJobs ns (j ∷ js) calls → Picked ns (job_doer ns j) j (jobs_by ns (job_doer ns j) js) calls
pick_own ns j js calls e = pick ns (job_doer ns j) j (jobs_by ns (job_doer ns j) js) calls (e (job_doer ns j) ∙ own_job ns j js)

left_jobs : (ns : List ℕ) (j : Job) (js : List Job) (calls : List Call) → DoJobs ns (j ∷ js) calls → (p : Picked ns (job_doer ns j) j (jobs_by ns (job_doer ns j) js) calls) → DoJobs ns js p.without
left_jobs ns j js calls e p n = by (ℕ_discrete n (job_doer ns j))
  where
    by : Dec (n ≡ job_doer ns j) → map (λ c. job_of c.deed) (calls_of ns n p.without) ≡ jobs_by ns n js
    by (yes same) = subst (λ n. map (λ c. job_of c.deed) (calls_of ns n p.without) ≡ jobs_by ns n js) (sym same) p.jobs
    by (no ne) = ap (map (λ c. job_of c.deed)) (p.others n ne) ∙ (e n ∙ other_job ns n j js ne)

put_front : (ns : List ℕ) (j : Job) (js : List Job) (calls : List Call) (p : Picked ns (job_doer ns j) j (jobs_by ns (job_doer ns j) js) calls) → Assembled ns js p.without → Assembled ns (j ∷ js) calls
put_front ns j js calls p rest = record {
  later = p.call ∷ rest.later;
  jobs_are = λ i. p.job i ∷ rest.jobs_are i;
  same = λ n. at n (ℕ_discrete n (job_doer ns j));
}
  where
    at : (n : ℕ) → Dec (n ≡ job_doer ns j) → calls_of ns n (p.call ∷ rest.later) ≡ calls_of ns n calls
    at n (yes same) = subst (λ n. calls_of ns n (p.call ∷ rest.later) ≡ calls_of ns n calls) (sym same) (keep ns (job_doer ns j) p.call rest.later p.doer_is ∙ (ap (λ w. p.call ∷ w) (rest.same (job_doer ns j)) ∙ sym p.own))
    at n (no ne) = skip ns n p.call rest.later (λ f. ne (sym f ∙ p.doer_is)) ∙ (rest.same n ∙ p.others n ne)

-- where each caller did its own of the jobs, in their order, there is an order of all calls that is the jobs'
pub assemble : (ns : List ℕ) (jobs : List Job) (calls : List Call) → DoJobs ns jobs calls → Assembled ns jobs calls
assemble ns [] calls e = record { later = []; jobs_are = refl; same = λ k. sym (none_left ns k calls (e k)) }
assemble ns (j ∷ js) calls e =
    let p = pick_own ns j js calls e in
    put_front ns j js calls p (assemble ns js p.without (left_jobs ns j js calls e p))

-- ---- another order that keeps each caller's

pub shares_same : (o : Opening) (h g : List Event) (cs ds : List Call) → SameByCaller o.controllers ds cs → AreShares o h g cs → AreShares o h g ds
shares_same o h g cs ds same s k = subst (λ w. IsShare o h g k w) (sym (same k)) (s k)

pub each_same : (P : Call → Type 0) (ns : List ℕ) (cs ds : List Call) → SameByCaller ns ds cs → Each P cs → Each P ds
each_same P ns cs ds same e = each_of_all P ns ds (λ k. subst (Each P) (sym (same k)) (each_of P ns k cs e))

pub same_behind : (ns : List ℕ) (first cs ds : List Call) → SameByCaller ns ds cs → SameByCaller ns (first ++ ds) (first ++ cs)
same_behind ns first cs ds same k = calls_append ns k first ds ∙ (ap (λ w. calls_of ns k first ++ w) (same k) ∙ sym (calls_append ns k first cs))

and_true : (a b : Bool) → (a && b) ≡ true → (a ≡ true) × (b ≡ true)
and_true true b e = (refl, e)
and_true false b e = absurd (cc e)

-- a call that is the entry of a number stands there in the history
stands_at : (o : Opening) (g : List Event) (n : ℕ) (c : Call) → (c.entry && (c.count == n)) ≡ true → IsCall o g c → slice_get g n ≡ Some (event_of c.deed)
stands_at o g n c t (Entry i) = ap (slice_get g) (sym (eqb_is c.count n (and_true c.entry (c.count == n) t).1)) ∙ i.stands
stands_at o g n c t (Read r) = absurd (let m = (and_true c.entry (c.count == n) t).0 in let f = r.marked in cc (m, f))
stands_at o g n c t (Short s) = absurd (let m = (and_true c.entry (c.count == n) t).0 in let f = s.marked in cc (m, f))

-- so it is of the caller that the history names there
entry_doer : (o : Opening) (g : List Event) (n : ℕ) (c : Call) (e : Event) → slice_get g n ≡ Some e → (c.entry && (c.count == n)) ≡ true → IsCall o g c → doer o.controllers c.deed ≡ named o.controllers e
entry_doer o g n c e there t i =
    let same : Some (event_of c.deed) ≡ Some e = sym (stands_at o g n c t i) ∙ there in
    let is : event_of c.deed ≡ e = cc same in
    sym (named_doer o.controllers c.deed) ∙ ap (named o.controllers) is

entry_own : (o : Opening) (g : List Event) (n : ℕ) (e : Event) (cs : List Call) → slice_get g n ≡ Some e → Each (IsCall o g) cs → entry_at n cs ≡ entry_at n (calls_of o.controllers (named o.controllers e) cs)
entry_own o g n e [] there is = refl
entry_own o g n e (c ∷ cs) there is = by (entry_own o g n e cs there is.1) (c.entry && (c.count == n)) (doer o.controllers c.deed == named o.controllers e) refl refl
  where
    k : ℕ
    k = named o.controllers e

    by : entry_at n cs ≡ entry_at n (calls_of o.controllers k cs) → (b m : Bool) → (c.entry && (c.count == n)) ≡ b → (doer o.controllers c.deed == k) ≡ m → (if b then c ∷ entry_at n cs else entry_at n cs) ≡ entry_at n (if m then c ∷ calls_of o.controllers k cs else calls_of o.controllers k cs)
    by ih true true t u = rw t (ap (λ w. c ∷ w) ih)
    by ih true false t u = absurd (let v = eq-eqb (doer o.controllers c.deed) k (entry_doer o g n c e there t is.0) in cc (u, v))
    by ih false true t u = rw t ih
    by ih false false t u = ih

entry_empty : (o : Opening) (g : List Event) (n : ℕ) (cs : List Call) → slice_get g n ≡ None → Each (IsCall o g) cs → entry_at n cs ≡ []
entry_empty o g n [] none is = refl
entry_empty o g n (c ∷ cs) none is = by (entry_empty o g n cs none is.1) (c.entry && (c.count == n)) refl
  where
    by : entry_at n cs ≡ [] → (b : Bool) → (c.entry && (c.count == n)) ≡ b → (if b then c ∷ entry_at n cs else entry_at n cs) ≡ []
    by ih true t = absurd (let there : Some (event_of c.deed) ≡ None = sym (stands_at o g n c t is.0) ∙ none in cc there)
    by ih false t = ih

entry_same : (o : Opening) (g : List Event) (n : ℕ) (cs ds : List Call) → SameByCaller o.controllers ds cs → Each (IsCall o g) cs → Each (IsCall o g) ds → entry_at n ds ≡ entry_at n cs
entry_same o g n cs ds same c d = by (slice_get g n) refl
  where
    by : (e : Option Event) → slice_get g n ≡ e → entry_at n ds ≡ entry_at n cs
    by None t = entry_empty o g n ds t d ∙ sym (entry_empty o g n cs t c)
    by (Some e) t = entry_own o g n e ds t d ∙ (ap (entry_at n) (same (named o.controllers e)) ∙ sym (entry_own o g n e cs t c))

reads_same : (ns : List ℕ) (n : ℕ) (cs ds : List Call) (js : List ℕ) → SameByCaller ns ds cs → flat_map (λ k. reads_at n (calls_of ns k ds)) js ≡ flat_map (λ k. reads_at n (calls_of ns k cs)) js
reads_same ns n cs ds [] same = refl
reads_same ns n cs ds (j ∷ js) same = ap (λ w. reads_at n w ++ flat_map (λ k. reads_at n (calls_of ns k ds)) js) (same j) ∙ ap (λ w. reads_at n (calls_of ns j cs) ++ w) (reads_same ns n cs ds js same)

order_same : (o : Opening) (g : List Event) (cs ds : List Call) → SameByCaller o.controllers ds cs → Each (IsCall o g) cs → Each (IsCall o g) ds → (n m : ℕ) → in_told_order o.controllers ds n m ≡ in_told_order o.controllers cs n m
order_same o g cs ds same c d n zero = reads_same o.controllers n cs ds (callers o.controllers) same
order_same o g cs ds same c d n (suc m) =
    ap (λ w. w ++ (entry_at n ds ++ in_told_order o.controllers ds (suc n) m)) (reads_same o.controllers n cs ds (callers o.controllers) same)
    ∙ (ap (λ w. reads_by_caller o.controllers n cs ++ (w ++ in_told_order o.controllers ds (suc n) m)) (entry_same o g n cs ds same c d)
    ∙ ap (λ w. reads_by_caller o.controllers n cs ++ (entry_at n cs ++ w)) (order_same o g cs ds same c d (suc n) m))

pub order_is_free : OrderIsFree
order_is_free o h g cs ds n m s same =
    let each : Each (IsCall o g) cs = each_of_all (IsCall o g) o.controllers cs (λ k. (s k).each) in
    ap (map line_of) (order_same o g cs ds same each (each_same (IsCall o g) o.controllers cs ds same each) n m)
