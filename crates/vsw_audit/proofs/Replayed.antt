-- A round is replayed.
use Rattle.std.proofs.Common.{◌≡◌, ◌≢◌, ◌≤◌, ◌+◌, ◌-◌, ◌==◌, ◌&&◌, not, Bool, true, false, true≢false, if◌then◌else◌, ℕ, zero, suc, List, [], ◌∷◌, ◌++◌, length, map, filter, take, Option, Some, None, slice_get, refl, ap, sym, subst, ◌∙◌, arith, eq-eqb, ne_eqb}
use Rattle.std.specs.List.{flat_map}
use native.Mathlib.Decide.{ℕ_discrete}
use Rattle.vsw_policy.specs.Sound.{Each}
use Rattle.vsw_port.specs.declared.event.Event.{Event}
use Rattle.vsw_port.specs.Calls.{AreShares, Call, Entry, HasBytes, InOrder, IsCall, IsOneOrder, Read, Short, calls_of, doer, entries_of, event_of, job_doer, job_of, jobs_by, named, next_count}
use Rattle.vsw_port.specs.History.{Opening}
use Rattle.vsw_port.specs.Order.{StandsOnce}
use Rattle.vsw_port.proofs.Calls.{each_of_all, order_lower}
use Rattle.vsw_port.proofs.Fronts.{take_prefix}
use Rattle.vsw_port.proofs.Next.{named_doer}
use Rattle.vsw_promise.proofs.PortRounds.{take_length, take_whole}
use Rattle.vsw_promise.specs.Rounds.{opening_of}
use Rattle.vsw_promise.specs.Told.{callers, entry_at, in_told_order, reads_at, reads_by_caller}
use Rattle.vsw_history_law.proofs.Callers.{eqb_is}
use Rattle.vsw_history_law.proofs.Reports.{doer_job, each_told, jobs_of_calls, map_each, round_jobs}
use Rattle.vsw_history_law.proofs.Telling.{drops, entry_test, none_below, told_calls}
use Rattle.vsw_history_law.proofs.Ones as values
use Rattle.vsw_history_law.proofs.Ones.{runs_of}
use Rattle.vsw_many.proofs.Orders.{each_same, one_order, order_is_free, shares_same}
use Rattle.vsw_audit.specs.Replay.{ReplayIsComplete, Runs}
use Rattle.vsw_audit.proofs.Replaying.{take_more}

-- ---- at most one call is the entry of a number

and_true : (a b : Bool) → (a && b) ≡ true → (a ≡ true) × (b ≡ true)
and_true true b e = (refl, e)
and_true false b e = absurd (true≢false (sym e))

stands_at : (o : Opening) (g : List Event) (n : ℕ) (c : Call) → entry_test n c ≡ true → IsCall o g c → slice_get g n ≡ Some (event_of c.deed)
stands_at o g n c t (Entry i) = ap (slice_get g) (sym (eqb_is c.count n (and_true c.entry (c.count == n) t).1)) ∙ i.stands
stands_at o g n c t (Read r) = absurd (true≢false (sym (and_true c.entry (c.count == n) t).0 ∙ r.marked))
stands_at o g n c t (Short s) = absurd (true≢false (sym (and_true c.entry (c.count == n) t).0 ∙ s.marked))

-- calls of whoever makes the entry of this number
abbrev Owns : List ℕ → ℕ → ℕ → List Call → Type 0
Owns ns n k cs = Each (λ c. entry_test n c ≡ true → doer ns c.deed ≡ k) cs

owner : (o : Opening) (g : List Event) (n : ℕ) (e : Event) (cs : List Call) → slice_get g n ≡ Some e → Each (IsCall o g) cs → Owns o.controllers n (named o.controllers e) cs
owner o g n e [] at is = tt
owner o g n e (c ∷ cs) at is = ((λ t. (let same : Some (event_of c.deed) ≡ Some e = sym (stands_at o g n c t is.0) ∙ at in sym (named_doer o.controllers c.deed) ∙ ap (named o.controllers) (the same))), owner o g n e cs at is.1)
  where
    the : {x y : Event} → Some x ≡ Some y → x ≡ y
    the f = cc f

own_entries : (ns : List ℕ) (n k : ℕ) (cs : List Call) → Owns ns n k cs → entry_at n cs ≡ entry_at n (calls_of ns k cs)
own_entries ns n k [] e = refl
own_entries ns n k (c ∷ cs) e = by (own_entries ns n k cs e.1) (entry_test n c) (doer ns c.deed == k) refl refl
  where
    by : entry_at n cs ≡ entry_at n (calls_of ns k cs) → (b m : Bool) → entry_test n c ≡ b → (doer ns c.deed == k) ≡ m → (if b then c ∷ entry_at n cs else entry_at n cs) ≡ entry_at n (if m then c ∷ calls_of ns k cs else calls_of ns k cs)
    by ih true true t u = rw t (ap (λ w. c ∷ w) ih)
    by ih true false t u = absurd (true≢false (sym (eq-eqb (doer ns c.deed) k (e.0 t)) ∙ u))
    by ih false true t u = rw t ih
    by ih false false t u = ih

one_in_order : (n low high : ℕ) (cs : List Call) → InOrder low cs high → length (entry_at n cs) ≤ 1
one_in_order n low high [] p = omega arith
one_in_order n low high (c ∷ cs) p = by (entry_test n c) refl (one_in_order n (next_count c) high cs p.1)
  where
    by : (b : Bool) → entry_test n c ≡ b → length (entry_at n cs) ≤ 1 → length (if b then c ∷ entry_at n cs else entry_at n cs) ≤ 1
    by false t ih = ih
    by true t ih =
        let is = and_true c.entry (c.count == n) t in
        let at : c.count ≡ n = eqb_is c.count n is.1 in
        let next : next_count c ≡ c.count + 1 = (let m = is.0 in rw m refl) in
        let none : entry_at n cs ≡ [] = (none_below n (next_count c) high cs (omega (arith, at, next)) p.1).1 in
        let l : length (entry_at n cs) ≡ 0 = ap length none in
        omega (arith, l)

no_entry : (o : Opening) (g : List Event) (n : ℕ) (cs : List Call) → slice_get g n ≡ None → Each (IsCall o g) cs → entry_at n cs ≡ []
no_entry o g n [] none is = refl
no_entry o g n (c ∷ cs) none is = by (entry_test n c) refl (no_entry o g n cs none is.1)
  where
    by : (b : Bool) → entry_test n c ≡ b → entry_at n cs ≡ [] → (if b then c ∷ entry_at n cs else entry_at n cs) ≡ []
    by true t ih = absurd (let there : Some (event_of c.deed) ≡ None = sym (stands_at o g n c t is.0) ∙ none in cc there)
    by false t ih = ih

few : (o : Opening) (h g : List Event) (cs : List Call) → AreShares o h g cs → (n : ℕ) → length (entry_at n cs) ≤ 1
few o h g cs s n = by (slice_get g n) refl
  where
    each : Each (IsCall o g) cs
    each = each_of_all (IsCall o g) o.controllers cs (λ k. (s k).each)

    by : (e : Option Event) → slice_get g n ≡ e → length (entry_at n cs) ≤ 1
    by None t = let l : length (entry_at n cs) ≡ 0 = ap length (no_entry o g n cs t each) in omega (arith, l)
    by (Some e) t =
        let k = named o.controllers e in
        let l : length (entry_at n cs) ≡ length (entry_at n (calls_of o.controllers k cs)) = ap length (own_entries o.controllers n k cs (owner o g n e cs t each)) in
        omega (arith, l, one_in_order n (length h) (length g) (calls_of o.controllers k cs) (s k).in_order)

-- ---- told calls are in order

passes : (p : Call → Bool) (xs : List Call) → Each (λ x. p x ≡ true) (filter p xs)
passes p [] = tt
passes p (x ∷ xs) = by (p x) refl (passes p xs)
  where
    by : (b : Bool) → p x ≡ b → Each (λ y. p y ≡ true) (filter p xs) → Each (λ y. p y ≡ true) (if b then x ∷ filter p xs else filter p xs)
    by true e ih = (e, ih)
    by false e ih = ih

abbrev read_test : ℕ → Call → Bool
read_test n c = not c.entry && (c.count == n)

each_append : {A : Type 0} (P : A → Type 0) (xs ys : List A) → Each P xs → Each P ys → Each P (xs ++ ys)
each_append P [] ys p q = q
each_append P (x ∷ xs) ys p q = (p.0, each_append P xs ys p.1 q)

reads_pass : (ns : List ℕ) (n : ℕ) (cs : List Call) (ks : List ℕ) → Each (λ c. read_test n c ≡ true) (flat_map (λ k. reads_at n (calls_of ns k cs)) ks)
reads_pass ns n cs [] = tt
reads_pass ns n cs (k ∷ ks) = each_append (λ c. read_test n c ≡ true) (reads_at n (calls_of ns k cs)) (flat_map (λ k. reads_at n (calls_of ns k cs)) ks) (passes (read_test n) (calls_of ns k cs)) (reads_pass ns n cs ks)

read_is : (b : Bool) (x : Bool) → (not b && x) ≡ true → (b ≡ false) × (x ≡ true)
read_is true x e = absurd (true≢false (sym e))
read_is false x e = (refl, e)

reads_first : (n high : ℕ) (xs ys : List Call) → Each (λ c. read_test n c ≡ true) xs → InOrder n ys high → InOrder n (xs ++ ys) high
reads_first n high [] ys e p = p
reads_first n high (c ∷ xs) ys e p =
    let is = read_is c.entry (c.count == n) e.0 in
    let at : c.count ≡ n = eqb_is c.count n is.1 in
    let next : next_count c ≡ n = (let m = is.0 in rw m at) in
    (omega (arith, at), subst (λ i. InOrder i (xs ++ ys) high) (sym next) (reads_first n high xs ys e.1 p))

entry_first : (n high : ℕ) (xs ys : List Call) → Each (λ c. entry_test n c ≡ true) xs → length xs ≤ 1 → InOrder (suc n) ys high → InOrder n (xs ++ ys) high
entry_first n high [] ys e le p = order_lower n (suc n) high ys (omega arith) p
entry_first n high (c ∷ []) ys e le p =
    let is = and_true c.entry (c.count == n) e.0 in
    let at : c.count ≡ n = eqb_is c.count n is.1 in
    let next : next_count c ≡ suc n = (let m = is.0 in rw m (omega (arith, at))) in
    (omega (arith, at), subst (λ i. InOrder i ys high) (sym next) p)
entry_first n high (c ∷ d ∷ xs) ys e le p = absurd (omega (arith, le))

nothing_more : (xs : List Call) → xs ++ [] ≡ xs
nothing_more [] = refl
nothing_more (x ∷ xs) = ap (λ w. x ∷ w) (nothing_more xs)

told_in_order : (ns : List ℕ) (cs : List Call) (m n high : ℕ) → high ≡ n + m → ((i : ℕ) → length (entry_at i cs) ≤ 1) → InOrder n (in_told_order ns cs n m) high
told_in_order ns cs zero n high is one = subst (λ w. InOrder n w high) (nothing_more (reads_by_caller ns n cs)) (reads_first n high (reads_by_caller ns n cs) [] (reads_pass ns n cs (callers ns)) (omega (arith, is)))
told_in_order ns cs (suc m) n high is one =
    reads_first n high (reads_by_caller ns n cs) (entry_at n cs ++ in_told_order ns cs (suc n) m) (reads_pass ns n cs (callers ns))
    (entry_first n high (entry_at n cs) (in_told_order ns cs (suc n) m) (passes (entry_test n) cs) (one n) (told_in_order ns cs m (suc n) high (omega (arith, is)) one))

-- ---- and each caller's are its own

doers_known : (ns : List ℕ) (cs : List Call) → Each (λ c. StandsOnce (job_doer ns (job_of c.deed)) (callers ns)) cs → Each (λ c. StandsOnce (doer ns c.deed) (callers ns)) cs
doers_known ns [] e = tt
doers_known ns (c ∷ cs) e = (subst (λ k. StandsOnce k (callers ns)) (doer_job ns c.deed) e.0, doers_known ns cs e.1)

-- a caller that has calls stands once among the callers
known_or_none : (ns : List ℕ) (k : ℕ) (cs : List Call) → Each (λ c. StandsOnce (doer ns c.deed) (callers ns)) cs → (P : Type 0) → (StandsOnce k (callers ns) → P) → (Each (λ c. doer ns c.deed ≢ k) cs → P) → P
known_or_none ns k [] e P known none = none tt
known_or_none ns k (c ∷ cs) e P known none = by (ℕ_discrete (doer ns c.deed) k) (λ f. known_or_none ns k cs e.1 P known f)
  where
    by : Dec (doer ns c.deed ≡ k) → ((Each (λ d. doer ns d.deed ≢ k) cs → P) → P) → P
    by (yes same) more = known (subst (λ j. StandsOnce j (callers ns)) same e.0)
    by (no ne) more = more (λ f. none (ne, f))

none_of : (ns : List ℕ) (k : ℕ) (cs : List Call) → Each (λ c. doer ns c.deed ≢ k) cs → calls_of ns k cs ≡ []
none_of ns k [] e = refl
none_of ns k (c ∷ cs) e = drops (λ d. doer ns d.deed == k) c cs (ne_eqb (doer ns c.deed) k e.0) ∙ none_of ns k cs e.1

told_own : (ns : List ℕ) (cs : List Call) (n m : ℕ) → Each (λ c. StandsOnce (doer ns c.deed) (callers ns)) cs → ((k : ℕ) → InOrder n (calls_of ns k cs) (n + m)) → (k : ℕ) → calls_of ns k (in_told_order ns cs n m) ≡ calls_of ns k cs
told_own ns cs n m known order k = known_or_none ns k cs known (calls_of ns k (in_told_order ns cs n m) ≡ calls_of ns k cs)
    (λ once. told_calls ns cs n m k once (order k))
    (λ none. none_of ns k (in_told_order ns cs n m) (each_told (λ c. doer ns c.deed ≢ k) ns cs n m none) ∙ sym (none_of ns k cs none))

-- ---- the law

to_runs : (o : Opening) (g : List Event) (cs : List Call) → values.Runs o g cs → Runs o g cs
to_runs o g [] r = tt
to_runs o g (c ∷ cs) r = (r.0, to_runs o (g ++ entries_of (c ∷ [])) cs r.1)

tail_of : List Event → List Event
tail_of [] = []
tail_of (x ∷ xs) = xs

pub same_end : (xs ys zs : List Event) → xs ++ ys ≡ xs ++ zs → ys ≡ zs
same_end [] ys zs e = e
same_end (x ∷ xs) ys zs e = same_end xs ys zs (cc e)

pub replay_is_complete : ReplayIsComplete
replay_is_complete workers p g jobs r right end known i =
    let o : Opening = opening_of p in
    let ns : List ℕ = p.controllers in
    let ds : List Call = i.first ++ i.later in
    let more : ℕ = r.after - r.before in
    let h : List Event = take r.before g in
    let cs : List Call = in_told_order ns ds r.before more in
    let low : length h ≡ r.before = take_length r.before g (omega (arith, i.low, i.high)) in
    let ends : take r.after g ≡ g = ap (λ n. take n g) end ∙ take_whole g in
    let sum : r.after ≡ r.before + more = omega (arith, i.low) in
    let shares : AreShares o h g ds = subst (λ w. AreShares o h w ds) ends i.shares in
    let each : Each (IsCall o g) ds = each_of_all (IsCall o g) ns ds (λ k. (shares k).each) in
    let orders : (k : ℕ) → InOrder r.before (calls_of ns k ds) (r.before + more) = λ k. subst (λ n. InOrder n (calls_of ns k ds) (r.before + more)) low (subst (λ n. InOrder (length h) (calls_of ns k ds) n) (sym end ∙ sum) (shares k).in_order) in
    let stand : Each (λ c. StandsOnce (doer ns c.deed) (callers ns)) ds = doers_known ns ds (map_each (λ j. StandsOnce (job_doer ns j) (callers ns)) (λ c. job_of c.deed) ds (subst (Each (λ j. StandsOnce (job_doer ns j) (callers ns))) (sym (round_jobs workers p g jobs r i)) known)) in
    let same : (k : ℕ) → calls_of ns k cs ≡ calls_of ns k ds = told_own ns ds r.before more stand orders in
    let order : InOrder (length h) cs (length g) = subst (λ n. InOrder n cs (length g)) (sym low) (told_in_order ns ds more r.before (length g) (sym end ∙ sum) (few o h g ds shares)) in
    let one : IsOneOrder h g cs = one_order o h g cs (take_prefix r.before g) (shares_same o h g ds cs same shares) order in
    let lead : h ++ take (length (entries_of i.first)) (entries_of cs) ≡ h ++ entries_of i.first =
    sym (take_more h (entries_of cs) (length (entries_of i.first))) ∙ (ap (λ w. take (length h + length (entries_of i.first)) w) (sym one.entries) ∙ (ap (λ n. take (n + length (entries_of i.first)) g) low ∙ i.first_entries)) in (
      record {
        port = i.port;
        low = sym low;
        calls = cs;
        lines = sym i.lines;
        order = order_is_free o h g ds cs r.before more shares same ∙ sym i.lines;
        runs = to_runs o h cs (runs_of o h g cs right one.entries order (each_same (IsCall o g) ns ds cs same each) (each_same (HasBytes o g) ns ds cs same i.bytes));
        high = end ∙ ap length one.entries;
        own = λ k. ap (map (λ c. job_of c.deed)) (same k) ∙ (jobs_of_calls ns k ds ∙ ap (jobs_by ns k) (round_jobs workers p g jobs r i));
        first = i.first;
        later = i.later;
        first_jobs = i.first_jobs;
        later_jobs = i.later_jobs;
        same = λ k. sym (same k);
        lead = same_end h (take (length (entries_of i.first)) (entries_of cs)) (entries_of i.first) lead;
        behind = i.later_counts;
        one = λ e. subst (λ n. InOrder n ds r.after) low (subst (λ n. InOrder (length h) ds n) (ap length ends ∙ sym end) (i.one e).in_order);
      },
      one.entries,
    )
