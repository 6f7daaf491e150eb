-- Merged texts, call by call.
use Rattle.std.proofs.Common.{◌≡◌, ◌≢◌, ◌<◌, ◌≤◌, ℕ, zero, suc, ◌+◌, ◌-◌, ◌==◌, ◌&&◌, not, Bool, true, false, if◌then◌else◌, List, [], ◌∷◌, ◌++◌, map, filter, length, Some, slice_get, refl, ap, ap₂, sym, ◌∙◌, subst, arith, ne_eqb, eq-eqb}
use Rattle.std.specs.List.{flat_map}
use native.Mathlib.Decide.{ℕ_discrete}
use Rattle.vsw_policy.specs.Sound.{Each}
use Rattle.vsw_port.specs.declared.event.Event.{Event}
use Rattle.vsw_port.specs.Calls.{Call, AreShares, IsCall, Entry, Read, Short, InOrder, calls_of, doer, event_of, named, next_count}
use Rattle.vsw_port.specs.History.{Opening}
use Rattle.vsw_port.proofs.Calls.{each_of_all}
use Rattle.vsw_port.proofs.Next.{count_next, named_doer, shares_of}
use Rattle.vsw_report.specs.Line.{TextLine, text_of}
use Rattle.vsw_report.specs.Order as order
use Rattle.vsw_report.specs.Order.{AllInCounts, InCounts, in_order, rise_of}
use Rattle.vsw_promise.specs.Told.{entry_at, in_told_order, line_of, reads_at, reads_by_caller}
use Rattle.vsw_history_law.specs.MergingLaw.{CountsStand, CountsStandBeside, IsKnown, MergeTells, MergeTellsBeside, TextsAreByCaller, callers_of}
use Rattle.vsw_history_law.proofs.MergingCallers.{no_calls, one_doer, workers_only}

-- the text of a call's line
abbrev text_for : Call → TextLine
text_for c = text_of (line_of c)

-- ---- counts

rise_next : (c : Call) → c.count + rise_of c.entry ≡ next_count c
rise_next c = by c.entry
  where
    by : (b : Bool) → c.count + rise_of b ≡ (if b then c.count + 1 else c.count)
    by true = refl
    by false = omega arith

counts_of : (low high : ℕ) (cs : List Call) → InOrder low cs high → InCounts low (map text_for cs) high
counts_of low high [] p = p
counts_of low high (c ∷ cs) p = (p.0, subst (λ n. InCounts n (map text_for cs) high) (sym (rise_next c)) (counts_of (next_count c) high cs p.1))

all_counts : (ns : List ℕ) (low high : ℕ) (cs : List Call) (ks : List ℕ) → ((k : ℕ) → InOrder low (calls_of ns k cs) high) → AllInCounts low (map (λ k. map text_for (calls_of ns k cs)) ks) high
all_counts ns low high cs [] p = tt
all_counts ns low high cs (k ∷ ks) p = (counts_of low high (calls_of ns k cs) (p k), all_counts ns low high cs ks p)

pub counts_stand_beside : CountsStandBeside
counts_stand_beside o before h workers calls s = all_counts o.controllers (length before) (length h) calls (callers_of o.controllers workers) (λ k. (s k).in_order)

pub counts_stand : CountsStand
counts_stand o before h workers calls g = counts_stand_beside o before h workers calls (shares_of o before h calls g)

-- ---- reads

filter_map : (p : TextLine → Bool) (q : Call → Bool) (cs : List Call) → ((c : Call) → p (text_for c) ≡ q c) → filter p (map text_for cs) ≡ map text_for (filter q cs)
filter_map p q [] same = refl
filter_map p q (c ∷ cs) same = by (p (text_for c)) (q c) refl refl (filter_map p q cs same)
  where
    by : (a b : Bool) → p (text_for c) ≡ a → q c ≡ b → filter p (map text_for cs) ≡ map text_for (filter q cs) → (if a then text_for c ∷ filter p (map text_for cs) else filter p (map text_for cs)) ≡ map text_for (if b then c ∷ filter q cs else filter q cs)
    by true true e f ih = ap (λ r. text_for c ∷ r) ih
    by false false e f ih = ih
    by true false e f ih = absurd (let s = same c in cc (e, f, s))
    by false true e f ih = absurd (let s = same c in cc (e, f, s))

map_both : (xs ys : List Call) → map text_for (xs ++ ys) ≡ map text_for xs ++ map text_for ys
map_both [] ys = refl
map_both (x ∷ xs) ys = ap (λ r. text_for x ∷ r) (map_both xs ys)

-- what a filter leaves of all callers' texts
filter_all : (p : TextLine → Bool) (q : Call → Bool) (ns : List ℕ) (cs : List Call) (ks : List ℕ) → ((c : Call) → p (text_for c) ≡ q c)
    → flat_map (filter p) (map (λ k. map text_for (calls_of ns k cs)) ks) ≡ map text_for (flat_map (λ k. filter q (calls_of ns k cs)) ks)
filter_all p q ns cs [] same = refl
filter_all p q ns cs (k ∷ ks) same = ap₂ (λ x y. x ++ y) (filter_map p q (calls_of ns k cs) same) (filter_all p q ns cs ks same) ∙ sym (map_both (filter q (calls_of ns k cs)) (flat_map (λ k. filter q (calls_of ns k cs)) ks))

reads_told : (ns : List ℕ) (workers : ℕ) (cs : List Call) (n : ℕ) → workers ≤ 16 → Each (λ c. IsKnown workers ns c.deed) cs
    → flat_map (order.reads_at n) (map (λ k. map text_for (calls_of ns k cs)) (callers_of ns workers)) ≡ map text_for (reads_by_caller ns n cs)
reads_told ns workers cs n le known =
    filter_all (order.is_read n) (λ c. not c.entry && (c.count == n)) ns cs (callers_of ns workers) (λ c. refl)
    ∙ ap (map text_for) (workers_only (λ k. reads_at n (calls_of ns k cs)) ns workers le (λ k low lt. ap (reads_at n) (no_calls ns workers k cs low lt known)))

-- ---- the entry

count_below : (n low high : ℕ) (cs : List Call) → n < low → InOrder low cs high → entry_at n cs ≡ []
count_below n low high [] lt p = refl
count_below n low high (c ∷ cs) lt p = by c.entry (c.count == n) (ne_eqb c.count n (λ e. omega (arith, e, lt, p.0))) (count_below n (next_count c) high cs (omega (arith, lt, p.0, count_next c)) p.1)
  where
    by : (a b : Bool) → b ≡ false → entry_at n cs ≡ [] → (if a && b then c ∷ entry_at n cs else entry_at n cs) ≡ []
    by a true e ih = absurd (cc e)
    by true false e ih = ih
    by false false e ih = ih

next_up : (c : Call) → c.entry ≡ true → next_count c ≡ c.count + 1
next_up c e = rw e refl

eqb_is : (a b : ℕ) → (a == b) ≡ true → a ≡ b
eqb_is a b e = by (ℕ_discrete a b)
  where
    by : Dec (a ≡ b) → a ≡ b
    by (yes f) = f
    by (no ne) = absurd (let t = ne_eqb a b ne in cc (e, t))

-- only one call of a caller is the entry of a count
one_at_most : (n low high : ℕ) (cs : List Call) → InOrder low cs high → length (entry_at n cs) ≤ 1
one_at_most n low high [] p = omega arith
one_at_most n low high (c ∷ cs) p = by c.entry (c.count == n) refl refl (one_at_most n (next_count c) high cs p.1)
  where
    by : (a b : Bool) → c.entry ≡ a → (c.count == n) ≡ b → length (entry_at n cs) ≤ 1 → length (if a && b then c ∷ entry_at n cs else entry_at n cs) ≤ 1
    by true true e f ih =
        let none : entry_at n cs ≡ [] = count_below n (next_count c) high cs (omega (arith, next_up c e, eqb_is c.count n f)) p.1 in
        subst (λ es. length (c ∷ es) ≤ 1) (sym none) (omega arith)
    by true false e f ih = ih
    by false b e f ih = ih

filter_swap : (p q : Call → Bool) (xs : List Call) → filter p (filter q xs) ≡ filter q (filter p xs)
filter_swap p q [] = refl
filter_swap p q (x ∷ xs) = by (filter_swap p q xs) (p x) (q x) refl refl
  where
    by : filter p (filter q xs) ≡ filter q (filter p xs) → (b c : Bool) → p x ≡ b → q x ≡ c → filter p (if c then x ∷ filter q xs else filter q xs) ≡ filter q (if b then x ∷ filter p xs else filter p xs)
    by ih true true e f = rw (e, f) (ap (λ w. x ∷ w) ih)
    by ih true false e f = rw f ih
    by ih false true e f = rw e ih
    by ih false false e f = ih

each_left : (P : Call → Type 0) (p : Call → Bool) (cs : List Call) → Each P cs → Each P (filter p cs)
each_left P p [] e = tt
each_left P p (c ∷ cs) e = by (p c) (each_left P p cs e.1)
  where
    by : (b : Bool) → Each P (filter p cs) → Each P (if b then c ∷ filter p cs else filter p cs)
    by true ih = (e.0, ih)
    by false ih = ih

-- an entry stands at its count in the history
entry_stands : (o : Opening) (h : List Event) (n : ℕ) (c : Call) → (c.entry && (c.count == n)) ≡ true → IsCall o h c → slice_get h n ≡ Some (event_of c.deed)
entry_stands o h n c t i = by c.entry (c.count == n) refl refl t i
  where
    by : (a b : Bool) → c.entry ≡ a → (c.count == n) ≡ b → (a && b) ≡ true → IsCall o h c → slice_get h n ≡ Some (event_of c.deed)
    by true true m f t (Entry e) = ap (slice_get h) (sym (eqb_is c.count n f)) ∙ e.stands
    by true true m f t (Read r) = absurd (let w = r.marked in cc (m, w))
    by true true m f t (Short r) = absurd (let w = r.marked in cc (m, w))
    by true false m f t i = absurd (cc t)
    by false b m f t i = absurd (cc t)

-- the entries of a count among calls all stand there
entries_stand : (o : Opening) (h : List Event) (n : ℕ) (cs : List Call) → Each (IsCall o h) cs → Each (λ c. slice_get h n ≡ Some (event_of c.deed)) (entry_at n cs)
entries_stand o h n [] e = tt
entries_stand o h n (c ∷ cs) e = by (c.entry && (c.count == n)) refl (entries_stand o h n cs e.1)
  where
    by : (b : Bool) → (c.entry && (c.count == n)) ≡ b → Each (λ c. slice_get h n ≡ Some (event_of c.deed)) (entry_at n cs) → Each (λ c. slice_get h n ≡ Some (event_of c.deed)) (if b then c ∷ entry_at n cs else entry_at n cs)
    by true t ih = (entry_stands o h n c t e.0, ih)
    by false t ih = ih

-- calls that stand at one place are of one caller
one_named : (ns : List ℕ) (h : List Event) (n : ℕ) (c d : Call) → slice_get h n ≡ Some (event_of c.deed) → slice_get h n ≡ Some (event_of d.deed) → doer ns d.deed ≡ doer ns c.deed
one_named ns h n c d e f =
    let same : Some (event_of d.deed) ≡ Some (event_of c.deed) = sym f ∙ e in
    let is : event_of d.deed ≡ event_of c.deed = cc same in
    sym (named_doer ns d.deed) ∙ (ap (named ns) is ∙ named_doer ns c.deed)

keep : (ns : List ℕ) (k : ℕ) (c : Call) (cs : List Call) → doer ns c.deed ≡ k → calls_of ns k (c ∷ cs) ≡ c ∷ calls_of ns k cs
keep ns k c cs e = let t : (doer ns c.deed == k) ≡ true = eq-eqb (doer ns c.deed) k e in rw t refl

-- so only one call of all callers is the entry of a count
one_of_all : (o : Opening) (before h : List Event) (n : ℕ) (cs : List Call) → AreShares o before h cs → length (entry_at n cs) ≤ 1
one_of_all o before h n cs s = by (entry_at n cs) refl (entries_stand o h n cs (each_of_all (IsCall o h) o.controllers cs (λ k. (s k).each)))
  where
    -- those of a caller are the caller's of them
    own_few : (k : ℕ) → length (calls_of o.controllers k (entry_at n cs)) ≤ 1
    own_few k = subst (λ es. length es ≤ 1) (filter_swap (λ c. c.entry && (c.count == n)) (λ c. doer o.controllers c.deed == k) cs) (one_at_most n (length before) (length h) (calls_of o.controllers k cs) (s k).in_order)

    by : (es : List Call) → entry_at n cs ≡ es → Each (λ c. slice_get h n ≡ Some (event_of c.deed)) es → length es ≤ 1
    by [] e stand = omega arith
    by (c ∷ []) e stand = omega arith
    by (c ∷ d ∷ es) e stand =
        let k = doer o.controllers c.deed in
        let two : calls_of o.controllers k (c ∷ d ∷ es) ≡ c ∷ d ∷ calls_of o.controllers k es =
        keep o.controllers k c (d ∷ es) refl ∙ ap (λ w. c ∷ w) (keep o.controllers k d es (one_named o.controllers h n c d stand.0 stand.1.0)) in
        let few : length (c ∷ d ∷ calls_of o.controllers k es) ≤ 1 = subst (λ w. length w ≤ 1) two (subst (λ w. length (calls_of o.controllers k w) ≤ 1) e (own_few k)) in
        absurd (omega (arith, few))

same_flat : (f g : ℕ → List Call) (ks : List ℕ) → ((k : ℕ) → f k ≡ g k) → flat_map f ks ≡ flat_map g ks
same_flat f g [] same = refl
same_flat f g (k ∷ ks) same = ap₂ (λ x y. x ++ y) (same k) (same_flat f g ks same)

own : (ns : List ℕ) (k : ℕ) (c : Call) → doer ns c.deed ≡ k → calls_of ns k (c ∷ []) ≡ c ∷ []
own ns k c e = let t : (doer ns c.deed == k) ≡ true = eq-eqb (doer ns c.deed) k e in rw t refl

others : (ns : List ℕ) (k : ℕ) (c : Call) → doer ns c.deed ≢ k → calls_of ns k (c ∷ []) ≡ []
others ns k c ne = let t : (doer ns c.deed == k) ≡ false = ne_eqb (doer ns c.deed) k ne in rw t refl

nothing : (ks : List ℕ) → flat_map {X = ℕ} {A = Call} (λ k. []) ks ≡ []
nothing [] = refl
nothing (k ∷ ks) = nothing ks

-- one call alone is one caller's
one_caller : (ns : List ℕ) (workers : ℕ) (es : List Call) → workers ≤ 16 → Each (λ c. IsKnown workers ns c.deed) es → length es ≤ 1 → flat_map (λ k. calls_of ns k es) (callers_of ns workers) ≡ es
one_caller ns workers [] le known few = nothing (callers_of ns workers)
one_caller ns workers (c ∷ []) le known few = one_doer (λ k. calls_of ns k (c ∷ [])) ns workers c.deed le known.0 (λ j ne. others ns j c (λ e. ne (sym e))) ∙ own ns (doer ns c.deed) c refl
one_caller ns workers (c ∷ d ∷ es) le known few = absurd (omega (arith, few))

entry_told : (ns : List ℕ) (workers : ℕ) (cs : List Call) (n : ℕ) → workers ≤ 16 → Each (λ c. IsKnown workers ns c.deed) cs → length (entry_at n cs) ≤ 1
    → flat_map (order.entry_at n) (map (λ k. map text_for (calls_of ns k cs)) (callers_of ns workers)) ≡ map text_for (entry_at n cs)
entry_told ns workers cs n le known one =
    filter_all (order.is_entry n) (λ c. c.entry && (c.count == n)) ns cs (callers_of ns workers) (λ c. refl)
    ∙ ap (map text_for) (same_flat (λ k. entry_at n (calls_of ns k cs)) (λ k. calls_of ns k (entry_at n cs)) (callers_of ns workers) (λ k. filter_swap (λ c. c.entry && (c.count == n)) (λ c. doer ns c.deed == k) cs)
    ∙ one_caller ns workers (entry_at n cs) le (each_left (λ c. IsKnown workers ns c.deed) (λ c. c.entry && (c.count == n)) cs known) one)

-- ---- all counts

told_in_order : (ns : List ℕ) (workers : ℕ) (cs : List Call) (n m : ℕ) → workers ≤ 16 → Each (λ c. IsKnown workers ns c.deed) cs → ((n : ℕ) → length (entry_at n cs) ≤ 1)
    → in_order (map (λ k. map text_for (calls_of ns k cs)) (callers_of ns workers)) n m ≡ map text_for (in_told_order ns cs n m)
told_in_order ns workers cs n zero le known one = reads_told ns workers cs n le known
told_in_order ns workers cs n (suc m) le known one =
    let callers = map (λ k. map text_for (calls_of ns k cs)) (callers_of ns workers) in
    let next : n + 1 ≡ suc n = omega arith in
    let rest : in_order callers (n + 1) m ≡ map text_for (in_told_order ns cs (suc n) m) = ap (λ k. in_order callers k m) next ∙ told_in_order ns workers cs (suc n) m le known one in
    ap₂ (λ x y. x ++ y) (reads_told ns workers cs n le known) (ap₂ (λ x y. x ++ y) (entry_told ns workers cs n le known (one n)) rest ∙ sym (map_both (entry_at n cs) (in_told_order ns cs (suc n) m)))
    ∙ sym (map_both (reads_by_caller ns n cs) (entry_at n cs ++ in_told_order ns cs (suc n) m))

map_twice : (cs : List Call) → map text_for cs ≡ map text_of (map line_of cs)
map_twice [] = refl
map_twice (c ∷ cs) = ap (λ r. text_for c ∷ r) (map_twice cs)

pub merge_tells_beside : MergeTellsBeside
merge_tells_beside o before h workers calls s le known =
    told_in_order o.controllers workers calls (length before) (length h - length before) le known (λ n. one_of_all o before h n calls s)
    ∙ map_twice (in_told_order o.controllers calls (length before) (length h - length before))

pub merge_tells : MergeTells
merge_tells o before h workers calls g le known = merge_tells_beside o before h workers calls (shares_of o before h calls g) le known

-- ---- another order that keeps each caller's

texts_same : (ns : List ℕ) (calls others : List Call) (ks : List ℕ) → ((k : ℕ) → calls_of ns k others ≡ calls_of ns k calls) → map (λ k. map text_for (calls_of ns k others)) ks ≡ map (λ k. map text_for (calls_of ns k calls)) ks
texts_same ns calls others [] same = refl
texts_same ns calls others (k ∷ ks) same = ap₂ (λ x y. map text_for x ∷ y) (same k) (texts_same ns calls others ks same)

pub texts_are_by_caller : TextsAreByCaller
texts_are_by_caller o workers calls others same = texts_same o.controllers calls others (callers_of o.controllers workers) same
