-- Each entry of a round has one line.
use Rattle.std.proofs.Common.{◌≡◌, ◌≢◌, ℕ, zero, suc, ◌+◌, ◌-◌, ◌<◌, ◌≤◌, ◌==◌, Bool, true, false, true≢false, ◌&&◌, if◌then◌else◌, List, [], ◌∷◌, ◌++◌, map, filter, length, take, Option, Some, None, refl, ap, sym, subst, ◌∙◌, arith, length-append, append_assoc, eq-eqb, ne_eqb, not}
use Rattle.std.proofs.lemmas.List.{length-take-le}
use Rattle.std.specs.List.{slice_get, flat_map}
use native.Mathlib.Decide.{ℕ_discrete}
use Rattle.vsw_policy.specs.Sound.{Each}
use Rattle.vsw_port.specs.declared.event.Event.{Event}
use Rattle.vsw_port.specs.Calls.{Call, Deed, event_of, doer, calls_of, named, entries_naming, entries_of, next_count, InOrder, IsCall, Entry, Read, Short, IsEntry, IsShare, AreShares}
use Rattle.vsw_port.specs.History.{Opening}
use Rattle.vsw_port.proofs.Fronts.{append_end}
use Rattle.vsw_port.proofs.Calls.{order_lower, each_of_all}
use Rattle.vsw_port.proofs.Next.{count_next, named_doer, naming_append}
use Rattle.vsw_history_law.specs.Law.{EachEntryIsTold, HasLine, entry_lines}
use Rattle.vsw_history_law.proofs.Callers.{eqb_is}
use Rattle.vsw_history_law.proofs.Telling.{entry_test, drops, keeps, elsewhere, none_below, order_high}
use Rattle.vsw_promise.specs.Jobs.{Jobs}
use Rattle.vsw_promise.specs.Rounds.{IsPortRound, opening_of}
use Rattle.vsw_promise.specs.Told.{line_of, callers, entry_at, reads_at, reads_by_caller, in_told_order, lines_of}
use Rattle.vsw_promise.specs.Ports.{PortSeen}
use Rattle.vsw_report.specs.declared.round.PortRound.{PortRound}
use Rattle.vsw_report.specs.declared.told.ToldLine.{ToldLine}

-- ---- the entries of a stretch of a history that name a caller

abbrev one : Option Event → List Event
one None = []
one (Some e) = e ∷ []

one_more : (h : List Event) (low : ℕ) → low < length h → take (suc low) h ≡ take low h ++ one (slice_get h low)
one_more [] low lt = absurd (omega (arith, lt))
one_more (x ∷ h) zero lt = refl
one_more (x ∷ h) (suc low) lt = ap (λ (w : List Event). x ∷ w) (one_more h low (omega (arith, lt)))

-- from this place on, in so many places
abbrev named_from : List ℕ → ℕ → List Event → ℕ → ℕ → List Event
named_from cs k h low zero = []
named_from cs k h low (suc m) = entries_naming cs k (one (slice_get h low)) ++ named_from cs k h (suc low) m

stretch : (cs : List ℕ) (k : ℕ) (h : List Event) (low m : ℕ) → low + m ≤ length h → entries_naming cs k (take (low + m) h) ≡ entries_naming cs k (take low h) ++ named_from cs k h low m
stretch cs k h low zero le =
    let n : low + 0 ≡ low = omega arith in
    ap (λ i. entries_naming cs k (take i h)) n ∙ sym (append_end (entries_naming cs k (take low h)))
stretch cs k h low (suc m) le =
    let n : low + suc m ≡ suc low + m = omega arith in
    let step : entries_naming cs k (take (suc low) h) ≡ entries_naming cs k (take low h) ++ entries_naming cs k (one (slice_get h low)) =
    ap (entries_naming cs k) (one_more h low (omega (arith, le))) ∙ naming_append cs k (take low h) (one (slice_get h low)) in
    ap (λ i. entries_naming cs k (take i h)) n
    ∙ (stretch cs k h (suc low) m (omega (arith, le))
    ∙ (ap (λ w. w ++ named_from cs k h (suc low) m) step ∙ append_assoc (entries_naming cs k (take low h)) (entries_naming cs k (one (slice_get h low))) (named_from cs k h (suc low) m)))

-- a call that stands in the history as an entry, and names the caller
record IsThere (cs : List ℕ) (k : ℕ) (h : List Event) (c : Call) : Type 0 where
  marked : c.entry ≡ true
  stands : slice_get h c.count ≡ Some (event_of c.deed)
  names : named cs (event_of c.deed) ≡ k

named_one : (cs : List ℕ) (k : ℕ) (h : List Event) (low : ℕ) (e : Event) → slice_get h low ≡ Some e → named cs e ≡ k → entries_naming cs k (one (slice_get h low)) ≡ e ∷ []
named_one cs k h low e at is = ap (λ o. entries_naming cs k (one o)) at ∙ rw (eq-eqb (named cs e) k is) refl

here : (cs : List ℕ) (k : ℕ) (h : List Event) (low : ℕ) (c : Call) → IsThere cs k h c → c.count ≡ low → entries_naming cs k (one (slice_get h low)) ≡ event_of c.deed ∷ []
here cs k h low c there at = named_one cs k h low (event_of c.deed) (ap (slice_get h) (sym at) ∙ there.stands) there.names

next_is : (c : Call) → c.entry ≡ true → next_count c ≡ c.count + 1
next_is c e = rw e refl

-- a caller has no more entries in a stretch than name it there
fewer : (cs : List ℕ) (k : ℕ) (h : List Event) (m low high : ℕ) (xs : List Call) → high ≡ low + m → Each (IsThere cs k h) xs → InOrder low xs high → length xs ≤ length (named_from cs k h low m)
fewer cs k h m low high [] is there order = omega arith
fewer cs k h zero low high (c ∷ xs) is there order = absurd (omega (arith, is, order.0, next_is c there.0.marked, order_high (next_count c) high xs order.1))
fewer cs k h (suc m) low high (c ∷ xs) is there order = by (fewer cs k h m (suc low) high) (ℕ_discrete c.count low)
  where
    first : List Event
    first = entries_naming cs k (one (slice_get h low))

    rest : List Event
    rest = named_from cs k h (suc low) m

    by : ((ys : List Call) → high ≡ suc low + m → Each (IsThere cs k h) ys → InOrder (suc low) ys high → length ys ≤ length rest) → Dec (c.count ≡ low) → suc (length xs) ≤ length (first ++ rest)
    by more (yes at) =
        let n : length first ≡ 1 = ap length (here cs k h low c there.0 at) in
        let less : length xs ≤ length rest = more xs (omega (arith, is)) there.1 (subst (λ i. InOrder i xs high) (omega (arith, next_is c there.0.marked, at)) order.1) in
        omega (arith, length-append first rest, n, less)
    by more (no ne) =
        let less : suc (length xs) ≤ length rest = more (c ∷ xs) (omega (arith, is)) there (omega (arith, order.0, ne), order.1) in
        omega (arith, length-append first rest, less)

record Found (n : ℕ) (e : Event) (xs : List Call) : Type 0 where
  call : Call
  count : call.count ≡ n
  event : event_of call.deed ≡ e
  alone : entry_at n xs ≡ call ∷ []

abbrev or_given : Event → Option Event → Event
or_given d None = d
or_given d (Some x) = x

abbrev tail_of : List Event → List Event
tail_of [] = []
tail_of (x ∷ xs) = xs

-- a caller's entries are all that name it in a stretch: so one is at each of these places
all_found : (cs : List ℕ) (k : ℕ) (h : List Event) (m low high : ℕ) (xs : List Call) (n : ℕ) (e : Event) → high ≡ low + m → Each (IsThere cs k h) xs → InOrder low xs high → map (λ c. event_of c.deed) xs ≡ named_from cs k h low m
    → low ≤ n → n < high → slice_get h n ≡ Some e → named cs e ≡ k → Found n e xs
all_found cs k h zero low high xs n e is there order all lo hi at names = absurd (omega (arith, is, lo, hi))
all_found cs k h (suc m) low high [] n e is there order all lo hi at names = by (all_found cs k h m (suc low) high [] n e) (ℕ_discrete n low)
  where
    none_left : (xs ys : List Event) → [] ≡ xs ++ ys → [] ≡ ys
    none_left [] ys p = p
    none_left (x ∷ xs) ys p = absurd (let l = ap length p in omega (arith, l))

    by : (high ≡ suc low + m → Unit {0} → suc low ≤ high → [] ≡ named_from cs k h (suc low) m → suc low ≤ n → n < high → slice_get h n ≡ Some e → named cs e ≡ k → Found n e []) → Dec (n ≡ low) → Found n e []
    by more (yes same) =
        let one_here = named_one cs k h low e (ap (slice_get h) (sym same) ∙ at) names in
        let none : ◌∷◌ e (named_from cs k h (suc low) m) ≡ [] = sym (ap (λ w. w ++ named_from cs k h (suc low) m) one_here) ∙ sym all in
        absurd (let l = ap length none in omega (arith, l))
    by more (no ne) = more (omega (arith, is)) tt (omega (arith, is)) (none_left (entries_naming cs k (one (slice_get h low))) (named_from cs k h (suc low) m) all) (omega (arith, lo, ne)) hi at names
all_found cs k h (suc m) low high (c ∷ xs) n e is there order all lo hi at names = by (λ ys. all_found cs k h m (suc low) high ys n e) (ℕ_discrete c.count low) (ℕ_discrete n low)
  where
    More : Type 0
    More = (ys : List Call) → high ≡ suc low + m → Each (IsThere cs k h) ys → InOrder (suc low) ys high → map (λ d. event_of d.deed) ys ≡ named_from cs k h (suc low) m → suc low ≤ n → n < high → slice_get h n ≡ Some e → named cs e ≡ k → Found n e ys

    first : List Event
    first = entries_naming cs k (one (slice_get h low))

    rest : List Event
    rest = named_from cs k h (suc low) m

    by : More → Dec (c.count ≡ low) → Dec (n ≡ low) → Found n e (c ∷ xs)
    by more (yes same) (yes place) =
        let after : InOrder (suc low) xs high = subst (λ i. InOrder i xs high) (omega (arith, next_is c there.0.marked, same)) order.1 in
        let test : entry_test n c ≡ true = rw (there.0.marked, eq-eqb c.count n (same ∙ sym place)) refl in
        let event : Some (event_of c.deed) ≡ Some e = sym there.0.stands ∙ (ap (slice_get h) (same ∙ sym place) ∙ at) in
        record {
          call = c;
          count = same ∙ sym place;
          event = ap (λ (o : Option Event). or_given (event_of c.deed) o) event;
          alone = keeps (entry_test n) c xs test ∙ ap (λ w. c ∷ w) (none_below n (suc low) high xs (omega (arith, place)) after).1;
        }
    by more (yes same) (no ne) =
        let after : InOrder (suc low) xs high = subst (λ i. InOrder i xs high) (omega (arith, next_is c there.0.marked, same)) order.1 in
        let split : ◌∷◌ (event_of c.deed) (map (λ d. event_of d.deed) xs) ≡ event_of c.deed ∷ rest = all ∙ ap (λ w. w ++ rest) (here cs k h low c there.0 same) in
        let found = more xs (omega (arith, is)) there.1 after (ap tail_of split) (omega (arith, lo, ne)) hi at names in
        record {
          call = found.call;
          count = found.count;
          event = found.event;
          alone = drops (entry_test n) c xs (elsewhere n c (λ p. ne (sym p ∙ same))).1 ∙ found.alone;
        }
    by more (no other) place =
        let later : InOrder (suc low) (c ∷ xs) high = (omega (arith, order.0, other), order.1) in
        let less : suc (length xs) ≤ length rest = fewer cs k h m (suc low) high (c ∷ xs) (omega (arith, is)) there later in
        let long : suc (length xs) ≡ length first + length rest = (sym (length_map xs) ∙ ap length all) ∙ length-append first rest in
        let empty : first ≡ [] = nothing first (omega (arith, long, less)) in
        by_place more place empty (all ∙ ap (λ w. w ++ rest) empty) later
      where
        length_map : (ys : List Call) → suc (length (map (λ d. event_of d.deed) ys)) ≡ suc (length ys)
        length_map [] = refl
        length_map (y ∷ ys) = ap suc (length_map ys)

        nothing : (ys : List Event) → length ys ≡ 0 → ys ≡ []
        nothing [] p = refl
        nothing (y ∷ ys) p = absurd (omega (arith, p))

        by_place : More → Dec (n ≡ low) → first ≡ [] → map (λ d. event_of d.deed) (c ∷ xs) ≡ rest → InOrder (suc low) (c ∷ xs) high → Found n e (c ∷ xs)
        by_place more (yes same) empty left later =
            let one_here : first ≡ e ∷ [] = named_one cs k h low e (ap (slice_get h) (sym same) ∙ at) names in
            absurd (let l = ap length (sym one_here ∙ empty) in omega (arith, l))
        by_place more (no ne) empty left later = more (c ∷ xs) (omega (arith, is)) there later left (omega (arith, lo, ne)) hi at names

-- ---- a caller's entries among all calls

-- the entries of calls, and what each needs to stand in the history
abbrev entered : List Call → List Call
entered xs = filter (λ c. c.entry) xs

order_entered : (low high : ℕ) (xs : List Call) → InOrder low xs high → InOrder low (entered xs) high
order_entered low high [] o = o
order_entered low high (c ∷ xs) o = by (order_entered (next_count c) high xs o.1) c.entry refl
  where
    by : InOrder (next_count c) (entered xs) high → (b : Bool) → c.entry ≡ b → InOrder low (if b then c ∷ entered xs else entered xs) high
    by rest true e = (o.0, rest)
    by rest false e = order_lower low (next_count c) high (entered xs) (omega (arith, o.0, count_next c)) rest

stands_of : (o : Opening) (h : List Event) (c : Call) → IsCall o h c → c.entry ≡ true → slice_get h c.count ≡ Some (event_of c.deed)
stands_of o h c (Entry i) e = i.stands
stands_of o h c (Read i) e = absurd (true≢false (sym e ∙ i.marked))
stands_of o h c (Short i) e = absurd (true≢false (sym e ∙ i.marked))

doer_is : (cs : List ℕ) (k : ℕ) (c : Call) → (doer cs c.deed == k) ≡ true → doer cs c.deed ≡ k
doer_is cs k c e = eqb_is (doer cs c.deed) k e

there_entered : (o : Opening) (h : List Event) (cs : List ℕ) (k : ℕ) (xs : List Call) → Each (IsCall o h) (calls_of cs k xs) → Each (IsThere cs k h) (entered (calls_of cs k xs))
there_entered o h cs k [] each = tt
there_entered o h cs k (c ∷ xs) each = by (there_entered o h cs k xs) (doer cs c.deed == k) refl each
  where
    by : (Each (IsCall o h) (calls_of cs k xs) → Each (IsThere cs k h) (entered (calls_of cs k xs))) → (b : Bool) → (doer cs c.deed == k) ≡ b → Each (IsCall o h) (if b then c ∷ calls_of cs k xs else calls_of cs k xs) → Each (IsThere cs k h) (entered (if b then c ∷ calls_of cs k xs else calls_of cs k xs))
    by ih false e each = ih each
    by ih true e each = marked (ih each.1) c.entry refl
      where
        marked : Each (IsThere cs k h) (entered (calls_of cs k xs)) → (b : Bool) → c.entry ≡ b → Each (IsThere cs k h) (if b then c ∷ entered (calls_of cs k xs) else entered (calls_of cs k xs))
        marked rest true m = (record { marked = m; stands = stands_of o h c each.0 m; names = named_doer cs c.deed ∙ doer_is cs k c e }, rest)
        marked rest false m = rest

-- who does an entry of this number is the caller that the history's entry names
entry_doer : (o : Opening) (h : List Event) (cs : List ℕ) (n : ℕ) (e : Event) (c : Call) → slice_get h n ≡ Some e → IsCall o h c → c.entry ≡ true → c.count ≡ n → doer cs c.deed ≡ named cs e
entry_doer o h cs n e c at call m is =
    let same : Some (event_of c.deed) ≡ Some e = sym (stands_of o h c call m) ∙ (ap (slice_get h) is ∙ at) in
    sym (named_doer cs c.deed) ∙ ap (λ (x : Option Event). named cs (or_given e x)) same

-- so the entries of this number are that caller's
same_at : (o : Opening) (h : List Event) (cs : List ℕ) (n : ℕ) (e : Event) (xs : List Call) → slice_get h n ≡ Some e → Each (IsCall o h) xs → entry_at n xs ≡ entry_at n (entered (calls_of cs (named cs e) xs))
same_at o h cs n e [] at each = refl
same_at o h cs n e (c ∷ xs) at each = by (same_at o h cs n e xs at each.1) c.entry (ℕ_discrete c.count n) (doer cs c.deed == named cs e) refl refl
  where
    kept : Bool → List Call
    kept b = if b then c ∷ calls_of cs (named cs e) xs else calls_of cs (named cs e) xs

    by : entry_at n xs ≡ entry_at n (entered (calls_of cs (named cs e) xs)) → (b : Bool) → Dec (c.count ≡ n) → (d : Bool) → c.entry ≡ b → (doer cs c.deed == named cs e) ≡ d → entry_at n (c ∷ xs) ≡ entry_at n (entered (kept d))
    by ih false at_n d m f = drops (entry_test n) c xs (rw m refl) ∙ (ih ∙ sym (skip d))
      where
        skip : (d : Bool) → entry_at n (entered (kept d)) ≡ entry_at n (entered (calls_of cs (named cs e) xs))
        skip true = ap (entry_at n) (drops (λ x. x.entry) c (calls_of cs (named cs e) xs) m)
        skip false = refl
    by ih true (no other) d m f = drops (entry_test n) c xs (elsewhere n c other).1 ∙ (ih ∙ sym (skip d))
      where
        skip : (d : Bool) → entry_at n (entered (kept d)) ≡ entry_at n (entered (calls_of cs (named cs e) xs))
        skip true = ap (entry_at n) (keeps (λ x. x.entry) c (calls_of cs (named cs e) xs) m) ∙ drops (entry_test n) c (entered (calls_of cs (named cs e) xs)) (elsewhere n c other).1
        skip false = refl
    by ih true (yes same) true m f =
        let test : entry_test n c ≡ true = rw (m, eq-eqb c.count n same) refl in
        keeps (entry_test n) c xs test ∙ (ap (λ w. c ∷ w) ih
        ∙ sym (ap (entry_at n) (keeps (λ x. x.entry) c (calls_of cs (named cs e) xs) m) ∙ keeps (entry_test n) c (entered (calls_of cs (named cs e) xs)) test))
    by ih true (yes same) false m f = absurd (true≢false (sym (eq-eqb (doer cs c.deed) (named cs e) (entry_doer o h cs n e c at each.0 m same)) ∙ f))

-- ---- lines

pub map_filter : (n : ℕ) (xs : List Call) → entry_lines n (map line_of xs) ≡ map line_of (entry_at n xs)
map_filter n [] = refl
map_filter n (c ∷ xs) = by (map_filter n xs) (entry_test n c) refl
  where
    by : entry_lines n (map line_of xs) ≡ map line_of (entry_at n xs) → (b : Bool) → entry_test n c ≡ b → (if b then line_of c ∷ entry_lines n (map line_of xs) else entry_lines n (map line_of xs)) ≡ map line_of (if b then c ∷ entry_at n xs else entry_at n xs)
    by ih true e = ap (λ w. line_of c ∷ w) ih
    by ih false e = ih

at_append : (n : ℕ) (xs ys : List Call) → entry_at n (xs ++ ys) ≡ entry_at n xs ++ entry_at n ys
at_append n [] ys = refl
at_append n (c ∷ xs) ys = by (at_append n xs ys) (entry_test n c)
  where
    by : entry_at n (xs ++ ys) ≡ entry_at n xs ++ entry_at n ys → (b : Bool) → (if b then c ∷ entry_at n (xs ++ ys) else entry_at n (xs ++ ys)) ≡ (if b then c ∷ entry_at n xs else entry_at n xs) ++ entry_at n ys
    by ih true = ap (λ w. c ∷ w) ih
    by ih false = ih

no_reads : (n m : ℕ) (xs : List Call) → entry_at n (reads_at m xs) ≡ []
no_reads n m [] = refl
no_reads n m (c ∷ xs) = by (no_reads n m xs) c.entry (c.count == m) refl
  where
    by : entry_at n (reads_at m xs) ≡ [] → (b d : Bool) → c.entry ≡ b → entry_at n (if not b && d then c ∷ reads_at m xs else reads_at m xs) ≡ []
    by ih true d e = ih
    by ih false true e = drops (entry_test n) c (reads_at m xs) (rw e refl) ∙ ih
    by ih false false e = ih

no_callers_reads : (cs : List ℕ) (n m : ℕ) (xs : List Call) (ks : List ℕ) → entry_at n (flat_map (λ k. reads_at m (calls_of cs k xs)) ks) ≡ []
no_callers_reads cs n m xs [] = refl
no_callers_reads cs n m xs (k ∷ ks) =
    at_append n (reads_at m (calls_of cs k xs)) (flat_map (λ j. reads_at m (calls_of cs j xs)) ks)
    ∙ (ap (λ w. w ++ entry_at n (flat_map (λ j. reads_at m (calls_of cs j xs)) ks)) (no_reads n m (calls_of cs k xs)) ∙ no_callers_reads cs n m xs ks)

at_same : (n m : ℕ) (xs : List Call) → n ≡ m → entry_at n (entry_at m xs) ≡ entry_at m xs
at_same n m [] e = refl
at_same n m (c ∷ xs) e = by (at_same n m xs e) (entry_test m c) refl
  where
    by : entry_at n (entry_at m xs) ≡ entry_at m xs → (b : Bool) → entry_test m c ≡ b → entry_at n (if b then c ∷ entry_at m xs else entry_at m xs) ≡ (if b then c ∷ entry_at m xs else entry_at m xs)
    by ih true t = keeps (entry_test n) c (entry_at m xs) (ap (λ i. entry_test i c) e ∙ t) ∙ ap (λ w. c ∷ w) ih
    by ih false t = ih

at_other : (n m : ℕ) (xs : List Call) → n ≢ m → entry_at n (entry_at m xs) ≡ []
at_other n m [] ne = refl
at_other n m (c ∷ xs) ne = by (at_other n m xs ne) c.entry (ℕ_discrete c.count m) refl
  where
    by : entry_at n (entry_at m xs) ≡ [] → (b : Bool) → Dec (c.count ≡ m) → c.entry ≡ b → entry_at n (entry_at m (c ∷ xs)) ≡ []
    by ih false d e = ap (entry_at n) (drops (entry_test m) c xs (rw e refl)) ∙ ih
    by ih true (no other) e = ap (entry_at n) (drops (entry_test m) c xs (elsewhere m c other).1) ∙ ih
    by ih true (yes same) e =
        ap (entry_at n) (keeps (entry_test m) c xs (rw (e, eq-eqb c.count m same) refl))
        ∙ (drops (entry_test n) c (entry_at m xs) (elsewhere n c (λ p. ne (sym p ∙ same))).1 ∙ ih)

-- lines of later counts tell nothing of this entry
later_none : (cs : List ℕ) (xs : List Call) (n low m : ℕ) → n < low → entry_at n (in_told_order cs xs low m) ≡ []
later_none cs xs n low zero lt = no_callers_reads cs n low xs (callers cs)
later_none cs xs n low (suc m) lt =
    at_append n (reads_by_caller cs low xs) (entry_at low xs ++ in_told_order cs xs (suc low) m)
    ∙ (ap (λ w. w ++ entry_at n (entry_at low xs ++ in_told_order cs xs (suc low) m)) (no_callers_reads cs n low xs (callers cs))
    ∙ (at_append n (entry_at low xs) (in_told_order cs xs (suc low) m)
    ∙ (ap (λ w. w ++ entry_at n (in_told_order cs xs (suc low) m)) (at_other n low xs (λ e. omega (arith, e, lt))) ∙ later_none cs xs n (suc low) m (omega (arith, lt)))))

pub told_at : (cs : List ℕ) (xs : List Call) (n low m : ℕ) → low ≤ n → n < low + m → entry_at n (in_told_order cs xs low m) ≡ entry_at n xs
told_at cs xs n low zero lo hi = absurd (omega (arith, lo, hi))
told_at cs xs n low (suc m) lo hi =
    at_append n (reads_by_caller cs low xs) (entry_at low xs ++ in_told_order cs xs (suc low) m)
    ∙ (ap (λ w. w ++ entry_at n (entry_at low xs ++ in_told_order cs xs (suc low) m)) (no_callers_reads cs n low xs (callers cs))
    ∙ (at_append n (entry_at low xs) (in_told_order cs xs (suc low) m) ∙ by (told_at cs xs n (suc low) m) (ℕ_discrete n low)))
  where
    by : (suc low ≤ n → n < suc low + m → entry_at n (in_told_order cs xs (suc low) m) ≡ entry_at n xs) → Dec (n ≡ low) → entry_at n (entry_at low xs) ++ entry_at n (in_told_order cs xs (suc low) m) ≡ entry_at n xs
    by ih (yes same) =
        ap (λ w. w ++ entry_at n (in_told_order cs xs (suc low) m)) (at_same n low xs same)
        ∙ (ap (λ w. entry_at low xs ++ w) (later_none cs xs n (suc low) m (omega (arith, same))) ∙ (append_end (entry_at low xs) ∙ ap (λ i. entry_at i xs) (sym same)))
    by ih (no ne) = ap (λ w. w ++ entry_at n (in_told_order cs xs (suc low) m)) (at_other n low xs ne) ∙ ih (omega (arith, lo, ne)) (omega (arith, hi))

-- ---- the law

take_take : (n : ℕ) (xs : List Event) → take n (take n xs) ≡ take n xs
take_take zero xs = refl
take_take (suc n) [] = refl
take_take (suc n) (x ∷ xs) = ap (λ (w : List Event). x ∷ w) (take_take n xs)

take_less : (m n : ℕ) (xs : List Event) → m ≤ n → take m (take n xs) ≡ take m xs
take_less zero n xs le = refl
take_less (suc m) zero xs le = absurd (omega (arith, le))
take_less (suc m) (suc n) [] le = refl
take_less (suc m) (suc n) (x ∷ xs) le = ap (λ (w : List Event). x ∷ w) (take_less m n xs (omega (arith, le)))

same_end : (xs ys zs : List Event) → xs ++ ys ≡ xs ++ zs → ys ≡ zs
same_end [] ys zs e = e
same_end (x ∷ xs) ys zs e = same_end xs ys zs (ap tail_of e)

get_take : (h : List Event) (n k : ℕ) (e : Event) → n < k → slice_get h n ≡ Some e → slice_get (take k h) n ≡ Some e
get_take h n zero e lt at = absurd (omega (arith, lt))
get_take [] n (suc k) e lt at = at
get_take (x ∷ h) zero (suc k) e lt at = at
get_take (x ∷ h) (suc n) (suc k) e lt at = get_take h n k e (omega (arith, lt)) at

pub each_entry_is_told : EachEntryIsTold
each_entry_is_told workers p h jobs r n e i lo hi at =
    let o : Opening = opening_of p in
    let cs : List ℕ = p.controllers in
    let k : ℕ = named cs e in
    let now : List Event = take r.after h in
    let calls : List Call = i.first ++ i.later in
    let share : IsShare o (take r.before h) now k (calls_of cs k calls) = i.shares k in
    let m : ℕ = r.after - r.before in
    let sum : r.before + m ≡ r.after = omega (arith, i.low) in
    let long : length now ≡ r.after = length-take-le r.after h i.high in
    let short : length (take r.before h) ≡ r.before = length-take-le r.before h (omega (arith, i.low, i.high)) in
    let here_at : slice_get now n ≡ Some e = get_take h n r.after e hi at in
    let whole : take (r.before + m) now ≡ now = ap (λ j. take j now) sum ∙ take_take r.after h in
    let front : take r.before now ≡ take r.before h = take_less r.before r.after h i.low in
    let cut : entries_naming cs k now ≡ entries_naming cs k (take r.before h) ++ named_from cs k now r.before m =
    ap (entries_naming cs k) (sym whole) ∙ (stretch cs k now r.before m (omega (arith, sum, long)) ∙ ap (λ w. entries_naming cs k w ++ named_from cs k now r.before m) front) in
    let mine : entries_of (calls_of cs k calls) ≡ named_from cs k now r.before m = same_end (entries_naming cs k (take r.before h)) (entries_of (calls_of cs k calls)) (named_from cs k now r.before m) (sym share.entries ∙ cut) in
    let order : InOrder r.before (entered (calls_of cs k calls)) r.after =
    order_entered r.before r.after (calls_of cs k calls) (subst (λ j. InOrder j (calls_of cs k calls) r.after) short (subst (λ j. InOrder (length (take r.before h)) (calls_of cs k calls) j) long share.in_order)) in
    let found = all_found cs k now m r.before r.after (entered (calls_of cs k calls)) n e (sym sum) (there_entered o now cs k calls share.each) order mine lo hi here_at refl in
    let each : Each (IsCall o now) calls = each_of_all (IsCall o now) cs calls (λ j. (i.shares j).each) in
    record {
      call = found.call;
      count = found.count;
      event = found.event;
      line = ap (entry_lines n) i.lines ∙ (map_filter n (in_told_order cs calls r.before m) ∙ ap (map line_of) (told_at cs calls n r.before m lo (omega (arith, sum, hi)) ∙ (same_at o now cs n e calls here_at each ∙ found.alone)));
    }
