-- The cuts of a trace that are below a number, and those from it on.
use Rattle.std.proofs.Common.{◌≡◌, ◌<◌, ◌≤◌, ◌⊎◌, inl, inr, ℕ, zero, suc, ◌+◌, ◌*◌, ◌/◌, ◌==◌, ◌||◌, not, Bool, true, false, nat_lt, if◌then◌else◌, List, [], ◌∷◌, ◌++◌, map, filter, Some, None, refl, ap, sym, ◌∙◌, subst, arith, eq-eqb, length, min}
use Rattle.std.specs.List.{list_any, slice_get}
use Rattle.std.proofs.lemmas.Grind.{common_steps}
use native.Mathlib.Decide.{ℕ_discrete}
use Rattle.vsw_commandfile.specs.declared.line.Line.{Line}
use Rattle.vsw_port.specs.Order.{ascending, counted}
use Rattle.vsw_promise.specs.Jobs.{cuts, cuts_within, multiples_below}
use Rattle.vsw_promise.specs.Schedule.{commands_at, head_of, next_at}
use Rattle.vsw_replay.specs.Private.Cut.{is_named_by, IsCut, IsNextCut, cuts_until, AreBehind}
use Rattle.vsw_replay.proofs.Ordered.{Has, Ascends, has_from, one_list, eq_is, lt_is, lt_not, ascending_ascends, has_ascending, ascending_has, has_filter, filter_has, ascends_filter, has_append, append_has, ascends_append}

-- ---- which numbers are cuts

has_at : (commands : List Line) (k : ℕ) → Has k (map (λ l. l.at) commands) → is_named_by commands k ≡ true
has_at [] k h = absurd h
has_at (l ∷ ls) k (inl e) = let t = eq-eqb l.at k e in ap (λ b. b || is_named_by ls k) t
has_at (l ∷ ls) k (inr h) = by (l.at == k) (has_at ls k h)
  where
    by : (b : Bool) → is_named_by ls k ≡ true → (b || is_named_by ls k) ≡ true
    by true e = refl
    by false e = e

at_has : (commands : List Line) (k : ℕ) → is_named_by commands k ≡ true → Has k (map (λ l. l.at) commands)
at_has [] k e = absurd (cc e)
at_has (l ∷ ls) k e = by (l.at == k) refl e (at_has ls k)
  where
    by : (b : Bool) → (l.at == k) ≡ b → (b || is_named_by ls k) ≡ true → (is_named_by ls k ≡ true → Has k (map (λ l. l.at) ls)) → (l.at ≡ k) ⊎ Has k (map (λ l. l.at) ls)
    by true t e ih = inl (eq_is l.at k t)
    by false t e ih = inr (ih e)

has_multiple : (k a m : ℕ) → Has k (map (λ i. 1024 * i) (counted a m)) → (i : ℕ) × (i < a + m) × (k ≡ 1024 * i)
has_multiple k a zero h = absurd h
has_multiple k a (suc m) (inl e) = (a, omega arith, sym e)
has_multiple k a (suc m) (inr h) = let t = has_multiple k (suc a) m h in (t.0, omega (arith, t.1), t.2)

multiple_has : (k i a m : ℕ) → a ≤ i → i < a + m → k ≡ 1024 * i → Has k (map (λ i. 1024 * i) (counted a m))
multiple_has k i a zero le lt e = absurd (omega (arith, le, lt))
multiple_has k i a (suc m) le lt e = by (ℕ_discrete a i) (λ ne. multiple_has k i (suc a) m (omega (arith, le, ne)) (omega (arith, lt)) e)
  where
    by : Dec (a ≡ i) → ((a ≡ i → ⊥) → Has k (map (λ i. 1024 * i) (counted (suc a) m))) → (1024 * a ≡ k) ⊎ Has k (map (λ i. 1024 * i) (counted (suc a) m))
    by (yes same) ih = inl (omega (arith, same, e))
    by (no ne) ih = inr (ih ne)

-- the cuts of a trace of this many records
abbrev pub IsCutOf : List Line → ℕ → ℕ → Type 0
IsCutOf commands total k = (k ≡ 0) ⊎ (is_named_by commands k ≡ true) ⊎ ((i : ℕ) × (k ≡ 1024 * i) × (k < total))

abbrev named : List Line → ℕ → List ℕ
named commands total = map (λ l. l.at) commands ++ multiples_below total

has_cut : (commands : List Line) (total k : ℕ) → Has k (cuts commands total) → IsCutOf commands total k
has_cut commands total k h = by (has_ascending k (0 ∷ named commands total) h)
  where
    last : (i : ℕ) × (i < 0 + (total + 1023) / 1024) × (k ≡ 1024 * i) → IsCutOf commands total k
    last t = inr (inr (t.0, t.2, omega (arith, t.1, t.2)))

    other : Has k (map (λ l. l.at) commands) ⊎ Has k (multiples_below total) → IsCutOf commands total k
    other (inl h) = inr (inl (has_at commands k h))
    other (inr h) = last (has_multiple k 0 ((total + 1023) / 1024) h)

    by : (0 ≡ k) ⊎ Has k (named commands total) → IsCutOf commands total k
    by (inl e) = inl (sym e)
    by (inr h) = other (has_append k (map (λ l. l.at) commands) (multiples_below total) h)

cut_has : (commands : List Line) (total k : ℕ) → IsCutOf commands total k → Has k (cuts commands total)
cut_has commands total k c = ascending_has k (0 ∷ named commands total) (by c)
  where
    by : IsCutOf commands total k → Has k (0 ∷ named commands total)
    by (inl e) = inl (sym e)
    by (inr (inl t)) = inr (append_has k (map (λ l. l.at) commands) (multiples_below total) (inl (at_has commands k t)))
    by (inr (inr t)) = inr (append_has k (map (λ l. l.at) commands) (multiples_below total) (inr (multiple_has k t.0 0 ((total + 1023) / 1024) (omega arith) (omega (arith, t.1, t.2)) t.1)))

cuts_ascend : (commands : List Line) (total : ℕ) → Ascends 0 (cuts commands total)
cuts_ascend commands total = ascending_ascends (0 ∷ named commands total)

-- a cut below the number of records
pub cut_of : (commands : List Line) (total k : ℕ) → IsCut commands k → k < total → IsCutOf commands total k
cut_of commands total k (inl t) lt = inr (inl t)
cut_of commands total k (inr t) lt = inr (inr (t.0, t.1, lt))

of_cut : (commands : List Line) (total k : ℕ) → IsCutOf commands total k → IsCut commands k
of_cut commands total k (inl e) = inr (0, omega (arith, e))
of_cut commands total k (inr (inl t)) = inl t
of_cut commands total k (inr (inr t)) = inr (t.0, t.1)

below : (n total : ℕ) → n < total → nat_lt n total ≡ true
below n total lt = grind (arith, common_steps)

-- ---- the cuts below a number

pub until_ascends : (commands : List Line) (total low : ℕ) → Ascends 0 (cuts_until commands total low)
until_ascends commands total low = ascends_filter (λ n. nat_lt n low) 0 (cuts commands total) (cuts_ascend commands total)

has_until : (commands : List Line) (total low k : ℕ) → Has k (cuts_until commands total low) → IsCutOf commands total k × (k < low)
has_until commands total low k h = let t = has_filter (λ n. nat_lt n low) k (cuts commands total) h in (has_cut commands total k t.0, lt_is k low t.1)

until_has : (commands : List Line) (total low k : ℕ) → IsCutOf commands total k → k < low → Has k (cuts_until commands total low)
until_has commands total low k c lt = filter_has (λ n. nat_lt n low) k (cuts commands total) (cut_has commands total k c) (below k low lt)

pub until_below : (commands : List Line) (total low k : ℕ) → Has k (cuts_until commands total low) → k < low
until_below commands total low k h = (has_until commands total low k h).1

pub within_below : (commands : List Line) (total k : ℕ) → Has k (cuts_within commands total) → k < total
within_below commands total k h = until_below commands total total k h

-- a filter that each passes
filter_all : (p : ℕ → Bool) (ms : List ℕ) → ((k : ℕ) → Has k ms → p k ≡ true) → filter p ms ≡ ms
filter_all p [] f = refl
filter_all p (m ∷ ms) f = let here : p m ≡ true = f m (inl refl) in rw here (ap (λ w. m ∷ w) (filter_all p ms (λ k h. f k (inr h))))

-- without commands no round begins past the last packet
pub all_within : (total : ℕ) → 0 < total → cuts_within [] total ≡ cuts [] total
all_within total some = filter_all (λ n. nat_lt n total) (cuts [] total) (λ k h. below k total (by k (has_cut [] total k h)))
  where
    by : (k : ℕ) → IsCutOf [] total k → k < total
    by k (inl e) = omega (arith, e, some)
    by k (inr (inl t)) = absurd (cc t)
    by k (inr (inr t)) = t.2

-- cuts and one more behind them
push_ascends : (commands : List Line) (total low n : ℕ) → low ≤ n → Ascends 0 (cuts_until commands total low ++ n ∷ [])
push_ascends commands total low n le = ascends_append 0 n (cuts_until commands total low) (n ∷ []) (omega arith) (until_ascends commands total low) (λ k h. omega (arith, le, until_below commands total low k h)) (omega arith, tt)

pushed : (k n : ℕ) (xs : List ℕ) → Has k (xs ++ n ∷ []) → Has k xs ⊎ (n ≡ k)
pushed k n xs h = by (has_append k xs (n ∷ []) h)
  where
    by : Has k xs ⊎ ((n ≡ k) ⊎ ⊥) → Has k xs ⊎ (n ≡ k)
    by (inl h) = inl h
    by (inr (inl e)) = inr e
    by (inr (inr b)) = absurd b

push : (k n : ℕ) (xs : List ℕ) → Has k xs ⊎ (n ≡ k) → Has k (xs ++ n ∷ [])
push k n xs (inl h) = append_has k xs (n ∷ []) (inl h)
push k n xs (inr e) = append_has k xs (n ∷ []) (inr (inl e))

-- the cuts of one trace below one number are those of another below another, and one more
pushed_is : (commands : List Line) (total low all high n : ℕ) → low ≤ n → ((k : ℕ) → IsCutOf commands all k → k < high → (IsCutOf commands total k × (k < low)) ⊎ (n ≡ k)) → ((k : ℕ) → IsCutOf commands total k → k < low → IsCutOf commands all k × (k < high)) → IsCutOf commands all n × (n < high)
    → cuts_until commands all high ≡ cuts_until commands total low ++ n ∷ []
pushed_is commands total low all high n le f g c = one_list 0 (cuts_until commands all high) (cuts_until commands total low ++ n ∷ []) (until_ascends commands all high) (push_ascends commands total low n le)
    (λ k h. let t = has_until commands all high k h in push k n (cuts_until commands total low) (there k (f k t.0 t.1)))
    (λ k h. back k (pushed k n (cuts_until commands total low) h))
  where
    there : (k : ℕ) → (IsCutOf commands total k × (k < low)) ⊎ (n ≡ k) → Has k (cuts_until commands total low) ⊎ (n ≡ k)
    there k (inl t) = inl (until_has commands total low k t.0 t.1)
    there k (inr e) = inr e

    back : (k : ℕ) → Has k (cuts_until commands total low) ⊎ (n ≡ k) → Has k (cuts_until commands all high)
    back k (inl h) = let t = has_until commands total low k h in let u = g k t.0 t.1 in until_has commands all high k u.0 u.1
    back k (inr e) = subst (λ m. Has m (cuts_until commands all high)) e (until_has commands all high n c.0 c.1)

-- below a number that is no more than either number of records, the cuts of two traces are the same
moved : (commands : List Line) (total all k : ℕ) → k < all → IsCutOf commands total k → IsCutOf commands all k
moved commands total all k lt c = cut_of commands all k (of_cut commands total k c) lt

split_at : (k n : ℕ) → (k < n) ⊎ (k ≡ n) ⊎ (n < k)
split_at k n = by (nat_lt k n) (nat_lt n k) refl refl
  where
    by : (b c : Bool) → nat_lt k n ≡ b → nat_lt n k ≡ c → (k < n) ⊎ (k ≡ n) ⊎ (n < k)
    by true c e f = inl (lt_is k n e)
    by false true e f = inr (inr (lt_is n k f))
    by false false e f = inr (inl (omega (arith, lt_not k n e, lt_not n k f)))

-- a round more that has packets
pub within_step : (commands : List Line) (first total : ℕ) → IsCut commands first → first < total → ((n : ℕ) → first < n → IsCut commands n → total ≤ n) → cuts_within commands total ≡ cuts_within commands first ++ first ∷ []
within_step commands first total cut lt least = pushed_is commands first first total total first (omega arith)
    (λ k c below_total. by k c below_total (split_at k first))
    (λ k c below_first. (moved commands first total k (omega (arith, lt, below_first)) c, omega (arith, lt, below_first)))
    (cut_of commands total first cut lt, lt)
  where
    by : (k : ℕ) → IsCutOf commands total k → k < total → (k < first) ⊎ (k ≡ first) ⊎ (first < k) → (IsCutOf commands first k × (k < first)) ⊎ (first ≡ k)
    by k c t (inl s) = inl (moved commands total first k s c, s)
    by k c t (inr (inl e)) = inr (sym e)
    by k c t (inr (inr g)) = absurd (omega (arith, t, least k g (of_cut commands total k c)))

-- the rounds that follow a cut
pub within_more : (commands : List Line) (first total : ℕ) → IsCut commands first → first < total → (rest : List ℕ) × (cuts_within commands total ≡ cuts_within commands first ++ first ∷ rest)
within_more commands first total cut lt = (later, one_list 0 (cuts_within commands total) (cuts_within commands first ++ first ∷ later) (until_ascends commands total total) ascend there back)
  where
    later : List ℕ
    later = filter (λ n. nat_lt first n) (cuts_within commands total)

    up : (n : ℕ) → Has n later → (first < n) × Has n (cuts_within commands total)
    up n h = let t = has_filter (λ n. nat_lt first n) n (cuts_within commands total) h in (lt_is first n t.1, t.0)

    rises : (low : ℕ) (ms : List ℕ) → Ascends low ms → ((n : ℕ) → Has n ms → first < n) → Ascends (suc first) ms
    rises low [] a f = tt
    rises low (m ∷ ms) a f = (f m (inl refl), a.1)

    ascend : Ascends 0 (cuts_within commands first ++ first ∷ later)
    ascend = ascends_append 0 first (cuts_within commands first) (first ∷ later) (omega arith) (until_ascends commands first first) (λ k h. within_below commands first k h)
        (omega arith, rises 0 later (ascends_filter (λ n. nat_lt first n) 0 (cuts_within commands total) (until_ascends commands total total)) (λ n h. (up n h).0))

    by : (k : ℕ) → IsCutOf commands total k → k < total → (k < first) ⊎ (k ≡ first) ⊎ (first < k) → Has k (cuts_within commands first) ⊎ Has k (first ∷ later)
    by k c t (inl s) = inl (until_has commands first first k (moved commands total first k s c) s)
    by k c t (inr (inl e)) = inr (inl (sym e))
    by k c t (inr (inr g)) = inr (inr (filter_has (λ n. nat_lt first n) k (cuts_within commands total) (until_has commands total total k c t) (below first k g)))

    there : (k : ℕ) → Has k (cuts_within commands total) → Has k (cuts_within commands first ++ first ∷ later)
    there k h = let t = has_until commands total total k h in append_has k (cuts_within commands first) (first ∷ later) (by k t.0 t.1 (split_at k first))

    other : (k : ℕ) → Has k (cuts_within commands first) ⊎ Has k (first ∷ later) → Has k (cuts_within commands total)
    other k (inl h) = let t = has_until commands first first k h in until_has commands total total k (moved commands first total k (omega (arith, lt, t.1)) t.0) (omega (arith, lt, t.1))
    other k (inr (inl e)) = subst (λ m. Has m (cuts_within commands total)) e (until_has commands total total first (cut_of commands total first cut lt) lt)
    other k (inr (inr h)) = (up k h).1

    back : (k : ℕ) → Has k (cuts_within commands first ++ first ∷ later) → Has k (cuts_within commands total)
    back k h = other k (has_append k (cuts_within commands first) (first ∷ later) h)

-- ---- the cuts of a trace that ended

-- a round more, where the trace ended in it or before it
pub until_first : (commands : List Line) (first total : ℕ) → first ≤ total → IsCutOf commands total first → cuts_until commands total (first + 1) ≡ cuts_within commands first ++ first ∷ []
until_first commands first total le cut = pushed_is commands first first total (first + 1) first (omega arith)
    (λ k c t. by k c t (split_at k first))
    (λ k c t. (moved commands first total k (omega (arith, t, le)) c, omega (arith, t)))
    (cut, omega arith)
  where
    by : (k : ℕ) → IsCutOf commands total k → k < first + 1 → (k < first) ⊎ (k ≡ first) ⊎ (first < k) → (IsCutOf commands first k × (k < first)) ⊎ (first ≡ k)
    by k c t (inl s) = inl (moved commands total first k s c, s)
    by k c t (inr (inl e)) = inr (sym e)
    by k c t (inr (inr g)) = absurd (omega (arith, t, g))

-- no round begins where the trace ended
pub until_none : (commands : List Line) (first : ℕ) → 0 < first → is_named_by commands first ≡ false → cuts_until commands first (first + 1) ≡ cuts_within commands first
until_none commands first some unnamed = one_list 0 (cuts_until commands first (first + 1)) (cuts_within commands first) (until_ascends commands first (first + 1)) (until_ascends commands first first)
    (λ k h. let t = has_until commands first (first + 1) k h in until_has commands first first k t.0 (by k t.0 (split_at k first) t.1))
    (λ k h. let t = has_until commands first first k h in until_has commands first (first + 1) k t.0 (omega (arith, t.1)))
  where
    not_first : IsCutOf commands first first → ⊥
    not_first (inl e) = omega (arith, e, some)
    not_first (inr (inl t)) = cc (t, unnamed)
    not_first (inr (inr t)) = omega (arith, t.2)

    by : (k : ℕ) → IsCutOf commands first k → (k < first) ⊎ (k ≡ first) ⊎ (first < k) → k < first + 1 → k < first
    by k c (inl s) lt = s
    by k c (inr (inl e)) lt = absurd (not_first (subst (λ m. IsCutOf commands first m) e c))
    by k c (inr (inr g)) lt = absurd (omega (arith, lt, g))

-- ---- the next packet that a command names

head_is : (n : ℕ) (ns : List ℕ) → head_of ns ≡ Some n → (rest : List ℕ) × (ns ≡ n ∷ rest)
head_is n [] e = absurd (cc e)
head_is n (m ∷ ms) e = (ms, let f : m ≡ n = cc e in ap (λ k. k ∷ ms) f)

none_is : (ns : List ℕ) → head_of ns ≡ None → ns ≡ []
none_is [] e = refl
none_is (m ∷ ms) e = absurd (cc e)

abbrev from_on : ℕ → List Line → List ℕ
from_on low commands = filter (λ n. not (nat_lt n low)) (ascending (map (λ l. l.at) commands))

not_lt : (n low : ℕ) → not (nat_lt n low) ≡ true → low ≤ n
not_lt n low h = grind (arith, common_steps)

lt_none : (n low : ℕ) → low ≤ n → not (nat_lt n low) ≡ true
lt_none n low h = grind (arith, common_steps)

has_named : (commands : List Line) (low k : ℕ) → low ≤ k → is_named_by commands k ≡ true → Has k (from_on low commands)
has_named commands low k le t = filter_has (λ n. not (nat_lt n low)) k (ascending (map (λ l. l.at) commands)) (ascending_has k (map (λ l. l.at) commands) (at_has commands k t)) (lt_none k low le)

pub record IsNextNamed (commands : List Line) (low n : ℕ) : Type 0 where
  pub from : low ≤ n
  pub is_named : is_named_by commands n ≡ true
  pub least : (k : ℕ) → low ≤ k → is_named_by commands k ≡ true → n ≤ k

pub next_some : (commands : List Line) (low n : ℕ) → next_at low commands ≡ Some n → IsNextNamed commands low n
next_some commands low n e =
    let h = head_is n (from_on low commands) e in
    let there : Has n (from_on low commands) = subst (Has n) (sym h.1) (inl refl) in
    let t = has_filter (λ n. not (nat_lt n low)) n (ascending (map (λ l. l.at) commands)) there in
    let a : Ascends 0 (n ∷ h.0) = subst (Ascends 0) h.1 (ascends_filter (λ n. not (nat_lt n low)) 0 (ascending (map (λ l. l.at) commands)) (ascending_ascends (map (λ l. l.at) commands))) in record {
      from = not_lt n low t.1;
      is_named = has_at commands n (has_ascending n (map (λ l. l.at) commands) t.0);
      least = λ k le s. has_from n k (n ∷ h.0) (omega arith, a.1) (subst (Has k) h.1 (has_named commands low k le s));
    }

pub next_none : (commands : List Line) (low k : ℕ) → next_at low commands ≡ None → low ≤ k → is_named_by commands k ≡ true → ⊥
next_none commands low k e le t = subst (Has k) (none_is (from_on low commands) e) (has_named commands low k le t)

-- a round more behind the trace
pub until_next : (commands : List Line) (first total n : ℕ) → next_at (first + 1) commands ≡ Some n → AreBehind commands first total → cuts_until commands total (n + 1) ≡ cuts_until commands total (first + 1) ++ n ∷ []
until_next commands first total n e behind =
    let next = next_some commands (first + 1) n e in
    pushed_is commands total (first + 1) total (n + 1) n next.from
    (λ k c t. by next k c t c (split_at k first))
    (λ k c t. (c, omega (arith, t, next.from)))
    (inr (inl next.is_named), omega arith)
  where
    later : IsNextNamed commands (first + 1) n → (k : ℕ) → first < k → k < n + 1 → IsCutOf commands total k → n ≡ k
    later next k g t (inl z) = absurd (omega (arith, g, z))
    later next k g t (inr (inl s)) = omega (arith, next.least k (omega (arith, g)) s, t)
    later next k g t (inr (inr m)) = absurd (omega (arith, behind k g (inr (m.0, m.1)), m.2))

    by : IsNextNamed commands (first + 1) n → (k : ℕ) → IsCutOf commands total k → k < n + 1 → IsCutOf commands total k → (k < first) ⊎ (k ≡ first) ⊎ (first < k) → (IsCutOf commands total k × (k < first + 1)) ⊎ (n ≡ k)
    by next k c t d (inl s) = inl (c, omega (arith, s))
    by next k c t d (inr (inl f)) = inl (c, omega (arith, f))
    by next k c t d (inr (inr g)) = inr (later next k g t d)

-- no further round
pub until_last : (commands : List Line) (first total : ℕ) → next_at (first + 1) commands ≡ None → AreBehind commands first total → cuts_until commands total (first + 1) ≡ cuts commands total
until_last commands first total e behind = one_list 0 (cuts_until commands total (first + 1)) (cuts commands total) (until_ascends commands total (first + 1)) (cuts_ascend commands total)
    (λ k h. cut_has commands total k (has_until commands total (first + 1) k h).0)
    (λ k h. let c = has_cut commands total k h in until_has commands total (first + 1) k c (by k c (split_at k first)))
  where
    later : (k : ℕ) → first < k → IsCutOf commands total k → ⊥
    later k g (inl z) = omega (arith, g, z)
    later k g (inr (inl s)) = next_none commands (first + 1) k e (omega (arith, g)) s
    later k g (inr (inr m)) = omega (arith, behind k g (inr (m.0, m.1)), m.2)

    by : (k : ℕ) → IsCutOf commands total k → (k < first) ⊎ (k ≡ first) ⊎ (first < k) → k < first + 1
    by k c (inl s) = omega (arith, s)
    by k c (inr (inl f)) = omega (arith, f)
    by k c (inr (inr g)) = absurd (later k g c)

-- the rounds that follow
pub record UntilMore (commands : List Line) (first total : ℕ) : Type 0 where
  pub rest : List ℕ
  pub all : cuts commands total ≡ cuts_until commands total (first + 1) ++ rest
  pub after : (n : ℕ) → Has n rest → (first < n) × (total ≤ n)

pub until_more : (commands : List Line) (first total : ℕ) → AreBehind commands first total → UntilMore commands first total
until_more commands first total behind = record {
  rest = later;
  all = one_list 0 (cuts commands total) (cuts_until commands total (first + 1) ++ later) (cuts_ascend commands total) ascend there back;
  after = λ n h. let t = up n h in (t.0, behind n t.0 (of_cut commands total n (has_cut commands total n t.1)));
}
  where
    later : List ℕ
    later = filter (λ n. nat_lt first n) (cuts commands total)

    up : (n : ℕ) → Has n later → (first < n) × Has n (cuts commands total)
    up n h = let t = has_filter (λ n. nat_lt first n) n (cuts commands total) h in (lt_is first n t.1, t.0)

    rises : (low : ℕ) (ms : List ℕ) → Ascends low ms → ((n : ℕ) → Has n ms → first < n) → Ascends (first + 1) ms
    rises low [] a f = tt
    rises low (m ∷ ms) a f = (omega (arith, f m (inl refl)), a.1)

    ascend : Ascends 0 (cuts_until commands total (first + 1) ++ later)
    ascend = ascends_append 0 (first + 1) (cuts_until commands total (first + 1)) later (omega arith) (until_ascends commands total (first + 1)) (λ k h. until_below commands total (first + 1) k h)
        (rises 0 later (ascends_filter (λ n. nat_lt first n) 0 (cuts commands total) (cuts_ascend commands total)) (λ n h. (up n h).0))

    by : (k : ℕ) → Has k (cuts commands total) → (k < first) ⊎ (k ≡ first) ⊎ (first < k) → Has k (cuts_until commands total (first + 1)) ⊎ Has k later
    by k h (inl s) = inl (until_has commands total (first + 1) k (has_cut commands total k h) (omega (arith, s)))
    by k h (inr (inl e)) = inl (until_has commands total (first + 1) k (has_cut commands total k h) (omega (arith, e)))
    by k h (inr (inr g)) = inr (filter_has (λ n. nat_lt first n) k (cuts commands total) h (below first k g))

    there : (k : ℕ) → Has k (cuts commands total) → Has k (cuts_until commands total (first + 1) ++ later)
    there k h = append_has k (cuts_until commands total (first + 1)) later (by k h (split_at k first))

    other : (k : ℕ) → Has k (cuts_until commands total (first + 1)) ⊎ Has k later → Has k (cuts commands total)
    other k (inl h) = cut_has commands total k (has_until commands total (first + 1) k h).0
    other k (inr h) = (up k h).1

    back : (k : ℕ) → Has k (cuts_until commands total (first + 1) ++ later) → Has k (cuts commands total)
    back k h = other k (has_append k (cuts_until commands total (first + 1)) later h)

-- a trace without records has no rounds that begin at one
pub within_none : (commands : List Line) → cuts_within commands 0 ≡ []
within_none commands = one_list 0 (cuts_within commands 0) [] (until_ascends commands 0 0) tt (λ k h. absurd (omega (arith, within_below commands 0 k h))) (λ k h. absurd h)

-- ---- the next cut

pub next_multiple : (commands : List Line) (first : ℕ) → next_at (first + 1) commands ≡ None → IsNextCut commands first ((first / 1024 + 1) * 1024)
next_multiple commands first e = record { above = omega arith; is_cut = inr (first / 1024 + 1, omega arith); least = λ n lt c. by n lt c }
  where
    by : (n : ℕ) → first < n → IsCut commands n → (first / 1024 + 1) * 1024 ≤ n
    by n lt (inl t) = absurd (next_none commands (first + 1) n e (omega (arith, lt)) t)
    by n lt (inr m) = omega (arith, m.1, lt)

pub next_lesser : (commands : List Line) (first named next : ℕ) → next_at (first + 1) commands ≡ Some named → ((next ≡ named) × (named ≤ (first / 1024 + 1) * 1024)) ⊎ ((next ≡ (first / 1024 + 1) * 1024) × ((first / 1024 + 1) * 1024 ≤ named)) → IsNextCut commands first next
next_lesser commands first named next e (inl c) =
    let is = next_some commands (first + 1) named e in
    subst (λ n. IsNextCut commands first n) (sym c.0) (record { above = omega (arith, is.from); is_cut = inl is.is_named; least = λ n lt cut. by is.least n lt cut })
  where
    by : ((k : ℕ) → first + 1 ≤ k → is_named_by commands k ≡ true → named ≤ k) → (n : ℕ) → first < n → IsCut commands n → named ≤ n
    by least n lt (inl t) = least n (omega (arith, lt)) t
    by least n lt (inr m) = omega (arith, m.1, lt, c.1)
next_lesser commands first named next e (inr c) =
    let is = next_some commands (first + 1) named e in
    subst (λ n. IsNextCut commands first n) (sym c.0) (record { above = omega arith; is_cut = inr (first / 1024 + 1, omega arith); least = λ n lt cut. by is.least n lt cut })
  where
    by : ((k : ℕ) → first + 1 ≤ k → is_named_by commands k ≡ true → named ≤ k) → (n : ℕ) → first < n → IsCut commands n → (first / 1024 + 1) * 1024 ≤ n
    by least n lt (inl t) = omega (arith, c.1, least n (omega (arith, lt)) t)
    by least n lt (inr m) = omega (arith, m.1, lt)

-- ---- commands at a packet

abbrev has_some : {A : Type 0} → List A → Bool
has_some [] = false
has_some (x ∷ xs) = true

any_filter : (p : Line → Bool) (ls : List Line) → list_any p ls ≡ has_some (filter p ls)
any_filter p [] = refl
any_filter p (l ∷ ls) = by (p l) (any_filter p ls)
  where
    by : (b : Bool) → list_any p ls ≡ has_some (filter p ls) → (b || list_any p ls) ≡ has_some (if b then l ∷ filter p ls else filter p ls)
    by true ih = refl
    by false ih = ih

as_many : {A B C : Type 0} (f : A → C) (g : B → C) (xs : List A) (ys : List B) → map f xs ≡ map g ys → has_some xs ≡ has_some ys
as_many f g [] [] e = refl
as_many f g [] (y ∷ ys) e = absurd (cc e)
as_many f g (x ∷ xs) [] e = absurd (cc e)
as_many f g (x ∷ xs) (y ∷ ys) e = refl

counts_some : {A : Type 0} (xs : List A) (b : Bool) → b ≡ (length xs == 0) → not b ≡ has_some xs
counts_some [] b e = rw e refl
counts_some (x ∷ xs) b e = grind (arith, common_steps)

pub named_places : (commands : List Line) (first : ℕ) (places : List ℕ) (b : Bool) → b ≡ (length places == 0) → map (λ place. slice_get commands place) places ≡ map Some (commands_at first commands) → not b ≡ is_named_by commands first
named_places commands first places b none e = counts_some places b none ∙ as_many (λ place. slice_get commands place) Some places (commands_at first commands) e ∙ sym (any_filter (λ l. l.at == first) commands)

pub lesser_of : (a b n : ℕ) → n ≡ min a b → ((n ≡ b) × (b ≤ a)) ⊎ ((n ≡ a) × (a ≤ b))
lesser_of a b n e = by (nat_lt a b) refl
  where
    by : (c : Bool) → nat_lt a b ≡ c → ((n ≡ b) × (b ≤ a)) ⊎ ((n ≡ a) × (a ≤ b))
    by true t = inr (omega (arith, e, lt_is a b t), omega (arith, lt_is a b t))
    by false t = inl (omega (arith, e, lt_not a b t), lt_not a b t)
