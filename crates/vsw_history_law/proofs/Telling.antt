-- The calls of a caller are read off the lines.
use Rattle.std.proofs.Common.{◌≡◌, ◌≢◌, ℕ, zero, suc, ◌+◌, ◌<◌, ◌≤◌, ◌==◌, Bool, true, false, not, ◌&&◌, if◌then◌else◌, List, [], ◌∷◌, ◌++◌, map, filter, refl, ap, sym, ◌∙◌, arith, append_assoc, eq-eqb, ne_eqb}
use Rattle.std.specs.List.{flat_map}
use native.Mathlib.Decide.{ℕ_discrete}
use Rattle.vsw_policy.specs.Sound.{Each}
use Rattle.vsw_port.specs.Calls.{Call, Deed, Carried, Asked, controller_at, doer, calls_of, next_count, InOrder}
use Rattle.vsw_port.specs.Order.{ascending, counted, StandsOnce}
use Rattle.vsw_promise.specs.Told.{line_of, line_doer, callers, reads_at, entry_at, reads_by_caller, in_told_order, lines_of}
use Rattle.vsw_port.proofs.Fronts.{append_end}
use Rattle.vsw_port.proofs.Calls.{calls_append, order_lower, each_append}
use Rattle.vsw_port.proofs.Next.{count_next}

-- the calls at each count from one on, first the reads and then the entry, whoever made them
abbrev pub ordered : List Call → ℕ → ℕ → List Call
ordered cs n zero = reads_at n cs
ordered cs n (suc m) = reads_at n cs ++ (entry_at n cs ++ ordered cs (suc n) m)

abbrev read_test : ℕ → Call → Bool
read_test n c = not c.entry && (c.count == n)

abbrev pub entry_test : ℕ → Call → Bool
entry_test n c = c.entry && (c.count == n)

pub keeps : (p : Call → Bool) (c : Call) (cs : List Call) → p c ≡ true → filter p (c ∷ cs) ≡ c ∷ filter p cs
keeps p c cs e = rw e refl

pub drops : (p : Call → Bool) (c : Call) (cs : List Call) → p c ≡ false → filter p (c ∷ cs) ≡ filter p cs
drops p c cs e = rw e refl

not_at : (b : Bool) (x : Bool) → x ≡ false → ((not b && x) ≡ false) × ((b && x) ≡ false)
not_at true x e = (refl, e)
not_at false x e = (e, refl)

pub elsewhere : (n : ℕ) (c : Call) → c.count ≢ n → (read_test n c ≡ false) × (entry_test n c ≡ false)
elsewhere n c ne = not_at c.entry (c.count == n) (ne_eqb c.count n ne)

pub order_high : (low high : ℕ) (cs : List Call) → InOrder low cs high → low ≤ high
order_high low high [] p = p
order_high low high (c ∷ cs) p = omega (arith, p.0, count_next c, order_high (next_count c) high cs p.1)

-- no call is at a count below the first
pub none_below : (n low high : ℕ) (cs : List Call) → n < low → InOrder low cs high → (reads_at n cs ≡ []) × (entry_at n cs ≡ [])
none_below n low high [] lt p = (refl, refl)
none_below n low high (c ∷ cs) lt p =
    let t = elsewhere n c (λ e. omega (arith, e, lt, p.0)) in
    let ih = none_below n (next_count c) high cs (omega (arith, lt, p.0, count_next c)) p.1 in
    (drops (read_test n) c cs t.0 ∙ ih.0, drops (entry_test n) c cs t.1 ∙ ih.1)

-- a call at an earlier count isn't told from here on
ordered_skip : (c : Call) (cs : List Call) (n m : ℕ) → c.count < n → ordered (c ∷ cs) n m ≡ ordered cs n m
ordered_skip c cs n zero lt = drops (read_test n) c cs (elsewhere n c (λ e. omega (arith, e, lt))).0
ordered_skip c cs n (suc m) lt =
    let t = elsewhere n c (λ e. omega (arith, e, lt)) in
    ap (λ w. w ++ (entry_at n (c ∷ cs) ++ ordered (c ∷ cs) (suc n) m)) (drops (read_test n) c cs t.0)
    ∙ ap (λ w. reads_at n cs ++ (w ++ ordered (c ∷ cs) (suc n) m)) (drops (entry_test n) c cs t.1)
    ∙ ap (λ w. reads_at n cs ++ (entry_at n cs ++ w)) (ordered_skip c cs (suc n) m (omega (arith, lt)))

next_if : (c : Call) (b : Bool) → c.entry ≡ b → next_count c ≡ (if b then c.count + 1 else c.count)
next_if c b e = rw e refl

ordered_zero : (n high : ℕ) (cs : List Call) → high ≡ n → InOrder n cs high → ordered cs n zero ≡ cs
ordered_zero n high [] e p = refl
ordered_zero n high (c ∷ cs) e p = by (λ q. ordered_zero n high cs e q) c.entry refl
  where
    by : (InOrder n cs high → ordered cs n zero ≡ cs) → (b : Bool) → c.entry ≡ b → ordered (c ∷ cs) n zero ≡ c ∷ cs
    by ih true t = absurd (let h = order_high (next_count c) high cs p.1 in omega (arith, h, p.0, e, next_if c true t))
    by ih false t =
        let h = order_high (next_count c) high cs p.1 in
        let same : c.count ≡ n = omega (arith, h, p.0, e, next_if c false t) in
        let test : read_test n c ≡ true = rw (t, eq-eqb c.count n same) refl in
        keeps (read_test n) c cs test ∙ ap (λ w. c ∷ w) (ih (order_lower n (next_count c) high cs (omega (arith, next_if c false t, same)) p.1))

ordered_suc : (m n high : ℕ) → high ≡ n + suc m → ((cs : List Call) → InOrder (suc n) cs high → ordered cs (suc n) m ≡ cs) → (cs : List Call) → InOrder n cs high → ordered cs n (suc m) ≡ cs
ordered_suc m n high e ih [] p = ih [] (omega (arith, e))
ordered_suc m n high e ih (c ∷ cs) p = by (λ q. ordered_suc m n high e ih cs q) c.entry refl (ℕ_discrete c.count n)
  where
    by : (InOrder n cs high → ordered cs n (suc m) ≡ cs) → (b : Bool) → c.entry ≡ b → Dec (c.count ≡ n) → ordered (c ∷ cs) n (suc m) ≡ c ∷ cs
    by more b t (no ne) =
        let test = elsewhere n c ne in
        let rest = none_below n (next_count c) high cs (omega (arith, count_next c, p.0, ne)) p.1 in
        ap (λ w. w ++ (entry_at n (c ∷ cs) ++ ordered (c ∷ cs) (suc n) m)) (drops (read_test n) c cs test.0 ∙ rest.0)
        ∙ ap (λ w. w ++ ordered (c ∷ cs) (suc n) m) (drops (entry_test n) c cs test.1 ∙ rest.1)
        ∙ ih (c ∷ cs) (omega (arith, p.0, ne), p.1)
    by more true t (yes same) =
        let rest = none_below n (next_count c) high cs (omega (arith, next_if c true t, same)) p.1 in
        let reads : read_test n c ≡ false = rw t refl in
        let enters : entry_test n c ≡ true = rw (t, eq-eqb c.count n same) refl in
        ap (λ w. w ++ (entry_at n (c ∷ cs) ++ ordered (c ∷ cs) (suc n) m)) (drops (read_test n) c cs reads ∙ rest.0)
        ∙ ap (λ w. w ++ ordered (c ∷ cs) (suc n) m) (keeps (entry_test n) c cs enters ∙ ap (λ w. c ∷ w) rest.1)
        ∙ ap (λ w. c ∷ w) (ordered_skip c cs (suc n) m (omega (arith, same)) ∙ ih cs (order_lower (suc n) (next_count c) high cs (omega (arith, next_if c true t, same)) p.1))
    by more false t (yes same) =
        let reads : read_test n c ≡ true = rw (t, eq-eqb c.count n same) refl in
        let enters : entry_test n c ≡ false = rw t refl in
        ap (λ w. w ++ (entry_at n (c ∷ cs) ++ ordered (c ∷ cs) (suc n) m)) (keeps (read_test n) c cs reads)
        ∙ ap (λ w. c ∷ (reads_at n cs ++ (w ++ ordered (c ∷ cs) (suc n) m))) (drops (entry_test n) c cs enters)
        ∙ ap (λ w. c ∷ (reads_at n cs ++ (entry_at n cs ++ w))) (ordered_skip c cs (suc n) m (omega (arith, same)))
        ∙ ap (λ w. c ∷ w) (more (order_lower n (next_count c) high cs (omega (arith, next_if c false t, same)) p.1))

-- calls in order are told in this order
ordered_is : (m n high : ℕ) (cs : List Call) → high ≡ n + m → InOrder n cs high → ordered cs n m ≡ cs
ordered_is zero n high cs e p = ordered_zero n high cs (omega (arith, e)) p
ordered_is (suc m) n high cs e p = ordered_suc m n high e (λ ds q. ordered_is m (suc n) high ds (omega (arith, e)) q) cs p

-- ---- one caller of many

filter_swap : {A : Type 0} (p q : A → Bool) (xs : List A) → filter p (filter q xs) ≡ filter q (filter p xs)
filter_swap p q [] = refl
filter_swap p q (x ∷ xs) = by (filter_swap p q xs) (p x) (q x) refl refl
  where
    by : filter p (filter q xs) ≡ filter q (filter p xs) → (b c : Bool) → p x ≡ b → q x ≡ c → filter p (if c then x ∷ filter q xs else filter q xs) ≡ filter q (if b then x ∷ filter p xs else filter p xs)
    by ih true true e f = rw (e, f) (ap (λ w. x ∷ w) ih)
    by ih true false e f = rw f ih
    by ih false true e f = rw e ih
    by ih false false e f = ih

filter_twice : {A : Type 0} (p : A → Bool) (xs : List A) → filter p (filter p xs) ≡ filter p xs
filter_twice p [] = refl
filter_twice p (x ∷ xs) = by (filter_twice p xs) (p x) refl
  where
    by : filter p (filter p xs) ≡ filter p xs → (b : Bool) → p x ≡ b → filter p (if b then x ∷ filter p xs else filter p xs) ≡ (if b then x ∷ filter p xs else filter p xs)
    by ih true e = rw e (ap (λ w. x ∷ w) ih)
    by ih false e = ih

filter_apart : {A : Type 0} (p q : A → Bool) (xs : List A) → ((x : A) → q x ≡ true → p x ≡ false) → filter p (filter q xs) ≡ []
filter_apart p q [] h = refl
filter_apart p q (x ∷ xs) h = by (filter_apart p q xs h) (q x) refl
  where
    by : filter p (filter q xs) ≡ [] → (b : Bool) → q x ≡ b → filter p (if b then x ∷ filter q xs else filter q xs) ≡ []
    by ih true e = rw (h x e) ih
    by ih false e = ih

abbrev reads_of : List ℕ → List Call → ℕ → ℕ → List Call
reads_of ns cs n j = reads_at n (calls_of ns j cs)

other_calls : (ns : List ℕ) (cs : List Call) (j k : ℕ) → j ≢ k → calls_of ns k (calls_of ns j cs) ≡ []
other_calls ns cs j k ne = filter_apart (λ c. doer ns c.deed == k) (λ c. doer ns c.deed == j) cs (λ c e. ne_eqb (doer ns c.deed) k (λ f. ne (sym (of_eqb (doer ns c.deed) j e) ∙ f)))
  where
    of_eqb : (a b : ℕ) → (a == b) ≡ true → a ≡ b
    of_eqb a b e = by (ℕ_discrete a b)
      where
        by : Dec (a ≡ b) → a ≡ b
        by (yes f) = f
        by (no ne) = absurd (cc (e, ne_eqb a b ne))

other_reads : (ns : List ℕ) (cs : List Call) (n k : ℕ) (js : List ℕ) → Each (λ j. j ≢ k) js → calls_of ns k (flat_map (reads_of ns cs n) js) ≡ []
other_reads ns cs n k [] e = refl
other_reads ns cs n k (j ∷ js) e =
    calls_append ns k (reads_of ns cs n j) (flat_map (reads_of ns cs n) js)
    ∙ ap (λ w. w ++ calls_of ns k (flat_map (reads_of ns cs n) js)) (filter_swap (λ c. doer ns c.deed == k) (read_test n) (calls_of ns j cs) ∙ ap (reads_at n) (other_calls ns cs j k e.0))
    ∙ other_reads ns cs n k js e.1

flat_append : (f : ℕ → List Call) (xs ys : List ℕ) → flat_map f (xs ++ ys) ≡ flat_map f xs ++ flat_map f ys
flat_append f [] ys = refl
flat_append f (x ∷ xs) ys = ap (λ w. f x ++ w) (flat_append f xs ys) ∙ sym (append_assoc (f x) (flat_map f xs) (flat_map f ys))

own_reads : (ns : List ℕ) (cs : List Call) (n k : ℕ) → StandsOnce k (callers ns) → calls_of ns k (reads_by_caller ns n cs) ≡ reads_at n (calls_of ns k cs)
own_reads ns cs n k s =
    let f = reads_of ns cs n in
    ap (λ js. calls_of ns k (flat_map f js)) s.is
    ∙ (ap (calls_of ns k) (flat_append f s.front (k ∷ s.back))
    ∙ (calls_append ns k (flat_map f s.front) (f k ++ flat_map f s.back)
    ∙ (ap (λ w. w ++ calls_of ns k (f k ++ flat_map f s.back)) (other_reads ns cs n k s.front s.not_front)
    ∙ (calls_append ns k (f k) (flat_map f s.back)
    ∙ (ap (λ w. calls_of ns k (f k) ++ w) (other_reads ns cs n k s.back s.not_back)
    ∙ (append_end (calls_of ns k (f k))
    ∙ (filter_swap (λ c. doer ns c.deed == k) (read_test n) (calls_of ns k cs)
    ∙ ap (reads_at n) (filter_twice (λ c. doer ns c.deed == k) cs))))))))

own_told : (ns : List ℕ) (cs : List Call) (n m k : ℕ) → StandsOnce k (callers ns) → calls_of ns k (in_told_order ns cs n m) ≡ ordered (calls_of ns k cs) n m
own_told ns cs n zero k s = own_reads ns cs n k s
own_told ns cs n (suc m) k s =
    calls_append ns k (reads_by_caller ns n cs) (entry_at n cs ++ in_told_order ns cs (suc n) m)
    ∙ (ap (λ w. w ++ calls_of ns k (entry_at n cs ++ in_told_order ns cs (suc n) m)) (own_reads ns cs n k s)
    ∙ ap (λ w. reads_at n (calls_of ns k cs) ++ w) (calls_append ns k (entry_at n cs) (in_told_order ns cs (suc n) m)
    ∙ (ap (λ w. w ++ calls_of ns k (in_told_order ns cs (suc n) m)) (filter_swap (λ c. doer ns c.deed == k) (entry_test n) cs)
    ∙ ap (λ w. entry_at n (calls_of ns k cs) ++ w) (own_told ns cs (suc n) m k s))))

-- the calls of a caller are told in its order
pub told_calls : (ns : List ℕ) (cs : List Call) (n m k : ℕ) → StandsOnce k (callers ns) → InOrder n (calls_of ns k cs) (n + m) → calls_of ns k (in_told_order ns cs n m) ≡ calls_of ns k cs
told_calls ns cs n m k s p = own_told ns cs n m k s ∙ ordered_is m n (n + m) (calls_of ns k cs) refl p

line_doer_of : (ns : List ℕ) (d : Deed) (c : Call) → c.deed ≡ d → line_doer ns (line_of c) ≡ doer ns c.deed
line_doer_of ns (Carried x p fate bytes) c e = rw e refl
line_doer_of ns (Asked l reply) c e = rw e refl

lines_by : (ns : List ℕ) (k : ℕ) (cs : List Call) → filter (λ l. line_doer ns l == k) (map line_of cs) ≡ map line_of (calls_of ns k cs)
lines_by ns k [] = refl
lines_by ns k (c ∷ cs) = by (lines_by ns k cs) (doer ns c.deed == k) (ap (λ w. w == k) (line_doer_of ns c.deed c refl))
  where
    by : filter (λ l. line_doer ns l == k) (map line_of cs) ≡ map line_of (calls_of ns k cs) → (b : Bool) → (line_doer ns (line_of c) == k) ≡ b → filter (λ l. line_doer ns l == k) (line_of c ∷ map line_of cs) ≡ map line_of (if b then c ∷ calls_of ns k cs else calls_of ns k cs)
    by ih true e = rw e (ap (λ w. line_of c ∷ w) ih)
    by ih false e = rw e ih

-- the lines of a caller are those of its calls, in its order
pub read_off : (ns : List ℕ) (cs : List Call) (n m k : ℕ) → StandsOnce k (callers ns) → InOrder n (calls_of ns k cs) (n + m) → filter (λ l. line_doer ns l == k) (lines_of ns cs n m) ≡ map line_of (calls_of ns k cs)
read_off ns cs n m k s p = lines_by ns k (in_told_order ns cs n m) ∙ ap (map line_of) (told_calls ns cs n m k s p)

-- ---- one caller alone

no_calls : (ns : List ℕ) (cs : List Call) (j k : ℕ) → j ≢ k → Each (λ c. doer ns c.deed ≡ k) cs → calls_of ns j cs ≡ []
no_calls ns [] j k ne e = refl
no_calls ns (c ∷ cs) j k ne e = drops (λ c. doer ns c.deed == j) c cs (ne_eqb (doer ns c.deed) j (λ f. ne (sym f ∙ e.0))) ∙ no_calls ns cs j k ne e.1

all_calls : (ns : List ℕ) (cs : List Call) (k : ℕ) → Each (λ c. doer ns c.deed ≡ k) cs → calls_of ns k cs ≡ cs
all_calls ns [] k e = refl
all_calls ns (c ∷ cs) k e = keeps (λ c. doer ns c.deed == k) c cs (eq-eqb (doer ns c.deed) k e.0) ∙ ap (λ w. c ∷ w) (all_calls ns cs k e.1)

no_reads : (ns : List ℕ) (cs : List Call) (n k : ℕ) (js : List ℕ) → Each (λ j. j ≢ k) js → Each (λ c. doer ns c.deed ≡ k) cs → flat_map (reads_of ns cs n) js ≡ []
no_reads ns cs n k [] ne e = refl
no_reads ns cs n k (j ∷ js) ne e = ap (λ w. reads_at n w ++ flat_map (reads_of ns cs n) js) (no_calls ns cs j k ne.0 e) ∙ no_reads ns cs n k js ne.1 e

alone_reads : (ns : List ℕ) (cs : List Call) (n k : ℕ) → StandsOnce k (callers ns) → Each (λ c. doer ns c.deed ≡ k) cs → reads_by_caller ns n cs ≡ reads_at n cs
alone_reads ns cs n k s e =
    let f = reads_of ns cs n in
    ap (λ js. flat_map f js) s.is
    ∙ (flat_append f s.front (k ∷ s.back)
    ∙ (ap (λ w. w ++ (f k ++ flat_map f s.back)) (no_reads ns cs n k s.front s.not_front e)
    ∙ (ap (λ w. f k ++ w) (no_reads ns cs n k s.back s.not_back e)
    ∙ (append_end (f k) ∙ ap (reads_at n) (all_calls ns cs k e)))))

alone_told : (ns : List ℕ) (cs : List Call) (n m k : ℕ) → StandsOnce k (callers ns) → Each (λ c. doer ns c.deed ≡ k) cs → in_told_order ns cs n m ≡ ordered cs n m
alone_told ns cs n zero k s e = alone_reads ns cs n k s e
alone_told ns cs n (suc m) k s e = ap (λ w. w ++ (entry_at n cs ++ in_told_order ns cs (suc n) m)) (alone_reads ns cs n k s e) ∙ ap (λ w. reads_at n cs ++ (entry_at n cs ++ w)) (alone_told ns cs (suc n) m k s e)

-- the calls of one caller alone are told in its order
pub alone_order : (ns : List ℕ) (cs : List Call) (n m k : ℕ) → StandsOnce k (callers ns) → Each (λ c. doer ns c.deed ≡ k) cs → InOrder n cs (n + m) → in_told_order ns cs n m ≡ cs
alone_order ns cs n m k s e p = alone_told ns cs n m k s e ∙ ordered_is m n (n + m) cs refl p

not_zero : (ns js : List ℕ) → Each (λ j. j ≢ 0) (map (controller_at ns) js)
not_zero ns [] = tt
not_zero ns (j ∷ js) = ((λ e. omega (arith, e)), not_zero ns js)

above : (first m : ℕ) → 0 < first → Each (λ j. j ≢ 0) (counted first m)
above first zero lt = tt
above first (suc m) lt = ((λ e. omega (arith, e, lt)), above (suc first) m (omega (arith, lt)))

-- worker 0 is the first caller
pub zero_once : (ns : List ℕ) → StandsOnce 0 (callers ns)
zero_once ns = record { front = []; back = counted 1 15 ++ map (controller_at ns) (ascending ns); is = refl; not_front = tt; not_back = each_append (λ j. j ≢ 0) (counted 1 15) (map (controller_at ns) (ascending ns)) (above 1 15 (omega arith)) (not_zero ns (ascending ns)) }
