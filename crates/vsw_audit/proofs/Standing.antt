-- Lines that pass one look over them stand in the order of the report: put into that order they are as they were.
use Rattle.std.proofs.Common.{◌≡◌, ◌≢◌, ◌⊎◌, inl, inr, ℕ, zero, suc, ◌+◌, ◌^◌, ◌-◌, ◌<◌, ◌≤◌, ◌==◌, Bool, true, false, true≢false, not, ◌&&◌, if◌then◌else◌, MatchBool, List, [], ◌∷◌, ◌++◌, map, filter, nat_lt, refl, ap, sym, subst, ◌∙◌, arith, append_assoc, eq-eqb, ne_eqb}
use Rattle.std.proofs.lemmas.Grind.{common_steps}
use Rattle.std.specs.List.{flat_map}
use native.Mathlib.Decide.{ℕ_discrete}
use Rattle.vsw_policy.specs.Sound.{Each}
use Rattle.vsw_port.specs.Calls.{Asked, Call, Carried, Deed, calls_of, controller_at, doer}
use Rattle.vsw_port.specs.Order.{ascending, counted, put_in}
use Rattle.vsw_promise.specs.Told.{by_of, callers, entry_at, in_told_order, line_of, reads_at, reads_by_caller}
use Rattle.vsw_history_law.proofs.Callers.{ascending_once, place_one}
use Rattle.vsw_history_law.proofs.Telling.{entry_test}
use Rattle.vsw_check.specs.Report.{Tells, rank}
use Rattle.vsw_audit.specs.Order.{IsDeedOf, IsOf, ToldIsAsItStands}
use Rattle.vsw_audit.proofs.Buckets.{AllIn, Ascend, Rise, buckets, is_in}

abbrev read_test : ℕ → Call → Bool
read_test n c = not c.entry && (c.count == n)

abbrev key : Call → ℕ
key c = rank (by_of c.deed)

abbrev TellsOf : ℕ → ℕ → ℕ → List Call → Type 0
TellsOf n high low cs = Tells n high low (map line_of cs)

each_front : (P : Call → Type 0) (xs ys : List Call) → Each P (xs ++ ys) → Each P xs
each_front P [] ys a = tt
each_front P (x ∷ xs) ys a = (a.0, each_front P xs ys a.1)

each_back : (P : Call → Type 0) (xs ys : List Call) → Each P (xs ++ ys) → Each P ys
each_back P [] ys a = a
each_back P (x ∷ xs) ys a = each_back P xs ys a.1

-- ---- callers are in the order of ranks

abbrev ranks : List ℕ → List ℕ
ranks ns = counted 0 16 ++ map (λ c. 2 ^ 32 + c) (ascending ns)

lt_true : (m n : ℕ) → nat_lt m n ≡ true → m < n
lt_true m n e = grind (arith, common_steps)

lt_false : (m n : ℕ) → nat_lt m n ≡ false → n ≤ m
lt_false m n e = grind (arith, common_steps)

eqb_not : (a b : ℕ) → (a == b) ≡ false → a ≢ b
eqb_not a b e f = true≢false (sym (eq-eqb a b f) ∙ e)

rise_put : (low n : ℕ) (ms : List ℕ) → low ≤ n → Rise key low ms → Rise key low (put_in n ms)
rise_put low n [] le r = (le, tt)
rise_put low n (m ∷ ms) le r = by (nat_lt n m) (n == m) refl refl (λ l. rise_put (suc m) n ms l r.1)
  where
    by : (b c : Bool) → nat_lt n m ≡ b → (n == m) ≡ c → (suc m ≤ n → Rise key (suc m) (put_in n ms)) → Rise key low (if b then n ∷ m ∷ ms else if c then m ∷ ms else m ∷ put_in n ms)
    by true c e f more = (le, (lt_true n m e, r.1))
    by false true e f more = r
    by false false e f more = (r.0, more (let ge : m ≤ n = lt_false n m e in let ne : n ≢ m = eqb_not n m f in omega (arith, ge, ne)))

rise_all : (ns : List ℕ) → Rise key 0 (ascending ns)
rise_all [] = tt
rise_all (n ∷ ns) = rise_put 0 n (ascending ns) (omega arith) (rise_all ns)

rise_high : (low k : ℕ) (ms : List ℕ) → Rise key low ms → Rise key (k + low) (map (λ c. k + c) ms)
rise_high low k [] r = tt
rise_high low k (m ∷ ms) r = (omega (arith, r.0), subst (λ w. Rise key w (map (λ c. k + c) ms)) (let e : k + suc m ≡ suc (k + m) = omega arith in e) (rise_high (suc m) k ms r.1))

rise_lower : (low mid : ℕ) (ms : List ℕ) → low ≤ mid → Rise key mid ms → Rise key low ms
rise_lower low mid [] le r = tt
rise_lower low mid (m ∷ ms) le r = (omega (arith, le, r.0), r.1)

rise_counted : (first m : ℕ) (ys : List ℕ) → Rise key (first + m) ys → Rise key first (counted first m ++ ys)
rise_counted first zero ys r = rise_lower first (first + 0) ys (omega arith) r
rise_counted first (suc m) ys r = (omega arith, rise_counted (suc first) m ys (subst (λ w. Rise key w ys) (let e : first + suc m ≡ suc first + m = omega arith in e) r))

rise_ranks : (ns : List ℕ) → Rise key 0 (ranks ns)
rise_ranks ns = rise_counted 0 16 (map (λ c. 2 ^ 32 + c) (ascending ns)) (rise_lower (0 + 16) (2 ^ 32 + 0) (map (λ c. 2 ^ 32 + c) (ascending ns)) (omega arith) (rise_high 0 (2 ^ 32) (ascending ns) (rise_all ns)))

-- ---- each call's rank is one of them

in_counted : (k first m : ℕ) (ys : List ℕ) → first ≤ k → k < first + m → is_in key k (counted first m ++ ys)
in_counted k first zero ys le lt = absurd (omega (arith, le, lt))
in_counted k first (suc m) ys le lt = by (ℕ_discrete k first) (in_counted k (suc first) m ys)
  where
    by : Dec (k ≡ first) → (suc first ≤ k → k < suc first + m → is_in key k (counted (suc first) m ++ ys)) → is_in key k (first ∷ (counted (suc first) m ++ ys))
    by (yes e) more = inl e
    by (no ne) more = inr (more (omega (arith, le, ne)) (omega (arith, lt)))

in_behind : (k first m : ℕ) (ys : List ℕ) → is_in key k ys → is_in key k (counted first m ++ ys)
in_behind k first zero ys i = i
in_behind k first (suc m) ys i = inr (in_behind k (suc first) m ys i)

in_middle : (c k : ℕ) (front back : List ℕ) → is_in key (k + c) (map (λ d. k + d) (front ++ c ∷ back))
in_middle c k [] back = inl refl
in_middle c k (f ∷ front) back = inr (in_middle c k front back)

in_ranks : (ns : List ℕ) (d : Deed) → IsDeedOf ns d → is_in key (rank (by_of d)) (ranks ns)
in_ranks ns (Carried x p fate bytes) own = in_counted x.caller 0 16 (map (λ c. 2 ^ 32 + c) (ascending ns)) (omega arith) own
in_ranks ns (Asked l reply) own =
    let once = ascending_once ns l.controller own in
    in_behind (2 ^ 32 + l.controller) 0 16 (map (λ c. 2 ^ 32 + c) (ascending ns)) (subst (λ w. is_in key (2 ^ 32 + l.controller) (map (λ c. 2 ^ 32 + c) w)) (sym once.is) (in_middle l.controller (2 ^ 32) once.front once.back))

all_in : (ns : List ℕ) (xs : List Call) → Each (IsOf ns) xs → AllIn key (ranks ns) xs
all_in ns [] e = tt
all_in ns (x ∷ xs) e = (in_ranks ns x.deed e.0, all_in ns xs e.1)

-- ---- the same calls are those of a caller and those of its rank

same_test : (a b c d : ℕ) → (a ≡ b → c ≡ d) → (c ≡ d → a ≡ b) → (a == b) ≡ (c == d)
same_test a b c d f g = by (ℕ_discrete a b)
  where
    by : Dec (a ≡ b) → (a == b) ≡ (c == d)
    by (yes e) = eq-eqb a b e ∙ sym (eq-eqb c d (f e))
    by (no ne) = ne_eqb a b ne ∙ sym (ne_eqb c d (λ e. ne (g e)))

same_filter : (p q : Call → Bool) (P : Call → Type 0) (xs : List Call) → Each P xs → ((c : Call) → P c → p c ≡ q c) → filter p xs ≡ filter q xs
same_filter p q P [] e f = refl
same_filter p q P (x ∷ xs) e f = by (p x) (q x) (f x e.0) (same_filter p q P xs e.1 f)
  where
    by : (b c : Bool) → b ≡ c → filter p xs ≡ filter q xs → (if b then x ∷ filter p xs else filter p xs) ≡ (if c then x ∷ filter q xs else filter q xs)
    by true true e ih = ap (λ w. x ∷ w) ih
    by false false e ih = ih
    by true false e ih = absurd (true≢false e)
    by false true e ih = absurd (true≢false (sym e))

worker_test : (ns : List ℕ) (k : ℕ) (d : Deed) → k < 16 → IsDeedOf ns d → (doer ns d == k) ≡ (rank (by_of d) == k)
worker_test ns k (Carried x p fate bytes) lt own = refl
worker_test ns k (Asked l reply) lt own = same_test (controller_at ns l.controller) k (2 ^ 32 + l.controller) k (λ e. absurd (omega (arith, e, lt))) (λ e. absurd (omega (arith, e, lt)))

controller_test : (ns : List ℕ) (j : ℕ) (d : Deed) → IsDeedOf ns d → (doer ns d == controller_at ns j) ≡ (rank (by_of d) == 2 ^ 32 + j)
controller_test ns j (Carried x p fate bytes) own = same_test x.caller (controller_at ns j) x.caller (2 ^ 32 + j) (λ e. absurd (omega (arith, e, own))) (λ e. absurd (omega (arith, e, own)))
controller_test ns j (Asked l reply) own = same_test (controller_at ns l.controller) (controller_at ns j) (2 ^ 32 + l.controller) (2 ^ 32 + j)
    (λ e. ap (λ c. 2 ^ 32 + c) (place_one ns l.controller j own (omega (arith, e))))
    (λ e. ap (controller_at ns) (let f : l.controller ≡ j = omega (arith, e) in f))

by_workers : (ns : List ℕ) (first m : ℕ) (xs : List Call) → first + m ≤ 16 → Each (IsOf ns) xs → flat_map (λ k. calls_of ns k xs) (counted first m) ≡ flat_map (λ k. filter (λ c. key c == k) xs) (counted first m)
by_workers ns first zero xs le e = refl
by_workers ns first (suc m) xs le e =
    ap (λ w. w ++ flat_map (λ k. calls_of ns k xs) (counted (suc first) m)) (same_filter (λ c. doer ns c.deed == first) (λ c. key c == first) (IsOf ns) xs e (λ c own. worker_test ns first c.deed (omega (arith, le)) own))
    ∙ ap (λ w. filter (λ c. key c == first) xs ++ w) (by_workers ns (suc first) m xs (omega (arith, le)) e)

by_controllers : (ns js : List ℕ) (xs : List Call) → Each (IsOf ns) xs → flat_map (λ k. calls_of ns k xs) (map (controller_at ns) js) ≡ flat_map (λ k. filter (λ c. key c == k) xs) (map (λ c. 2 ^ 32 + c) js)
by_controllers ns [] xs e = refl
by_controllers ns (j ∷ js) xs e =
    ap (λ w. w ++ flat_map (λ k. calls_of ns k xs) (map (controller_at ns) js)) (same_filter (λ c. doer ns c.deed == controller_at ns j) (λ c. key c == 2 ^ 32 + j) (IsOf ns) xs e (λ c own. controller_test ns j c.deed own))
    ∙ ap (λ w. filter (λ c. key c == 2 ^ 32 + j) xs ++ w) (by_controllers ns js xs e)

split_flat : (f : ℕ → List Call) (xs ys : List ℕ) → flat_map f (xs ++ ys) ≡ flat_map f xs ++ flat_map f ys
split_flat f [] ys = refl
split_flat f (x ∷ xs) ys = ap (λ w. f x ++ w) (split_flat f xs ys) ∙ sym (append_assoc (f x) (flat_map f xs) (flat_map f ys))

grouped : (ns : List ℕ) (xs : List Call) → Each (IsOf ns) xs → Ascend key 0 xs → flat_map (λ k. calls_of ns k xs) (callers ns) ≡ xs
grouped ns xs own a =
    let ours : ℕ → List Call = λ k. calls_of ns k xs in
    let ranked : ℕ → List Call = λ k. filter (λ c. key c == k) xs in
    let cs : List ℕ = map (controller_at ns) (ascending ns) in
    let rs : List ℕ = map (λ c. 2 ^ 32 + c) (ascending ns) in
    split_flat ours (counted 0 16) cs
    ∙ (ap (λ w. w ++ flat_map ours cs) (by_workers ns 0 16 xs (omega arith) own)
    ∙ (ap (λ w. flat_map ranked (counted 0 16) ++ w) (by_controllers ns (ascending ns) xs own)
    ∙ (sym (split_flat ranked (counted 0 16) rs) ∙ buckets key 0 (ranks ns) xs (rise_ranks ns) a (all_in ns xs own))))

-- ---- the look

module _ (ns : List ℕ) where
  abbrev reads_by : List ℕ → ℕ → List Call → List Call
  reads_by ks n calls = flat_map (λ k. reads_at n (calls_of ns k calls)) ks

  abbrev told : List ℕ → List Call → ℕ → ℕ → List Call
  told ks calls n zero = reads_by ks n calls
  told ks calls n (suc more) = reads_by ks n calls ++ (entry_at n calls ++ told ks calls (suc n) more)

  -- the reads at the count in front, and what follows them
  record Split (n high low : ℕ) (cs : List Call) : Type 0 where
    reads : List Call
    rest : List Call
    is : cs ≡ reads ++ rest
    pass : Each (λ c. read_test n c ≡ true) reads
    rise : Ascend key low reads
    last : ((rest ≡ []) × (n ≡ high)) ⊎ ((e : Call) × (zs : List Call) × (rest ≡ e ∷ zs) × (e.entry ≡ true) × (e.count ≡ n) × (n < high) × TellsOf (suc n) high 0 zs)

  split : (n high low : ℕ) (cs : List Call) → TellsOf n high low cs → Split n high low cs
  split n high low [] t = record { reads = []; rest = []; is = refl; pass = tt; rise = tt; last = inl (refl, t) }
  split n high low (c ∷ cs) t = by c.entry refl t.1 (λ u. split n high (rank (by_of c.deed)) cs u)
    where
      by : (b : Bool) → c.entry ≡ b → MatchBool b ((n < high) × TellsOf (suc n) high 0 cs) ((low ≤ rank (by_of c.deed)) × TellsOf n high (rank (by_of c.deed)) cs) → (TellsOf n high (rank (by_of c.deed)) cs → Split n high (rank (by_of c.deed)) cs) → Split n high low (c ∷ cs)
      by true e u more = record { reads = []; rest = c ∷ cs; is = refl; pass = tt; rise = tt; last = inr (c, cs, refl, e, t.0, u.0, u.1) }
      by false e u more =
          let s = more u.1 in
          let test : read_test n c ≡ true = rw (e, eq-eqb c.count n t.0) refl in
          record { reads = c ∷ s.reads; rest = s.rest; is = ap (λ w. c ∷ w) s.is; pass = (test, s.pass); rise = (u.0, s.rise); last = s.last }

  -- nothing stands at an earlier count
  none_before : (k n high low : ℕ) (cs : List Call) → k < n → TellsOf n high low cs → (reads_at k cs ≡ []) × (entry_at k cs ≡ [])
  none_before k n high low [] lt t = (refl, refl)
  none_before k n high low (c ∷ cs) lt t = by c.entry refl t.1 (λ m l lt' u. none_before k m high l cs lt' u)
    where
      other : (c.count == k) ≡ false
      other = ne_eqb c.count k (λ e. omega (arith, e, t.0, lt))

      by : (b : Bool) → c.entry ≡ b → MatchBool b ((n < high) × TellsOf (suc n) high 0 cs) ((low ≤ rank (by_of c.deed)) × TellsOf n high (rank (by_of c.deed)) cs) → ((m l : ℕ) → k < m → TellsOf m high l cs → (reads_at k cs ≡ []) × (entry_at k cs ≡ [])) → (reads_at k (c ∷ cs) ≡ []) × (entry_at k (c ∷ cs) ≡ [])
      by true e u more =
          let ih = more (suc n) 0 (omega (arith, lt)) u.1 in
          (rw e ih.0, rw (e, other) ih.1)
      by false e u more =
          let ih = more n (rank (by_of c.deed)) lt u.1 in
          (rw (e, other) ih.0, rw e ih.1)

  filter_append : (p : Call → Bool) (xs ys : List Call) → filter p (xs ++ ys) ≡ filter p xs ++ filter p ys
  filter_append p [] ys = refl
  filter_append p (x ∷ xs) ys = by (p x) (filter_append p xs ys)
    where
      by : (b : Bool) → filter p (xs ++ ys) ≡ filter p xs ++ filter p ys → (if b then x ∷ filter p (xs ++ ys) else filter p (xs ++ ys)) ≡ (if b then x ∷ filter p xs else filter p xs) ++ filter p ys
      by true ih = ap (λ w. x ∷ w) ih
      by false ih = ih

  filter_swap : (p q : Call → Bool) (xs : List Call) → filter p (filter q xs) ≡ filter q (filter p xs)
  filter_swap p q [] = refl
  filter_swap p q (x ∷ xs) = by (filter_swap p q xs) (p x) (q x) refl refl
    where
      by : filter p (filter q xs) ≡ filter q (filter p xs) → (b c : Bool) → p x ≡ b → q x ≡ c → filter p (if c then x ∷ filter q xs else filter q xs) ≡ filter q (if b then x ∷ filter p xs else filter p xs)
      by ih true true e f = rw (e, f) (ap (λ w. x ∷ w) ih)
      by ih true false e f = rw f ih
      by ih false true e f = rw e ih
      by ih false false e f = ih

  reads_own : (n : ℕ) (xs : List Call) → Each (λ c. read_test n c ≡ true) xs → reads_at n xs ≡ xs
  reads_own n [] e = refl
  reads_own n (x ∷ xs) e = let t = e.0 in rw t (ap (λ w. x ∷ w) (reads_own n xs e.1))

  no_entry : (b x : Bool) → (not b && x) ≡ true → (b && x) ≡ false
  no_entry true x e = absurd (true≢false (sym e))
  no_entry false x e = refl

  entries_own : (n : ℕ) (xs : List Call) → Each (λ c. read_test n c ≡ true) xs → entry_at n xs ≡ []
  entries_own n [] e = refl
  entries_own n (x ∷ xs) e = let t : entry_test n x ≡ false = no_entry x.entry (x.count == n) e.0 in rw t (entries_own n xs e.1)

  -- a call at an earlier count isn't told from here on
  skip_reads : (ks : List ℕ) (c : Call) (cs : List Call) (n : ℕ) → c.count < n → reads_by ks n (c ∷ cs) ≡ reads_by ks n cs
  skip_reads [] c cs n lt = refl
  skip_reads (k ∷ ks) c cs n lt = ap (λ w. w ++ reads_by ks n (c ∷ cs)) (one (doer ns c.deed == k)) ∙ ap (λ w. reads_at n (filter (λ d. doer ns d.deed == k) cs) ++ w) (skip_reads ks c cs n lt)
    where
      other : (c.count == n) ≡ false
      other = ne_eqb c.count n (λ e. omega (arith, e, lt))

      not_read : (b : Bool) → (not b && (c.count == n)) ≡ false
      not_read true = refl
      not_read false = other

      one : (b : Bool) → reads_at n (if b then c ∷ filter (λ d. doer ns d.deed == k) cs else filter (λ d. doer ns d.deed == k) cs) ≡ reads_at n (filter (λ d. doer ns d.deed == k) cs)
      one true = let t = not_read c.entry in rw t refl
      one false = refl

  skip_one : (ks : List ℕ) (c : Call) (cs : List Call) (n m : ℕ) → c.count < n → told ks (c ∷ cs) n m ≡ told ks cs n m
  skip_one ks c cs n zero lt = skip_reads ks c cs n lt
  skip_one ks c cs n (suc m) lt =
      ap (λ w. w ++ (entry_at n (c ∷ cs) ++ told ks (c ∷ cs) (suc n) m)) (skip_reads ks c cs n lt)
      ∙ (ap (λ w. reads_by ks n cs ++ (w ++ told ks (c ∷ cs) (suc n) m)) no
      ∙ ap (λ w. reads_by ks n cs ++ (entry_at n cs ++ w)) (skip_one ks c cs (suc n) m (omega (arith, lt))))
    where
      and_false : (b x : Bool) → x ≡ false → (b && x) ≡ false
      and_false true x e = e
      and_false false x e = refl

      no : entry_at n (c ∷ cs) ≡ entry_at n cs
      no = let t : entry_test n c ≡ false = and_false c.entry (c.count == n) (ne_eqb c.count n (λ e. omega (arith, e, lt))) in rw t refl

  read_count : (n : ℕ) (c : Call) → read_test n c ≡ true → c.count ≡ n
  read_count n c e = by c.entry (ℕ_discrete c.count n) e
    where
      by : (b : Bool) → Dec (c.count ≡ n) → (not b && (c.count == n)) ≡ true → c.count ≡ n
      by b (yes f) t = f
      by true (no ne) t = absurd (true≢false (sym t))
      by false (no ne) t = absurd (true≢false (sym t ∙ ne_eqb c.count n ne))

  skip_all : (ks : List ℕ) (xs cs : List Call) (n m : ℕ) → Each (λ c. read_test n c ≡ true) xs → told ks (xs ++ cs) (suc n) m ≡ told ks cs (suc n) m
  skip_all ks [] cs n m e = refl
  skip_all ks (x ∷ xs) cs n m e = skip_one ks x (xs ++ cs) (suc n) m (omega (arith, read_count n x e.0)) ∙ skip_all ks xs cs n m e.1

  -- the reads at a count by callers are those in front
  by_callers : (ks : List ℕ) (n : ℕ) (xs cs : List Call) → reads_at n cs ≡ xs → flat_map (λ k. filter (λ c. doer ns c.deed == k) xs) ks ≡ xs → reads_by ks n cs ≡ xs
  by_callers ks n xs cs e f = swap_all ks ∙ f
    where
      swap_all : (js : List ℕ) → reads_by js n cs ≡ flat_map (λ k. filter (λ c. doer ns c.deed == k) xs) js
      swap_all [] = refl
      swap_all (j ∷ js) =
          ap (λ w. w ++ reads_by js n cs) (filter_swap (read_test n) (λ c. doer ns c.deed == j) cs ∙ ap (filter (λ c. doer ns c.deed == j)) e)
          ∙ ap (λ w. filter (λ c. doer ns c.deed == j) xs ++ w) (swap_all js)

  nothing_more : (xs : List Call) → xs ++ [] ≡ xs
  nothing_more [] = refl
  nothing_more (x ∷ xs) = ap (λ w. x ∷ w) (nothing_more xs)

  fixed : (m n high : ℕ) (cs : List Call) → high ≡ n + m → TellsOf n high 0 cs → Each (IsOf ns) cs → told (callers ns) cs n m ≡ cs
  fixed zero n high cs is t a = by (split n high 0 cs t)
    where
      by : Split n high 0 cs → told (callers ns) cs n zero ≡ cs
      by s = at s.last
        where
          at : ((s.rest ≡ []) × (n ≡ high)) ⊎ ((e : Call) × (zs : List Call) × (s.rest ≡ e ∷ zs) × (e.entry ≡ true) × (e.count ≡ n) × (n < high) × TellsOf (suc n) high 0 zs) → told (callers ns) cs n zero ≡ cs
          at (inl f) =
              let whole : cs ≡ s.reads = s.is ∙ (ap (λ w. s.reads ++ w) f.0 ∙ nothing_more s.reads) in
              let own : reads_at n cs ≡ s.reads = ap (reads_at n) whole ∙ reads_own n s.reads s.pass in
              by_callers (callers ns) n s.reads cs own (grouped ns s.reads (each_front (IsOf ns) s.reads s.rest (subst (Each (IsOf ns)) s.is a)) s.rise) ∙ sym whole
          at (inr f) = absurd (omega (arith, is, f.5))
  fixed (suc m) n high cs is t a = by (split n high 0 cs t) (λ zs u b. fixed m (suc n) high zs (omega (arith, is)) u b)
    where
      by : Split n high 0 cs → ((zs : List Call) → TellsOf (suc n) high 0 zs → Each (IsOf ns) zs → told (callers ns) zs (suc n) m ≡ zs) → told (callers ns) cs n (suc m) ≡ cs
      by s more = at s.last
        where
          at : ((s.rest ≡ []) × (n ≡ high)) ⊎ ((e : Call) × (zs : List Call) × (s.rest ≡ e ∷ zs) × (e.entry ≡ true) × (e.count ≡ n) × (n < high) × TellsOf (suc n) high 0 zs) → told (callers ns) cs n (suc m) ≡ cs
          at (inl f) = absurd (omega (arith, is, f.1))
          at (inr (e, zs, q, mark, count, lt, u)) =
              let whole : cs ≡ s.reads ++ (e ∷ zs) = s.is ∙ ap (λ w. s.reads ++ w) q in
              let none = none_before n (suc n) high 0 zs (omega arith) u in
              let test : entry_test n e ≡ true = rw (mark, eq-eqb e.count n count) refl in
              let not_read : read_test n e ≡ false = rw mark refl in
              let own : reads_at n cs ≡ s.reads =
              ap (reads_at n) whole ∙ (filter_append (read_test n) s.reads (e ∷ zs) ∙ (ap (λ w. w ++ reads_at n (e ∷ zs)) (reads_own n s.reads s.pass) ∙ (ap (λ w. s.reads ++ w) (rw not_read none.0) ∙ nothing_more s.reads))) in
              let entry : entry_at n cs ≡ e ∷ [] =
              ap (entry_at n) whole ∙ (filter_append (entry_test n) s.reads (e ∷ zs) ∙ (ap (λ w. w ++ entry_at n (e ∷ zs)) (entries_own n s.reads s.pass) ∙ rw test (ap (λ w. e ∷ w) none.1))) in
              let among : Each (IsOf ns) (s.reads ++ (e ∷ zs)) = subst (Each (IsOf ns)) whole a in
              let later : told (callers ns) cs (suc n) m ≡ zs =
              ap (λ w. told (callers ns) w (suc n) m) whole ∙ (skip_all (callers ns) s.reads (e ∷ zs) n m s.pass ∙ (skip_one (callers ns) e zs (suc n) m (omega (arith, count)) ∙ more zs u (each_back (IsOf ns) s.reads (e ∷ zs) among).1)) in
              let reads : reads_by (callers ns) n cs ≡ s.reads = by_callers (callers ns) n s.reads cs own (grouped ns s.reads (each_front (IsOf ns) s.reads (e ∷ zs) among) s.rise) in
              ap (λ w. w ++ (entry_at n cs ++ told (callers ns) cs (suc n) m)) reads
              ∙ (ap (λ w. s.reads ++ (w ++ told (callers ns) cs (suc n) m)) entry ∙ (ap (λ w. s.reads ++ (e ∷ w)) later ∙ sym whole))

  as_told : (cs : List Call) (n m : ℕ) → in_told_order ns cs n m ≡ told (callers ns) cs n m
  as_told cs n zero = refl
  as_told cs n (suc m) = ap (λ w. reads_by_caller ns n cs ++ (entry_at n cs ++ w)) (as_told cs (suc n) m)

  told_as : (cs : List Call) (n m high : ℕ) → high ≡ n + m → TellsOf n high 0 cs → Each (IsOf ns) cs → in_told_order ns cs n m ≡ cs
  told_as cs n m high is t a = as_told cs n m ∙ fixed m n high cs is t a

pub told_is_as_it_stands : ToldIsAsItStands
told_is_as_it_stands ns cs low high le t own = ap (map line_of) (told_as ns cs low (high - low) high (omega (arith, le)) t own)
