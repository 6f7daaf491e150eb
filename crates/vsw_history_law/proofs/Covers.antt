-- Cuts ascend from 0, so rounds cover a trace.
use Rattle.std.proofs.Common.{◌≡◌, ◌≢◌, ◌<◌, ◌≤◌, ◌==◌, ◌||◌, ◌+◌, ◌-◌, ◌*◌, ◌/◌, ℕ, zero, suc, Bool, true, false, nat_lt, if◌then◌else◌, List, [], ◌∷◌, ◌++◌, length, map, filter, take, drop, refl, ap, sym, ◌∙◌, subst, arith, append_assoc, eq-eqb, ne_eqb}
use Rattle.std.specs.List.{flat_map, list_any}
use Rattle.std.proofs.lemmas.Bool.Decides.{nat_tests}
use Rattle.std.proofs.lemmas.List.{length-drop, drop-drop}
use native.Mathlib.Decide.{ℕ_discrete}
use Rattle.vsw_commandfile.specs.declared.line.Line.{Line}
use Rattle.vsw_pcap.specs.declared.capture.Record.{Record}
use Rattle.vsw_policy.specs.Sound.{Each}
use Rattle.vsw_port.specs.Order.{put_in, ascending, counted, numbered, StandsOnce}
use Rattle.vsw_promise.specs.Jobs.{cuts, cuts_within, multiples_below, packets_between}
use Rattle.vsw_promise.specs.Rounds.{end_before}
use Rattle.vsw_history_law.specs.Cover.{stretches, AreCovered, PacketsAreCovered, CommandsAreCovered, RoundsAreSmall}
use Rattle.vsw_port.proofs.Fronts.{append_end}
use Rattle.vsw_promise.proofs.PortRounds.{take_whole}

-- ---- ascending numbers

-- each is above the one before it, and the first above this
abbrev AreAbove : ℕ → List ℕ → Type 0
AreAbove n [] = Unit {0}
AreAbove n (m ∷ ms) = (n < m) × AreAbove m ms

-- so is each above the one before it
abbrev DoAscend : List ℕ → Type 0
DoAscend [] = Unit {0}
DoAscend (n ∷ ns) = AreAbove n ns

lt_is : (m n : ℕ) → nat_lt m n ≡ true → m < n
lt_is m n e = grind (arith, nat_tests)

le_is : (m n : ℕ) → nat_lt m n ≡ false → n ≤ m
le_is m n e = grind (arith, nat_tests)

eq_is : (a b : ℕ) → (a == b) ≡ true → a ≡ b
eq_is a b e = by (ℕ_discrete a b)
  where
    by : Dec (a ≡ b) → a ≡ b
    by (yes f) = f
    by (no ne) = absurd (let f = ne_eqb a b ne in cc (e, f))

ne_is : (a b : ℕ) → (a == b) ≡ false → a ≢ b
ne_is a b e f = let t = eq-eqb a b f in cc (e, t)

rest : (x b : Bool) → x ≡ false → (x || b) ≡ true → b ≡ true
rest true b f e = absurd (cc f)
rest false b f e = e

put_above : (k n : ℕ) (ms : List ℕ) → k < n → AreAbove k ms → AreAbove k (put_in n ms)
put_above k n [] lt a = (lt, tt)
put_above k n (m ∷ ms) lt a = by (nat_lt n m) (n == m) refl refl (λ below. put_above m n ms below a.1)
  where
    by : (b c : Bool) → nat_lt n m ≡ b → (n == m) ≡ c → (m < n → AreAbove m (put_in n ms)) → AreAbove k (if b then n ∷ m ∷ ms else if c then m ∷ ms else m ∷ put_in n ms)
    by true c e f ih = (lt, (lt_is n m e, a.1))
    by false true e f ih = a
    by false false e f ih = (a.0, ih (omega (arith, le_is n m e, ne_is n m f)))

put_ascends : (n : ℕ) (ms : List ℕ) → DoAscend ms → DoAscend (put_in n ms)
put_ascends n [] a = tt
put_ascends n (m ∷ ms) a = by (nat_lt n m) (n == m) refl refl
  where
    by : (b c : Bool) → nat_lt n m ≡ b → (n == m) ≡ c → DoAscend (if b then n ∷ m ∷ ms else if c then m ∷ ms else m ∷ put_in n ms)
    by true c e f = (lt_is n m e, a)
    by false true e f = a
    by false false e f = put_above m n ms (omega (arith, le_is n m e, ne_is n m f)) a

ascends : (ns : List ℕ) → DoAscend (ascending ns)
ascends [] = tt
ascends (n ∷ ns) = put_ascends n (ascending ns) (ascends ns)

-- ---- which numbers stand there

abbrev has : ℕ → List ℕ → Bool
has n ms = list_any (λ m. m == n) ms

or_left : (a b : Bool) → a ≡ true → (a || b) ≡ true
or_left true b e = refl
or_left false b e = absurd (cc e)

or_right : (a b : Bool) → b ≡ true → (a || b) ≡ true
or_right true b e = refl
or_right false b e = e

has_put : (n : ℕ) (ms : List ℕ) → has n (put_in n ms) ≡ true
has_put n [] = or_left (n == n) false (eq-eqb n n refl)
has_put n (m ∷ ms) = by (nat_lt n m) (n == m) refl (has_put n ms)
  where
    by : (b c : Bool) → (n == m) ≡ c → has n (put_in n ms) ≡ true → has n (if b then n ∷ m ∷ ms else if c then m ∷ ms else m ∷ put_in n ms) ≡ true
    by true c f ih = or_left (n == n) (has n (m ∷ ms)) (eq-eqb n n refl)
    by false true f ih = or_left (m == n) (has n ms) (eq-eqb m n (sym (eq_is n m f)))
    by false false f ih = or_right (m == n) (has n (put_in n ms)) ih

or_is : (a b c : Bool) → (a || b) ≡ true → (b ≡ true → c ≡ true) → (a || c) ≡ true
or_is true b c e f = refl
or_is false b c e f = f e

-- what stood there stands there still
has_more : (k n : ℕ) (ms : List ℕ) → has k ms ≡ true → has k (put_in n ms) ≡ true
has_more k n [] e = absurd (cc e)
has_more k n (m ∷ ms) e = by (nat_lt n m) (n == m) (has_more k n ms)
  where
    by : (b c : Bool) → (has k ms ≡ true → has k (put_in n ms) ≡ true) → has k (if b then n ∷ m ∷ ms else if c then m ∷ ms else m ∷ put_in n ms) ≡ true
    by true c ih = or_right (n == k) (has k (m ∷ ms)) e
    by false true ih = e
    by false false ih = or_is (m == k) (has k ms) (has k (put_in n ms)) e ih

has_ascending : (k : ℕ) (ns : List ℕ) → has k ns ≡ true → has k (ascending ns) ≡ true
has_ascending k [] e = absurd (cc e)
has_ascending k (n ∷ ns) e = by (ℕ_discrete n k) (has_ascending k ns)
  where
    by : Dec (n ≡ k) → (has k ns ≡ true → has k (ascending ns) ≡ true) → has k (put_in n (ascending ns)) ≡ true
    by (yes same) ih = subst (λ m. has m (put_in n (ascending ns)) ≡ true) same (has_put n (ascending ns))
    by (no ne) ih = has_more k n (ascending ns) (ih (let f = ne_eqb n k ne in rest (n == k) (has k ns) f e))

-- ---- once

above_weaker : (j k : ℕ) (ms : List ℕ) → j < k → AreAbove k ms → AreAbove j ms
above_weaker j k [] lt a = tt
above_weaker j k (m ∷ ms) lt a = (omega (arith, lt, a.0), a.1)

above_each : (k : ℕ) (ms : List ℕ) → AreAbove k ms → Each (λ m. m ≢ k) ms
above_each k [] a = tt
above_each k (m ∷ ms) a = ((λ e. omega (arith, e, a.0)), above_each k ms (above_weaker k m ms a.0 a.1))

-- a number that is above another and stands among these stands there once
once_above : (k n : ℕ) (ms : List ℕ) → AreAbove k ms → has n ms ≡ true → StandsOnce n ms × (k < n)
once_above k n [] a e = absurd (cc e)
once_above k n (m ∷ ms) a e = by (ℕ_discrete m n) (λ f. once_above m n ms a.1 f)
  where
    by : Dec (m ≡ n) → (has n ms ≡ true → StandsOnce n ms × (m < n)) → StandsOnce n (m ∷ ms) × (k < n)
    by (yes same) ih = (record { front = []; back = ms; is = ap (λ w. w ∷ ms) same; not_front = tt; not_back = above_each n ms (subst (λ w. AreAbove w ms) same a.1) }, subst (λ w. k < w) same a.0)
    by (no ne) ih =
        let f = ih (rest (m == n) (has n ms) (ne_eqb m n ne) e) in
        (record { front = m ∷ f.0.front; back = f.0.back; is = ap (λ w. m ∷ w) f.0.is; not_front = (ne, f.0.not_front); not_back = f.0.not_back }, omega (arith, a.0, f.1))

once_in : (n : ℕ) (ms : List ℕ) → DoAscend ms → has n ms ≡ true → StandsOnce n ms
once_in n [] a e = absurd (cc e)
once_in n (m ∷ ms) a e = by (ℕ_discrete m n)
  where
    by : Dec (m ≡ n) → StandsOnce n (m ∷ ms)
    by (yes same) = record { front = []; back = ms; is = ap (λ w. w ∷ ms) same; not_front = tt; not_back = above_each n ms (subst (λ w. AreAbove w ms) same a) }
    by (no ne) = let f = (once_above m n ms a (rest (m == n) (has n ms) (ne_eqb m n ne) e)).0 in record { front = m ∷ f.front; back = f.back; is = ap (λ w. m ∷ w) f.is; not_front = (ne, f.not_front); not_back = f.not_back }

-- ---- the cuts

low : (m : ℕ) → nat_lt 0 (suc m) ≡ true
low m = grind (arith, nat_tests)

-- 0 stands first
zero_first : (ms : List ℕ) → (rest : List ℕ) × (put_in 0 ms ≡ 0 ∷ rest)
zero_first [] = ([], refl)
zero_first (zero ∷ ms) = (ms, refl)
zero_first (suc m ∷ ms) = (suc m ∷ ms, rw (low m) refl)

abbrev named : List Line → ℕ → List ℕ
named commands total = map (λ l. l.at) commands ++ multiples_below total

-- the cuts are 0 and others above it
cuts_are : (commands : List Line) (total : ℕ) → (rest : List ℕ) × (cuts commands total ≡ 0 ∷ rest) × AreAbove 0 rest
cuts_are commands total =
    let z = zero_first (ascending (named commands total)) in (z.0, z.1, subst DoAscend z.1 (ascends (0 ∷ named commands total)))

above_filter : (k total : ℕ) (ms : List ℕ) → AreAbove k ms → AreAbove k (filter (λ n. nat_lt n total) ms)
above_filter k total [] a = tt
above_filter k total (m ∷ ms) a = by (nat_lt m total) (above_filter m total ms a.1)
  where
    by : (b : Bool) → AreAbove m (filter (λ n. nat_lt n total) ms) → AreAbove k (if b then m ∷ filter (λ n. nat_lt n total) ms else filter (λ n. nat_lt n total) ms)
    by true ih = (a.0, ih)
    by false ih = above_weaker k m (filter (λ n. nat_lt n total) ms) a.0 ih

-- ---- packets

pub numbered_length : (n : ℕ) (rs : List Record) → length (numbered n rs) ≡ length rs
numbered_length n [] = refl
numbered_length n (r ∷ rs) = ap suc (numbered_length (suc n) rs)

take_drop : {A : Type 0} (n : ℕ) (xs : List A) → take n xs ++ drop n xs ≡ xs
take_drop zero xs = refl
take_drop (suc n) [] = refl
take_drop (suc n) (x ∷ xs) = ap (λ w. x ∷ w) (take_drop n xs)

-- stretches from one cut on cover what stands behind it
cover : {A : Type 0} (xs : List A) (cut : ℕ) (cuts : List ℕ) → AreAbove cut cuts → flat_map (λ t. take (t.1 - t.0) (drop t.0 xs)) (stretches (cut ∷ cuts) (length xs)) ≡ drop cut xs
cover xs cut [] a = append_end (take (length xs - cut) (drop cut xs)) ∙ (ap (λ n. take n (drop cut xs)) (sym (length-drop cut xs)) ∙ take_whole (drop cut xs))
cover xs cut (next ∷ cuts) a =
    let rest = cover xs next cuts a.1 in
    let behind : drop next xs ≡ drop (next - cut) (drop cut xs) = sym (drop-drop (next - cut) cut xs ∙ ap (λ n. drop n xs) (omega (arith, a.0))) in
    ap (λ w. take (next - cut) (drop cut xs) ++ w) (rest ∙ behind) ∙ take_drop (next - cut) (drop cut xs)

covered : (records : List Record) (rest : List ℕ) → AreAbove 0 rest → AreCovered (0 ∷ rest) records
covered records rest a = subst (λ n. flat_map (λ t. packets_between records t.0 t.1) (stretches (0 ∷ rest) n) ≡ numbered 0 records) (numbered_length 0 records) (cover (numbered 0 records) 0 rest a)

none_below : (ms : List ℕ) → filter (λ n. nat_lt n 0) ms ≡ []
none_below [] = refl
none_below (m ∷ ms) = by (nat_lt m 0) refl (none_below ms)
  where
    by : (b : Bool) → nat_lt m 0 ≡ b → filter (λ n. nat_lt n 0) ms ≡ [] → (if b then m ∷ filter (λ n. nat_lt n 0) ms else filter (λ n. nat_lt n 0) ms) ≡ []
    by true e ih = absurd (omega (arith, lt_is m 0 e))
    by false e ih = ih

covered_within : (records : List Record) (rest : List ℕ) → AreAbove 0 rest → AreCovered (filter (λ n. nat_lt n (length records)) (0 ∷ rest)) records
covered_within [] rest a = ap (λ w. flat_map (λ t. packets_between [] t.0 t.1) (stretches w 0)) (none_below (0 ∷ rest))
covered_within (r ∷ records) rest a = subst (λ b. AreCovered (if b then 0 ∷ filter (λ n. nat_lt n (length (r ∷ records))) rest else filter (λ n. nat_lt n (length (r ∷ records))) rest) (r ∷ records)) (sym (low (length records))) (covered (r ∷ records) (filter (λ n. nat_lt n (length (r ∷ records))) rest) (above_filter 0 (length (r ∷ records)) rest a))

pub packets_are_covered : PacketsAreCovered
packets_are_covered commands records =
    let c = cuts_are commands (length records) in (
      subst (λ w. AreCovered w records) (sym c.1) (covered records c.0 c.2),
      subst (λ w. AreCovered (filter (λ n. nat_lt n (length records)) w) records) (sym c.1) (covered_within records c.0 c.2),
    )

-- ---- commands

has_behind : (k : ℕ) (xs ys : List ℕ) → has k ys ≡ true → has k (xs ++ ys) ≡ true
has_behind k [] ys e = e
has_behind k (x ∷ xs) ys e = or_right (x == k) (has k (xs ++ ys)) (has_behind k xs ys e)

has_front : (k : ℕ) (xs ys : List ℕ) → has k xs ≡ true → has k (xs ++ ys) ≡ true
has_front k [] ys e = absurd (cc e)
has_front k (x ∷ xs) ys e = or_is (x == k) (has k xs) (has k (xs ++ ys)) e (has_front k xs ys)

each_has : (front ls : List Line) → Each (λ l. has l.at (map (λ l. l.at) (front ++ ls)) ≡ true) ls
each_has front [] = tt
each_has front (l ∷ ls) = (
  subst (λ w. has l.at w ≡ true) (sym (map_append front (l ∷ ls))) (has_behind l.at (map (λ l. l.at) front) (l.at ∷ map (λ l. l.at) ls) (or_left (l.at == l.at) (has l.at (map (λ l. l.at) ls)) (eq-eqb l.at l.at refl))),
  subst (λ w. Each (λ k. has k.at (map (λ l. l.at) w) ≡ true) ls) (append_assoc front (l ∷ []) ls) (each_has (front ++ l ∷ []) ls),
)
  where
    map_append : (xs ys : List Line) → map (λ l. l.at) (xs ++ ys) ≡ map (λ l. l.at) xs ++ map (λ l. l.at) ys
    map_append [] ys = refl
    map_append (x ∷ xs) ys = ap (λ w. x.at ∷ w) (map_append xs ys)

has_filter : (k total : ℕ) (ms : List ℕ) → k < total → has k ms ≡ true → has k (filter (λ n. nat_lt n total) ms) ≡ true
has_filter k total [] lt e = absurd (cc e)
has_filter k total (m ∷ ms) lt e = by (nat_lt m total) refl (has_filter k total ms lt)
  where
    is_low : k < total → nat_lt k total ≡ true
    is_low l = grind (arith, nat_tests)

    other : nat_lt m total ≡ false → (m == k) ≡ false
    other f = ne_eqb m k (λ same. let t = subst (λ n. nat_lt n total ≡ false) same f in let u = is_low lt in cc (t, u))

    by : (b : Bool) → nat_lt m total ≡ b → (has k ms ≡ true → has k (filter (λ n. nat_lt n total) ms) ≡ true) → has k (if b then m ∷ filter (λ n. nat_lt n total) ms else filter (λ n. nat_lt n total) ms) ≡ true
    by true f ih = or_is (m == k) (has k ms) (has k (filter (λ n. nat_lt n total) ms)) e ih
    by false f ih = ih (rest (m == k) (has k ms) (other f) e)

ascend_filter : (total : ℕ) (ms : List ℕ) → DoAscend ms → DoAscend (filter (λ n. nat_lt n total) ms)
ascend_filter total [] a = tt
ascend_filter total (m ∷ ms) a = by (nat_lt m total)
  where
    first : (k : ℕ) (ns : List ℕ) → AreAbove k ns → DoAscend ns
    first k [] b = tt
    first k (n ∷ ns) b = b.1

    by : (b : Bool) → DoAscend (if b then m ∷ filter (λ n. nat_lt n total) ms else filter (λ n. nat_lt n total) ms)
    by true = above_filter m total ms a
    by false = first m (filter (λ n. nat_lt n total) ms) (above_filter m total ms a)

each_of : (P Q : Line → Type 0) (ls : List Line) → ((l : Line) → P l → Q l) → Each P ls → Each Q ls
each_of P Q [] f e = tt
each_of P Q (l ∷ ls) f e = (f l e.0, each_of P Q ls f e.1)

pub commands_are_covered : CommandsAreCovered
commands_are_covered commands total =
    let all = cuts commands total in
    let ascend : DoAscend all = ascends (0 ∷ named commands total) in
    let there : Each (λ l. has l.at all ≡ true) commands = each_of (λ l. has l.at (map (λ l. l.at) commands) ≡ true) (λ l. has l.at all ≡ true) commands
    (λ l e. has_ascending l.at (0 ∷ named commands total) (or_right (0 == l.at) (has l.at (named commands total)) (has_front l.at (map (λ l. l.at) commands) (multiples_below total) e))) (each_has [] commands) in (
      each_of (λ l. has l.at all ≡ true) (λ l. StandsOnce l.at all) commands (λ l e. once_in l.at all ascend e) there,
      each_of (λ l. has l.at all ≡ true) (λ l. l.at < total → StandsOnce l.at (cuts_within commands total)) commands (λ l e lt. once_in l.at (cuts_within commands total) (ascend_filter total all ascend) (has_filter l.at total all lt e)) there,
    )

-- ---- sizes

has_counted : (first more k : ℕ) → first ≤ k → k < first + more → has k (counted first more) ≡ true
has_counted first zero k low high = absurd (omega (arith, low, high))
has_counted first (suc more) k low high = by (ℕ_discrete first k) (λ ne. has_counted (suc first) more k (omega (arith, low, ne)) (omega (arith, high)))
  where
    by : Dec (first ≡ k) → (first ≢ k → has k (counted (suc first) more) ≡ true) → has k (first ∷ counted (suc first) more) ≡ true
    by (yes same) ih = or_left (first == k) (has k (counted (suc first) more)) (eq-eqb first k same)
    by (no ne) ih = or_right (first == k) (has k (counted (suc first) more)) (ih ne)

has_map : (k : ℕ) (is : List ℕ) → has k is ≡ true → has (1024 * k) (map (λ i. 1024 * i) is) ≡ true
has_map k [] e = absurd (cc e)
has_map k (i ∷ is) e = by (ℕ_discrete i k) (has_map k is)
  where
    by : Dec (i ≡ k) → (has k is ≡ true → has (1024 * k) (map (λ i. 1024 * i) is) ≡ true) → has (1024 * k) (1024 * i ∷ map (λ i. 1024 * i) is) ≡ true
    by (yes same) ih = or_left (1024 * i == 1024 * k) (has (1024 * k) (map (λ i. 1024 * i) is)) (eq-eqb (1024 * i) (1024 * k) (ap (λ n. 1024 * n) same))
    by (no ne) ih = or_right (1024 * i == 1024 * k) (has (1024 * k) (map (λ i. 1024 * i) is)) (ih (rest (i == k) (has k is) (ne_eqb i k ne) e))

-- a multiple below the number of records is a cut
multiple_cuts : (commands : List Line) (total k : ℕ) → 1024 * k < total → has (1024 * k) (cuts commands total) ≡ true
multiple_cuts commands total k lt = has_ascending (1024 * k) (0 ∷ named commands total)
    (or_right (0 == 1024 * k) (has (1024 * k) (named commands total)) (has_behind (1024 * k) (map (λ l. l.at) commands) (multiples_below total) (has_map k (counted 0 ((total + 1023) / 1024)) (has_counted 0 ((total + 1023) / 1024) k (omega arith) (omega (arith, lt))))))

-- a number that stands behind a cut isn't below the end of its round
end_low : (cut total n : ℕ) (ms : List ℕ) → AreAbove cut ms → has n ms ≡ true → end_before ms total ≤ n
end_low cut total n [] a e = absurd (cc e)
end_low cut total n (m ∷ ms) a e = by (ℕ_discrete m n)
  where
    by : Dec (m ≡ n) → m ≤ n
    by (yes same) = omega (arith, same)
    by (no ne) = let f = (once_above m n ms a.1 (rest (m == n) (has n ms) (ne_eqb m n ne) e)).1 in omega (arith, f)

-- each multiple of 1,024 below the total that is above this cut stands behind it
abbrev HasMultiples : ℕ → ℕ → List ℕ → Type 0
HasMultiples cut total ms = (k : ℕ) → 1024 * k < total → cut < 1024 * k → has (1024 * k) ms ≡ true

next_multiples : (cut total m : ℕ) (ms : List ℕ) → cut < m → HasMultiples cut total (m ∷ ms) → HasMultiples m total ms
next_multiples cut total m ms below h k lt up = rest (m == 1024 * k) (has (1024 * k) ms) (ne_eqb m (1024 * k) (λ e. omega (arith, e, up))) (h k lt (omega (arith, below, up)))

-- the next multiple above a cut
next_multiple : (cut : ℕ) → (cut < 1024 * (cut / 1024 + 1)) × (1024 * (cut / 1024 + 1) ≤ cut + 1024)
next_multiple cut = (omega arith, omega arith)

take_at_most : {A : Type 0} (n : ℕ) (xs : List A) → (length (take n xs) ≤ n) × (length (take n xs) ≤ length xs)
take_at_most zero xs = (omega arith, omega arith)
take_at_most (suc n) [] = (omega arith, omega arith)
take_at_most (suc n) (x ∷ xs) = let t = take_at_most n xs in (omega (arith, t.0), omega (arith, t.1))

small_stretch : (records : List Record) (cut : ℕ) (ms : List ℕ) → AreAbove cut ms → HasMultiples cut (length records) ms → length (packets_between records cut (end_before ms (length records))) ≤ 1024
small_stretch records cut ms a h =
    let total = length records in
    let next = next_multiple cut in
    let size = take_at_most (end_before ms total - cut) (drop cut (numbered 0 records)) in
    let left : length (drop cut (numbered 0 records)) ≡ total - cut = length-drop cut (numbered 0 records) ∙ ap (λ n. n - cut) (numbered_length 0 records) in
    by (nat_lt (1024 * (cut / 1024 + 1)) total) refl next size left
  where
    by : (b : Bool) → nat_lt (1024 * (cut / 1024 + 1)) (length records) ≡ b → (cut < 1024 * (cut / 1024 + 1)) × (1024 * (cut / 1024 + 1) ≤ cut + 1024)
        → (length (packets_between records cut (end_before ms (length records))) ≤ end_before ms (length records) - cut) × (length (packets_between records cut (end_before ms (length records))) ≤ length (drop cut (numbered 0 records)))
        → length (drop cut (numbered 0 records)) ≡ length records - cut → length (packets_between records cut (end_before ms (length records))) ≤ 1024
    by true e next size left = omega (arith, next.1, size.0, end_low cut (length records) (1024 * (cut / 1024 + 1)) ms a (h (cut / 1024 + 1) (lt_is (1024 * (cut / 1024 + 1)) (length records) e) next.0))
    by false e next size left = omega (arith, next.1, size.1, left, le_is (1024 * (cut / 1024 + 1)) (length records) e)

small_stretches : (records : List Record) (cut : ℕ) (ms : List ℕ) → AreAbove cut ms → HasMultiples cut (length records) ms → Each (λ t. length (packets_between records t.0 t.1) ≤ 1024) (stretches (cut ∷ ms) (length records))
small_stretches records cut [] a h = (small_stretch records cut [] a h, tt)
small_stretches records cut (m ∷ ms) a h = (small_stretch records cut (m ∷ ms) a h, small_stretches records m ms a.1 (next_multiples cut (length records) m ms a.0 h))

pub rounds_are_small : RoundsAreSmall
rounds_are_small commands records =
    let total = length records in
    let c = cuts_are commands total in
    let there : HasMultiples 0 total c.0 = λ k lt up. behind_zero (1024 * k) c.0 up (subst (λ w. has (1024 * k) w ≡ true) c.1 (multiple_cuts commands total k lt)) in
    subst (λ w. Each (λ t. length (packets_between records t.0 t.1) ≤ 1024) (stretches w total)) (sym c.1) (small_stretches records 0 c.0 c.2 there)
  where
    behind_zero : (n : ℕ) (ms : List ℕ) → 0 < n → has n (0 ∷ ms) ≡ true → has n ms ≡ true
    behind_zero n ms lt e = rest (0 == n) (has n ms) (ne_eqb 0 n (λ f. omega (arith, f, lt))) e
