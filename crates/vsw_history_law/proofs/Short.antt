-- The histories of a run are no longer than what was to be done.
use Rattle.std.proofs.Common.{◌≡◌, ◌≢◌, ◌≤◌, ◌<◌, inl, inr, ℕ, suc, ◌+◌, ◌==◌, ◌&&◌, not, Bool, true, false, if◌then◌else◌, List, [], ◌∷◌, ◌++◌, length, map, filter, Result, Ok, Err, nat_lt, refl, ap, sym, ◌∙◌, subst, arith, eq-eqb, ne_eqb, length-append}
use Rattle.std.specs.List.{flat_map}
use Rattle.vsw_base.specs.declared.flow.Place.{Place}
use Rattle.vsw_base.specs.Frame.{Parts}
use Rattle.vsw_commandfile.specs.declared.line.Line.{Line}
use Rattle.vsw_history_law.proofs.Callers.{eqb_is}
use Rattle.vsw_history_law.proofs.Covers.{commands_are_covered, numbered_length, packets_are_covered}
use Rattle.vsw_history_law.proofs.OneLine.{count, count_append, count_no, count_none, count_yes, flat_few}
use Rattle.vsw_history_law.proofs.Reports.{runs_legally}
use Rattle.vsw_history_law.specs.Cover.{AreCovered, stretches}
use Rattle.vsw_history_law.specs.Law.{all_jobs}
use Rattle.vsw_history_law.specs.Short.{AreCuts, EntriesAreJobs, HistoriesAreShort}
use Rattle.vsw_pcap.specs.declared.capture.Record.{Record}
use Rattle.vsw_policy.specs.Sound.{Each}
use Rattle.vsw_port.specs.Calls.{Ask, Call, Job, calls_of, doer, entries_of, event_of, job_of, named}
use Rattle.vsw_port.specs.Order.{StandsOnce}
use Rattle.vsw_promise.proofs.Handed.{packets_aimed}
use Rattle.vsw_promise.specs.Forwarded.{aimed_at, packet_jobs}
use Rattle.vsw_promise.specs.Jobs.{Setting, aim_of, at_place, before_jobs, cuts, during_jobs, macs_of, packets_between, placed_packets}
use Rattle.vsw_promise.specs.Rounds.{end_before}
use Rattle.vsw_report.specs.declared.round.LooseCause.{LooseCause}
use Rattle.vsw_report.specs.declared.round.Round.{Round}

-- ---- a list that has no more of any key has no more in all

-- without the first that passes
abbrev without : {A : Type 0} → (A → Bool) → List A → List A
without p [] = []
without p (x ∷ xs) = if p x then xs else x ∷ without p xs

without_yes : {A : Type 0} (p : A → Bool) (x : A) (xs : List A) → p x ≡ true → without p (x ∷ xs) ≡ xs
without_yes p x xs e = rw e refl

without_no : {A : Type 0} (p : A → Bool) (x : A) (xs : List A) → p x ≡ false → without p (x ∷ xs) ≡ x ∷ without p xs
without_no p x xs e = rw e refl

-- of those that pass one is gone
one_less : {A : Type 0} (p q : A → Bool) (xs : List A) → 0 < count p xs → ((x : A) → p x ≡ true → q x ≡ true) → suc (count q (without p xs)) ≡ count q xs
one_less {A = A} p q [] some e = absurd (omega (arith, some))
one_less {A = A} p q (x ∷ xs) some e = by (p x) refl (one_less p q xs)
  where
    Less : Type 0
    Less = 0 < count p xs → ((x : A) → p x ≡ true → q x ≡ true) → suc (count q (without p xs)) ≡ count q xs

    by : (b : Bool) → p x ≡ b → Less → suc (count q (without p (x ∷ xs))) ≡ count q (x ∷ xs)
    by true f ih = ap (λ w. suc (count q w)) (without_yes p x xs f) ∙ sym (count_yes q x xs (e x f))
    by false f ih = ap (λ w. suc (count q w)) (without_no p x xs f) ∙ next (q x) refl (ih (omega (arith, some, count_no p x xs f)) e)
      where
        next : (b : Bool) → q x ≡ b → suc (count q (without p xs)) ≡ count q xs → suc (count q (x ∷ without p xs)) ≡ count q (x ∷ xs)
        next true g rest = omega (arith, count_yes q x (without p xs) g, count_yes q x xs g, rest)
        next false g rest = omega (arith, count_no q x (without p xs) g, count_no q x xs g, rest)

-- of the others none is
none_less : {A : Type 0} (p q : A → Bool) (xs : List A) → ((x : A) → p x ≡ true → q x ≡ false) → count q (without p xs) ≡ count q xs
none_less p q [] e = refl
none_less p q (x ∷ xs) e = by (p x) refl (none_less p q xs e)
  where
    by : (b : Bool) → p x ≡ b → count q (without p xs) ≡ count q xs → count q (without p (x ∷ xs)) ≡ count q (x ∷ xs)
    by true f ih = ap (count q) (without_yes p x xs f) ∙ sym (count_no q x xs (e x f))
    by false f ih = ap (count q) (without_no p x xs f) ∙ next (q x) refl
      where
        next : (b : Bool) → q x ≡ b → count q (x ∷ without p xs) ≡ count q (x ∷ xs)
        next true g = omega (arith, count_yes q x (without p xs) g, count_yes q x xs g, ih)
        next false g = omega (arith, count_no q x (without p xs) g, count_no q x xs g, ih)

any_passes : {A : Type 0} (xs : List A) → count (λ x. true) xs ≡ length xs
any_passes [] = refl
any_passes (x ∷ xs) = ap suc (any_passes xs)

eq_of : (a b c : ℕ) → (a == b) ≡ true → (b == c) ≡ true → (a == c) ≡ true
eq_of a b c e f = eq-eqb a c (eqb_is a b e ∙ eqb_is b c f)

ne_of : (a b c : ℕ) → (a == b) ≡ true → (b == c) ≡ false → (a == c) ≡ false
ne_of a b c e f = ap (λ n. n == c) (eqb_is a b e) ∙ f

few_by_key : {A B : Type 0} (f : A → ℕ) (g : B → ℕ) (xs : List A) (ys : List B) → ((k : ℕ) → count (λ x. f x == k) xs ≤ count (λ y. g y == k) ys) → length xs ≤ length ys
few_by_key {A = A} {B = B} f g [] ys few = omega arith
few_by_key {A = A} {B = B} f g (x ∷ xs) ys few =
    let k = f x in
    let p : B → Bool = λ y. g y == k in
    let some : 0 < count p ys = omega (arith, few k, count_yes (λ x. f x == k) x xs (eq-eqb k k refl)) in
    let smaller : suc (length (without p ys)) ≡ length ys = ap suc (sym (any_passes (without p ys))) ∙ (one_less p (λ y. true) ys some (λ y e. refl) ∙ any_passes ys) in
    omega (arith, smaller, few_by_key f g xs (without p ys) (λ j. by j (k == j) refl some))
  where
    by : (j : ℕ) (b : Bool) → (f x == j) ≡ b → 0 < count (λ y. g y == f x) ys → count (λ x. f x == j) xs ≤ count (λ y. g y == j) (without (λ y. g y == f x) ys)
    by j true e some = omega (arith, few j, count_yes (λ x. f x == j) x xs e, one_less (λ y. g y == f x) (λ y. g y == j) ys some (λ y t. eq_of (g y) (f x) j t e))
    by j false e some = omega (arith, few j, count_no (λ x. f x == j) x xs e, none_less (λ y. g y == f x) (λ y. g y == j) ys (λ y t. ne_of (g y) (f x) j t e))

-- ---- entries and jobs

entries_few : (cs : List Call) → length (entries_of cs) ≤ length cs
entries_few [] = omega arith
entries_few (c ∷ cs) = by c.entry (entries_few cs)
  where
    by : (b : Bool) → length (entries_of cs) ≤ length cs → length (map (λ (c : Call). event_of c.deed) (if b then c ∷ filter (λ c. c.entry) cs else filter (λ c. c.entry) cs)) ≤ suc (length cs)
    by true ih = omega (arith, ih)
    by false ih = omega (arith, ih)

map_size : {A B : Type 0} (f : A → B) (xs : List A) → length (map f xs) ≡ length xs
map_size f [] = refl
map_size f (x ∷ xs) = ap suc (map_size f xs)

pub entries_are_jobs : EntriesAreJobs
entries_are_jobs s records cuts rounds run place p h e f =
    let legal = runs_legally s records cuts rounds run place p h e f in
    let ns = p.controllers in
    omega (
      arith,
      few_by_key (named ns) (λ (c : Call). doer ns c.deed) h legal.calls (λ k. omega (arith, ap length (legal.legal.entries k), entries_few (calls_of ns k legal.calls))),
      map_size (λ (c : Call). job_of c.deed) legal.calls,
      ap length legal.jobs,
    )

-- ---- jobs, commands and records

-- the commands that name these cuts, cut by cut
abbrev naming : List ℕ → List Line → ℕ
naming [] ls = 0
naming (cut ∷ cs) ls = count (λ (l : Line). l.at == cut) ls + naming cs ls

naming_none : (cs : List ℕ) → naming cs [] ≡ 0
naming_none [] = refl
naming_none (cut ∷ cs) = omega (arith, naming_none cs)

naming_more : (cs : List ℕ) (l : Line) (ls : List Line) → naming cs (l ∷ ls) ≡ count (λ c. l.at == c) cs + naming cs ls
naming_more [] l ls = refl
naming_more (cut ∷ cs) l ls = by (l.at == cut) refl (naming_more cs l ls)
  where
    by : (b : Bool) → (l.at == cut) ≡ b → naming cs (l ∷ ls) ≡ count (λ c. l.at == c) cs + naming cs ls → naming (cut ∷ cs) (l ∷ ls) ≡ count (λ c. l.at == c) (cut ∷ cs) + naming (cut ∷ cs) ls
    by true e ih = omega (arith, count_yes (λ (l : Line). l.at == cut) l ls e, count_yes (λ c. l.at == c) cut cs e, ih)
    by false e ih = omega (arith, count_no (λ (l : Line). l.at == cut) l ls e, count_no (λ c. l.at == c) cut cs e, ih)

naming_few : (cs : List ℕ) (ls : List Line) → Each (λ l. count (λ c. l.at == c) cs ≤ 1) ls → naming cs ls ≤ length ls
naming_few cs [] e = omega (arith, naming_none cs)
naming_few cs (l ∷ ls) e = omega (arith, naming_more cs l ls, e.0, naming_few cs ls e.1)

others_none : (n : ℕ) (ms : List ℕ) → Each (λ m. m ≢ n) ms → Each (λ m. (n == m) ≡ false) ms
others_none n [] e = tt
others_none n (m ∷ ms) e = (ne_eqb n m (λ f. e.0 (sym f)), others_none n ms e.1)

once_is : (n : ℕ) (cs : List ℕ) → StandsOnce n cs → count (λ c. n == c) cs ≡ 1
once_is n cs o =
    let front = count_none (λ c. n == c) o.front (others_none n o.front o.not_front) in
    let back = count_none (λ c. n == c) o.back (others_none n o.back o.not_back) in
    ap (count (λ c. n == c)) o.is ∙ omega (arith, count_append (λ c. n == c) o.front (n ∷ o.back), front, count_yes (λ c. n == c) n o.back (eq-eqb n n refl), back)

count_filter : {A : Type 0} (p q : A → Bool) (xs : List A) → count p (filter q xs) ≤ count p xs
count_filter p q [] = omega arith
count_filter p q (x ∷ xs) = by (q x) refl (p x) refl (count_filter p q xs)
  where
    kept : q x ≡ true → filter q (x ∷ xs) ≡ x ∷ filter q xs
    kept e = rw e refl

    gone : q x ≡ false → filter q (x ∷ xs) ≡ filter q xs
    gone e = rw e refl

    by : (b : Bool) → q x ≡ b → (c : Bool) → p x ≡ c → count p (filter q xs) ≤ count p xs → count p (filter q (x ∷ xs)) ≤ count p (x ∷ xs)
    by true e true f ih = omega (arith, ap (count p) (kept e), count_yes p x (filter q xs) f, count_yes p x xs f, ih)
    by true e false f ih = omega (arith, ap (count p) (kept e), count_no p x (filter q xs) f, count_no p x xs f, ih)
    by false e true f ih = omega (arith, ap (count p) (gone e), count_yes p x xs f, ih)
    by false e false f ih = omega (arith, ap (count p) (gone e), count_no p x xs f, ih)

once_each : (cs : List ℕ) (ls : List Line) → Each (λ l. StandsOnce l.at cs) ls → Each (λ l. count (λ c. l.at == c) cs ≤ 1) ls
once_each cs [] e = tt
once_each cs (l ∷ ls) e = (omega (arith, once_is l.at cs e.0), once_each cs ls e.1)

within_each : (q : ℕ → Bool) (cs : List ℕ) (ls : List Line) → Each (λ l. count (λ c. l.at == c) cs ≤ 1) ls → Each (λ l. count (λ c. l.at == c) (filter q cs) ≤ 1) ls
within_each q cs [] e = tt
within_each q cs (l ∷ ls) e = (omega (arith, count_filter (λ c. l.at == c) q cs, e.0), within_each q cs ls e.1)

named_once : (s : Setting) (records : List Record) (cs : List ℕ) → AreCuts s.commands (length records) cs → Each (λ l. count (λ c. l.at == c) cs ≤ 1) s.commands
named_once s records cs (inl e) = subst (λ w. Each (λ l. count (λ c. l.at == c) w ≤ 1) s.commands) (sym e) (once_each (cuts s.commands (length records)) s.commands (commands_are_covered s.commands (length records)).0)
named_once s records cs (inr e) =
    subst (λ w. Each (λ l. count (λ c. l.at == c) w ≤ 1) s.commands) (sym e)
    (within_each (λ n. nat_lt n (length records)) (cuts s.commands (length records)) s.commands (once_each (cuts s.commands (length records)) s.commands (commands_are_covered s.commands (length records)).0))

-- the commands of a port in a round name its cut
asks_few : (first number : ℕ) (ls : List Line) → length (before_jobs ls first number) + length (during_jobs ls first number) ≤ count (λ (l : Line). l.at == first) ls
asks_few first number [] = omega arith
asks_few first number (l ∷ ls) = by (l.at == first) (l.port == number) l.during (asks_few first number ls)
  where
    before : Line → Bool
    before l = (l.at == first) && (l.port == number) && not l.during

    during : Line → Bool
    during l = (l.at == first) && (l.port == number) && l.during

    by : (a b c : Bool) → length (map Ask (filter before ls)) + length (map Ask (filter during ls)) ≤ count (λ (l : Line). l.at == first) ls
        → length (map Ask (if a && b && not c then l ∷ filter before ls else filter before ls)) + length (map Ask (if a && b && c then l ∷ filter during ls else filter during ls)) ≤ length (if a then l ∷ filter (λ (l : Line). l.at == first) ls else filter (λ (l : Line). l.at == first) ls)
    by true true true ih = omega (arith, ih)
    by true true false ih = omega (arith, ih)
    by true false true ih = omega (arith, ih)
    by true false false ih = omega (arith, ih)
    by false true true ih = ih
    by false true false ih = ih
    by false false true ih = ih
    by false false false ih = ih

aimed_few : (workers port n moment : ℕ) (aim : Result (Place × Parts) LooseCause) → length (aimed_at workers port n moment aim) ≤ 1
aimed_few workers port n moment (Err why) = omega arith
aimed_few workers port n moment (Ok a) = by (a.0.port == port) _
  where
    by : (b : Bool) (j : Job) → length (if b then j ∷ [] else []) ≤ 1
    by true j = omega arith
    by false j = omega arith

packets_few : (workers : ℕ) (macs : List ℕ) (port : ℕ) (packets : List (ℕ × Record)) → length (packet_jobs workers macs port packets) ≤ length packets
packets_few workers macs port packets = flat_few (λ (p : ℕ × Record). aimed_at workers port p.0 p.1.moment (aim_of macs p.1)) packets (λ p. aimed_few workers port p.0 p.1.moment (aim_of macs p.1))

-- the packets of the rounds at these cuts
abbrev covered_by : List Record → List ℕ → List (ℕ × Record)
covered_by records cs = flat_map (λ t. packets_between records t.0 t.1) (stretches cs (length records))

jobs_few : (s : Setting) (records : List Record) (place number : ℕ) → s.local ≡ false → (cs : List ℕ) (rounds : List Round) → length (all_jobs s records cs rounds place number) ≤ naming cs s.commands + length (covered_by records cs)
jobs_few s records place number apart [] rounds = omega arith
jobs_few s records place number apart (cut ∷ cs) [] = omega arith
jobs_few s records place number apart (cut ∷ cs) (r ∷ rounds) =
    let next = end_before cs (length records) in
    let packets = packets_between records cut next in
    let before = before_jobs s.commands cut number in
    let during = during_jobs s.commands cut number in
    let at = at_place place (placed_packets s.workers s.local (macs_of s.policy) r.ports packets) in
    let rest = all_jobs s records cs rounds place number in
    omega (
      arith,
      length-append before (during ++ at),
      length-append during at,
      length-append (before ++ (during ++ at)) rest,
      length-append packets (covered_by records cs),
      asks_few cut number s.commands,
      ap length (packets_aimed s.workers s.local (macs_of s.policy) r.ports place packets apart),
      packets_few s.workers (macs_of s.policy) place packets,
      jobs_few s records place number apart cs rounds,
    )

cuts_cover : (s : Setting) (records : List Record) (cs : List ℕ) → AreCuts s.commands (length records) cs → AreCovered cs records
cuts_cover s records cs (inl e) = subst (λ w. AreCovered w records) (sym e) (packets_are_covered s.commands records).0
cuts_cover s records cs (inr e) = subst (λ w. AreCovered w records) (sym e) (packets_are_covered s.commands records).1

pub histories_are_short : HistoriesAreShort
histories_are_short s records cs rounds run place p h apart are e f =
    omega (
      arith,
      entries_are_jobs s records cs rounds run place p h e f,
      jobs_few s records place p.number apart cs rounds,
      naming_few cs s.commands (named_once s records cs are),
      ap length (cuts_cover s records cs are),
      numbered_length 0 records,
    )
