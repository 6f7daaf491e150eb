-- Each packet has its line.
use Rattle.std.proofs.Common.{◌≡◌, ◌≤◌, ◌<◌, ℕ, zero, suc, ◌+◌, ◌==◌, ◌&&◌, not, Bool, true, false, if◌then◌else◌, List, [], ◌∷◌, ◌++◌, length, map, filter, Option, Some, None, Result, Ok, Err, slice_get, refl, ap, sym, ◌∙◌, subst, arith, eq-eqb, ne_eqb, length-append}
use Rattle.std.specs.List.{flat_map}
use Rattle.std.specs.Prelude.{option_and_then, option_map, option_to_list}
use Rattle.vsw_base.specs.declared.fate.Fate.{Fate}
use Rattle.vsw_base.specs.declared.fate.Fate.TheVariants.{Pass, Drop}
use Rattle.vsw_base.specs.declared.flow.Place.{Place}
use Rattle.vsw_base.specs.declared.fault.BadFrame.{BadFrame}
use Rattle.vsw_base.specs.declared.packet.Dir.{Dir}
use Rattle.vsw_base.specs.declared.packet.Dir.TheVariants.{Out, In}
use Rattle.vsw_base.specs.Frame.{Parts, frame_of}
use Rattle.vsw_commandfile.specs.declared.line.Line.{Line}
use Rattle.vsw_header.specs.PortChoice.{in_of}
use Rattle.vsw_history_law.proofs.Agrees.{AreNumbered, between_are, eq_is, is_job, picked, picked_append, round_tells}
use Rattle.vsw_history_law.proofs.PlainRuns.{fates_append}
use Rattle.vsw_history_law.proofs.Reports.{round_jobs}
use Rattle.vsw_history_law.specs.Cover.{stretches}
use Rattle.vsw_history_law.specs.Law.{AreServed}
use Rattle.vsw_history_law.specs.OneLine.{EachHasItsLine, at_aim, if_loose, times_at, times_loose}
use Rattle.vsw_history_law.specs.Plain.{what_became}
use Rattle.vsw_pcap.specs.declared.capture.Record.{Record}
use Rattle.vsw_policy.specs.Sound.{Each}
use Rattle.vsw_port.specs.Calls.{Job, Carry, Ask, Deed, Carried, Asked, Call, job_of}
use Rattle.vsw_port.specs.Order.{numbered}
use Rattle.vsw_port.specs.declared.event.Event.{Event}
use Rattle.vsw_port.proofs.Calls.{each_append}
use Rattle.vsw_port.proofs.Fronts.{append_end}
use Rattle.vsw_promise.proofs.Handed.{each_at, place_append}
use Rattle.vsw_promise.specs.Agree.{lines_at}
use Rattle.vsw_promise.specs.Jobs.{Hop, Placed, Setting, aim_of, at_place, crossing_by, during_jobs, fates_told, handed_on, hop_of, hops_of, if_other, jobs_of, loose_after, loose_among, macs_of, packets_between, placed_packet, placed_packets, second_job, worker_of}
use Rattle.vsw_promise.specs.Ports.{PortSeen, ports_of}
use Rattle.vsw_promise.specs.Rounds.{ArePortRounds, AreRoundsAt, IsPortRound, IsRound, end_before}
use Rattle.vsw_promise.specs.Told.{fates_in}
use Rattle.vsw_report.specs.declared.round.Loose.{Loose}
use Rattle.vsw_report.specs.declared.round.LooseCause.{LooseCause}
use Rattle.vsw_report.specs.declared.round.PortRound.{PortRound}
use Rattle.vsw_report.specs.declared.round.Round.{Round}
use Rattle.vsw_report.specs.declared.told.What.{What}
use Rattle.vsw_report.specs.declared.told.What.TheVariants as what

-- ---- counting

-- a number so many times
abbrev rep : ℕ → ℕ → ℕ
rep zero x = 0
rep (suc k) x = x + rep k x

rep_ones : (k : ℕ) → rep k 1 ≡ k
rep_ones zero = refl
rep_ones (suc k) = omega (arith, rep_ones k)

none_plus : (b : ℕ) → 0 + b ≡ b
none_plus b = omega arith

suc_plus : (a b : ℕ) → suc a + b ≡ suc (a + b)
suc_plus a b = omega arith

rep_plus : (a b x : ℕ) → rep (a + b) x ≡ rep a x + rep b x
rep_plus zero b x = omega (arith, ap (λ k. rep k x) (none_plus b))
rep_plus (suc a) b x = ap (λ k. rep k x) (suc_plus a b) ∙ omega (arith, rep_plus a b x)

rep_most : (k x : ℕ) → k ≤ 1 → x ≤ 1 → rep k x ≤ k
rep_most zero x few most = omega arith
rep_most (suc zero) x few most = omega (arith, most)
rep_most (suc (suc k)) x few most = absurd (omega (arith, few))

-- how many of these pass a test
abbrev pub count : {A : Type 0} → (A → Bool) → List A → ℕ
count p xs = length (filter p xs)

pub count_append : {A : Type 0} (p : A → Bool) (xs ys : List A) → count p (xs ++ ys) ≡ count p xs + count p ys
count_append p [] ys = omega arith
count_append p (x ∷ xs) ys = by (p x) (count_append p xs ys)
  where
    by : (b : Bool) → count p (xs ++ ys) ≡ count p xs + count p ys → length (if b then x ∷ filter p (xs ++ ys) else filter p (xs ++ ys)) ≡ length (if b then x ∷ filter p xs else filter p xs) + count p ys
    by true ih = ap suc ih ∙ sym (suc_plus (count p xs) (count p ys))
    by false ih = ih

pub count_none : {A : Type 0} (p : A → Bool) (xs : List A) → Each (λ x. p x ≡ false) xs → count p xs ≡ 0
count_none p [] e = refl
count_none p (x ∷ xs) e = by (p x) e.0 (count_none p xs e.1)
  where
    by : (b : Bool) → b ≡ false → count p xs ≡ 0 → length (if b then x ∷ filter p xs else filter p xs) ≡ 0
    by true f ih = absurd (cc f)
    by false f ih = ih

-- ---- the calls of a packet, and its jobs

abbrev jobs_with : ℕ → List Job → ℕ
jobs_with n js = count (is_job n) js

one_became : (n : ℕ) (d : Deed) → length (picked n (what_became d)) ≡ jobs_with n (job_of d ∷ [])
one_became n (Carried x p fate bytes) = by (x.packet == n)
  where
    by : (b : Bool) → length (map (λ (t : ℕ × Fate × List ℕ). what.Fate t.1 t.2) (if b then (x.packet, fate, bytes) ∷ [] else [])) ≡ length (if b then Carry x p ∷ [] else [])
    by true = refl
    by false = refl
one_became n (Asked l reply) = refl

all_became : (n : ℕ) (cs : List Call) → length (picked n (flat_map (λ c. what_became c.deed) cs)) ≡ jobs_with n (map (λ c. job_of c.deed) cs)
all_became n [] = refl
all_became n (c ∷ cs) =
    let here = one_became n c.deed in
    let rest = all_became n cs in
    let split : length (picked n (flat_map (λ c. what_became c.deed) (c ∷ cs))) ≡ length (picked n (what_became c.deed)) + length (picked n (flat_map (λ c. what_became c.deed) cs)) =
    ap length (picked_append n (what_became c.deed) (flat_map (λ c. what_became c.deed) cs)) ∙ length-append (picked n (what_became c.deed)) (picked n (flat_map (λ c. what_became c.deed) cs)) in
    let joined : jobs_with n (map (λ c. job_of c.deed) (c ∷ cs)) ≡ jobs_with n (job_of c.deed ∷ []) + jobs_with n (map (λ c. job_of c.deed) cs) = count_append (is_job n) (job_of c.deed ∷ []) (map (λ c. job_of c.deed) cs) in
    split ∙ ((λ i. here i + rest i) ∙ sym joined)

asks_none : (n : ℕ) (ls : List Line) → jobs_with n (map Ask ls) ≡ 0
asks_none n [] = refl
asks_none n (l ∷ ls) = asks_none n ls

-- ---- lists, one element more

pub count_yes : {A : Type 0} (p : A → Bool) (x : A) (xs : List A) → p x ≡ true → count p (x ∷ xs) ≡ suc (count p xs)
count_yes p x xs e = rw e refl

pub count_no : {A : Type 0} (p : A → Bool) (x : A) (xs : List A) → p x ≡ false → count p (x ∷ xs) ≡ count p xs
count_no p x xs e = rw e refl

count_most : {A : Type 0} (p : A → Bool) (x : A) (xs : List A) → count p (x ∷ xs) ≤ suc (count p xs)
count_most p x xs = by (p x) refl
  where
    by : (b : Bool) → p x ≡ b → count p (x ∷ xs) ≤ suc (count p xs)
    by true e = omega (arith, count_yes p x xs e)
    by false e = omega (arith, count_no p x xs e)

place_yes : (i : ℕ) (t : Placed) (ts : List Placed) → (t.0 == i) ≡ true → at_place i (t ∷ ts) ≡ t.1 ∷ at_place i ts
place_yes i t ts e = rw e refl

place_no : (i : ℕ) (t : Placed) (ts : List Placed) → (t.0 == i) ≡ false → at_place i (t ∷ ts) ≡ at_place i ts
place_no i t ts e = rw e refl

place_most : (n i : ℕ) (t : Placed) (ts : List Placed) → jobs_with n (at_place i (t ∷ ts)) ≤ suc (jobs_with n (at_place i ts))
place_most n i t ts = by (t.0 == i) refl
  where
    by : (b : Bool) → (t.0 == i) ≡ b → jobs_with n (at_place i (t ∷ ts)) ≤ suc (jobs_with n (at_place i ts))
    by true e = omega (arith, ap (jobs_with n) (place_yes i t ts e), count_most (is_job n) t.1 (at_place i ts))
    by false e = omega (arith, ap (jobs_with n) (place_no i t ts e))

-- ---- what a packet is handed on as

-- the jobs at a place of what packet m is handed on as, that are of packet n
abbrev seconds : ℕ → ℕ → ℕ → ℕ → ℕ → List Hop → ℕ
seconds worker i moment m n hops = jobs_with n (at_place i (map (second_job worker m moment) hops))

seconds_few : (worker i moment m n : ℕ) (hops : List Hop) → seconds worker i moment m n hops ≤ length hops
seconds_few worker i moment m n [] = omega arith
seconds_few worker i moment m n (h ∷ hops) = omega (arith, place_most n i (second_job worker m moment h) (map (second_job worker m moment) hops), seconds_few worker i moment m n hops)

seconds_none : (worker i moment m n : ℕ) (hops : List Hop) → Each (λ h. (h.port == i) ≡ false) hops → seconds worker i moment m n hops ≡ 0
seconds_none worker i moment m n [] e = refl
seconds_none worker i moment m n (h ∷ hops) e = ap (jobs_with n) (place_no i (second_job worker m moment h) (map (second_job worker m moment) hops) e.0) ∙ seconds_none worker i moment m n hops e.1

option_few : {A : Type 0} (o : Option A) → length (option_to_list o) ≤ 1
option_few None = omega arith
option_few (Some x) = omega arith

handed_few : (macs : List ℕ) (place : Place) (w : What) → length (handed_on macs place w) ≤ 1
handed_few macs place (what.Reply reply) = omega arith
handed_few macs place (what.Fate (Drop cause) bytes) = omega arith
handed_few macs place (what.Fate (Pass len) bytes) = by place.dir
  where
    by : (d : Dir) → length {A = Hop} (elim d [ In ↦ [] | Out ↦ option_to_list (hop_of macs place.port bytes) ]) ≤ 1
    by In = omega arith
    by Out = option_few (hop_of macs place.port bytes)

-- it goes to no port twice
abbrev IsElsewhere : ℕ → Hop → Type 0
IsElsewhere port h = (h.port == port) ≡ false

hop_elsewhere : (macs : List ℕ) (from : ℕ) (bytes : List ℕ) → Each (IsElsewhere from) (option_to_list (hop_of macs from bytes))
hop_elsewhere macs from bytes = by (frame_of bytes)
  where
    test : (parts : Parts) (port : ℕ) (b : Bool) → (port == from) ≡ b → Each (IsElsewhere from) (option_to_list (option_map (λ port. record { port = port; parts = parts }) (if b then None else Some port)))
    test parts port true e = tt
    test parts port false e = (e, tt)

    at : (parts : Parts) (o : Option ℕ) → Each (IsElsewhere from) (option_to_list (option_map (λ port. record { port = port; parts = parts }) (option_and_then (if_other from) o)))
    at parts None = tt
    at parts (Some port) = test parts port (port == from) refl

    by : (o : Result Parts BadFrame) → Each (IsElsewhere from) (option_to_list (elim o [ Err fault ↦ None | Ok parts ↦ option_map (λ port. record { port = port; parts = parts }) (option_and_then (if_other from) (in_of macs parts.stack)) ]))
    by (Err fault) = tt
    by (Ok parts) = at parts (in_of macs parts.stack)

handed_elsewhere : (macs : List ℕ) (place : Place) (w : What) → Each (IsElsewhere place.port) (handed_on macs place w)
handed_elsewhere macs place (what.Reply reply) = tt
handed_elsewhere macs place (what.Fate (Drop cause) bytes) = tt
handed_elsewhere macs place (what.Fate (Pass len) bytes) = by place.dir
  where
    by : (d : Dir) → Each (IsElsewhere place.port) (elim d [ In ↦ [] | Out ↦ option_to_list (hop_of macs place.port bytes) ])
    by In = tt
    by Out = hop_elsewhere macs place.port bytes

pub flat_few : {A B : Type 0} (f : A → List B) (xs : List A) → ((x : A) → length (f x) ≤ 1) → length (flat_map f xs) ≤ length xs
flat_few f [] few = omega arith
flat_few f (x ∷ xs) few = omega (arith, length-append (f x) (flat_map f xs), few x, flat_few f xs few)

flat_each : {A B : Type 0} (P : B → Type 0) (f : A → List B) (xs : List A) → ((x : A) → Each P (f x)) → Each P (flat_map f xs)
flat_each P f [] each = tt
flat_each P f (x ∷ xs) each = each_append P (f x) (flat_map f xs) (each x) (flat_each P f xs each)

hops_few : (local : Bool) (macs : List ℕ) (told : List PortRound) (n : ℕ) (a : Place × Parts) → length (hops_of local macs told n (Ok a)) ≤ length (fates_told told a.0.port n)
hops_few false macs told n a = omega arith
hops_few true macs told n a = flat_few (handed_on macs a.0) (fates_told told a.0.port n) (handed_few macs a.0)

hops_elsewhere : (local : Bool) (macs : List ℕ) (told : List PortRound) (n : ℕ) (a : Place × Parts) → Each (IsElsewhere a.0.port) (hops_of local macs told n (Ok a))
hops_elsewhere false macs told n a = tt
hops_elsewhere true macs told n a = flat_each (IsElsewhere a.0.port) (handed_on macs a.0) (fates_told told a.0.port n) (handed_elsewhere macs a.0)

-- ---- one packet

-- the jobs of packet n at a place
abbrev jobs_here : ℕ → ℕ → ℕ → ℕ → List Hop → Result (Place × Parts) LooseCause → ℕ
jobs_here workers i n moment hops aim = jobs_with n (at_place i (placed_packet workers n moment hops aim))

-- its own job
abbrev own_job : ℕ → ℕ → ℕ → Place × Parts → Placed
own_job workers n moment a = (a.0.port, Carry (crossing_by (worker_of workers a.1) n a.0 moment a.1) a.1)

here_own : (workers i n moment : ℕ) (hops : List Hop) (a : Place × Parts) → (a.0.port == i) ≡ true → jobs_here workers i n moment hops (Ok a) ≡ suc (seconds (worker_of workers a.1) i moment n n hops)
here_own workers i n moment hops a e =
    let rest = map (second_job (worker_of workers a.1) n moment) hops in
    ap (jobs_with n) (place_yes i (own_job workers n moment a) rest e) ∙ count_yes (is_job n) (own_job workers n moment a).1 (at_place i rest) (eq-eqb n n refl)

here_other : (workers i n moment : ℕ) (hops : List Hop) (a : Place × Parts) → (a.0.port == i) ≡ false → jobs_here workers i n moment hops (Ok a) ≡ seconds (worker_of workers a.1) i moment n n hops
here_other workers i n moment hops a e = ap (jobs_with n) (place_no i (own_job workers n moment a) (map (second_job (worker_of workers a.1) n moment) hops) e)

-- one where it goes
here_one : (workers i n moment : ℕ) (hops : List Hop) (a : Place × Parts) → Each (IsElsewhere a.0.port) hops → (a.0.port == i) ≡ true → jobs_here workers i n moment hops (Ok a) ≡ 1
here_one workers i n moment hops a elsewhere e =
    here_own workers i n moment hops a e
    ∙ ap suc (seconds_none (worker_of workers a.1) i moment n n hops (subst (λ k. Each (IsElsewhere k) hops) (eq_is a.0.port i e) elsewhere))

-- where none is handed on, that alone
here_alone : (workers i n moment : ℕ) (aim : Result (Place × Parts) LooseCause) → jobs_here workers i n moment [] aim ≡ at_aim i aim
here_alone workers i n moment (Err why) = refl
here_alone workers i n moment (Ok a) = by (a.0.port == i) refl
  where
    there : (a.0.port == i) ≡ true → at_aim i (Ok a) ≡ 1
    there e = rw e refl

    elsewhere : (a.0.port == i) ≡ false → at_aim i (Ok a) ≡ 0
    elsewhere e = rw e refl

    by : (b : Bool) → (a.0.port == i) ≡ b → jobs_here workers i n moment [] (Ok a) ≡ at_aim i (Ok a)
    by true e = here_own workers i n moment [] a e ∙ sym (there e)
    by false e = here_other workers i n moment [] a e ∙ sym (elsewhere e)

-- at most one elsewhere
here_most : (workers i n moment : ℕ) (local : Bool) (macs : List ℕ) (told : List PortRound) (aim : Result (Place × Parts) LooseCause) → ((a : Place × Parts) → aim ≡ Ok a → length (fates_told told a.0.port n) ≤ 1)
    → jobs_here workers i n moment (hops_of local macs told n aim) aim ≤ 1
here_most workers i n moment local macs told (Err why) few = omega arith
here_most workers i n moment local macs told (Ok a) few = by (a.0.port == i) refl
  where
    hops : List Hop
    hops = hops_of local macs told n (Ok a)

    by : (b : Bool) → (a.0.port == i) ≡ b → jobs_here workers i n moment hops (Ok a) ≤ 1
    by true e = omega (arith, here_one workers i n moment hops a (hops_elsewhere local macs told n a) e)
    by false e = omega (arith, here_other workers i n moment hops a e, seconds_few (worker_of workers a.1) i moment n n hops, hops_few local macs told n a, few a refl)

-- another packet has none of these jobs
seconds_else : (n m worker moment : ℕ) (hops : List Hop) → (m == n) ≡ false → Each (λ t. is_job n t.1 ≡ false) (map (second_job worker m moment) hops)
seconds_else n m worker moment [] e = tt
seconds_else n m worker moment (h ∷ hops) e = (e, seconds_else n m worker moment hops e)

placed_else : (n m workers moment : ℕ) (hops : List Hop) (aim : Result (Place × Parts) LooseCause) → (m == n) ≡ false → Each (λ t. is_job n t.1 ≡ false) (placed_packet workers m moment hops aim)
placed_else n m workers moment hops (Err why) e = tt
placed_else n m workers moment hops (Ok a) e = (e, seconds_else n m (worker_of workers a.1) moment hops e)

-- ---- the packets of a round

abbrev times : ℕ → List (ℕ × Record) → ℕ
times n packets = count (λ (p : ℕ × Record). p.0 == n) packets

record_is : (a b : Record) → Some a ≡ Some b → a ≡ b
record_is a b e = cc e

same_record : (records : List Record) (p : ℕ × Record) (n : ℕ) (r : Record) → slice_get records p.0 ≡ Some p.1 → slice_get records n ≡ Some r → p.0 ≡ n → p.1 ≡ r
same_record records p n r e g same = record_is p.1 r (sym e ∙ (ap (slice_get records) same ∙ g))

packets_with : (workers : ℕ) (local : Bool) (macs : List ℕ) (told : List PortRound) (records : List Record) (i n : ℕ) (r : Record) (packets : List (ℕ × Record)) → AreNumbered records packets → slice_get records n ≡ Some r
    → jobs_with n (at_place i (placed_packets workers local macs told packets)) ≡ rep (times n packets) (jobs_here workers i n r.moment (hops_of local macs told n (aim_of macs r)) (aim_of macs r))
packets_with workers local macs told records i n r [] e g = refl
packets_with workers local macs told records i n r (p ∷ ps) e g = split ∙ by (p.0 == n) refl (packets_with workers local macs told records i n r ps e.1 g)
  where
    x : ℕ
    x = jobs_here workers i n r.moment (hops_of local macs told n (aim_of macs r)) (aim_of macs r)

    of : ℕ → Record → List Placed
    of m w = placed_packet workers m w.moment (hops_of local macs told m (aim_of macs w)) (aim_of macs w)

    rest : ℕ
    rest = jobs_with n (at_place i (placed_packets workers local macs told ps))

    split : jobs_with n (at_place i (placed_packets workers local macs told (p ∷ ps))) ≡ jobs_with n (at_place i (of p.0 p.1)) + rest
    split = ap (jobs_with n) (place_append i (of p.0 p.1) (placed_packets workers local macs told ps)) ∙ count_append (is_job n) (at_place i (of p.0 p.1)) (at_place i (placed_packets workers local macs told ps))

    by : (b : Bool) → (p.0 == n) ≡ b → rest ≡ rep (times n ps) x → jobs_with n (at_place i (of p.0 p.1)) + rest ≡ rep (times n (p ∷ ps)) x
    by true f ih =
        let same = eq_is p.0 n f in
        let own : jobs_with n (at_place i (of p.0 p.1)) ≡ x = ap (λ m. jobs_with n (at_place i (of m p.1))) same ∙ ap (λ w. jobs_with n (at_place i (of n w))) (same_record records p n r e.0 g same) in
        (λ j. own j + ih j) ∙ sym (ap (λ k. rep k x) (count_yes (λ (p : ℕ × Record). p.0 == n) p ps f))
    by false f ih =
        let none : jobs_with n (at_place i (of p.0 p.1)) ≡ 0 = count_none (is_job n) (at_place i (of p.0 p.1)) (each_at (λ j. is_job n j ≡ false) i (of p.0 p.1) (placed_else n p.0 workers p.1.moment (hops_of local macs told p.0 (aim_of macs p.1)) (aim_of macs p.1) f)) in
        omega (arith, none, ih, ap (λ k. rep k x) (count_no (λ (p : ℕ × Record). p.0 == n) p ps f))

abbrev loose_with : ℕ → List Loose → ℕ
loose_with n ls = count (λ (l : Loose). l.packet == n) ls

loose_own : (n : ℕ) (aim : Result (Place × Parts) LooseCause) → loose_with n (loose_after n aim) ≡ if_loose aim
loose_own n (Err why) = count_yes (λ (l : Loose). l.packet == n) (record { packet = n; cause = why }) [] (eq-eqb n n refl)
loose_own n (Ok a) = refl

loose_else : (n m : ℕ) (aim : Result (Place × Parts) LooseCause) → (m == n) ≡ false → loose_with n (loose_after m aim) ≡ 0
loose_else n m (Err why) e = count_no (λ (l : Loose). l.packet == n) (record { packet = m; cause = why }) [] e
loose_else n m (Ok a) e = refl

loose_packets : (macs : List ℕ) (records : List Record) (n : ℕ) (r : Record) (packets : List (ℕ × Record)) → AreNumbered records packets → slice_get records n ≡ Some r → loose_with n (loose_among macs packets) ≡ rep (times n packets) (if_loose (aim_of macs r))
loose_packets macs records n r [] e g = refl
loose_packets macs records n r (p ∷ ps) e g = split ∙ by (p.0 == n) refl (loose_packets macs records n r ps e.1 g)
  where
    x : ℕ
    x = if_loose (aim_of macs r)

    rest : ℕ
    rest = loose_with n (loose_among macs ps)

    split : loose_with n (loose_among macs (p ∷ ps)) ≡ loose_with n (loose_after p.0 (aim_of macs p.1)) + rest
    split = count_append (λ (l : Loose). l.packet == n) (loose_after p.0 (aim_of macs p.1)) (loose_among macs ps)

    by : (b : Bool) → (p.0 == n) ≡ b → rest ≡ rep (times n ps) x → loose_with n (loose_after p.0 (aim_of macs p.1)) + rest ≡ rep (times n (p ∷ ps)) x
    by true f ih =
        let same = eq_is p.0 n f in
        let own : loose_with n (loose_after p.0 (aim_of macs p.1)) ≡ x = ap (λ m. loose_with n (loose_after m (aim_of macs p.1))) same ∙ (ap (λ w. loose_with n (loose_after n (aim_of macs w))) (same_record records p n r e.0 g same) ∙ loose_own n (aim_of macs r)) in
        (λ j. own j + ih j) ∙ sym (ap (λ k. rep k x) (count_yes (λ (p : ℕ × Record). p.0 == n) p ps f))
    by false f ih = omega (arith, loose_else n p.0 (aim_of macs p.1) f, ih, ap (λ k. rep k x) (count_no (λ (p : ℕ × Record). p.0 == n) p ps f))

-- ---- a packet of the trace is in one round

times_low : (n m : ℕ) (rs : List Record) → n < m → times n (numbered m rs) ≡ 0
times_low n m [] lt = refl
times_low n m (r ∷ rs) lt = count_no (λ (p : ℕ × Record). p.0 == n) (m, r) (numbered (suc m) rs) (ne_eqb m n (λ e. omega (arith, lt, e))) ∙ times_low n (suc m) rs (omega (arith, lt))

times_once : (m n k : ℕ) (rs : List Record) (r : Record) → k ≡ m + n → slice_get rs n ≡ Some r → times k (numbered m rs) ≡ 1
times_once m n k [] r is g = absurd (cc g)
times_once m zero k (x ∷ rs) r is g = count_yes (λ (p : ℕ × Record). p.0 == k) (m, x) (numbered (suc m) rs) (eq-eqb m k (omega (arith, is))) ∙ ap suc (times_low k (suc m) rs (omega (arith, is)))
times_once m (suc n) k (x ∷ rs) r is g = count_no (λ (p : ℕ × Record). p.0 == k) (m, x) (numbered (suc m) rs) (ne_eqb m k (λ e. omega (arith, is, e))) ∙ times_once (suc m) n k rs r (omega (arith, is)) g

-- in how many of the rounds at these cuts packet n is
abbrev in_rounds : ℕ → List Record → List ℕ → ℕ
in_rounds n records cuts = times n (flat_map (λ t. packets_between records t.0 t.1) (stretches cuts (length records)))

-- ---- the lines of a round

-- the jobs of packet n at a place, in a round that tells this
abbrev packet_here : Setting → List PortRound → ℕ → ℕ → Record → ℕ
packet_here s told place n r = jobs_here s.workers place n r.moment (hops_of s.local (macs_of s.policy) told n (aim_of (macs_of s.policy) r)) (aim_of (macs_of s.policy) r)

port_lines : (s : Setting) (records : List Record) (told : List PortRound) (first next place n : ℕ) (r : Record) (p : PortSeen) (h : List Event) (q : PortRound) → AreServed s → slice_get records n ≡ Some r
    → IsPortRound s.workers p h (jobs_of s records told first next place p.number) q → length (fates_in n q.lines) ≡ rep (times n (packets_between records first next)) (packet_here s told place n r)
port_lines s records told first next place n r p h q served g i =
    let jobs = jobs_of s records told first next place p.number in
    let during = during_jobs s.commands first p.number in
    let packets = at_place place (placed_packets s.workers s.local (macs_of s.policy) told (packets_between records first next)) in
    let calls : length (fates_in n q.lines) ≡ jobs_with n (jobs.first ++ jobs.later) =
    ap length (round_tells s records told first next place p h q n served.least served.most i) ∙ (all_became n (i.first ++ i.later) ∙ ap (jobs_with n) (round_jobs s.workers p h jobs q i)) in
    let first_none : jobs_with n jobs.first ≡ 0 = asks_none n (filter (λ l. (l.at == first) && (l.port == p.number) && not l.during) s.commands) in
    let during_none : jobs_with n during ≡ 0 = asks_none n (filter (λ l. (l.at == first) && (l.port == p.number) && l.during) s.commands) in
    omega (arith, calls, count_append (is_job n) jobs.first jobs.later, first_none, count_append (is_job n) during packets, during_none, packets_with s.workers s.local (macs_of s.policy) told records place n r (packets_between records first next) (between_are records first next) g)

-- the round of the port at a place, if there is one
round_at : (s : Setting) (records : List Record) (told : List PortRound) (first next k i : ℕ) (ps : List PortSeen) (hs : List (List Event)) (rs : List PortRound) (q : PortRound) → ArePortRounds s records told first next k ps hs rs → slice_get rs i ≡ Some q
    → (p : PortSeen) × (h : List Event) × IsPortRound s.workers p h (jobs_of s records told first next (k + i) p.number) q
round_at s records told first next k i [] [] [] q a e = absurd (cc e)
round_at s records told first next k zero (p ∷ ps) (h ∷ hs) (r ∷ rs) q a e =
    let same : r ≡ q = cc e in
    (p, h, subst (λ m. IsPortRound s.workers p h (jobs_of s records told first next m p.number) q) (omega arith) (subst (λ w. IsPortRound s.workers p h (jobs_of s records told first next k p.number) w) same a.0))
round_at s records told first next k (suc i) (p ∷ ps) (h ∷ hs) (r ∷ rs) q a e =
    let rest = round_at s records told first next (suc k) i ps hs rs q a.1 e in
    (rest.0, rest.1, subst (λ m. IsPortRound s.workers rest.0 rest.1 (jobs_of s records told first next m rest.0.number) q) (omega arith) rest.2)
round_at s records told first next k i [] [] (r ∷ rs) q a e = absurd a
round_at s records told first next k i [] (h ∷ hs) rs q a e = absurd a
round_at s records told first next k i (p ∷ ps) [] rs q a e = absurd a
round_at s records told first next k i (p ∷ ps) (h ∷ hs) [] q a e = absurd a

ports_have : (s : Setting) (records : List Record) (told : List PortRound) (first next k i : ℕ) (ps : List PortSeen) (hs : List (List Event)) (rs : List PortRound) → ArePortRounds s records told first next k ps hs rs → i < length ps → (q : PortRound) × (slice_get rs i ≡ Some q)
ports_have s records told first next k i [] [] [] a lt = absurd (omega (arith, lt))
ports_have s records told first next k zero (p ∷ ps) (h ∷ hs) (r ∷ rs) a lt = (r, refl)
ports_have s records told first next k (suc i) (p ∷ ps) (h ∷ hs) (r ∷ rs) a lt = ports_have s records told first next (suc k) i ps hs rs a.1 (omega (arith, lt))
ports_have s records told first next k i [] [] (r ∷ rs) a lt = absurd a
ports_have s records told first next k i [] (h ∷ hs) rs a lt = absurd a
ports_have s records told first next k i (p ∷ ps) [] rs a lt = absurd a
ports_have s records told first next k i (p ∷ ps) (h ∷ hs) [] a lt = absurd a

-- the lines of packet n at a place in a round
abbrev lines_here : ℕ → ℕ → Round → ℕ
lines_here place n r = length (fates_in n (flat_map (λ p. p.lines) (option_to_list (slice_get r.ports place))))

lines_none : (place n : ℕ) (r : Round) → slice_get r.ports place ≡ None → lines_here place n r ≡ 0
lines_none place n r e = ap (λ (o : Option PortRound). length (fates_in n (flat_map (λ p. p.lines) (option_to_list o)))) e

lines_some : (place n : ℕ) (r : Round) (q : PortRound) → slice_get r.ports place ≡ Some q → lines_here place n r ≡ length (fates_in n q.lines)
lines_some place n r q e = ap (λ (o : Option PortRound). length (fates_in n (flat_map (λ p. p.lines) (option_to_list o)))) e ∙ ap (λ w. length (fates_in n w)) (append_end q.lines)

lines_are : (s : Setting) (records : List Record) (hs : List (List Event)) (first next place n : ℕ) (w : Record) (r : Round) (q : PortRound) → AreServed s → slice_get records n ≡ Some w → IsRound s records hs first next r → slice_get r.ports place ≡ Some q
    → lines_here place n r ≡ rep (times n (packets_between records first next)) (packet_here s r.ports place n w)
lines_are s records hs first next place n w r q served g i e =
    let at = round_at s records r.ports first next 0 place (ports_of s.policy) hs r.ports q i.ports e in
    lines_some place n r q e ∙ port_lines s records r.ports first next place n w at.0 at.1 q served g (subst (λ m. IsPortRound s.workers at.0 at.1 (jobs_of s records r.ports first next m at.0.number) q) (omega arith) at.2)

-- the round tells at most one line of a packet where it goes
told_few : (s : Setting) (records : List Record) (hs : List (List Event)) (first next n : ℕ) (w : Record) (r : Round) (a : Place × Parts) → AreServed s → slice_get records n ≡ Some w → IsRound s records hs first next r → times n (packets_between records first next) ≤ 1
    → aim_of (macs_of s.policy) w ≡ Ok a → length (fates_told r.ports a.0.port n) ≤ 1
told_few s records hs first next n w r a served g i few e = by (slice_get r.ports a.0.port) refl
  where
    told : Option PortRound → ℕ
    told o = length (flat_map (λ (q : PortRound). fates_in n q.lines) (option_to_list o))

    one : packet_here s r.ports a.0.port n w ≡ 1
    one = ap (λ aim. jobs_here s.workers a.0.port n w.moment (hops_of s.local (macs_of s.policy) r.ports n aim) aim) e
        ∙ here_one s.workers a.0.port n w.moment (hops_of s.local (macs_of s.policy) r.ports n (Ok a)) a (hops_elsewhere s.local (macs_of s.policy) r.ports n a) (eq-eqb a.0.port a.0.port refl)

    by : (o : Option PortRound) → slice_get r.ports a.0.port ≡ o → told (slice_get r.ports a.0.port) ≤ 1
    by None f = omega (arith, ap told f)
    by (Some q) f =
        let t = times n (packets_between records first next) in
        let here : lines_here a.0.port n r ≡ t = lines_are s records hs first next a.0.port n w r q served g i f ∙ (ap (rep t) one ∙ rep_ones t) in
        let same : told (slice_get r.ports a.0.port) ≡ length (fates_in n q.lines) = ap told f ∙ ap length (append_end (fates_in n q.lines)) in
        omega (arith, same, lines_some a.0.port n r q f, here, few)

lines_most : (s : Setting) (records : List Record) (hs : List (List Event)) (first next place n : ℕ) (w : Record) (r : Round) → AreServed s → slice_get records n ≡ Some w → IsRound s records hs first next r → times n (packets_between records first next) ≤ 1
    → lines_here place n r ≤ times n (packets_between records first next)
lines_most s records hs first next place n w r served g i few = by (slice_get r.ports place) refl
  where
    t : ℕ
    t = times n (packets_between records first next)

    most : packet_here s r.ports place n w ≤ 1
    most = here_most s.workers place n w.moment s.local (macs_of s.policy) r.ports (aim_of (macs_of s.policy) w) (λ a e. told_few s records hs first next n w r a served g i few e)

    by : (o : Option PortRound) → slice_get r.ports place ≡ o → lines_here place n r ≤ t
    by None e = omega (arith, lines_none place n r e)
    by (Some q) e = omega (arith, lines_are s records hs first next place n w r q served g i e, rep_most t (packet_here s r.ports place n w) few most)

-- ---- the lines of a run

lines_split : (place n : ℕ) (r : Round) (rs : List Round) → times_at place n (r ∷ rs) ≡ lines_here place n r + times_at place n rs
lines_split place n r rs =
    let here = flat_map (λ p. p.lines) (option_to_list (slice_get r.ports place)) in
    ap length (fates_append n here (lines_at place rs)) ∙ length-append (fates_in n here) (fates_in n (lines_at place rs))

rounds_split : (n : ℕ) (records : List Record) (cut : ℕ) (cuts : List ℕ) → in_rounds n records (cut ∷ cuts) ≡ times n (packets_between records cut (end_before cuts (length records))) + in_rounds n records cuts
rounds_split n records cut cuts = count_append (λ (p : ℕ × Record). p.0 == n) (packets_between records cut (end_before cuts (length records))) (flat_map (λ t. packets_between records t.0 t.1) (stretches cuts (length records)))

run_most : (s : Setting) (records : List Record) (hs : List (List Event)) (place n : ℕ) (w : Record) → AreServed s → slice_get records n ≡ Some w → (cuts : List ℕ) (rounds : List Round) → AreRoundsAt s records hs cuts rounds → in_rounds n records cuts ≤ 1
    → times_at place n rounds ≤ in_rounds n records cuts
run_most s records hs place n w served g [] [] a few = omega arith
run_most s records hs place n w served g (cut ∷ cuts) (r ∷ rs) a few =
    let next = end_before cuts (length records) in
    let split = rounds_split n records cut cuts in
    omega (arith, lines_split place n r rs, split, lines_most s records hs cut next place n w r served g a.0 (omega (arith, split, few)), run_most s records hs place n w served g cuts rs a.1 (omega (arith, split, few)))
run_most s records hs place n w served g [] (r ∷ rs) a few = absurd a
run_most s records hs place n w served g (cut ∷ cuts) [] a few = absurd a

-- where each round has the same jobs of the packet at a port
run_same : (s : Setting) (records : List Record) (hs : List (List Event)) (place n : ℕ) (w : Record) (x : ℕ) → AreServed s → slice_get records n ≡ Some w → place < length (ports_of s.policy) → ((told : List PortRound) → packet_here s told place n w ≡ x)
    → (cuts : List ℕ) (rounds : List Round) → AreRoundsAt s records hs cuts rounds → times_at place n rounds ≡ rep (in_rounds n records cuts) x
run_same s records hs place n w x served g lt same [] [] a = refl
run_same s records hs place n w x served g lt same (cut ∷ cuts) (r ∷ rs) a =
    let next = end_before cuts (length records) in
    let t = times n (packets_between records cut next) in
    let q = ports_have s records r.ports cut next 0 place (ports_of s.policy) hs r.ports a.0.ports lt in
    let here : lines_here place n r ≡ rep t x = lines_are s records hs cut next place n w r q.0 served g a.0 q.1 ∙ ap (rep t) (same r.ports) in
    let rest = run_same s records hs place n w x served g lt same cuts rs a.1 in
    lines_split place n r rs ∙ ((λ i. here i + rest i) ∙ (sym (rep_plus t (in_rounds n records cuts) x) ∙ ap (λ k. rep k x) (sym (rounds_split n records cut cuts))))
run_same s records hs place n w x served g lt same [] (r ∷ rs) a = absurd a
run_same s records hs place n w x served g lt same (cut ∷ cuts) [] a = absurd a

run_loose : (s : Setting) (records : List Record) (hs : List (List Event)) (n : ℕ) (w : Record) → slice_get records n ≡ Some w → (cuts : List ℕ) (rounds : List Round) → AreRoundsAt s records hs cuts rounds
    → times_loose n rounds ≡ rep (in_rounds n records cuts) (if_loose (aim_of (macs_of s.policy) w))
run_loose s records hs n w g [] [] a = refl
run_loose s records hs n w g (cut ∷ cuts) (r ∷ rs) a =
    let next = end_before cuts (length records) in
    let x = if_loose (aim_of (macs_of s.policy) w) in
    let t = times n (packets_between records cut next) in
    let here : loose_with n r.loose ≡ rep t x = ap (loose_with n) a.0.loose ∙ loose_packets (macs_of s.policy) records n w (packets_between records cut next) (between_are records cut next) g in
    let rest = run_loose s records hs n w g cuts rs a.1 in
    count_append (λ (l : Loose). l.packet == n) r.loose (flat_map (λ r. r.loose) rs) ∙ ((λ i. here i + rest i) ∙ (sym (rep_plus t (in_rounds n records cuts) x) ∙ ap (λ k. rep k x) (sym (rounds_split n records cut cuts))))
run_loose s records hs n w g [] (r ∷ rs) a = absurd a
run_loose s records hs n w g (cut ∷ cuts) [] a = absurd a

-- ---- the law

aim_one : (s : Setting) (place n : ℕ) (w : Record) (aim : Result (Place × Parts) LooseCause) → aim_of (macs_of s.policy) w ≡ aim → at_aim place aim ≡ 1 → (told : List PortRound) → packet_here s told place n w ≡ 1
aim_one s place n w (Err why) e one told = absurd (omega (arith, one))
aim_one s place n w (Ok a) e one told =
    ap (λ aim. jobs_here s.workers place n w.moment (hops_of s.local (macs_of s.policy) told n aim) aim) e
    ∙ here_one s.workers place n w.moment (hops_of s.local (macs_of s.policy) told n (Ok a)) a (hops_elsewhere s.local (macs_of s.policy) told n a) (by (a.0.port == place) refl one)
  where
    one_if : Bool → ℕ
    one_if b = if b then 1 else 0

    by : (b : Bool) → (a.0.port == place) ≡ b → one_if b ≡ 1 → (a.0.port == place) ≡ true
    by true f k = f
    by false f k = absurd (omega (arith, k))

aim_alone : (workers place n : ℕ) (local : Bool) (macs : List ℕ) (w : Record) → local ≡ false → (told : List PortRound) → jobs_here workers place n w.moment (hops_of local macs told n (aim_of macs w)) (aim_of macs w) ≡ at_aim place (aim_of macs w)
aim_alone workers place n false macs w e told = here_alone workers place n w.moment (aim_of macs w)
aim_alone workers place n true macs w e told = absurd (cc e)

pub each_has_its_line : EachHasItsLine
each_has_its_line s records cuts rounds n r served covered run g =
    let once : in_rounds n records cuts ≡ 1 = ap (times n) covered ∙ times_once 0 n n records r (omega arith) g in
    let rep_one : (x : ℕ) → rep (in_rounds n records cuts) x ≡ x = (λ x. ap (λ k. rep k x) once ∙ omega arith) in record {
      loose = run_loose s records run.histories n r g cuts rounds run.are ∙ rep_one (if_loose (aim_of (macs_of s.policy) r));
      own = λ place lt one. run_same s records run.histories place n r 1 served g lt (aim_one s place n r (aim_of (macs_of s.policy) r) refl one) cuts rounds run.are ∙ rep_one 1;
      most = λ place. omega (arith, run_most s records run.histories place n r served g cuts rounds run.are (omega (arith, once)), once);
      only = λ apart place lt. run_same s records run.histories place n r (at_aim place (aim_of (macs_of s.policy) r)) served g lt (aim_alone s.workers place n s.local (macs_of s.policy) r apart) cuts rounds run.are ∙ rep_one (at_aim place (aim_of (macs_of s.policy) r));
    }
