-- What a round gives its ports to do.
use Rattle.std.proofs.Common.{◌≡◌, ◌<◌, ◌≤◌, ◌+◌, ◌-◌, ◌%◌, ◌==◌, ◌&&◌, not, ℕ, zero, suc, Bool, true, false, if◌then◌else◌, List, [], ◌∷◌, ◌++◌, length, map, filter, take, drop, min, nat_lt, Option, Some, None, Result, Ok, Err, slice_get, option_and_then, option_map, refl, ap, sym, ◌∙◌, subst, arith, append_assoc, length-append}
use Rattle.std.specs.List.{flat_map}
use Rattle.std.proofs.lemmas.Grind.{common_steps}
use Rattle.std.proofs.Math.Nat.{mod-lt}
use Rattle.std.proofs.lemmas.List.{take-append-drop}
use Rattle.vsw_base.specs.declared.fault.BadFrame.{BadFrame}
use Rattle.vsw_base.specs.declared.flow.Place.{Place}
use Rattle.vsw_base.specs.Frame.{Parts, frame_of}
use Rattle.vsw_commandfile.specs.declared.line.Line.{Line}
use Rattle.vsw_header.specs.FlowSum.{flow_sum_of}
use Rattle.vsw_header.specs.PortChoice.{choose}
use Rattle.vsw_pcap.specs.declared.capture.Record.{Record}
use Rattle.vsw_policy.specs.Layers.{place_of}
use Rattle.vsw_policy.specs.Sound.{Each}
use Rattle.vsw_port.specs.Calls.{Ask, Carry, Job}
use Rattle.vsw_port.specs.Order.{numbered}
use Rattle.vsw_promise.specs.Forwarded.{aimed_at, packet_jobs}
use Rattle.vsw_promise.specs.Jobs.{aim_of, before_jobs, crossing_by, during_jobs, loose_after, loose_among, packets_between, worker_of}
use Rattle.vsw_promise.specs.Schedule.{commands_at}
use Rattle.vsw_promise.proofs.PortRounds.{take_length}
use Rattle.vsw_report.specs.declared.round.Loose.{Loose}
use Rattle.vsw_report.specs.declared.round.LooseCause.{LooseCause}
use Rattle.vsw_report.specs.declared.round.LooseCause.TheVariants.{Snapped, Malformed, NoPort}
use Rattle.vsw_audit.specs.declared.dealing.Aim.{Aim}
use Rattle.vsw_audit.specs.declared.task.Task.{Task}
use Rattle.vsw_audit.specs.declared.task.Work.TheVariants.{Asks, Carries}
use Rattle.vsw_audit.specs.Private.Rounds.{StandFrom, aim_by, aimed, aims_of, asked_jobs, is_for, jobs_at, new_task, task_aimed, task_asked, tasks_aimed, tasks_asked}
use Rattle.vsw_audit.specs.Private.Tasks.{AreTasks, CanBeAsked, IsKnown, Site, job_in}
use Rattle.vsw_audit.proofs.Tasks.{append_end}

pub tasks_append : (s : Site) (xs ys : List Task) (js ks : List Job) → AreTasks s xs js → AreTasks s ys ks → AreTasks s (xs ++ ys) (js ++ ks)
tasks_append s [] ys [] ks a b = b
tasks_append s [] ys (j ∷ js) ks a b = absurd a
tasks_append s (x ∷ xs) ys [] ks a b = absurd a
tasks_append s (x ∷ xs) ys (j ∷ js) ks a b = (a.0, tasks_append s xs ys js ks a.1 b)

-- ---- packets

-- a packet that isn't loose is a frame
frame_at : (macs : List ℕ) (r : Record) (a : Place × Parts) → aim_of macs r ≡ Ok a → frame_of r.bytes ≡ Ok a.1
frame_at macs r a e = by (nat_lt (length r.bytes) r.original) e
  where
    chosen : (parts : Parts) (o : Option Place) → ◌≡◌ {A = Result (Place × Parts) LooseCause} (elim o [ None ↦ Err NoPort | Some place ↦ Ok (place, parts) ]) (Ok a) → parts ≡ a.1
    chosen parts None e = absurd (cc e)
    chosen parts (Some place) e = let f : (place, parts) ≡ a = cc e in ap (λ t. t.1) f

    read : (f : Result Parts BadFrame) → frame_of r.bytes ≡ f → ◌≡◌ {A = Result (Place × Parts) LooseCause} (elim f [ Err fault ↦ Err (Malformed fault) | Ok parts ↦ elim (choose macs parts.stack) [ None ↦ Err NoPort | Some place ↦ Ok (place, parts) ] ]) (Ok a) → frame_of r.bytes ≡ Ok a.1
    read (Err fault) g e = absurd (cc e)
    read (Ok parts) g e = g ∙ ap Ok (chosen parts (choose macs parts.stack) e)

    by : (b : Bool) → ◌≡◌ {A = Result (Place × Parts) LooseCause} (if b then Err Snapped else elim (frame_of r.bytes) [ Err fault ↦ Err (Malformed fault) | Ok parts ↦ elim (choose macs parts.stack) [ None ↦ Err NoPort | Some place ↦ Ok (place, parts) ] ]) (Ok a) → frame_of r.bytes ≡ Ok a.1
    by true e = absurd (cc e)
    by false e = read (frame_of r.bytes) refl e

one_aimed : (s : Site) (workers : ℕ) (macs : List ℕ) (port n : ℕ) (r : Record) (to : Result (Place × Parts) LooseCause) → aim_of macs r ≡ to → s.place ≡ port → slice_get s.records n ≡ Some r
    → AreTasks s (task_aimed n port (aimed (aim_by workers to))) (aimed_at workers port n r.moment to)
one_aimed s workers macs port n r (Err why) e place there = tt
one_aimed s workers macs port n r (Ok a) e place there = by (a.0.port == port) refl
  where
    is_same : (m k : ℕ) → (m == k) ≡ true → m ≡ k
    is_same m k g = grind (arith, common_steps)

    job : a.0.port ≡ s.place → job_in s (new_task (worker_of workers a.1) (Carries n a.0.dir)) ≡ Some (Carry (crossing_by (worker_of workers a.1) n a.0 r.moment a.1) a.1)
    job here =
        ap (option_and_then (λ q. elim (frame_of q.bytes) [ Err fault ↦ None | Ok parts ↦ Some (Carry (crossing_by (worker_of workers a.1) n (record { port = s.place; dir = a.0.dir }) q.moment parts) parts) ])) there
        ∙ (ap (λ f. elim f [ Err fault ↦ None | Ok parts ↦ Some (Carry (crossing_by (worker_of workers a.1) n (record { port = s.place; dir = a.0.dir }) r.moment parts) parts) ]) (frame_at macs r a e)
        ∙ ap (λ p. Some (Carry (crossing_by (worker_of workers a.1) n (record { port = p; dir = a.0.dir }) r.moment a.1) a.1)) (sym here))

    by : (b : Bool) → (a.0.port == port) ≡ b → AreTasks s (if b then new_task (worker_of workers a.1) (Carries n a.0.dir) ∷ [] else []) (if b then Carry (crossing_by (worker_of workers a.1) n a.0 r.moment a.1) a.1 ∷ [] else [])
    by true g = (record { job = job (is_same a.0.port port g ∙ sym place); doer_is = refl }, tt)
    by false g = tt

pub all_aimed : (s : Site) (workers : ℕ) (macs : List ℕ) (port n : ℕ) (packets : List (ℕ × Record)) → s.place ≡ port → StandFrom s.records n packets → AreTasks s (tasks_aimed n port (aims_of workers macs packets)) (packet_jobs workers macs port packets)
all_aimed s workers macs port n [] place st = tt
all_aimed s workers macs port n (p ∷ ps) place st =
    tasks_append s (task_aimed n port (aimed (aim_by workers (aim_of macs p.1)))) (tasks_aimed (suc n) port (aims_of workers macs ps)) (aimed_at workers port p.0 p.1.moment (aim_of macs p.1)) (packet_jobs workers macs port ps)
    (subst (λ m. AreTasks s (task_aimed n port (aimed (aim_by workers (aim_of macs p.1)))) (aimed_at workers port m p.1.moment (aim_of macs p.1))) (sym st.0) (one_aimed s workers macs port n p.1 (aim_of macs p.1) refl place st.1))
    (all_aimed s workers macs port (suc n) ps place st.2)

stand_more : (records rest : List Record) (n m : ℕ) (front : List Record) → records ≡ front ++ rest → n ≡ length front → StandFrom records n (take m (numbered n rest))
stand_more records rest n zero front e l = tt
stand_more records [] n (suc m) front e l = tt
stand_more records (r ∷ rest) n (suc m) front e l = (refl, there_is e l, stand_more records rest (suc n) m (front ++ r ∷ []) (e ∙ sym (append_assoc front (r ∷ []) rest)) (sum l))
  where
    here : (front rest : List Record) → slice_get (front ++ r ∷ rest) (length front) ≡ Some r
    here [] rest = refl
    here (x ∷ front) rest = here front rest

    there_is : records ≡ front ++ r ∷ rest → n ≡ length front → slice_get records n ≡ Some r
    there_is e l = ap (λ v. slice_get v n) e ∙ (ap (slice_get (front ++ r ∷ rest)) l ∙ here front rest)

    sum : n ≡ length front → suc n ≡ length (front ++ r ∷ [])
    sum l = let g = length-append front (r ∷ []) in omega (arith, l, g)

drop_numbered : {A : Type 0} (n k : ℕ) (xs : List A) → drop k (numbered n xs) ≡ numbered (n + k) (drop k xs)
drop_numbered n zero xs = ap (λ m. numbered m xs) (let e : n ≡ n + 0 = omega arith in e)
drop_numbered n (suc k) [] = refl
drop_numbered n (suc k) (x ∷ xs) = drop_numbered (suc n) k xs ∙ ap (λ m. numbered m (drop k xs)) (let e : suc n + k ≡ n + suc k = omega arith in e)

pub stand_between : (records : List Record) (first next : ℕ) → first ≤ length records → StandFrom records first (packets_between records first next)
stand_between records first next le =
    subst (λ v. StandFrom records first (take (next - first) v)) (sym (drop_numbered 0 first records ∙ ap (λ m. numbered m (drop first records)) (let e : 0 + first ≡ first = omega arith in e)))
    (stand_more records (drop first records) first (next - first) (take first records) (sym (take-append-drop first records)) (sym (take_length first records le)))

-- one more packet
pub between_more : (records : List Record) (first n : ℕ) (r : Record) → first ≤ n → slice_get records n ≡ Some r → packets_between records first (n + 1) ≡ packets_between records first n ++ (n, r) ∷ []
between_more records first n r le e =
    let sum : (n + 1) - first ≡ suc (n - first) = omega (arith, le) in
    ap (λ m. take m (drop first (numbered 0 records))) sum ∙ take_next (n - first) (drop first (numbered 0 records)) (n, r) there
  where
    take_next : {A : Type 0} (m : ℕ) (xs : List A) (x : A) → slice_get xs m ≡ Some x → take (suc m) xs ≡ take m xs ++ x ∷ []
    take_next m [] x e = absurd (cc e)
    take_next zero (y ∷ xs) x e = let f : y ≡ x = cc e in ap (λ w. w ∷ []) f
    take_next (suc m) (y ∷ xs) x e = ap (λ w. y ∷ w) (take_next m xs x e)

    get_drop : {A : Type 0} (k m : ℕ) (xs : List A) → slice_get (drop k xs) m ≡ slice_get xs (k + m)
    get_drop zero m xs = ap (slice_get xs) (let e : m ≡ 0 + m = omega arith in e)
    get_drop (suc k) m [] = refl
    get_drop (suc k) m (x ∷ xs) = get_drop k m xs ∙ ap (slice_get (x ∷ xs)) (let e : suc (k + m) ≡ suc k + m = omega arith in e)

    get_numbered : (k m : ℕ) (xs : List Record) (x : Record) → slice_get xs m ≡ Some x → slice_get (numbered k xs) m ≡ Some (k + m, x)
    get_numbered k m [] x e = absurd (cc e)
    get_numbered k zero (y ∷ xs) x e = let f : y ≡ x = cc e in let g : k ≡ k + 0 = omega arith in ap (λ w. Some (k, w)) f ∙ ap (λ j. Some (j, x)) g
    get_numbered k (suc m) (y ∷ xs) x e = get_numbered (suc k) m xs x e ∙ ap (λ j. Some (j, x)) (let g : suc k + m ≡ k + suc m = omega arith in g)

    there : slice_get (drop first (numbered 0 records)) (n - first) ≡ Some (n, r)
    there = get_drop first (n - first) (numbered 0 records)
        ∙ (ap (slice_get (numbered 0 records)) (let g : first + (n - first) ≡ n = omega (arith, le) in g)
        ∙ (get_numbered 0 n records r e ∙ ap (λ j. Some (j, r)) (let g : 0 + n ≡ n = omega arith in g)))

map_append : {A B : Type 0} (f : A → B) (xs ys : List A) → map f (xs ++ ys) ≡ map f xs ++ map f ys
map_append f [] ys = refl
map_append f (x ∷ xs) ys = ap (λ w. f x ∷ w) (map_append f xs ys)

flat_append : {A B : Type 0} (f : A → List B) (xs ys : List A) → flat_map f (xs ++ ys) ≡ flat_map f xs ++ flat_map f ys
flat_append f [] ys = refl
flat_append f (x ∷ xs) ys = ap (λ w. f x ++ w) (flat_append f xs ys) ∙ sym (append_assoc (f x) (flat_map f xs) (flat_map f ys))

pub aims_more : (workers : ℕ) (macs : List ℕ) (records : List Record) (first n : ℕ) (r : Record) (old new : List (Option Aim)) → first ≤ n → slice_get records n ≡ Some r → old ≡ aims_of workers macs (packets_between records first n)
    → new ≡ old ++ aimed (aim_by workers (aim_of macs r)) ∷ [] → new ≡ aims_of workers macs (packets_between records first (n + 1))
aims_more workers macs records first n r old new le e is more =
    more ∙ (ap (λ w. w ++ aimed (aim_by workers (aim_of macs r)) ∷ []) is ∙ (sym (map_append (λ p. aimed (aim_by workers (aim_of macs p.1))) (packets_between records first n) ((n, r) ∷ [])) ∙ ap (aims_of workers macs) (sym (between_more records first n r le e))))

pub loose_more : (macs : List ℕ) (records : List Record) (first n : ℕ) (r : Record) (old new : List Loose) → first ≤ n → slice_get records n ≡ Some r → old ≡ loose_among macs (packets_between records first n)
    → new ≡ old ++ loose_after n (aim_of macs r) → new ≡ loose_among macs (packets_between records first (n + 1))
loose_more macs records first n r old new le e is more =
    more ∙ (ap (λ w. w ++ loose_after n (aim_of macs r)) is ∙ (ap (λ w. loose_among macs (packets_between records first n) ++ w) (sym (append_end (loose_after n (aim_of macs r))))
    ∙ (sym (flat_append (λ p. loose_after p.0 (aim_of macs p.1)) (packets_between records first n) ((n, r) ∷ [])) ∙ ap (loose_among macs) (sym (between_more records first n r le e)))))

-- a round that ends behind the trace ends with it
pub between_end : (records : List Record) (first next end : ℕ) → end ≡ min next (length records) → packets_between records first next ≡ packets_between records first end
between_end records first next end e = by (nat_lt (length records) next) refl
  where
    lt : (m n : ℕ) → nat_lt m n ≡ true → m < n
    lt m n g = grind (arith, common_steps)

    le : (m n : ℕ) → nat_lt m n ≡ false → n ≤ m
    le m n g = grind (arith, common_steps)

    long : {A : Type 0} (n : ℕ) (xs : List A) → length (numbered n xs) ≡ length xs
    long n [] = refl
    long n (x ∷ xs) = ap suc (long (suc n) xs)

    all : {A : Type 0} (m : ℕ) (xs : List A) → length xs ≤ m → take m xs ≡ xs
    all zero [] g = refl
    all (suc m) [] g = refl
    all zero (x ∷ xs) g = absurd (omega (arith, g))
    all (suc m) (x ∷ xs) g = ap (λ w. x ∷ w) (all m xs (omega (arith, g)))

    left : {A : Type 0} (k : ℕ) (xs : List A) → length (drop k xs) ≡ length xs - k
    left zero xs = omega arith
    left (suc k) [] = omega arith
    left (suc k) (x ∷ xs) = let g = left k xs in omega (arith, g)

    by : (b : Bool) → nat_lt (length records) next ≡ b → packets_between records first next ≡ packets_between records first end
    by true f =
        let is : end ≡ length records = omega (arith, e, lt (length records) next f) in
        let l : length (drop first (numbered 0 records)) ≡ length records - first = left first (numbered 0 records) ∙ ap (λ n. n - first) (long 0 records) in
        all (next - first) (drop first (numbered 0 records)) (omega (arith, l, lt (length records) next f)) ∙ sym (all (end - first) (drop first (numbered 0 records)) (omega (arith, l, is)))
    by false f = ap (packets_between records first) (let g : next ≡ end = omega (arith, e, le (length records) next f) in g)

-- ---- commands

filter_both : (p q : Line → Bool) (ls : List Line) → filter (λ l. p l && q l) ls ≡ filter q (filter p ls)
filter_both p q [] = refl
filter_both p q (l ∷ ls) = by (p l) (filter_both p q ls)
  where
    by : (b : Bool) → filter (λ l. p l && q l) ls ≡ filter q (filter p ls) → (if b && q l then l ∷ filter (λ l. p l && q l) ls else filter (λ l. p l && q l) ls) ≡ filter q (if b then l ∷ filter p ls else filter p ls)
    by true ih = ap (λ w. if q l then l ∷ w else w) ih
    by false ih = ih

filter_same : (p q : Line → Bool) (ls : List Line) → ((l : Line) → p l ≡ q l) → filter p ls ≡ filter q ls
filter_same p q [] e = refl
filter_same p q (l ∷ ls) e = ap (λ b. if b then l ∷ filter p ls else filter p ls) (e l) ∙ ap (λ w. if q l then l ∷ w else w) (filter_same p q ls e)

and_assoc : (a b c : Bool) → (a && b && c) ≡ (a && (b && c))
and_assoc true b c = refl
and_assoc false b c = refl

asked_are : (during : Bool) (commands : List Line) (first number : ℕ) → asked_jobs during commands first number ≡ map Ask (filter (is_for number during) (commands_at first commands))
asked_are true commands first number = ap (map Ask) (filter_same (λ l. (l.at == first) && (l.port == number) && l.during) (λ l. (l.at == first) && ((l.port == number) && l.during)) commands (λ l. and_assoc (l.at == first) (l.port == number) l.during) ∙ filter_both (λ l. l.at == first) (λ l. (l.port == number) && l.during) commands)
asked_are false commands first number = ap (map Ask) (filter_same (λ l. (l.at == first) && (l.port == number) && not l.during) (λ l. (l.at == first) && ((l.port == number) && not l.during)) commands (λ l. and_assoc (l.at == first) (l.port == number) (not l.during)) ∙ filter_both (λ l. l.at == first) (λ l. (l.port == number) && not l.during) commands)

pub tasks_for : (s : Site) (cs : List ℕ) (number : ℕ) (during : Bool) (places : List ℕ) (ls : List Line) → s.opening.controllers ≡ cs → map (λ place. slice_get s.commands place) places ≡ map Some ls → AreTasks s (tasks_asked s.commands cs number during places) (map Ask (filter (is_for number during) ls))
tasks_for s cs number during [] [] same e = tt
tasks_for s cs number during [] (l ∷ ls) same e = absurd (cc e)
tasks_for s cs number during (p ∷ ps) [] same e = absurd (cc e)
tasks_for s cs number during (p ∷ ps) (l ∷ ls) same e =
    let there : slice_get s.commands p ≡ Some l = cc e in
    let rest = tasks_for s cs number during ps ls same (cc e) in
    subst (λ o. AreTasks s (task_asked cs number during p o ++ tasks_asked s.commands cs number during ps) (map Ask (filter (is_for number during) (l ∷ ls)))) (sym there) (by there (is_for number during l) rest)
  where
    by : slice_get s.commands p ≡ Some l → (b : Bool) → AreTasks s (tasks_asked s.commands cs number during ps) (map Ask (filter (is_for number during) ls))
        → AreTasks s ((if b then new_task (16 + place_of l.controller cs) (Asks p) ∷ [] else []) ++ tasks_asked s.commands cs number during ps) (map Ask (if b then l ∷ filter (is_for number during) ls else filter (is_for number during) ls))
    by there true rest = (record { job = ap (option_map Ask) there; doer_is = ap (λ v. 16 + place_of l.controller v) (sym same) }, rest)
    by there false rest = rest

pub commands_added : (s : Site) (cs : List ℕ) (commands : List Line) (first number : ℕ) (during : Bool) (places : List ℕ) (old new : List Task) (js : List Job) → s.commands ≡ commands → s.opening.controllers ≡ cs → map (λ place. slice_get commands place) places ≡ map Some (commands_at first commands)
    → new ≡ old ++ tasks_asked commands cs number during places → AreTasks s old js → AreTasks s new (js ++ asked_jobs during commands first number)
commands_added s cs commands first number during places old new js same known are more a =
    subst (λ v. AreTasks s v (js ++ asked_jobs during commands first number)) (sym more)
    (tasks_append s old (tasks_asked commands cs number during places) js (asked_jobs during commands first number) a
    (subst (AreTasks s (tasks_asked commands cs number during places)) (sym (asked_are during commands first number))
    (subst (λ v. AreTasks s (tasks_asked v cs number during places) (map Ask (filter (is_for number during) (commands_at first commands)))) same
    (tasks_for s cs number during places (commands_at first commands) known (subst (λ v. map (λ place. slice_get v place) places ≡ map Some (commands_at first commands)) (sym same) are)))))

pub places_within : (lines cs : List Line) (places : List ℕ) → map (λ place. slice_get lines place) places ≡ map Some cs → Each (λ place. place < length lines) places
places_within lines cs [] e = tt
places_within lines [] (p ∷ ps) e = absurd (cc e)
places_within lines (c ∷ cs) (p ∷ ps) e = (there lines p c (cc e), places_within lines cs ps (cc e))
  where
    there : (lines : List Line) (n : ℕ) (l : Line) → slice_get lines n ≡ Some l → n < length lines
    there [] n l e = absurd (cc e)
    there (k ∷ ks) zero l e = omega arith
    there (k ∷ ks) (suc n) l e = omega (arith, there ks n l e)

-- ---- all tasks

pub are_many : (s : Site) (ts : List Task) (js : List Job) → AreTasks s ts js → length ts ≡ length js
are_many s [] [] a = refl
are_many s [] (j ∷ js) a = absurd a
are_many s (t ∷ ts) [] a = absurd a
are_many s (t ∷ ts) (j ∷ js) a = ap suc (are_many s ts js a.1)

pub filled : (s : Site) (workers : ℕ) (macs : List ℕ) (commands : List Line) (first number port split : ℕ) (packets : List (ℕ × Record)) (aims : List (Option Aim)) (one two three : List Task) → s.commands ≡ commands → s.place ≡ port → StandFrom s.records first packets → aims ≡ aims_of workers macs packets
    → AreTasks s one ([] ++ asked_jobs false commands first number) → split ≡ length one → AreTasks s two (([] ++ asked_jobs false commands first number) ++ asked_jobs true commands first number) → three ≡ two ++ tasks_aimed first port aims
    → AreTasks s three ((jobs_at s.commands workers macs first port number packets).first ++ (jobs_at s.commands workers macs first port number packets).later) × (split ≡ length (jobs_at s.commands workers macs first port number packets).first)
filled s workers macs commands first number port split packets aims one two three same place st e a many b more =
    let before = asked_jobs false commands first number in
    let during = asked_jobs true commands first number in
    let all : AreTasks s three ((before ++ during) ++ packet_jobs workers macs port packets) = subst (λ v. AreTasks s v ((before ++ during) ++ packet_jobs workers macs port packets)) (sym (more ∙ ap (λ v. two ++ tasks_aimed first port v) e))
    (tasks_append s two (tasks_aimed first port (aims_of workers macs packets)) (before ++ during) (packet_jobs workers macs port packets) b (all_aimed s workers macs port first packets place st)) in (
      subst (λ c. AreTasks s three (asked_jobs false c first number ++ (asked_jobs true c first number ++ packet_jobs workers macs port packets))) (sym same) (subst (AreTasks s three) (append_assoc before during (packet_jobs workers macs port packets)) all),
      subst (λ c. split ≡ length (asked_jobs false c first number)) (sym same) (many ∙ are_many s one before a),
    )

known_asked : (cs : List ℕ) (p : Line → Bool) (ls : List Line) → Each (CanBeAsked cs) ls → Each (IsKnown cs) (map Ask (filter p ls))
known_asked cs p [] e = tt
known_asked cs p (l ∷ ls) e = by (p l) (known_asked cs p ls e.1)
  where
    by : (b : Bool) → Each (IsKnown cs) (map Ask (filter p ls)) → Each (IsKnown cs) (map Ask (if b then l ∷ filter p ls else filter p ls))
    by true ih = (e.0.0, ih)
    by false ih = ih

each_append : {A : Type 0} (P : A → Type 0) (xs ys : List A) → Each P xs → Each P ys → Each P (xs ++ ys)
each_append P [] ys p q = q
each_append P (x ∷ xs) ys p q = (p.0, each_append P xs ys p.1 q)

known_aimed : (cs : List ℕ) (workers : ℕ) (macs : List ℕ) (port : ℕ) (packets : List (ℕ × Record)) → 1 ≤ workers → workers ≤ 16 → Each (IsKnown cs) (packet_jobs workers macs port packets)
known_aimed cs workers macs port [] some few = tt
known_aimed cs workers macs port (p ∷ ps) some few = each_append (IsKnown cs) (aimed_at workers port p.0 p.1.moment (aim_of macs p.1)) (packet_jobs workers macs port ps) (one (aim_of macs p.1)) (known_aimed cs workers macs port ps some few)
  where
    below : (n : ℕ) → n % workers < 16
    below n = let l : n % workers < workers = mod-lt n some in omega (arith, l, few)

    one : (to : Result (Place × Parts) LooseCause) → Each (IsKnown cs) (aimed_at workers port p.0 p.1.moment to)
    one (Err why) = tt
    one (Ok a) = by (a.0.port == port)
      where
        by : (b : Bool) → Each (IsKnown cs) (if b then Carry (crossing_by (worker_of workers a.1) p.0 a.0 p.1.moment a.1) a.1 ∷ [] else [])
        by true = (below (flow_sum_of a.1.stack), tt)
        by false = tt

pub jobs_known : (cs : List ℕ) (commands : List Line) (workers : ℕ) (macs : List ℕ) (first port number : ℕ) (packets : List (ℕ × Record)) → 1 ≤ workers → workers ≤ 16 → Each (CanBeAsked cs) commands
    → Each (IsKnown cs) ((jobs_at commands workers macs first port number packets).first ++ (jobs_at commands workers macs first port number packets).later)
jobs_known cs commands workers macs first port number packets some few can =
    each_append (IsKnown cs) (before_jobs commands first number) (during_jobs commands first number ++ packet_jobs workers macs port packets) (known_asked cs (λ l. (l.at == first) && (l.port == number) && not l.during) commands can)
    (each_append (IsKnown cs) (during_jobs commands first number) (packet_jobs workers macs port packets) (known_asked cs (λ l. (l.at == first) && (l.port == number) && l.during) commands can) (known_aimed cs workers macs port packets some few))

-- ---- one more

-- wherever they begin
pub stand_all : (records : List Record) (first next : ℕ) → StandFrom records first (packets_between records first next)
stand_all records first next = by (nat_lt (length records) first) refl
  where
    gone : {A : Type 0} (k : ℕ) (xs : List A) → length xs < k → drop k xs ≡ []
    gone zero xs lt = absurd (omega (arith, lt))
    gone (suc k) [] lt = refl
    gone (suc k) (x ∷ xs) lt = gone k xs (omega (arith, lt))

    long : {A : Type 0} (n : ℕ) (xs : List A) → length (numbered n xs) ≡ length xs
    long n [] = refl
    long n (x ∷ xs) = ap suc (long (suc n) xs)

    none : (m : ℕ) → take {A = ℕ × Record} m [] ≡ []
    none zero = refl
    none (suc m) = refl

    lt_of : nat_lt (length records) first ≡ true → length records < first
    lt_of e = grind (arith, common_steps)

    le_of : nat_lt (length records) first ≡ false → first ≤ length records
    le_of e = grind (arith, common_steps)

    by : (b : Bool) → nat_lt (length records) first ≡ b → StandFrom records first (packets_between records first next)
    by true e = let l : length (numbered 0 records) ≡ length records = long 0 records in subst (StandFrom records first) (sym (ap (take (next - first)) (gone first (numbered 0 records) (omega (arith, l, lt_of e))) ∙ none (next - first))) tt
    by false e = stand_between records first next (le_of e)
