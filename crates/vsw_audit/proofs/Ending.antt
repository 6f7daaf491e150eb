-- The end of a port's round.
use Rattle.std.proofs.Common.{◌≡◌, ◌<◌, ◌≤◌, ◌+◌, ◌==◌, ◌&&◌, ◌||◌, not, ℕ, zero, suc, Bool, true, false, true≢false, if◌then◌else◌, List, [], ◌∷◌, ◌++◌, length, map, filter, take, drop, get_or, nat_le, nat_lt, Option, Some, None, slice_get, option_and_then, refl, ap, sym, ◌∙◌, subst, arith, eq-eqb, ne_eqb, append_assoc, length-append}
use Rattle.std.proofs.lemmas.Grind.{common_steps}
use Rattle.std.proofs.lemmas.List.{take-append-drop}
use Rattle.std.proofs.lemmas.List.Elements.{filter-append}
use Rattle.vsw_policy.specs.Sound.{Each}
use Rattle.vsw_port.specs.declared.event.Event.{Event}
use Rattle.vsw_port.specs.Calls.{Ask, Call, Carry, InOrder, Job, calls_of, doer, entries_of, event_of, job_doer, job_of, jobs_by, named, next_count}
use Rattle.vsw_port.specs.History.{Opening}
use Rattle.vsw_port.proofs.Calls.{calls_append, each_of_all, entries_append}
use Rattle.vsw_port.proofs.Next.{named_doer, take_front}
use Rattle.vsw_promise.proofs.PortRounds.{drop_front}
use Rattle.vsw_many.proofs.Orders.{drop_at, each_same}
use Rattle.std.proofs.lemmas.List.{length-map}
use Rattle.vsw_promise.specs.Jobs.{Jobs}
use Rattle.vsw_promise.specs.Ports.{PortSeen}
use Rattle.vsw_promise.specs.Rounds.{opening_of}
use Rattle.vsw_report.specs.declared.round.PortRound.{PortRound}
use Rattle.vsw_report.specs.declared.told.ToldLine.{ToldLine}
use Rattle.vsw_check.specs.Report.{IsTold, Tells}
use Rattle.vsw_history_law.proofs.Reports.{doer_job, jobs_of_calls}
use Rattle.vsw_audit.specs.declared.task.Task.{Task}
use Rattle.vsw_audit.specs.Order.{IsOf}
use Rattle.vsw_audit.specs.Replay.{Replays, Runs, continued}
use Rattle.vsw_audit.specs.Private.Rounds.{PortReplays, is_settled}
use Rattle.vsw_audit.specs.Private.Runs.{AreDoneBy, Comes, Does, IsDoneBy}
use Rattle.vsw_audit.specs.Private.Tasks.{AreTasks, IsKnown, Site, are_behind, are_ordered, by, lead_of, next_low}
use Rattle.vsw_audit.proofs.Going.{deed_known}
use Rattle.vsw_audit.proofs.Standing.{told_is_as_it_stands}
use Rattle.vsw_audit.proofs.Tasks.{append_end, by_split, known_by, place_within, tasks_by}

is_same : (m n : ℕ) → (m == n) ≡ true → m ≡ n
is_same m n g = grind (arith, common_steps)

-- ---- the calls in the order of the tasks

-- the calls of each caller, without the first of one's
abbrev without_first : ℕ → List Call → (ℕ → List Call) → ℕ → List Call
without_first i rest f k = if i == k then rest else f k

pub record Woven (s : Site) (ts : List Task) (f : ℕ → List Call) : Type 0 where
  pub calls : List Call
  pub done : AreDoneBy s ts calls
  pub same : (k : ℕ) → calls_of s.opening.controllers k calls ≡ f k

pub weave : (s : Site) (ts : List Task) (f : ℕ → List Call) → ((k : ℕ) → AreDoneBy s (by k ts) (f k)) → Woven s ts f
weave s [] f d = record { calls = []; done = tt; same = λ k. none (f k) (d k) }
  where
    none : (cs : List Call) → AreDoneBy s [] cs → [] ≡ cs
    none [] e = refl
    none (c ∷ cs) e = absurd e
weave s (t ∷ ts) f d = from (f t.doer) refl mine (λ g e. weave s ts g e)
  where
    mine : AreDoneBy s (t ∷ by t.doer ts) (f t.doer)
    mine = subst (λ v. AreDoneBy s v (f t.doer)) (let e : (t.doer == t.doer) ≡ true = eq-eqb t.doer t.doer refl in ap (λ b. if b then t ∷ by t.doer ts else by t.doer ts) e) (d t.doer)

    from : (cs : List Call) → f t.doer ≡ cs → AreDoneBy s (t ∷ by t.doer ts) cs → ((g : ℕ → List Call) → ((k : ℕ) → AreDoneBy s (by k ts) (g k)) → Woven s ts g) → Woven s (t ∷ ts) f
    from [] e a ih = absurd a
    from (c ∷ cs) e a ih = record { calls = c ∷ w.calls; done = (a.0, w.done); same = same }
      where
        others : (k : ℕ) → AreDoneBy s (by k ts) (without_first t.doer cs f k)
        others k = here (t.doer == k) refl
          where
            here : (b : Bool) → (t.doer == k) ≡ b → AreDoneBy s (by k ts) (if b then cs else f k)
            here true g = subst (λ n. AreDoneBy s (by n ts) cs) (is_same t.doer k g) a.1
            here false g = subst (λ v. AreDoneBy s v (f k)) (ap (λ b. if b then t ∷ by k ts else by k ts) g) (d k)

        w : Woven s ts (without_first t.doer cs f)
        w = ih (without_first t.doer cs f) others

        doer_is : doer s.opening.controllers c.deed ≡ t.doer
        doer_is = sym a.0.doer_is

        same : (k : ℕ) → calls_of s.opening.controllers k (c ∷ w.calls) ≡ f k
        same k = ap (λ m. if m == k then c ∷ calls_of s.opening.controllers k w.calls else calls_of s.opening.controllers k w.calls) doer_is ∙ here (t.doer == k) refl (w.same k)
          where
            here : (b : Bool) → (t.doer == k) ≡ b → calls_of s.opening.controllers k w.calls ≡ (if t.doer == k then cs else f k) → (if b then c ∷ calls_of s.opening.controllers k w.calls else calls_of s.opening.controllers k w.calls) ≡ f k
            here true g h = ap (λ v. c ∷ v) (h ∙ ap (λ b. if b then cs else f k) g) ∙ (sym e ∙ ap f (is_same t.doer k g))
            here false g h = h ∙ ap (λ b. if b then cs else f k) g

-- their jobs are the tasks'
pub jobs_of_done : (s : Site) (ts : List Task) (cs : List Call) (js : List Job) → AreDoneBy s ts cs → AreTasks s ts js → map (λ c. job_of c.deed) cs ≡ js
jobs_of_done s [] [] [] d a = refl
jobs_of_done s [] [] (j ∷ js) d a = absurd a
jobs_of_done s [] (c ∷ cs) js d a = absurd d
jobs_of_done s (t ∷ ts) [] js d a = absurd d
jobs_of_done s (t ∷ ts) (c ∷ cs) [] d a = absurd a
jobs_of_done s (t ∷ ts) (c ∷ cs) (j ∷ js) d a =
    let e : job_of c.deed ≡ j = some_same (sym d.0.job ∙ a.0.job) in ap (λ w. w ∷ map (λ c. job_of c.deed) cs) e ∙ ap (λ w. j ∷ w) (jobs_of_done s ts cs js d.1 a.1)
  where
    some_same : {x y : Job} → Some x ≡ Some y → x ≡ y
    some_same e = cc e

-- ---- calls whose callers follow alike

and_more : (ns : List ℕ) (k : ℕ) (c : Call) (cs us : List Call) → doer ns c.deed ≡ k → calls_of ns k (c ∷ cs) ++ us ≡ c ∷ (calls_of ns k cs ++ us)
and_more ns k c cs us e = let t : (doer ns c.deed == k) ≡ true = eq-eqb (doer ns c.deed) k e in ap (λ b. (if b then c ∷ calls_of ns k cs else calls_of ns k cs) ++ us) t

pub same_calls : (ns : List ℕ) (xs ys : List Call) (us vs : ℕ → List Call) → map (λ c. doer ns c.deed) xs ≡ map (λ c. doer ns c.deed) ys → ((k : ℕ) → calls_of ns k xs ++ us k ≡ calls_of ns k ys ++ vs k) → xs ≡ ys
same_calls ns [] [] us vs e f = refl
same_calls ns [] (y ∷ ys) us vs e f = absurd (cc e)
same_calls ns (x ∷ xs) [] us vs e f = absurd (cc e)
same_calls ns (x ∷ xs) (y ∷ ys) us vs e f =
    let d : doer ns x.deed ≡ doer ns y.deed = cc e in
    let k = doer ns y.deed in
    let both : x ∷ (calls_of ns k xs ++ us k) ≡ y ∷ (calls_of ns k ys ++ vs k) = sym (and_more ns k x xs (us k) d) ∙ (f k ∙ and_more ns k y ys (vs k) refl) in
    let first : x ≡ y = cc both in
    let rest : map (λ c. doer ns c.deed) xs ≡ map (λ c. doer ns c.deed) ys = cc e in
    ap (λ w. w ∷ xs) first ∙ ap (λ w. y ∷ w) (same_calls ns xs ys us vs rest (λ n. less n (doer ns x.deed == n) (doer ns y.deed == n) refl refl (ap (λ m. m == n) d) (f n)))
  where
    less : (n : ℕ) (b c : Bool) → (doer ns x.deed == n) ≡ b → (doer ns y.deed == n) ≡ c → (doer ns x.deed == n) ≡ (doer ns y.deed == n)
        → calls_of ns n (x ∷ xs) ++ us n ≡ calls_of ns n (y ∷ ys) ++ vs n → calls_of ns n xs ++ us n ≡ calls_of ns n ys ++ vs n
    less n true true p q s g = let h : x ∷ (calls_of ns n xs ++ us n) ≡ y ∷ (calls_of ns n ys ++ vs n) = sym (ap (λ b. (if b then x ∷ calls_of ns n xs else calls_of ns n xs) ++ us n) p) ∙ (g ∙ ap (λ b. (if b then y ∷ calls_of ns n ys else calls_of ns n ys) ++ vs n) q) in cc h
    less n false false p q s g = sym (ap (λ b. (if b then x ∷ calls_of ns n xs else calls_of ns n xs) ++ us n) p) ∙ (g ∙ ap (λ b. (if b then y ∷ calls_of ns n ys else calls_of ns n ys) ++ vs n) q)
    less n true false p q s g = absurd (true≢false (sym p ∙ (s ∙ q)))
    less n false true p q s g = absurd (true≢false (sym q ∙ (sym s ∙ p)))

-- ---- entries that have the numbers from one on

abbrev ents : List Call → List Call
ents cs = filter (λ c. c.entry) cs

-- calls with this count and those that follow it
abbrev Follow : ℕ → List Call → Type 0
Follow n [] = Unit {0}
Follow n (c ∷ cs) = (c.count ≡ n) × Follow (suc n) cs

eqb_is : (m n : ℕ) → (m == n) ≡ true → m ≡ n
eqb_is m n g = grind (arith, common_steps)

none_some : {A : Type 0} {n : ℕ} → None ≡ Some n → A
none_some e = absurd (cc e)

some_is : {m n : ℕ} → Some m ≡ Some n → m ≡ n
some_is e = cc e

next : (n : ℕ) → n + 1 ≡ suc n
next n = omega arith

pub lead_yes : (s : Site) (low m : ℕ) (ts : List Task) (cs : List Call) → AreDoneBy s ts cs → lead_of low ts ≡ Some m → Follow low (ents cs) × (m ≡ low + length (ents cs))
lead_yes s low m [] [] d e = (tt, omega (arith, some_is e))
lead_yes s low m [] (c ∷ cs) d e = absurd d
lead_yes s low m (t ∷ ts) [] d e = absurd d
lead_yes s low m (t ∷ ts) (c ∷ cs) d e = by t.entry c.entry (t.count == low) refl d.0.entry refl (λ n g. lead_yes s n m ts cs d.1 g) e
  where
    by : (b f q : Bool) → t.entry ≡ b → b ≡ f → (t.count == low) ≡ q → ((n : ℕ) → lead_of n ts ≡ Some m → Follow n (ents cs) × (m ≡ n + length (ents cs))) → option_and_then (λ n. lead_of n ts) (if b then (if t.count == low then Some (low + 1) else None) else Some low) ≡ Some m
        → Follow low (if f then c ∷ ents cs else ents cs) × (m ≡ low + length (if f then c ∷ ents cs else ents cs))
    by true true true x y z ih g =
        let h : lead_of (low + 1) ts ≡ Some m = sym (ap (λ b. option_and_then (λ n. lead_of n ts) (if b then Some (low + 1) else None)) z) ∙ g in
        let i = ih (suc low) (ap (λ n. lead_of n ts) (sym (next low)) ∙ h) in
        ((sym d.0.count ∙ eqb_is t.count low z, i.0), omega (arith, i.1))
    by true true false x y z ih g = none_some (sym (ap (λ b. option_and_then (λ n. lead_of n ts) (if b then Some (low + 1) else None)) z) ∙ g)
    by false false q x y z ih g = ih low g
    by true false q x y z ih g = absurd (cc y)
    by false true q x y z ih g = absurd (cc y)

pub lead_back : (s : Site) (low : ℕ) (ts : List Task) (cs : List Call) → AreDoneBy s ts cs → Follow low (ents cs) → lead_of low ts ≡ Some (low + length (ents cs))
lead_back s low [] [] d f = ap Some (let e : low ≡ low + 0 = omega arith in e)
lead_back s low [] (c ∷ cs) d f = absurd d
lead_back s low (t ∷ ts) [] d f = absurd d
lead_back s low (t ∷ ts) (c ∷ cs) d f = by t.entry c.entry d.0.entry (λ n g. lead_back s n ts cs d.1 g) f
  where
    by : (b g : Bool) → b ≡ g → ((n : ℕ) → Follow n (ents cs) → lead_of n ts ≡ Some (n + length (ents cs))) → Follow low (if g then c ∷ ents cs else ents cs) → option_and_then (λ n. lead_of n ts) (if b then (if t.count == low then Some (low + 1) else None) else Some low) ≡ Some (low + length (if g then c ∷ ents cs else ents cs))
    by true true e ih f =
        let at : (t.count == low) ≡ true = eq-eqb t.count low (d.0.count ∙ f.0) in
        let sum : suc low + length (ents cs) ≡ low + suc (length (ents cs)) = omega arith in
        ap (λ b. option_and_then (λ n. lead_of n ts) (if b then Some (low + 1) else None)) at ∙ (ap (λ n. lead_of n ts) (next low) ∙ (ih (suc low) f.1 ∙ ap Some sum))
    by false false e ih f = ih low f
    by true false e ih f = absurd (cc e)
    by false true e ih f = absurd (cc e)

le_true : (m n : ℕ) → nat_le m n ≡ true → m ≤ n
le_true m n e = grind (arith, common_steps)

true_le : (m n : ℕ) → m ≤ n → nat_le m n ≡ true
true_le m n e = grind (arith, common_steps)

both_true : (a b : Bool) → (a && b) ≡ true → (a ≡ true) × (b ≡ true)
both_true true b e = (refl, e)
both_true false b e = absurd (true≢false (sym e))

true_both : (a b : Bool) → a ≡ true → b ≡ true → (a && b) ≡ true
true_both a b e f = ap (λ c. c && b) e ∙ f

pub behind_yes : (s : Site) (least : ℕ) (ts : List Task) (cs : List Call) → AreDoneBy s ts cs → are_behind least ts ≡ true → Each (λ c. least ≤ c.count) cs
behind_yes s least [] [] d e = tt
behind_yes s least [] (c ∷ cs) d e = absurd d
behind_yes s least (t ∷ ts) [] d e = absurd d
behind_yes s least (t ∷ ts) (c ∷ cs) d e = let b = both_true (nat_le least t.count) (are_behind least ts) e in (omega (arith, le_true least t.count b.0, d.0.count), behind_yes s least ts cs d.1 b.1)

pub behind_back : (s : Site) (least : ℕ) (ts : List Task) (cs : List Call) → AreDoneBy s ts cs → Each (λ c. least ≤ c.count) cs → are_behind least ts ≡ true
behind_back s least [] [] d e = refl
behind_back s least [] (c ∷ cs) d e = absurd d
behind_back s least (t ∷ ts) [] d e = absurd d
behind_back s least (t ∷ ts) (c ∷ cs) d e = true_both (nat_le least t.count) (are_behind least ts) (true_le least t.count (omega (arith, e.0, d.0.count))) (behind_back s least ts cs d.1 e.1)

low_is : (s : Site) (t : Task) (c : Call) → IsDoneBy s t c → next_low t ≡ next_count c
low_is s t c d = ap (λ b. if b then t.count + 1 else t.count) d.entry ∙ ap (λ n. if c.entry then n + 1 else n) d.count

pub ordered_yes : (s : Site) (low high : ℕ) (ts : List Task) (cs : List Call) → AreDoneBy s ts cs → are_ordered low ts high ≡ true → InOrder low cs high
ordered_yes s low high [] [] d e = le_true low high e
ordered_yes s low high [] (c ∷ cs) d e = absurd d
ordered_yes s low high (t ∷ ts) [] d e = absurd d
ordered_yes s low high (t ∷ ts) (c ∷ cs) d e =
    let b = both_true (nat_le low t.count) (are_ordered (next_low t) ts high) e in
    (omega (arith, le_true low t.count b.0, d.0.count), ordered_yes s (next_count c) high ts cs d.1 (ap (λ n. are_ordered n ts high) (sym (low_is s t c d.0)) ∙ b.1))

pub ordered_back : (s : Site) (low high : ℕ) (ts : List Task) (cs : List Call) → AreDoneBy s ts cs → InOrder low cs high → are_ordered low ts high ≡ true
ordered_back s low high [] [] d e = true_le low high e
ordered_back s low high [] (c ∷ cs) d e = absurd d
ordered_back s low high (t ∷ ts) [] d e = absurd d
ordered_back s low high (t ∷ ts) (c ∷ cs) d e =
    true_both (nat_le low t.count) (are_ordered (next_low t) ts high) (true_le low t.count (omega (arith, e.0, d.0.count))) (ap (λ n. are_ordered n ts high) (low_is s t c d.0) ∙ ordered_back s (next_count c) high ts cs d.1 e.1)

pub done_parts : (s : Site) (n : ℕ) (ts : List Task) (cs : List Call) → AreDoneBy s ts cs → AreDoneBy s (take n ts) (take n cs) × AreDoneBy s (drop n ts) (drop n cs)
done_parts s zero ts cs d = (tt, d)
done_parts s (suc n) [] [] d = (tt, tt)
done_parts s (suc n) [] (c ∷ cs) d = absurd d
done_parts s (suc n) (t ∷ ts) [] d = absurd d
done_parts s (suc n) (t ∷ ts) (c ∷ cs) d = let r = done_parts s n ts cs d.1 in ((d.0, r.0), r.1)

-- ---- the entries of calls that were made one after the other

ents_many : (cs : List Call) → length (ents cs) ≡ length (entries_of cs)
ents_many cs = sym (length-map (ents cs) (λ c. event_of c.deed))

entered_if : (c : Call) (b : Bool) → c.entry ≡ b → entries_of (c ∷ []) ≡ (if b then event_of c.deed ∷ [] else [])
entered_if c true e = ap (λ b. map (λ d. event_of d.deed) (if b then c ∷ [] else [])) e
entered_if c false e = ap (λ b. map (λ d. event_of d.deed) (if b then c ∷ [] else [])) e

run_follows : (o : Opening) (h : List Event) (n : ℕ) (cs : List Call) → n ≡ length h → Runs o h cs → Follow n (ents cs)
run_follows o h n [] e r = tt
run_follows o h n (c ∷ cs) e r = by c.entry refl (λ m g. run_follows o (h ++ entries_of (c ∷ [])) m cs g r.1)
  where
    grown : (m : ℕ) → length (entries_of (c ∷ [])) ≡ m → length (h ++ entries_of (c ∷ [])) ≡ n + m
    grown m g = length-append h (entries_of (c ∷ [])) ∙ omega (arith, e, g)

    by : (b : Bool) → c.entry ≡ b → ((m : ℕ) → m ≡ length (h ++ entries_of (c ∷ [])) → Follow m (ents cs)) → Follow n (if b then c ∷ ents cs else ents cs)
    by true g ih = (r.0.last ∙ sym e, ih (suc n) (let l = grown 1 (ap length (entered_if c true g)) in omega (arith, l)))
    by false g ih = ih n (let l = grown 0 (ap length (entered_if c false g)) in omega (arith, l))

abbrev StandsIn : List Event → Call → Type 0
StandsIn g c = c.entry ≡ true → slice_get g c.count ≡ Some (event_of c.deed)

here_stands : (h : List Event) (e : Event) (es : List Event) → slice_get (h ++ e ∷ es) (length h) ≡ Some e
here_stands [] e es = refl
here_stands (x ∷ h) e es = here_stands h e es

run_stands : (o : Opening) (h : List Event) (cs : List Call) → Runs o h cs → Each (StandsIn (h ++ entries_of cs)) cs
run_stands o h [] r = tt
run_stands o h (c ∷ cs) r = (first, subst (λ g. Each (StandsIn g) cs) grown (run_stands o (h ++ entries_of (c ∷ [])) cs r.1))
  where
    grown : (h ++ entries_of (c ∷ [])) ++ entries_of cs ≡ h ++ entries_of (c ∷ cs)
    grown = append_assoc h (entries_of (c ∷ [])) (entries_of cs) ∙ ap (λ w. h ++ w) (sym (entries_append (c ∷ []) cs))

    first : StandsIn (h ++ entries_of (c ∷ cs)) c
    first e =
        let is : entries_of (c ∷ cs) ≡ event_of c.deed ∷ entries_of cs = entries_append (c ∷ []) cs ∙ ap (λ w. w ++ entries_of cs) (entered_if c true e) in
        ap (λ w. slice_get (h ++ w) c.count) is ∙ (ap (slice_get (h ++ event_of c.deed ∷ entries_of cs)) r.0.last ∙ here_stands h (event_of c.deed) (entries_of cs))

ents_stand : (g : List Event) (cs : List Call) → Each (StandsIn g) cs → Each (λ c. slice_get g c.count ≡ Some (event_of c.deed)) (ents cs)
ents_stand g [] e = tt
ents_stand g (c ∷ cs) e = by c.entry refl (ents_stand g cs e.1)
  where
    by : (b : Bool) → c.entry ≡ b → Each (λ c. slice_get g c.count ≡ Some (event_of c.deed)) (ents cs) → Each (λ c. slice_get g c.count ≡ Some (event_of c.deed)) (if b then c ∷ ents cs else ents cs)
    by true f ih = (e.0 f, ih)
    by false f ih = ih

follow_front : (g : List Event) (n : ℕ) (cs : List Call) → Follow n cs → Each (λ c. slice_get g c.count ≡ Some (event_of c.deed)) cs → (rest : List Event) × (drop n g ≡ map (λ c. event_of c.deed) cs ++ rest)
follow_front g n [] f e = (drop n g, refl)
follow_front g n (c ∷ cs) f e =
    let r = follow_front g (suc n) cs f.1 e.1 in
    (r.0, drop_at n g (event_of c.deed) (ap (slice_get g) (sym f.0) ∙ e.0) ∙ ap (λ w. event_of c.deed ∷ w) r.1)

each_front : {A : Type 0} (P : A → Type 0) (xs ys : List A) → Each P (xs ++ ys) → Each P xs
each_front P [] ys e = tt
each_front P (x ∷ xs) ys e = (e.0, each_front P xs ys e.1)

-- the entries of these are the first ones, where their counts follow
pub leads : (o : Opening) (h : List Event) (calls first later : List Call) → Runs o h calls → ((k : ℕ) → calls_of o.controllers k (first ++ later) ≡ calls_of o.controllers k calls) → Follow (length h) (ents first) → take (length (entries_of first)) (entries_of calls) ≡ entries_of first
leads o h calls first later r same f =
    let g = h ++ entries_of calls in
    let all : Each (StandsIn g) (first ++ later) = each_same (StandsIn g) o.controllers calls (first ++ later) same (run_stands o h calls r) in
    let front = follow_front g (length h) (ents first) f (ents_stand g first (each_front (StandsIn g) first later all)) in
    let is : entries_of calls ≡ entries_of first ++ front.0 = sym (drop_front h (entries_of calls)) ∙ front.1 in
    ap (take (length (entries_of first))) is ∙ take_front (entries_of first) front.0

map_take : {A B : Type 0} (f : A → B) (n : ℕ) (xs : List A) → map f (take n xs) ≡ take n (map f xs)
map_take f zero xs = refl
map_take f (suc n) [] = refl
map_take f (suc n) (x ∷ xs) = ap (λ w. f x ∷ w) (map_take f n xs)

doers_of : (ns : List ℕ) (xs ys : List Call) → map (λ c. event_of c.deed) xs ≡ map (λ c. event_of c.deed) ys → map (λ c. doer ns c.deed) xs ≡ map (λ c. doer ns c.deed) ys
doers_of ns [] [] e = refl
doers_of ns [] (y ∷ ys) e = absurd (cc e)
doers_of ns (x ∷ xs) [] e = absurd (cc e)
doers_of ns (x ∷ xs) (y ∷ ys) e =
    let first : event_of x.deed ≡ event_of y.deed = cc e in
    let d : doer ns x.deed ≡ doer ns y.deed = sym (named_doer ns x.deed) ∙ (ap (named ns) first ∙ named_doer ns y.deed) in
    let rest : map (λ c. event_of c.deed) xs ≡ map (λ c. event_of c.deed) ys = cc e in
    ap (λ w. w ∷ map (λ c. doer ns c.deed) xs) d ∙ ap (λ w. doer ns y.deed ∷ w) (doers_of ns xs ys rest)

swap : (ns : List ℕ) (k : ℕ) (cs : List Call) → calls_of ns k (ents cs) ≡ ents (calls_of ns k cs)
swap ns k [] = refl
swap ns k (c ∷ cs) = by c.entry (doer ns c.deed == k) refl refl (swap ns k cs)
  where
    by : (b d : Bool) → c.entry ≡ b → (doer ns c.deed == k) ≡ d → calls_of ns k (ents cs) ≡ ents (calls_of ns k cs) → calls_of ns k (if b then c ∷ ents cs else ents cs) ≡ ents (if d then c ∷ calls_of ns k cs else calls_of ns k cs)
    by true true e f ih = ap (λ x. if x then c ∷ calls_of ns k (ents cs) else calls_of ns k (ents cs)) f ∙ (ap (λ w. c ∷ w) ih ∙ sym (ap (λ x. if x then c ∷ ents (calls_of ns k cs) else ents (calls_of ns k cs)) e))
    by true false e f ih = ap (λ x. if x then c ∷ calls_of ns k (ents cs) else calls_of ns k (ents cs)) f ∙ ih
    by false true e f ih = ih ∙ sym (ap (λ x. if x then c ∷ ents (calls_of ns k cs) else ents (calls_of ns k cs)) e)
    by false false e f ih = ih

follow_take : (n m : ℕ) (cs : List Call) → Follow n cs → Follow n (take m cs)
follow_take n zero cs f = tt
follow_take n (suc m) [] f = tt
follow_take n (suc m) (c ∷ cs) f = (f.0, follow_take (suc n) m cs f.1)

-- and the other way round
pub led : (o : Opening) (h : List Event) (calls first later : List Call) → Runs o h calls → ((k : ℕ) → calls_of o.controllers k (first ++ later) ≡ calls_of o.controllers k calls) → take (length (entries_of first)) (entries_of calls) ≡ entries_of first → Follow (length h) (ents first)
led o h calls first later r same e =
    let ns = o.controllers in
    let n = length (entries_of first) in
    let events : map (λ c. event_of c.deed) (ents first) ≡ map (λ c. event_of c.deed) (take n (ents calls)) = sym e ∙ sym (map_take (λ c. event_of c.deed) n (ents calls)) in
    let is : ents first ≡ take n (ents calls) = same_calls ns (ents first) (take n (ents calls)) (λ k. calls_of ns k (ents later)) (λ k. calls_of ns k (drop n (ents calls))) (doers_of ns (ents first) (take n (ents calls)) events) parts in
    subst (Follow (length h)) (sym is) (follow_take (length h) n (ents calls) (run_follows o h (length h) calls refl r))
  where
    parts : (k : ℕ) → calls_of o.controllers k (ents first) ++ calls_of o.controllers k (ents later) ≡ calls_of o.controllers k (take (length (entries_of first)) (ents calls)) ++ calls_of o.controllers k (drop (length (entries_of first)) (ents calls))
    parts k =
        let ns = o.controllers in
        let n = length (entries_of first) in
        sym (calls_append ns k (ents first) (ents later))
        ∙ (ap (calls_of ns k) (sym (filter-append (λ c. c.entry) first later))
        ∙ (swap ns k (first ++ later)
        ∙ (ap ents (same k)
        ∙ (sym (swap ns k calls)
        ∙ (ap (calls_of ns k) (sym (take-append-drop n (ents calls))) ∙ calls_append ns k (take n (ents calls)) (drop n (ents calls)))))))

-- ---- the round

-- a port's round whose lines were gone over
pub record IsGone (s : Site) (workers split : ℕ) (p : PortSeen) (h : List Event) (jobs : Jobs) (r : PortRound) (new : List Event) (ts : List Task) (cursors : List ℕ) : Type 0 where
  pub opening : opening_of p ≡ s.opening
  pub port : r.port ≡ p.number
  pub low : r.before ≡ length h
  pub told : IsTold r
  pub split_is : split ≡ length jobs.first
  pub known : Each (IsKnown s.opening.controllers) (jobs.first ++ jobs.later)
  pub comes : Comes s (jobs.first ++ jobs.later) h r.lines new ts cursors

none_there : (cs : List ℕ) (k : ℕ) (js : List Job) → length cs ≤ 8 → 24 ≤ k → Each (IsKnown cs) js → jobs_by cs k js ≡ []
none_there cs k [] few le e = refl
none_there cs k (j ∷ js) few le e = ap (λ b. if b then j ∷ jobs_by cs k js else jobs_by cs k js) (ne_eqb (job_doer cs j) k (by j e.0)) ∙ none_there cs k js few le e.1
  where
    by : (j : Job) → IsKnown cs j → job_doer cs j ≡ k → ⊥
    by (Carry x p) lt e = omega (arith, lt, e, le)
    by (Ask l) is e = omega (arith, place_within cs l.controller is, few, e, le)

no_tasks : (s : Site) (ts : List Task) → AreTasks s ts [] → ts ≡ []
no_tasks s [] a = refl
no_tasks s (t ∷ ts) a = absurd a

-- no caller has a task left, so each caller's are done
all_done : (s : Site) (js : List Job) (h : List Event) (ls : List ToldLine) (new : List Event) (ts : List Task) (cursors : List ℕ) (w : Comes s js h ls new ts cursors) → length s.opening.controllers ≤ 8 → Each (IsKnown s.opening.controllers) js → ((k : ℕ) → k < 24 → by k (drop (get_or cursors k 0) ts) ≡ [])
    → (k : ℕ) → AreDoneBy s (by k ts) (calls_of s.opening.controllers k w.calls)
all_done s js h ls new ts cursors w few known left k = subst (λ v. AreDoneBy s v (calls_of s.opening.controllers k w.calls)) whole (w.done k)
  where
    none : (b : Bool) → nat_lt k 24 ≡ b → by k (drop (get_or cursors k 0) ts) ≡ []
    none true e = left k (lt_true k 24 e)
      where
        lt_true : (m n : ℕ) → nat_lt m n ≡ true → m < n
        lt_true m n e = grind (arith, common_steps)
    none false e = end (by k (take (get_or cursors k 0) ts)) (by k (drop (get_or cursors k 0) ts)) (by_split k (get_or cursors k 0) ts ∙ no_tasks s (by k ts) (subst (AreTasks s (by k ts)) (none_there s.opening.controllers k js few (lt_false k 24 e) known) (tasks_by s k ts js w.tasks)))
      where
        lt_false : (m n : ℕ) → nat_lt m n ≡ false → n ≤ m
        lt_false m n e = grind (arith, common_steps)

        end : (xs ys : List Task) → xs ++ ys ≡ [] → ys ≡ []
        end [] ys e = e
        end (x ∷ xs) ys e = absurd (cc e)

    whole : by k (take (get_or cursors k 0) ts) ≡ by k ts
    whole = sym (append_end (by k (take (get_or cursors k 0) ts))) ∙ (ap (λ v. by k (take (get_or cursors k 0) ts) ++ v) (sym (none (nat_lt k 24) refl)) ∙ by_split k (get_or cursors k 0) ts)

are_of : (cs : List ℕ) (calls : List Call) (js : List Job) (rest : (k : ℕ) → (more : List Job) × (map (λ c. job_of c.deed) (calls_of cs k calls) ++ more ≡ jobs_by cs k js)) → Each (IsKnown cs) js → Each (IsOf cs) calls
are_of cs calls js rest known = each_of_all (IsOf cs) cs calls (λ k. of_jobs (calls_of cs k calls) (each_part (map (λ c. job_of c.deed) (calls_of cs k calls)) (rest k).0 (subst (Each (IsKnown cs)) (sym (rest k).1) (known_by (IsKnown cs) cs k js known))))
  where
    each_part : (xs ys : List Job) → Each (IsKnown cs) (xs ++ ys) → Each (IsKnown cs) xs
    each_part xs ys e = each_front (IsKnown cs) xs ys e

    of_jobs : (ds : List Call) → Each (IsKnown cs) (map (λ c. job_of c.deed) ds) → Each (IsOf cs) ds
    of_jobs [] e = tt
    of_jobs (d ∷ ds) e = (deed_known cs d.deed e.0, of_jobs ds e.1)

first_later : {A B : Type 0} (f : A → B) (xs : List A) (ys zs : List B) → map f xs ≡ ys ++ zs → (map f (take (length ys) xs) ≡ ys) × (map f (drop (length ys) xs) ≡ zs)
first_later f xs ys zs e = (map_take f (length ys) xs ∙ (ap (take (length ys)) e ∙ take_front ys zs), map_drop f (length ys) xs ∙ (ap (drop (length ys)) e ∙ drop_front ys zs))
  where
    map_drop : {A B : Type 0} (f : A → B) (n : ℕ) (xs : List A) → map f (drop n xs) ≡ drop n (map f xs)
    map_drop f zero xs = refl
    map_drop f (suc n) [] = refl
    map_drop f (suc n) (x ∷ xs) = map_drop f n xs

one_worker : (workers : ℕ) (b : Bool) → (not (workers == 1) || b) ≡ true → workers ≡ 1 → b ≡ true
one_worker workers b e f = sym (ap (λ t. not t || b) (eq-eqb workers 1 f)) ∙ e

settle_one : (workers : ℕ) (b : Bool) → (workers ≡ 1 → b ≡ true) → (not (workers == 1) || b) ≡ true
settle_one workers b f = by (workers == 1) refl
  where
    by : (t : Bool) → (workers == 1) ≡ t → (not t || b) ≡ true
    by true e = f (eqb_is workers 1 e)
    by false e = refl

record Parts (s : Site) (h : List Event) (calls : List Call) (jobs : Jobs) (ts : List Task) : Type 0 where
  woven : List Call
  done : AreDoneBy s ts woven
  same : (k : ℕ) → calls_of s.opening.controllers k woven ≡ calls_of s.opening.controllers k calls
  jobs_are : map (λ c. job_of c.deed) woven ≡ jobs.first ++ jobs.later

parts_of : (s : Site) (workers split : ℕ) (p : PortSeen) (h : List Event) (jobs : Jobs) (r : PortRound) (new : List Event) (ts : List Task) (cursors : List ℕ) (g : IsGone s workers split p h jobs r new ts cursors) → length s.opening.controllers ≤ 8 → ((k : ℕ) → k < 24 → by k (drop (get_or cursors k 0) ts) ≡ [])
    → Parts s h g.comes.calls jobs ts
parts_of s workers split p h jobs r new ts cursors g few left =
    let w = weave s ts (λ k. calls_of s.opening.controllers k g.comes.calls) (all_done s (jobs.first ++ jobs.later) h r.lines new ts cursors g.comes few g.known left) in
    record { woven = w.calls; done = w.done; same = w.same; jobs_are = jobs_of_done s ts w.calls (jobs.first ++ jobs.later) w.done g.comes.tasks }

settled_parts : (workers split low high : ℕ) (ts : List Task) → is_settled workers split low high ts ≡ true → (least : ℕ) × (lead_of low (take split ts) ≡ Some least) × (are_behind least (drop split ts) ≡ true) × ((not (workers == 1) || are_ordered low ts high) ≡ true)
settled_parts workers split low high ts e = by (lead_of low (take split ts)) refl e
  where
    by : (o : Option ℕ) → lead_of low (take split ts) ≡ o → (elim o [ None ↦ false | Some least ↦ are_behind least (drop split ts) && (not (workers == 1) || are_ordered low ts high) ]) ≡ true
        → (least : ℕ) × (lead_of low (take split ts) ≡ Some least) × (are_behind least (drop split ts) ≡ true) × ((not (workers == 1) || are_ordered low ts high) ≡ true)
    by None f e = absurd (true≢false (sym e))
    by (Some least) f e = let t = both_true (are_behind least (drop split ts)) (not (workers == 1) || are_ordered low ts high) e in (least, f, t.0, t.1)

parts_settled : (workers split low high least : ℕ) (ts : List Task) → lead_of low (take split ts) ≡ Some least → are_behind least (drop split ts) ≡ true → (not (workers == 1) || are_ordered low ts high) ≡ true → is_settled workers split low high ts ≡ true
parts_settled workers split low high least ts e f g =
    ap (λ o. elim o [ None ↦ false | Some least ↦ are_behind least (drop split ts) && (not (workers == 1) || are_ordered low ts high) ]) e ∙ true_both (are_behind least (drop split ts)) (not (workers == 1) || are_ordered low ts high) f g

runs_at : (o q : Opening) (h : List Event) (cs : List Call) → q ≡ o → Runs o h cs → Runs q h cs
runs_at o q h cs e r = subst (λ v. Runs v h cs) (sym e) r

pub ends_so : (s : Site) (workers split : ℕ) (p : PortSeen) (h : List Event) (jobs : Jobs) (r : PortRound) (new : List Event) (ts : List Task) (cursors : List ℕ) (g : IsGone s workers split p h jobs r new ts cursors) → length s.opening.controllers ≤ 8 → r.after ≡ length new
    → ((k : ℕ) → k < 24 → by k (drop (get_or cursors k 0) ts) ≡ []) → is_settled workers split r.before r.after ts ≡ true → PortReplays workers p h jobs r new
ends_so s workers split p h jobs r new ts cursors g few high left settled =
    let cs = s.opening.controllers in
    let ns : p.controllers ≡ cs = ap (λ o. o.controllers) g.opening in
    let w = g.comes in
    let t = parts_of s workers split p h jobs r new ts cursors g few left in
    let u = settled_parts workers split r.before r.after ts settled in
    let halves = done_parts s split ts t.woven t.done in
    let first = take split t.woven in
    let later = drop split t.woven in
    let lead = lead_yes s r.before u.0 (take split ts) first halves.0 u.1 in
    let joined : first ++ later ≡ t.woven = take-append-drop split t.woven in
    let same : (k : ℕ) → calls_of cs k (first ++ later) ≡ calls_of cs k w.calls = λ k. ap (calls_of cs k) joined ∙ t.same k in
    let js = first_later (λ c. job_of c.deed) t.woven jobs.first jobs.later t.jobs_are in
    let least : u.0 ≡ r.before + length (entries_of first) = lead.1 ∙ ap (λ n. r.before + n) (ents_many first) in
    let of : Each (IsOf cs) w.calls = are_of cs w.calls (jobs.first ++ jobs.later) w.does.own g.known in (
      record {
        port = g.port;
        low = g.low;
        calls = w.calls;
        lines = w.does.lines_are;
        order = told_is_as_it_stands p.controllers w.calls r.before r.after g.told.0 (subst (Tells r.before r.after 0) (sym w.does.lines_are) g.told.1) (subst (λ v. Each (IsOf v) w.calls) (sym ns) of) ∙ w.does.lines_are;
        runs = runs_at s.opening (opening_of p) h w.calls g.opening w.does.runs;
        high = high ∙ ap length w.history;
        own = λ k. subst (λ v. map (λ c. job_of c.deed) (calls_of v k w.calls) ≡ jobs_by v k (jobs.first ++ jobs.later)) (sym ns) (ap (map (λ c. job_of c.deed)) (sym (t.same k)) ∙ (jobs_of_calls cs k t.woven ∙ ap (jobs_by cs k) t.jobs_are));
        first = first;
        later = later;
        first_jobs = ap (λ n. map (λ c. job_of c.deed) (take n t.woven)) g.split_is ∙ js.0;
        later_jobs = ap (λ n. map (λ c. job_of c.deed) (drop n t.woven)) g.split_is ∙ js.1;
        same = λ k. subst (λ v. calls_of v k (first ++ later) ≡ calls_of v k w.calls) (sym ns) (same k);
        lead = leads s.opening h w.calls first later w.does.runs same (subst (λ n. Follow n (ents first)) g.low lead.0);
        behind = subst (λ n. Each (λ c. n ≤ c.count) later) least (behind_yes s u.0 (drop split ts) later halves.1 u.2);
        one = λ e. subst (λ v. InOrder r.before v r.after) (sym joined) (ordered_yes s r.before r.after ts t.woven t.done (one_worker workers (are_ordered r.before ts r.after) u.3 e));
      },
      w.history,
    )

-- a replayed round's calls are told by its lines
pub replay_does : (s : Site) (workers : ℕ) (p : PortSeen) (h : List Event) (jobs : Jobs) (r : PortRound) (w : Replays workers p h jobs r) → opening_of p ≡ s.opening → Does s (jobs.first ++ jobs.later) h r.lines w.calls
replay_does s workers p h jobs r w e = record {
  lines_are = w.lines;
  runs = subst (λ o. Runs o h w.calls) e w.runs;
  own = λ k. ([], append_end (map (λ c. job_of c.deed) (calls_of s.opening.controllers k w.calls)) ∙ subst (λ (o : Opening). map (λ c. job_of c.deed) (calls_of o.controllers k w.calls) ≡ jobs_by o.controllers k (jobs.first ++ jobs.later)) e (w.own k));
}

-- all are done, since each caller's calls are of all of its jobs
none_left : (s : Site) (js : List Job) (h : List Event) (ls : List ToldLine) (new : List Event) (ts : List Task) (cursors : List ℕ) (w : Comes s js h ls new ts cursors) → ((k : ℕ) → map (λ c. job_of c.deed) (calls_of s.opening.controllers k w.calls) ≡ jobs_by s.opening.controllers k js)
    → (k : ℕ) → by k (drop (get_or cursors k 0) ts) ≡ []
none_left s js h ls new ts cursors w own k =
    rest (by k (take (get_or cursors k 0) ts)) (by k (drop (get_or cursors k 0) ts)) (calls_of s.opening.controllers k w.calls) (jobs_by s.opening.controllers k js) (subst (λ v. AreTasks s v (jobs_by s.opening.controllers k js)) (sym (by_split k (get_or cursors k 0) ts)) (tasks_by s k ts js w.tasks)) (w.done k) (own k)
  where
    rest : (xs ys : List Task) (cs : List Call) (is : List Job) → AreTasks s (xs ++ ys) is → AreDoneBy s xs cs → map (λ c. job_of c.deed) cs ≡ is → ys ≡ []
    rest [] ys [] is a d e = no_tasks s ys (subst (AreTasks s ys) (sym e) a)
    rest [] ys (c ∷ cs) is a d e = absurd d
    rest (x ∷ xs) ys [] is a d e = absurd d
    rest (x ∷ xs) ys (c ∷ cs) [] a d e = absurd (cc e)
    rest (x ∷ xs) ys (c ∷ cs) (i ∷ is) a d e = rest xs ys cs is a.1 d.1 (cc e)

pub record Ends (workers split : ℕ) (p : PortSeen) (h : List Event) (jobs : Jobs) (r : PortRound) (new : List Event) (ts : List Task) (cursors : List ℕ) (g : List Event) : Type 0 where
  pub after : r.after ≡ length new
  pub left : (k : ℕ) → k < 24 → by k (drop (get_or cursors k 0) ts) ≡ []
  pub settled : is_settled workers split r.before r.after ts ≡ true
  pub same : g ≡ new

pub must_end : (s : Site) (workers split : ℕ) (p : PortSeen) (h : List Event) (jobs : Jobs) (r : PortRound) (new : List Event) (ts : List Task) (cursors : List ℕ) (g : List Event) (i : IsGone s workers split p h jobs r new ts cursors) → length s.opening.controllers ≤ 8 → PortReplays workers p h jobs r g → Ends workers split p h jobs r new ts cursors g
must_end s workers split p h jobs r new ts cursors g i few replayed =
    let cs = s.opening.controllers in
    let ns : p.controllers ≡ cs = ap (λ o. o.controllers) i.opening in
    let v = replayed.0 in
    let w = i.comes in
    let calls : v.calls ≡ w.calls = w.only v.calls (replay_does s workers p h jobs r v i.opening) in
    let new_is : continued h v.calls ≡ new = ap (λ c. h ++ entries_of c) calls ∙ sym w.history in
    let own : (k : ℕ) → map (λ c. job_of c.deed) (calls_of cs k w.calls) ≡ jobs_by cs k (jobs.first ++ jobs.later) = λ k. subst (λ c. map (λ c. job_of c.deed) (calls_of cs k c) ≡ jobs_by cs k (jobs.first ++ jobs.later)) calls (subst (λ n. map (λ c. job_of c.deed) (calls_of n k v.calls) ≡ jobs_by n k (jobs.first ++ jobs.later)) ns (v.own k)) in
    let left = none_left s (jobs.first ++ jobs.later) h r.lines new ts cursors w own in
    let t = parts_of s workers split p h jobs r new ts cursors i few (λ k lt. left k) in
    let same : (k : ℕ) → calls_of cs k (v.first ++ v.later) ≡ calls_of cs k w.calls = λ k. subst (λ n. calls_of n k (v.first ++ v.later) ≡ calls_of n k v.calls) ns (v.same k) ∙ ap (calls_of cs k) calls in
    let theirs : map (λ c. job_of c.deed) (v.first ++ v.later) ≡ jobs.first ++ jobs.later = map_append (λ c. job_of c.deed) v.first v.later ∙ (ap (λ x. x ++ map (λ c. job_of c.deed) v.later) v.first_jobs ∙ ap (λ x. jobs.first ++ x) v.later_jobs) in
    let woven : t.woven ≡ v.first ++ v.later = same_calls cs t.woven (v.first ++ v.later) (λ k. []) (λ k. []) (doers_by cs t.woven (v.first ++ v.later) (t.jobs_are ∙ sym theirs)) (λ k. ap (λ x. x ++ []) (t.same k ∙ sym (same k))) in
    let many : length v.first ≡ split = sym (length-map v.first (λ c. job_of c.deed)) ∙ (ap length v.first_jobs ∙ sym i.split_is) in
    let first_is : take split t.woven ≡ v.first = ap (take split) woven ∙ (ap (λ n. take n (v.first ++ v.later)) (sym many) ∙ take_front v.first v.later) in
    let later_is : drop split t.woven ≡ v.later = ap (drop split) woven ∙ (ap (λ n. drop n (v.first ++ v.later)) (sym many) ∙ drop_front v.first v.later) in
    let halves = done_parts s split ts t.woven t.done in
    let first_done : AreDoneBy s (take split ts) v.first = subst (AreDoneBy s (take split ts)) first_is halves.0 in
    let later_done : AreDoneBy s (drop split ts) v.later = subst (AreDoneBy s (drop split ts)) later_is halves.1 in
    let lead : take (length (entries_of v.first)) (entries_of w.calls) ≡ entries_of v.first = subst (λ c. take (length (entries_of v.first)) (entries_of c) ≡ entries_of v.first) calls v.lead in
    let follow : Follow r.before (ents v.first) = subst (λ n. Follow n (ents v.first)) (sym i.low) (led s.opening h w.calls v.first v.later w.does.runs same lead) in
    let behind : Each (λ c. r.before + length (ents v.first) ≤ c.count) v.later = subst (λ n. Each (λ c. r.before + n ≤ c.count) v.later) (sym (ents_many v.first)) v.behind in
    record {
      after = v.high ∙ ap length new_is;
      left = λ k lt. left k;
      settled = parts_settled workers split r.before r.after (r.before + length (ents v.first)) ts (lead_back s r.before (take split ts) v.first first_done follow) (behind_back s (r.before + length (ents v.first)) (drop split ts) v.later later_done behind)
          (settle_one workers (are_ordered r.before ts r.after) (λ e. ordered_back s r.before r.after ts t.woven t.done (subst (λ c. InOrder r.before c r.after) (sym woven) (v.one e))));
      same = replayed.1 ∙ new_is;
    }
  where
    map_append : {A B : Type 0} (f : A → B) (xs ys : List A) → map f (xs ++ ys) ≡ map f xs ++ map f ys
    map_append f [] ys = refl
    map_append f (x ∷ xs) ys = ap (λ w. f x ∷ w) (map_append f xs ys)

    doers_by : (ns : List ℕ) (xs ys : List Call) → map (λ c. job_of c.deed) xs ≡ map (λ c. job_of c.deed) ys → map (λ c. doer ns c.deed) xs ≡ map (λ c. doer ns c.deed) ys
    doers_by ns [] [] e = refl
    doers_by ns [] (y ∷ ys) e = absurd (cc e)
    doers_by ns (x ∷ xs) [] e = absurd (cc e)
    doers_by ns (x ∷ xs) (y ∷ ys) e =
        let first : job_of x.deed ≡ job_of y.deed = cc e in
        let rest : map (λ c. job_of c.deed) xs ≡ map (λ c. job_of c.deed) ys = cc e in
        let d : doer ns x.deed ≡ doer ns y.deed = sym (doer_job ns x.deed) ∙ (ap (job_doer ns) first ∙ doer_job ns y.deed) in
        ap (λ w. w ∷ map (λ c. doer ns c.deed) xs) d ∙ ap (λ w. doer ns y.deed ∷ w) (doers_by ns xs ys rest)
