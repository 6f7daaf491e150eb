-- Tasks by callers, and a task that is marked.
use Rattle.std.proofs.Common.{◌≡◌, ◌<◌, ◌==◌, ◌||◌, ℕ, zero, suc, Bool, true, false, if◌then◌else◌, List, [], ◌∷◌, ◌++◌, length, map, take, drop, get_or, Some, slice_get, refl, ap, sym, ◌∙◌, subst, arith, eq-eqb, ne_eqb}
use Rattle.std.specs.List.{slice_set}
use Rattle.std.proofs.lemmas.List.{take-append-drop}
use Rattle.std.proofs.lemmas.List.Elements.{filter-append}
use Rattle.vsw_policy.specs.Layers.{place_of}
use Rattle.vsw_policy.specs.Sound.{Each, is_listed}
use Rattle.vsw_port.specs.Calls.{Call, Job, job_doer, job_of, jobs_by}
use Rattle.vsw_audit.specs.declared.task.Task.{Task}
use Rattle.vsw_audit.specs.Private.Runs.{AreDoneBy, IsDoneBy}
use Rattle.vsw_audit.specs.Private.Tasks.{AreTasks, IsNextTask, IsTask, Site, by, job_in, marked}

pub append_end : {A : Type 0} (xs : List A) → xs ++ [] ≡ xs
append_end [] = refl
append_end (x ∷ xs) = ap (λ w. x ∷ w) (append_end xs)

-- the element at a place
pub record At {A : Type 0} (xs : List A) (i : ℕ) (x : A) : Type 0 where
  pub stands : slice_get xs i ≡ Some x
  pub rest : drop i xs ≡ x ∷ drop (suc i) xs
  pub front : take (suc i) xs ≡ take i xs ++ x ∷ []
  pub within : i < length xs

pub at_of : {A : Type 0} (xs : List A) (i : ℕ) → i < length xs → (x : A) × At xs i x
at_of [] i lt = absurd (omega (arith, lt))
at_of (y ∷ xs) zero lt = (y, record { stands = refl; rest = refl; front = refl; within = lt })
at_of (y ∷ xs) (suc i) lt = let t = at_of xs i (omega (arith, lt)) in (t.0, record { stands = t.1.stands; rest = t.1.rest; front = ap (λ w. y ∷ w) t.1.front; within = lt })

pub at_some : {A : Type 0} (xs : List A) (i : ℕ) (x : A) → slice_get xs i ≡ Some x → At xs i x
at_some [] i x e = absurd (cc e)
at_some (y ∷ xs) zero x e = let f : y ≡ x = cc e in record { stands = e; rest = ap (λ w. w ∷ xs) f; front = ap (λ w. w ∷ []) f; within = omega arith }
at_some (y ∷ xs) (suc i) x e = let t = at_some xs i x e in record { stands = e; rest = t.rest; front = ap (λ w. y ∷ w) t.front; within = omega (arith, t.within) }

-- ---- the next task of a caller

by_first : (k : ℕ) (t : Task) (ts : List Task) → t.doer ≡ k → by k (t ∷ ts) ≡ t ∷ by k ts
by_first k t ts e = let d : (t.doer == k) ≡ true = eq-eqb t.doer k e in ap (λ b. if b then t ∷ by k ts else by k ts) d

by_not : (k : ℕ) (t : Task) (ts : List Task) → (t.doer ≡ k → ⊥) → by k (t ∷ ts) ≡ by k ts
by_not k t ts ne = let d : (t.doer == k) ≡ false = ne_eqb t.doer k ne in ap (λ b. if b then t ∷ by k ts else by k ts) d

pub next_found : (k from place d : ℕ) (ts : List Task) → place < length ts → ((t : Task) → slice_get ts place ≡ Some t → d ≡ t.doer) → d ≡ k → by k (drop from ts) ≡ by k (drop place ts) → by k (take place ts) ≡ by k (take from ts)
    → (x : Task) × IsNextTask k from place ts x
next_found k from place d ts lt here e rest front =
    let a = at_of ts place lt in
    let is : a.0.doer ≡ k = sym (here a.0 a.1.stands) ∙ e in
    (a.0, record { stands = a.1.stands; doer_is = is; rest = rest ∙ (ap (by k) a.1.rest ∙ by_first k a.0 (drop (suc place) ts) is); front = front })

pub passed : (k from place next d : ℕ) (ts : List Task) → next ≡ suc place → place < length ts → ((t : Task) → slice_get ts place ≡ Some t → d ≡ t.doer) → (d ≡ k → ⊥) → by k (drop from ts) ≡ by k (drop place ts) → by k (take place ts) ≡ by k (take from ts)
    → (by k (drop from ts) ≡ by k (drop next ts)) × (by k (take next ts) ≡ by k (take from ts))
passed k from place next d ts sum lt here ne rest front =
    let a = at_of ts place lt in
    let is : a.0.doer ≡ k → ⊥ = λ same. ne (here a.0 a.1.stands ∙ same) in (
      rest ∙ (ap (by k) a.1.rest ∙ (by_not k a.0 (drop (suc place) ts) is ∙ ap (λ n. by k (drop n ts)) (sym sum))),
      ap (λ n. by k (take n ts)) sum ∙ (ap (by k) a.1.front ∙ (filter-append (λ t. t.doer == k) (take place ts) (a.0 ∷ []) ∙ (ap (λ w. by k (take place ts) ++ w) (by_not k a.0 [] is) ∙ (append_end (by k (take place ts)) ∙ front)))),
    )

pub by_split : (k n : ℕ) (ts : List Task) → by k (take n ts) ++ by k (drop n ts) ≡ by k ts
by_split k n ts = sym (filter-append (λ t. t.doer == k) (take n ts) (drop n ts)) ∙ ap (by k) (take-append-drop n ts)

-- ---- a task that is marked

pub set_front : {A : Type 0} (xs : List A) (i : ℕ) (x y : A) → slice_get xs i ≡ Some x → take (suc i) (slice_set xs i y) ≡ take i xs ++ y ∷ []
set_front [] i x y e = absurd (cc e)
set_front (z ∷ xs) zero x y e = refl
set_front (z ∷ xs) (suc i) x y e = ap (λ w. z ∷ w) (set_front xs i x y e)

-- no other caller's tasks change
pub set_others : (k n : ℕ) (ts : List Task) (i : ℕ) (t u : Task) → slice_get ts i ≡ Some t → u.doer ≡ t.doer → (t.doer ≡ k → ⊥) → by k (take n (slice_set ts i u)) ≡ by k (take n ts)
set_others k zero ts i t u e same ne = refl
set_others k (suc n) [] i t u e same ne = absurd (cc e)
set_others k (suc n) (x ∷ ts) zero t u e same ne =
    let is : x ≡ t = cc e in
    let d : x.doer ≡ t.doer = ap (λ w. w.doer) is in by_not k u (take n ts) (λ f. ne (sym same ∙ f)) ∙ sym (by_not k x (take n ts) (λ f. ne (sym d ∙ f)))
set_others k (suc n) (x ∷ ts) (suc i) t u e same ne = ap (λ w. if x.doer == k then x ∷ w else w) (set_others k n ts i t u e same ne)

pub set_tasks : (s : Site) (ts : List Task) (js : List Job) (i : ℕ) (t : Task) (entry : Bool) (count : ℕ) → slice_get ts i ≡ Some t → AreTasks s ts js → AreTasks s (slice_set ts i (marked entry count t)) js
set_tasks s [] js i t entry count e a = absurd (cc e)
set_tasks s (x ∷ ts) [] i t entry count e a = absurd a
set_tasks s (x ∷ ts) (j ∷ js) zero t entry count e a =
    let is : x ≡ t = cc e in
    let b : IsTask s t j = subst (λ w. IsTask s w j) is a.0 in
    (record { job = b.job; doer_is = b.doer_is }, a.1)
set_tasks s (x ∷ ts) (j ∷ js) (suc i) t entry count e a = (a.0, set_tasks s ts js i t entry count e a.1)

pub get_set : (ns : List ℕ) (i n d : ℕ) → i < length ns → get_or (slice_set ns i n) i d ≡ n
get_set [] i n d lt = absurd (omega (arith, lt))
get_set (m ∷ ns) zero n d lt = refl
get_set (m ∷ ns) (suc i) n d lt = get_set ns i n d (omega (arith, lt))

pub get_set_other : (ns : List ℕ) (i k n d : ℕ) → (i ≡ k → ⊥) → get_or (slice_set ns i n) k d ≡ get_or ns k d
get_set_other [] i k n d ne = refl
get_set_other (m ∷ ns) zero zero n d ne = absurd (ne refl)
get_set_other (m ∷ ns) zero (suc k) n d ne = refl
get_set_other (m ∷ ns) (suc i) zero n d ne = refl
get_set_other (m ∷ ns) (suc i) (suc k) n d ne = get_set_other ns i k n d (λ e. ne (ap suc e))

pub length_set : {A : Type 0} (xs : List A) (i : ℕ) (x : A) → length (slice_set xs i x) ≡ length xs
length_set [] i x = refl
length_set (y ∷ xs) zero x = refl
length_set (y ∷ xs) (suc i) x = ap suc (length_set xs i x)

-- ---- tasks and jobs

pub task_at : (s : Site) (ts : List Task) (js : List Job) (i : ℕ) (t : Task) → slice_get ts i ≡ Some t → AreTasks s ts js → (j : Job) × IsTask s t j
task_at s [] js i t e a = absurd (cc e)
task_at s (x ∷ ts) [] i t e a = absurd a
task_at s (x ∷ ts) (j ∷ js) zero t e a = let is : x ≡ t = cc e in (j, subst (λ w. IsTask s w j) is a.0)
task_at s (x ∷ ts) (j ∷ js) (suc i) t e a = task_at s ts js i t e a.1

-- a caller's tasks are those of its jobs
pub tasks_by : (s : Site) (k : ℕ) (ts : List Task) (js : List Job) → AreTasks s ts js → AreTasks s (by k ts) (jobs_by s.opening.controllers k js)
tasks_by s k [] [] a = tt
tasks_by s k [] (j ∷ js) a = absurd a
tasks_by s k (t ∷ ts) [] a = absurd a
tasks_by s k (t ∷ ts) (j ∷ js) a = by_doer (t.doer == k) (job_doer s.opening.controllers j == k) (ap (λ d. d == k) a.0.doer_is) (tasks_by s k ts js a.1)
  where
    by_doer : (b c : Bool) → b ≡ c → AreTasks s (by k ts) (jobs_by s.opening.controllers k js) → AreTasks s (if b then t ∷ by k ts else by k ts) (if c then j ∷ jobs_by s.opening.controllers k js else jobs_by s.opening.controllers k js)
    by_doer true true e ih = (a.0, ih)
    by_doer false false e ih = ih
    by_doer true false e ih = absurd (cc e)
    by_doer false true e ih = absurd (cc e)

same_job : {x y : Job} → Some x ≡ Some y → x ≡ y
same_job e = cc e

-- behind the tasks that are done the next job is of the next task
pub next_job : (s : Site) (xs ys : List Task) (cs : List Call) (js : List Job) (j : Job) (rest : List Job) → AreTasks s (xs ++ ys) js → AreDoneBy s xs cs → map (λ c. job_of c.deed) cs ++ j ∷ rest ≡ js → (t : Task) × (ts : List Task) × (ys ≡ t ∷ ts) × IsTask s t j
next_job s [] [] [] js j rest a d e = absurd (subst (λ w. AreTasks s [] w) (sym e) a)
next_job s [] (t ∷ ys) [] js j rest a d e = let b : AreTasks s (t ∷ ys) (j ∷ rest) = subst (λ w. AreTasks s (t ∷ ys) w) (sym e) a in (t, ys, refl, b.0)
next_job s [] ys (c ∷ cs) js j rest a d e = absurd d
next_job s (x ∷ xs) ys [] js j rest a d e = absurd d
next_job s (x ∷ xs) ys (c ∷ cs) [] j rest a d e = absurd a
next_job s (x ∷ xs) ys (c ∷ cs) (i ∷ js) j rest a d e = next_job s xs ys cs js j rest a.1 d.1 (cc e)

-- and the other way round
pub job_of_next : (s : Site) (xs ys : List Task) (t : Task) (cs : List Call) (js : List Job) (j : Job) → AreTasks s (xs ++ t ∷ ys) js → AreDoneBy s xs cs → job_in s t ≡ Some j → (rest : List Job) × (map (λ c. job_of c.deed) cs ++ j ∷ rest ≡ js)
job_of_next s [] ys t [] [] j a d e = absurd a
job_of_next s [] ys t [] (i ∷ js) j a d e = (js, let f : j ≡ i = same_job (sym e ∙ a.0.job) in ap (λ w. w ∷ js) f)
job_of_next s [] ys t (c ∷ cs) js j a d e = absurd d
job_of_next s (x ∷ xs) ys t [] js j a d e = absurd d
job_of_next s (x ∷ xs) ys t (c ∷ cs) [] j a d e = absurd a
job_of_next s (x ∷ xs) ys t (c ∷ cs) (i ∷ js) j a d e =
    let r = job_of_next s xs ys t cs js j a.1 d.1 e in
    let f : job_of c.deed ≡ i = same_job (sym d.0.job ∙ a.0.job) in
    (r.0, ap (λ w. w ∷ (map (λ c. job_of c.deed) cs ++ j ∷ r.0)) f ∙ ap (λ w. i ∷ w) r.1)

pub done_more : (s : Site) (xs : List Task) (cs : List Call) (t : Task) (c : Call) → AreDoneBy s xs cs → IsDoneBy s t c → AreDoneBy s (xs ++ t ∷ []) (cs ++ c ∷ [])
done_more s [] [] t c d i = (i, tt)
done_more s [] (b ∷ cs) t c d i = absurd d
done_more s (x ∷ xs) [] t c d i = absurd d
done_more s (x ∷ xs) (b ∷ cs) t c d i = (d.0, done_more s xs cs t c d.1 i)

-- ---- jobs of callers

pub known_by : (P : Job → Type 0) (cs : List ℕ) (k : ℕ) (js : List Job) → Each P js → Each P (jobs_by cs k js)
known_by P cs k [] e = tt
known_by P cs k (j ∷ js) e = by_doer (job_doer cs j == k) (known_by P cs k js e.1)
  where
    by_doer : (b : Bool) → Each P (jobs_by cs k js) → Each P (if b then j ∷ jobs_by cs k js else jobs_by cs k js)
    by_doer true ih = (e.0, ih)
    by_doer false ih = ih

pub each_behind : (P : Job → Type 0) (xs : List Job) (j : Job) (ys : List Job) → Each P (xs ++ j ∷ ys) → P j
each_behind P [] j ys e = e.0
each_behind P (x ∷ xs) j ys e = each_behind P xs j ys e.1

-- ---- the place of a controller

or_cases : (a b : Bool) → (a || b) ≡ true → a ≡ false → b ≡ true
or_cases true b e f = absurd (cc f)
or_cases false b e f = e

pub place_within : (ns : List ℕ) (c : ℕ) → is_listed ns c ≡ true → place_of c ns < length ns
place_within [] c l = absurd (cc l)
place_within (n ∷ ns) c l = by_first_is (c == n) refl (λ m. place_within ns c m)
  where
    by_first_is : (b : Bool) → (c == n) ≡ b → (is_listed ns c ≡ true → place_of c ns < length ns) → (if b then 0 else suc (place_of c ns)) < suc (length ns)
    by_first_is true e ih = omega arith
    by_first_is false e ih = omega (arith, ih (or_cases (c == n) (is_listed ns c) l e))
