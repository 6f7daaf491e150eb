-- One more line.
use Rattle.std.proofs.Common.{◌≡◌, ◌==◌, ℕ, zero, suc, Bool, true, false, if◌then◌else◌, List, [], ◌∷◌, ◌++◌, length, map, take, drop, get_or, replicate, nat_lt, Some, None, refl, ap, sym, ◌∙◌, subst, arith, eq-eqb, ne_eqb, append_assoc}
use Rattle.std.proofs.lemmas.Grind.{common_steps}
use Rattle.std.proofs.lemmas.List.Elements.{filter-append}
use native.Mathlib.Decide.{ℕ_discrete}
use Rattle.vsw_policy.specs.Sound.{Each, is_listed}
use Rattle.vsw_port.specs.declared.event.Event.{Event}
use Rattle.vsw_port.specs.Calls.{Asked, Call, Carried, Deed, Job, calls_of, doer, entries_of, job_of, jobs_by}
use Rattle.vsw_port.specs.History.{Opening}
use Rattle.vsw_port.specs.Next.{IsNext}
use Rattle.vsw_port.proofs.Calls.{calls_append, entries_append}
use Rattle.vsw_promise.specs.Told.{by_of, doer_by, line_of, what_of}
use Rattle.vsw_report.specs.declared.told.By.{By}
use Rattle.vsw_report.specs.declared.told.By.TheVariants.{Controller, Worker}
use Rattle.vsw_report.specs.declared.told.ToldLine.{ToldLine}
use Rattle.vsw_audit.specs.declared.task.Task.{Task}
use Rattle.vsw_audit.specs.Order.{IsDeedOf}
use Rattle.vsw_audit.specs.Replay.{Runs}
use Rattle.vsw_audit.specs.Private.Lines.{Moves, Stage, Steps, at}
use Rattle.vsw_audit.specs.Private.Runs.{AreDoneBy, Comes, Does, IsDoneBy}
use Rattle.vsw_audit.specs.Private.Tasks.{AreTasks, IsKnown, IsTask, Site, by, caller_in, job_in, marked}
use Rattle.vsw_audit.proofs.Tasks.{append_end, by_split, done_more, each_behind, get_set, get_set_other, job_of_next, known_by, length_set, next_job, set_front, set_others, set_tasks, tasks_by}

-- ---- calls by their jobs and lines

-- a call is told by its job and its line
pub one_call : (c d : Call) → job_of c.deed ≡ job_of d.deed → line_of c ≡ line_of d → c ≡ d
one_call c d e f = by c.deed d.deed c.entry d.entry c.count d.count e (ap (λ l. l.what) f) (ap (λ l. l.entry) f) (ap (λ l. l.count) f)
  where
    by : (x y : Deed) (a b : Bool) (m n : ℕ) → job_of x ≡ job_of y → what_of x ≡ what_of y → a ≡ b → m ≡ n → ◌≡◌ {A = Call} (record { deed = x; entry = a; count = m }) (record { deed = y; entry = b; count = n })
    by (Carried x p fate bytes) (Carried y q other more) a b m n e w s t = cc (e, w, s, t)
    by (Asked l r) (Asked k q) a b m n e w s t = cc (e, w, s, t)
    by (Carried x p fate bytes) (Asked k q) a b m n e w s t = absurd (cc e)
    by (Asked l r) (Carried y q other more) a b m n e w s t = absurd (cc e)

doer_line : (cs : List ℕ) (d : Deed) → doer_by cs (by_of d) ≡ doer cs d
doer_line cs (Carried x p fate bytes) = refl
doer_line cs (Asked l reply) = refl

line_doer_is : (cs : List ℕ) (c : Call) (l : ToldLine) → line_of c ≡ l → doer cs c.deed ≡ doer_by cs l.by
line_doer_is cs c l e = sym (doer_line cs c.deed) ∙ ap (λ w. doer_by cs w.by) e

caller_doer : (cs : List ℕ) (b : By) (k : ℕ) → caller_in cs b ≡ Some k → doer_by cs b ≡ k
caller_doer cs (Worker n) k e = by (nat_lt n 16) e
  where
    by : (t : Bool) → (if t then Some n else None) ≡ Some k → n ≡ k
    by true e = cc e
    by false e = absurd (cc e)
caller_doer cs (Controller c) k e = by (is_listed cs c) e
  where
    by : (t : Bool) → (if t then Some (doer_by cs (Controller c)) else None) ≡ Some k → doer_by cs (Controller c) ≡ k
    by true e = cc e
    by false e = absurd (cc e)

-- the caller of a deed is one, and is found by its line
pub caller_known : (cs : List ℕ) (d : Deed) → IsDeedOf cs d → caller_in cs (by_of d) ≡ Some (doer cs d)
caller_known cs (Carried x p fate bytes) lt = let t : nat_lt x.caller 16 ≡ true = grind (arith, common_steps, lt) in ap (λ b. if b then Some x.caller else None) t
caller_known cs (Asked l reply) is = ap (λ b. if b then Some (doer_by cs (Controller l.controller)) else None) is

pub deed_known : (cs : List ℕ) (d : Deed) → IsKnown cs (job_of d) → IsDeedOf cs d
deed_known cs (Carried x p fate bytes) k = k
deed_known cs (Asked l reply) k = k

-- ---- fronts

pub runs_front : (o : Opening) (h : List Event) (cs : List Call) (d : Call) → Runs o h (cs ++ d ∷ []) → Runs o h cs × IsNext o (h ++ entries_of cs) d
runs_front o h [] d r = (tt, subst (λ g. IsNext o g d) (sym (append_end h)) r.0)
runs_front o h (c ∷ cs) d r =
    let t = runs_front o (h ++ entries_of (c ∷ [])) cs d r.1 in
    ((r.0, t.0), subst (λ g. IsNext o g d) (append_assoc h (entries_of (c ∷ [])) (entries_of cs) ∙ ap (λ w. h ++ w) (sym (entries_append (c ∷ []) cs))) t.1)

pub runs_more : (o : Opening) (h : List Event) (cs : List Call) (d : Call) → Runs o h cs → IsNext o (h ++ entries_of cs) d → Runs o h (cs ++ d ∷ [])
runs_more o h [] d r n = (subst (λ g. IsNext o g d) (append_end h) n, tt)
runs_more o h (c ∷ cs) d r n =
    (r.0, runs_more o (h ++ entries_of (c ∷ [])) cs d r.1 (subst (λ g. IsNext o g d) (sym (append_assoc h (entries_of (c ∷ [])) (entries_of cs) ∙ ap (λ w. h ++ w) (sym (entries_append (c ∷ []) cs)))) n))

map_append : {A B : Type 0} (f : A → B) (xs ys : List A) → map f (xs ++ ys) ≡ map f xs ++ map f ys
map_append f [] ys = refl
map_append f (x ∷ xs) ys = ap (λ w. f x ∷ w) (map_append f xs ys)

record Last (cs : List Call) (ls : List ToldLine) (l : ToldLine) : Type 0 where
  front : List Call
  last : Call
  is : cs ≡ front ++ last ∷ []
  lines : map line_of front ≡ ls
  line : line_of last ≡ l

last_line : (cs : List Call) (ls : List ToldLine) (l : ToldLine) → map line_of cs ≡ ls ++ l ∷ [] → Last cs ls l
last_line [] [] l e = absurd (cc e)
last_line [] (k ∷ ls) l e = absurd (cc e)
last_line (c ∷ []) [] l e = record { front = []; last = c; is = refl; lines = refl; line = cc e }
last_line (c ∷ d ∷ cs) [] l e = absurd (cc e)
last_line (c ∷ cs) (k ∷ ls) l e =
    let t = last_line cs ls l (cc e) in
    let f : line_of c ≡ k = cc e in record { front = c ∷ t.front; last = t.last; is = ap (λ w. c ∷ w) t.is; lines = ap (λ w. w ∷ map line_of t.front) f ∙ ap (λ w. k ∷ w) t.lines; line = t.line }

own_first : (ns : List ℕ) (c : Call) → calls_of ns (doer ns c.deed) (c ∷ []) ≡ c ∷ []
own_first ns c = let t : (doer ns c.deed == doer ns c.deed) ≡ true = eq-eqb (doer ns c.deed) (doer ns c.deed) refl in ap (λ b. if b then c ∷ [] else []) t

other_first : (ns : List ℕ) (k : ℕ) (c : Call) → (doer ns c.deed ≡ k → ⊥) → calls_of ns k (c ∷ []) ≡ []
other_first ns k c ne = let t : (doer ns c.deed == k) ≡ false = ne_eqb (doer ns c.deed) k ne in ap (λ b. if b then c ∷ [] else []) t

pub own_more : (ns : List ℕ) (k : ℕ) (cs : List Call) (c : Call) → doer ns c.deed ≡ k → calls_of ns k (cs ++ c ∷ []) ≡ calls_of ns k cs ++ c ∷ []
own_more ns k cs c e = calls_append ns k cs (c ∷ []) ∙ ap (λ w. calls_of ns k cs ++ w) (subst (λ n. calls_of ns n (c ∷ []) ≡ c ∷ []) e (own_first ns c))

pub own_same : (ns : List ℕ) (k : ℕ) (cs : List Call) (c : Call) → (doer ns c.deed ≡ k → ⊥) → calls_of ns k (cs ++ c ∷ []) ≡ calls_of ns k cs
own_same ns k cs c ne = calls_append ns k cs (c ∷ []) ∙ (ap (λ w. calls_of ns k cs ++ w) (other_first ns k c ne) ∙ append_end (calls_of ns k cs))

jobs : List Call → List Job
jobs cs = map (λ c. job_of c.deed) cs

does_front : (s : Site) (js : List Job) (h : List Event) (ls : List ToldLine) (l : ToldLine) (cs : List Call) (d : Call) → map line_of cs ≡ ls → Does s js h (ls ++ l ∷ []) (cs ++ d ∷ []) → Does s js h ls cs
does_front s js h ls l cs d lines w = record {
  lines_are = lines;
  runs = (runs_front s.opening h cs d w.runs).0;
  own = λ k. let r = w.own k in (map (λ c. job_of c.deed) (calls_of s.opening.controllers k (d ∷ [])) ++ r.0, sym (append_assoc (map (λ c. job_of c.deed) (calls_of s.opening.controllers k cs)) (map (λ c. job_of c.deed) (calls_of s.opening.controllers k (d ∷ []))) r.0) ∙ (ap (λ w. w ++ r.0) (sym (map_append (λ c. job_of c.deed) (calls_of s.opening.controllers k cs) (calls_of s.opening.controllers k (d ∷ [])))) ∙ (ap (λ w. map (λ c. job_of c.deed) w ++ r.0) (sym (calls_append s.opening.controllers k cs (d ∷ []))) ∙ r.1)));
}

-- ---- what the next call of these lines would be

record Ahead (s : Site) (js : List Job) (h : List Event) (ls : List ToldLine) (l : ToldLine) (g : Stage) (calls others : List Call) : Type 0 where
  call : Call
  is : others ≡ calls ++ call ∷ []
  line : line_of call ≡ l
  is_next : IsNext s.opening (h ++ entries_of calls) call
  task : Task
  rest : List Task
  tasks : by (doer s.opening.controllers call.deed) (drop (at (doer s.opening.controllers call.deed) g) g.tasks) ≡ task ∷ rest
  is_task : IsTask s task (job_of call.deed)
  known : IsDeedOf s.opening.controllers call.deed

ahead : (s : Site) (js : List Job) (h : List Event) (ls : List ToldLine) (l : ToldLine) (g : Stage) (w : Comes s js h ls g.history g.tasks g.cursors) (others : List Call) → Each (IsKnown s.opening.controllers) js → Does s js h (ls ++ l ∷ []) others → Ahead s js h ls l g w.calls others
ahead s js h ls l g w others known does =
    let ns = s.opening.controllers in
    let t = last_line others ls l does.lines_are in
    let d = t.last in
    let k = doer ns d.deed in
    let whole : Does s js h (ls ++ l ∷ []) (t.front ++ d ∷ []) = subst (λ v. Does s js h (ls ++ l ∷ []) v) t.is does in
    let same : t.front ≡ w.calls = w.only t.front (does_front s js h ls l t.front d t.lines whole) in
    let mine : Does s js h (ls ++ l ∷ []) (w.calls ++ d ∷ []) = subst (λ v. Does s js h (ls ++ l ∷ []) (v ++ d ∷ [])) same whole in
    let own = mine.own k in
    let next : map (λ c. job_of c.deed) (calls_of ns k w.calls) ++ job_of d.deed ∷ own.0 ≡ jobs_by ns k js =
    sym (append_assoc (map (λ c. job_of c.deed) (calls_of ns k w.calls)) (job_of d.deed ∷ []) own.0)
    ∙ (ap (λ v. v ++ own.0) (sym (map_append (λ c. job_of c.deed) (calls_of ns k w.calls) (d ∷ []))) ∙ (ap (λ v. map (λ c. job_of c.deed) v ++ own.0) (sym (own_more ns k w.calls d refl)) ∙ own.1)) in
    let mine_tasks : AreTasks s (by k (take (at k g) g.tasks) ++ by k (drop (at k g) g.tasks)) (jobs_by ns k js) = subst (λ v. AreTasks s v (jobs_by ns k js)) (sym (by_split k (at k g) g.tasks)) (tasks_by s k g.tasks js w.tasks) in
    let n = next_job s (by k (take (at k g) g.tasks)) (by k (drop (at k g) g.tasks)) (calls_of ns k w.calls) (jobs_by ns k js) (job_of d.deed) own.0 mine_tasks (w.done k) next in
    record {
      call = d;
      is = t.is ∙ ap (λ v. v ++ d ∷ []) same;
      line = t.line;
      is_next = (runs_front s.opening h w.calls d mine.runs).1;
      task = n.0;
      rest = n.1;
      tasks = n.2;
      is_task = n.3;
      known = deed_known ns d.deed (each_behind (IsKnown ns) (map (λ c. job_of c.deed) (calls_of ns k w.calls)) (job_of d.deed) own.0 (subst (Each (IsKnown ns)) (sym next) (known_by (IsKnown ns) ns k js known)));
    }

-- ---- the line is so

first_same : {x y : Task} {xs ys : List Task} → x ∷ xs ≡ y ∷ ys → x ≡ y
first_same e = cc e

some_same : {x y : Job} → Some x ≡ Some y → x ≡ y
some_same e = cc e

moves_doer : (s : Site) (l : ToldLine) (g new : Stage) (m : Moves s l g new) → doer s.opening.controllers m.call.deed ≡ m.caller
moves_doer s l g new m = line_doer_is s.opening.controllers m.call l m.line ∙ caller_doer s.opening.controllers l.by m.caller m.caller_is

-- another call of the line is the same
same_ahead : (s : Site) (js : List Job) (h : List Event) (ls : List ToldLine) (l : ToldLine) (g new : Stage) (calls others : List Call) (m : Moves s l g new) (a : Ahead s js h ls l g calls others) → a.call ≡ m.call
same_ahead s js h ls l g new calls others m a =
    let ns = s.opening.controllers in
    let k : doer ns a.call.deed ≡ m.caller = line_doer_is ns a.call l a.line ∙ caller_doer ns l.by m.caller m.caller_is in
    let tasks : by m.caller (drop (at m.caller g) g.tasks) ≡ a.task ∷ a.rest = subst (λ n. by n (drop (at n g) g.tasks) ≡ a.task ∷ a.rest) k a.tasks in
    let task : m.task ≡ a.task = first_same (sym m.task_is.rest ∙ tasks) in
    let job : job_of a.call.deed ≡ job_of m.call.deed = some_same (sym a.is_task.job ∙ (ap (job_in s) (sym task) ∙ m.job)) in
    one_call a.call m.call job (a.line ∙ sym m.line)

moved_own : (s : Site) (js : List Job) (h : List Event) (ls : List ToldLine) (l : ToldLine) (g new : Stage) (w : Comes s js h ls g.history g.tasks g.cursors) (m : Moves s l g new) (k : ℕ)
    → (rest : List Job) × (map (λ c. job_of c.deed) (calls_of s.opening.controllers k (w.calls ++ m.call ∷ [])) ++ rest ≡ jobs_by s.opening.controllers k js)
moved_own s js h ls l g new w m k = by (ℕ_discrete m.caller k)
  where
    ns : List ℕ
    ns = s.opening.controllers

    is : doer ns m.call.deed ≡ m.caller
    is = moves_doer s l g new m

    split : by m.caller (take (at m.caller g) g.tasks) ++ m.task ∷ by m.caller (drop (suc m.place) g.tasks) ≡ by m.caller g.tasks
    split = ap (λ v. by m.caller (take (at m.caller g) g.tasks) ++ v) (sym m.task_is.rest) ∙ by_split m.caller (at m.caller g) g.tasks

    mine : (rest : List Job) × (map (λ c. job_of c.deed) (calls_of ns m.caller w.calls) ++ job_of m.call.deed ∷ rest ≡ jobs_by ns m.caller js)
    mine = job_of_next s (by m.caller (take (at m.caller g) g.tasks)) (by m.caller (drop (suc m.place) g.tasks)) m.task (calls_of ns m.caller w.calls) (jobs_by ns m.caller js) (job_of m.call.deed)
        (subst (λ v. AreTasks s v (jobs_by ns m.caller js)) (sym split) (tasks_by s m.caller g.tasks js w.tasks)) (w.done m.caller) m.job

    own : (rest : List Job) × (map (λ c. job_of c.deed) (calls_of ns m.caller (w.calls ++ m.call ∷ [])) ++ rest ≡ jobs_by ns m.caller js)
    own = (
      mine.0,
      ap (λ v. map (λ c. job_of c.deed) v ++ mine.0) (own_more ns m.caller w.calls m.call is)
          ∙ (ap (λ v. v ++ mine.0) (map_append (λ c. job_of c.deed) (calls_of ns m.caller w.calls) (m.call ∷ []))
          ∙ (append_assoc (map (λ c. job_of c.deed) (calls_of ns m.caller w.calls)) (job_of m.call.deed ∷ []) mine.0 ∙ mine.1)),
    )

    by : Dec (m.caller ≡ k) → (rest : List Job) × (map (λ c. job_of c.deed) (calls_of ns k (w.calls ++ m.call ∷ [])) ++ rest ≡ jobs_by ns k js)
    by (yes e) = subst (λ n. (rest : List Job) × (map (λ c. job_of c.deed) (calls_of ns n (w.calls ++ m.call ∷ [])) ++ rest ≡ jobs_by ns n js)) e own
    by (no ne) = let t = w.does.own k in (t.0, ap (λ v. map (λ c. job_of c.deed) v ++ t.0) (own_same ns k w.calls m.call (λ f. ne (sym is ∙ f))) ∙ t.1)

moved_done : (s : Site) (js : List Job) (h : List Event) (ls : List ToldLine) (l : ToldLine) (g new : Stage) (w : Comes s js h ls g.history g.tasks g.cursors) (m : Moves s l g new) (k : ℕ)
    → AreDoneBy s (by k (take (at k new) new.tasks)) (calls_of s.opening.controllers k (w.calls ++ m.call ∷ []))
moved_done s js h ls l g new w m k = by_caller (ℕ_discrete m.caller k)
  where
    ns : List ℕ
    ns = s.opening.controllers

    is : doer ns m.call.deed ≡ m.caller
    is = moves_doer s l g new m

    u : Task
    u = marked l.entry l.count m.task

    place : at m.caller new ≡ suc m.place
    place = ap (λ v. get_or v m.caller 0) m.cursors ∙ get_set g.cursors m.caller (suc m.place) 0 (omega (arith, w.long, m.within))

    fits : IsDoneBy s u m.call
    fits = record { job = m.job; doer_is = m.task_is.doer_is ∙ sym is; entry = ap (λ v. v.entry) (sym m.line); count = ap (λ v. v.count) (sym m.line) }

    front : by m.caller (take (at m.caller new) new.tasks) ≡ by m.caller (take (at m.caller g) g.tasks) ++ u ∷ []
    front = ap (λ n. by m.caller (take n new.tasks)) place
        ∙ (ap (λ v. by m.caller (take (suc m.place) v)) m.tasks
        ∙ (ap (by m.caller) (set_front g.tasks m.place m.task u m.task_is.stands)
        ∙ (filter-append (λ t. t.doer == m.caller) (take m.place g.tasks) (u ∷ [])
        ∙ (ap (λ v. v ++ by m.caller (u ∷ [])) m.task_is.front ∙ ap (λ v. by m.caller (take (at m.caller g) g.tasks) ++ v) (last_is u m.task_is.doer_is)))))
      where
        last_is : (t : Task) → t.doer ≡ m.caller → by m.caller (t ∷ []) ≡ t ∷ []
        last_is t e = let d : (t.doer == m.caller) ≡ true = eq-eqb t.doer m.caller e in ap (λ b. if b then t ∷ [] else []) d

    own : AreDoneBy s (by m.caller (take (at m.caller new) new.tasks)) (calls_of ns m.caller (w.calls ++ m.call ∷ []))
    own = subst (λ v. AreDoneBy s v (calls_of ns m.caller (w.calls ++ m.call ∷ []))) (sym front) (subst (λ v. AreDoneBy s (by m.caller (take (at m.caller g) g.tasks) ++ u ∷ []) v) (sym (own_more ns m.caller w.calls m.call is))
        (done_more s (by m.caller (take (at m.caller g) g.tasks)) (calls_of ns m.caller w.calls) u m.call (w.done m.caller) fits))

    others : (m.caller ≡ k → ⊥) → by k (take (at k new) new.tasks) ≡ by k (take (at k g) g.tasks)
    others ne = ap (λ n. by k (take n new.tasks)) (ap (λ v. get_or v k 0) m.cursors ∙ get_set_other g.cursors m.caller k (suc m.place) 0 ne)
        ∙ (ap (λ v. by k (take (at k g) v)) m.tasks ∙ set_others k (at k g) g.tasks m.place m.task u m.task_is.stands refl (λ f. ne (sym m.task_is.doer_is ∙ f)))

    by_caller : Dec (m.caller ≡ k) → AreDoneBy s (by k (take (at k new) new.tasks)) (calls_of ns k (w.calls ++ m.call ∷ []))
    by_caller (yes e) = subst (λ n. AreDoneBy s (by n (take (at n new) new.tasks)) (calls_of ns n (w.calls ++ m.call ∷ []))) e own
    by_caller (no ne) = subst (λ v. AreDoneBy s v (calls_of ns k (w.calls ++ m.call ∷ []))) (sym (others ne)) (subst (λ v. AreDoneBy s (by k (take (at k g) g.tasks)) v) (sym (own_same ns k w.calls m.call (λ f. ne (sym is ∙ f)))) (w.done k))

pub moved : (s : Site) (js : List Job) (h : List Event) (ls : List ToldLine) (l : ToldLine) (g new : Stage) → Each (IsKnown s.opening.controllers) js → Comes s js h ls g.history g.tasks g.cursors → Moves s l g new → Comes s js h (ls ++ l ∷ []) new.history new.tasks new.cursors
moved s js h ls l g new known w m = record {
  calls = w.calls ++ m.call ∷ [];
  does = record {
    lines_are = map_append line_of w.calls (m.call ∷ []) ∙ (ap (λ v. v ++ line_of m.call ∷ []) w.does.lines_are ∙ ap (λ v. ls ++ v ∷ []) m.line);
    runs = runs_more s.opening h w.calls m.call w.does.runs (subst (λ v. IsNext s.opening v m.call) w.history m.is_next);
    own = moved_own s js h ls l g new w m;
  };
  history = m.history ∙ (ap (λ v. v ++ entries_of (m.call ∷ [])) w.history ∙ (append_assoc h (entries_of w.calls) (entries_of (m.call ∷ [])) ∙ ap (λ v. h ++ v) (sym (entries_append w.calls (m.call ∷ [])))));
  long = ap length m.cursors ∙ (length_set g.cursors m.caller (suc m.place) ∙ w.long);
  tasks = subst (λ v. AreTasks s v js) (sym m.tasks) (set_tasks s g.tasks js m.place m.task l.entry l.count m.task_is.stands w.tasks);
  done = moved_done s js h ls l g new w m;
  only = λ others does. let a = ahead s js h ls l g w others known does in a.is ∙ ap (λ c. w.calls ++ c ∷ []) (same_ahead s js h ls l g new w.calls others m a);
}

-- ---- the line isn't

pub halted : (s : Site) (js : List Job) (h : List Event) (ls : List ToldLine) (l : ToldLine) (g new : Stage) (answer : Bool) → Each (IsKnown s.opening.controllers) js → Comes s js h ls g.history g.tasks g.cursors → Steps s l g new answer → (others : List Call) → Does s js h (ls ++ l ∷ []) others → answer ≡ true
halted s js h ls l g new answer known w steps others does =
    let a = ahead s js h ls l g w others known does in
    steps.back a.call a.task a.rest a.known a.line (subst (λ v. IsNext s.opening v a.call) (sym w.history) a.is_next) a.tasks a.is_task.job

-- calls of more lines begin with those of fewer
pub does_less : (s : Site) (js : List Job) (h : List Event) (xs ys : List ToldLine) (cs : List Call) → Does s js h (xs ++ ys) cs → (front : List Call) × Does s js h xs front
does_less s js h xs ys cs w = less (length ys) xs ys cs refl w
  where
    last_of : (y : ToldLine) (ys : List ToldLine) → (zs : List ToldLine) × (z : ToldLine) × (y ∷ ys ≡ zs ++ z ∷ []) × (length ys ≡ length zs)
    last_of y [] = ([], y, refl, refl)
    last_of y (x ∷ ys) = let t = last_of x ys in (y ∷ t.0, t.1, ap (λ w. y ∷ w) t.2, ap suc t.3)

    less : (n : ℕ) (xs ys : List ToldLine) (cs : List Call) → length ys ≡ n → Does s js h (xs ++ ys) cs → (front : List Call) × Does s js h xs front
    less n xs [] cs e w = (cs, subst (λ v. Does s js h v cs) (append_end xs) w)
    less zero xs (y ∷ ys) cs e w = absurd (omega (arith, e))
    less (suc n) xs (y ∷ ys) cs e w =
        let t = last_of y ys in
        let is : xs ++ y ∷ ys ≡ (xs ++ t.0) ++ t.1 ∷ [] = ap (λ v. xs ++ v) t.2 ∙ sym (append_assoc xs t.0 (t.1 ∷ [])) in
        let v : Does s js h ((xs ++ t.0) ++ t.1 ∷ []) cs = subst (λ u. Does s js h u cs) is w in
        let l = last_line cs (xs ++ t.0) t.1 v.lines_are in
        less n xs t.0 l.front (omega (arith, e, t.3)) (does_front s js h (xs ++ t.0) t.1 l.front l.last l.lines (subst (λ u. Does s js h ((xs ++ t.0) ++ t.1 ∷ []) u) l.is v))

-- ---- before the first line

no_calls : (cs : List Call) → map line_of cs ≡ [] → cs ≡ []
no_calls [] e = refl
no_calls (c ∷ cs) e = absurd (cc e)

zeros : (n k z : ℕ) → get_or (replicate n z) k z ≡ z
zeros zero k z = refl
zeros (suc n) zero z = refl
zeros (suc n) (suc k) z = zeros n k z

pub begun : (s : Site) (js : List Job) (h : List Event) (ts : List Task) (cursors : List ℕ) → cursors ≡ replicate 24 0 → AreTasks s ts js → Comes s js h [] h ts cursors
begun s js h ts cursors e a = record {
  calls = [];
  does = record { lines_are = refl; runs = tt; own = λ k. (jobs_by s.opening.controllers k js, refl) };
  history = sym (append_end h);
  long = ap length e;
  tasks = a;
  done = λ k. subst (λ n. AreDoneBy s (by k (take n ts)) []) (sym (ap (λ v. get_or v k 0) e ∙ zeros 24 k 0)) tt;
  only = λ others w. no_calls others w.lines_are;
}
