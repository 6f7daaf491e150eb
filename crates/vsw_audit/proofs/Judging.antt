-- A line against what a port does next.
use Rattle.std.proofs.Common.{◌≡◌, ◌<◌, not, ℕ, suc, drop, OnOk, Bool, true, false, true≢false, if◌then◌else◌, List, [], ◌∷◌, ◌++◌, length, map, None, Some, Result, Ok, Err, IfOk, slice_get, option_and_then, refl, sym, ap, subst, ◌∙◌}
use Rattle.std.specs.List.{slice_set}
use Rattle.vsw_base.specs.declared.fault.BadFrame.{BadFrame}
use Rattle.vsw_promise.specs.Jobs.{crossing_by}
use Rattle.vsw_base.specs.declared.flow.Crossing.{Crossing}
use Rattle.vsw_base.specs.declared.packet.Dir.{Dir}
use Rattle.vsw_base.specs.Frame.{Parts, frame_of}
use Rattle.vsw_pcap.specs.declared.capture.Record.{Record}
use Rattle.vsw_port.specs.declared.event.Event.{Event}
use Rattle.vsw_port.specs.Calls.{Asked, Call, Carried, Carry, Deed, Job, ShowsAt, doer, entries_of, event_of, job_of}
use Rattle.vsw_port.specs.Core.{entered}
use Rattle.vsw_port.specs.History.{Opening, replay}
use Rattle.vsw_port.specs.Next.{IsDone, IsNext}
use Rattle.vsw_promise.specs.Told.{by_of, item_of, line_of, what_of}
use Rattle.vsw_report.specs.declared.told.ToldLine.{ToldLine}
use Rattle.vsw_audit.specs.declared.task.Task.{Task}
use Rattle.vsw_audit.specs.declared.task.Work.TheVariants.{Carries}
use Rattle.vsw_audit.specs.Order.{IsDeedOf}
use Rattle.vsw_audit.specs.Private.Lines.{Judges, JudgesLine, Moves, Stage, Steps, at}
use Rattle.vsw_audit.specs.Private.Tasks.{IsNextTask, Site, by, caller_in, carried_in, job_in, marked, work_in}
use Rattle.vsw_audit.proofs.Going.{caller_known}

pub not_true : (b : Bool) → not b ≡ true → b ≡ false
not_true true e = absurd (true≢false (sym e))
not_true false e = refl

pub if_ok : {A B : Type 0} (r : Result A B) (P Q : A → Type 0) → ((a : A) → P a → Q a) → IfOk r P → IfOk r Q
if_ok (Ok a) P Q f p = f a p
if_ok (Err e) P Q f p = tt

one_deed : (c d : Deed) → job_of c ≡ job_of d → what_of c ≡ what_of d → c ≡ d
one_deed (Carried x p fate bytes) (Carried y q other more) e w = cc (e, w)
one_deed (Asked l r) (Asked k q) e w = cc (e, w)
one_deed (Carried x p fate bytes) (Asked k q) e w = absurd (cc e)
one_deed (Asked l r) (Carried y q other more) e w = absurd (cc e)

entered_is : (c : Call) → entries_of (c ∷ []) ≡ entered c.entry (event_of c.deed)
entered_is c = by c.entry refl
  where
    by : (b : Bool) → c.entry ≡ b → map (λ d. event_of d.deed) (if b then c ∷ [] else []) ≡ entered b (event_of c.deed)
    by true e = refl
    by false e = refl

pub judged : (o : Opening) (h new : List Event) (l : ToldLine) (j : Job) (d : Deed) (answer : Bool) → job_of d ≡ j → by_of d ≡ l.by → item_of d ≡ l.item → what_of d ≡ l.what → l.count ≡ length h → Judges o h d l.entry new answer → JudgesLine o h j l new answer
judged o h new l j d answer job by item what count w = record { yes = λ a. yes (w.yes a); back = back }
  where
    call : Call
    call = record { deed = d; entry = l.entry; count = length h }

    yes : IsDone o h d l.entry × ShowsAt (replay o h) d × (new ≡ h ++ entered l.entry (event_of d)) → (c : Call) × (job_of c.deed ≡ j) × (line_of c ≡ l) × IsNext o h c × (new ≡ h ++ entries_of (c ∷ []))
    yes t = (call, job, λ i. record { by = by i; item = item i; entry = l.entry; count = sym count i; what = what i }, record { last = refl; done = t.0; shows = t.1 }, t.2 ∙ ap (λ v. h ++ v) (sym (entered_is call)))

    back : (c : Call) → job_of c.deed ≡ j → line_of c ≡ l → IsNext o h c → answer ≡ true
    back c e f n =
        let same : c.deed ≡ d = one_deed c.deed d (e ∙ sym job) (ap (λ v. v.what) f ∙ sym what) in
        w.back (subst (λ b. IsDone o h d b) (ap (λ v. v.entry) f) (subst (λ v. IsDone o h v c.entry) same n.done)) (subst (ShowsAt (replay o h)) same n.shows)

-- ---- a command

-- ---- a packet

-- the job of a packet's task
pub record IsCarried (port caller packet : ℕ) (dir : Dir) (r : Record) (x : Crossing) (p : Parts) : Type 0 where
  pub is : carried_in port caller packet dir r ≡ Some (Carry x p)
  pub caller_is : x.caller ≡ caller
  pub packet_is : x.packet ≡ packet

pub carried_job : (s : Site) (caller packet : ℕ) (dir : Dir) (r : Record) (j : Job) → work_in s caller (Carries packet dir) ≡ Some j → slice_get s.records packet ≡ Some r → (x : Crossing) × (p : Parts) × (j ≡ Carry x p) × IsCarried s.place caller packet dir r x p
carried_job s caller packet dir r j e at = by (frame_of r.bytes) refl (sym (ap (option_and_then (carried_in s.place caller packet dir)) at) ∙ e)
  where
    by : (f : Result Parts BadFrame) → frame_of r.bytes ≡ f → carried_in s.place caller packet dir r ≡ Some j → (x : Crossing) × (p : Parts) × (j ≡ Carry x p) × IsCarried s.place caller packet dir r x p
    by (Err fault) f g = absurd (cc (sym (ap (λ v. elim v [ Err fault ↦ None | Ok parts ↦ Some (Carry (crossing_by caller packet (record { port = s.place; dir = dir }) r.moment parts) parts) ]) f) ∙ g))
    by (Ok parts) f g =
        let x = crossing_by caller packet (record { port = s.place; dir = dir }) r.moment parts in
        let is : carried_in s.place caller packet dir r ≡ Some (Carry x parts) = ap (λ v. elim v [ Err fault ↦ None | Ok parts ↦ Some (Carry (crossing_by caller packet (record { port = s.place; dir = dir }) r.moment parts) parts) ]) f in
        (x, parts, same (sym g ∙ is), record { is = is; caller_is = refl; packet_is = refl })
      where
        same : {a b : Job} → Some a ≡ Some b → a ≡ b
        same e = cc e

pub on_ok : {A B : Type 0} (r : Result A B) (P Q : Type 0) → (P → Q) → OnOk r P → OnOk r Q
on_ok (Ok a) P Q f p = f p
on_ok (Err e) P Q f p = tt

-- ---- one line

some_same : {m n : ℕ} → Some m ≡ Some n → m ≡ n
some_same e = cc e

first_same : {x y : Task} {xs ys : List Task} → x ∷ xs ≡ y ∷ ys → x ≡ y
first_same e = cc e

-- the task of the call that a line would tell
same_task : (s : Site) (l : ToldLine) (g : Stage) (k place : ℕ) (t u : Task) (rest : List Task) (c : Call) → caller_in s.opening.controllers l.by ≡ Some k → IsNextTask k (at k g) place g.tasks t → IsDeedOf s.opening.controllers c.deed → line_of c ≡ l
    → by (doer s.opening.controllers c.deed) (drop (at (doer s.opening.controllers c.deed) g) g.tasks) ≡ u ∷ rest → u ≡ t
same_task s l g k place t u rest c is n known line tasks =
    let ns = s.opening.controllers in
    let who : doer ns c.deed ≡ k = some_same (sym (caller_known ns c.deed known) ∙ (ap (λ v. caller_in ns v.by) line ∙ is)) in
    first_same (sym (subst (λ m. by m (drop (at m g) g.tasks) ≡ u ∷ rest) who tasks) ∙ n.rest)

pub line_stops : (s : Site) (l : ToldLine) (g new : Stage) (k place : ℕ) (t : Task) (after : List Event) (answer : Bool) → caller_in s.opening.controllers l.by ≡ Some k → IsNextTask k (at k g) place g.tasks t → answer ≡ false → ((j : Job) → job_in s t ≡ Some j → JudgesLine s.opening g.history j l after answer) → Steps s l g new false
line_stops s l g new k place t after answer is n wrong judges = record { yes = λ a. absurd (true≢false (sym a)); back = λ c u rest known line next tasks job. absurd (stops c u rest known line next tasks job) }
  where
    stops : (c : Call) (u : Task) (rest : List Task) → IsDeedOf s.opening.controllers c.deed → line_of c ≡ l → IsNext s.opening g.history c
        → by (doer s.opening.controllers c.deed) (drop (at (doer s.opening.controllers c.deed) g) g.tasks) ≡ u ∷ rest → job_in s u ≡ Some (job_of c.deed) → ⊥
    stops c u rest known line next tasks job =
        let e = same_task s l g k place t u rest c is n known line tasks in
        true≢false (sym ((judges (job_of c.deed) (ap (job_in s) (sym e) ∙ job)).back c refl line next) ∙ wrong)

pub line_goes : (s : Site) (l : ToldLine) (g new : Stage) (k place : ℕ) (t : Task) (j : Job) (answer : Bool) → caller_in s.opening.controllers l.by ≡ Some k → k < 24 → IsNextTask k (at k g) place g.tasks t → answer ≡ true → job_in s t ≡ Some j → JudgesLine s.opening g.history j l new.history answer
    → new.tasks ≡ slice_set g.tasks place (marked l.entry l.count t) → new.cursors ≡ slice_set g.cursors k (suc place) → Steps s l g new true
line_goes s l g new k place t j answer is few n right job judges tasks cursors = record { yes = λ a. moves (judges.yes right); back = λ c u rest known line next tasks job. refl }
  where
    moves : (c : Call) × (job_of c.deed ≡ j) × (line_of c ≡ l) × IsNext s.opening g.history c × (new.history ≡ g.history ++ entries_of (c ∷ [])) → Moves s l g new
    moves w = record { caller = k; place = place; task = t; call = w.0; caller_is = is; within = few; task_is = n; job = job ∙ ap Some (sym w.1); line = w.2; is_next = w.3; history = w.4; tasks = tasks; cursors = cursors }
