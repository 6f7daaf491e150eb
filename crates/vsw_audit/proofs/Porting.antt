-- A port's round is found so, or not.
use Rattle.std.proofs.Common.{◌≡◌, ◌≤◌, ◌+◌, ℕ, suc, Bool, true, false, true≢false, List, [], ◌∷◌, ◌++◌, length, take, drop, Some, slice_get, ap, sym, ◌∙◌, subst, arith, length-append}
use Rattle.vsw_commandfile.specs.declared.line.Line.{Line}
use Rattle.vsw_pcap.specs.declared.capture.Record.{Record}
use Rattle.vsw_policy.specs.Sound.{Each}
use Rattle.vsw_port.specs.declared.event.Event.{Event}
use Rattle.vsw_port.specs.Calls.{Call, Job}
use Rattle.vsw_promise.specs.Jobs.{Jobs}
use Rattle.vsw_promise.specs.Ports.{PortSeen}
use Rattle.vsw_promise.specs.Rounds.{opening_of}
use Rattle.vsw_report.specs.declared.round.PortRound.{PortRound}
use Rattle.vsw_report.specs.declared.told.ToldLine.{ToldLine}
use Rattle.vsw_check.specs.Report.{IsTold}
use Rattle.vsw_audit.specs.declared.task.Task.{Task}
use Rattle.vsw_audit.specs.Private.Lines.{Steps, stage}
use Rattle.vsw_audit.specs.Private.Rounds.{AreDone, Finds, PortReplays, is_settled, jobs_at}
use Rattle.vsw_audit.specs.Private.Runs.{Comes, Does, Follows}
use Rattle.vsw_audit.specs.Private.Tasks.{AreTasks, CanBeAsked, HasJobs, IsKnown, Site}
use Rattle.vsw_audit.proofs.Dealt.{are_many, jobs_known}
use Rattle.vsw_audit.proofs.Ending.{IsGone, ends_so, must_end, replay_does}
use Rattle.vsw_audit.proofs.Going.{does_less, halted, moved}
use Rattle.vsw_audit.proofs.Rounding.{finds_none}
use Rattle.std.proofs.lemmas.List.{take-append-drop}
use Rattle.vsw_audit.proofs.Tasks.{at_some, length_set, set_tasks}

-- ---- lines, one after the other

pub one_more : (s : Site) (js : List Job) (h : List Event) (ls more : List ToldLine) (l : ToldLine) (g new : List Event) (ts us : List Task) (cs ds : List ℕ) (answer : Bool) → Each (IsKnown s.opening.controllers) js → more ≡ ls ++ l ∷ [] → answer ≡ true → Comes s js h ls g ts cs → Steps s l (stage g ts cs) (stage new us ds) answer → Comes s js h more new us ds
one_more s js h ls more l g new ts us cs ds answer known e a w steps = subst (λ v. Comes s js h v new us ds) (sym e) (moved s js h ls l (stage g ts cs) (stage new us ds) known w (steps.yes a))

pub no_more : (s : Site) (js : List Job) (h : List Event) (all ls rest : List ToldLine) (l : ToldLine) (g new last : List Event) (ts us vs : List Task) (cs ds es : List ℕ) (answer : Bool) → Each (IsKnown s.opening.controllers) js → all ≡ (ls ++ l ∷ []) ++ rest → answer ≡ false → Comes s js h ls g ts cs → Steps s l (stage g ts cs) (stage new us ds) answer
    → Follows s js h all last vs es false
no_more s js h all ls rest l g new last ts us vs cs ds es answer known e a w steps = record { yes = λ t. absurd (true≢false (sym t)); back = λ calls does. absurd (by calls does) }
  where
    by : (calls : List Call) → Does s js h all calls → ⊥
    by calls does =
        let f = does_less s js h (ls ++ l ∷ []) rest calls (subst (λ v. Does s js h v calls) e does) in
        true≢false (sym (halted s js h ls l (stage g ts cs) (stage new us ds) answer known w steps f.0 f.1) ∙ a)

-- ---- a port's round

pub lines_wrong : (s : Site) (workers : ℕ) (p : PortSeen) (h last : List Event) (jobs : Jobs) (r : PortRound) (new : List Event) (ts : List Task) (cursors : List ℕ) (answer : Bool) → opening_of p ≡ s.opening → Follows s (jobs.first ++ jobs.later) h r.lines new ts cursors answer → answer ≡ false → Finds (PortReplays workers p h jobs r) last false
lines_wrong s workers p h last jobs r new ts cursors answer opening f wrong = finds_none (PortReplays workers p h jobs r) last (λ g w. true≢false (sym (f.back w.0.calls (replay_does s workers p h jobs r w.0 opening)) ∙ wrong))

pub gone : (s : Site) (workers split : ℕ) (p : PortSeen) (h : List Event) (jobs : Jobs) (r : PortRound) (new : List Event) (ts : List Task) (cursors : List ℕ) (answer : Bool) → opening_of p ≡ s.opening → r.port ≡ p.number → r.before ≡ length h → IsTold r → split ≡ length jobs.first → Each (IsKnown s.opening.controllers) (jobs.first ++ jobs.later)
    → Follows s (jobs.first ++ jobs.later) h r.lines new ts cursors answer → answer ≡ true → IsGone s workers split p h jobs r new ts cursors
gone s workers split p h jobs r new ts cursors answer opening port low told many known f right = record { opening = opening; port = port; low = low; told = told; split_is = many; known = known; comes = f.yes right }

pub after_wrong : (s : Site) (workers split : ℕ) (p : PortSeen) (h last : List Event) (jobs : Jobs) (r : PortRound) (new : List Event) (ts : List Task) (cursors : List ℕ) → IsGone s workers split p h jobs r new ts cursors → length s.opening.controllers ≤ 8 → (r.after ≡ length new → ⊥) → Finds (PortReplays workers p h jobs r) last false
after_wrong s workers split p h last jobs r new ts cursors i few ne = finds_none (PortReplays workers p h jobs r) last (λ g w. ne (must_end s workers split p h jobs r new ts cursors g i few w).after)

pub left_wrong : (s : Site) (workers split : ℕ) (p : PortSeen) (h last : List Event) (jobs : Jobs) (r : PortRound) (new : List Event) (ts : List Task) (cursors : List ℕ) (done : Bool) → IsGone s workers split p h jobs r new ts cursors → length s.opening.controllers ≤ 8 → AreDone ts cursors done → done ≡ false → Finds (PortReplays workers p h jobs r) last false
left_wrong s workers split p h last jobs r new ts cursors done i few d wrong = finds_none (PortReplays workers p h jobs r) last (λ g w. true≢false (sym (d.back (must_end s workers split p h jobs r new ts cursors g i few w).left) ∙ wrong))

pub found : (s : Site) (workers split : ℕ) (p : PortSeen) (h : List Event) (jobs : Jobs) (r : PortRound) (new : List Event) (ts : List Task) (cursors : List ℕ) (done answer : Bool) → IsGone s workers split p h jobs r new ts cursors → length s.opening.controllers ≤ 8 → r.after ≡ length new → AreDone ts cursors done → done ≡ true → answer ≡ is_settled workers split r.before r.after ts
    → Finds (PortReplays workers p h jobs r) new answer
found s workers split p h jobs r new ts cursors done answer i few high d right e = record {
  yes = λ a. ends_so s workers split p h jobs r new ts cursors i few high (d.yes right) (sym e ∙ a);
  back = λ g w. let m = must_end s workers split p h jobs r new ts cursors g i few w in (e ∙ m.settled, m.same);
}

-- ---- what is asked before

pub has_jobs : (s : Site) (commands : List Line) (workers : ℕ) (macs : List ℕ) (first port number split : ℕ) (packets : List (ℕ × Record)) (ts : List Task) → s.commands ≡ commands → 1 ≤ workers → workers ≤ 16 → Each (CanBeAsked s.opening.controllers) commands
    → AreTasks s ts ((jobs_at s.commands workers macs first port number packets).first ++ (jobs_at s.commands workers macs first port number packets).later) × (split ≡ length (jobs_at s.commands workers macs first port number packets).first) → HasJobs s ts × (split ≤ length ts)
has_jobs s commands workers macs first port number split packets ts same some few can w =
    let jobs = jobs_at s.commands workers macs first port number packets in
    let all : length ts ≡ length (jobs.first ++ jobs.later) = are_many s ts (jobs.first ++ jobs.later) w.0 in
    let sum : length (jobs.first ++ jobs.later) ≡ length jobs.first + length jobs.later = length-append jobs.first jobs.later in
    ((jobs.first ++ jobs.later, w.0, jobs_known s.opening.controllers s.commands workers macs first port number packets some few (subst (Each (CanBeAsked s.opening.controllers)) (sym same) can)), omega (arith, all, sum, w.1))

-- ---- the loop over lines

pub known_more : (s : Site) (l : ToldLine) (g new : List Event) (ts us : List Task) (cs ds : List ℕ) (answer : Bool) → HasJobs s ts → Steps s l (stage g ts cs) (stage new us ds) answer → answer ≡ true → HasJobs s us
known_more s l g new ts us cs ds answer has steps a =
    let m = steps.yes a in
    (has.0, subst (λ v. AreTasks s v has.0) (sym m.tasks) (set_tasks s ts has.0 m.place m.task l.entry l.count m.task_is.stands has.1), has.2)

pub long_more : (s : Site) (l : ToldLine) (g new : List Event) (ts us : List Task) (cs ds : List ℕ) (answer : Bool) → length cs ≡ 24 → Steps s l (stage g ts cs) (stage new us ds) answer → answer ≡ true → length ds ≡ 24
long_more s l g new ts us cs ds answer long steps a = let m = steps.yes a in ap length m.cursors ∙ (length_set cs m.caller (suc m.place) ∙ long)

-- what holds of all jobs that the tasks may be
abbrev pub ComesAll : Site → List Task → List Event → List ToldLine → List Event → List Task → List ℕ → Type 0
ComesAll s ts h ls g us cs = (js : List Job) → AreTasks s ts js → Each (IsKnown s.opening.controllers) js → Comes s js h ls g us cs

pub comes_more : (s : Site) (ts : List Task) (h : List Event) (all : List ToldLine) (i next : ℕ) (l : ToldLine) (g new : List Event) (us vs : List Task) (cs ds : List ℕ) (answer : Bool) → next ≡ suc i → slice_get all i ≡ Some l → answer ≡ true → Steps s l (stage g us cs) (stage new vs ds) answer → ComesAll s ts h (take i all) g us cs → ComesAll s ts h (take next all) new vs ds
comes_more s ts h all i next l g new us vs cs ds answer sum here a steps w js are known = one_more s js h (take i all) (take next all) l g new us vs cs ds answer known (ap (λ n. take n all) sum ∙ (at_some all i l here).front) a (w js are known) steps

pub follows_not : (s : Site) (ts : List Task) (h : List Event) (all : List ToldLine) (i : ℕ) (l : ToldLine) (g new last : List Event) (us vs ws : List Task) (cs ds es : List ℕ) (answer : Bool) → slice_get all i ≡ Some l → answer ≡ false → Steps s l (stage g us cs) (stage new vs ds) answer → ComesAll s ts h (take i all) g us cs
    → (js : List Job) → AreTasks s ts js → Each (IsKnown s.opening.controllers) js → Follows s js h all last ws es false
follows_not s ts h all i l g new last us vs ws cs ds es answer here a steps w js are known =
    no_more s js h all (take i all) (drop (suc i) all) l g new last us vs ws cs ds es answer known (sym (take-append-drop (suc i) all) ∙ ap (λ v. v ++ drop (suc i) all) (at_some all i l here).front) a (w js are known) steps

-- as many tasks as before
pub still_many : (s : Site) (ts us : List Task) (h : List Event) (ls : List ToldLine) (new : List Event) (cs : List ℕ) (answer : Bool) (split : ℕ) (has : HasJobs s ts) → split ≤ length ts → Follows s has.0 h ls new us cs answer → answer ≡ true → split ≤ length us
still_many s ts us h ls new cs answer split has le f a = let m = are_many s ts has.0 has.1 in let n = are_many s us has.0 (f.yes a).tasks in omega (arith, le, m, n)
