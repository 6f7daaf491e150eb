-- The replies that a report tells to a controller are those of its own commands alone.
use Rattle.std.proofs.Common.{◌≡◌, ◌<◌, ◌≤◌, ◌==◌, ◌&&◌, not, ℕ, zero, suc, Bool, true, false, if◌then◌else◌, List, [], ◌∷◌, ◌++◌, length, map, filter, take, Some, slice_get, refl, ap, sym, ◌∙◌, subst, arith, eq-eqb}
use Rattle.std.specs.List.{flat_map}
use Rattle.std.specs.Prelude.{option_to_list}
use Rattle.std.proofs.lemmas.Nat.{mod_below}
use Rattle.vsw_base.specs.Frame.{Parts}
use Rattle.vsw_commandfile.specs.declared.line.Line.{Line}
use Rattle.vsw_header.specs.FlowSum.{flow_sum_of}
use Rattle.vsw_pcap.specs.declared.capture.Record.{Record}
use Rattle.vsw_policy.specs.declared.command.Command.{Command}
use Rattle.vsw_policy.specs.declared.refusal.Reply.{Reply}
use Rattle.vsw_policy.specs.Sound.{Each, AreInOrder, is_listed}
use Rattle.vsw_config.specs.declared.file.PortFile.{PortFile}
use Rattle.vsw_promise.specs.Ports.{PortSeen, port_of, ports_of, whole}
use Rattle.vsw_promise.proofs.Placing.{stand-in-order}
use Rattle.vsw_port.specs.declared.event.Event.{Event}
use Rattle.vsw_port.specs.declared.event.Event.TheVariants as event
use Rattle.vsw_port.specs.Calls.{Job, Carry, Ask, Deed, Carried, Asked, Call, job_of, jobs_by, doer, controller_at, calls_of, entries_naming, entries_of, event_of, Reads, Wants, IsCall, Entry, Read, Short}
use Rattle.vsw_port.specs.History.{Opening, replay}
use Rattle.vsw_port.specs.Order.{StandsOnce}
use Rattle.vsw_report.specs.declared.round.PortRound.{PortRound}
use Rattle.vsw_report.specs.declared.round.Round.{Round}
use Rattle.vsw_report.specs.declared.told.By.{By}
use Rattle.vsw_report.specs.declared.told.By.TheVariants.{Worker, Controller}
use Rattle.vsw_report.specs.declared.told.ToldLine.{ToldLine}
use Rattle.vsw_promise.specs.Agree.{lines_at}
use Rattle.vsw_promise.specs.Jobs.{Setting, at_place, jobs_of, placed_packets, before_jobs, during_jobs, worker_of, macs_of, packets_between}
use Rattle.vsw_promise.specs.Rounds.{opening_of, end_before, AreHistories}
use Rattle.vsw_promise.specs.Told.{callers, line_of, line_doer, what_of}
use Rattle.vsw_report.specs.Short.{tells_short, is_short_port, is_short_round}
use Rattle.vsw_port.proofs.Calls.{each_append}
use Rattle.vsw_promise.proofs.Handed.{each_packet_at}
use Rattle.vsw_history_law.specs.Law.{AreServed, RunsRepliesAlone, all_jobs, asked_by, answers_alone, is_told, lines_by, orders_of, replies_told, reply_by}
use Rattle.vsw_history_law.proofs.Callers.{controller_once, eqb_is, place_one}
use Rattle.vsw_history_law.proofs.Isolated.{replies_alone}
use Rattle.vsw_history_law.proofs.Reports.{each_filter, each_map, map_each, jobs_of_calls, runs_legally}
use Rattle.vsw_history_law.proofs.Values.{any_none}

-- ---- who may have a job

-- workers carry packets, and the policy's controllers ask
abbrev pub IsServed : List ℕ → Job → Type 0
IsServed ns (Carry x p) = x.caller < 16
IsServed ns (Ask l) = is_listed ns l.controller ≡ true

worker_low : (workers : ℕ) (p : Parts) → 0 < workers → workers ≤ 16 → worker_of workers p < 16
worker_low workers p least most = omega (arith, mod_below (flow_sum_of p.stack) workers least, most)

asked_served : (ns : List ℕ) (test : Line → Bool) (ls : List Line) → Each (λ l. is_listed ns l.controller ≡ true) ls → Each (IsServed ns) (map Ask (filter test ls))
asked_served ns test ls e = each_map (IsServed ns) Ask (filter test ls) (each_filter (λ l. is_listed ns l.controller ≡ true) test ls e)

pub jobs_served : (s : Setting) (records : List Record) (told : List PortRound) (first next place number : ℕ) → AreServed s → Each (IsServed s.policy.controllers) ((jobs_of s records told first next place number).first ++ (jobs_of s records told first next place number).later)
jobs_served s records told first next place number served =
    let ns = s.policy.controllers in
    let packets = at_place place (placed_packets s.workers s.local (macs_of s.policy) told (packets_between records first next)) in
    each_append (IsServed ns) (before_jobs s.commands first number) (during_jobs s.commands first number ++ packets) (asked_served ns (λ l. (l.at == first) && (l.port == number) && not l.during) s.commands served.asked)
    (each_append (IsServed ns) (during_jobs s.commands first number) packets (asked_served ns (λ l. (l.at == first) && (l.port == number) && l.during) s.commands served.asked)
    (each_packet_at (IsServed ns) s.workers s.local (macs_of s.policy) told place (packets_between records first next) (λ n moment frame to parts. worker_low s.workers frame served.least served.most)))

all_served : (s : Setting) (records : List Record) (cuts : List ℕ) (rounds : List Round) (place number : ℕ) → AreServed s → Each (IsServed s.policy.controllers) (all_jobs s records cuts rounds place number)
all_served s records [] rounds place number served = tt
all_served s records (cut ∷ cuts) [] place number served = tt
all_served s records (cut ∷ cuts) (r ∷ rounds) place number served =
    let jobs = jobs_of s records r.ports cut (end_before cuts (length records)) place number in
    each_append (IsServed s.policy.controllers) (jobs.first ++ jobs.later) (all_jobs s records cuts rounds place number) (jobs_served s records r.ports cut (end_before cuts (length records)) place number served) (all_served s records cuts rounds place number served)

-- ---- a controller's calls

-- a command of this controller
abbrev IsAskedBy : ℕ → Deed → Type 0
IsAskedBy c (Carried x p fate bytes) = ⊥
IsAskedBy c (Asked l reply) = l.controller ≡ c

own_deed : (ns : List ℕ) (c : ℕ) (d : Deed) → IsServed ns (job_of d) → doer ns d ≡ controller_at ns c → IsAskedBy c d
own_deed ns c (Carried x p fate bytes) s e = absurd (omega (arith, s, e))
own_deed ns c (Asked l reply) s e = place_one ns l.controller c s (omega (arith, e))

own_calls : (ns : List ℕ) (c : ℕ) (cs : List Call) → Each (λ x. IsServed ns (job_of x.deed)) cs → Each (λ x. IsAskedBy c x.deed) (calls_of ns (controller_at ns c) cs)
own_calls ns c [] e = tt
own_calls ns c (x ∷ cs) e = by (doer ns x.deed == controller_at ns c) refl (own_calls ns c cs e.1)
  where
    by : (b : Bool) → (doer ns x.deed == controller_at ns c) ≡ b → Each (λ x. IsAskedBy c x.deed) (calls_of ns (controller_at ns c) cs) → Each (λ x. IsAskedBy c x.deed) (if b then x ∷ calls_of ns (controller_at ns c) cs else calls_of ns (controller_at ns c) cs)
    by true t ih = (own_deed ns c x.deed e.0 (eqb_is (doer ns x.deed) (controller_at ns c) t), ih)
    by false t ih = ih

-- a command is an entry, unless memory was wanting
enters_by : (o : Opening) (h : List Event) (c : ℕ) (x : Call) (d : Deed) → x.deed ≡ d → IsAskedBy c d → tells_short (what_of x.deed) ≡ false → IsCall o h x → x.entry ≡ true
enters_by o h c x d e a n (Entry i) = i.marked
enters_by o h c x (Carried y p fate bytes) e a n i = absurd a
enters_by o h c x (Asked l reply) e a n (Read i) = absurd (subst (Reads (replay o (take x.count h))) e i.reads)
enters_by o h c x (Asked l reply) e a n (Short i) =
    let wants : Wants (replay o (take x.count h)) (Asked l reply) = subst (Wants (replay o (take x.count h))) e i.wants in
    let short : tells_short (what_of (Asked l reply)) ≡ true = rw wants refl in
    absurd (let t = ap (λ w. tells_short (what_of w)) e in cc (n, t, short))

all_enter : (o : Opening) (h : List Event) (c : ℕ) (cs : List Call) → Each (λ x. IsAskedBy c x.deed) cs → Each (λ x. tells_short (what_of x.deed) ≡ false) cs → Each (IsCall o h) cs → Each (λ x. x.entry ≡ true) cs
all_enter o h c [] a n i = tt
all_enter o h c (x ∷ cs) a n i = (enters_by o h c x x.deed refl a.0 n.0 i.0, all_enter o h c cs a.1 n.1 i.1)

-- ---- its entries

-- its commands in a history stand among the entries that name it
orders_named : (ns : List ℕ) (c : ℕ) (h : List Event) → orders_of c h ≡ orders_of c (entries_naming ns (controller_at ns c) h)
orders_named ns c [] = refl
orders_named ns c (event.Command controller line command reply ∷ es) = by (controller == c) refl (controller_at ns controller == controller_at ns c) refl (orders_named ns c es)
  where
    here : (controller == c) ≡ true → (controller_at ns controller == controller_at ns c) ≡ true
    here e = eq-eqb (controller_at ns controller) (controller_at ns c) (ap (controller_at ns) (eqb_is controller c e))

    by : (b : Bool) → (controller == c) ≡ b → (m : Bool) → (controller_at ns controller == controller_at ns c) ≡ m → orders_of c es ≡ orders_of c (entries_naming ns (controller_at ns c) es)
        → (if b then (command, reply) ∷ orders_of c es else orders_of c es) ≡ orders_of c (if m then event.Command controller line command reply ∷ entries_naming ns (controller_at ns c) es else entries_naming ns (controller_at ns c) es)
    by true e true f ih = rw e (ap (λ w. (command, reply) ∷ w) ih)
    by true e false f ih = absurd (let t = here e in cc (t, f))
    by false e true f ih = rw e ih
    by false e false f ih = ih
orders_named ns c (event.Crossing x fate ∷ es) = by (x.caller == controller_at ns c) (orders_named ns c es)
  where
    by : (m : Bool) → orders_of c es ≡ orders_of c (entries_naming ns (controller_at ns c) es) → orders_of c es ≡ orders_of c (if m then event.Crossing x fate ∷ entries_naming ns (controller_at ns c) es else entries_naming ns (controller_at ns c) es)
    by true ih = ih
    by false ih = ih

-- the commands and replies of its calls, as entries, as jobs and as lines
record Tells (c : ℕ) (cs : List Call) : Type 0 where
  replies : map (λ (t : Command × Reply). t.1) (orders_of c (entries_of cs)) ≡ replies_told c (map line_of cs)
  commands : map (λ (t : Command × Reply). t.0) (orders_of c (entries_of cs)) ≡ flat_map (asked_by c) (map (λ (x : Call). job_of x.deed) cs)

first_entry : (x : Call) (cs : List Call) → x.entry ≡ true → entries_of (x ∷ cs) ≡ event_of x.deed ∷ entries_of cs
first_entry x cs e = rw e refl

tells_more : (c : ℕ) (x : Call) (d : Deed) (cs : List Call) → x.deed ≡ d → IsAskedBy c d → x.entry ≡ true → Tells c cs → Tells c (x ∷ cs)
tells_more c x (Carried y p fate bytes) cs e a m t = absurd a
tells_more c x (Asked l reply) cs e a m t =
    let own : (l.controller == c) ≡ true = eq-eqb l.controller c a in
    let entry : entries_of (x ∷ cs) ≡ event.Command l.controller l.number l.command reply ∷ entries_of cs = first_entry x cs m ∙ ap (λ d. event_of d ∷ entries_of cs) e in
    let orders : orders_of c (entries_of (x ∷ cs)) ≡ (l.command, reply) ∷ orders_of c (entries_of cs) = ap (orders_of c) entry ∙ ap (λ b. if b then (l.command, reply) ∷ orders_of c (entries_of cs) else orders_of c (entries_of cs)) own in
    let line : reply_by c (line_of x) ≡ reply ∷ [] = ap (λ d. reply_by c (line_of (record { deed = d; entry = x.entry; count = x.count }))) e ∙ ap (λ b. if b then reply ∷ [] else []) own in
    let job : asked_by c (job_of x.deed) ≡ l.command ∷ [] = ap (λ d. asked_by c (job_of d)) e ∙ ap (λ b. if b then l.command ∷ [] else []) own in record {
      replies = ap (map (λ (t : Command × Reply). t.1)) orders ∙ (ap (λ w. reply ∷ w) t.replies ∙ ap (λ w. w ++ replies_told c (map line_of cs)) (sym line));
      commands = ap (map (λ (t : Command × Reply). t.0)) orders ∙ (ap (λ w. l.command ∷ w) t.commands ∙ ap (λ w. w ++ flat_map (asked_by c) (map (λ (x : Call). job_of x.deed) cs)) (sym job));
    }

tells_all : (c : ℕ) (cs : List Call) → Each (λ x. IsAskedBy c x.deed) cs → Each (λ x. x.entry ≡ true) cs → Tells c cs
tells_all c [] a m = record { replies = refl; commands = refl }
tells_all c (x ∷ cs) a m = tells_more c x x.deed cs refl a.0 m.0 (tells_all c cs a.1 m.1)

-- ---- its lines and jobs among all

told_doer : (ns : List ℕ) (c : ℕ) (b : By) (l : ToldLine) → l.by ≡ b → is_told c l.by ≡ true → (line_doer ns l == controller_at ns c) ≡ true
told_doer ns c (Worker n) l e t = absurd (let u = ap (is_told c) e in cc (t, u))
told_doer ns c (Controller n) l e t =
    let same : n ≡ c = eqb_is n c (sym (ap (is_told c) e) ∙ t) in
    eq-eqb (line_doer ns l) (controller_at ns c) (by l e ∙ ap (controller_at ns) same)
  where
    by : (l : ToldLine) → l.by ≡ Controller n → line_doer ns l ≡ controller_at ns n
    by l e = rw e refl

replies_own : (ns : List ℕ) (c : ℕ) (ls : List ToldLine) → replies_told c ls ≡ replies_told c (lines_by ns (controller_at ns c) ls)
replies_own ns c [] = refl
replies_own ns c (l ∷ ls) = by (is_told c l.by) refl (line_doer ns l == controller_at ns c) refl (replies_own ns c ls)
  where
    none : is_told c l.by ≡ false → reply_by c l ≡ []
    none e = rw e refl

    by : (b : Bool) → is_told c l.by ≡ b → (m : Bool) → (line_doer ns l == controller_at ns c) ≡ m → replies_told c ls ≡ replies_told c (lines_by ns (controller_at ns c) ls)
        → reply_by c l ++ replies_told c ls ≡ replies_told c (if m then l ∷ lines_by ns (controller_at ns c) ls else lines_by ns (controller_at ns c) ls)
    by b e true f ih = ap (λ w. reply_by c l ++ w) ih
    by true e false f ih = absurd (let t = told_doer ns c l.by l refl e in cc (t, f))
    by false e false f ih = ap (λ w. w ++ replies_told c ls) (none e) ∙ ih

asked_doer : (ns : List ℕ) (c : ℕ) (l : Line) → (l.controller == c) ≡ true → (controller_at ns l.controller == controller_at ns c) ≡ true
asked_doer ns c l e = eq-eqb (controller_at ns l.controller) (controller_at ns c) (ap (controller_at ns) (eqb_is l.controller c e))

asked_own : (ns : List ℕ) (c : ℕ) (js : List Job) → flat_map (asked_by c) js ≡ flat_map (asked_by c) (jobs_by ns (controller_at ns c) js)
asked_own ns c [] = refl
asked_own ns c (Carry x p ∷ js) = by (x.caller == controller_at ns c) (asked_own ns c js)
  where
    by : (m : Bool) → flat_map (asked_by c) js ≡ flat_map (asked_by c) (jobs_by ns (controller_at ns c) js) → flat_map (asked_by c) js ≡ flat_map (asked_by c) (if m then Carry x p ∷ jobs_by ns (controller_at ns c) js else jobs_by ns (controller_at ns c) js)
    by true ih = ih
    by false ih = ih
asked_own ns c (Ask l ∷ js) = by (l.controller == c) refl (controller_at ns l.controller == controller_at ns c) refl (asked_own ns c js)
  where
    by : (b : Bool) → (l.controller == c) ≡ b → (m : Bool) → (controller_at ns l.controller == controller_at ns c) ≡ m → flat_map (asked_by c) js ≡ flat_map (asked_by c) (jobs_by ns (controller_at ns c) js)
        → (if b then l.command ∷ [] else []) ++ flat_map (asked_by c) js ≡ flat_map (asked_by c) (if m then Ask l ∷ jobs_by ns (controller_at ns c) js else jobs_by ns (controller_at ns c) js)
    by true e true f ih = rw e (ap (λ w. l.command ∷ w) ih)
    by true e false f ih = absurd (let t = asked_doer ns c l e in cc (t, f))
    by false e true f ih = rw e ih
    by false e false f ih = ih

-- ---- no want of memory stands in its lines

each_at : {A : Type 0} (P : A → Type 0) (xs : List A) (i : ℕ) → Each P xs → Each P (option_to_list (slice_get xs i))
each_at P [] i e = tt
each_at P (x ∷ xs) zero e = (e.0, tt)
each_at P (x ∷ xs) (suc i) e = each_at P xs i e.1

ports_plenty : (ps : List PortRound) → Each (λ p. is_short_port p ≡ false) ps → Each (λ l. tells_short l.what ≡ false) (flat_map (λ p. p.lines) ps)
ports_plenty [] e = tt
ports_plenty (p ∷ ps) e = each_append (λ l. tells_short l.what ≡ false) p.lines (flat_map (λ p. p.lines) ps) (any_none (λ l. tells_short l.what) p.lines e.0) (ports_plenty ps e.1)

lines_plenty : (place : ℕ) (rounds : List Round) → Each (λ r. is_short_round r ≡ false) rounds → Each (λ l. tells_short l.what ≡ false) (lines_at place rounds)
lines_plenty place [] e = tt
lines_plenty place (r ∷ rs) e = each_append (λ l. tells_short l.what ≡ false) (flat_map (λ p. p.lines) (option_to_list (slice_get r.ports place))) (lines_at place rs)
    (ports_plenty (option_to_list (slice_get r.ports place)) (each_at (λ p. is_short_port p ≡ false) r.ports place (any_none is_short_port r.ports e.0))) (lines_plenty place rs e.1)

-- ---- a run

history_at : (ps : List PortSeen) (hs : List (List Event)) (i : ℕ) (p : PortSeen) → AreHistories ps hs → slice_get ps i ≡ Some p → (h : List Event) × (slice_get hs i ≡ Some h)
history_at [] hs i p a e = absurd (cc e)
history_at (q ∷ ps) (h ∷ hs) zero p a e = (h, refl)
history_at (q ∷ ps) (h ∷ hs) (suc i) p a e = history_at ps hs i p a.1 e
history_at (q ∷ ps) [] i p a e = absurd a

ports_know : (cs : List ℕ) (ps : List PortFile) (i : ℕ) (p : PortSeen) → slice_get (map (port_of cs) ps) i ≡ Some p → (p.controllers ≡ cs) × AreInOrder p.controllers p.layers
ports_know cs [] i p e = absurd (cc e)
ports_know cs (q ∷ ps) zero p e = let same : port_of cs q ≡ p = cc e in subst (λ w. (w.controllers ≡ cs) × AreInOrder w.controllers w.layers) same (refl, (stand-in-order cs (map whole q.layers)).0)
ports_know cs (q ∷ ps) (suc i) p e = ports_know cs ps i p e

pub runs_replies_alone : RunsRepliesAlone
runs_replies_alone s records cuts rounds served run short place p c e listed =
    let found = history_at (ports_of s.policy) run.histories place p run.right e in
    let h = found.0 in
    let legal = runs_legally s records cuts rounds run place p h e found.1 in
    let know = ports_know s.policy.controllers s.policy.ports place p e in
    let ns = p.controllers in
    let k = controller_at ns c in
    let own = calls_of ns k legal.calls in
    let once : StandsOnce k (callers ns) = controller_once ns c listed in
    let lines = legal.lines k once in
    let jobs_are : Each (IsServed ns) (all_jobs s records cuts rounds place p.number) = subst (λ w. Each (IsServed w) (all_jobs s records cuts rounds place p.number)) (sym know.0) (all_served s records cuts rounds place p.number served) in
    let asked : Each (λ x. IsAskedBy c x.deed) own = own_calls ns c legal.calls (map_each (IsServed ns) (λ x. job_of x.deed) legal.calls (subst (Each (IsServed ns)) (sym legal.jobs) jobs_are)) in
    let plenty : Each (λ x. tells_short (what_of x.deed) ≡ false) own = map_each (λ l. tells_short l.what ≡ false) line_of own (subst (Each (λ l. tells_short l.what ≡ false)) lines (each_filter (λ l. tells_short l.what ≡ false) (λ l. line_doer ns l == k) (lines_at place rounds) (lines_plenty place rounds (any_none is_short_round rounds short)))) in
    let enter : Each (λ x. x.entry ≡ true) own = all_enter (opening_of p) h c own asked plenty (each_filter (IsCall (opening_of p) h) (λ x. doer ns x.deed == k) legal.calls legal.legal.each) in
    let tells = tells_all c own asked enter in
    let orders : orders_of c h ≡ orders_of c (entries_of own) = orders_named ns c h ∙ ap (orders_of c) (legal.legal.entries k) in
    let alone = replies_alone (opening_of p) h c know.1 legal.legal.right in
    replies_own ns c (lines_at place rounds)
    ∙ (ap (replies_told c) lines
    ∙ (sym tells.replies
    ∙ (ap (map (λ (t : Command × Reply). t.1)) (sym orders)
    ∙ (alone
    ∙ (ap (λ w. answers_alone ns p.layers c (map (λ (t : Command × Reply). t.0) w)) orders
    ∙ (ap (answers_alone ns p.layers c) tells.commands
    ∙ ap (answers_alone ns p.layers c) (ap (flat_map (asked_by c)) (jobs_of_calls ns k legal.calls ∙ ap (jobs_by ns k) legal.jobs) ∙ sym (asked_own ns c (all_jobs s records cuts rounds place p.number)))))))))
