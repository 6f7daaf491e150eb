-- The round that a crew's lines tell.
use Rattle.std.proofs.Common.{◌≡◌, ◌≢◌, ◌≤◌, ◌<◌, ℕ, zero, suc, ◌+◌, ◌-◌, ◌==◌, ◌||◌, not, Bool, true, false, if◌then◌else◌, List, [], ◌∷◌, ◌++◌, length, map, refl, ap, ap₂, sym, ◌∙◌, subst, arith, codes, decimal}
use Rattle.std.specs.List.{flat_map, list_any}
use mathlib.Core.List.{IsPrefix}
use Rattle.vsw_commandfile.specs.declared.line.Line.{Line}
use Rattle.vsw_pcap.specs.declared.capture.Record.{Record}
use Rattle.vsw_policy.specs.Sound.{Each, are_distinct, is_listed}
use Rattle.vsw_promise.specs.Ports.{PortSeen, ports_of}
use Rattle.vsw_report.specs.declared.round.PortRound.{PortRound}
use Rattle.vsw_report.specs.declared.round.Round.{Round}
use Rattle.vsw_report.specs.declared.told.ToldLine.{ToldLine}
use Rattle.vsw_report.specs.Print.{line_text, loose_text, port_line, port_text}
use Rattle.vsw_report.specs.Short.{is_short_port, tells_short}
use Rattle.vsw_port.specs.declared.event.Event.{Event}
use Rattle.vsw_port.specs.Calls.{AreShares, Ask, Asked, Call, Carried, Carry, Deed, Job, calls_of, controller_at, doer, job_doer, job_of, jobs_by}
use Rattle.vsw_port.specs.History.{AllRight, Opening}
use Rattle.vsw_port.specs.Order.{ascending, counted, numbered}
use Rattle.vsw_port.proofs.Calls.{calls_append, each_append, each_of_all, shares_join}
use Rattle.vsw_port.proofs.Fronts.{prefix_trans}
use Rattle.vsw_history_law.specs.Law.{AreServed}
use Rattle.vsw_history_law.proofs.Reports.{doer_job, map_append}
use Rattle.vsw_report.specs.Line.{TextLine, text_of}
use Rattle.vsw_report.specs.Order.{AllInCounts, in_order}
use Rattle.vsw_promise.specs.Jobs.{Placed, Setting, at_place, loose_among, macs_of, packets_between, placed_packets}
use Rattle.vsw_many.specs.Dealing.{deal, numbers_of, placed_lines}
use Rattle.vsw_promise.specs.Rounds.{AllBegin, AreHistories, opening_of}
use Rattle.vsw_promise.specs.Told.{line_of}
use Rattle.vsw_promise.proofs.Handed.{each_packet}
use Rattle.vsw_history_law.specs.MergingLaw.{IsKnown, texts_of}
use Rattle.vsw_history_law.proofs.MergedTexts.{counts_stand_beside, merge_tells_beside}
use Rattle.vsw_many.specs.Phases.{DoneBeside, IsPhase, Lane, calls_in, port_told}
use Rattle.vsw_many.specs.Actors.{AreRows}
use Rattle.vsw_many.specs.Rounds.{AreJournals, Many, PortTurn, RoundDone, calls_by_port, column, other_columns, ports_told}
use Rattle.vsw_many.proofs.Passes.{each_weaker, none_of}
use Rattle.vsw_many.proofs.Phases.{EachLane, phase_shares}
use Rattle.vsw_many.proofs.Dealing.{all_know, each_line, fit_of, place_within, worker_low}
use Rattle.vsw_many.proofs.Rounds.{HasJobs, column_of, done_beside, each_place, round_is_told}
use Rattle.vsw_many.specs.Turns.{PlacedTurns, placed_before}
use Rattle.vsw_many.specs.Crew.{AreCounted, AreTexts, CrewDid, crew_texts, is_short_crew, jobs_beside, lines_for, merged, ports_text}
use Rattle.vsw_many.specs.CrewLaw.{CrewIsTold}
use Rattle.vsw_many.proofs.Turns.{before_turns, column_phase, is_turn}
use Rattle.vsw_many.proofs.Splits.{parts, split_is_counted, split_is_merged, wholes}

-- ---- who does the jobs

-- a packet's job is one of so many workers', a command's that of a controller of the policy
abbrev IsKnownJob : ℕ → List ℕ → Job → Type 0
IsKnownJob workers ns (Carry x p) = x.caller < workers
IsKnownJob workers ns (Ask l) = is_listed ns l.controller ≡ true

known_deed : (workers : ℕ) (ns : List ℕ) (d : Deed) → IsKnownJob workers ns (job_of d) → IsKnown workers ns d
known_deed workers ns (Carried x p fate bytes) k = k
known_deed workers ns (Asked l reply) k = k

known_within : (workers : ℕ) (ns : List ℕ) (j : Job) → workers ≤ 16 → IsKnownJob workers ns j → job_doer ns j < 16 + length ns
known_within workers ns (Carry x p) few k = omega (arith, few, k)
known_within workers ns (Ask l) few k = omega (arith, place_within ns l.controller k)

-- a controller's, no worker's
abbrev IsControllers : List ℕ → Job → Type 0
IsControllers ns j = 16 ≤ job_doer ns j

known_before : (s : Setting) (first : ℕ) → AreServed s → Each (λ t. IsKnownJob s.workers s.policy.controllers t.1) (placed_before (numbers_of s.policy) s.commands first)
known_before s first served = each_line (λ t. IsKnownJob s.workers s.policy.controllers t.1) (λ l. not l.during) (numbers_of s.policy) first s.commands served.asked

controllers_before : (s : Setting) (first : ℕ) → Each (λ t. IsControllers s.policy.controllers t.1) (placed_before (numbers_of s.policy) s.commands first)
controllers_before s first = each_line (λ t. IsControllers s.policy.controllers t.1) (λ l. not l.during) (numbers_of s.policy) first s.commands (all s.commands)
  where
    all : (ls : List Line) → Each (λ l. 16 ≤ controller_at s.policy.controllers l.controller) ls
    all [] = tt
    all (l ∷ ls) = (omega arith, all ls)

known_beside : (s : Setting) (told : List PortRound) (first : ℕ) (packets : List Record) → AreServed s → Each (λ t. IsKnownJob s.workers s.policy.controllers t.1) (jobs_beside s told first packets)
known_beside s told first packets served =
    each_append P (placed_lines (numbers_of s.policy) s.commands first) (placed_packets s.workers s.local (macs_of s.policy) told (numbered first packets))
    (each_line P (λ l. l.during) (numbers_of s.policy) first s.commands served.asked)
    (each_packet P s.workers s.local (macs_of s.policy) told (numbered first packets) (λ n moment a. worker_low s.workers a.1 served.least) (λ n moment a h. worker_low s.workers a.1 served.least))
  where
    P : Placed → Type 0
    P t = IsKnownJob s.workers s.policy.controllers t.1

-- what holds of jobs holds of the calls that did them
each_call : (P : Job → Type 0) (calls : List Call) (jobs : List Job) → map (λ c. job_of c.deed) calls ≡ jobs → Each P jobs → Each (λ c. P (job_of c.deed)) calls
each_call P calls jobs e all = back calls (subst (Each P) (sym e) all)
  where
    back : (cs : List Call) → Each P (map (λ c. job_of c.deed) cs) → Each (λ c. P (job_of c.deed)) cs
    back [] a = tt
    back (c ∷ cs) a = (a.0, back cs a.1)

each_by : (P : Job → Type 0) (ns : List ℕ) (k : ℕ) (jobs : List Job) → Each P jobs → Each P (jobs_by ns k jobs)
each_by P ns k [] e = tt
each_by P ns k (j ∷ jobs) e = by (job_doer ns j == k) (each_by P ns k jobs e.1)
  where
    by : (b : Bool) → Each P (jobs_by ns k jobs) → Each P (if b then j ∷ jobs_by ns k jobs else jobs_by ns k jobs)
    by true ih = (e.0, ih)
    by false ih = ih

known_calls : (workers : ℕ) (ns : List ℕ) (calls : List Call) (jobs : List Job) → map (λ c. job_of c.deed) calls ≡ jobs → Each (IsKnownJob workers ns) jobs → Each (λ c. IsKnown workers ns c.deed) calls
known_calls workers ns calls jobs e all =
    each_weaker (λ c. IsKnownJob workers ns (job_of c.deed)) (λ c. IsKnown workers ns c.deed) calls (λ c k. known_deed workers ns c.deed k) (each_call (IsKnownJob workers ns) calls jobs e all)

-- of jobs that callers did beside each other, all calls are known
known_lanes : (o : Opening) (workers : ℕ) (lanes : List Lane) (jobs : List Job) → DoneBeside o lanes jobs → Each (IsKnownJob workers o.controllers) jobs → Each (λ c. IsKnown workers o.controllers c.deed) (calls_in lanes)
known_lanes o workers lanes jobs did all = each_of_all (λ c. IsKnown workers o.controllers c.deed) o.controllers (calls_in lanes) (λ k.
    known_calls workers o.controllers (calls_of o.controllers k (calls_in lanes)) (jobs_by o.controllers k jobs) (did k) (each_by (IsKnownJob workers o.controllers) o.controllers k jobs all))

-- controllers' jobs are no worker's calls
no_worker : (ns : List ℕ) (calls : List Call) (jobs : List Job) → map (λ c. job_of c.deed) calls ≡ jobs → Each (IsControllers ns) jobs → (k : ℕ) → k < 16 → calls_of ns k calls ≡ []
no_worker ns calls jobs e all k lt =
    none_of ns k calls (each_weaker (λ c. IsControllers ns (job_of c.deed)) (λ c. doer ns c.deed ≢ k) calls (λ c high f. omega (arith, high, lt, f, doer_job ns c.deed)) (each_call (IsControllers ns) calls jobs e all))

-- ---- the lines of a port

-- a controller's lines in two parts
abbrev pairs_of : List ℕ → List Call → List Call → List ℕ → List (List TextLine × List TextLine)
pairs_of ns first later ks = map (λ k. (lines_for (calls_of ns k first), lines_for (calls_of ns k later))) ks

abbrev workers_lines : List ℕ → List Call → List ℕ → List (List TextLine)
workers_lines ns calls ks = map (λ k. lines_for (calls_of ns k calls)) ks

two_parts : (ns : List ℕ) (first later : List Call) (ks : List ℕ) → flat_map (λ k. lines_for (calls_of ns k first) ∷ lines_for (calls_of ns k later) ∷ []) ks ≡ parts (pairs_of ns first later ks)
two_parts ns first later [] = refl
two_parts ns first later (k ∷ ks) = ap (λ w. lines_for (calls_of ns k first) ∷ lines_for (calls_of ns k later) ∷ w) (two_parts ns first later ks)

one_part : (ns : List ℕ) (first later : List Call) (ks : List ℕ) → workers_lines ns (first ++ later) ks ≡ wholes (pairs_of ns first later ks)
one_part ns first later [] = refl
one_part ns first later (k ∷ ks) =
    ap₂ (λ x y. x ∷ y) (ap lines_for (calls_append ns k first later) ∙ map_append (λ c. text_of (line_of c)) (calls_of ns k first) (calls_of ns k later)) (one_part ns first later ks)

-- workers had none of the first calls
workers_later : (ns : List ℕ) (first later : List Call) (low n : ℕ) → ((k : ℕ) → k < 16 → calls_of ns k first ≡ []) → low + n ≤ 16 → workers_lines ns (first ++ later) (counted low n) ≡ workers_lines ns later (counted low n)
workers_later ns first later low zero none le = refl
workers_later ns first later low (suc n) none le =
    ap₂ (λ x y. lines_for x ∷ y) (calls_append ns low first later ∙ ap (λ w. w ++ calls_of ns low later) (none low (omega (arith, le)))) (workers_later ns first later (suc low) n none (omega (arith, le)))

-- the lines as the crew has them, and as the report's law has them
record Arranged (o : Opening) (workers : ℕ) (first later : List Call) : Type 0 where
  controllers : List (List TextLine × List TextLine)
  split : crew_texts o.controllers workers first later ≡ workers_lines o.controllers later (counted 0 workers) ++ parts controllers
  whole : texts_of o workers (first ++ later) ≡ workers_lines o.controllers later (counted 0 workers) ++ wholes controllers

arranged : (o : Opening) (workers : ℕ) (first later : List Call) → workers ≤ 16 → ((k : ℕ) → k < 16 → calls_of o.controllers k first ≡ []) → Arranged o workers first later
arranged o workers first later few none =
    let ns = o.controllers in
    let ks = map (controller_at ns) (ascending ns) in record {
      controllers = pairs_of ns first later ks;
      split = ap (λ w. workers_lines ns later (counted 0 workers) ++ w) (two_parts ns first later ks);
      whole = map_append (λ k. lines_for (calls_of ns k (first ++ later))) (counted 0 workers) ks ∙ ap₂ (λ x y. x ++ y) (workers_later ns first later 0 workers none (omega (arith, few))) (one_part ns first later ks);
    }

-- what the lines of a port tell
record PortTold (p : PortSeen) (h g : List Event) (calls : List Call) (texts : List (List TextLine)) : Type 0 where
  right : AllRight (opening_of p) g
  begin : IsPrefix h g
  counted_so : AllInCounts (length h) texts (length g)
  lines : merged h g texts ≡ map text_of (port_told p h g calls).lines

port_tells : (workers : ℕ) (p : PortSeen) (h m g : List Event) (jobs : List Job) (c : List Call) (lanes : List Lane) (texts : List (List TextLine)) → workers ≤ 16 → PortTurn p h m jobs c → IsPhase (opening_of p) m g lanes
    → Each (IsControllers p.controllers) jobs → Each (IsKnownJob workers p.controllers) jobs → Each (λ c. IsKnown workers p.controllers c.deed) (calls_in lanes) → texts ≡ crew_texts p.controllers workers c (calls_in lanes) → PortTold p h g (c ++ calls_in lanes) texts
port_tells workers p h m g jobs c lanes texts few turn phase high known known_later is = record {
  right = phase.right;
  begin = prefix_trans h m g turn.phase.grows phase.grows;
  counted_so = subst (λ w. AllInCounts (length h) w (length g)) (sym (is ∙ a.split)) (split_is_counted front a.controllers (length h) (length g) (subst (λ w. AllInCounts (length h) w (length g)) a.whole (counts_stand_beside o h g workers (c ++ d) shares)));
  lines = ap (λ w. in_order w (length h) (length g - length h)) (is ∙ a.split)
      ∙ (split_is_merged front a.controllers (length h) (length g - length h)
      ∙ (ap (λ w. in_order w (length h) (length g - length h)) (sym a.whole)
      ∙ merge_tells_beside o h g workers (c ++ d) shares few (each_append (λ c. IsKnown workers p.controllers c.deed) c d (known_calls workers p.controllers c jobs turn.done.jobs_are known) known_later)));
}
  where
    o : Opening
    o = opening_of p

    d : List Call
    d = calls_in lanes

    shares : AreShares (opening_of p) h g (c ++ calls_in lanes)
    shares = shares_join (opening_of p) h m g c (calls_in lanes) (is_turn p h m jobs c turn).shares (phase_shares (opening_of p) m g lanes phase)

    a : Arranged (opening_of p) workers c (calls_in lanes)
    a = arranged (opening_of p) workers c (calls_in lanes) few (no_worker p.controllers c jobs turn.done.jobs_are high)

    front : List (List TextLine)
    front = workers_lines p.controllers (calls_in lanes) (counted 0 workers)

-- ---- the text

flat_texts : (ls : List ToldLine) → flat_map (λ l. l.text) (map text_of ls) ≡ flat_map line_text ls
flat_texts [] = refl
flat_texts (l ∷ ls) = ap (λ w. line_text l ++ w) (flat_texts ls)

any_short : (ls : List ToldLine) → list_any (λ l. l.short) (map text_of ls) ≡ list_any (λ l. tells_short l.what) ls
any_short ls = any_map text_of (λ (l : TextLine). l.short) ls
  where
    any_map : {A B : Type 0} (f : A → B) (t : B → Bool) (xs : List A) → list_any t (map f xs) ≡ list_any (λ x. t (f x)) xs
    any_map f t [] = refl
    any_map f t (x ∷ xs) = ap (λ b. t (f x) || b) (any_map f t xs)

port_says : (p : PortSeen) (h g : List Event) (calls : List Call) (texts : List (List TextLine)) → PortTold p h g calls texts → port_line p.number (length h) (length g) ++ flat_map (λ l. l.text) (merged h g texts) ≡ port_text (port_told p h g calls)
port_says p h g calls texts t = ap (λ w. port_line p.number (length h) (length g) ++ w) (ap (flat_map (λ l. l.text)) t.lines ∙ flat_texts (port_told p h g calls).lines)

port_short : (p : PortSeen) (h g : List Event) (calls : List Call) (texts : List (List TextLine)) → PortTold p h g calls texts → list_any (λ l. l.short) (merged h g texts) ≡ is_short_port (port_told p h g calls)
port_short p h g calls texts t = ap (list_any (λ l. l.short)) t.lines ∙ any_short (port_told p h g calls).lines

-- ---- all ports

record PortsTold (ps : List PortSeen) (hs gs : List (List Event)) (cs ds : List (List Call)) (ts : List (List (List TextLine))) : Type 0 where
  right : AreHistories ps gs
  begin : AllBegin hs gs
  before : map (λ r. r.before) (ports_told ps hs gs cs ds) ≡ map length hs
  after : map (λ r. r.after) (ports_told ps hs gs cs ds) ≡ map length gs
  counted_so : AreCounted hs gs ts
  text : ports_text ps hs gs ts ≡ flat_map port_text (ports_told ps hs gs cs ds)
  short : is_short_crew hs gs ts ≡ list_any is_short_port (ports_told ps hs gs cs ds)

-- who does a round's jobs, given to all ports
record AreDoers (workers : ℕ) (ns : List ℕ) (before beside : List Placed) : Type 0 where
  few : workers ≤ 16
  high : Each (λ t. IsControllers ns t.1) before
  known : Each (λ t. IsKnownJob workers ns t.1) before
  others : Each (λ t. IsKnownJob workers ns t.1) beside

-- the lines of one port, out of all callers' rows
column_tells : (workers i : ℕ) (ns : List ℕ) (before beside : List Placed) (p : PortSeen) (h m g : List Event) (ps : List PortSeen) (ms gs : List (List Event)) (c : List Call) (rows : List (List Lane)) (texts : List (List TextLine)) → p.controllers ≡ ns
    → AreDoers workers ns before beside → PortTurn p h m (at_place i before) c → length rows ≡ 16 + length ns → AreRows ns beside i 0 (p ∷ ps) (m ∷ ms) (g ∷ gs) rows → AreJournals (16 + length ns) (p ∷ ps) (m ∷ ms) (g ∷ gs)
    → texts ≡ crew_texts p.controllers workers c (calls_in (column rows)) → PortTold p h g (c ++ calls_in (column rows)) texts
column_tells workers i ns before beside p h m g ps ms gs c rows texts same d turn size a j is = port_tells workers p h m g (at_place i before) c (column rows) texts d.few turn phase
    (each_place (IsControllers p.controllers) i before (subst (λ w. Each (λ t. IsControllers w t.1) before) (sym same) d.high))
    (each_place (IsKnownJob workers p.controllers) i before (subst (λ w. Each (λ t. IsKnownJob workers w t.1) before) (sym same) d.known))
    (known_lanes (opening_of p) workers (column rows) (at_place i beside) did (each_place (IsKnownJob workers p.controllers) i beside (subst (λ w. Each (λ t. IsKnownJob workers w t.1) beside) (sym same) d.others)))
    is
  where
    phase : IsPhase (opening_of p) m g (column rows)
    phase = column_phase ns beside i (16 + length ns) p m g ps ms gs rows size (column_of ns beside i 0 p m g ps ms gs rows a) j.0 j.1 j.2

    within : Each (λ t. job_doer ns t.1 < length (column rows)) beside
    within = each_weaker (λ t. IsKnownJob workers ns t.1) (λ t. job_doer ns t.1 < length (column rows)) beside (λ t k. omega (arith, known_within workers ns t.1 d.few k, (column_of ns beside i 0 p m g ps ms gs rows a).size, size)) d.others

    did : DoneBeside (opening_of p) (column rows) (at_place i beside)
    did = done_beside (opening_of p) m g beside i (column rows) (at_place i beside) phase.lanes
        (subst (λ w. EachLane (HasJobs (λ k. at_place i (deal w k beside))) 0 (column rows)) (sym same) (column_of ns beside i 0 p m g ps ms gs rows a).did) refl
        (subst (λ w. Each (λ t. job_doer w t.1 < length (column rows)) beside) (sym same) within)

ports_tell : (workers i : ℕ) (ns : List ℕ) (before beside : List Placed) (ps : List PortSeen) (hs ms gs : List (List Event)) (cs : List (List Call)) (rows : List (List Lane)) (ts : List (List (List TextLine))) → Each (λ p. p.controllers ≡ ns) ps → AreDoers workers ns before beside
    → PlacedTurns i ps before hs ms cs → length rows ≡ 16 + length ns → AreRows ns beside i 0 ps ms gs rows → AreJournals (16 + length ns) ps ms gs → AreTexts workers ps cs (calls_by_port ps rows) ts → PortsTold ps hs gs cs (calls_by_port ps rows) ts
ports_tell workers i ns before beside [] [] [] [] [] rows [] same d f size a j t = record { right = tt; begin = tt; before = refl; after = refl; counted_so = tt; text = refl; short = refl }
ports_tell workers i ns before beside (p ∷ ps) (h ∷ hs) (m ∷ ms) (g ∷ gs) (c ∷ cs) rows (t ∷ ts) same d f size a j is =
    let l = column_of ns beside i 0 p m g ps ms gs rows a in
    let calls = c ++ calls_in (column rows) in
    let here : PortTold p h g calls t = column_tells workers i ns before beside p h m g ps ms gs c rows t same.0 d f.0 size a j is.0 in
    let rest : PortsTold ps hs gs cs (calls_by_port ps (other_columns rows)) ts = ports_tell workers (suc i) ns before beside ps hs ms gs cs (other_columns rows) ts same.1 d f.1 (l.others_size ∙ size) l.others j.3 is.1 in record {
      right = (here.right, rest.right);
      begin = (here.begin, rest.begin);
      before = ap (λ w. length h ∷ w) rest.before;
      after = ap (λ w. length g ∷ w) rest.after;
      counted_so = (here.counted_so, rest.counted_so);
      text = ap₂ (λ x y. x ++ y) (port_says p h g calls t here) rest.text;
      short = ap₂ (λ a b. a || b) (port_short p h g calls t here) rest.short;
    }
ports_tell workers i ns before beside [] (h ∷ hs) ms gs cs rows ts same d f size a j is = absurd f
ports_tell workers i ns before beside [] [] (m ∷ ms) gs cs rows ts same d f size a j is = absurd f
ports_tell workers i ns before beside [] [] [] (g ∷ gs) cs rows ts same d f size a j is = absurd j
ports_tell workers i ns before beside [] [] [] [] (c ∷ cs) rows ts same d f size a j is = absurd f
ports_tell workers i ns before beside [] [] [] [] [] rows (t ∷ ts) same d f size a j is = absurd is
ports_tell workers i ns before beside (p ∷ ps) [] ms gs cs rows ts same d f size a j is = absurd f
ports_tell workers i ns before beside (p ∷ ps) (h ∷ hs) [] gs cs rows ts same d f size a j is = absurd f
ports_tell workers i ns before beside (p ∷ ps) (h ∷ hs) (m ∷ ms) [] cs rows ts same d f size a j is = absurd j
ports_tell workers i ns before beside (p ∷ ps) (h ∷ hs) (m ∷ ms) (g ∷ gs) [] rows ts same d f size a j is = absurd f
ports_tell workers i ns before beside (p ∷ ps) (h ∷ hs) (m ∷ ms) (g ∷ gs) (c ∷ cs) rows [] same d f size a j is = absurd is

-- ---- the round

-- the round that is told
abbrev round_told : (s : Setting) (first : ℕ) (packets : List Record) (hs gs : List (List Event)) (texts : List (List (List TextLine))) → CrewDid s first packets hs gs texts → Round
round_told s first packets hs gs texts d = record { first = first; ports = d.told; loose = loose_among (macs_of s.policy) (numbered first packets) }

-- it was done in every trace that has its packets there
done_in : (s : Setting) (first : ℕ) (packets : List Record) (hs gs : List (List Event)) (texts : List (List (List TextLine))) (d : CrewDid s first packets hs gs texts) (records : List Record) (next : ℕ) → s.workers ≢ 1 → are_distinct (numbers_of s.policy) ≡ true
    → packets_between records first next ≡ numbered first packets → RoundDone s records first next hs gs (round_told s first packets hs gs texts d)
done_in s first packets hs gs texts d records next two apart e = record {
  middles = d.middles;
  firsts = d.firsts;
  firsts_done = before_turns s records d.told first next hs d.middles d.firsts apart d.firsts_done;
  laters = calls_by_port (ports_of s.policy) d.rows;
  laters_done = Many two d.rows d.size
      (subst (λ w. AreRows s.policy.controllers (placed_lines (numbers_of s.policy) s.commands first ++ placed_packets s.workers s.local (macs_of s.policy) d.told w) 0 0 (ports_of s.policy) d.middles gs d.rows) (sym e) d.rows_done) d.journals refl;
  first_is = refl;
  loose = ap (loose_among (macs_of s.policy)) (sym e);
  ports = d.told_is;
}

pub crew_is_told : CrewIsTold
crew_is_told s first packets hs gs texts served two apart d =
    let t = ports_tell s.workers 0 s.policy.controllers (placed_before (numbers_of s.policy) s.commands first) (jobs_beside s d.told first packets) (ports_of s.policy) hs d.middles gs d.firsts d.rows texts (all_know s.policy.controllers s.policy.ports)
    (record { few = served.most; high = controllers_before s first; known = known_before s first served; others = known_beside s d.told first packets served }) d.firsts_done d.size d.rows_done d.journals d.texts_are in record {
      round = round_told s first packets hs gs texts d;
      is_round = λ records next e. record {
        first_is = refl;
        loose = ap (loose_among (macs_of s.policy)) (sym e);
        ports = (round_is_told s records first next hs gs (round_told s first packets hs gs texts d) (fit_of s records d.told first next served apart) (done_in s first packets hs gs texts d records next two apart e)).are;
      };
      right = t.right;
      begin = t.begin;
      before = ap (map (λ r. r.before)) d.told_is ∙ t.before;
      after = ap (map (λ r. r.after)) d.told_is ∙ t.after;
      counts = t.counted_so;
      short_is = t.short ∙ ap (list_any is_short_port) (sym d.told_is);
      text = ap (λ w. codes "round " ++ decimal first ++ codes "\n" ++ w ++ codes "loose\n" ++ flat_map loose_text (loose_among (macs_of s.policy) (numbered first packets))) (t.text ∙ ap (flat_map port_text) (sym d.told_is));
    }
