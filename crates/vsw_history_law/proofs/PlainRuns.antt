-- Runs without stateful rules and "during" commands: each packet's fate and bytes are those of one worker.
use Rattle.std.proofs.Common.{◌≡◌, ◌<◌, ℕ, zero, suc, ◌==◌, ◌&&◌, not, Bool, true, false, if◌then◌else◌, List, [], ◌∷◌, ◌++◌, length, map, filter, take, Some, slice_get, refl, ap, sym, ◌∙◌, subst, arith, eq-eqb}
use Rattle.std.specs.List.{flat_map}
use Rattle.std.specs.Prelude.{option_to_list}
use Rattle.vsw_base.specs.declared.fate.Fate.{Fate}
use Rattle.vsw_commandfile.specs.declared.line.Line.{Line}
use Rattle.vsw_policy.specs.Layer.{LayerSeen}
use Rattle.vsw_pcap.specs.declared.capture.Record.{Record}
use Rattle.vsw_policy.specs.Obey.{rules_given}
use Rattle.vsw_policy.specs.Sound.{Each}
use Rattle.vsw_config.specs.declared.file.PortFile.{PortFile}
use Rattle.vsw_promise.specs.Ports.{PortSeen, port_of, ports_of}
use Rattle.vsw_port.specs.declared.event.Event.{Event}
use Rattle.vsw_report.specs.declared.round.PortRound.{PortRound}
use Rattle.vsw_report.specs.declared.round.Round.{Round}
use Rattle.vsw_promise.specs.Alone.{deed_at, histories_from, rounds_alone, rounds_from}
use Rattle.vsw_port.specs.Calls.{Job, Carry, Ask, Deed, Carried, Asked, Call, job_of, doer, named, event_of, entries_of, entries_naming, calls_of, AreShares, Legal}
use Rattle.vsw_port.specs.History.{Opening, replay, AllRight}
use Rattle.vsw_promise.specs.Jobs.{Setting, Jobs, at_place, jobs_of, during_jobs, placed_packets, macs_of, packets_between}
use Rattle.vsw_history_law.specs.Law.{all_jobs, AreServed}
use Rattle.vsw_promise.specs.Rounds.{opening_of, IsPortRound, AreRoundsAt, AreChained, AreHistories, AreRounds, end_before}
use Rattle.vsw_report.specs.Short.{is_short_port, is_short_round, are_short}
use Rattle.vsw_port.proofs.Calls.{each_append, legal_of, shares_join}
use Rattle.vsw_port.proofs.Fronts.{prefix_self, append_end}
use Rattle.vsw_promise.proofs.PortRounds.{take_whole}
use Rattle.vsw_history_law.proofs.Reports.{round_jobs, each_filter, each_map, map_each, map_append, map_at, port_at, runs_legally}
use Rattle.vsw_history_law.proofs.Values.{AreCallers, any_none, jobs_stand, plenty}
use Rattle.vsw_promise.specs.Agree.{IsPlainRule, ArePlain, IsPlainSetting, with_workers, lines_at}
use Rattle.vsw_promise.specs.Forwarded.{packet_jobs}
use Rattle.vsw_promise.specs.Told.{fates_in, is_packet}
use Rattle.vsw_promise.proofs.Handed.{each_packet_at, packets_aimed}
use Rattle.vsw_history_law.specs.Plain.{IsPlainEvent, IsCarry, IsAsk, layers_by, what_became, fates_from}
use Rattle.vsw_report.specs.declared.told.ToldLine.{ToldLine}
use Rattle.vsw_promise.proofs.Exists.{always_rounds}
use Rattle.vsw_history_law.specs.AgreementLaw.{AgreesAlone, FatesOfRun}
use Rattle.vsw_history_law.proofs.Agrees.{picked, picked_append, round_tells}
use Rattle.vsw_history_law.proofs.Plenty.{alone_is_plenty}
use Rattle.vsw_history_law.proofs.PlainRounds.{IsPlainRound, plainly, flat_append, packets_became, all_became}

each_at : {A : Type 0} (P : A → Type 0) (xs : List A) (i : ℕ) (x : A) → slice_get xs i ≡ Some x → Each P xs → P x
each_at P [] i x g e = absurd (cc g)
each_at P (y ∷ xs) zero x g e = let same : y ≡ x = cc g in subst P same e.0
each_at P (y ∷ xs) (suc i) x g e = each_at P xs i x g e.1

some_same : (a b : ℕ) → Some a ≡ Some b → a ≡ b
some_same a b e = cc e

-- ---- jobs

each_of_lines : (P : Job → Type 0) (test : Line → Bool) (ls : List Line) → Each (λ l. P (Ask l)) ls → Each P (map Ask (filter test ls))
each_of_lines P test ls e = each_map P Ask (filter test ls) (each_filter (λ l. P (Ask l)) test ls e)

all_ask : (ls : List Line) → Each (λ l. IsAsk (Ask l)) ls
all_ask [] = tt
all_ask (l ∷ ls) = (tt, all_ask ls)

none_during : (first port : ℕ) (ls : List Line) → Each (λ l. l.during ≡ false) ls → during_jobs ls first port ≡ []
none_during first port [] e = refl
none_during first port (l ∷ ls) e = let t : ((l.at == first) && (l.port == port) && l.during) ≡ false = (rw e.0 (never ((l.at == first) && (l.port == port)))) in rw t (none_during first port ls e.1)
  where
    never : (b : Bool) → (b && false) ≡ false
    never true = refl
    never false = refl

later_carry : (s : Setting) (records : List Record) (told : List PortRound) (first next place number : ℕ) → IsPlainSetting s → Each IsCarry (jobs_of s records told first next place number).later
later_carry s records told first next place number plain =
    let packets = at_place place (placed_packets s.workers s.local (macs_of s.policy) told (packets_between records first next)) in
    subst (λ w. Each IsCarry (w ++ packets)) (sym (none_during first number s.commands plain.before)) (each_packet_at IsCarry s.workers s.local (macs_of s.policy) told place (packets_between records first next) (λ n moment frame to parts. tt))

first_ask : (s : Setting) (records : List Record) (told : List PortRound) (first next place number : ℕ) → Each IsAsk (jobs_of s records told first next place number).first
first_ask s records told first next place number = each_of_lines IsAsk (λ l. (l.at == first) && (l.port == number) && not l.during) s.commands (all_ask s.commands)

-- ---- entries

abbrev IsPlainJob : Job → Type 0
IsPlainJob (Carry x p) = Unit {0}
IsPlainJob (Ask l) = Each IsPlainRule (rules_given l.command)

round_plain : (s : Setting) (records : List Record) (told : List PortRound) (first next place number : ℕ) → IsPlainSetting s → Each IsPlainJob ((jobs_of s records told first next place number).first ++ (jobs_of s records told first next place number).later)
round_plain s records told first next place number plain =
    let jobs = jobs_of s records told first next place number in
    each_append IsPlainJob jobs.first jobs.later (each_of_lines IsPlainJob (λ l. (l.at == first) && (l.port == number) && not l.during) s.commands plain.rules)
    (each_append IsPlainJob (during_jobs s.commands first number) (at_place place (placed_packets s.workers s.local (macs_of s.policy) told (packets_between records first next)))
    (each_of_lines IsPlainJob (λ l. (l.at == first) && (l.port == number) && l.during) s.commands plain.rules)
    (each_packet_at IsPlainJob s.workers s.local (macs_of s.policy) told place (packets_between records first next) (λ n moment frame to parts. tt)))

all_plain : (s : Setting) (records : List Record) (cuts : List ℕ) (rounds : List Round) (place number : ℕ) → IsPlainSetting s → Each IsPlainJob (all_jobs s records cuts rounds place number)
all_plain s records [] rounds place number plain = tt
all_plain s records (cut ∷ cuts) [] place number plain = tt
all_plain s records (cut ∷ cuts) (r ∷ rounds) place number plain =
    let jobs = jobs_of s records r.ports cut (end_before cuts (length records)) place number in
    each_append IsPlainJob (jobs.first ++ jobs.later) (all_jobs s records cuts rounds place number) (round_plain s records r.ports cut (end_before cuts (length records)) place number plain) (all_plain s records cuts rounds place number plain)

plain_event : (d : Deed) → IsPlainJob (job_of d) → IsPlainEvent (event_of d)
plain_event (Carried x p fate bytes) k = tt
plain_event (Asked l reply) k = k

plain_entries : (cs : List Call) → Each (λ c. IsPlainJob (job_of c.deed)) cs → Each IsPlainEvent (entries_of cs)
plain_entries [] e = tt
plain_entries (c ∷ cs) e = by c.entry (plain_entries cs e.1)
  where
    by : (b : Bool) → Each IsPlainEvent (entries_of cs) → Each IsPlainEvent (map (λ c. event_of c.deed) (if b then c ∷ filter (λ c. c.entry) cs else filter (λ c. c.entry) cs))
    by true ih = (plain_event c.deed e.0, ih)
    by false ih = ih

-- what holds of the entries of each name holds of all
each_of_named : (P : Event → Type 0) (ns : List ℕ) (h : List Event) → ((n : ℕ) → Each P (entries_naming ns n h)) → Each P h
each_of_named P ns [] e = tt
each_of_named P ns (x ∷ h) e = (own (e (named ns x)), each_of_named P ns h (λ n. rest (named ns x == n) (entries_naming ns n h) (e n)))
  where
    rest : (b : Bool) (ds : List Event) → Each P (if b then x ∷ ds else ds) → Each P ds
    rest true ds p = p.1
    rest false ds p = p

    own : Each P (entries_naming ns (named ns x) (x ∷ h)) → P x
    own p = (subst (λ b. Each P (if b then x ∷ entries_naming ns (named ns x) h else entries_naming ns (named ns x) h)) (eq-eqb (named ns x) (named ns x) refl) p).0

legal_plain : (o : Opening) (h : List Event) (cs : List Call) (js : List Job) → Legal o h cs → map (λ c. job_of c.deed) cs ≡ js → Each IsPlainJob js → Each IsPlainEvent h
legal_plain o h cs js legal is plain =
    let jobs : Each (λ c. IsPlainJob (job_of c.deed)) cs = map_each IsPlainJob (λ c. job_of c.deed) cs (subst (Each IsPlainJob) (sym is) plain) in
    each_of_named IsPlainEvent o.controllers h (λ n. subst (Each IsPlainEvent) (sym (legal.entries n)) (plain_entries (calls_of o.controllers n cs) (each_filter (λ c. IsPlainJob (job_of c.deed)) (λ c. doer o.controllers c.deed == n) cs jobs)))

-- ---- what becomes of packets

flat_none : (cs : List Call) → Each (λ c. IsAsk (job_of c.deed)) cs → flat_map (λ c. what_became c.deed) cs ≡ []
flat_none [] e = refl
flat_none (c ∷ cs) e = ap (λ w. w ++ flat_map (λ c. what_became c.deed) cs) (none c.deed e.0) ∙ flat_none cs e.1
  where
    none : (d : Deed) → IsAsk (job_of d) → what_became d ≡ []
    none (Carried x p fate bytes) k = absurd k
    none (Asked l reply) k = refl

flat_deeds : (cs : List Call) → flat_map (λ c. what_became c.deed) cs ≡ flat_map what_became (map (λ c. c.deed) cs)
flat_deeds [] = refl
flat_deeds (c ∷ cs) = ap (λ w. what_became c.deed ++ w) (flat_deeds cs)

flat_jobs : (f : Job → Deed) (js : List Job) → flat_map what_became (map f js) ≡ flat_map (λ j. what_became (f j)) js
flat_jobs f [] = refl
flat_jobs f (j ∷ js) = ap (λ w. what_became (f j) ++ w) (flat_jobs f js)

-- the calls of a port over several rounds, what became of its packets, and what the lines tell of these
record Spanned (s : Setting) (records : List Record) (cuts : List ℕ) (rounds : List Round) (place : ℕ) (p : PortSeen) (h : List Event) (low high : ℕ) (ls : List LayerSeen) : Type 0 where
  calls : List Call
  shares : AreShares (opening_of p) (take low h) (take high h) calls
  jobs : map (λ c. job_of c.deed) calls ≡ all_jobs s records cuts rounds place p.number
  became : flat_map (λ c. what_became c.deed) calls ≡ fates_from p.controllers s records place p.number ls cuts rounds
  lines : (n : ℕ) → fates_in n (lines_at place rounds) ≡ picked n (flat_map (λ c. what_became c.deed) calls)

-- what is known of a port of a plain run
record Plainly (s : Setting) (p : PortSeen) (h : List Event) : Type 0 where
  setting : IsPlainSetting s
  served : AreServed s
  known : p.controllers ≡ s.policy.controllers
  right : AllRight (opening_of p) h
  layers : ArePlain p.layers
  events : Each IsPlainEvent h

shares_none : (o : Opening) (h : List Event) → AreShares o h h []
shares_none o h k = record { begins = prefix_self h; each = tt; in_order = omega arith; entries = sym (append_end (entries_naming o.controllers k h)) }

spans_none : (s : Setting) (records : List Record) (place : ℕ) (p : PortSeen) (h : List Event) (low high : ℕ) (ls : List LayerSeen) → low ≡ high → Spanned s records [] [] place p h low high ls
spans_none s records place p h low high ls e = subst (λ n. Spanned s records [] [] place p h low n ls) e (record { calls = []; shares = shares_none (opening_of p) (take low h); jobs = refl; became = refl; lines = λ n. refl })

plain_round : (s : Setting) (records : List Record) (told : List PortRound) (first next i : ℕ) (p : PortSeen) (h : List Event) (r : PortRound) → Plainly s p h → IsPortRound s.workers p h (jobs_of s records told first next i p.number) r → is_short_port r ≡ false → IsPlainRound s.workers p h (jobs_of s records told first next i p.number) r
plain_round s records told first next i p h r plain is short = record {
  is = is;
  right = plain.right;
  layers = plain.layers;
  events = plain.events;
  ask = first_ask s records told first next i p.number;
  carry = later_carry s records told first next i p.number plain.setting;
  long = plenty s.workers p h (jobs_of s records told first next i p.number) r is (subst (λ ns. AreCallers ns ((jobs_of s records told first next i p.number).first ++ (jobs_of s records told first next i p.number).later)) (sym plain.known) (jobs_stand s records told first next i p.number plain.served)) short;
}

round_became : (workers : ℕ) (p : PortSeen) (h : List Event) (jobs : Jobs) (r : PortRound) (ls : List LayerSeen) (i : IsPlainRound workers p h jobs r) → replay (opening_of p) (take r.after h) ≡ layers_by p.controllers ls jobs.first
    → flat_map (λ c. what_became c.deed) (i.is.first ++ i.is.later) ≡ flat_map (λ j. what_became (deed_at p.controllers (layers_by p.controllers ls jobs.first) j)) jobs.later
round_became workers p h jobs r ls i leaves =
    let ask : Each (λ c. IsAsk (job_of c.deed)) i.is.first = map_each IsAsk (λ c. job_of c.deed) i.is.first (subst (Each IsAsk) (sym i.is.first_jobs) i.ask) in
    flat_append (λ c. what_became c.deed) i.is.first i.is.later
    ∙ (ap (λ w. w ++ flat_map (λ c. what_became c.deed) i.is.later) (flat_none i.is.first ask)
    ∙ (flat_deeds i.is.later
    ∙ (ap (flat_map what_became) (plainly workers p h jobs r i).deeds
    ∙ (flat_jobs (deed_at p.controllers (replay (opening_of p) (take r.after h))) jobs.later
    ∙ ap (λ m. flat_map (λ j. what_became (deed_at p.controllers m j)) jobs.later) leaves))))

pub fates_append : (n : ℕ) (xs ys : List ToldLine) → fates_in n (xs ++ ys) ≡ fates_in n xs ++ fates_in n ys
fates_append n [] ys = refl
fates_append n (x ∷ xs) ys = by (is_packet n x) (fates_append n xs ys)
  where
    by : (b : Bool) → fates_in n (xs ++ ys) ≡ fates_in n xs ++ fates_in n ys → map (λ l. l.what) (if b then x ∷ filter (is_packet n) (xs ++ ys) else filter (is_packet n) (xs ++ ys)) ≡ map (λ l. l.what) (if b then x ∷ filter (is_packet n) xs else filter (is_packet n) xs) ++ fates_in n ys
    by true ih = ap (λ w. x.what ∷ w) ih
    by false ih = ih

-- the lines of a port over rounds are those of the first and of the others
lines_more : (n i : ℕ) (r : Round) (rs : List Round) (q : PortRound) → slice_get r.ports i ≡ Some q → fates_in n (lines_at i (r ∷ rs)) ≡ fates_in n q.lines ++ fates_in n (lines_at i rs)
lines_more n i r rs q e =
    ap (λ o. fates_in n (flat_map (λ p. p.lines) (option_to_list o) ++ lines_at i rs)) e
    ∙ (ap (λ w. fates_in n (w ++ lines_at i rs)) (append_end q.lines) ∙ fates_append n q.lines (lines_at i rs))

spans_plain : (s : Setting) (records : List Record) (hs : List (List Event)) (i : ℕ) (p : PortSeen) (h : List Event) → Plainly s p h → slice_get (ports_of s.policy) i ≡ Some p → slice_get hs i ≡ Some h
    → (cuts : List ℕ) (rounds : List Round) (counts last : List ℕ) (low high : ℕ) (ls : List LayerSeen) → AreRoundsAt s records hs cuts rounds → AreChained counts rounds last → slice_get counts i ≡ Some low → slice_get last i ≡ Some high
    → Each (λ r. is_short_round r ≡ false) rounds → replay (opening_of p) (take low h) ≡ ls → Spanned s records cuts rounds i p h low high ls
unfolding plain_round
spans_plain s records hs i p h plain e f [] [] counts last low high ls a c l m short begins = spans_none s records i p h low high ls (some_same low high (sym l ∙ (ap (λ w. slice_get w i) (sym c) ∙ m)))
spans_plain s records hs i p h plain e f (cut ∷ cuts) (r ∷ rs) counts last low high ls a c l m short begins =
    let next = end_before cuts (length records) in
    let jobs = jobs_of s records r.ports cut next i p.number in
    let here = port_at s records r.ports cut next 0 i (ports_of s.policy) hs r.ports p h a.0.ports e f in
    let round = here.0 in
    let is : IsPortRound s.workers p h jobs round = subst (λ n. IsPortRound s.workers p h (jobs_of s records r.ports cut next n p.number) round) (omega arith) here.2 in
    let one : IsPlainRound s.workers p h jobs round = plain_round s records r.ports cut next i p h round plain is (each_at (λ q. is_short_port q ≡ false) r.ports i round here.1 (any_none is_short_port r.ports short.0)) in
    let starts : round.before ≡ low = some_same round.before low (sym (map_at (λ q. q.before) r.ports i round here.1) ∙ (ap (λ w. slice_get w i) c.0 ∙ l)) in
    let leaves : replay (opening_of p) (take round.after h) ≡ layers_by p.controllers ls jobs.first = (plainly s.workers p h jobs round one).leaves ∙ ap (λ m. layers_by p.controllers m jobs.first) (ap (λ n. replay (opening_of p) (take n h)) starts ∙ begins) in
    let rest = spans_plain s records hs i p h plain e f cuts rs (map (λ q. q.after) r.ports) last round.after high (layers_by p.controllers ls jobs.first) a.1 c.1 (map_at (λ q. q.after) r.ports i round here.1) m short.1 leaves in record {
      calls = (is.first ++ is.later) ++ rest.calls;
      shares = shares_join (opening_of p) (take low h) (take round.after h) (take high h) (is.first ++ is.later) rest.calls (subst (λ n. AreShares (opening_of p) (take n h) (take round.after h) (is.first ++ is.later)) starts is.shares) rest.shares;
      jobs = map_append (λ c. job_of c.deed) (is.first ++ is.later) rest.calls ∙ (ap (λ w. w ++ map (λ c. job_of c.deed) rest.calls) (round_jobs s.workers p h jobs round is) ∙ ap (λ w. (jobs.first ++ jobs.later) ++ w) rest.jobs);
      became = flat_append (λ c. what_became c.deed) (is.first ++ is.later) rest.calls
          ∙ (ap (λ w. w ++ flat_map (λ c. what_became c.deed) rest.calls) (round_became s.workers p h jobs round ls one leaves)
          ∙ ap (λ w. flat_map (λ j. what_became (deed_at p.controllers (layers_by p.controllers ls jobs.first) j)) jobs.later ++ w) rest.became);
      lines = λ n. lines_more n i r rs round here.1 ∙ (ap (λ w. w ++ fates_in n (lines_at i rs)) (round_tells s records r.ports cut next i p h round n plain.served.least plain.served.most is)
          ∙ (ap (λ w. picked n (flat_map (λ c. what_became c.deed) (is.first ++ is.later)) ++ w) (rest.lines n)
          ∙ (sym (picked_append n (flat_map (λ c. what_became c.deed) (is.first ++ is.later)) (flat_map (λ c. what_became c.deed) rest.calls))
          ∙ ap (picked n) (sym (flat_append (λ c. what_became c.deed) (is.first ++ is.later) rest.calls)))));
    }
spans_plain s records hs i p h plain e f [] (r ∷ rs) counts last low high ls a c l m short begins = absurd a
spans_plain s records hs i p h plain e f (cut ∷ cuts) [] counts last low high ls a c l m short begins = absurd a

ports_know : (cs : List ℕ) (ps : List PortFile) (i : ℕ) (p : PortSeen) → slice_get (map (port_of cs) ps) i ≡ Some p → p.controllers ≡ cs
ports_know cs [] i p e = absurd (cc e)
ports_know cs (q ∷ ps) zero p e = let same : port_of cs q ≡ p = cc e in ap (λ w. w.controllers) (sym same)
ports_know cs (q ∷ ps) (suc i) p e = ports_know cs ps i p e

-- a port of a plain run over all rounds
spans_run : (s : Setting) (records : List Record) (cuts : List ℕ) (rounds : List Round) (run : AreRounds s records cuts rounds) → IsPlainSetting s → AreServed s → are_short rounds ≡ false
    → (place : ℕ) (p : PortSeen) (h : List Event) → slice_get (ports_of s.policy) place ≡ Some p → slice_get run.histories place ≡ Some h → Spanned s records cuts rounds place p h 0 (length h) p.layers
spans_run s records cuts rounds run plain served short i p h e f =
    let legal = runs_legally s records cuts rounds run i p h e f in
    let facts : Plainly s p h = record {
      setting = plain;
      served = served;
      known = ports_know s.policy.controllers s.policy.ports i p e;
      right = legal.legal.right;
      layers = each_at (λ p. ArePlain p.layers) (ports_of s.policy) i p e plain.layers;
      events = legal_plain (opening_of p) h legal.calls (all_jobs s records cuts rounds i p.number) legal.legal legal.jobs (all_plain s records cuts rounds i p.number plain);
    } in
    spans_plain s records run.histories i p h facts e f cuts rounds (map (λ p. 0) (ports_of s.policy)) (map length run.histories) 0 (length h) p.layers run.are run.chained (map_at (λ q. 0) (ports_of s.policy) i p e) (map_at length run.histories i h f) (any_none is_short_round rounds short) refl

-- what became of all packets of a run, at each port
pub fates_are : FatesOfRun
fates_are s records cuts rounds run plain served short i p h e f =
    let legal = runs_legally s records cuts rounds run i p h e f in
    let spans = spans_run s records cuts rounds run plain served short i p h e f in record {
      calls = spans.calls;
      legal = legal_of (opening_of p) h spans.calls legal.legal.right (subst (λ w. AreShares (opening_of p) [] w spans.calls) (take_whole h) spans.shares);
      jobs = spans.jobs;
      became = spans.became;
    }

-- ---- another number of workers

flat_asks : (cs : List ℕ) (ls : List LayerSeen) (lines : List Line) → flat_map (λ j. what_became (deed_at cs ls j)) (map Ask lines) ≡ []
flat_asks cs ls [] = refl
flat_asks cs ls (l ∷ lines) = flat_asks cs ls lines

-- a round for each cut
abbrev AsMany : List ℕ → List Round → Type 0
AsMany [] [] = Unit {0}
AsMany (cut ∷ cuts) (r ∷ rounds) = AsMany cuts rounds
AsMany _ _ = ⊥

as_many : (s : Setting) (records : List Record) (hs : List (List Event)) (cuts : List ℕ) (rounds : List Round) → AreRoundsAt s records hs cuts rounds → AsMany cuts rounds
as_many s records hs [] [] a = tt
as_many s records hs (cut ∷ cuts) (r ∷ rounds) a = as_many s records hs cuts rounds a.1
as_many s records hs [] (r ∷ rounds) a = absurd a
as_many s records hs (cut ∷ cuts) [] a = absurd a

many_alone : (s : Setting) (records : List Record) (hs : List (List Event)) (cuts : List ℕ) → AsMany cuts (rounds_from s records hs cuts)
many_alone s records hs [] = tt
many_alone s records hs (cut ∷ cuts) = many_alone s records (histories_from s records cut (end_before cuts (length records)) 0 (ports_of s.policy) hs) cuts

-- what becomes of the packets at a port doesn't hang on the number of workers, nor on what the rounds tell, where no packet is handed on
fates_same : (cs : List ℕ) (s : Setting) (n : ℕ) (records : List Record) (place number : ℕ) → s.local ≡ false → (ls : List LayerSeen) (cuts : List ℕ) (rounds others : List Round) → AsMany cuts rounds → AsMany cuts others → fates_from cs s records place number ls cuts rounds ≡ fates_from cs (with_workers n s) records place number ls cuts others
fates_same cs s n records place number apart ls [] [] [] a b = refl
fates_same cs s n records place number apart ls (cut ∷ cuts) (r ∷ rounds) (q ∷ others) a b =
    let ms = layers_by cs ls (jobs_of s records r.ports cut (end_before cuts (length records)) place number).first in
    let macs = macs_of s.policy in
    let packets = packets_between records cut (end_before cuts (length records)) in
    let during = during_jobs s.commands cut number in
    let became : List Job → List (ℕ × Fate × List ℕ) = λ js. flat_map (λ j. what_became (deed_at cs ms j)) js in
    let mine : at_place place (placed_packets s.workers s.local macs r.ports packets) ≡ packet_jobs s.workers macs place packets = packets_aimed s.workers s.local macs r.ports place packets apart in
    let theirs : at_place place (placed_packets n s.local macs q.ports packets) ≡ packet_jobs n macs place packets = packets_aimed n s.local macs q.ports place packets apart in
    let here : became (during ++ at_place place (placed_packets s.workers s.local macs r.ports packets)) ≡ became (during ++ at_place place (placed_packets n s.local macs q.ports packets)) =
    ap (λ w. became (during ++ w)) mine
    ∙ (all_became (deed_at cs ms) during (packet_jobs s.workers macs place packets)
    ∙ (ap (λ w. became during ++ w) (packets_became cs ms s.workers n place macs packets)
    ∙ (sym (all_became (deed_at cs ms) during (packet_jobs n macs place packets))
    ∙ ap (λ w. became (during ++ w)) (sym theirs)))) in
    ap (λ w. w ++ fates_from cs s records place number ms cuts rounds) here
    ∙ ap (λ w. became (during ++ at_place place (placed_packets n s.local macs q.ports packets)) ++ w) (fates_same cs s n records place number apart ms cuts rounds others a b)
fates_same cs s n records place number apart ls [] (r ∷ rounds) others a b = absurd a
fates_same cs s n records place number apart ls [] [] (q ∷ others) a b = absurd b
fates_same cs s n records place number apart ls (cut ∷ cuts) [] others a b = absurd a
fates_same cs s n records place number apart ls (cut ∷ cuts) (r ∷ rounds) [] a b = absurd b

-- ---- what reports tell

-- each port has a history
history_at : (ps : List PortSeen) (hs : List (List Event)) (i : ℕ) (p : PortSeen) → AreHistories ps hs → slice_get ps i ≡ Some p → (h : List Event) × (slice_get hs i ≡ Some h)
history_at [] hs i p a e = absurd (cc e)
history_at (q ∷ ps) (h ∷ hs) zero p a e = (h, refl)
history_at (q ∷ ps) (h ∷ hs) (suc i) p a e = history_at ps hs i p a.1 e
history_at (q ∷ ps) [] i p a e = absurd a

port_found : (ps : List PortSeen) (i : ℕ) → i < length ps → (p : PortSeen) × (slice_get ps i ≡ Some p)
port_found [] i lt = absurd (omega (arith, lt))
port_found (p ∷ ps) zero lt = (p, refl)
port_found (p ∷ ps) (suc i) lt = port_found ps i (omega (arith, lt))

-- the lines tell of packet n what becomes of it at the layers that commands leave
lines_tell : (s : Setting) (records : List Record) (cuts : List ℕ) (rounds : List Round) → AreRounds s records cuts rounds → IsPlainSetting s → AreServed s → are_short rounds ≡ false
    → (place n : ℕ) (p : PortSeen) → slice_get (ports_of s.policy) place ≡ Some p → fates_in n (lines_at place rounds) ≡ picked n (fates_from p.controllers s records place p.number p.layers cuts rounds)
lines_tell s records cuts rounds run plain served short place n p e =
    let found = history_at (ports_of s.policy) run.histories place p run.right e in
    let spans = spans_run s records cuts rounds run plain served short place p found.0 e found.1 in
    spans.lines n ∙ ap (picked n) spans.became

pub agrees_alone : AgreesAlone
agrees_alone s records cuts rounds apart plain served run short place n lt =
    let found = port_found (ports_of s.policy) place lt in
    let p = found.0 in
    let one : Setting = with_workers 1 s in
    let still : IsPlainSetting one = record { layers = plain.layers; rules = plain.rules; before = plain.before } in
    let alone : AreServed one = record { least = omega arith; most = omega arith; asked = served.asked } in
    lines_tell s records cuts rounds run plain served short place n p found.1
    ∙ (ap (picked n) (fates_same p.controllers s 1 records place p.number apart p.layers cuts rounds (rounds_alone one records cuts) (as_many s records run.histories cuts rounds run.are) (many_alone one records (map (λ p. []) (ports_of s.policy)) cuts))
    ∙ sym (lines_tell one records cuts (rounds_alone one records cuts) (always_rounds one records cuts apart) still alone (alone_is_plenty one records cuts) place n p found.1))
