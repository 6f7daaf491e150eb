-- The rounds of a run are proper.
use Rattle.std.proofs.Common.{◌≡◌, ◌≤◌, ◌<◌, ◌+◌, ◌*◌, ◌/◌, ◌^◌, ◌==◌, ◌&&◌, not, ℕ, zero, suc, Bool, true, false, if◌then◌else◌, List, [], ◌∷◌, ◌++◌, length, map, filter, Some, Result, Ok, Err, nat_lt, refl, sym, subst, arith, eq-eqb}
use Rattle.std.specs.List.{slice_get}
use Rattle.vsw_base.specs.declared.flow.Place.{Place}
use Rattle.vsw_base.specs.Frame.{Parts}
use Rattle.vsw_commandfile.specs.declared.line.Line.{Line}
use Rattle.vsw_config.specs.declared.file.LayerFile.{LayerFile}
use Rattle.vsw_config.specs.declared.file.PortFile.{PortFile}
use Rattle.vsw_history_law.proofs.Reports.{each_filter, each_map, map_each, runs_legally}
use Rattle.vsw_history_law.specs.Law.{all_jobs}
use Rattle.vsw_history_law.specs.Short.{AreCuts}
use Rattle.vsw_pcap.specs.declared.capture.Record.{Record}
use Rattle.vsw_policy.specs.Sound.{Each}
use Rattle.vsw_port.proofs.Calls.{each_append}
use Rattle.vsw_port.proofs.Next.{each_of}
use Rattle.vsw_port.specs.Calls.{Ask, Asked, Call, Carried, Carry, Deed, Job, calls_of, entries_naming, entries_of, event_of, job_of, named}
use Rattle.vsw_port.specs.Core.{AreAtMost}
use Rattle.vsw_port.specs.Order.{ascending, counted, put_in}
use Rattle.vsw_port.specs.declared.event.Event.{Event}
use Rattle.vsw_promise.proofs.Handed.{each_packet_at}
use Rattle.vsw_promise.proofs.Placing.{each-in_order}
use Rattle.vsw_promise.specs.Jobs.{Setting, aim_of, at_place, cuts, during_jobs, jobs_of, loose_after, loose_among, macs_of, multiples_below, packets_between, placed_packets}
use Rattle.vsw_promise.specs.Ports.{PortSeen, port_of, ports_of, whole}
use Rattle.vsw_promise.specs.Rounds.{AreHistories, ArePortRounds, AreRounds, AreRoundsAt, end_before, opening_of}
use Rattle.vsw_report.specs.Proper.{AreProper, AreProperLines, AreProperLoose, AreProperPorts, IsProperLine}
use Rattle.vsw_report.specs.declared.round.LooseCause.{LooseCause}
use Rattle.vsw_report.specs.declared.round.PortRound.{PortRound}
use Rattle.vsw_report.specs.declared.round.Round.{Round}
use Rattle.vsw_report.specs.declared.told.ToldLine.{ToldLine}
use Rattle.vsw_report_law.proofs.Causes.{FitsEvent}
use Rattle.vsw_report_law.proofs.Fates.{FitsHistory, FitsJob, call_proper}
use Rattle.vsw_report_law.proofs.Few.{either_cuts, histories_few}
use Rattle.vsw_report_law.proofs.Jobs.{AllTold, IsPacket, ToldAt, asks_fit, jobs_fit, lines_fit, lines_own, packets_known}
use Rattle.vsw_report_law.proofs.Layers.{FitsSeen}
use Rattle.vsw_report_law.specs.Fits.{FitsLayer, FitsLine, FitsPort}
use Rattle.vsw_report_law.specs.Given.{AreGiven}
use Rattle.vsw_report_law.specs.Law.{RoundsAreProper}

-- ---- the entries of a history

-- a command gives small numbers
abbrev FitsAsk : Job → Type 0
FitsAsk (Carry x p) = Unit {0}
FitsAsk (Ask l) = FitsLine l × (l.controller < 2 ^ 16)

weaker : (j : Job) → FitsJob j → FitsAsk j
weaker (Carry x p) f = tt
weaker (Ask l) f = f

each_as : {A : Type 0} (P Q : A → Type 0) → ((x : A) → P x → Q x) → (xs : List A) → Each P xs → Each Q xs
each_as P Q f [] h = tt
each_as P Q f (x ∷ xs) h = (f x h.0, each_as P Q f xs h.1)

asks_here : (s : Setting) (records : List Record) (told : List PortRound) (first next place number : ℕ) → AreGiven s records → Each FitsAsk ((jobs_of s records told first next place number).first ++ (jobs_of s records told first next place number).later)
asks_here s records told first next place number given =
    let jobs = jobs_of s records told first next place number in
    let ask : (p : Line → Bool) → Each FitsAsk (map Ask (filter p s.commands)) = (λ p. each_as FitsJob FitsAsk weaker (map Ask (filter p s.commands)) (asks_fit s records p given)) in
    each_append FitsAsk jobs.first jobs.later (ask (λ l. (l.at == first) && (l.port == number) && not l.during))
    (each_append FitsAsk (during_jobs s.commands first number) (at_place place (placed_packets s.workers s.local (macs_of s.policy) told (packets_between records first next)))
    (ask (λ l. (l.at == first) && (l.port == number) && l.during))
    (each_packet_at FitsAsk s.workers s.local (macs_of s.policy) told place (packets_between records first next) (λ n moment frame to parts. tt)))

all_asks : (s : Setting) (records : List Record) (place number : ℕ) → AreGiven s records → (cs : List ℕ) (rounds : List Round) → Each FitsAsk (all_jobs s records cs rounds place number)
all_asks s records place number given [] rounds = tt
all_asks s records place number given (cut ∷ cs) [] = tt
all_asks s records place number given (cut ∷ cs) (r ∷ rounds) =
    let jobs = jobs_of s records r.ports cut (end_before cs (length records)) place number in
    each_append FitsAsk (jobs.first ++ jobs.later) (all_jobs s records cs rounds place number) (asks_here s records r.ports cut (end_before cs (length records)) place number given) (all_asks s records place number given cs rounds)

entry_fits : (d : Deed) → FitsAsk (job_of d) → FitsEvent (event_of d)
entry_fits (Carried x p f bytes) h = tt
entry_fits (Asked l reply) h = (h.1, h.0.2)

entries_fit : (cs : List Call) → Each (λ c. FitsAsk (job_of c.deed)) cs → Each FitsEvent (entries_of cs)
entries_fit cs e =
    each_map FitsEvent (λ (c : Call). event_of c.deed) (filter (λ (c : Call). c.entry) cs)
    (each_filter (λ (c : Call). FitsEvent (event_of c.deed)) (λ (c : Call). c.entry) cs (each_as (λ (c : Call). FitsAsk (job_of c.deed)) (λ (c : Call). FitsEvent (event_of c.deed)) (λ c h. entry_fits c.deed h) cs e))

-- what holds of the entries that name each caller holds of all
each_named : (P : Event → Type 0) (ns : List ℕ) (h : List Event) → ((k : ℕ) → Each P (entries_naming ns k h)) → Each P h
each_named P ns [] f = tt
each_named P ns (e ∷ h) f = (own (f (named ns e)), each_named P ns h (λ k. rest k (named ns e == k) (f k)))
  where
    own : Each P (entries_naming ns (named ns e) (e ∷ h)) → P e
    own p = (subst (λ b. Each P (if b then e ∷ entries_naming ns (named ns e) h else entries_naming ns (named ns e) h)) (eq-eqb (named ns e) (named ns e) refl) p).0

    rest : (k : ℕ) (b : Bool) → Each P (if b then e ∷ entries_naming ns k h else entries_naming ns k h) → Each P (entries_naming ns k h)
    rest k true p = p.1
    rest k false p = p

-- ---- what a port begins with

layer_whole : (l : LayerFile) → FitsLayer l → FitsSeen (whole l)
layer_whole l f = record { controller = f.0; layer = f.1; groups = f.2; pairs = tt }

layers_whole : (ls : List LayerFile) → Each FitsLayer ls → Each FitsSeen (map whole ls)
layers_whole [] e = tt
layers_whole (l ∷ ls) e = (layer_whole l e.0, layers_whole ls e.1)

none_whole : (ls : List LayerFile) → Each (λ l. l.next_pair ≤ 0) (map whole ls)
none_whole [] = tt
none_whole (l ∷ ls) = (omega arith, none_whole ls)

-- a port of the policy
record FitsOpening (p : PortSeen) : Type 0 where
  number : p.number < 2 ^ 16
  none : AreAtMost 0 p.layers
  seen : Each FitsSeen p.layers

opening_at : (ns : List ℕ) (ps : List PortFile) (i : ℕ) (p : PortSeen) → Each FitsPort ps → slice_get (map (port_of ns) ps) i ≡ Some p → FitsOpening p
opening_at ns [] i p f e = absurd (cc e)
opening_at ns (q ∷ ps) zero p f e =
    let same : port_of ns q ≡ p = cc e in
    let here : FitsOpening (port_of ns q) = record { number = f.0.0; none = each-in_order (λ l. l.next_pair ≤ 0) ns (map whole q.layers) (none_whole q.layers); seen = each-in_order FitsSeen ns (map whole q.layers) (layers_whole q.layers f.0.1) } in
    subst FitsOpening same here
opening_at ns (q ∷ ps) (suc i) p f e = opening_at ns ps i p f.1 e

-- ---- the history of each port

record FitsPlace (p : PortSeen) (h : List Event) : Type 0 where
  number : p.number < 2 ^ 16
  history : FitsHistory (opening_of p) h

place_fits : (s : Setting) (records : List Record) (cs : List ℕ) (rounds : List Round) (run : AreRounds s records cs rounds) (i : ℕ) (p : PortSeen) (h : List Event) → AreGiven s records → AreCuts s.commands (length records) cs
    → slice_get (ports_of s.policy) i ≡ Some p → slice_get run.histories i ≡ Some h → FitsPlace p h
place_fits s records cs rounds run i p h given are e f =
    let legal = runs_legally s records cs rounds run i p h e f in
    let opening = opening_at s.policy.controllers s.policy.ports i p given.policy.1 e in
    let asks : Each (λ (c : Call). FitsAsk (job_of c.deed)) legal.calls = map_each FitsAsk (λ (c : Call). job_of c.deed) legal.calls (subst (Each FitsAsk) (sym legal.jobs) (all_asks s records i p.number given cs rounds)) in
    record {
      number = opening.number;
      history = record {
        right = legal.legal.right;
        short = omega (arith, histories_few s records cs rounds run i p h given.served are e f, given.lines, given.packets);
        events = each_named FitsEvent p.controllers h (λ k. subst (Each FitsEvent) (sym (legal.legal.entries k)) (entries_fit (calls_of p.controllers k legal.calls) (each_of (λ (c : Call). FitsAsk (job_of c.deed)) p.controllers k legal.calls asks)));
        none = opening.none;
        seen = opening.seen;
      };
    }

abbrev AllFit : List PortSeen → List (List Event) → Type 0
AllFit [] [] = Unit {0}
AllFit (p ∷ ps) (h ∷ hs) = FitsPlace p h × AllFit ps hs
AllFit _ _ = ⊥

all_places : (ps : List PortSeen) (hs : List (List Event)) → AreHistories ps hs → ((i : ℕ) (p : PortSeen) (h : List Event) → slice_get ps i ≡ Some p → slice_get hs i ≡ Some h → FitsPlace p h) → AllFit ps hs
all_places [] [] a f = tt
all_places (p ∷ ps) (h ∷ hs) a f = (f 0 p h refl refl, all_places ps hs a.1 (λ i. f (suc i)))
all_places [] (h ∷ hs) a f = absurd a
all_places (p ∷ ps) [] a f = absurd a

-- ---- a round

same_port : (a b : PortRound) → Some a ≡ Some b → a ≡ b
same_port a b e = cc e

told_here : (s : Setting) (records : List Record) (told : List PortRound) (first next k i : ℕ) (ps : List PortSeen) (hs : List (List Event)) (rs : List PortRound) (q : PortRound) → AreGiven s records → AllFit ps hs → ArePortRounds s records told first next k ps hs rs → slice_get rs i ≡ Some q
    → Each (ToldAt (macs_of s.policy) records (k + i)) q.lines
told_here s records told first next k i [] [] [] q given fit a e = absurd (cc e)
told_here s records told first next k zero (p ∷ ps) (h ∷ hs) (r ∷ rs) q given fit a e =
    let here : Each (ToldAt (macs_of s.policy) records k) r.lines = lines_own s records told first next k p h r given fit.0.history a.0 in
    subst (λ m. Each (ToldAt (macs_of s.policy) records m) q.lines) (omega arith) (subst (λ (w : PortRound). Each (ToldAt (macs_of s.policy) records k) w.lines) (same_port r q e) here)
told_here s records told first next k (suc i) (p ∷ ps) (h ∷ hs) (r ∷ rs) q given fit a e =
    subst (λ m. Each (ToldAt (macs_of s.policy) records m) q.lines) (omega arith) (told_here s records told first next (suc k) i ps hs rs q given fit.1 a.1 e)
told_here s records told first next k i [] [] (r ∷ rs) q given fit a e = absurd a
told_here s records told first next k i [] (h ∷ hs) rs q given fit a e = absurd a
told_here s records told first next k i (p ∷ ps) [] rs q given fit a e = absurd a
told_here s records told first next k i (p ∷ ps) (h ∷ hs) [] q given fit a e = absurd a

proper_lines : (ls : List ToldLine) → Each IsProperLine ls → AreProperLines ls
proper_lines [] e = tt
proper_lines (l ∷ ls) e = (e.0, proper_lines ls e.1)

ports_proper : (s : Setting) (records : List Record) (told : List PortRound) (first next k : ℕ) (ps : List PortSeen) (hs : List (List Event)) (rs : List PortRound) → AreGiven s records → AllFit ps hs → AllTold (macs_of s.policy) records told → ArePortRounds s records told first next k ps hs rs
    → AreProperPorts rs
ports_proper s records told first next k [] [] [] given fit all a = tt
ports_proper s records told first next k (p ∷ ps) (h ∷ hs) (r ∷ rs) given fit all a =
    let jobs = jobs_of s records told first next k p.number in
    let lines : Each IsProperLine r.lines = lines_fit s.workers p h jobs r FitsJob IsProperLine a.0 (jobs_fit s records told first next k p.number given all) (λ c f. call_proper (opening_of p) h c fit.0.history f.job f.bytes f.call) in
    let short = fit.0.history.short in (
      (subst (λ n. n < 2 ^ 16) (sym a.0.port) fit.0.number, omega (arith, a.0.low, a.0.high, short), omega (arith, a.0.high, short), proper_lines r.lines lines),
      ports_proper s records told first next (suc k) ps hs rs given fit.1 all a.1,
    )
ports_proper s records told first next k [] [] (r ∷ rs) given fit all a = absurd a
ports_proper s records told first next k [] (h ∷ hs) rs given fit all a = absurd a
ports_proper s records told first next k (p ∷ ps) [] rs given fit all a = absurd a
ports_proper s records told first next k (p ∷ ps) (h ∷ hs) [] given fit all a = absurd a

loose_proper : (macs : List ℕ) (records : List Record) (packets : List (ℕ × Record)) → Each (IsPacket records) packets → AreProperLoose (loose_among macs packets)
loose_proper macs records [] e = tt
loose_proper macs records (p ∷ ps) e = by (aim_of macs p.1) (loose_proper macs records ps e.1)
  where
    by : (aim : Result (Place × Parts) LooseCause) → AreProperLoose (loose_among macs ps) → AreProperLoose (loose_after p.0 aim ++ loose_among macs ps)
    by (Err why) ih = (e.0.number, ih)
    by (Ok a) ih = ih

-- ---- cuts

each_put : (P : ℕ → Type 0) (n : ℕ) (ms : List ℕ) → P n → Each P ms → Each P (put_in n ms)
each_put P n [] h e = (h, tt)
each_put P n (m ∷ ms) h e = by (nat_lt n m) (n == m) (each_put P n ms h e.1)
  where
    by : (a b : Bool) → Each P (put_in n ms) → Each P (if a then n ∷ m ∷ ms else if b then m ∷ ms else m ∷ put_in n ms)
    by true b ih = (h, e)
    by false true ih = e
    by false false ih = (e.0, ih)

each_ascending : (P : ℕ → Type 0) (ns : List ℕ) → Each P ns → Each P (ascending ns)
each_ascending P [] e = tt
each_ascending P (n ∷ ns) e = each_put P n (ascending ns) e.0 (each_ascending P ns e.1)

counted_below : (first n : ℕ) → Each (λ k. k < first + n) (counted first n)
counted_below first zero = tt
counted_below first (suc n) = (omega arith, each_as (λ k. k < suc first + n) (λ k. k < first + suc n) (λ k e. omega (arith, e)) (counted (suc first) n) (counted_below (suc first) n))

multiples_small : (total : ℕ) → total ≤ 1048576 → Each (λ n. n < 2 ^ 32) (multiples_below total)
multiples_small total few =
    let m = (total + 1023) / 1024 in
    let bound : m ≤ 1024 = omega (arith, few) in
    each_map (λ n. n < 2 ^ 32) (λ i. 1024 * i) (counted 0 m) (each_as (λ k. k < 0 + m) (λ k. 1024 * k < 2 ^ 32) (λ k e. omega (arith, e, bound)) (counted 0 m) (counted_below 0 m))

lines_small : (ls : List Line) → Each FitsLine ls → Each (λ n. n < 2 ^ 32) (map (λ (l : Line). l.at) ls)
lines_small [] e = tt
lines_small (l ∷ ls) e = (e.0.1, lines_small ls e.1)

cuts_small : (s : Setting) (records : List Record) (cs : List ℕ) → AreGiven s records → AreCuts s.commands (length records) cs → Each (λ n. n < 2 ^ 32) cs
cuts_small s records cs given are =
    let total = length records in
    let all : Each (λ n. n < 2 ^ 32) (cuts s.commands total) =
    each_ascending (λ n. n < 2 ^ 32) (0 ∷ map (λ (l : Line). l.at) s.commands ++ multiples_below total) (omega arith, each_append (λ n. n < 2 ^ 32) (map (λ (l : Line). l.at) s.commands) (multiples_below total) (lines_small s.commands given.commands) (multiples_small total given.packets)) in
    either_cuts s records (Each (λ n. n < 2 ^ 32)) cs all (each_filter (λ n. n < 2 ^ 32) (λ n. nat_lt n total) (cuts s.commands total) all) are

-- ---- the law

rounds_proper : (s : Setting) (records : List Record) (hs : List (List Event)) → AreGiven s records → AllFit (ports_of s.policy) hs → (cs : List ℕ) (rounds : List Round) → Each (λ n. n < 2 ^ 32) cs → AreRoundsAt s records hs cs rounds → AreProper rounds
rounds_proper s records hs given fit [] [] small a = tt
rounds_proper s records hs given fit (cut ∷ cs) (r ∷ rs) small a =
    let next = end_before cs (length records) in
    let all : AllTold (macs_of s.policy) records r.ports = (λ i q e. subst (λ m. Each (ToldAt (macs_of s.policy) records m) q.lines) (omega arith) (told_here s records r.ports cut next 0 i (ports_of s.policy) hs r.ports q given fit a.0.ports e)) in
    let loose : AreProperLoose r.loose = subst AreProperLoose (sym a.0.loose) (loose_proper (macs_of s.policy) records (packets_between records cut next) (packets_known s records cut next given)) in (
      (subst (λ n. n < 2 ^ 32) (sym a.0.first_is) small.0, ports_proper s records r.ports cut next 0 (ports_of s.policy) hs r.ports given fit all a.0.ports, loose),
      rounds_proper s records hs given fit cs rs small.1 a.1,
    )
rounds_proper s records hs given fit [] (r ∷ rs) small a = absurd a
rounds_proper s records hs given fit (cut ∷ cs) [] small a = absurd a

pub rounds_are_proper : RoundsAreProper
rounds_are_proper s records cs rounds given are run =
    let fit = all_places (ports_of s.policy) run.histories run.right (λ i p h e f. place_fits s records cs rounds run i p h given are e f) in
    rounds_proper s records run.histories given fit cs rounds (cuts_small s records cs given are) run.are
