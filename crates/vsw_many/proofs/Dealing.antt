-- Who does what, over all ports and at each.
use Rattle.std.proofs.Common.{◌≡◌, ◌≢◌, ◌≤◌, ◌<◌, ℕ, suc, ◌+◌, ◌==◌, ◌&&◌, ◌||◌, not, Bool, true, false, if◌then◌else◌, List, [], ◌∷◌, ◌++◌, length, map, filter, Result, Ok, Err, refl, ap, sym, ◌∙◌, subst, arith, append_assoc, length-append, ne_eqb, eq-eqb}
use Rattle.std.proofs.lemmas.Nat.{mod_below}
use native.Mathlib.Decide.{ℕ_discrete}
use Rattle.vsw_base.specs.declared.flow.Place.{Place}
use Rattle.vsw_base.specs.Frame.{Parts}
use Rattle.vsw_commandfile.specs.declared.line.Line.{Line}
use Rattle.vsw_header.specs.FlowSum.{flow_sum_of}
use Rattle.vsw_pcap.specs.declared.capture.Record.{Record}
use Rattle.vsw_policy.specs.Layers.{place_of}
use Rattle.vsw_policy.specs.Sound.{Each, are_distinct, is_listed}
use Rattle.vsw_config.specs.declared.file.PortFile.{PortFile}
use Rattle.vsw_promise.specs.Ports.{PortSeen, port_of, ports_of}
use Rattle.vsw_report.specs.declared.round.LooseCause.{LooseCause}
use Rattle.vsw_port.specs.Calls.{Ask, controller_at, job_doer, jobs_by}
use Rattle.vsw_port.proofs.Calls.{each_append}
use Rattle.vsw_port.proofs.Fronts.{append_end}
use Rattle.vsw_promise.specs.Jobs.{Setting, Placed, jobs_of, at_place, macs_of, packets_between, placed_packets, worker_of}
use Rattle.vsw_many.specs.Dealing.{deal, numbers_of, placed_jobs, placed_lines}
use Rattle.vsw_promise.proofs.Handed.{each_packet, place_append}
use Rattle.vsw_report.specs.declared.round.PortRound.{PortRound}
use Rattle.vsw_history_law.specs.Law.{AreServed}
use Rattle.vsw_history_law.proofs.Callers.{place_one}
use Rattle.vsw_many.specs.Law.{DealIsPlaced, AllIsDealt}
use Rattle.vsw_many.proofs.Actors.{filter_append}
use Rattle.vsw_many.proofs.Passes.{each_weaker}

-- ---- the jobs of a port

-- a place is a port's exactly where its number is
same_test : (numbers : List ℕ) (number i port : ℕ) → place_of number numbers ≡ i → is_listed numbers number ≡ true → (place_of port numbers == i) ≡ (port == number)
same_test numbers number i port at listed = by (ℕ_discrete port number)
  where
    by : Dec (port ≡ number) → (place_of port numbers == i) ≡ (port == number)
    by (yes e) = eq-eqb (place_of port numbers) i (ap (λ n. place_of n numbers) e ∙ at) ∙ sym (eq-eqb port number e)
    by (no ne) = ne_eqb (place_of port numbers) i (λ f. ne (sym (place_one numbers number port listed (at ∙ sym f)))) ∙ sym (ne_eqb port number ne)

line_step : (numbers : List ℕ) (i : ℕ) (l : Line) (xs ys : List Line) (a b d : Bool) → (place_of l.port numbers == i) ≡ b → at_place i (map (λ l. (place_of l.port numbers, Ask l)) xs) ≡ map Ask ys
    → at_place i (map (λ l. (place_of l.port numbers, Ask l)) (if a && d then l ∷ xs else xs)) ≡ map Ask (if a && b && d then l ∷ ys else ys)
line_step numbers i l xs ys true true true e ih = rw e (ap (λ w. Ask l ∷ w) ih)
line_step numbers i l xs ys true false true e ih = rw e ih
line_step numbers i l xs ys true true false e ih = ih
line_step numbers i l xs ys true false false e ih = ih
line_step numbers i l xs ys false true d e ih = ih
line_step numbers i l xs ys false false d e ih = ih

-- commands of either time
pub place_lines : (when : Line → Bool) (numbers : List ℕ) (commands : List Line) (first i number : ℕ) → place_of number numbers ≡ i → is_listed numbers number ≡ true
    → at_place i (map (λ l. (place_of l.port numbers, Ask l)) (filter (λ l. (l.at == first) && when l) commands)) ≡ map Ask (filter (λ l. (l.at == first) && (l.port == number) && when l) commands)
place_lines when numbers [] first i number at listed = refl
place_lines when numbers (l ∷ ls) first i number at listed =
    line_step numbers i l (filter (λ l. (l.at == first) && when l) ls) (filter (λ l. (l.at == first) && (l.port == number) && when l) ls) (l.at == first) (l.port == number) (when l) (same_test numbers number i l.port at listed) (place_lines when numbers ls first i number at listed)

-- what is to be done at all ports is at each what is to be done there
pub place_jobs : (s : Setting) (records : List Record) (told : List PortRound) (first next i number : ℕ) → place_of number (numbers_of s.policy) ≡ i → is_listed (numbers_of s.policy) number ≡ true → at_place i (placed_jobs s records told first next) ≡ (jobs_of s records told first next i number).later
place_jobs s records told first next i number at listed =
    place_append i (placed_lines (numbers_of s.policy) s.commands first) (placed_packets s.workers s.local (macs_of s.policy) told (packets_between records first next))
    ∙ ap (λ w. w ++ at_place i (placed_packets s.workers s.local (macs_of s.policy) told (packets_between records first next))) (place_lines (λ l. l.during) (numbers_of s.policy) s.commands first i number at listed)

deal_step : (ns : List ℕ) (k i : ℕ) (t : Placed) (ts : List Placed) (a b : Bool) → (job_doer ns t.1 == k) ≡ a → (t.0 == i) ≡ b → at_place i (deal ns k ts) ≡ jobs_by ns k (at_place i ts)
    → at_place i (if a then t ∷ deal ns k ts else deal ns k ts) ≡ jobs_by ns k (map (λ t. t.1) (if b then t ∷ filter (λ t. t.0 == i) ts else filter (λ t. t.0 == i) ts))
deal_step ns k i t ts true true e f ih = rw (e, f) (ap (λ w. t.1 ∷ w) ih)
deal_step ns k i t ts true false e f ih = rw f ih
deal_step ns k i t ts false true e f ih = rw e ih
deal_step ns k i t ts false false e f ih = ih

-- what is dealt to a caller is at a place its own of what is there
pub place_deal : (ns : List ℕ) (k i : ℕ) (ts : List Placed) → at_place i (deal ns k ts) ≡ jobs_by ns k (at_place i ts)
place_deal ns k i [] = refl
place_deal ns k i (t ∷ ts) = deal_step ns k i t ts (job_doer ns t.1 == k) (t.0 == i) refl refl (place_deal ns k i ts)

pub deal_is_placed : DealIsPlaced
deal_is_placed s records told first next k i number at listed = place_deal s.policy.controllers k i (placed_jobs s records told first next) ∙ ap (jobs_by s.policy.controllers k) (place_jobs s records told first next i number at listed)

-- ---- the places of ports

-- ports with these controllers, whose numbers stand at their places among these, from this place on
abbrev pub AreNumbered : List ℕ → List ℕ → ℕ → List PortSeen → Type 0
AreNumbered ns numbers i [] = Unit {0}
AreNumbered ns numbers i (p ∷ ps) = (p.controllers ≡ ns) × (place_of p.number numbers ≡ i) × (is_listed numbers p.number ≡ true) × AreNumbered ns numbers (suc i) ps

or_right : (a b : Bool) → b ≡ true → (a || b) ≡ true
or_right true b e = refl
or_right false b e = e

not_parts : (a b : Bool) → (not a && b) ≡ true → (a ≡ false) × (b ≡ true)
not_parts true b e = absurd (cc e)
not_parts false b e = (refl, e)

listed_behind : (front : List ℕ) (n : ℕ) (back : List ℕ) → is_listed (front ++ n ∷ back) n ≡ true
listed_behind [] n back = let t : (n == n) ≡ true = eq-eqb n n refl in rw t refl
listed_behind (m ∷ front) n back = or_right (n == m) (is_listed (front ++ n ∷ back) n) (listed_behind front n back)

place_behind : (front : List ℕ) (n : ℕ) (back : List ℕ) → are_distinct (front ++ n ∷ back) ≡ true → place_of n (front ++ n ∷ back) ≡ length front
place_behind [] n back d = let t : (n == n) ≡ true = eq-eqb n n refl in rw t refl
place_behind (m ∷ front) n back d =
    let parts = not_parts (is_listed (front ++ n ∷ back) m) (are_distinct (front ++ n ∷ back)) d in
    let apart : (n == m) ≡ false = ne_eqb n m (λ e. absurd (let there : is_listed (front ++ n ∷ back) m ≡ true = subst (λ x. is_listed (front ++ n ∷ back) x ≡ true) e (listed_behind front n back) in let away = parts.0 in cc (there, away))) in
    rw apart (ap suc (place_behind front n back parts.1))

numbered_from : (ns front : List ℕ) (ps : List PortSeen) → Each (λ p. p.controllers ≡ ns) ps → are_distinct (front ++ map (λ p. p.number) ps) ≡ true → AreNumbered ns (front ++ map (λ p. p.number) ps) (length front) ps
numbered_from ns front [] same d = tt
numbered_from ns front (p ∷ ps) same d =
    let back = map (λ p. p.number) ps in
    let split : (front ++ p.number ∷ []) ++ back ≡ front ++ p.number ∷ back = append_assoc front (p.number ∷ []) back in
    let next : AreNumbered ns ((front ++ p.number ∷ []) ++ back) (length (front ++ p.number ∷ [])) ps = numbered_from ns (front ++ p.number ∷ []) ps same.1 (ap are_distinct split ∙ d) in
    let at : length (front ++ p.number ∷ []) ≡ suc (length front) = omega (arith, length-append front (p.number ∷ [])) in
    (same.0, place_behind front p.number back d, listed_behind front p.number back, subst (λ n. AreNumbered ns (front ++ p.number ∷ back) n ps) at (subst (λ w. AreNumbered ns w (length (front ++ p.number ∷ [])) ps) split next))

pub all_know : (cs : List ℕ) (ps : List PortFile) → Each (λ p. p.controllers ≡ cs) (map (port_of cs) ps)
all_know cs [] = tt
all_know cs (p ∷ ps) = (refl, all_know cs ps)

pub numbered : (s : Setting) → are_distinct (numbers_of s.policy) ≡ true → AreNumbered s.policy.controllers (numbers_of s.policy) 0 (ports_of s.policy)
numbered s d = numbered_from s.policy.controllers [] (ports_of s.policy) (all_know s.policy.controllers s.policy.ports) d

-- ---- the callers

pub each_line : (P : Placed → Type 0) (when : Line → Bool) (numbers : List ℕ) (first : ℕ) (ls : List Line) → Each (λ l. P (place_of l.port numbers, Ask l)) ls → Each P (map (λ l. (place_of l.port numbers, Ask l)) (filter (λ l. (l.at == first) && when l) ls))
each_line P when numbers first [] e = tt
each_line P when numbers first (l ∷ ls) e = by ((l.at == first) && when l) (each_line P when numbers first ls e.1)
  where
    rest : List Line
    rest = filter (λ l. (l.at == first) && when l) ls

    by : (b : Bool) → Each P (map (λ l. (place_of l.port numbers, Ask l)) rest) → Each P (map (λ l. (place_of l.port numbers, Ask l)) (if b then l ∷ rest else rest))
    by true ih = (e.0, ih)
    by false ih = ih

pub place_within : (ns : List ℕ) (c : ℕ) → is_listed ns c ≡ true → place_of c ns < length ns
place_within [] c e = absurd (cc e)
place_within (n ∷ ns) c e = by (c == n) refl (λ f. place_within ns c f)
  where
    left : (b : Bool) → (b || is_listed ns c) ≡ true → b ≡ false → is_listed ns c ≡ true
    left true e f = absurd (cc f)
    left false e f = e

    by : (b : Bool) → (c == n) ≡ b → (is_listed ns c ≡ true → place_of c ns < length ns) → (if b then 0 else suc (place_of c ns)) < suc (length ns)
    by true t ih = omega arith
    by false t ih = omega (arith, ih (left (c == n) e t))

pub worker_low : (workers : ℕ) (p : Parts) → 0 < workers → worker_of workers p < workers
worker_low workers p lt = mod_below (flow_sum_of p.stack) workers lt

-- the setting's ports stand in their places, and each job of a round is a worker's or a listed controller's
pub record IsFit (s : Setting) (records : List Record) (told : List PortRound) (first next : ℕ) : Type 0 where
  pub numbered : AreNumbered s.policy.controllers (numbers_of s.policy) 0 (ports_of s.policy)
  pub within : Each (λ t. job_doer s.policy.controllers t.1 < 16 + length s.policy.controllers) (placed_jobs s records told first next)

pub fit_of : (s : Setting) (records : List Record) (told : List PortRound) (first next : ℕ) → AreServed s → are_distinct (numbers_of s.policy) ≡ true → IsFit s records told first next
fit_of s records told first next served apart = record {
  numbered = numbered s apart;
  within = each_append P (placed_lines (numbers_of s.policy) s.commands first) (placed_packets s.workers s.local (macs_of s.policy) told (packets_between records first next))
      (each_line P (λ l. l.during) (numbers_of s.policy) first s.commands (each_weaker (λ l. is_listed s.policy.controllers l.controller ≡ true) (λ l. controller_at s.policy.controllers l.controller < 16 + length s.policy.controllers) s.commands (λ l e. omega (arith, place_within s.policy.controllers l.controller e)) served.asked))
      (each_packet P s.workers s.local (macs_of s.policy) told (packets_between records first next) (λ n moment a. omega (arith, worker_low s.workers a.1 served.least, served.most)) (λ n moment a h. omega (arith, worker_low s.workers a.1 served.least, served.most)));
}
  where
    P : Placed → Type 0
    P t = job_doer s.policy.controllers t.1 < 16 + length s.policy.controllers

-- ---- what each caller is dealt

none_dealt : (ns : List ℕ) (k : ℕ) (ts : List Placed) → Each (λ t. job_doer ns t.1 ≢ k) ts → deal ns k ts ≡ []
none_dealt ns k [] e = refl
none_dealt ns k (t ∷ ts) e = let f : (job_doer ns t.1 == k) ≡ false = ne_eqb (job_doer ns t.1) k e.0 in rw f (none_dealt ns k ts e.1)

no_lines : (s : Setting) (first k : ℕ) → k < 16 → deal s.policy.controllers k (placed_lines (numbers_of s.policy) s.commands first) ≡ []
no_lines s first k lt = none_dealt s.policy.controllers k (placed_lines (numbers_of s.policy) s.commands first) (each_line (λ t. job_doer s.policy.controllers t.1 ≢ k) (λ l. l.during) (numbers_of s.policy) first s.commands (all s.commands))
  where
    all : (ls : List Line) → Each (λ l. controller_at s.policy.controllers l.controller ≢ k) ls
    all [] = tt
    all (l ∷ ls) = ((λ e. omega (arith, e, lt)), all ls)

no_packets : (s : Setting) (records : List Record) (told : List PortRound) (first next k : ℕ) → 0 < s.workers → s.workers ≤ k → deal s.policy.controllers k (placed_packets s.workers s.local (macs_of s.policy) told (packets_between records first next)) ≡ []
no_packets s records told first next k least le =
    none_dealt s.policy.controllers k (placed_packets s.workers s.local (macs_of s.policy) told (packets_between records first next)) (each_packet (λ t. job_doer s.policy.controllers t.1 ≢ k) s.workers s.local (macs_of s.policy) told (packets_between records first next) (λ n moment a e. omega (arith, e, le, worker_low s.workers a.1 least)) (λ n moment a h e. omega (arith, e, le, worker_low s.workers a.1 least)))

pub all_is_dealt : AllIsDealt
all_is_dealt s records told first next k served = record {
  worker = worker;
  idle = λ le lt. worker lt ∙ no_packets s records told first next k served.least le;
  controller = λ le. both ∙ (ap (λ w. deal s.policy.controllers k lines ++ w) (no_packets s records told first next k served.least (omega (arith, served.most, le))) ∙ append_end (deal s.policy.controllers k lines));
}
  where
    lines : List Placed
    lines = placed_lines (numbers_of s.policy) s.commands first

    packets : List Placed
    packets = placed_packets s.workers s.local (macs_of s.policy) told (packets_between records first next)

    both : deal s.policy.controllers k (lines ++ packets) ≡ deal s.policy.controllers k lines ++ deal s.policy.controllers k packets
    both = filter_append (λ t. job_doer s.policy.controllers t.1 == k) lines packets

    worker : k < 16 → deal s.policy.controllers k (lines ++ packets) ≡ deal s.policy.controllers k packets
    worker lt = both ∙ ap (λ w. w ++ deal s.policy.controllers k packets) (no_lines s first k lt)
