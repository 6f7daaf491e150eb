-- The calls of all callers at each port: each packet is there once at most.
use Rattle.std.proofs.Common.{◌≡◌, ◌≢◌, ◌≤◌, ◌<◌, ◌+◌, ◌==◌, ℕ, zero, suc, not, Bool, true, false, if◌then◌else◌, List, [], ◌∷◌, ◌++◌, length, map, filter, drop, get_or, Result, Ok, Err, refl, ap, sym, ◌∙◌, subst, arith, append_assoc, ne_eqb, eq-eqb}
use native.Mathlib.Decide.{ℕ_discrete}
use Rattle.vsw_base.specs.declared.flow.Place.{Place}
use Rattle.vsw_base.specs.Frame.{Parts}
use Rattle.vsw_commandfile.specs.declared.line.Line.{Line}
use Rattle.vsw_pcap.specs.declared.capture.Record.{Record}
use Rattle.vsw_policy.specs.Sound.{Each}
use Rattle.vsw_port.specs.declared.event.Event.{Event}
use Rattle.vsw_port.specs.Calls.{Job, Carry, Ask, Call, job_of, job_doer, named}
use Rattle.vsw_port.specs.Order.{numbered}
use Rattle.vsw_port.proofs.Calls.{shares_join}
use Rattle.vsw_port.proofs.Next.{shares_of}
use Rattle.vsw_promise.specs.Jobs.{Placed, aim_of, at_place, placed_packet, placed_packets}
use Rattle.vsw_many.specs.Dealing.{deal}
use Rattle.vsw_promise.specs.Ports.{PortSeen}
use Rattle.vsw_promise.specs.Rounds.{opening_of}
use Rattle.vsw_promise.proofs.Handed.{each_at, place_append}
use Rattle.vsw_report.specs.declared.round.LooseCause.{LooseCause}
use Rattle.vsw_history_law.specs.Plain.{IsAsk}
use Rattle.vsw_history_law.proofs.Agrees.{eq_is, is_job}
use Rattle.vsw_history_law.proofs.OneLine.{count, count_append, count_no, count_none, count_yes}
use Rattle.vsw_history_law.proofs.Reports.{map_append}
use Rattle.vsw_many.specs.Phases.{AreLanes, IsPhase, Lane, calls_in, port_told}
use Rattle.vsw_many.specs.Actors.{HasWorked}
use Rattle.vsw_many.specs.Rounds.{AreJournals, PortTurn, calls_by_port, column, other_columns, ports_told}
use Rattle.vsw_many.specs.Turns.{PlacedTurns, append_each}
use Rattle.vsw_many.proofs.Passes.{each_weaker}
use Rattle.vsw_many.proofs.Phases.{phase_shares}
use Rattle.vsw_many.proofs.Turns.{is_turn}
use Rattle.vsw_hairpin.specs.Handing.{AreGone, AreHandedRows, HasHanded, HaveHanded, told_of, with_hops}
use Rattle.vsw_hairpin.proofs.Told.{AllShared, count_map, is_call}
use Rattle.vsw_hairpin.proofs.Hops.{hops_few}

-- ---- commands are no packet's

pub asks : (f : Line → ℕ) (ls : List Line) → Each (λ (t : Placed). IsAsk t.1) (map (λ l. (f l, Ask l)) ls)
asks f [] = tt
asks f (l ∷ ls) = (tt, asks f ls)

ask_test : (n : ℕ) (j : Job) → IsAsk j → is_job n j ≡ false
ask_test n (Carry x p) a = absurd a
ask_test n (Ask l) a = refl

pub asked_none : (n : ℕ) (js : List Placed) → Each (λ t. IsAsk t.1) js → count (λ (t : Placed). is_job n t.1) js ≡ 0
asked_none n js a = count_none (λ (t : Placed). is_job n t.1) js (each_weaker (λ (t : Placed). IsAsk t.1) (λ t. is_job n t.1 ≡ false) js (λ t b. ask_test n t.1 b) a)

asked_there : (n i : ℕ) (js : List Placed) → Each (λ t. IsAsk t.1) js → count (is_job n) (at_place i js) ≡ 0
asked_there n i js a = count_none (is_job n) (at_place i js) (each_weaker IsAsk (λ j. is_job n j ≡ false) (at_place i js) (λ j b. ask_test n j b) (each_at IsAsk i js a))

-- ---- each packet has one job of its own

numbers_high : (n m : ℕ) (rs : List Record) → n < m → count (λ (p : ℕ × Record). p.0 == n) (numbered m rs) ≡ 0
numbers_high n m [] lt = refl
numbers_high n m (r ∷ rs) lt = count_no (λ (p : ℕ × Record). p.0 == n) (m, r) (numbered (suc m) rs) (ne_eqb m n (λ e. omega (arith, lt, e))) ∙ numbers_high n (suc m) rs (omega (arith, lt))

numbers_few : (n m : ℕ) (rs : List Record) → count (λ (p : ℕ × Record). p.0 == n) (numbered m rs) ≤ 1
numbers_few n m [] = omega arith
numbers_few n m (r ∷ rs) = by (ℕ_discrete m n) (numbers_few n (suc m) rs)
  where
    by : Dec (m ≡ n) → count (λ (p : ℕ × Record). p.0 == n) (numbered (suc m) rs) ≤ 1 → count (λ (p : ℕ × Record). p.0 == n) (numbered m (r ∷ rs)) ≤ 1
    by (yes e) ih = omega (arith, count_yes (λ (p : ℕ × Record). p.0 == n) (m, r) (numbered (suc m) rs) (eq-eqb m n e), numbers_high n (suc m) rs (omega (arith, e)))
    by (no ne) ih = omega (arith, count_no (λ (p : ℕ × Record). p.0 == n) (m, r) (numbered (suc m) rs) (ne_eqb m n ne), ih)

packet_few : (workers n m moment : ℕ) (to : Result (Place × Parts) LooseCause) (b : Bool) → (m == n) ≡ b → count (λ (t : Placed). is_job n t.1) (placed_packet workers m moment [] to) ≤ (if b then 1 else 0)
packet_few workers n m moment (Err why) true e = omega arith
packet_few workers n m moment (Err why) false e = omega arith
packet_few workers n m moment (Ok a) true e = rw e (omega arith)
packet_few workers n m moment (Ok a) false e = rw e (omega arith)

own_counted : (workers n : ℕ) (macs : List ℕ) (ps : List (ℕ × Record)) → count (λ (t : Placed). is_job n t.1) (placed_packets workers false macs [] ps) ≤ count (λ (p : ℕ × Record). p.0 == n) ps
own_counted workers n macs [] = omega arith
own_counted workers n macs (p ∷ ps) = by (p.0 == n) refl (own_counted workers n macs ps)
  where
    own : List Placed
    own = placed_packet workers p.0 p.1.moment [] (aim_of macs p.1)

    split : count (λ (t : Placed). is_job n t.1) (placed_packets workers false macs [] (p ∷ ps)) ≡ count (λ (t : Placed). is_job n t.1) own + count (λ (t : Placed). is_job n t.1) (placed_packets workers false macs [] ps)
    split = count_append (λ (t : Placed). is_job n t.1) own (placed_packets workers false macs [] ps)

    by : (b : Bool) → (p.0 == n) ≡ b → count (λ (t : Placed). is_job n t.1) (placed_packets workers false macs [] ps) ≤ count (λ (p : ℕ × Record). p.0 == n) ps → count (λ (t : Placed). is_job n t.1) (placed_packets workers false macs [] (p ∷ ps)) ≤ count (λ (p : ℕ × Record). p.0 == n) (p ∷ ps)
    by true e ih = omega (arith, split, packet_few workers n p.0 p.1.moment (aim_of macs p.1) true e, ih, count_yes (λ (p : ℕ × Record). p.0 == n) p ps e)
    by false e ih = omega (arith, split, packet_few workers n p.0 p.1.moment (aim_of macs p.1) false e, ih, count_no (λ (p : ℕ × Record). p.0 == n) p ps e)

pub own_few : (workers n first : ℕ) (macs : List ℕ) (packets : List Record) → count (λ (t : Placed). is_job n t.1) (placed_packets workers false macs [] (numbered first packets)) ≤ 1
own_few workers n first macs packets = omega (arith, own_counted workers n macs (numbered first packets), numbers_few n first packets)

-- ---- one thread

pub gone_shared : (place : ℕ) (ps : List PortSeen) (asked jobs : List Placed) (hs gs : List (List Event)) (calls : List (List Call)) → Each (λ t. IsAsk t.1) asked → ((n i : ℕ) → count (is_job n) (at_place i jobs) ≤ 1) → AreGone place ps (asked ++ jobs) hs gs calls
    → AllShared ps hs gs calls
gone_shared place [] asked jobs [] [] [] a few e = tt
gone_shared place (p ∷ ps) asked jobs (h ∷ hs) (g ∷ gs) (c ∷ calls) a few e = (shares_of (opening_of p) h g c e.0, once, gone_shared (suc place) ps asked jobs hs gs calls a few e.2)
  where
    once : (n : ℕ) → count (is_call n) c ≤ 1
    once n =
        let same = count_map (is_job n) (λ (c : Call). job_of c.deed) c ∙ (ap (count (is_job n)) (e.1 ∙ place_append place asked jobs) ∙ count_append (is_job n) (at_place place asked) (at_place place jobs)) in
        omega (arith, same, asked_there n place asked a, few n place)
gone_shared place [] asked jobs (h ∷ hs) gs calls a few e = absurd e
gone_shared place [] asked jobs [] (g ∷ gs) calls a few e = absurd e
gone_shared place [] asked jobs [] [] (c ∷ calls) a few e = absurd e
gone_shared place (p ∷ ps) asked jobs [] gs calls a few e = absurd e
gone_shared place (p ∷ ps) asked jobs (h ∷ hs) [] calls a few e = absurd e
gone_shared place (p ∷ ps) asked jobs (h ∷ hs) (g ∷ gs) [] a few e = absurd e

-- ---- callers beside each other

-- each caller, from this number on, has done these jobs at the ports from the one at a place on
abbrev pub AreWorked : ℕ → ℕ → List PortSeen → List (List Event) → List (List Event) → List (List Lane) → List (List Placed) → Type 0
AreWorked place k ps hs gs [] [] = Unit {0}
AreWorked place k ps hs gs (row ∷ rows) (js ∷ jss) = HasWorked place k ps hs gs row js × AreWorked place (suc k) ps hs gs rows jss
AreWorked place k ps hs gs _ _ = ⊥

-- how often packet n is at a place in all of them
abbrev pub together : ℕ → ℕ → List (List Placed) → ℕ
together n i [] = 0
together n i (js ∷ jss) = count (is_job n) (at_place i js) + together n i jss

record IsWorkedColumn (place k : ℕ) (p : PortSeen) (h g : List Event) (ps : List PortSeen) (hs gs : List (List Event)) (rows : List (List Lane)) (jss : List (List Placed)) : Type 0 where
  lanes : AreLanes (opening_of p) h g k (column rows)
  size : length (column rows) ≡ length rows
  others : AreWorked (suc place) k ps hs gs (other_columns rows) jss
  others_size : length (other_columns rows) ≡ length rows
  counted : (n : ℕ) → count (is_call n) (calls_in (column rows)) ≡ together n place jss

worked_column : (place k : ℕ) (p : PortSeen) (h g : List Event) (ps : List PortSeen) (hs gs : List (List Event)) (rows : List (List Lane)) (jss : List (List Placed)) → AreWorked place k (p ∷ ps) (h ∷ hs) (g ∷ gs) rows jss
    → IsWorkedColumn place k p h g ps hs gs rows jss
worked_column place k p h g ps hs gs [] [] a = record { lanes = tt; size = refl; others = tt; others_size = refl; counted = λ n. refl }
worked_column place k p h g ps hs gs ((l ∷ ls) ∷ rows) (js ∷ jss) a =
    let more = worked_column place (suc k) p h g ps hs gs rows jss a.1 in record {
      lanes = (a.0.0, more.lanes);
      size = ap suc more.size;
      others = (a.0.2, more.others);
      others_size = ap suc more.others_size;
      counted = λ n.
          let here : count (is_call n) l.track.calls ≡ count (is_job n) (at_place place js) = count_map (is_job n) (λ (c : Call). job_of c.deed) l.track.calls ∙ ap (count (is_job n)) a.0.1 in
          let split : count (is_call n) (l.track.calls ++ calls_in (column rows)) ≡ count (is_call n) l.track.calls + count (is_call n) (calls_in (column rows)) = count_append (is_call n) l.track.calls (calls_in (column rows)) in
          split ∙ omega (arith, here, more.counted n);
    }
worked_column place k p h g ps hs gs ([] ∷ rows) (js ∷ jss) a = absurd a.0
worked_column place k p h g ps hs gs [] (js ∷ jss) a = absurd a
worked_column place k p h g ps hs gs (row ∷ rows) [] a = absurd a

-- one port: the first calls in turn, and then all callers'
column_shared : (callers place : ℕ) (before : List Placed) (p : PortSeen) (h m g : List Event) (ps : List PortSeen) (ms gs : List (List Event)) (c : List Call) (rows : List (List Lane)) (jss : List (List Placed)) → Each (λ t. IsAsk t.1) before
    → PortTurn p h m (at_place place before) c → IsWorkedColumn place 0 p m g ps ms gs rows jss → length rows ≡ callers → AreJournals callers (p ∷ ps) (m ∷ ms) (g ∷ gs) → ((n i : ℕ) → together n i jss ≤ 1)
    → AllShared (p ∷ []) (h ∷ []) (g ∷ []) ((c ++ calls_in (column rows)) ∷ [])
column_shared callers place before p h m g ps ms gs c rows jss a turn l size j few = (shares_join (opening_of p) h m g c (calls_in (column rows)) (is_turn p h m (at_place place before) c turn).shares (phase_shares (opening_of p) m g (column rows) phase), once, tt)
  where
    phase : IsPhase (opening_of p) m g (column rows)
    phase = record { right = j.0; grows = j.1; lanes = l.lanes; named_all = subst (λ k. Each (λ e. named p.controllers e < k) g) (sym (l.size ∙ size)) j.2 }

    once : (n : ℕ) → count (is_call n) (c ++ calls_in (column rows)) ≤ 1
    once n =
        let none : count (is_call n) c ≡ 0 = count_map (is_job n) (λ (c : Call). job_of c.deed) c ∙ (ap (count (is_job n)) turn.done.jobs_are ∙ asked_there n place before a) in
        omega (arith, count_append (is_call n) c (calls_in (column rows)), none, l.counted n, few n place)

pub rows_shared : (callers place : ℕ) (before : List Placed) (ps : List PortSeen) (hs ms gs : List (List Event)) (firsts : List (List Call)) (rows : List (List Lane)) (jss : List (List Placed)) → Each (λ t. IsAsk t.1) before → PlacedTurns place ps before hs ms firsts
    → AreWorked place 0 ps ms gs rows jss → length rows ≡ callers → AreJournals callers ps ms gs → ((n i : ℕ) → together n i jss ≤ 1) → AllShared ps hs gs (append_each firsts (calls_by_port ps rows))
rows_shared callers place before [] [] [] [] [] rows jss a f w size j few = tt
rows_shared callers place before (p ∷ ps) (h ∷ hs) (m ∷ ms) (g ∷ gs) (c ∷ firsts) rows jss a f w size j few =
    let l = worked_column place 0 p m g ps ms gs rows jss w in
    let here = column_shared callers place before p h m g ps ms gs c rows jss a f.0 l size j few in
    (here.0, here.1, rows_shared callers (suc place) before ps hs ms gs firsts (other_columns rows) jss a f.1 l.others (l.others_size ∙ size) j.3 few)
rows_shared callers place before [] (h ∷ hs) ms gs firsts rows jss a f w size j few = absurd f
rows_shared callers place before [] [] (m ∷ ms) gs firsts rows jss a f w size j few = absurd f
rows_shared callers place before [] [] [] (g ∷ gs) firsts rows jss a f w size j few = absurd j
rows_shared callers place before [] [] [] [] (c ∷ firsts) rows jss a f w size j few = absurd f
rows_shared callers place before (p ∷ ps) [] ms gs firsts rows jss a f w size j few = absurd f
rows_shared callers place before (p ∷ ps) (h ∷ hs) [] gs firsts rows jss a f w size j few = absurd f
rows_shared callers place before (p ∷ ps) (h ∷ hs) (m ∷ ms) [] firsts rows jss a f w size j few = absurd j
rows_shared callers place before (p ∷ ps) (h ∷ hs) (m ∷ ms) (g ∷ gs) [] rows jss a f w size j few = absurd f

-- ---- the jobs of all callers are not more than those that were dealt

abbrev others_than : List ℕ → ℕ → List Placed → List Placed
others_than cs k js = filter (λ t. not (job_doer cs t.1 == k)) js

dealt_split : (p : Placed → Bool) (cs : List ℕ) (k : ℕ) (js : List Placed) → count p (deal cs k js) + count p (others_than cs k js) ≡ count p js
dealt_split p cs k [] = refl
dealt_split p cs k (j ∷ js) = by (job_doer cs j.1 == k) (p j) refl (dealt_split p cs k js)
  where
    by : (a b : Bool) → p j ≡ b → count p (deal cs k js) + count p (others_than cs k js) ≡ count p js
        → count p (if a then j ∷ deal cs k js else deal cs k js) + count p (if not a then j ∷ others_than cs k js else others_than cs k js) ≡ count p (j ∷ js)
    by true true e ih = omega (arith, ih, count_yes p j (deal cs k js) e, count_yes p j js e)
    by true false e ih = omega (arith, ih, count_no p j (deal cs k js) e, count_no p j js e)
    by false true e ih = omega (arith, ih, count_yes p j (others_than cs k js) e, count_yes p j js e)
    by false false e ih = omega (arith, ih, count_no p j (others_than cs k js) e, count_no p j js e)

dealt_other : (cs : List ℕ) (i k : ℕ) (js : List Placed) → k ≢ i → deal cs i (others_than cs k js) ≡ deal cs i js
dealt_other cs i k [] ne = refl
dealt_other cs i k (j ∷ js) ne = by (job_doer cs j.1 == k) (job_doer cs j.1 == i) refl refl (dealt_other cs i k js ne)
  where
    by : (a b : Bool) → (job_doer cs j.1 == k) ≡ a → (job_doer cs j.1 == i) ≡ b → deal cs i (others_than cs k js) ≡ deal cs i js
        → deal cs i (if not a then j ∷ others_than cs k js else others_than cs k js) ≡ (if b then j ∷ deal cs i js else deal cs i js)
    by true true e f ih = absurd (ne (sym (is_k e) ∙ is_i f))
      where
        is_k : (job_doer cs j.1 == k) ≡ true → job_doer cs j.1 ≡ k
        is_k e = eq_is (job_doer cs j.1) k e

        is_i : (job_doer cs j.1 == i) ≡ true → job_doer cs j.1 ≡ i
        is_i f = eq_is (job_doer cs j.1) i f
    by true false e f ih = ih
    by false true e f ih = rw f (ap (λ w. j ∷ w) ih)
    by false false e f ih = rw f ih

-- what each caller, from this number on, has done
abbrev pub done_by : List ℕ → List Placed → ℕ → List (List (List Placed)) → List (List Placed)
done_by cs all k [] = []
done_by cs all k (h ∷ hops) = with_hops (deal cs k all) h ∷ done_by cs all (suc k) hops

pub rows_worked : (macs cs : List ℕ) (all : List Placed) (k : ℕ) (ps : List PortSeen) (hs gs : List (List Event)) (rows : List (List Lane)) (hops : List (List (List Placed))) → AreHandedRows macs cs all k ps hs gs rows hops → AreWorked 0 k ps hs gs rows (done_by cs all k hops)
rows_worked macs cs all k ps hs gs [] [] a = tt
rows_worked macs cs all k ps hs gs (row ∷ rows) (h ∷ hops) a = (a.0, rows_worked macs cs all (suc k) ps hs gs rows hops a.2)
rows_worked macs cs all k ps hs gs [] (h ∷ hops) a = absurd a
rows_worked macs cs all k ps hs gs (row ∷ rows) [] a = absurd a

pub together_few : (macs cs : List ℕ) (n i k : ℕ) (all pool : List Placed) (ps : List PortSeen) (hs gs : List (List Event)) (rows : List (List Lane)) (hops : List (List (List Placed))) → ((j : ℕ) → k ≤ j → deal cs j pool ≡ deal cs j all)
    → AreHandedRows macs cs all k ps hs gs rows hops → together n i (done_by cs all k hops) ≤ count (λ t. is_job n t.1) pool
together_few macs cs n i k all pool ps hs gs [] [] same a = omega arith
together_few macs cs n i k all pool ps hs gs (row ∷ rows) (h ∷ hops) same a =
    let own = hops_few macs (map (λ l. l.track.calls) row) n i (deal cs k all) h a.1 in
    let rest = together_few macs cs n i (suc k) all (others_than cs k pool) ps hs gs rows hops (λ j le. dealt_other cs j k pool (λ e. omega (arith, e, le)) ∙ same j (omega (arith, le))) a.2 in
    omega (arith, own, rest, dealt_split (λ t. is_job n t.1) cs k pool, ap (count (λ (t : Placed). is_job n t.1)) (same k (omega arith)))
together_few macs cs n i k all pool ps hs gs [] (h ∷ hops) same a = absurd a
together_few macs cs n i k all pool ps hs gs (row ∷ rows) [] same a = absurd a

-- ---- a caller's calls are among all

pub record IsWithin (xs ys : List Call) : Type 0 where
  pub front : List Call
  pub back : List Call
  pub is : ys ≡ front ++ (xs ++ back)

column_split : (a : List (List Lane)) (l : Lane) (ls : List Lane) (b : List (List Lane)) → calls_in (column (a ++ (l ∷ ls) ∷ b)) ≡ calls_in (column a) ++ (l.track.calls ++ calls_in (column b))
column_split [] l ls b = refl
column_split ([] ∷ a) l ls b = column_split a l ls b
column_split ((m ∷ ms) ∷ a) l ls b = ap (λ w. m.track.calls ++ w) (column_split a l ls b) ∙ sym (append_assoc m.track.calls (calls_in (column a)) (l.track.calls ++ calls_in (column b)))

pub row_within : (place k i : ℕ) (before : List Placed) (ps : List PortSeen) (hs ms gs : List (List Event)) (firsts : List (List Call)) (a : List (List Lane)) (row : List Lane) (b : List (List Lane)) (js : List Placed) → PlacedTurns place ps before hs ms firsts
    → HasWorked place k ps ms gs row js → IsWithin (get_or (map (λ l. l.track.calls) row) i []) (get_or (append_each firsts (calls_by_port ps (a ++ row ∷ b))) i [])
row_within place k i before [] [] [] [] [] a [] b js f w = record { front = []; back = []; is = refl }
row_within place k zero before (p ∷ ps) (h ∷ hs) (m ∷ ms) (g ∷ gs) (c ∷ firsts) a (l ∷ ls) b js f w = record {
  front = c ++ calls_in (column a);
  back = calls_in (column b);
  is = ap (λ w. c ++ w) (column_split a l ls b) ∙ sym (append_assoc c (calls_in (column a)) (l.track.calls ++ calls_in (column b)));
}
row_within place k (suc i) before (p ∷ ps) (h ∷ hs) (m ∷ ms) (g ∷ gs) (c ∷ firsts) a (l ∷ ls) b js f w =
    subst (λ rows. IsWithin (get_or (map (λ l. l.track.calls) ls) i []) (get_or (append_each firsts (calls_by_port ps rows)) i [])) (sym (map_append (drop 1) a ((l ∷ ls) ∷ b)))
    (row_within (suc place) k i before ps hs ms gs firsts (other_columns a) ls (other_columns b) js f.1 w.2)
row_within place k i before [] [] [] [] [] a (l ∷ ls) b js f w = absurd w
row_within place k i before [] [] [] [] (c ∷ firsts) a row b js f w = absurd f
row_within place k i before [] [] [] (g ∷ gs) firsts a row b js f w = absurd w
row_within place k i before [] [] (m ∷ ms) gs firsts a row b js f w = absurd f
row_within place k i before [] (h ∷ hs) ms gs firsts a row b js f w = absurd f
row_within place k i before (p ∷ ps) [] ms gs firsts a row b js f w = absurd f
row_within place k i before (p ∷ ps) (h ∷ hs) [] gs firsts a row b js f w = absurd f
row_within place k i before (p ∷ ps) (h ∷ hs) (m ∷ ms) [] firsts a row b js f w = absurd w
row_within place k i before (p ∷ ps) (h ∷ hs) (m ∷ ms) (g ∷ gs) [] a row b js f w = absurd f
row_within place k i before (p ∷ ps) (h ∷ hs) (m ∷ ms) (g ∷ gs) (c ∷ firsts) a [] b js f w = absurd w

one_within : (macs : List ℕ) (xs ys : List Call) (j : Placed) (h : List Placed) → IsWithin xs ys → HasHanded macs xs j h → HasHanded macs ys j h
one_within macs xs ys j h w e = record {
  front = w.front ++ e.front;
  call = e.call;
  back = e.back ++ w.back;
  is = w.is ∙ (ap (λ v. w.front ++ (v ++ w.back)) e.is ∙ (ap (λ v. w.front ++ v) (append_assoc e.front (e.call ∷ e.back) w.back) ∙ sym (append_assoc w.front e.front (e.call ∷ (e.back ++ w.back)))));
  job = e.job;
  hops_are = e.hops_are;
}

pub handed_within : (macs : List ℕ) (own total : List (List Call)) (js : List Placed) (hops : List (List Placed)) → ((i : ℕ) → IsWithin (get_or own i []) (get_or total i [])) → HaveHanded macs own js hops → HaveHanded macs total js hops
handed_within macs own total [] [] w e = tt
handed_within macs own total (j ∷ js) (h ∷ hops) w e = (one_within macs (get_or own j.0 []) (get_or total j.0 []) j h (w j.0) e.0, handed_within macs own total js hops w e.1)
handed_within macs own total [] (h ∷ hops) w e = absurd e
handed_within macs own total (j ∷ js) [] w e = absurd e

-- ---- what is told

pub told_joined : (ps : List PortSeen) (hs gs : List (List Event)) (cs ds : List (List Call)) → ports_told ps hs gs cs ds ≡ told_of ps hs gs (append_each cs ds)
told_joined (p ∷ ps) (h ∷ hs) (g ∷ gs) (c ∷ cs) (d ∷ ds) = ap (λ w. port_told p h g (c ++ d) ∷ w) (told_joined ps hs gs cs ds)
told_joined [] hs gs cs ds = refl
told_joined (p ∷ ps) [] gs cs ds = refl
told_joined (p ∷ ps) (h ∷ hs) [] cs ds = refl
told_joined (p ∷ ps) (h ∷ hs) (g ∷ gs) [] ds = refl
told_joined (p ∷ ps) (h ∷ hs) (g ∷ gs) (c ∷ cs) [] = refl
