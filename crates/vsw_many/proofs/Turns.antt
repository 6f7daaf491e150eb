-- Jobs done in turn, stretch by stretch.
use Rattle.std.proofs.Common.{◌≡◌, ◌≢◌, ◌≤◌, ◌<◌, ℕ, zero, suc, ◌+◌, ◌==◌, not, true, false, List, [], ◌∷◌, ◌++◌, length, map, Some, slice_get, refl, ap, ap₂, sym, ◌∙◌, subst, arith, ne_eqb, eq-eqb}
use native.Mathlib.Decide.{ℕ_discrete}
use mathlib.Core.List.{IsPrefix}
use Rattle.vsw_pcap.specs.declared.capture.Record.{Record}
use Rattle.vsw_policy.specs.Sound.{Each}
use Rattle.vsw_promise.specs.Ports.{PortSeen, ports_of}
use Rattle.vsw_report.specs.declared.round.PortRound.{PortRound}
use Rattle.vsw_port.specs.declared.event.Event.{Event}
use Rattle.vsw_port.specs.Calls.{AreShares, Call, HasBytes, InOrder, IsCall, Job, calls_of, doer, entries_naming, job_doer, job_of, jobs_by, named}
use Rattle.vsw_port.specs.History.{AllRight, Opening}
use Rattle.vsw_port.proofs.Calls.{each_append, each_of_all, order_join, shares_join}
use Rattle.vsw_port.proofs.Fronts.{append_end, prefix_self, prefix_trans}
use Rattle.vsw_port.proofs.Next.{bytes_later, each_of}
use Rattle.vsw_history_law.proofs.Reports.{map_append}
use Rattle.vsw_promise.specs.Jobs.{Placed, Setting, at_place}
use Rattle.vsw_many.specs.Dealing.{deal, numbers_of}
use Rattle.vsw_promise.proofs.Handed.{place_append}
use Rattle.vsw_promise.specs.Rounds.{opening_of}
use Rattle.vsw_many.specs.Passes.{PassNow}
use Rattle.vsw_many.specs.Phases.{AreLanes, IsLane, IsPhase, Lane, SameByCaller, calls_in}
use Rattle.vsw_many.specs.Actors.{AreRows, HasWorked}
use Rattle.vsw_many.specs.Rounds.{AreJournals, PortTurn, Turns, calls_by_port, column, other_columns}
use Rattle.vsw_many.proofs.Passes.{all_of_one, each_weaker, none_of}
use Rattle.vsw_many.proofs.Orders.{each_same, shares_same}
use Rattle.vsw_many.proofs.Phases.{EachLane, by_lane, by_less, first_lane, lanes_bytes, lanes_doers, other_lanes, phase_shares}
use Rattle.vsw_many.proofs.Dealing.{AreNumbered, all_know, numbered, place_lines}
use Rattle.vsw_many.proofs.Rounds.{HasJobs, IsColumn, column_of, done_beside, each_place}
use Rattle.vsw_many.specs.Turns.{PlacedTurns, placed_before}
use Rattle.vsw_many.specs.Crew.{callers_in}
use Rattle.vsw_many.specs.CrewLaw.{BeforeTurns, JournalsBegin, JournalsEnd, JournalsJoin, OneCallerTurns, QuietTurns, RowsAreOwn, TurnsBegin, TurnsJoin}

-- ---- the lanes of all callers, out of their calls

own_doer : (ns : List ℕ) (k : ℕ) (cs : List Call) → Each (λ c. doer ns c.deed ≡ k) (calls_of ns k cs)
own_doer ns k [] = tt
own_doer ns k (c ∷ cs) = by (ℕ_discrete (doer ns c.deed) k) (own_doer ns k cs)
  where
    by : Dec (doer ns c.deed ≡ k) → Each (λ c. doer ns c.deed ≡ k) (calls_of ns k cs) → Each (λ c. doer ns c.deed ≡ k) (calls_of ns k (c ∷ cs))
    by (yes e) ih = let t : (doer ns c.deed == k) ≡ true = eq-eqb (doer ns c.deed) k e in rw t (e, ih)
    by (no ne) ih = let t : (doer ns c.deed == k) ≡ false = ne_eqb (doer ns c.deed) k ne in rw t ih

-- a caller's pass that rests at a history
abbrev pass_at : Opening → List Event → ℕ → PassNow
pass_at o h k = record { number = k; front = h; receipts = entries_naming o.controllers k h }

abbrev lane_for : Opening → List Event → List Event → List Call → ℕ → Lane
lane_for o h g calls k = record { track = record { start = pass_at o h k; now = pass_at o g k; calls = calls_of o.controllers k calls }; met = pass_at o g k }

is_lane : (o : Opening) (h g : List Event) (calls : List Call) (k : ℕ) → AreShares o h g calls → Each (HasBytes o g) calls → IsLane o h g k (lane_for o h g calls k)
is_lane o h g calls k s b = record {
  is = record {
    rest = record { number = refl; front = refl; receipts = refl };
    works = record { number = refl; seen = (s k).begins; each = (s k).each; bytes = each_of (HasBytes o g) o.controllers k calls b; in_order = (s k).in_order; receipts = (s k).entries };
    own = own_doer o.controllers k calls;
  };
  meets = record { number = refl; seen = prefix_self g; front = refl; kept = refl; own = refl };
}

-- as many lanes, from this number on
abbrev lanes_for : Opening → List Event → List Event → List Call → ℕ → ℕ → List Lane
lanes_for o h g calls k zero = []
lanes_for o h g calls k (suc n) = lane_for o h g calls k ∷ lanes_for o h g calls (suc k) n

are_lanes : (o : Opening) (h g : List Event) (calls : List Call) (k n : ℕ) → AreShares o h g calls → Each (HasBytes o g) calls → AreLanes o h g k (lanes_for o h g calls k n)
are_lanes o h g calls k zero s b = tt
are_lanes o h g calls k (suc n) s b = (is_lane o h g calls k s b, are_lanes o h g calls (suc k) n s b)

lanes_count : (o : Opening) (h g : List Event) (calls : List Call) (k n : ℕ) → length (lanes_for o h g calls k n) ≡ n
lanes_count o h g calls k zero = refl
lanes_count o h g calls k (suc n) = ap suc (lanes_count o h g calls (suc k) n)

lanes_hold : (o : Opening) (h g : List Event) (calls : List Call) (k n : ℕ) → EachLane (λ j cs. calls_of o.controllers j calls ≡ cs) k (lanes_for o h g calls k n)
lanes_hold o h g calls k zero = tt
lanes_hold o h g calls k (suc n) = (refl, lanes_hold o h g calls (suc k) n)

-- they hold these calls
same_lanes : (o : Opening) (h g : List Event) (calls : List Call) (n : ℕ) → AreShares o h g calls → Each (HasBytes o g) calls → Each (λ c. doer o.controllers c.deed < n) calls → SameByCaller o.controllers calls (calls_in (lanes_for o h g calls 0 n))
same_lanes o h g calls n s b within k = by_less k n (calls_of o.controllers k calls ≡ calls_of o.controllers k (calls_in lanes)) low high
  where
    lanes : List Lane
    lanes = lanes_for o h g calls 0 n

    are : AreLanes o h g 0 lanes
    are = are_lanes o h g calls 0 n s b

    count : length lanes ≡ n
    count = lanes_count o h g calls 0 n

    low : k < n → calls_of o.controllers k calls ≡ calls_of o.controllers k (calls_in lanes)
    low lt = by_lane o h g (λ j cs. calls_of o.controllers j calls ≡ cs) 0 lanes are (lanes_hold o h g calls 0 n) k (omega arith) (omega (arith, lt, count))

    high : n ≤ k → calls_of o.controllers k calls ≡ calls_of o.controllers k (calls_in lanes)
    high le =
        none_of o.controllers k calls (each_weaker (λ c. doer o.controllers c.deed < n) (λ c. doer o.controllers c.deed ≢ k) calls (λ c lt e. omega (arith, lt, e, le)) within)
        ∙ sym (none_of o.controllers k (calls_in lanes) (each_weaker (λ c. doer o.controllers c.deed < 0 + length lanes) (λ c. doer o.controllers c.deed ≢ k) (calls_in lanes) (λ c lt e. omega (arith, lt, e, le, count)) (lanes_doers o h g 0 lanes are)))

-- ---- a stretch at a port, without its lanes

-- jobs done in turn by callers below a number
pub record IsTurn (n : ℕ) (p : PortSeen) (h g : List Event) (jobs : List Job) (calls : List Call) : Type 0 where
  pub right : AllRight (opening_of p) g
  pub grows : IsPrefix h g
  pub named_all : Each (λ e. named p.controllers e < n) g
  pub doers : Each (λ c. doer p.controllers c.deed < n) calls
  pub shares : AreShares (opening_of p) h g calls
  pub bytes : Each (HasBytes (opening_of p) g) calls
  pub in_order : InOrder (length h) calls (length g)
  pub jobs_are : map (λ c. job_of c.deed) calls ≡ jobs

port_turn : (n : ℕ) (p : PortSeen) (h g : List Event) (jobs : List Job) (calls : List Call) → IsTurn n p h g jobs calls → PortTurn p h g jobs calls
port_turn n p h g jobs calls t =
    let o = opening_of p in
    let ls = lanes_for o h g calls 0 n in record {
      lanes = ls;
      phase = record { right = t.right; grows = t.grows; lanes = are_lanes o h g calls 0 n t.shares t.bytes; named_all = subst (λ m. Each (λ e. named p.controllers e < m) g) (sym (lanes_count o h g calls 0 n)) t.named_all };
      done = record { jobs_are = t.jobs_are; same = same_lanes o h g calls n t.shares t.bytes t.doers; in_order = t.in_order };
    }

pub is_turn : (p : PortSeen) (h g : List Event) (jobs : List Job) (calls : List Call) (t : PortTurn p h g jobs calls) → IsTurn (length t.lanes) p h g jobs calls
is_turn p h g jobs calls t = record {
  right = t.phase.right;
  grows = t.phase.grows;
  named_all = t.phase.named_all;
  doers = each_same (λ c. doer p.controllers c.deed < length t.lanes) p.controllers (calls_in t.lanes) calls t.done.same
      (each_weaker (λ c. doer p.controllers c.deed < 0 + length t.lanes) (λ c. doer p.controllers c.deed < length t.lanes) (calls_in t.lanes) (λ c lt. omega (arith, lt)) (lanes_doers (opening_of p) h g 0 t.lanes t.phase.lanes));
  shares = shares_same (opening_of p) h g (calls_in t.lanes) calls t.done.same (phase_shares (opening_of p) h g t.lanes t.phase);
  bytes = each_same (HasBytes (opening_of p) g) p.controllers (calls_in t.lanes) calls t.done.same (lanes_bytes (opening_of p) h g 0 t.lanes t.phase.lanes);
  in_order = t.done.in_order;
  jobs_are = t.done.jobs_are;
}

join_turn : (m n : ℕ) (p : PortSeen) (h f g : List Event) (js ks : List Job) (cs ds : List Call) → IsTurn m p h f js cs → IsTurn n p f g ks ds → IsTurn (m + n) p h g (js ++ ks) (cs ++ ds)
join_turn m n p h f g js ks cs ds a b =
    let o = opening_of p in record {
      right = b.right;
      grows = prefix_trans h f g a.grows b.grows;
      named_all = each_weaker (λ e. named p.controllers e < n) (λ e. named p.controllers e < m + n) g (λ e lt. omega (arith, lt)) b.named_all;
      doers = each_append (λ c. doer p.controllers c.deed < m + n) cs ds
          (each_weaker (λ c. doer p.controllers c.deed < m) (λ c. doer p.controllers c.deed < m + n) cs (λ c lt. omega (arith, lt)) a.doers)
          (each_weaker (λ c. doer p.controllers c.deed < n) (λ c. doer p.controllers c.deed < m + n) ds (λ c lt. omega (arith, lt)) b.doers);
      shares = shares_join o h f g cs ds a.shares b.shares;
      bytes = each_append (HasBytes o g) cs ds (bytes_later o f g cs b.grows (each_of_all (IsCall o f) p.controllers cs (λ k. (a.shares k).each)) a.bytes) b.bytes;
      in_order = order_join (length h) (length f) (length g) cs ds a.in_order b.in_order;
      jobs_are = map_append (λ c. job_of c.deed) cs ds ∙ ap₂ (λ x y. x ++ y) a.jobs_are b.jobs_are;
    }

empty_turn : (n : ℕ) (p : PortSeen) (h : List Event) → AllRight (opening_of p) h → Each (λ e. named p.controllers e < n) h → IsTurn n p h h [] []
empty_turn n p h right names = record {
  right = right;
  grows = prefix_self h;
  named_all = names;
  doers = tt;
  shares = λ k. record { begins = prefix_self h; each = tt; in_order = omega arith; entries = sym (append_end (entries_naming p.controllers k h)) };
  bytes = tt;
  in_order = omega arith;
  jobs_are = refl;
}

-- ---- histories

pub journals_begin : JournalsBegin
journals_begin n [] = tt
journals_begin n (p ∷ ps) = (tt, prefix_self [], tt, journals_begin n ps)

pub journals_end : JournalsEnd
journals_end n [] [] [] j = tt
journals_end n (p ∷ ps) (h ∷ hs) (g ∷ gs) j = (j.0, prefix_self g, j.2, journals_end n ps hs gs j.3)
journals_end n [] (h ∷ hs) gs j = absurd j
journals_end n [] [] (g ∷ gs) j = absurd j
journals_end n (p ∷ ps) [] gs j = absurd j
journals_end n (p ∷ ps) (h ∷ hs) [] j = absurd j

pub journals_join : JournalsJoin
journals_join n [] [] [] [] j k = tt
journals_join n (p ∷ ps) (h ∷ hs) (m ∷ ms) (g ∷ gs) j k = (k.0, prefix_trans h m g j.1 k.1, k.2, journals_join n ps hs ms gs j.3 k.3)
journals_join n [] (h ∷ hs) ms gs j k = absurd j
journals_join n [] [] (m ∷ ms) gs j k = absurd j
journals_join n [] [] [] (g ∷ gs) j k = absurd k
journals_join n (p ∷ ps) [] ms gs j k = absurd j
journals_join n (p ∷ ps) (h ∷ hs) [] gs j k = absurd j
journals_join n (p ∷ ps) (h ∷ hs) (m ∷ ms) [] j k = absurd k

-- ---- stretches

pub turns_begin : TurnsBegin
turns_begin n i [] [] j = tt
turns_begin n i (p ∷ ps) (h ∷ hs) j = (port_turn n p h h [] [] (empty_turn n p h j.0 j.2), turns_begin n (suc i) ps hs j.3)
turns_begin n i [] (h ∷ hs) j = absurd j
turns_begin n i (p ∷ ps) [] j = absurd j

join_ports : (p : PortSeen) (h f g : List Event) (js ks : List Job) (cs ds : List Call) → PortTurn p h f js cs → PortTurn p f g ks ds → PortTurn p h g (js ++ ks) (cs ++ ds)
join_ports p h f g js ks cs ds a b = port_turn (length a.lanes + length b.lanes) p h g (js ++ ks) (cs ++ ds) (join_turn (length a.lanes) (length b.lanes) p h f g js ks cs ds (is_turn p h f js cs a) (is_turn p f g ks ds b))

pub turns_join : TurnsJoin
turns_join i [] js ks [] [] [] [] [] a b = tt
turns_join i (p ∷ ps) js ks (h ∷ hs) (m ∷ ms) (g ∷ gs) (c ∷ cs) (d ∷ ds) a b =
    (subst (λ w. PortTurn p h g w (c ++ d)) (sym (place_append i js ks)) (join_ports p h m g (at_place i js) (at_place i ks) c d a.0 b.0), turns_join (suc i) ps js ks hs ms gs cs ds a.1 b.1)
turns_join i [] js ks (h ∷ hs) ms gs cs ds a b = absurd a
turns_join i [] js ks [] (m ∷ ms) gs cs ds a b = absurd a
turns_join i [] js ks [] [] (g ∷ gs) cs ds a b = absurd b
turns_join i [] js ks [] [] [] (c ∷ cs) ds a b = absurd a
turns_join i [] js ks [] [] [] [] (d ∷ ds) a b = absurd b
turns_join i (p ∷ ps) js ks [] ms gs cs ds a b = absurd a
turns_join i (p ∷ ps) js ks (h ∷ hs) [] gs cs ds a b = absurd a
turns_join i (p ∷ ps) js ks (h ∷ hs) (m ∷ ms) [] cs ds a b = absurd b
turns_join i (p ∷ ps) js ks (h ∷ hs) (m ∷ ms) (g ∷ gs) [] ds a b = absurd a
turns_join i (p ∷ ps) js ks (h ∷ hs) (m ∷ ms) (g ∷ gs) (c ∷ cs) [] a b = absurd b

-- ---- one caller's jobs

jobs_of_one : (ns : List ℕ) (k : ℕ) (js : List Job) → Each (λ j. job_doer ns j ≡ k) js → jobs_by ns k js ≡ js
jobs_of_one ns k [] e = refl
jobs_of_one ns k (j ∷ js) e = let t : (job_doer ns j == k) ≡ true = eq-eqb (job_doer ns j) k e.0 in rw t (ap (λ w. j ∷ w) (jobs_of_one ns k js e.1))

jobs_of_others : (ns : List ℕ) (k n : ℕ) (js : List Job) → n ≢ k → Each (λ j. job_doer ns j ≡ k) js → jobs_by ns n js ≡ []
jobs_of_others ns k n [] ne e = refl
jobs_of_others ns k n (j ∷ js) ne e = let t : (job_doer ns j == n) ≡ false = ne_eqb (job_doer ns j) n (λ f. ne (sym f ∙ e.0)) in rw t (jobs_of_others ns k n js ne e.1)

no_jobs : (cs : List Call) → map (λ c. job_of c.deed) cs ≡ [] → cs ≡ []
no_jobs [] e = refl
no_jobs (c ∷ cs) e = absurd (cc e)

-- where all callers have done their own of one's jobs at a port, they are done in turn
caller_turn : (p : PortSeen) (h g : List Event) (i k : ℕ) (jobs : List Placed) (lanes : List Lane) → Each (λ t. job_doer p.controllers t.1 ≡ k) jobs → k < length lanes → IsPhase (opening_of p) h g lanes
    → EachLane (HasJobs (λ k. at_place i (deal p.controllers k jobs))) 0 lanes → PortTurn p h g (at_place i jobs) (calls_in lanes)
caller_turn p h g i k jobs lanes all lt phase did = record {
  lanes = lanes;
  phase = phase;
  done = record { jobs_are = ap (map (λ c. job_of c.deed)) (sym whole) ∙ (beside k ∙ jobs_of_one p.controllers k (at_place i jobs) here); same = λ n. refl; in_order = subst (λ w. InOrder (length h) w (length g)) whole (phase_shares (opening_of p) h g lanes phase k).in_order };
}
  where
    here : Each (λ j. job_doer p.controllers j ≡ k) (at_place i jobs)
    here = each_place (λ j. job_doer p.controllers j ≡ k) i jobs all

    beside : (n : ℕ) → map (λ c. job_of c.deed) (calls_of p.controllers n (calls_in lanes)) ≡ jobs_by p.controllers n (at_place i jobs)
    beside = done_beside (opening_of p) h g jobs i lanes (at_place i jobs) phase.lanes did refl
        (each_weaker (λ t. job_doer p.controllers t.1 ≡ k) (λ t. job_doer p.controllers t.1 < length lanes) jobs (λ t e. omega (arith, e, lt)) all)

    by : (n : ℕ) → Dec (n ≡ k) → Each (λ c. doer p.controllers c.deed ≡ k) (calls_of p.controllers n (calls_in lanes))
    by n (yes e) = subst (λ m. Each (λ c. doer p.controllers c.deed ≡ k) (calls_of p.controllers m (calls_in lanes))) (sym e) (own_doer p.controllers k (calls_in lanes))
    by n (no ne) = subst (Each (λ c. doer p.controllers c.deed ≡ k)) (sym (no_jobs (calls_of p.controllers n (calls_in lanes)) (beside n ∙ jobs_of_others p.controllers k n (at_place i jobs) ne here))) tt

    whole : calls_of p.controllers k (calls_in lanes) ≡ calls_in lanes
    whole = all_of_one p.controllers k (calls_in lanes) (each_of_all (λ c. doer p.controllers c.deed ≡ k) p.controllers (calls_in lanes) (λ n. by n (ℕ_discrete n k)))

-- all lanes of a port are a phase of it
pub column_phase : (ns : List ℕ) (all : List Placed) (i n : ℕ) (p : PortSeen) (h g : List Event) (ps : List PortSeen) (hs gs : List (List Event)) (rows : List (List Lane)) → length rows ≡ n → IsColumn ns all i 0 p h g ps hs gs rows
    → AllRight (opening_of p) g → IsPrefix h g → Each (λ e. named p.controllers e < n) g → IsPhase (opening_of p) h g (column rows)
column_phase ns all i n p h g ps hs gs rows size l right grows names = record { right = right; grows = grows; lanes = l.lanes; named_all = subst (λ m. Each (λ e. named p.controllers e < m) g) (sym (l.size ∙ size)) names }

caller_turns : (ns : List ℕ) (i k n : ℕ) (jobs : List Placed) (ps : List PortSeen) (hs gs : List (List Event)) (rows : List (List Lane)) → Each (λ p. p.controllers ≡ ns) ps → Each (λ t. job_doer ns t.1 ≡ k) jobs → k < n → length rows ≡ n
    → AreRows ns jobs i 0 ps hs gs rows → AreJournals n ps hs gs → PlacedTurns i ps jobs hs gs (calls_by_port ps rows)
caller_turns ns i k n jobs [] [] [] rows same all lt size a j = tt
caller_turns ns i k n jobs (p ∷ ps) (h ∷ hs) (g ∷ gs) rows same all lt size a j =
    let l = column_of ns jobs i 0 p h g ps hs gs rows a in
    let many : n ≡ length (column rows) = sym (l.size ∙ size) in
    let phase = column_phase ns jobs i n p h g ps hs gs rows size l j.0 j.1 j.2 in (
      caller_turn p h g i k jobs (column rows) (subst (λ w. Each (λ t. job_doer w t.1 ≡ k) jobs) (sym same.0) all) (subst (λ m. k < m) many lt) phase
          (subst (λ w. EachLane (HasJobs (λ k. at_place i (deal w k jobs))) 0 (column rows)) (sym same.0) l.did),
      caller_turns ns (suc i) k n jobs ps hs gs (other_columns rows) same.1 all lt (l.others_size ∙ size) l.others j.3,
    )
caller_turns ns i k n jobs [] (h ∷ hs) gs rows same all lt size a j = absurd j
caller_turns ns i k n jobs [] [] (g ∷ gs) rows same all lt size a j = absurd j
caller_turns ns i k n jobs (p ∷ ps) [] gs rows same all lt size a j = absurd j
caller_turns ns i k n jobs (p ∷ ps) (h ∷ hs) [] rows same all lt size a j = absurd j

pub one_caller_turns : OneCallerTurns
one_caller_turns s jobs k hs gs rows all lt size a j = caller_turns s.policy.controllers 0 k (callers_in s) jobs (ports_of s.policy) hs gs rows (all_know s.policy.controllers s.policy.ports) all lt size a j

-- ---- where callers only met

-- no jobs are no calls
idle_calls : (i : ℕ) (ps : List PortSeen) (hs gs : List (List Event)) (calls : List (List Call)) → PlacedTurns i ps [] hs gs calls → calls ≡ map (λ p. []) ps
idle_calls i [] [] [] [] t = refl
idle_calls i (p ∷ ps) (h ∷ hs) (g ∷ gs) (c ∷ cs) t = ap₂ (λ x y. x ∷ y) (no_jobs c t.0.done.jobs_are) (idle_calls (suc i) ps hs gs cs t.1)
idle_calls i [] (h ∷ hs) gs cs t = absurd t
idle_calls i [] [] (g ∷ gs) cs t = absurd t
idle_calls i [] [] [] (c ∷ cs) t = absurd t
idle_calls i (p ∷ ps) [] gs cs t = absurd t
idle_calls i (p ∷ ps) (h ∷ hs) [] cs t = absurd t
idle_calls i (p ∷ ps) (h ∷ hs) (g ∷ gs) [] t = absurd t

pub quiet_turns : QuietTurns
quiet_turns s hs gs rows size a j =
    let t = one_caller_turns s [] 0 hs gs rows tt (omega arith) size a j in
    let none = idle_calls 0 (ports_of s.policy) hs gs (calls_by_port (ports_of s.policy) rows) t in
    record { none = none; turns = subst (PlacedTurns 0 (ports_of s.policy) [] hs gs) none t }

-- ---- the commands of a round

before_by_port : (s : Setting) (records : List Record) (told : List PortRound) (first next i : ℕ) (ps : List PortSeen) (hs gs : List (List Event)) (calls : List (List Call)) → AreNumbered s.policy.controllers (numbers_of s.policy) i ps
    → PlacedTurns i ps (placed_before (numbers_of s.policy) s.commands first) hs gs calls → Turns (λ j. j.first) s records told first next i ps hs gs calls
before_by_port s records told first next i [] [] [] [] n t = tt
before_by_port s records told first next i (p ∷ ps) (h ∷ hs) (g ∷ gs) (c ∷ cs) n t =
    (subst (λ w. PortTurn p h g w c) (place_lines (λ l. not l.during) (numbers_of s.policy) s.commands first i p.number n.1 n.2) t.0, before_by_port s records told first next (suc i) ps hs gs cs n.3 t.1)
before_by_port s records told first next i [] (h ∷ hs) gs cs n t = absurd t
before_by_port s records told first next i [] [] (g ∷ gs) cs n t = absurd t
before_by_port s records told first next i [] [] [] (c ∷ cs) n t = absurd t
before_by_port s records told first next i (p ∷ ps) [] gs cs n t = absurd t
before_by_port s records told first next i (p ∷ ps) (h ∷ hs) [] cs n t = absurd t
before_by_port s records told first next i (p ∷ ps) (h ∷ hs) (g ∷ gs) [] n t = absurd t

pub before_turns : BeforeTurns
before_turns s records told first next hs gs calls apart t = before_by_port s records told first next 0 (ports_of s.policy) hs gs calls (numbered s apart) t

-- ---- a caller's row

-- the calls of the lane at a place are those of its caller
own_lane : (o : Opening) (h g : List Event) (n j : ℕ) (ls : List Lane) (l : Lane) → AreLanes o h g n ls → slice_get ls j ≡ Some l → calls_of o.controllers (n + j) (calls_in ls) ≡ l.track.calls
own_lane o h g n j [] l a e = absurd cc
own_lane o h g n zero (m ∷ ls) l a e =
    let same : m ≡ l = cc e in
    let at : n + 0 ≡ n = omega arith in
    ap (λ k. calls_of o.controllers k (calls_in (m ∷ ls))) at ∙ (first_lane o h g n m ls a ∙ ap (λ l. l.track.calls) same)
own_lane o h g n (suc j) (m ∷ ls) l a e =
    let at : n + suc j ≡ suc n + j = omega arith in
    other_lanes o h g n m ls a (n + suc j) (λ f. omega (arith, f)) ∙ (ap (λ k. calls_of o.controllers k (calls_in ls)) at ∙ own_lane o h g (suc n) j ls l a.1 e)

-- the first lane of a row stands in the column, and the others in the other columns
record StandsIn (k : ℕ) (l : Lane) (ls : List Lane) (rows : List (List Lane)) : Type 0 where
  here : slice_get (column rows) k ≡ Some l
  others : slice_get (other_columns rows) k ≡ Some ls

stands_in : (ns : List ℕ) (jobs : List Placed) (i n k : ℕ) (p : PortSeen) (h g : List Event) (ps : List PortSeen) (hs gs : List (List Event)) (rows : List (List Lane)) (l : Lane) (ls : List Lane) → AreRows ns jobs i n (p ∷ ps) (h ∷ hs) (g ∷ gs) rows
    → slice_get rows k ≡ Some (l ∷ ls) → StandsIn k l ls rows
stands_in ns jobs i n k p h g ps hs gs [] l ls a e = absurd cc
stands_in ns jobs i n zero p h g ps hs gs ((m ∷ ms) ∷ rows) l ls a e =
    let same : m ∷ ms ≡ l ∷ ls = cc e in
    let head : m ≡ l = cc same in
    let tail : ms ≡ ls = cc same in
    record { here = ap Some head; others = ap Some tail }
stands_in ns jobs i n (suc k) p h g ps hs gs ((m ∷ ms) ∷ rows) l ls a e =
    let rest = stands_in ns jobs i (suc n) k p h g ps hs gs rows l ls a.1 e in
    record { here = rest.here; others = rest.others }
stands_in ns jobs i n k p h g ps hs gs ([] ∷ rows) l ls a e = absurd a.0

-- it has a lane at each port
row_worked : (ns : List ℕ) (jobs : List Placed) (i n k : ℕ) (ps : List PortSeen) (hs gs : List (List Event)) (rows : List (List Lane)) (row : List Lane) → AreRows ns jobs i n ps hs gs rows → slice_get rows k ≡ Some row
    → HasWorked i (n + k) ps hs gs row (deal ns (n + k) jobs)
row_worked ns jobs i n k ps hs gs [] row a e = absurd cc
row_worked ns jobs i n zero ps hs gs (r ∷ rows) row a e =
    let same : r ≡ row = cc e in
    let at : n ≡ n + 0 = omega arith in
    subst (λ k. HasWorked i k ps hs gs row (deal ns k jobs)) at (subst (λ w. HasWorked i n ps hs gs w (deal ns n jobs)) same a.0)
row_worked ns jobs i n (suc k) ps hs gs (r ∷ rows) row a e =
    let at : suc n + k ≡ n + suc k = omega arith in
    subst (λ k. HasWorked i k ps hs gs row (deal ns k jobs)) at (row_worked ns jobs i (suc n) k ps hs gs rows row a.1 e)

pub rows_are_own : RowsAreOwn
rows_are_own ns jobs i k [] [] [] rows [] a e = tt
rows_are_own ns jobs i k (p ∷ ps) (h ∷ hs) (g ∷ gs) rows (l ∷ ls) a e =
    let c = column_of ns jobs i 0 p h g ps hs gs rows a in
    let s = stands_in ns jobs i 0 k p h g ps hs gs rows l ls a e in
    let at : k ≡ 0 + k = omega arith in
    (ap (λ k. calls_of p.controllers k (calls_in (column rows))) at ∙ own_lane (opening_of p) h g 0 k (column rows) l c.lanes s.here, rows_are_own ns jobs (suc i) k ps hs gs (other_columns rows) ls c.others s.others)
rows_are_own ns jobs i k [] [] [] rows (l ∷ ls) a e = absurd (row_worked ns jobs i 0 k [] [] [] rows (l ∷ ls) a e)
rows_are_own ns jobs i k [] [] (g ∷ gs) rows row a e = absurd (row_worked ns jobs i 0 k [] [] (g ∷ gs) rows row a e)
rows_are_own ns jobs i k [] (h ∷ hs) gs rows row a e = absurd (row_worked ns jobs i 0 k [] (h ∷ hs) gs rows row a e)
rows_are_own ns jobs i k (p ∷ ps) [] gs rows row a e = absurd (row_worked ns jobs i 0 k (p ∷ ps) [] gs rows row a e)
rows_are_own ns jobs i k (p ∷ ps) (h ∷ hs) [] rows row a e = absurd (row_worked ns jobs i 0 k (p ∷ ps) (h ∷ hs) [] rows row a e)
rows_are_own ns jobs i k (p ∷ ps) (h ∷ hs) (g ∷ gs) rows [] a e = absurd (row_worked ns jobs i 0 k (p ∷ ps) (h ∷ hs) (g ∷ gs) rows [] a e)
