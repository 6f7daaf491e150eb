-- The round of a port, from what its passes did.
use Rattle.std.proofs.Common.{◌≡◌, ◌≢◌, ◌≤◌, ◌<◌, ℕ, suc, ◌+◌, ◌-◌, ◌==◌, Bool, true, false, nat_lt, List, [], ◌∷◌, ◌++◌, length, map, take, refl, ap, sym, ◌∙◌, subst, arith, length-append, ne_eqb}
use Rattle.std.proofs.lemmas.Grind.{common_steps}
use native.Mathlib.Decide.{ℕ_discrete}
use mathlib.Core.List.{IsPrefix}
use Rattle.vsw_policy.specs.Sound.{Each}
use Rattle.vsw_promise.specs.Ports.{PortSeen}
use Rattle.vsw_port.specs.declared.event.Event.{Event}
use Rattle.vsw_port.specs.Calls.{Job, Call, job_of, doer, named, calls_of, entries_of, entries_naming, IsCall, HasBytes, IsShare, AreShares, IsOneOrder}
use Rattle.vsw_port.specs.History.{Opening}
use Rattle.vsw_port.proofs.Fronts.{prefix_trans, prefix_length, append_end}
use Rattle.vsw_port.proofs.Calls.{each_append, each_of_all, calls_append, shares_join, order_join}
use Rattle.vsw_port.proofs.Next.{take_front, bytes_later}
use Rattle.vsw_promise.specs.Jobs.{Jobs}
use Rattle.vsw_promise.specs.Rounds.{opening_of, IsPortRound}
use Rattle.vsw_promise.proofs.PortRounds.{each_low, take_whole}
use Rattle.vsw_many.specs.Law.{PortIsRound}
use Rattle.vsw_many.specs.Phases.{Lane, AreLanes, calls_in, IsPhase, SameByCaller, DoneInTurn, PortDone, port_told}
use Rattle.vsw_many.proofs.Passes.{share_of_pass, bytes_of_pass, none_of, all_of_one, each_weaker}
use Rattle.vsw_many.proofs.Orders.{one_order, assemble, shares_same, each_same, same_behind, order_is_free}

-- ---- lanes

-- the lanes from one number on hold no calls of a lower one
lanes_above : (o : Opening) (h g : List Event) (n : ℕ) (ls : List Lane) → AreLanes o h g n ls → (k : ℕ) → k < n → calls_of o.controllers k (calls_in ls) ≡ []
lanes_above o h g n [] a k lt = refl
lanes_above o h g n (l ∷ ls) a k lt =
    calls_append o.controllers k l.track.calls (calls_in ls)
    ∙ (ap (λ w. w ++ calls_of o.controllers k (calls_in ls)) (none_of o.controllers k l.track.calls (each_weaker (λ c. doer o.controllers c.deed ≡ n) (λ c. doer o.controllers c.deed ≢ k) l.track.calls (λ c e f. omega (arith, e, f, lt)) a.0.is.own))
    ∙ lanes_above o h g (suc n) ls a.1 k (omega (arith, lt)))

-- the first lane holds all calls of its number, and none of another's
pub first_lane : (o : Opening) (h g : List Event) (n : ℕ) (l : Lane) (ls : List Lane) → AreLanes o h g n (l ∷ ls) → calls_of o.controllers n (calls_in (l ∷ ls)) ≡ l.track.calls
first_lane o h g n l ls a =
    calls_append o.controllers n l.track.calls (calls_in ls)
    ∙ (ap (λ w. w ++ calls_of o.controllers n (calls_in ls)) (all_of_one o.controllers n l.track.calls a.0.is.own)
    ∙ (ap (λ w. l.track.calls ++ w) (lanes_above o h g (suc n) ls a.1 n (omega arith)) ∙ append_end l.track.calls))

pub other_lanes : (o : Opening) (h g : List Event) (n : ℕ) (l : Lane) (ls : List Lane) → AreLanes o h g n (l ∷ ls) → (k : ℕ) → n ≢ k → calls_of o.controllers k (calls_in (l ∷ ls)) ≡ calls_of o.controllers k (calls_in ls)
other_lanes o h g n l ls a k ne =
    calls_append o.controllers k l.track.calls (calls_in ls)
    ∙ ap (λ w. w ++ calls_of o.controllers k (calls_in ls)) (none_of o.controllers k l.track.calls (each_weaker (λ c. doer o.controllers c.deed ≡ n) (λ c. doer o.controllers c.deed ≢ k) l.track.calls (λ c e f. ne (sym e ∙ f)) a.0.is.own))

-- of each lane and its number, from this one on
abbrev pub EachLane : (ℕ → List Call → Type 0) → ℕ → List Lane → Type 0
EachLane P n [] = Unit {0}
EachLane P n (l ∷ ls) = P n l.track.calls × EachLane P (suc n) ls

-- what holds of each lane's calls holds of the calls of each number
pub by_lane : (o : Opening) (h g : List Event) (P : ℕ → List Call → Type 0) (n : ℕ) (ls : List Lane) → AreLanes o h g n ls → EachLane P n ls → (k : ℕ) → n ≤ k → k < n + length ls → P k (calls_of o.controllers k (calls_in ls))
by_lane o h g P n [] a e k ge lt = absurd (omega (arith, ge, lt))
by_lane o h g P n (l ∷ ls) a e k ge lt = by (ℕ_discrete n k) (λ le. by_lane o h g P (suc n) ls a.1 e.1 k le (omega (arith, lt)))
  where
    by : Dec (n ≡ k) → (suc n ≤ k → P k (calls_of o.controllers k (calls_in ls))) → P k (calls_of o.controllers k (calls_in (l ∷ ls)))
    by (yes same) more = subst (λ k. P k (calls_of o.controllers k (calls_in (l ∷ ls)))) same (subst (P n) (sym (first_lane o h g n l ls a)) e.0)
    by (no ne) more = subst (P k) (sym (other_lanes o h g n l ls a k ne)) (more (omega (arith, ge, ne)))

lanes_shared : (o : Opening) (h g : List Event) (n : ℕ) (ls : List Lane) → AreLanes o h g n ls → EachLane (λ k cs. IsShare o h g k cs) n ls
lanes_shared o h g n [] a = tt
lanes_shared o h g n (l ∷ ls) a = (share_of_pass o h g n l.track.start l.track.now l.met l.track.calls a.0.is.rest a.0.is.works a.0.meets, lanes_shared o h g (suc n) ls a.1)

pub lanes_doers : (o : Opening) (h g : List Event) (n : ℕ) (ls : List Lane) → AreLanes o h g n ls → Each (λ c. doer o.controllers c.deed < n + length ls) (calls_in ls)
lanes_doers o h g n [] a = tt
lanes_doers o h g n (l ∷ ls) a = each_append (λ c. doer o.controllers c.deed < n + length (l ∷ ls)) l.track.calls (calls_in ls)
    (each_weaker (λ c. doer o.controllers c.deed ≡ n) (λ c. doer o.controllers c.deed < n + length (l ∷ ls)) l.track.calls (λ c e. omega (arith, e)) a.0.is.own)
    (each_weaker (λ c. doer o.controllers c.deed < suc n + length ls) (λ c. doer o.controllers c.deed < n + length (l ∷ ls)) (calls_in ls) (λ c e. omega (arith, e)) (lanes_doers o h g (suc n) ls a.1))

pub lanes_bytes : (o : Opening) (h g : List Event) (n : ℕ) (ls : List Lane) → AreLanes o h g n ls → Each (HasBytes o g) (calls_in ls)
lanes_bytes o h g n [] a = tt
lanes_bytes o h g n (l ∷ ls) a = each_append (HasBytes o g) l.track.calls (calls_in ls) (bytes_of_pass o g l.track.start l.track.now l.met l.track.calls a.0.is.works a.0.meets) (lanes_bytes o h g (suc n) ls a.1)

lanes_low : (o : Opening) (h g : List Event) (n : ℕ) (ls : List Lane) → AreLanes o h g n ls → Each (λ c. length h ≤ c.count) (calls_in ls)
lanes_low o h g n [] a = tt
lanes_low o h g n (l ∷ ls) a = each_append (λ c. length h ≤ c.count) l.track.calls (calls_in ls)
    (subst (λ f. Each (λ c. length f ≤ c.count) l.track.calls) a.0.is.rest.front (each_low (length l.track.start.front) (length l.track.now.front) l.track.calls a.0.is.works.in_order))
    (lanes_low o h g (suc n) ls a.1)

-- ---- all callers

lt_true : (m n : ℕ) → nat_lt m n ≡ true → m < n
lt_true m n h = grind (arith, common_steps)

lt_false : (m n : ℕ) → nat_lt m n ≡ false → n ≤ m
lt_false m n h = grind (arith, common_steps)

pub by_less : (m n : ℕ) (P : Type 0) → (m < n → P) → (n ≤ m → P) → P
by_less m n P low high = by (nat_lt m n) refl
  where
    by : (b : Bool) → nat_lt m n ≡ b → P
    by true t = low (lt_true m n t)
    by false t = high (lt_false m n t)

none_named : (ns : List ℕ) (k : ℕ) (h : List Event) → Each (λ e. named ns e ≢ k) h → entries_naming ns k h ≡ []
none_named ns k [] e = refl
none_named ns k (x ∷ h) e = let t : (named ns x == k) ≡ false = ne_eqb (named ns x) k e.0 in rw t (none_named ns k h e.1)

each_front : {A : Type 0} (P : A → Type 0) (xs ys : List A) → IsPrefix xs ys → Each P ys → Each P xs
each_front {A = A} P xs ys p e = front xs p.0 (subst (Each P) (sym p.1) e)
  where
    front : (xs zs : List A) → Each P (xs ++ zs) → Each P xs
    front [] zs e = tt
    front (x ∷ xs) zs e = (e.0, front xs zs e.1)

-- a number that no call and no entry names has the empty share
idle_share : (o : Opening) (h g : List Event) (n k : ℕ) (cs : List Call) → n ≤ k → IsPrefix h g → Each (λ e. named o.controllers e < n) g → Each (λ c. doer o.controllers c.deed < n) cs → IsShare o h g k (calls_of o.controllers k cs)
idle_share o h g n k cs le grows names doers =
    let none : calls_of o.controllers k cs ≡ [] = none_of o.controllers k cs (each_weaker (λ c. doer o.controllers c.deed < n) (λ c. doer o.controllers c.deed ≢ k) cs (λ c lt e. omega (arith, lt, e, le)) doers) in
    let now : entries_naming o.controllers k g ≡ [] = none_named o.controllers k g (each_weaker (λ e. named o.controllers e < n) (λ e. named o.controllers e ≢ k) g (λ e lt f. omega (arith, lt, f, le)) names) in
    let before : entries_naming o.controllers k h ≡ [] = none_named o.controllers k h (each_weaker (λ e. named o.controllers e < n) (λ e. named o.controllers e ≢ k) h (λ e lt f. omega (arith, lt, f, le)) (each_front (λ e. named o.controllers e < n) h g grows names)) in
    subst (λ w. IsShare o h g k w) (sym none) (record { begins = grows; each = tt; in_order = prefix_length h g grows; entries = now ∙ (sym before ∙ sym (append_end (entries_naming o.controllers k h))) })

-- the shares of all callers, of those with no calls too
pub phase_shares : (o : Opening) (h g : List Event) (ls : List Lane) → IsPhase o h g ls → AreShares o h g (calls_in ls)
phase_shares o h g ls p k = by_less k (length ls) (IsShare o h g k (calls_of o.controllers k (calls_in ls)))
    (λ lt. by_lane o h g (λ k cs. IsShare o h g k cs) 0 ls p.lanes (lanes_shared o h g 0 ls p.lanes) k (omega arith) (omega (arith, lt)))
    (λ le. idle_share o h g (length ls) k (calls_in ls) le p.grows p.named_all
    (each_weaker (λ c. doer o.controllers c.deed < 0 + length ls) (λ c. doer o.controllers c.deed < length ls) (calls_in ls) (λ c lt. omega (arith, lt)) (lanes_doers o h g 0 ls p.lanes)))

-- jobs done in turn are in one order
turn_order : (o : Opening) (h g : List Event) (ls : List Lane) (jobs : List Job) (calls : List Call) → IsPhase o h g ls → DoneInTurn o h g ls jobs calls → IsOneOrder h g calls
turn_order o h g ls jobs calls p t = one_order o h g calls p.grows (shares_same o h g (calls_in ls) calls t.same (phase_shares o h g ls p)) t.in_order

-- ---- a port's round

first_shares : (workers : ℕ) (p : PortSeen) (h g : List Event) (jobs : Jobs) (first later : List Call) (d : PortDone workers p h g jobs first later) → AreShares (opening_of p) h d.middle first
first_shares workers p h g jobs first later d = shares_same (opening_of p) h d.middle (calls_in d.firsts) first d.first_done.same (phase_shares (opening_of p) h d.middle d.firsts d.first_phase)

all_shares : (workers : ℕ) (p : PortSeen) (h g : List Event) (jobs : Jobs) (first later : List Call) (d : PortDone workers p h g jobs first later) (calls : List Call) → SameByCaller p.controllers calls (calls_in d.lasts) → AreShares (opening_of p) h g (first ++ calls)
all_shares workers p h g jobs first later d calls same =
    shares_join (opening_of p) h d.middle g first calls (first_shares workers p h g jobs first later d) (shares_same (opening_of p) d.middle g (calls_in d.lasts) calls same (phase_shares (opening_of p) d.middle g d.lasts d.last_phase))

-- the later calls in an order that is the jobs'
round_with : (workers : ℕ) (p : PortSeen) (h g : List Event) (jobs : Jobs) (first later : List Call) (d : PortDone workers p h g jobs first later) (calls : List Call) → map (λ c. job_of c.deed) calls ≡ jobs.later → SameByCaller p.controllers calls (calls_in d.lasts)
    → (workers ≡ 1 → IsOneOrder h g (first ++ calls)) → IsPortRound workers p g jobs (port_told p h g (first ++ later))
round_with workers p h g jobs first later d calls calls_jobs same one = record {
  port = refl;
  low = prefix_length h g grows;
  high = omega arith;
  first = first;
  later = calls;
  first_jobs = d.first_done.jobs_are;
  later_jobs = calls_jobs;
  shares = subst (λ w. AreShares o w (take (length g) g) (first ++ calls)) (sym start) (subst (λ w. AreShares o h w (first ++ calls)) (sym end) (all_shares workers p h g jobs first later d calls same));
  bytes = each_append (HasBytes o g) first calls
      (bytes_later o d.middle g first d.last_phase.grows first_calls (each_same (HasBytes o d.middle) p.controllers (calls_in d.firsts) first d.first_done.same (lanes_bytes o h d.middle 0 d.firsts d.first_phase.lanes)))
      (each_same (HasBytes o g) p.controllers (calls_in d.lasts) calls same (lanes_bytes o d.middle g 0 d.lasts d.last_phase.lanes));
  first_entries = ap (λ n. take n g) (sym middle) ∙ (prefix_is d.middle g d.last_phase.grows ∙ (order.entries ∙ ap (λ w. w ++ entries_of first) (sym start)));
  later_counts = subst (λ n. Each (λ c. n ≤ c.count) calls) middle (each_same (λ c. length d.middle ≤ c.count) p.controllers (calls_in d.lasts) calls same (lanes_low o d.middle g 0 d.lasts d.last_phase.lanes));
  one = λ e. subst (λ w. IsOneOrder w (take (length g) g) (first ++ calls)) (sym start) (subst (λ w. IsOneOrder h w (first ++ calls)) (sym end) (one e));
  lines = order_is_free o h g (first ++ calls) (first ++ later) (length h) (length g - length h) (all_shares workers p h g jobs first later d calls same) (same_behind p.controllers first calls later (λ k. d.same k ∙ sym (same k)));
}
  where
    o : Opening
    o = opening_of p

    grows : IsPrefix h g
    grows = prefix_trans h d.middle g d.first_phase.grows d.last_phase.grows

    prefix_is : (f g : List Event) → IsPrefix f g → take (length f) g ≡ f
    prefix_is f g q = ap (take (length f)) (sym q.1) ∙ take_front f q.0

    start : take (length h) g ≡ h
    start = prefix_is h g grows

    end : take (length g) g ≡ g
    end = take_whole g

    order : IsOneOrder h d.middle first
    order = turn_order (opening_of p) h d.middle d.firsts jobs.first first d.first_phase d.first_done

    middle : length d.middle ≡ length h + length (entries_of first)
    middle = ap length order.entries ∙ length-append h (entries_of first)

    first_calls : Each (IsCall (opening_of p) d.middle) first
    first_calls = each_of_all (IsCall (opening_of p) d.middle) p.controllers first (λ k. (first_shares workers p h g jobs first later d k).each)

one_thread : (workers : ℕ) (p : PortSeen) (h g : List Event) (jobs : Jobs) (first later : List Call) (d : PortDone workers p h g jobs first later) → DoneInTurn (opening_of p) d.middle g d.lasts jobs.later later → IsOneOrder h g (first ++ later)
one_thread workers p h g jobs first later d a = one_order (opening_of p) h g (first ++ later) (prefix_trans h d.middle g d.first_phase.grows d.last_phase.grows) (all_shares workers p h g jobs first later d later d.same)
    (order_join (length h) (length d.middle) (length g) first later d.first_done.in_order a.in_order)

pub port_is_round : PortIsRound
port_is_round workers p h g jobs first later d = by (ℕ_discrete workers 1)
  where
    by : Dec (workers ≡ 1) → IsPortRound workers p g jobs (port_told p h g (first ++ later))
    by (yes e) = let a = d.alone e in round_with workers p h g jobs first later d later a.jobs_are d.same (λ f. one_thread workers p h g jobs first later d a)
    by (no ne) = let a = assemble p.controllers jobs.later (calls_in d.lasts) d.last_done in round_with workers p h g jobs first later d a.later a.jobs_are a.same (λ f. absurd (ne f))
