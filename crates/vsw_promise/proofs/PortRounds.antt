-- A port's round, and the history that grows beyond it.
use Rattle.std.proofs.Common.{◌≡◌, ◌≤◌, ℕ, zero, suc, ◌+◌, ◌-◌, Bool, true, false, List, [], ◌∷◌, ◌++◌, length, map, take, drop, refl, ap, sym, ◌∙◌, subst, arith, append_assoc, length-append}
use mathlib.Core.List.{IsPrefix}
use Rattle.vsw_policy.specs.Sound.{Each}
use Rattle.vsw_promise.specs.Ports.{PortSeen}
use Rattle.vsw_port.specs.declared.event.Event.{Event}
use Rattle.vsw_report.specs.declared.round.PortRound.{PortRound}
use Rattle.vsw_port.specs.Calls.{Call, Job, job_of, doer, next_count, IsCall, InOrder, AreShares, IsOneOrder, entries_of}
use Rattle.vsw_promise.specs.Jobs.{Jobs}
use Rattle.vsw_port.specs.Next.{Goes}
use Rattle.vsw_promise.specs.Rounds.{opening_of, IsPortRound}
use Rattle.vsw_promise.specs.Told.{line_of, lines_of}
use Rattle.vsw_port.proofs.Fronts.{prefix_length, prefix_take, take_prefix}
use Rattle.vsw_port.proofs.Calls.{each_of_all, calls_later, entries_append, order_lower}
use Rattle.vsw_port.proofs.Next.{shares_of, bytes_later, take_front, count_next}

pub each_low : (low high : ℕ) (cs : List Call) → InOrder low cs high → Each (λ c. low ≤ c.count) cs
each_low low high [] p = tt
each_low low high (c ∷ cs) p = (p.0, raised low (next_count c) cs (omega (arith, p.0, count_next c)) (each_low (next_count c) high cs p.1))
  where
    raised : (low mid : ℕ) (cs : List Call) → low ≤ mid → Each (λ c. mid ≤ c.count) cs → Each (λ c. low ≤ c.count) cs
    raised low mid [] le e = tt
    raised low mid (c ∷ cs) le e = (omega (arith, le, e.0), raised low mid cs le e.1)

pub take_whole : {A : Type 0} (xs : List A) → take (length xs) xs ≡ xs
take_whole [] = refl
take_whole (x ∷ xs) = ap (λ w. x ∷ w) (take_whole xs)

entries_more : (b : Bool) (c : Call) (cs : List Call) (low : ℕ) → c.entry ≡ b → low ≤ c.count → low + length (entries_of (c ∷ cs)) ≤ next_count c + length (entries_of cs)
entries_more true c cs low e le = rw e (omega (arith, le))
entries_more false c cs low e le = rw e (omega (arith, le))

-- the counts of later calls are above those of the entries before them
pub order_after : (low high : ℕ) (cs ds : List Call) → InOrder low (cs ++ ds) high → InOrder (low + length (entries_of cs)) ds high
order_after low high [] ds p = order_lower (low + 0) low high ds (omega arith) p
order_after low high (c ∷ cs) ds p = order_lower (low + length (entries_of (c ∷ cs))) (next_count c + length (entries_of cs)) high ds (entries_more c.entry c cs low refl p.0) (order_after (next_count c) high cs ds p.1)

-- what stands behind a front
pub drop_front : {A : Type 0} (xs ys : List A) → drop (length xs) (xs ++ ys) ≡ ys
drop_front [] ys = refl
drop_front (x ∷ xs) ys = drop_front xs ys

-- calls one after the other, first the "before" commands and then all else, are the round of a port, for one worker and so for any number
pub round_of_goes : (workers : ℕ) (seen : PortSeen) (before h : List Event) (first later : List Call) (jobs : Jobs) (r : PortRound) → Goes (opening_of seen) before h (first ++ later) → map (λ c. job_of c.deed) first ≡ jobs.first → map (λ c. job_of c.deed) later ≡ jobs.later
    → r ≡ record { port = seen.number; before = length before; after = length h; lines = lines_of seen.controllers (first ++ later) (length before) (length h - length before) } → IsPortRound workers seen h jobs r
round_of_goes workers seen before h first later jobs r g f l e = subst (λ r. IsPortRound workers seen h jobs r) (sym e) here
  where
    grows : length before + length (entries_of (first ++ later)) ≡ length h
    grows = sym (ap length g.grown ∙ length-append before (entries_of (first ++ later)))

    start : take (length before) h ≡ before
    start = ap (take (length before)) g.grown ∙ take_front before (entries_of (first ++ later))

    entered : h ≡ (before ++ entries_of first) ++ entries_of later
    entered = g.grown ∙ (ap (λ w. before ++ w) (entries_append first later) ∙ sym (append_assoc before (entries_of first) (entries_of later)))

    firsts : take (length before + length (entries_of first)) h ≡ take (length before) h ++ entries_of first
    firsts = ap (λ n. take n h) (sym (length-append before (entries_of first))) ∙ (ap (take (length (before ++ entries_of first))) entered ∙ (take_front (before ++ entries_of first) (entries_of later) ∙ ap (λ w. w ++ entries_of first) (sym start)))

    here : IsPortRound workers seen h jobs (record { port = seen.number; before = length before; after = length h; lines = lines_of seen.controllers (first ++ later) (length before) (length h - length before) })
    here = record {
      port = refl;
      low = omega (arith, grows);
      high = omega arith;
      first = first;
      later = later;
      first_jobs = f;
      later_jobs = l;
      shares = subst (λ w. AreShares (opening_of seen) w (take (length h) h) (first ++ later)) (sym start) (subst (λ w. AreShares (opening_of seen) before w (first ++ later)) (sym (take_whole h)) (shares_of (opening_of seen) before h (first ++ later) g));
      bytes = g.bytes;
      first_entries = firsts;
      later_counts = each_low (length before + length (entries_of first)) (length h) later (order_after (length before) (length h) first later g.in_order);
      one = λ e. subst (λ w. IsOneOrder w (take (length h) h) (first ++ later)) (sym start) (subst (λ w. IsOneOrder before w (first ++ later)) (sym (take_whole h)) (record { entries = g.grown; in_order = g.in_order }));
      lines = refl;
    }

pub take_length : {A : Type 0} (n : ℕ) (xs : List A) → n ≤ length xs → length (take n xs) ≡ n
take_length zero xs le = refl
take_length (suc n) [] le = absurd (omega (arith, le))
take_length (suc n) (x ∷ xs) le = ap suc (take_length n xs (omega (arith, le)))

-- a list has as many elements as are taken of it
pub within : {A : Type 0} (n : ℕ) (xs : List A) → length (take n xs) ≡ n → n ≤ length xs
within zero xs e = omega arith
within (suc n) [] e = absurd (cc e)
within (suc n) (x ∷ xs) e = omega (arith, within n xs (omega (arith, e)))

-- a port's round on a history is one on a longer history
pub port_round_later : (workers : ℕ) (p : PortSeen) (h k : List Event) (jobs : Jobs) (r : PortRound) → IsPrefix h k → IsPortRound workers p h jobs r → IsPortRound workers p k jobs r
port_round_later workers p h k jobs r q i = record {
  port = i.port;
  low = i.low;
  high = omega (arith, i.high, prefix_length h k q);
  first = i.first;
  later = i.later;
  first_jobs = i.first_jobs;
  later_jobs = i.later_jobs;
  shares = subst (λ w. AreShares (opening_of p) w (take r.after k) (i.first ++ i.later)) (sym start) (subst (λ w. AreShares (opening_of p) (take r.before h) w (i.first ++ i.later)) (sym end) i.shares);
  bytes = bytes_later (opening_of p) h k (i.first ++ i.later) q calls i.bytes;
  first_entries = prefix_take h k (r.before + length (entries_of i.first)) q reached ∙ (i.first_entries ∙ ap (λ w. w ++ entries_of i.first) (sym start));
  later_counts = i.later_counts;
  one = λ e. subst (λ w. IsOneOrder w (take r.after k) (i.first ++ i.later)) (sym start) (subst (λ w. IsOneOrder (take r.before h) w (i.first ++ i.later)) (sym end) (i.one e));
  lines = i.lines;
}
  where
    start : take r.before k ≡ take r.before h
    start = prefix_take h k r.before q (omega (arith, i.low, i.high))

    end : take r.after k ≡ take r.after h
    end = prefix_take h k r.after q i.high

    -- the first entries stand in the history
    reached : r.before + length (entries_of i.first) ≤ length h
    reached = within (r.before + length (entries_of i.first)) h (ap length i.first_entries ∙ (length-append (take r.before h) (entries_of i.first) ∙ ap (λ n. n + length (entries_of i.first)) (take_length r.before h (omega (arith, i.low, i.high)))))

    calls : Each (IsCall (opening_of p) h) (i.first ++ i.later)
    calls = calls_later (opening_of p) (take r.after h) h (i.first ++ i.later) (take_prefix r.after h) (each_of_all (IsCall (opening_of p) (take r.after h)) p.controllers (i.first ++ i.later) (λ n. (i.shares n).each))
