-- Calls one after the other are what all callers did meanwhile.
use Rattle.std.proofs.Common.{◌≡◌, ℕ, zero, suc, ◌+◌, ◌≤◌, ◌==◌, not, Bool, true, false, if◌then◌else◌, List, [], ◌∷◌, ◌++◌, length, take, map, filter, Some, slice_get, refl, ap, sym, ◌∙◌, subst, arith, append_assoc, length-append, ne_eqb}
use mathlib.Core.List.{IsPrefix}
use Rattle.vsw_base.specs.declared.flow.Crossing.{Crossing}
use Rattle.vsw_port.specs.Cross.{all_done, cross_of, made_by}
use Rattle.vsw_port.specs.WalkWanted.{Wanted}
use Rattle.vsw_policy.specs.Layer.{LayerSeen}
use Rattle.vsw_policy.specs.Sound.{Each}
use Rattle.vsw_port.specs.declared.event.Event.{Event}
use Rattle.vsw_port.specs.History.{Opening, after, after_all, replay, IsRight, AreRight, AllRight}
use Rattle.vsw_port.specs.Calls.{Call, Deed, Carried, Asked, doer, named, calls_of, entries_naming, entries_of, event_of, next_count, Reads, Wants, ShowsAt, HasBytes, IsCall, Entry, Read, Short, InOrder, AreShares}
use Rattle.vsw_port.specs.Share.{ReadsChangeNothing}
use Rattle.vsw_port.specs.Next.{IsDone, Enters, Reading, Wanting, IsNext, Goes}
use Rattle.vsw_port.proofs.Fronts.{prefix_take, append_end}
use Rattle.vsw_port.proofs.Calls.{calls_later, each_append, order_lower, entries_append}

-- ---- callers

pub named_doer : (ns : List ℕ) (d : Deed) → named ns (event_of d) ≡ doer ns d
named_doer ns (Carried x p fate bytes) = refl
named_doer ns (Asked l reply) = refl

naming_step : (ns : List ℕ) (k : ℕ) (c : Call) (cs : List Call) (m b : Bool) → c.entry ≡ m → (named ns (event_of c.deed) == k) ≡ b → entries_naming ns k (entries_of cs) ≡ entries_of (calls_of ns k cs)
    → entries_naming ns k (map (λ c. event_of c.deed) (if m then c ∷ filter (λ c. c.entry) cs else filter (λ c. c.entry) cs)) ≡ entries_of (if b then c ∷ calls_of ns k cs else calls_of ns k cs)
naming_step ns k c cs true true e p ih = rw (p, e) (ap (λ w. event_of c.deed ∷ w) ih)
naming_step ns k c cs true false e p ih = rw p ih
naming_step ns k c cs false true e p ih = rw e ih
naming_step ns k c cs false false e p ih = ih

-- the entries that calls are name their callers
pub naming_calls : (ns : List ℕ) (k : ℕ) (cs : List Call) → entries_naming ns k (entries_of cs) ≡ entries_of (calls_of ns k cs)
naming_calls ns k [] = refl
naming_calls ns k (c ∷ cs) = naming_step ns k c cs c.entry (doer ns c.deed == k) refl (ap (λ w. w == k) (named_doer ns c.deed)) (naming_calls ns k cs)

pub naming_append : (ns : List ℕ) (k : ℕ) (xs ys : List Event) → entries_naming ns k (xs ++ ys) ≡ entries_naming ns k xs ++ entries_naming ns k ys
naming_append ns k [] ys = refl
naming_append ns k (e ∷ xs) ys = more (named ns e == k) (naming_append ns k xs ys)
  where
    more : (b : Bool) → entries_naming ns k (xs ++ ys) ≡ entries_naming ns k xs ++ entries_naming ns k ys → (if b then e ∷ entries_naming ns k (xs ++ ys) else entries_naming ns k (xs ++ ys)) ≡ (if b then e ∷ entries_naming ns k xs else entries_naming ns k xs) ++ entries_naming ns k ys
    more true ih = ap (λ w. e ∷ w) ih
    more false ih = ih

if_up : (b : Bool) (n : ℕ) → n ≤ (if b then n + 1 else n)
if_up true n = omega arith
if_up false n = omega arith

pub count_next : (c : Call) → c.count ≤ next_count c
count_next c = if_up c.entry c.count

order_step : (low high : ℕ) (c : Call) (ds : List Call) (b : Bool) → low ≤ c.count → InOrder (next_count c) ds high → InOrder low (if b then c ∷ ds else ds) high
order_step low high c ds true le p = (le, p)
order_step low high c ds false le p = order_lower low (next_count c) high ds (omega (arith, le, count_next c)) p

-- calls in one order are in each caller's
pub order_of : (ns : List ℕ) (k low high : ℕ) (cs : List Call) → InOrder low cs high → InOrder low (calls_of ns k cs) high
order_of ns k low high [] p = p
order_of ns k low high (c ∷ cs) p = order_step low high c (calls_of ns k cs) (doer ns c.deed == k) p.0 (order_of ns k (next_count c) high cs p.1)

pub each_of : (P : Call → Type 0) (ns : List ℕ) (k : ℕ) (cs : List Call) → Each P cs → Each P (calls_of ns k cs)
each_of P ns k [] e = tt
each_of P ns k (c ∷ cs) e = more (doer ns c.deed == k) (calls_of ns k cs) (each_of P ns k cs e.1)
  where
    more : (b : Bool) (ds : List Call) → Each P ds → Each P (if b then c ∷ ds else ds)
    more true ds p = (e.0, p)
    more false ds p = p

-- calls one after the other are the shares of all callers
pub shares_of : (o : Opening) (before new : List Event) (cs : List Call) → Goes o before new cs → AreShares o before new cs
shares_of o before new cs g k = record {
  begins = (entries_of cs, sym g.grown);
  each = each_of (IsCall o new) o.controllers k cs g.each;
  in_order = order_of o.controllers k (length before) (length new) cs g.in_order;
  entries = ap (entries_naming o.controllers k) g.grown ∙ (naming_append o.controllers k before (entries_of cs) ∙ ap (λ w. entries_naming o.controllers k before ++ w) (naming_calls o.controllers k cs));
}

-- ---- one more call

pub take_front : {A : Type 0} (xs ys : List A) → take (length xs) (xs ++ ys) ≡ xs
take_front [] ys = refl
take_front (x ∷ xs) ys = ap (λ w. x ∷ w) (take_front xs ys)

at_end : {A : Type 0} (h : List A) (e : A) → slice_get (h ++ e ∷ []) (length h) ≡ Some e
at_end [] e = refl
at_end (x ∷ h) e = at_end h e

there : {A : Type 0} (xs : List A) (n : ℕ) (x : A) → slice_get xs n ≡ Some x → n ≤ length xs
there [] n x e = absurd cc
there (y ∷ xs) zero x e = omega arith
there (y ∷ xs) (suc n) x e = omega (arith, there xs n x e)

pub count_within : (o : Opening) (h : List Event) (c : Call) → IsCall o h c → c.count ≤ length h
count_within o h c (Entry e) = there h c.count (event_of c.deed) e.stands
count_within o h c (Read r) = r.within
count_within o h c (Short s) = s.within

pub bytes_later : (o : Opening) (h k : List Event) (cs : List Call) → IsPrefix h k → Each (IsCall o h) cs → Each (HasBytes o h) cs → Each (HasBytes o k) cs
bytes_later o h k [] p e b = tt
bytes_later o h k (c ∷ cs) p e b = (subst (λ w. ShowsAt (replay o w) c.deed) (sym (prefix_take h k c.count p (count_within o h c e.0))) b.0, bytes_later o h k cs p e.1 b.1)

-- one more right entry
pub right_more : (cs : List ℕ) (ls : List LayerSeen) (h : List Event) (e : Event) → AreRight cs ls h → IsRight cs (after_all cs ls h) e → AreRight cs ls (h ++ e ∷ [])
right_more cs ls [] e a r = (r, tt)
right_more cs ls (x ∷ h) e a r = (a.0, right_more cs (after cs ls x) h e a.1 r)

pub order_more : (low mid high : ℕ) (cs : List Call) (c : Call) → InOrder low cs mid → mid ≤ c.count → next_count c ≤ high → InOrder low (cs ++ c ∷ []) high
order_more low mid high [] c p le up = (omega (arith, p, le), up)
order_more low mid high (d ∷ cs) c p le up = (p.0, order_more (next_count d) mid high cs c p.1 le up)

pub goes_none : (o : Opening) (h : List Event) → AllRight o h → Goes o h h []
goes_none o h r = record { right = r; grown = sym (append_end h); each = tt; bytes = tt; in_order = omega arith }

joined : (o : Opening) (before mid : List Event) (es : List Event) (cs : List Call) (c : Call) → Goes o before mid cs → c.count ≡ length mid → entries_of (c ∷ []) ≡ es → next_count c ≤ length (mid ++ es) → AllRight o (mid ++ es) → IsCall o (mid ++ es) c → ShowsAt (replay o mid) c.deed
    → Goes o before (mid ++ es) (cs ++ c ∷ [])
joined o before mid es cs c g last is up right call shows =
    let p : IsPrefix mid (mid ++ es) = (es, refl) in
    let here : take c.count (mid ++ es) ≡ mid = ap (λ n. take n (mid ++ es)) last ∙ take_front mid es in record {
      right = right;
      grown = ap (λ w. w ++ es) g.grown ∙ (append_assoc before (entries_of cs) es ∙ (ap (λ w. before ++ (entries_of cs ++ w)) (sym is) ∙ ap (λ w. before ++ w) (sym (entries_append cs (c ∷ [])))));
      each = each_append (IsCall o (mid ++ es)) cs (c ∷ []) (calls_later o mid (mid ++ es) cs p g.each) (call, tt);
      bytes = each_append (HasBytes o (mid ++ es)) cs (c ∷ []) (bytes_later o mid (mid ++ es) cs p g.each g.bytes) (subst (λ w. ShowsAt (replay o w) c.deed) (sym here) shows, tt);
      in_order = order_more (length before) (length mid) (length (mid ++ es)) cs c g.in_order (omega (arith, last)) up;
    }

entering : (c : Call) → c.entry ≡ true → (entries_of (c ∷ []) ≡ event_of c.deed ∷ []) × (next_count c ≡ c.count + 1)
entering c e = (rw e refl, rw e refl)

staying : (c : Call) → c.entry ≡ false → (entries_of (c ∷ []) ≡ []) × (next_count c ≡ c.count)
staying c e = (rw e refl, rw e refl)

-- one more call at the end
pub goes_on : (o : Opening) (before mid : List Event) (cs : List Call) (c : Call) → Goes o before mid cs → IsNext o mid c → Goes o before (mid ++ entries_of (c ∷ [])) (cs ++ c ∷ [])
goes_on o before mid cs c g n = by n.done
  where
    by : IsDone o mid c.deed c.entry → Goes o before (mid ++ entries_of (c ∷ [])) (cs ++ c ∷ [])
    by (Enters e r) =
        let s = entering c e in
        let more : Goes o before (mid ++ event_of c.deed ∷ []) (cs ++ c ∷ []) = joined o before mid (event_of c.deed ∷ []) cs c g n.last s.0 (omega (arith, s.1, n.last, length-append mid (event_of c.deed ∷ [])))
        (right_more o.controllers o.layers mid (event_of c.deed) g.right r)
        (Entry (record { marked = e; stands = ap (slice_get (mid ++ event_of c.deed ∷ [])) n.last ∙ at_end mid (event_of c.deed) })) n.shows in
        subst (λ w. Goes o before (mid ++ w) (cs ++ c ∷ [])) (sym s.0) more
    by (Reading e r) =
        let s = staying c e in
        let here : take c.count (mid ++ []) ≡ mid = ap (λ n. take n (mid ++ [])) n.last ∙ take_front mid [] in
        let more : Goes o before (mid ++ []) (cs ++ c ∷ []) = joined o before mid [] cs c g n.last s.0 (omega (arith, s.1, n.last, length-append mid []))
        (subst (AllRight o) (sym (append_end mid)) g.right)
        (Read (record { marked = e; within = omega (arith, n.last, length-append mid []); reads = subst (λ w. Reads (replay o w) c.deed) (sym here) r })) n.shows in
        subst (λ w. Goes o before (mid ++ w) (cs ++ c ∷ [])) (sym s.0) more
    by (Wanting e r) =
        let s = staying c e in
        let here : take c.count (mid ++ []) ≡ mid = ap (λ n. take n (mid ++ [])) n.last ∙ take_front mid [] in
        let more : Goes o before (mid ++ []) (cs ++ c ∷ []) = joined o before mid [] cs c g n.last s.0 (omega (arith, s.1, n.last, length-append mid []))
        (subst (AllRight o) (sym (append_end mid)) g.right)
        (Short (record { marked = e; within = omega (arith, n.last, length-append mid []); wants = subst (λ w. Wants (replay o w) c.deed) (sym here) r })) n.shows in
        subst (λ w. Goes o before (mid ++ w) (cs ++ c ∷ [])) (sym s.0) more

-- ---- reads

nothing_done : (ws : List Wanted) (ls : List LayerSeen) → not (length ws == 0) ≡ false → all_done ws ls ≡ ls
nothing_done [] ls e = refl
nothing_done (w ∷ ws) ls e = absurd (let t : (suc (length ws) == 0) ≡ false = ne_eqb (suc (length ws)) 0 (λ f. omega (arith, f)) in cc (t, e))

-- a crossing that changes nothing leaves the layers
pub still : (ls : List LayerSeen) (x : Crossing) → (cross_of ls x).changed ≡ false → (cross_of ls x).layers ≡ ls
still ls x e = nothing_done (made_by ls x) ls e

read_still : (cs : List ℕ) (ls : List LayerSeen) (d : Deed) → Reads ls d → after cs ls (event_of d) ≡ ls
read_still cs ls (Carried x p fate bytes) r = still ls x r.1
read_still cs ls (Asked l reply) r = absurd r

pub reads_change_nothing : ReadsChangeNothing
reads_change_nothing o h c r = read_still o.controllers (replay o (take c.count h)) c.deed r.reads
