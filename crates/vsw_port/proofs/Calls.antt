-- Calls, the history that grows beyond them, and the calls of several stretches together.
use Rattle.std.proofs.Common.{◌≡◌, ℕ, ◌+◌, ◌≤◌, ◌==◌, Bool, true, false, if◌then◌else◌, List, [], ◌∷◌, ◌++◌, length, map, filter, refl, ap, sym, ◌∙◌, subst, arith, append_assoc, eq-eqb}
use mathlib.Core.List.{IsPrefix}
use Rattle.vsw_policy.specs.Sound.{Each}
use Rattle.vsw_port.specs.declared.event.Event.{Event}
use Rattle.vsw_port.specs.History.{Opening, replay, AllRight}
use Rattle.vsw_port.specs.Share.{EntriesAreSeen, ShortAddsNothing}
use Rattle.vsw_port.specs.Calls.{Call, doer, calls_of, entries_naming, entries_of, event_of, next_count, Reads, Wants, IsCall, Entry, Read, Short, InOrder, IsShare, AreShares, Legal}
use Rattle.vsw_port.proofs.Fronts.{prefix_trans, prefix_length, prefix_get, prefix_take}

-- a call of a beginning is a call of the whole
pub call_later : (o : Opening) (h k : List Event) (c : Call) → IsPrefix h k → IsCall o h c → IsCall o k c
call_later o h k c p (Entry e) = Entry (record { marked = e.marked; stands = prefix_get h k c.count (event_of c.deed) p e.stands })
call_later o h k c p (Read r) = Read (record { marked = r.marked; within = omega (arith, r.within, prefix_length h k p); reads = subst (λ w. Reads (replay o w) c.deed) (sym (prefix_take h k c.count p r.within)) r.reads })
call_later o h k c p (Short s) = Short (record { marked = s.marked; within = omega (arith, s.within, prefix_length h k p); wants = subst (λ w. Wants (replay o w) c.deed) (sym (prefix_take h k c.count p s.within)) s.wants })

pub calls_later : (o : Opening) (h k : List Event) (cs : List Call) → IsPrefix h k → Each (IsCall o h) cs → Each (IsCall o k) cs
calls_later o h k [] p e = tt
calls_later o h k (c ∷ cs) p e = (call_later o h k c p e.0, calls_later o h k cs p e.1)

pub each_append : {A : Type 0} (P : A → Type 0) (xs ys : List A) → Each P xs → Each P ys → Each P (xs ++ ys)
each_append P [] ys p q = q
each_append P (x ∷ xs) ys p q = (p.0, each_append P xs ys p.1 q)

pub order_lower : (low mid high : ℕ) (cs : List Call) → low ≤ mid → InOrder mid cs high → InOrder low cs high
order_lower low mid high [] le p = omega (arith, le, p)
order_lower low mid high (c ∷ cs) le p = (omega (arith, le, p.0), p.1)

pub order_join : (low mid high : ℕ) (cs ds : List Call) → InOrder low cs mid → InOrder mid ds high → InOrder low (cs ++ ds) high
order_join low mid high [] ds p q = order_lower low mid high ds p q
order_join low mid high (c ∷ cs) ds p q = (p.0, order_join (next_count c) mid high cs ds p.1 q)

pub entries_append : (cs ds : List Call) → entries_of (cs ++ ds) ≡ entries_of cs ++ entries_of ds
entries_append [] ds = refl
entries_append (c ∷ cs) ds = more c.entry (entries_append cs ds)
  where
    more : (b : Bool) → entries_of (cs ++ ds) ≡ entries_of cs ++ entries_of ds
        → map (λ c. event_of c.deed) (if b then c ∷ filter (λ c. c.entry) (cs ++ ds) else filter (λ c. c.entry) (cs ++ ds)) ≡ map (λ c. event_of c.deed) (if b then c ∷ filter (λ c. c.entry) cs else filter (λ c. c.entry) cs) ++ entries_of ds
    more true ih = ap (λ w. event_of c.deed ∷ w) ih
    more false ih = ih

-- the calls of a caller in one stretch, and then in the next
pub share_join : (o : Opening) (g h k : List Event) (n : ℕ) (cs ds : List Call) → IsShare o g h n cs → IsShare o h k n ds → IsShare o g k n (cs ++ ds)
share_join o g h k n cs ds a b = record {
  begins = prefix_trans g h k a.begins b.begins;
  each = each_append (IsCall o k) cs ds (calls_later o h k cs b.begins a.each) b.each;
  in_order = order_join (length g) (length h) (length k) cs ds a.in_order b.in_order;
  entries = b.entries ∙ (ap (λ w. w ++ entries_of ds) a.entries ∙ (append_assoc (entries_naming o.controllers n g) (entries_of cs) (entries_of ds) ∙ ap (λ w. entries_naming o.controllers n g ++ w) (sym (entries_append cs ds))));
}

pub calls_append : (ns : List ℕ) (n : ℕ) (cs ds : List Call) → calls_of ns n (cs ++ ds) ≡ calls_of ns n cs ++ calls_of ns n ds
calls_append ns n [] ds = refl
calls_append ns n (c ∷ cs) ds = more (doer ns c.deed == n) (calls_append ns n cs ds)
  where
    more : (b : Bool) → calls_of ns n (cs ++ ds) ≡ calls_of ns n cs ++ calls_of ns n ds → (if b then c ∷ calls_of ns n (cs ++ ds) else calls_of ns n (cs ++ ds)) ≡ (if b then c ∷ calls_of ns n cs else calls_of ns n cs) ++ calls_of ns n ds
    more true ih = ap (λ w. c ∷ w) ih
    more false ih = ih

-- the same of all callers
pub shares_join : (o : Opening) (g h k : List Event) (cs ds : List Call) → AreShares o g h cs → AreShares o h k ds → AreShares o g k (cs ++ ds)
shares_join o g h k cs ds a b n = subst (λ w. IsShare o g k n w) (sym (calls_append o.controllers n cs ds)) (share_join o g h k n (calls_of o.controllers n cs) (calls_of o.controllers n ds) (a n) (b n))

-- what holds of the calls of each caller holds of all
pub each_of_all : (P : Call → Type 0) (ns : List ℕ) (cs : List Call) → ((n : ℕ) → Each P (calls_of ns n cs)) → Each P cs
each_of_all P ns [] e = tt
each_of_all P ns (c ∷ cs) e = (own (e (doer ns c.deed)), each_of_all P ns cs (λ n. rest (doer ns c.deed == n) (calls_of ns n cs) (e n)))
  where
    rest : (b : Bool) (ds : List Call) → Each P (if b then c ∷ ds else ds) → Each P ds
    rest true ds p = p.1
    rest false ds p = p

    own : Each P (calls_of ns (doer ns c.deed) (c ∷ cs)) → P c
    own p = (subst (λ b. Each P (if b then c ∷ calls_of ns (doer ns c.deed) cs else calls_of ns (doer ns c.deed) cs)) (eq-eqb (doer ns c.deed) (doer ns c.deed) refl) p).0

-- the shares of all callers from the beginning on, on a right history, are legal
pub legal_of : (o : Opening) (h : List Event) (cs : List Call) → AllRight o h → AreShares o [] h cs → Legal o h cs
legal_of o h cs right s = record {
  right = right;
  each = each_of_all (IsCall o h) o.controllers cs (λ n. (s n).each);
  in_order = λ n. (s n).in_order;
  entries = λ n. (s n).entries;
}

-- the call after an entry sees it
pub entries_are_seen : EntriesAreSeen
entries_are_seen low high c d cs e p = omega (arith, p.1.0, next_count_of c e)
  where
    next_count_of : (c : Call) → c.entry ≡ true → next_count c ≡ c.count + 1
    next_count_of c e = rw e refl

pub short_adds_nothing : ShortAddsNothing
short_adds_nothing o h c s = none c s.marked
  where
    none : (c : Call) → c.entry ≡ false → entries_of (c ∷ []) ≡ []
    none c e = rw e refl
