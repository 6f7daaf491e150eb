-- Passes at work, and under a lock.
use Rattle.std.proofs.Common.{◌≡◌, ◌≢◌, ◌≤◌, ℕ, zero, suc, ◌+◌, ◌==◌, true, false, List, [], ◌∷◌, ◌++◌, length, Some, slice_get, refl, ap, sym, ◌∙◌, subst, arith, append_assoc, ne_eqb, eq-eqb}
use mathlib.Core.List.{IsPrefix}
use Rattle.vsw_policy.specs.Sound.{Each}
use Rattle.vsw_port.specs.declared.event.Event.{Event}
use Rattle.vsw_port.specs.Calls.{Call, doer, calls_of, event_of, next_count, entries_of, entries_naming, IsCall, Entry, Read, Short, InOrder, HasBytes, IsShare}
use Rattle.vsw_port.specs.History.{Opening}
use Rattle.vsw_port.proofs.Fronts.{prefix_self, prefix_trans, prefix_length, append_end}
use Rattle.vsw_port.proofs.Calls.{calls_later, each_append, entries_append}
use Rattle.vsw_port.proofs.Next.{bytes_later, order_more, goes_none, goes_on, naming_append, naming_calls}
use Rattle.vsw_many.specs.Law.{WorksBegin, WorksGoOn, WorksStay, WorksSettle, TurnGoesOn, LockedCallsCross, LockedMeets}
use Rattle.vsw_many.specs.Passes.{PassNow, AtRest, Works, Meets}

-- ---- calls

before_end : {A : Type 0} (xs : List A) (n : ℕ) (x : A) → slice_get xs n ≡ Some x → n + 1 ≤ length xs
before_end [] n x e = absurd cc
before_end (y ∷ xs) zero x e = omega arith
before_end (y ∷ xs) (suc n) x e = omega (arith, before_end xs n x e)

entered_next : (c : Call) → c.entry ≡ true → next_count c ≡ c.count + 1
entered_next c e = rw e refl

stayed_next : (c : Call) → c.entry ≡ false → next_count c ≡ c.count
stayed_next c e = rw e refl

-- the next call of a caller has its least count within the history
pub next_within : (o : Opening) (h : List Event) (c : Call) → IsCall o h c → next_count c ≤ length h
next_within o h c (Entry e) = omega (arith, entered_next c e.marked, before_end h c.count (event_of c.deed) e.stands)
next_within o h c (Read r) = omega (arith, stayed_next c r.marked, r.within)
next_within o h c (Short s) = omega (arith, stayed_next c s.marked, s.within)

pub order_higher : (low mid high : ℕ) (cs : List Call) → mid ≤ high → InOrder low cs mid → InOrder low cs high
order_higher low mid high [] le p = omega (arith, le, p)
order_higher low mid high (c ∷ cs) le p = (p.0, order_higher (next_count c) mid high cs le p.1)

-- ---- a pass

pub works_begin : WorksBegin
works_begin o p = record { number = refl; seen = prefix_self p.front; each = tt; bytes = tt; in_order = omega arith; receipts = sym (append_end p.receipts) }

pub works_go_on : WorksGoOn
works_go_on o p q r cs j c w x = record {
  number = x.number ∙ w.number;
  seen = prefix_trans p.front q.front r.front w.seen x.seen;
  each = each_append (IsCall o r.front) cs (c ∷ []) (calls_later o q.front r.front cs x.seen w.each) (x.call, tt);
  bytes = each_append (HasBytes o r.front) cs (c ∷ []) (bytes_later o q.front r.front cs x.seen w.each w.bytes) (x.shows, tt);
  in_order = order_more (length p.front) (length q.front) (length r.front) cs c w.in_order x.low (next_within o r.front c x.call);
  receipts = x.receipts ∙ (ap (λ w. w ++ entries_of (c ∷ [])) w.receipts ∙ (append_assoc p.receipts (entries_of cs) (entries_of (c ∷ [])) ∙ ap (λ w. p.receipts ++ w) (sym (entries_append cs (c ∷ [])))));
}

pub works_stay : WorksStay
works_stay o p q r cs w l = record {
  number = l.number ∙ w.number;
  seen = prefix_trans p.front q.front r.front w.seen l.seen;
  each = calls_later o q.front r.front cs l.seen w.each;
  bytes = bytes_later o q.front r.front cs l.seen w.each w.bytes;
  in_order = order_higher (length p.front) (length q.front) (length r.front) cs (prefix_length q.front r.front l.seen) w.in_order;
  receipts = l.kept ∙ w.receipts;
}

-- what a pass did between two rests is its caller's share
pub share_of_pass : (o : Opening) (h g : List Event) (k : ℕ) (p q r : PassNow) (cs : List Call) → AtRest o h k p → Works o p q cs → Meets o g q r → IsShare o h g k cs
share_of_pass o h g k p q r cs a w m = record {
  begins = subst (λ f. IsPrefix f g) a.front (prefix_trans p.front q.front g w.seen m.seen);
  each = calls_later o q.front g cs m.seen w.each;
  in_order = subst (λ f. InOrder (length f) cs (length g)) a.front (order_higher (length p.front) (length q.front) (length g) cs (prefix_length q.front g m.seen) w.in_order);
  entries = ap (λ n. entries_naming o.controllers n g) (sym (m.number ∙ (w.number ∙ a.number))) ∙ (sym m.own ∙ (m.kept ∙ (w.receipts ∙ ap (λ w. w ++ entries_of cs) a.receipts)));
}

pub bytes_of_pass : (o : Opening) (g : List Event) (p q r : PassNow) (cs : List Call) → Works o p q cs → Meets o g q r → Each (HasBytes o g) cs
bytes_of_pass o g p q r cs w m = bytes_later o q.front g cs m.seen w.each w.bytes

-- and it rests again
pub rest_of_pass : (o : Opening) (h g : List Event) (k : ℕ) (p q r : PassNow) (cs : List Call) → AtRest o h k p → Works o p q cs → Meets o g q r → AtRest o g k r
rest_of_pass o h g k p q r cs a w m = record {
  number = m.number ∙ (w.number ∙ a.number);
  front = m.front;
  receipts = m.own ∙ ap (λ n. entries_naming o.controllers n g) (m.number ∙ (w.number ∙ a.number));
}

pub works_settle : WorksSettle
works_settle o h g k p q r cs a w m = record { share = share_of_pass o h g k p q r cs a w m; bytes = bytes_of_pass o g p q r cs w m; rest = rest_of_pass o h g k p q r cs a w m }

pub turn_goes_on : TurnGoesOn
turn_goes_on o low f p q cs j c order told x = order_more low (length f) (length q.front) cs c order (omega (arith, prefix_length f p.front told, x.low)) (next_within o q.front c x.call)

-- ---- callers

pub none_of : (ns : List ℕ) (k : ℕ) (cs : List Call) → Each (λ c. doer ns c.deed ≢ k) cs → calls_of ns k cs ≡ []
none_of ns k [] e = refl
none_of ns k (c ∷ cs) e = let t : (doer ns c.deed == k) ≡ false = ne_eqb (doer ns c.deed) k e.0 in rw t (none_of ns k cs e.1)

pub all_of_one : (ns : List ℕ) (k : ℕ) (cs : List Call) → Each (λ c. doer ns c.deed ≡ k) cs → calls_of ns k cs ≡ cs
all_of_one ns k [] e = refl
all_of_one ns k (c ∷ cs) e = let t : (doer ns c.deed == k) ≡ true = eq-eqb (doer ns c.deed) k e.0 in rw t (ap (λ w. c ∷ w) (all_of_one ns k cs e.1))

pub each_weaker : {A : Type 0} (P Q : A → Type 0) (xs : List A) → ((x : A) → P x → Q x) → Each P xs → Each Q xs
each_weaker P Q [] f e = tt
each_weaker P Q (x ∷ xs) f e = (f x e.0, each_weaker P Q xs f e.1)

-- ---- under a lock

-- a call at the history's end adds its entries to those of its caller, and none to another's
own_more : (o : Opening) (h : List Event) (k : ℕ) (c : Call) → doer o.controllers c.deed ≡ k → entries_naming o.controllers k (h ++ entries_of (c ∷ [])) ≡ entries_naming o.controllers k h ++ entries_of (c ∷ [])
own_more o h k c by = naming_append o.controllers k h (entries_of (c ∷ [])) ∙ ap (λ w. entries_naming o.controllers k h ++ w) (naming_calls o.controllers k (c ∷ []) ∙ ap entries_of (all_of_one o.controllers k (c ∷ []) (by, tt)))

others_stay : (o : Opening) (h : List Event) (k : ℕ) (c : Call) → doer o.controllers c.deed ≢ k → entries_naming o.controllers k (h ++ entries_of (c ∷ [])) ≡ entries_naming o.controllers k h
others_stay o h k c not = naming_append o.controllers k h (entries_of (c ∷ [])) ∙ (ap (λ w. entries_naming o.controllers k h ++ w) (naming_calls o.controllers k (c ∷ []) ∙ ap entries_of (none_of o.controllers k (c ∷ []) (not, tt))) ∙ append_end (entries_naming o.controllers k h))

pub locked_calls_cross : LockedCallsCross
locked_calls_cross o h p j c right behind by about next =
    let g = goes_on o h h [] c (goes_none o h right) next in
    let grown : IsPrefix h (h ++ entries_of (c ∷ [])) = (entries_of (c ∷ []), refl) in
    let seen : IsPrefix p.front (h ++ entries_of (c ∷ [])) = prefix_trans p.front h (h ++ entries_of (c ∷ [])) behind.seen grown in record {
      crosses = record { number = refl; seen = seen; about = about; call = g.each.0; shows = g.bytes.0; low = omega (arith, prefix_length p.front h behind.seen, next.last); receipts = refl };
      right = g.right;
      own = record { seen = prefix_self (h ++ entries_of (c ∷ [])); own = ap (λ w. w ++ entries_of (c ∷ [])) behind.own ∙ sym (own_more o h p.number c by) };
      others = λ q ne b. record { seen = prefix_trans q.front h (h ++ entries_of (c ∷ [])) b.seen grown; own = b.own ∙ sym (others_stay o h q.number c (λ e. ne (sym e ∙ by))) };
    }

pub locked_meets : LockedMeets
locked_meets o h p behind = record { number = refl; seen = behind.seen; front = refl; kept = refl; own = behind.own }
