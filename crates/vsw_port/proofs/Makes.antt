-- What a walk wants can be made, where nothing of it is refused.
use Rattle.std.proofs.Common.{◌≡◌, ◌<◌, ◌-◌, ◌^◌, ◌==◌, ℕ, zero, suc, Bool, true, false, not, cond, List, [], ◌∷◌, length, nat_le, Option, Some, None, Err, refl, sym, ap, ◌∙◌, arith, true≢false, is_some}
use Rattle.std.specs.Prelude.{if◌then◌else◌}
use Rattle.std.specs.List.{slice_get}
use Rattle.std.proofs.lemmas.Option.{slice_get_within}
use Rattle.std.proofs.lemmas.Map.Entries.{option_filter}
use Rattle.vsw_port.specs.declared.stop.Stop.{Stop}
use Rattle.vsw_port.specs.declared.stop.Stop.TheVariants.{Long, Full, Taken, Memory}
use Rattle.vsw_port.specs.Admit.{left_in, on_pass, refusal, refused, refused_at, staying, stop_of, taken_by}
use Rattle.vsw_port.specs.Long.{is_long}
use Rattle.vsw_port.specs.Holds.{AllHold, CanHold}
use Rattle.vsw_port.proofs.Apart.{crossed_apart, flip, same_place}
use Rattle.vsw_port.proofs.Firsts.{of_first, refusal_is}
use Rattle.vsw_port.specs.Private.Threaded.{left_at, or_next, refusal_after}
use Rattle.vsw_port.proofs.Visits.{IsVisit, Leaves, Wants, visits}
use Rattle.vsw_port.proofs.Walks.{each_as, each_crossed, each_told, places, told_by}
use Rattle.vsw_base.specs.declared.fate.Verdict.{Verdict}
use Rattle.vsw_base.specs.declared.fate.Verdict.TheVariants.{Pass, Rule, Default}
use Rattle.vsw_base.specs.declared.flow.Crossing.{Crossing}
use Rattle.vsw_base.specs.declared.header.Header.{Header}
use Rattle.vsw_base.specs.declared.packet.Control.{Control}
use Rattle.vsw_base.specs.declared.packet.Dir.{Dir}
use Rattle.vsw_base.specs.Shape.{encaps}
use Rattle.vsw_port.specs.Can.{AreApart, CanAll, IsWithin, NotMade}
use Rattle.vsw_port.specs.Cross.{is_memory}
use Rattle.vsw_port.proofs.Places.{at_get, get_beside, get_changed}
use Rattle.vsw_rule.specs.Edit.{edited, kept_after}
use Rattle.vsw_port.specs.WalkWanted.{Wanted}
use Rattle.vsw_port.specs.Walk.{Walk, along, by_visit, crossed, placed, walk_of}
use Rattle.vsw_header.specs.Key.{key_from}
use Rattle.vsw_policy.specs.Layer.{LayerSeen, CanTake, with_pair, with_touched, without_pair}
use Rattle.vsw_layerflow.specs.declared.pair.Pair.{Pair}
use Rattle.vsw_layerflow.specs.Pairs.{AllBelow, back, holder, probe, without}
use Rattle.vsw_layerflow.proofs.Kept.{holder-filter}
use Rattle.vsw_layerflow.proofs.Order.{below_filter}
use Rattle.vsw_policy.specs.Layers.{At, changed_at}
use Rattle.vsw_policy.specs.Sound as sound
use Rattle.vsw_policy.specs.Sound.{Each}
use Rattle.vsw_port.specs.VisitOutcome.{Visit}
use Rattle.vsw_port.specs.VisitOutcome.TheVariants.{Stops, Goes}
use Rattle.vsw_port.specs.Want.TheVariants.{Make, Touch}
use Rattle.vsw_port.specs.Visit.{visit_of}

-- a layer whose next pair has a number above all others, and below the greatest
abbrev pub HasNumbers : LayerSeen → Type 0
HasNumbers l = AllBelow l.next_pair l.pairs × (l.next_pair < 2 ^ 32 - 1)

none_first : (o p : Option Stop) → or_next o p ≡ None → (o ≡ None) × (p ≡ None)
none_first None p e = (refl, e)
none_first (Some s) p e = absurd (true≢false (ap is_some e))

no_taker : (l : LayerSeen) (o : Option Pair) → taken_by l o ≡ None → o ≡ None
no_taker l None e = refl
no_taker l (Some q) e = absurd (true≢false (ap is_some e))

reverse_free : (l : LayerSeen) (ps : List Pair) (p : Pair) → refused l ps p ≡ None → holder (back p) ps ≡ None
reverse_free l ps p e = by (nat_le l.spec.pairs (length ps)) refl
  where
    by : (b : Bool) → nat_le l.spec.pairs (length ps) ≡ b → holder (back p) ps ≡ None
    by true f =
        let g : Some (Full l.controller l.spec.layer) ≡ None = sym (ap (λ b. if b then Some (Full l.controller l.spec.layer) else taken_by l (holder (back p) ps)) f) ∙ e in
        absurd (true≢false (ap is_some g))
    by false f = no_taker l (holder (back p) ps) (sym (ap (λ b. if b then Some (Full l.controller l.spec.layer) else taken_by l (holder (back p) ps)) f) ∙ e)

-- a layer that isn't full has a number of 32 bits left
few_stay : (l : LayerSeen) (ps : List Pair) (p : Pair) → refused l ps p ≡ None → l.spec.pairs < 2 ^ 32 → length ps < 2 ^ 32 - 1
few_stay l ps p e h = by (nat_le l.spec.pairs (length ps)) refl
  where
    by : (b : Bool) → nat_le l.spec.pairs (length ps) ≡ b → length ps < 2 ^ 32 - 1
    by true f =
        let g : Some (Full l.controller l.spec.layer) ≡ None = sym (ap (λ b. if b then Some (Full l.controller l.spec.layer) else taken_by l (holder (back p) ps)) f) ∙ e in
        absurd (true≢false (ap is_some g))
    by false f = let less : length ps < l.spec.pairs = grind arith in omega (arith, less, h)

-- the layer without the pair that leaves
abbrev pub without_left : Option ℕ → LayerSeen → LayerSeen
without_left None l = l
without_left (Some n) l = without_pair n l

same_number : (n : ℕ) → (n == n) ≡ true
same_number n = grind arith

can_take : (l : LayerSeen) (d : Dir) (hs : List Header) (left : Option ℕ) (p : Pair) → Wants l d hs left (Some (Make p)) → HasNumbers l → refused l (staying left l.pairs) p ≡ None → CanHold l → CanTake p (without_left left l)
can_take l d hs None p w n r h = record {
  forward_free = ap (λ q. holder q l.pairs) w.1 ∙ w.2;
  reverse_free = reverse_free l l.pairs p r;
  number_next = w.0;
  number_last = n.0;
  few = few_stay l l.pairs p r h.1;
  numbers_left = n.1;
}
can_take l d hs (Some k) p w n r h = record {
  forward_free = ap (λ q. holder q (without k l.pairs)) w.1 ∙ gone w.2;
  reverse_free = reverse_free l (without k l.pairs) p r;
  number_next = w.0;
  number_last = below_filter (λ q. not (k == q.number)) l.next_pair l.pairs n.0;
  few = few_stay l (without k l.pairs) p r h.1;
  numbers_left = n.1;
}
  where
    gone : Leaves l d hs (Some k) → holder (probe d (key_from hs)) (without k l.pairs) ≡ None
    gone (q, e, f) =
        holder-filter (λ q. not (k == q.number)) (probe d (key_from hs)) l.pairs h.0 ∙ ap (option_filter (λ q. not (k == q.number))) e
        ∙ ap (λ b. cond (not b) (Some q) None) (ap (λ m. k == m) (sym f) ∙ same_number k)

-- a layer that is still to be crossed is as it was
pub record Ready (ls now : List LayerSeen) (left : Option (ℕ × ℕ)) (e : ℕ × LayerSeen) : Type 0 where
  pub here : slice_get ls e.0 ≡ Some e.1
  pub there : slice_get now e.0 ≡ Some e.1
  pub numbers : HasNumbers e.1
  pub stays : left_at e.0 left ≡ None

-- and stays so where another one is changed
beside : (ls now : List LayerSeen) (left : Option (ℕ × ℕ)) (f : LayerSeen → LayerSeen) (k : ℕ) (es : List (ℕ × LayerSeen)) → Each (λ y. (k == y.0) ≡ false) es → Each (Ready ls now left) es → Each (Ready ls (changed_at k f now) None) es
beside ls now left f k [] h r = tt
beside ls now left f k (e ∷ es) h r = (record { here = r.0.here; there = get_beside f now e.0 k h.0 ∙ r.0.there; numbers = r.0.numbers; stays = refl }, beside ls now left f k es h.1 r.1)

beside_left : (ls now : List LayerSeen) (left : Option (ℕ × ℕ)) (f : LayerSeen → LayerSeen) (k n : ℕ) (es : List (ℕ × LayerSeen)) → Each (λ y. (k == y.0) ≡ false) es → Each (Ready ls now left) es → Each (Ready ls (changed_at k f now) (Some (k, n))) es
beside_left ls now left f k n [] h r = tt
beside_left ls now left f k n (e ∷ es) h r =
    (record { here = r.0.here; there = get_beside f now e.0 k h.0 ∙ r.0.there; numbers = r.0.numbers; stays = ap (λ b. if b then Some n else None) (flip k e.0 h.0) }, beside_left ls now left f k n es h.1 r.1)

-- where a layer that wants a pair isn't refused, it can take it
made : (ls now : List LayerSeen) (d : Dir) (hs : List Header) (e : ℕ × LayerSeen) (left : Option (ℕ × ℕ)) (m : Option ℕ) (p : Pair) → slice_get ls e.0 ≡ Some e.1 → slice_get now e.0 ≡ Some (without_left m e.1)
    → HasNumbers e.1 → left_at e.0 left ≡ m → Wants e.1 d hs m (Some (Make p)) → refused_at (slice_get ls e.0) (left_at e.0 left) p ≡ None
    → ((l : LayerSeen) → slice_get ls e.0 ≡ Some l → CanHold l) → At e.0 (CanTake p) now
made ls now d hs e left m p here there n own w r h =
    let none : refused e.1 (staying m e.1.pairs) p ≡ None = sym (ap (λ o. refused_at o (left_at e.0 left) p) here ∙ ap (λ k. refused_at (Some e.1) k p) own) ∙ r in
    at_get (CanTake p) now e.0 (without_left m e.1) there (can_take e.1 d hs m p w n none (h e.1 here))

-- one layer's changes can be made, and then those of the others
walk_can : (ls : List LayerSeen) (d : Dir) (c : Control) (moment : ℕ) (es : List (ℕ × LayerSeen)) (now : List LayerSeen) (left : Option (ℕ × ℕ)) → sound.AreApart same_place es → Each (Ready ls now left) es
    → (hs : List Header) (kept : ℕ) → refusal_after ls left (along d c moment es hs kept).changes ≡ None → AllHold ls (along d c moment es hs kept).changes → CanAll (along d c moment es hs kept).changes now
walk_can ls d c moment [] now left a r hs kept f h = tt
walk_can ls d c moment (e ∷ es) now left a r hs kept f h =
    by (visit_of e.1 d c moment hs) (visits e.1 d c moment hs) f h (λ m k s. walk_can ls d c moment es m k a.1 s)
  where
    Rest : Type 0
    Rest = (m : List LayerSeen) (k : Option (ℕ × ℕ)) → Each (Ready ls m k) es → (ks : List Header) (j : ℕ)
        → refusal_after ls k (along d c moment es ks j).changes ≡ None → AllHold ls (along d c moment es ks j).changes → CanAll (along d c moment es ks j).changes m

    within : e.0 < length now
    within = slice_get_within now e.0 e.1 r.0.there

    by : (v : Visit) → IsVisit e.1 d hs v → refusal_after ls left (by_visit e.0 hs kept v (λ ks j. along d c moment es ks j)).changes ≡ None → AllHold ls (by_visit e.0 hs kept v (λ ks j. along d c moment es ks j)).changes
        → Rest → CanAll (by_visit e.0 hs kept v (λ ks j. along d c moment es ks j)).changes now
    by (Stops verdict) i f h ih = tt
    by (Goes action None None) i f h ih = ih now left r.1 (edited action hs) (kept_after action hs kept) f h
    by (Goes action None (Some (Touch n s t))) i f h ih =
        (within, ih (changed_at e.0 (with_touched n s t) now) None (beside ls now left (with_touched n s t) e.0 es a.0 r.1) (edited action hs) (kept_after action hs kept) f h.1)
    by (Goes action None (Some (Make p))) i f h ih =
        let parts = none_first (refused_at (slice_get ls e.0) (left_at e.0 left) p) (refusal_after ls None (along d c moment es (edited action hs) (kept_after action hs kept)).changes) f in (
          made ls now d hs e left None p r.0.here r.0.there r.0.numbers r.0.stays i.1 parts.0 h.0,
          ih (changed_at e.0 (with_pair p) now) None (beside ls now left (with_pair p) e.0 es a.0 r.1) (edited action hs) (kept_after action hs kept) parts.1 h.1,
        )
    by (Goes action (Some n) None) i f h ih =
        (within, ih (changed_at e.0 (without_pair n) now) (Some (e.0, n)) (beside_left ls now left (without_pair n) e.0 n es a.0 r.1) (edited action hs) (kept_after action hs kept) f h.1)
    by (Goes action (Some n) (Some (Touch k s t))) i f h ih =
        let new = changed_at e.0 (without_pair n) now in
        let ready = beside_left ls now left (without_pair n) e.0 n es a.0 r.1 in
        let there = get_changed (without_pair n) now e.0 e.1 r.0.there in (
          within,
          (
            slice_get_within new e.0 (without_pair n e.1) there,
            ih (changed_at e.0 (with_touched k s t) new) None (beside ls new (Some (e.0, n)) (with_touched k s t) e.0 es a.0 ready) (edited action hs) (kept_after action hs kept) f h.1.1,
          ),
        )
    by (Goes action (Some n) (Some (Make p))) i f h ih =
        let new = changed_at e.0 (without_pair n) now in
        let ready = beside_left ls now left (without_pair n) e.0 n es a.0 r.1 in
        let there = get_changed (without_pair n) now e.0 e.1 r.0.there in
        let own : left_at e.0 (Some (e.0, n)) ≡ Some n = ap (λ b. if b then Some n else None) (same_number e.0) in
        let parts = none_first (refused_at (slice_get ls e.0) (left_at e.0 (Some (e.0, n))) p) (refusal_after ls None (along d c moment es (edited action hs) (kept_after action hs kept)).changes) f in (
          within,
          (
            made ls new d hs e (Some (e.0, n)) (Some n) p r.0.here there r.0.numbers own i.1 parts.0 h.1.0,
            ih (changed_at e.0 (with_pair p) new) None (beside ls new (Some (e.0, n)) (with_pair p) e.0 es a.0 ready) (edited action hs) (kept_after action hs kept) parts.1 h.1.1,
          ),
        )

each_get : (P : LayerSeen → Type 0) (ls : List LayerSeen) (n : ℕ) (l : LayerSeen) → slice_get ls n ≡ Some l → Each P ls → P l
each_get P [] n l e h = absurd (true≢false (sym (ap is_some e)))
each_get P (m ∷ ls) zero l e h = let same : m ≡ l = ap (λ o. elim o [ None ↦ m | Some z ↦ z ]) e in rw (← same) h.0
each_get P (m ∷ ls) (suc n) l e h = each_get P ls n l e h.1

numbers : (cs : List ℕ) (ls : List LayerSeen) → Each (sound.IsGoodLayer cs) ls → Each (λ l. l.next_pair < 2 ^ 32 - 1) ls → Each HasNumbers ls
numbers cs [] g h = tt
numbers cs (l ∷ ls) g h = ((g.0.4, h.0), numbers cs ls g.1 h.1)

-- all that a walk wants can be made
told_can : (cs : List ℕ) (ls : List LayerSeen) (x : Crossing) → Each (sound.IsGoodLayer cs) ls → Each (λ l. l.next_pair < 2 ^ 32 - 1) ls
    → refusal_after ls None (walk_of ls x).changes ≡ None → AllHold ls (walk_of ls x).changes → CanAll (walk_of ls x).changes ls
unfolding walk_of
told_can cs ls x g n f h =
    walk_can ls x.id.dir x.control x.moment (crossed x.id.dir (placed 0 ls)) ls None (crossed_apart x.id.dir ls)
    (each_as (λ e. slice_get ls e.0 ≡ Some e.1) (Ready ls ls None) (λ e i. record { here = i; there = i; numbers = each_get HasNumbers ls e.0 e.1 i (numbers cs ls g n); stays = refl })
    (crossed x.id.dir (placed 0 ls)) (each_crossed (λ e. slice_get ls e.0 ≡ Some e.1) x.id.dir (placed 0 ls) (places ls)))
    x.id.stack (encaps x.id.stack) f h

pub can : (cs : List ℕ) (ls : List LayerSeen) (x : Crossing) → Each (sound.IsGoodLayer cs) ls → Each (λ l. l.next_pair < 2 ^ 32 - 1) ls
    → refusal ls (walk_of ls x).changes ≡ None → AllHold ls (walk_of ls x).changes → CanAll (walk_of ls x).changes ls
can cs ls x g n f h = told_can cs ls x g n (refusal_is ls x ∙ f) h

-- what one layer tells is within the layers
told_within : (count place : ℕ) → place < count → (v : Visit) → Each (IsWithin count) (told_by place v)
told_within count place h (Stops verdict) = tt
told_within count place h (Goes action None None) = tt
told_within count place h (Goes action None (Some (Make p))) = (h, tt)
told_within count place h (Goes action None (Some (Touch n s t))) = (h, tt)
told_within count place h (Goes action (Some k) None) = (h, tt)
told_within count place h (Goes action (Some k) (Some (Make p))) = (h, (h, tt))
told_within count place h (Goes action (Some k) (Some (Touch n s t))) = (h, (h, tt))

pub walk_within : (ls : List LayerSeen) (x : Crossing) → Each (IsWithin (length ls)) (walk_of ls x).changes
unfolding walk_of
walk_within ls x =
    each_told (IsWithin (length ls)) x.id.dir x.control x.moment (crossed x.id.dir (placed 0 ls))
    (each_as (λ e. slice_get ls e.0 ≡ Some e.1) (λ e. (hs : List Header) → Each (IsWithin (length ls)) (told_by e.0 (visit_of e.1 x.id.dir x.control x.moment hs)))
    (λ e h hs. told_within (length ls) e.0 (slice_get_within ls e.0 e.1 h) (visit_of e.1 x.id.dir x.control x.moment hs))
    (crossed x.id.dir (placed 0 ls)) (each_crossed (λ e. slice_get ls e.0 ≡ Some e.1) x.id.dir (placed 0 ls) (places ls)))
    x.id.stack (encaps x.id.stack)

-- what one layer tells is made in no other
told_beside : (k place : ℕ) → (k == place) ≡ false → (v : Visit) → Each (NotMade k) (told_by place v)
told_beside k place h (Stops verdict) = tt
told_beside k place h (Goes action None None) = tt
told_beside k place h (Goes action None (Some (Make p))) = (h, tt)
told_beside k place h (Goes action None (Some (Touch n s t))) = (tt, tt)
told_beside k place h (Goes action (Some j) None) = (tt, tt)
told_beside k place h (Goes action (Some j) (Some (Make p))) = (tt, (h, tt))
told_beside k place h (Goes action (Some j) (Some (Touch n s t))) = (tt, (tt, tt))

along_apart : (d : Dir) (c : Control) (moment : ℕ) (es : List (ℕ × LayerSeen)) → sound.AreApart same_place es → (hs : List Header) (kept : ℕ) → AreApart (along d c moment es hs kept).changes
along_apart d c moment [] a hs kept = tt
along_apart d c moment (e ∷ es) a hs kept = by (visit_of e.1 d c moment hs) (λ ks j. along_apart d c moment es a.1 ks j)
  where
    others : (ks : List Header) (j : ℕ) → Each (NotMade e.0) (along d c moment es ks j).changes
    others ks j =
        each_told (NotMade e.0) d c moment es
        (each_as (λ y. (e.0 == y.0) ≡ false) (λ y. (gs : List Header) → Each (NotMade e.0) (told_by y.0 (visit_of y.1 d c moment gs)))
        (λ y h gs. told_beside e.0 y.0 h (visit_of y.1 d c moment gs)) es a.0)
        ks j

    by : (v : Visit) → ((ks : List Header) (j : ℕ) → AreApart (along d c moment es ks j).changes) → AreApart (by_visit e.0 hs kept v (λ ks j. along d c moment es ks j)).changes
    by (Stops verdict) ih = tt
    by (Goes action None None) ih = ih (edited action hs) (kept_after action hs kept)
    by (Goes action None (Some (Make p))) ih = (others (edited action hs) (kept_after action hs kept), ih (edited action hs) (kept_after action hs kept))
    by (Goes action None (Some (Touch n s t))) ih = ih (edited action hs) (kept_after action hs kept)
    by (Goes action (Some k) None) ih = ih (edited action hs) (kept_after action hs kept)
    by (Goes action (Some k) (Some (Make p))) ih = (others (edited action hs) (kept_after action hs kept), ih (edited action hs) (kept_after action hs kept))
    by (Goes action (Some k) (Some (Touch n s t))) ih = ih (edited action hs) (kept_after action hs kept)

pub walk_apart : (ls : List LayerSeen) (x : Crossing) → AreApart (walk_of ls x).changes
unfolding walk_of
walk_apart ls x = along_apart x.id.dir x.control x.moment (crossed x.id.dir (placed 0 ls)) (crossed_apart x.id.dir ls) x.id.stack (encaps x.id.stack)

-- a packet that passes and isn't stopped isn't refused a pair
pub not_refused : (ls : List LayerSeen) (x : Crossing) (w : Walk) → w.verdict ≡ Pass → stop_of ls x w ≡ None → refusal ls w.changes ≡ None
not_refused ls x w p e = by (is_long x w.stack w.kept) refl
  where
    chosen : (if is_long x w.stack w.kept then Some Long else refusal ls w.changes) ≡ None
    chosen = sym (ap (λ v. on_pass v (if is_long x w.stack w.kept then Some Long else refusal ls w.changes)) p) ∙ e

    by : (b : Bool) → is_long x w.stack w.kept ≡ b → refusal ls w.changes ≡ None
    by true f =
        let g : Some Long ≡ None = sym (ap (λ b. if b then Some Long else refusal ls w.changes) f) ∙ chosen in
        absurd (true≢false (ap is_some g))
    by false f = sym (ap (λ b. if b then Some Long else refusal ls w.changes) f) ∙ chosen

-- what stops a packet that was judged isn't want of memory
abbrev pub memory_in : Option Stop → Bool
memory_in None = false
memory_in (Some Long) = false
memory_in (Some (Full controller layer)) = false
memory_in (Some (Taken controller layer pair)) = false
memory_in (Some Memory) = true

taker_other : (l : LayerSeen) (o : Option Pair) → memory_in (taken_by l o) ≡ false
taker_other l None = refl
taker_other l (Some q) = refl

refused_other : (o : Option LayerSeen) (left : Option ℕ) (p : Pair) → memory_in (refused_at o left p) ≡ false
refused_other None left p = refl
refused_other (Some l) left p =
    elim (nat_le l.spec.pairs (length (staying left l.pairs))) as (λ b. memory_in (if b then Some (Full l.controller l.spec.layer) else taken_by l (holder (back p) (staying left l.pairs))) ≡ false) [
      | true ↦ refl
      | false ↦ taker_other l (holder (back p) (staying left l.pairs))
    ]

refusal_other : (ls : List LayerSeen) (ws : List Wanted) → memory_in (refusal ls ws) ≡ false
refusal_other ls ws = of_first (λ o. memory_in o ≡ false) ls (λ place. left_in place ws) refl refused_other ws

pass_other : (v : Verdict) (o : Option Stop) → memory_in o ≡ false → memory_in (on_pass v o) ≡ false
pass_other Pass o e = e
pass_other (Rule controller layer group rule) o e = refl
pass_other (Default controller layer dir) o e = refl

stop_other : (ls : List LayerSeen) (x : Crossing) (w : Walk) → memory_in (stop_of ls x w) ≡ false
stop_other ls x w = pass_other w.verdict (if is_long x w.stack w.kept then Some Long else refusal ls w.changes)
    (elim (is_long x w.stack w.kept) as (λ b. memory_in (if b then Some Long else refusal ls w.changes) ≡ false) [ true ↦ refl | false ↦ refusal_other ls w.changes ])

memory_is : (s : Stop) → memory_in (Some s) ≡ is_memory (Err s)
memory_is Long = refl
memory_is (Full controller layer) = refl
memory_is (Taken controller layer pair) = refl
memory_is Memory = refl

pub judged_other : (ls : List LayerSeen) (x : Crossing) (w : Walk) (s : Stop) {A : Type 0} → stop_of ls x w ≡ Some s → is_memory (Err s) ≡ true → A
judged_other ls x w s e f = absurd (true≢false (sym f ∙ sym (memory_is s) ∙ ap memory_in (sym e) ∙ stop_other ls x w))
