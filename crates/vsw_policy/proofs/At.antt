-- The layer at a place: what is changed there, and that a policy stays sound.
use Rattle.std.proofs.Common.{◌≡◌, ◌≢◌, zero, suc, ◌<◌, ◌≤◌, ℕ, ◌==◌, ◌+◌, Bool, true, false, not, List, [], ◌∷◌, ◌++◌, map, length, filter, get_or, refl, ap, sym, subst, ◌∙◌, arith}
use Rattle.std.specs.List.{slice_set}
use Rattle.vsw_base.specs.declared.flow.Track.{Track}
use Rattle.vsw_layerflow.specs.declared.pair.Pair.{Pair}
use Rattle.vsw_layerflow.specs.Pairs.{touched, AllBelow}
use Rattle.vsw_layerflow.proofs.Order.{below_filter, below_push}
use Rattle.vsw_policy.specs.declared.layer.Layer.{Layer}
use Rattle.vsw_policy.specs.Layer.{LayerSeen, seen, room, with_pair, with_touched, without_pair, CanTake}
use Rattle.vsw_policy.specs.Layers.{At, changed_at, is_of, is_before}
use Rattle.vsw_policy.specs.Sound.{Each, AreApart, AreInOrder, AreGood, IsGoodLayer, IsSound, same_layer}
use Rattle.vsw_policy.proofs.Keeps.{KeepsName, each-as, before-left, before-right}

pub set-seen : (f : LayerSeen → LayerSeen) (xs : List Layer) (i : ℕ) (x y : Layer) → i < length xs → x ≡ get_or xs i x → seen y ≡ f (seen x) → map seen (slice_set xs i y) ≡ changed_at i f (map seen xs)
set-seen f [] i x y lt here e = absurd (omega arith)
set-seen f (z ∷ zs) zero x y lt here e = ap (λ l. l ∷ map seen zs) (e ∙ ap (λ w. f (seen w)) here)
set-seen f (z ∷ zs) (suc i) x y lt here e = ap (λ ls. seen z ∷ ls) (set-seen f zs i x y (omega arith) here e)

-- what holds of the layer at a place holds of what is seen there, and the other way round
pub at-is : (P : LayerSeen → Type 0) (xs : List Layer) (i : ℕ) (x : Layer) → x ≡ get_or xs i x → At i P (map seen xs) → P (seen x)
at-is P [] i x here h = absurd h
at-is P (z ∷ zs) zero x here h = subst (λ w. P (seen w)) (sym here) h
at-is P (z ∷ zs) (suc i) x here h = at-is P zs i x here h

pub is-at : (P : LayerSeen → Type 0) (xs : List Layer) (i : ℕ) (x : Layer) → i < length xs → x ≡ get_or xs i x → P (seen x) → At i P (map seen xs)
is-at P [] i x lt here h = absurd (omega arith)
is-at P (z ∷ zs) zero x lt here h = subst (λ w. P (seen w)) here h
is-at P (z ∷ zs) (suc i) x lt here h = is-at P zs i x (omega arith) here h

pub each-is : (P : LayerSeen → Type 0) (xs : List Layer) (i : ℕ) (x : Layer) → i < length xs → x ≡ get_or xs i x → Each P (map seen xs) → P (seen x)
each-is P [] i x lt here h = absurd (omega arith)
each-is P (z ∷ zs) zero x lt here h = subst (λ w. P (seen w)) (sym here) h.0
each-is P (z ∷ zs) (suc i) x lt here h = each-is P zs i x (omega arith) here h.1

pub at-within : (P : LayerSeen → Type 0) (xs : List Layer) (i : ℕ) → At i P (map seen xs) → i < length xs
at-within P [] i h = absurd h
at-within P (z ∷ zs) zero h = omega arith
at-within P (z ∷ zs) (suc i) h = let ih = at-within P zs i h in omega (arith, ih)

-- two changes of one layer are one
pub at-changed : (P : LayerSeen → Type 0) (f : LayerSeen → LayerSeen) (ls : List LayerSeen) (i : ℕ) → At i P (changed_at i f ls) → At i (λ l. P (f l)) ls
at-changed P f [] i h = absurd h
at-changed P f (l ∷ ls) zero h = h
at-changed P f (l ∷ ls) (suc i) h = at-changed P f ls i h

pub changed-twice : (f g : LayerSeen → LayerSeen) (ls : List LayerSeen) (i : ℕ) → changed_at i (λ l. g (f l)) ls ≡ changed_at i g (changed_at i f ls)
changed-twice f g [] i = refl
changed-twice f g (l ∷ ls) zero = refl
changed-twice f g (l ∷ ls) (suc i) = ap (λ ks. l ∷ ks) (changed-twice f g ls i)

-- a change of another layer
pub at-beside : (P : LayerSeen → Type 0) (f : LayerSeen → LayerSeen) (ls : List LayerSeen) (i k : ℕ) → k ≢ i → At k P ls → At k P (changed_at i f ls)
at-beside P f [] i k other h = absurd h
at-beside P f (l ∷ ls) zero zero other h = absurd (other refl)
at-beside P f (l ∷ ls) zero (suc k) other h = h
at-beside P f (l ∷ ls) (suc i) zero other h = h
at-beside P f (l ∷ ls) (suc i) (suc k) other h = at-beside P f ls i k (λ e. other (ap (λ n. suc n) e)) h

-- ---- the room of each

pub room-is : (xs : List Layer) (i : ℕ) (x : Layer) → i < length xs → x ≡ get_or xs i x → get_or (map room xs) i 0 ≡ room x
room-is [] i x lt here = absurd (omega arith)
room-is (z ∷ zs) zero x lt here = ap room (sym here)
room-is (z ∷ zs) (suc i) x lt here = room-is zs i x (omega arith) here

pub room-set : (xs : List Layer) (i : ℕ) (y : Layer) → i < length xs → get_or (map room (slice_set xs i y)) i 0 ≡ room y
room-set [] i y lt = absurd (omega arith)
room-set (z ∷ zs) zero y lt = refl
room-set (z ∷ zs) (suc i) y lt = room-set zs i y (omega arith)

same-room : (n : ℕ) → n ≤ n
same-room n = omega arith

pub rooms-kept : (xs : List Layer) (i : ℕ) (x y : Layer) → i < length xs → x ≡ get_or xs i x → room x ≤ room y → (k : ℕ) → get_or (map room xs) k 0 ≤ get_or (map room (slice_set xs i y)) k 0
rooms-kept [] i x y lt here le k = absurd (omega arith)
rooms-kept (z ∷ zs) zero x y lt here le zero = subst (λ w. room w ≤ room y) here le
rooms-kept (z ∷ zs) zero x y lt here le (suc k) = same-room (get_or (map room zs) k 0)
rooms-kept (z ∷ zs) (suc i) x y lt here le zero = same-room (room z)
rooms-kept (z ∷ zs) (suc i) x y lt here le (suc k) = rooms-kept zs i x y (omega arith) here le k

pub rooms-beside : (xs : List Layer) (i : ℕ) (y : Layer) (k : ℕ) → k ≢ i → get_or (map room xs) k 0 ≤ get_or (map room (slice_set xs i y)) k 0
rooms-beside [] i y k other = same-room (get_or (map room []) k 0)
rooms-beside (z ∷ zs) zero y zero other = absurd (other refl)
rooms-beside (z ∷ zs) zero y (suc k) other = same-room (get_or (map room zs) k 0)
rooms-beside (z ∷ zs) (suc i) y zero other = same-room (room z)
rooms-beside (z ∷ zs) (suc i) y (suc k) other = rooms-beside zs i y k (λ e. other (ap (λ n. suc n) e))

-- ---- soundness

each-at : (P : LayerSeen → Type 0) (k : ℕ) (f : LayerSeen → LayerSeen) → ((l : LayerSeen) → P l → P (f l)) → (ls : List LayerSeen) → Each P ls → Each P (changed_at k f ls)
each-at P k f g [] h = tt
each-at P zero f g (l ∷ ls) h = (g l h.0, h.1)
each-at P (suc k) f g (l ∷ ls) h = (h.0, each-at P k f g ls h.1)

order-at : (cs : List ℕ) (k : ℕ) (f : LayerSeen → LayerSeen) → KeepsName f → (ls : List LayerSeen) → AreInOrder cs ls → AreInOrder cs (changed_at k f ls)
order-at cs k f n [] h = tt
order-at cs zero f n (l ∷ ls) h = (each-as (λ m. is_before cs m l ≡ false) (λ m. is_before cs m (f l) ≡ false) (λ m i. before-right cs f n l m i) ls h.0, h.1)
order-at cs (suc k) f n (l ∷ ls) h = (each-at (λ m. is_before cs m l ≡ false) k f (λ m i. before-left cs f n l m i) ls h.0, order-at cs k f n ls h.1)

same-left : (f : LayerSeen → LayerSeen) → KeepsName f → (l m : LayerSeen) → same_layer l m ≡ false → same_layer (f l) m ≡ false
same-left f n l m h = let e = n l in rw (e.0, e.2) h

same-right : (f : LayerSeen → LayerSeen) → KeepsName f → (l m : LayerSeen) → same_layer l m ≡ false → same_layer l (f m) ≡ false
same-right f n l m h = let e = n m in rw (e.0, e.2) h

apart-at : (k : ℕ) (f : LayerSeen → LayerSeen) → KeepsName f → (ls : List LayerSeen) → AreApart same_layer ls → AreApart same_layer (changed_at k f ls)
apart-at k f n [] h = tt
apart-at zero f n (l ∷ ls) h = (each-as (λ m. same_layer l m ≡ false) (λ m. same_layer (f l) m ≡ false) (λ m i. same-left f n l m i) ls h.0, h.1)
apart-at (suc k) f n (l ∷ ls) h = (each-at (λ m. same_layer l m ≡ false) k f (λ m i. same-right f n l m i) ls h.0, apart-at k f n ls h.1)

count-at : (c k : ℕ) (f : LayerSeen → LayerSeen) → KeepsName f → (ls : List LayerSeen) → length (filter (is_of c) (changed_at k f ls)) ≡ length (filter (is_of c) ls)
count-at c k f n [] = refl
count-at c zero f n (l ∷ ls) = by (c == l.controller) refl
  where
    by : (b : Bool) → (c == l.controller) ≡ b → length (filter (is_of c) (f l ∷ ls)) ≡ length (filter (is_of c) (l ∷ ls))
    by true i = let e = n l in rw (e.0, i) refl
    by false i = let e = n l in rw (e.0, i) refl
count-at c (suc k) f n (l ∷ ls) = by (c == l.controller) refl (count-at c k f n ls)
  where
    by : (b : Bool) → (c == l.controller) ≡ b → length (filter (is_of c) (changed_at k f ls)) ≡ length (filter (is_of c) ls) → length (filter (is_of c) (l ∷ changed_at k f ls)) ≡ length (filter (is_of c) (l ∷ ls))
    by true i ih = rw i (ap (λ m. suc m) ih)
    by false i ih = rw i ih

-- numbers stay below the next
below-touched : (n : ℕ) (t : Track) (m k : ℕ) (ps : List Pair) → AllBelow k ps → AllBelow k (touched n t m ps)
below-touched n t m k [] h = tt
below-touched n t m k (p ∷ ps) h = (h.0, below-touched n t m k ps h.1)

pub good-touched : (cs : List ℕ) (n : ℕ) (t : Track) (m : ℕ) (k : ℕ) (ls : List LayerSeen) → Each (IsGoodLayer cs) ls → Each (IsGoodLayer cs) (changed_at k (with_touched n t m) ls)
good-touched cs n t m k ls h = each-at (IsGoodLayer cs) k (with_touched n t m) (λ l ok. (ok.0, ok.1, ok.2, ok.3, below-touched n t m l.next_pair l.pairs ok.4)) ls h

pub good-gone : (cs : List ℕ) (n : ℕ) (k : ℕ) (ls : List LayerSeen) → Each (IsGoodLayer cs) ls → Each (IsGoodLayer cs) (changed_at k (without_pair n) ls)
good-gone cs n k ls h = each-at (IsGoodLayer cs) k (without_pair n) (λ l ok. (ok.0, ok.1, ok.2, ok.3, below_filter (λ p. not (n == p.number)) l.next_pair l.pairs ok.4)) ls h

pub good-added : (cs : List ℕ) (p : Pair) (k : ℕ) (ls : List LayerSeen) → At k (CanTake p) ls → Each (IsGoodLayer cs) ls → Each (IsGoodLayer cs) (changed_at k (with_pair p) ls)
good-added cs p k [] t h = absurd t
good-added cs p zero (l ∷ ls) t h =
    let ok = h.0 in
    let last = subst (λ n. AllBelow n l.pairs) (sym t.number_next) t.number_last in
    ((ok.0, ok.1, ok.2, ok.3, subst (λ n. AllBelow (n + 1) (l.pairs ++ p ∷ [])) t.number_next (below_push l.pairs p last)), h.1)
good-added cs p (suc k) (l ∷ ls) t h = (h.0, good-added cs p k ls t h.1)

-- a change of pairs alone
pub sound-at : (cs : List ℕ) (ls new : List LayerSeen) (rooms others : List ℕ) (k : ℕ) (f : LayerSeen → LayerSeen) → KeepsName f → Each (IsGoodLayer cs) (changed_at k f ls) → IsSound (record { controllers = cs; layers = ls; rooms = rooms }) → new ≡ changed_at k f ls
    → IsSound (record { controllers = cs; layers = new; rooms = others })
sound-at cs ls new rooms others k f n good h e =
    let a : AreGood cs (changed_at k f ls) = record {
      in_order = order-at cs k f n ls h.layers.in_order;
      apart = apart-at k f n ls h.layers.apart;
      good = good;
      few = λ c. rw (count-at c k f n ls) (h.layers.few c);
    } in
    record { few_controllers = h.few_controllers; distinct = h.distinct; layers = rw e a }
