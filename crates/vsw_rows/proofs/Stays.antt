-- What the changes of a crossing leave of what a look finds.
use Rattle.std.proofs.Common.{◌≡◌, ℕ, zero, suc, ◌==◌, ◌/◌, Bool, true, false, not, ◌&&◌, ◌||◌, List, [], ◌∷◌, length, Option, Some, None, option_map, refl, sym, ap, ◌∙◌, arith, true≢false}
use Rattle.std.specs.List.{slice_get}
use Rattle.vsw_base.specs.declared.flow.Track.{Track}
use Rattle.vsw_base.specs.declared.packet.Dir.{Dir}
use Rattle.vsw_port.specs.Cross.{all_done, done}
use Rattle.vsw_port.proofs.Places.{get_beside}
use Rattle.vsw_walk.specs.declared.scratch.Looked.{Looked}
use Rattle.vsw_walk.specs.declared.scratch.Wanted.{Wanted}
use Rattle.vsw_walk.specs.declared.scratch.Wanted.TheVariants.{Make, Touch, Leave}
use Rattle.vsw_walk.specs.Walk.{due_of}
use Rattle.vsw_policy.specs.declared.layer.LayerSpec.{LayerSpec}
use Rattle.vsw_policy.specs.Layer.{LayerSeen, with_pair, with_touched, without_pair}
use Rattle.vsw_layerflow.specs.declared.pair.Pair.{Pair}
use Rattle.vsw_layerflow.specs.Life.{later, life}
use Rattle.vsw_layerflow.specs.Pairs.{number_of, pair_of}
use Rattle.vsw_policy.specs.Layers.{changed_at}
use Rattle.vsw_policy.specs.Sound.{Each}
use Rattle.vsw_rows.specs.Shaken.{IsRight, found_in, is_found, moves_found, moves_in, shake, shakes, shakes_one}
use Rattle.vsw_rows.proofs.PairFound.{Gist, View, gist, view, leave_stays, make_stays, touch_stays}

-- all that a look is told by its layer is as it was
abbrev pub Stays : Looked → List LayerSeen → List LayerSeen → Type 0
Stays q ls now = option_map (view q) (slice_get now q.layer) ≡ option_map (view q) (slice_get ls q.layer)

-- what is read of a view
number_in : Option View → Option ℕ
number_in None = None
number_in (Some v) = option_map (λ g. g.0) v.1

pub number_gist : (s : LayerSpec) (d : Dir) (o : Option Pair) → option_map number_of o ≡ option_map (λ (g : Gist). g.0) (option_map (gist s d) o)
number_gist s d None = refl
number_gist s d (Some p) = refl

number_as : (q : Looked) (o : Option LayerSeen) → option_map number_of (found_in o q) ≡ number_in (option_map (view q) o)
unfolding number_in
number_as q None = refl
number_as q (Some l) = number_gist l.spec q.dir (pair_of q.dir q.key l.pairs)

pub right_stays : (q : Looked) (ls now : List LayerSeen) → Stays q ls now → IsRight ls q → IsRight now q
right_stays q ls now h e = e ∙ number_as q (slice_get ls q.layer) ∙ ap number_in (sym h) ∙ sym (number_as q (slice_get now q.layer))

pub due_gist : (s : LayerSpec) (d : Dir) (o : Option Pair) → due_of s o ≡ option_map (λ (g : Gist). later g.2 (g.3 / 4)) (option_map (gist s d) o)
due_gist s d None = refl
due_gist s d (Some p) = refl

moves_gist : LayerSeen → Track → ℕ → Option Gist → Bool
moves_gist l t m None = false
moves_gist l t m (Some g) = not (m == g.2) || not (life t l.spec.idle l.spec.linger == g.3)

moves_view : Track → ℕ → Option View → Bool
moves_view t m None = false
moves_view t m (Some v) = moves_gist v.0 t m v.1

moves_as : (t : Track) (m : ℕ) (q : Looked) (o : Option LayerSeen) → moves_in o t m q ≡ moves_view t m (option_map (view q) o)
unfolding moves_gist moves_view
moves_as t m q None = refl
moves_as t m q (Some l) = by (pair_of q.dir q.key l.pairs)
  where
    by : (o : Option Pair) → moves_found l.spec t m o ≡ moves_gist l t m (option_map (gist l.spec q.dir) o)
    by None = refl
    by (Some p) = refl

-- a change at a place
equal : (a b : ℕ) → (a == b) ≡ true → a ≡ b
equal a b e = grind arith

got : {A : Type 0} (a b : A) → Some a ≡ Some b → a ≡ b
got a b e = ap (λ o. elim o [ None ↦ a | Some z ↦ z ]) e

get_same : (f : LayerSeen → LayerSeen) (ls : List LayerSeen) (k : ℕ) → slice_get (changed_at k f ls) k ≡ option_map f (slice_get ls k)
get_same f [] k = refl
get_same f (l ∷ ls) zero = refl
get_same f (l ∷ ls) (suc k) = get_same f ls k

changed_stays : (q : Looked) (k : ℕ) (f : LayerSeen → LayerSeen) (ls : List LayerSeen) → ((l : LayerSeen) → k ≡ q.layer → (k == q.layer) ≡ true → slice_get ls q.layer ≡ Some l → view q (f l) ≡ view q l) → Stays q ls (changed_at k f ls)
changed_stays q k f ls h = by (k == q.layer) refl
  where
    each : (o : Option LayerSeen) → ((l : LayerSeen) → o ≡ Some l → view q (f l) ≡ view q l) → option_map (view q) (option_map f o) ≡ option_map (view q) o
    each None g = refl
    each (Some l) g = ap (λ v. Some v) (g l refl)

    by : (b : Bool) → (k == q.layer) ≡ b → Stays q ls (changed_at k f ls)
    by true e =
        let i = equal k q.layer e in
        ap (option_map (view q)) (sym (ap (λ n. slice_get (changed_at k f ls) n) i) ∙ get_same f ls k ∙ ap (λ n. option_map f (slice_get ls n)) i)
        ∙ each (slice_get ls q.layer) (λ l g. h l i e g)
    by false e = ap (option_map (view q)) (get_beside f ls q.layer k e)

and_false : (a b : Bool) → a ≡ true → (a && b) ≡ false → b ≡ false
and_false true b e h = h
and_false false b e h = absurd (true≢false (sym e))

right_in : (q : Looked) (ls : List LayerSeen) (l : LayerSeen) → IsRight ls q → slice_get ls q.layer ≡ Some l → q.found ≡ option_map number_of (pair_of q.dir q.key l.pairs)
right_in q ls l r g = r ∙ ap (λ o. option_map number_of (found_in o q)) g

-- a change that doesn't shake a look leaves what it is told
pub done_stays : (w : Wanted) (q : Looked) (ls : List LayerSeen) → IsRight ls q → shakes ls w q ≡ false → Stays q ls (done w ls)
done_stays (Make place p) q ls r h = changed_stays q place (with_pair p) ls (λ l i e g. make_stays q p l (right_in q ls l r g) (and_false (place == q.layer) _ e h))
done_stays (Touch place n t m) q ls r h =
    changed_stays q place (with_touched n t m) ls
    (λ l i e g. touch_stays q n t m l (right_in q ls l r g) (sym (ap (λ o. is_found n q.found && moves_in o t m q) (ap (slice_get ls) i ∙ g)) ∙ and_false (place == q.layer) _ e h))
done_stays (Leave place n) q ls r h = changed_stays q place (without_pair n) ls (λ l i e g. leave_stays q n l (right_in q ls l r g) (and_false (place == q.layer) _ e h))

-- and what shakes it
shakes_stays : (w : Wanted) (q : Looked) (ls now : List LayerSeen) → Stays q ls now → shakes now w q ≡ shakes ls w q
shakes_stays (Make place p) q ls now s = refl
shakes_stays (Leave place n) q ls now s = refl
shakes_stays (Touch place n t m) q ls now s = by (place == q.layer) refl
  where
    by : (b : Bool) → (place == q.layer) ≡ b → (b && (is_found n q.found && moves_in (slice_get now place) t m q)) ≡ (b && (is_found n q.found && moves_in (slice_get ls place) t m q))
    by false e = refl
    by true e =
        let i = equal place q.layer e in
        ap (λ b. is_found n q.found && b)
        (ap (λ k. moves_in (slice_get now k) t m q) i ∙ moves_as t m q (slice_get now q.layer) ∙ ap (moves_view t m) s ∙ sym (moves_as t m q (slice_get ls q.layer)) ∙ sym (ap (λ k. moves_in (slice_get ls k) t m q) i))

-- changes none of which shakes a look leave what it is told
pub all_stays : (ws : List Wanted) (q : Looked) (ls now : List LayerSeen) → IsRight ls q → Stays q ls now → Each (λ w. shakes ls w q ≡ false) ws → Stays q ls (all_done ws now)
all_stays [] q ls now r s h = s
all_stays (w ∷ ws) q ls now r s h = all_stays ws q ls (done w now) r (done_stays w q now (right_stays q ls now s r) (shakes_stays w q ls now s ∙ h.0) ∙ s) h.1

-- no change shakes one of the looks
or_false : (a b : Bool) → (a || b) ≡ false → (a ≡ false) × (b ≡ false)
or_false true b e = absurd (true≢false e)
or_false false b e = (refl, e)

one_each : (ls : List LayerSeen) (w : Wanted) (qs : List Looked) → shakes_one ls w qs ≡ false → Each (λ q. shakes ls w q ≡ false) qs
one_each ls w [] h = tt
one_each ls w (q ∷ qs) h = let t = or_false (shakes ls w q) (shakes_one ls w qs) h in (t.0, one_each ls w qs t.1)

joined : (ls : List LayerSeen) (w : Wanted) (ws : List Wanted) (qs : List Looked) → Each (λ q. shakes ls w q ≡ false) qs → Each (λ q. Each (λ w. shakes ls w q ≡ false) ws) qs → Each (λ q. Each (λ w. shakes ls w q ≡ false) (w ∷ ws)) qs
joined ls w ws [] h i = tt
joined ls w ws (q ∷ qs) h i = ((h.0, i.0), joined ls w ws qs h.1 i.1)

none_each : (ls : List LayerSeen) (qs : List Looked) → Each (λ q. Each (λ w. shakes ls w q ≡ false) []) qs
none_each ls [] = tt
none_each ls (q ∷ qs) = (tt, none_each ls qs)

pub shake_each : (ls : List LayerSeen) (ws : List Wanted) (qs : List Looked) → shake ls ws qs ≡ false → Each (λ q. Each (λ w. shakes ls w q ≡ false) ws) qs
shake_each ls [] qs h = none_each ls qs
shake_each ls (w ∷ ws) qs h = let t = or_false (shakes_one ls w qs) (shake ls ws qs) h in joined ls w ws qs (one_each ls w qs t.0) (shake_each ls ws qs t.1)

pub all_stay : (ls : List LayerSeen) (ws : List Wanted) (qs : List Looked) → Each (IsRight ls) qs → shake ls ws qs ≡ false → Each (λ q. Stays q ls (all_done ws ls)) qs
all_stay ls ws qs r h = by qs r (shake_each ls ws qs h)
  where
    by : (ps : List Looked) → Each (IsRight ls) ps → Each (λ q. Each (λ w. shakes ls w q ≡ false) ws) ps → Each (λ q. Stays q ls (all_done ws ls)) ps
    by [] r h = tt
    by (q ∷ ps) r h = (all_stays ws q ls ls r.0 refl h.0, by ps r.1 h.1)

-- no layer comes or goes
length_changed : (k : ℕ) (f : LayerSeen → LayerSeen) (ls : List LayerSeen) → length (changed_at k f ls) ≡ length ls
length_changed k f [] = refl
length_changed zero f (l ∷ ls) = refl
length_changed (suc k) f (l ∷ ls) = ap suc (length_changed k f ls)

length_done : (w : Wanted) (ls : List LayerSeen) → length (done w ls) ≡ length ls
length_done (Make place p) ls = length_changed place (with_pair p) ls
length_done (Touch place n t m) ls = length_changed place (with_touched n t m) ls
length_done (Leave place n) ls = length_changed place (without_pair n) ls

pub length_all : (ws : List Wanted) (ls : List LayerSeen) → length (all_done ws ls) ≡ length ls
length_all [] ls = refl
length_all (w ∷ ws) ls = length_all ws (done w ls) ∙ length_done w ls
