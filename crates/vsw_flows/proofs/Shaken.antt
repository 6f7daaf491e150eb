-- Rows that a crossing shakes fall, and no others.
use Rattle.std.proofs.Common.{◌≡◌, ◌⊎◌, ◌+◌, ◌-◌, ◌==◌, ℕ, Bool, true, false, not, ◌&&◌, ◌||◌, List, [], ◌∷◌, Option, Some, None, is_some, inl, inr, refl, sym, ap, subst, ◌∙◌, arith, true≢false}
use Rattle.std.specs.List.{list_any}
use Rattle.vsw_base.specs.declared.flow.Track.{Track}
use Rattle.vsw_layerflow.specs.declared.pair.Pair.{Pair}
use Rattle.vsw_layerflow.specs.declared.pair.Probe.{Probe}
use Rattle.vsw_layerflow.specs.Pairs.{back, front, holds, probe, same_probe}
use Rattle.vsw_policy.specs.Layer.{LayerSeen}
use Rattle.vsw_policy.specs.Sound.{Each}
use Rattle.vsw_rows.specs.Shaken.{is_found, shake, shakes, shakes_one}
use Rattle.vsw_walk.specs.declared.scratch.Looked.{Looked}
use Rattle.vsw_walk.specs.declared.scratch.Wanted.{Wanted}
use Rattle.vsw_walk.specs.declared.scratch.Wanted.TheVariants.{Make, Touch, Leave}
use Rattle.vsw_flows.specs.declared.leaners.Leaners.{Leaners}
use Rattle.vsw_flows.specs.declared.spot.Spot.{Spot}
use Rattle.vsw_flows.specs.declared.spot.Spot.TheVariants.{Missed, Found}
use Rattle.vsw_flows.specs.Flows.{Falls, Writing}
use Rattle.vsw_flows.specs.Leaners.{has}
use Rattle.vsw_flows.specs.Leant.{Leant, kept_at}
use Rattle.vsw_flows.specs.Shaking.{IsShaken, IsShakenBy, NoneLeft, NoneLeftBy, Past, Tested}
use Rattle.vsw_flows.specs.Spots.{leaners_in, same_spot, spot_by, spot_of, stands}
use Rattle.vsw_flows.specs.Standing.{Fell, Stand, Thins}
use Rattle.vsw_flows.proofs.Spots.{spot_is}
use Rattle.vsw_flows.proofs.Thinned.{fell_thins, map_each, thins_none, thins_then, thins_weaker, was_current}

number_is : (a b : ℕ) → (a == b) ≡ true → a ≡ b
number_is a b e = grind arith

-- one row is tested
pub untested : (ls : List LayerSeen) (w : Wanted) (kept : List (List Looked)) (mark : ℕ) (v : Writing) → (mark == 0) ≡ true → Tested ls w kept mark v
untested ls w kept mark v e place i c = absurd (grind (arith, i, number_is mark 0 e))

pub spared : (ls : List LayerSeen) (w : Wanted) (kept : List (List Looked)) (mark : ℕ) (v : Writing) (b : Bool) (qs : List Looked) → qs ≡ kept_at kept (mark - 1) → b ≡ shakes_one ls w qs → b ≡ false → Tested ls w kept mark v
spared ls w kept mark v b qs is e f place i c =
    let same : mark - 1 ≡ place = omega (arith, i) in
    ap (λ k. shakes_one ls w (kept_at kept k)) (sym same) ∙ (ap (shakes_one ls w) (sym is) ∙ (sym e ∙ f))

pub fell_tested : (ls : List LayerSeen) (w : Wanted) (kept : List (List Looked)) (mark : ℕ) (v x : Writing) (l m : Leant) → Fell mark v x l m → Tested ls w kept mark x
fell_tested ls w kept mark v x l m f place i c = absurd (f.gone place i c)

pub fell_shaken : (ls : List LayerSeen) (w : Wanted) (mark : ℕ) (v x : Writing) (l m : Leant) (b : Bool) (qs : List Looked) → qs ≡ kept_at l.kept (mark - 1) → b ≡ shakes_one ls w qs → b ≡ true → Fell mark v x l m → Thins (IsShakenBy ls w l.kept) v x l m
fell_shaken ls w mark v x l m b qs is e f h = thins_weaker (λ place. place + 1 ≡ mark) (IsShakenBy ls w l.kept) v x l m why (fell_thins mark v x l m h)
  where
    why : (place : ℕ) → place + 1 ≡ mark → IsShakenBy ls w l.kept place
    why place i =
        let same : mark - 1 ≡ place = omega (arith, i) in
        ap (λ k. shakes_one ls w (kept_at l.kept k)) (sym same) ∙ (ap (shakes_one ls w) (sym is) ∙ (sym e ∙ f))

-- several rows are
pub record Tries (ls : List LayerSeen) (w : Wanted) (marks : List ℕ) (v x : Writing) (l m : Leant) : Type 0 where
  pub thins : Thins (IsShakenBy ls w l.kept) v x l m
  pub tested : Each (λ k. Tested ls w l.kept k x) marks

pub tries_none : (ls : List LayerSeen) (w : Wanted) (v : Writing) (l : Leant) → Tries ls w [] v v l l
tries_none ls w v l = record { thins = thins_none (IsShakenBy ls w l.kept) v l; tested = tt }

pub tries_then : (ls : List LayerSeen) (w : Wanted) (marks : List ℕ) (k : ℕ) (v x y : Writing) (l m n : Leant) → Tries ls w marks v x l m → Thins (IsShakenBy ls w m.kept) x y m n → Tested ls w m.kept k y → Tries ls w (k ∷ marks) v y l n
tries_then ls w marks k v x y l m n t thins tested = record {
  thins = thins_then (IsShakenBy ls w l.kept) v x y l m n t.thins (subst (λ ks. Thins (IsShakenBy ls w ks) x y m n) t.thins.kept thins);
  tested = (subst (λ ks. Tested ls w ks k y) t.thins.kept tested, map_each (λ j. Tested ls w l.kept j x) (λ j. Tested ls w l.kept j y) marks (λ j h place i c. h place i (was_current (IsShakenBy ls w m.kept) x y place (thins.falls.each place) c)) t.tested);
}

-- all rows at a spot
found_stands : (l : Leant) (spot : Spot) (place : ℕ) (qs : List Looked) → Each (λ q. stands l.spots (spot_of q) place ≡ true) qs → list_any (λ q. same_spot spot (spot_of q)) qs ≡ true → stands l.spots spot place ≡ true
found_stands l spot place [] h e = absurd (true≢false (sym e))
found_stands l spot place (q ∷ qs) h e = by (same_spot spot (spot_of q)) refl e (found_stands l spot place qs h.1)
  where
    by : (b : Bool) → same_spot spot (spot_of q) ≡ b → (b || list_any (λ q. same_spot spot (spot_of q)) qs) ≡ true → (list_any (λ q. same_spot spot (spot_of q)) qs ≡ true → stands l.spots spot place ≡ true) → stands l.spots spot place ≡ true
    by true i e ih = ap (λ s. stands l.spots s place) (spot_is spot (spot_of q) i) ∙ h.0
    by false i e ih = ih e

one_of : (F : Type 0) (a b c d : Bool) → (a || (b || (c || d))) ≡ true → (a ≡ true → F) → (b ≡ true → F) → (c ≡ true → F) → (d ≡ true → F) → F
one_of F true b c d e f g h i = f refl
one_of F false true c d e f g h i = g refl
one_of F false false true d e f g h i = h refl
one_of F false false false true e f g h i = i refl
one_of F false false false false e f g h i = absurd (true≢false (sym e))

pub past : (ls : List LayerSeen) (w : Wanted) (spot : Spot) (k : Leaners) (v x : Writing) (l m : Leant) → k ≡ leaners_in l.spots spot → Tries ls w (k.fourth ∷ k.third ∷ k.second ∷ k.first ∷ []) v x l m → (as_of : List LayerSeen) → Stand as_of v l → Past ls w l.kept spot x
past ls w spot k v x l m is t as_of s place c e =
    let at = s place (was_current (IsShakenBy ls w l.kept) v x place (t.thins.falls.each place) c) in
    let here : has k place ≡ true = ap (λ j. has j place) is ∙ found_stands l spot place (kept_at l.kept place) at.there e in
    one_of (shakes_one ls w (kept_at l.kept place) ≡ false) (place + 1 == k.first) (place + 1 == k.second) (place + 1 == k.third) (place + 1 == k.fourth) here
    (λ i. t.tested.1.1.1.0 place (number_is (place + 1) k.first i) c)
    (λ i. t.tested.1.1.0 place (number_is (place + 1) k.second i) c)
    (λ i. t.tested.1.0 place (number_is (place + 1) k.third i) c)
    (λ i. t.tested.0 place (number_is (place + 1) k.fourth i) c)

-- what a change shakes leans on one of its spots
or_first : (a b : Bool) → a ≡ true → (a || b) ≡ true
or_first true b e = refl
or_first false b e = absurd (true≢false (sym e))

or_second : (a b : Bool) → b ≡ true → (a || b) ≡ true
or_second true b e = refl
or_second false b e = e

either : (F : Type 0) (a b : Bool) → (a || b) ≡ true → (a ≡ true → F) → (b ≡ true → F) → F
either F true b e f g = f refl
either F false b e f g = g e

Leans : List LayerSeen → Wanted → Spot → Spot → Type 0
Leans ls w s t = (q : Looked) → shakes ls w q ≡ true → (same_spot s (spot_of q) || same_spot t (spot_of q)) ≡ true

any_of : (ls : List LayerSeen) (w : Wanted) (s t : Spot) (qs : List Looked) → Leans ls w s t → shakes_one ls w qs ≡ true → (list_any (λ q. same_spot s (spot_of q)) qs ≡ true) ⊎ (list_any (λ q. same_spot t (spot_of q)) qs ≡ true)
unfolding Leans
any_of ls w s t [] h e = absurd (true≢false (sym e))
any_of ls w s t (q ∷ qs) h e = either Here (shakes ls w q) (shakes_one ls w qs) e first (λ f. later (any_of ls w s t qs h f))
  where
    Here : Type 0
    Here = (list_any (λ q. same_spot s (spot_of q)) (q ∷ qs) ≡ true) ⊎ (list_any (λ q. same_spot t (spot_of q)) (q ∷ qs) ≡ true)

    first : shakes ls w q ≡ true → Here
    first f = either Here (same_spot s (spot_of q)) (same_spot t (spot_of q)) (h q f)
        (λ i. inl (or_first (same_spot s (spot_of q)) (list_any (λ q. same_spot s (spot_of q)) qs) i))
        (λ i. inr (or_first (same_spot t (spot_of q)) (list_any (λ q. same_spot t (spot_of q)) qs) i))

    later : (list_any (λ q. same_spot s (spot_of q)) qs ≡ true) ⊎ (list_any (λ q. same_spot t (spot_of q)) qs ≡ true) → Here
    later (inl i) = inl (or_second (same_spot s (spot_of q)) (list_any (λ q. same_spot s (spot_of q)) qs) i)
    later (inr i) = inr (or_second (same_spot t (spot_of q)) (list_any (λ q. same_spot t (spot_of q)) qs) i)

-- so no row is left that it shakes
none_left : (ls : List LayerSeen) (w : Wanted) (s t : Spot) (kept : List (List Looked)) (x : Writing) → Leans ls w s t → Past ls w kept s x → Past ls w kept t x → NoneLeftBy ls w kept x
none_left ls w s t kept x h p r place c = by (shakes_one ls w (kept_at kept place)) refl
  where
    found : (list_any (λ q. same_spot s (spot_of q)) (kept_at kept place) ≡ true) ⊎ (list_any (λ q. same_spot t (spot_of q)) (kept_at kept place) ≡ true) → shakes_one ls w (kept_at kept place) ≡ false
    found (inl i) = p place c i
    found (inr i) = r place c i

    by : (b : Bool) → shakes_one ls w (kept_at kept place) ≡ b → shakes_one ls w (kept_at kept place) ≡ false
    by true e = found (any_of ls w s t (kept_at kept place) h e)
    by false e = e

later_past : (P : ℕ → Type 0) (ls : List LayerSeen) (w : Wanted) (s : Spot) (kept : List (List Looked)) (x y : Writing) → Falls P x y → Past ls w kept s x → Past ls w kept s y
later_past P ls w s kept x y f p place c e = p place (was_current P x y place (f.each place) c) e

and_false : (a : Bool) → (a && false) ≡ false
and_false true = refl
and_false false = refl

spread : (l a b : Bool) → (l && (a || b)) ≡ true → ((l && a) || (l && b)) ≡ true
spread true a b e = e
spread false a b e = e

make_by : (place layer : ℕ) (k : Probe) (f : Option ℕ) (p : Pair) → ((place == layer) && (not (is_some f) && holds k p)) ≡ true → (same_spot (Missed place (front p)) (spot_by layer k f) || same_spot (Missed place (back p)) (spot_by layer k f)) ≡ true
make_by place layer k None p e = spread (place == layer) (same_probe (front p) k) (same_probe (back p) k) e
make_by place layer k (Some n) p e = absurd (true≢false (sym e ∙ and_false (place == layer)))

make_leans : (ls : List LayerSeen) (place : ℕ) (p : Pair) → Leans ls (Make place p) (Missed place (front p)) (Missed place (back p))
unfolding Leans
make_leans ls place p q e = make_by place q.layer (probe q.dir q.key) q.found p e

without_last : (a b c : Bool) → (a && (b && c)) ≡ true → (a && b) ≡ true
without_last true true c e = refl
without_last true false c e = e
without_last false b c e = e

found_by : (place number layer : ℕ) (k : Probe) (f : Option ℕ) → ((place == layer) && is_found number f) ≡ true → (same_spot (Found place number) (spot_by layer k f) || same_spot (Found place number) (spot_by layer k f)) ≡ true
found_by place number layer k None e = absurd (true≢false (sym e ∙ and_false (place == layer)))
found_by place number layer k (Some n) e = or_first ((place == layer) && (number == n)) ((place == layer) && (number == n)) e

leave_leans : (ls : List LayerSeen) (place number : ℕ) → Leans ls (Leave place number) (Found place number) (Found place number)
unfolding Leans
leave_leans ls place number q e = found_by place number q.layer (probe q.dir q.key) q.found e

touch_leans : (ls : List LayerSeen) (place number : ℕ) (state : Track) (last : ℕ) → Leans ls (Touch place number state last) (Found place number) (Found place number)
unfolding Leans
touch_leans ls place number state last q e = found_by place number q.layer (probe q.dir q.key) q.found (without_last (place == q.layer) (is_found number q.found) _ e)

-- what each kind of change leaves
pub made : (ls : List LayerSeen) (w : Wanted) (place : ℕ) (p : Pair) (v x y : Writing) (l m n : Leant) → w ≡ Make place p → Thins (IsShakenBy ls w l.kept) v x l m → Thins (IsShakenBy ls w m.kept) x y m n
    → ((as_of : List LayerSeen) → Stand as_of v l → Past ls w l.kept (Missed place (front p)) x) → ((as_of : List LayerSeen) → Stand as_of x m → Past ls w m.kept (Missed place (back p)) y) → (as_of : List LayerSeen) → Stand as_of v l → NoneLeftBy ls w l.kept y
made ls w place p v x y l m n is f g past_front past_back as_of s =
    none_left ls w (Missed place (front p)) (Missed place (back p)) l.kept y (subst (λ u. Leans ls u (Missed place (front p)) (Missed place (back p))) (sym is) (make_leans ls place p))
    (later_past (IsShakenBy ls w m.kept) ls w (Missed place (front p)) l.kept x y g.falls (past_front as_of s))
    (subst (λ ks. Past ls w ks (Missed place (back p)) y) f.kept (past_back as_of (f.stands as_of s)))

pub made_thins : (ls : List LayerSeen) (w : Wanted) (v x y : Writing) (l m n : Leant) → Thins (IsShakenBy ls w l.kept) v x l m → Thins (IsShakenBy ls w m.kept) x y m n → Thins (IsShakenBy ls w l.kept) v y l n
made_thins ls w v x y l m n f g = thins_then (IsShakenBy ls w l.kept) v x y l m n f (subst (λ ks. Thins (IsShakenBy ls w ks) x y m n) f.kept g)

pub touched : (ls : List LayerSeen) (w : Wanted) (place number : ℕ) (state : Track) (last : ℕ) (v x : Writing) (l : Leant) → w ≡ Touch place number state last → ((as_of : List LayerSeen) → Stand as_of v l → Past ls w l.kept (Found place number) x) → (as_of : List LayerSeen) → Stand as_of v l → NoneLeftBy ls w l.kept x
touched ls w place number state last v x l is p as_of s = none_left ls w (Found place number) (Found place number) l.kept x (subst (λ u. Leans ls u (Found place number) (Found place number)) (sym is) (touch_leans ls place number state last)) (p as_of s) (p as_of s)

pub left : (ls : List LayerSeen) (w : Wanted) (place number : ℕ) (v x : Writing) (l : Leant) → w ≡ Leave place number → ((as_of : List LayerSeen) → Stand as_of v l → Past ls w l.kept (Found place number) x) → (as_of : List LayerSeen) → Stand as_of v l → NoneLeftBy ls w l.kept x
left ls w place number v x l is p as_of s = none_left ls w (Found place number) (Found place number) l.kept x (subst (λ u. Leans ls u (Found place number) (Found place number)) (sym is) (leave_leans ls place number)) (p as_of s) (p as_of s)

-- one change after the other
pub none_thins : (ls : List LayerSeen) (ws : List Wanted) (v : Writing) (l : Leant) → Thins (IsShaken ls ws l.kept) v v l l
none_thins ls ws v l = thins_none (IsShaken ls ws l.kept) v l

pub none_none : (ls : List LayerSeen) (ws : List Wanted) (kept : List (List Looked)) (v : Writing) → ws ≡ [] → NoneLeft ls ws kept v
none_none ls ws kept v is place c = ap (λ us. shake ls us (kept_at kept place)) is

pub shaken_thins : (ls : List LayerSeen) (us : List Wanted) (w : Wanted) (ws : List Wanted) (v x y : Writing) (l m n : Leant) → us ≡ w ∷ ws → Thins (IsShakenBy ls w l.kept) v x l m → Thins (IsShaken ls ws m.kept) x y m n → Thins (IsShaken ls us l.kept) v y l n
shaken_thins ls us w ws v x y l m n is f g = subst (λ ts. Thins (IsShaken ls ts l.kept) v y l n) (sym is)
    (thins_then (IsShaken ls (w ∷ ws) l.kept) v x y l m n
    (thins_weaker (IsShakenBy ls w l.kept) (IsShaken ls (w ∷ ws) l.kept) v x l m (λ place h. or_first (shakes_one ls w (kept_at l.kept place)) (shake ls ws (kept_at l.kept place)) h) f)
    (thins_weaker (IsShaken ls ws m.kept) (IsShaken ls (w ∷ ws) l.kept) x y m n (λ place h. or_second (shakes_one ls w (kept_at l.kept place)) (shake ls ws (kept_at l.kept place)) (ap (λ ks. shake ls ws (kept_at ks place)) (sym f.kept) ∙ h)) g))

neither : (a b : Bool) → a ≡ false → b ≡ false → (a || b) ≡ false
neither a b e f = rw (e, f) refl

pub shaken_none : (ls : List LayerSeen) (us : List Wanted) (w : Wanted) (ws : List Wanted) (v x y : Writing) (l m n : Leant) → us ≡ w ∷ ws → Thins (IsShakenBy ls w l.kept) v x l m → Thins (IsShaken ls ws m.kept) x y m n
    → ((as_of : List LayerSeen) → Stand as_of v l → NoneLeftBy ls w l.kept x) → ((as_of : List LayerSeen) → Stand as_of x m → NoneLeft ls ws m.kept y) → (as_of : List LayerSeen) → Stand as_of v l → NoneLeft ls us l.kept y
shaken_none ls us w ws v x y l m n is f g first rest as_of s place c =
    ap (λ ts. shake ls ts (kept_at l.kept place)) is
    ∙ neither (shakes_one ls w (kept_at l.kept place)) (shake ls ws (kept_at l.kept place)) (first as_of s place (was_current (IsShaken ls ws m.kept) x y place (g.falls.each place) c)) (ap (λ ks. shake ls ws (kept_at ks place)) (sym f.kept) ∙ rest as_of (f.stands as_of s) place c)
