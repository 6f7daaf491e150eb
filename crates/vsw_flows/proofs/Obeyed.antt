-- Rows that a command doesn't spare fall.
use Rattle.std.proofs.Common.{◌≡◌, ◌≢◌, ◌+◌, ◌<◌, ◌≤◌, ◌==◌, ℕ, zero, suc, Bool, true, false, not, ◌&&◌, ◌||◌, List, [], ◌∷◌, length, map, get_or, slice_set, get_or-set_same, get_or-set_other, length-set, refl, sym, ap, subst, ◌∙◌, arith, true≢false}
use native.Mathlib.Decide.{ℕ_discrete}
use mathlib.Core.Logic.{dite}
use Rattle.std.specs.Prelude.{Option, Some, None, slice_index_or}
use Rattle.std.specs.List.{list_all, slice_get}
use Rattle.vsw_policy.specs.declared.command.Command.{Command}
use Rattle.vsw_policy.specs.declared.command.Command.TheVariants.{PutMany, PutRules}
use Rattle.vsw_policy.specs.declared.command.Part.{Part}
use Rattle.vsw_policy.specs.Layer.{LayerSeen}
use Rattle.vsw_rule.specs.declared.rule.Rule.{Rule}
use Rattle.vsw_walk.specs.declared.scratch.Looked.{Looked}
use Rattle.vsw_spares.specs.Spared.{as_put, is_within, leaves, leaves_in, names, singles, spares, spares_one}
use Rattle.vsw_table.specs.Rules.{stamp_at}
use Rattle.vsw_flows.specs.Flows.{Any, Falls, IsCurrent, Writing}
use Rattle.vsw_flows.specs.Leant.{Leant, kept_at}
use Rattle.vsw_flows.specs.Gists.{is_named_at}
use Rattle.vsw_flows.specs.Obeying.{AllLeft, AllSparedBy, IsNaming, leaves_all, named_in}
use Rattle.vsw_flows.specs.Spots.{stands}
use Rattle.vsw_flows.specs.Standing.{Fell, Lessens, Stand}
use Rattle.vsw_flows.proofs.Settled.{kept_stands}
use Rattle.vsw_flows.proofs.Thinned.{falls_none, falls_then, falls_weaker, fell_thins, was_current}

-- no stamp is kept of a row that isn't there
pub beyond : (ns : List ℕ) (k : ℕ) → length ns ≤ k → get_or ns k 0 ≡ 0
beyond [] k le = refl
beyond (n ∷ ns) zero le = absurd (omega (arith, le))
beyond (n ∷ ns) (suc k) le = beyond ns k (omega (arith, le))

pub is_there : (v : Writing) (place : ℕ) → IsCurrent v place → (place < length v.view.stamps → ⊥) → ⊥
is_there v place c far = c (beyond v.view.stamps place (grind (arith, far)))

-- one look after the other
pub all_none : (f : Looked → Bool) (qs : List Looked) → qs ≡ [] → list_all f qs ≡ true
all_none f qs is = ap (list_all f) is

pub all_more : (f : Looked → Bool) (qs : List Looked) (q : Looked) (rest : List Looked) → qs ≡ q ∷ rest → f q ≡ true → list_all f rest ≡ true → list_all f qs ≡ true
all_more f qs q rest is e h = ap (list_all f) is ∙ (ap (λ b. b && list_all f rest) e ∙ h)

-- a layer that isn't named leaves what a look is told
pub unnamed : (a b : Bool) → a ≡ false → (not a || b) ≡ true
unnamed true b e = absurd (true≢false e)
unnamed false b e = refl

pub named_leaves : (a b : Bool) → b ≡ true → (not a || b) ≡ true
named_leaves true b e = e
named_leaves false b e = refl

-- one row is tried
pub row_unused : (ls : List LayerSeen) (c : ℕ) (m : Command) (kept : List (List Looked)) (v : Writing) (row : ℕ) → stamp_at v.view.stamps row ≡ 0 → IsCurrent v row → leaves_all ls c m (kept_at kept row) ≡ true
row_unused ls c m kept v row z current = absurd (current z)

pub row_left : (ls : List LayerSeen) (c : ℕ) (m : Command) (kept : List (List Looked)) (row : ℕ) (qs : List Looked) → qs ≡ kept_at kept row → leaves_all ls c m qs ≡ true → leaves_all ls c m (kept_at kept row) ≡ true
row_left ls c m kept row qs is h = ap (leaves_all ls c m) (sym is) ∙ h

pub row_fell : (ls : List LayerSeen) (c : ℕ) (m : Command) (kept : List (List Looked)) (v w : Writing) (l n : Leant) (row : ℕ) → Fell (row + 1) v w l n → IsCurrent w row → leaves_all ls c m (kept_at kept row) ≡ true
row_fell ls c m kept v w l n row f current = absurd (f.gone row refl current)

-- a row that isn't current is forgotten
pub lessens_none : (v : Writing) (l : Leant) → Lessens v v l l
lessens_none v l = record { falls = falls_none Any v; kept = λ place c. refl; stands = λ ls s. s }

pub lessens_then : (v w x : Writing) (l m n : Leant) → Lessens v w l m → Lessens w x m n → Lessens v x l n
lessens_then v w x l m n f g = record {
  falls = falls_then Any v w x f.falls g.falls;
  kept = λ place c. g.kept place c ∙ f.kept place (was_current Any w x place (g.falls.each place) c);
  stands = λ ls s. g.stands ls (f.stands ls s);
}

pub forgot : (row : ℕ) (v w : Writing) (l m n : Leant) → Fell (row + 1) v w l m → ((place : ℕ) → place ≢ row → kept_at n.kept place ≡ kept_at m.kept place) → n.spots ≡ m.spots → Lessens v w l n
forgot row v w l m n f others spots = record {
  falls = falls_weaker (λ place. place + 1 ≡ row + 1) Any v w (λ place h. tt) f.falls;
  kept = λ place c. dite (ℕ_discrete place row)
      (λ e. absurd (gone (subst (IsCurrent w) e c)))
      (λ ne. others place ne ∙ ap (λ ks. kept_at ks place) f.kept);
  stands = λ ls s. kept_stands row w m n gone others (λ t place ne h. ap (λ es. stands es t place) spots ∙ h) ls ((fell_thins (row + 1) v w l m f).stands ls s);
}
  where
    gone : IsCurrent w row → ⊥
    gone = f.gone row refl

-- of the first n rows those that are current are left
pub record Tried (ls : List LayerSeen) (c : ℕ) (m : Command) (n : ℕ) (v w : Writing) (l k : Leant) : Type 0 where
  pub lessens : Lessens v w l k
  pub left : Stand ls v l → (place : ℕ) → place < n → IsCurrent w place → leaves_all ls c m (kept_at l.kept place) ≡ true

pub tried_none : (ls : List LayerSeen) (c : ℕ) (m : Command) (v : Writing) (l : Leant) → Tried ls c m 0 v v l l
tried_none ls c m v l = record { lessens = lessens_none v l; left = λ stand place lt current. absurd (omega (arith, lt)) }

pub tried_more : (ls : List LayerSeen) (c : ℕ) (m : Command) (n : ℕ) (v w x : Writing) (l k j : Leant) → Tried ls c m n v w l k → Lessens w x k j → (Stand ls w k → IsCurrent x n → leaves_all ls c m (kept_at k.kept n) ≡ true) → Tried ls c m (n + 1) v x l j
tried_more ls c m n v w x l k j t lessens here = record {
  lessens = lessens_then v w x l k j t.lessens lessens;
  left = λ stand place lt current. by stand place lt current (place == n) refl;
}
  where
    before : (place : ℕ) → IsCurrent x place → IsCurrent w place
    before place current = was_current Any w x place (lessens.falls.each place) current

    less : (place : ℕ) → place < n + 1 → (place == n) ≡ false → place < n
    less place lt e = grind (arith, lt, e)

    same_place : (place : ℕ) → (place == n) ≡ true → place ≡ n
    same_place place e = grind (arith, e)

    by : Stand ls v l → (place : ℕ) → place < n + 1 → IsCurrent x place → (b : Bool) → (place == n) ≡ b → leaves_all ls c m (kept_at l.kept place) ≡ true
    by stand place lt current true e =
        let same = same_place place e in
        let there : IsCurrent x n = subst (IsCurrent x) same current in
        ap (λ p. leaves_all ls c m (kept_at l.kept p)) same ∙ (ap (leaves_all ls c m) (sym (t.lessens.kept n (before n there))) ∙ here (t.lessens.stands ls stand) there)
    by stand place lt current false e = t.left stand place (less place lt e) (before place current)

-- and so of all
pub tried_all : (ls : List LayerSeen) (c : ℕ) (m : Command) (n : ℕ) (v w : Writing) (l k : Leant) → length v.view.stamps ≤ n → Tried ls c m n v w l k → Stand ls v l → AllLeft ls c m l.kept w
tried_all ls c m n v w l k le t stand place current = by (nat_less place n) refl
  where
    nat_less : ℕ → ℕ → Bool
    nat_less zero zero = false
    nat_less zero (suc b) = true
    nat_less (suc a) zero = false
    nat_less (suc a) (suc b) = nat_less a b

    less : (a b : ℕ) → nat_less a b ≡ true → a < b
    less zero zero e = absurd (true≢false (sym e))
    less zero (suc b) e = omega arith
    less (suc a) zero e = absurd (true≢false (sym e))
    less (suc a) (suc b) e = let ih = less a b e in omega (arith, ih)

    more : (a b : ℕ) → nat_less a b ≡ false → b ≤ a
    more zero zero e = omega arith
    more zero (suc b) e = absurd (true≢false e)
    more (suc a) zero e = omega arith
    more (suc a) (suc b) e = let ih = more a b e in omega (arith, ih)

    by : (b : Bool) → nat_less place n ≡ b → leaves_all ls c m (kept_at l.kept place) ≡ true
    by true e = t.left stand place (less place n e) current
    by false e =
        let far : n ≤ place = more place n e in
        absurd (was_current Any v w place (t.lessens.falls.each place) current (beyond v.view.stamps place (omega (arith, far, le))))

-- a command of one layer
pub spared_alone : (ls : List LayerSeen) (c : ℕ) (m : Command) (qs : List Looked) → singles m ≡ m ∷ [] → is_within m ≡ true → leaves_all ls c m qs ≡ true → spares ls c m qs ≡ true
spared_alone ls c m qs alone within h = ap (list_all (λ n. spares_one ls c n qs)) alone ∙ ap (λ b. b && true) (ap (λ b. b && leaves_all ls c m qs) within ∙ h)

-- several
pub parts_none : (ls : List LayerSeen) (c : ℕ) (ps : List Part) (kept : List (List Looked)) (v : Writing) → ps ≡ [] → AllSparedBy ls c (map as_put ps) kept v
parts_none ls c ps kept v is place current = ap (λ us. list_all (λ m. spares_one ls c m (kept_at kept place)) (map as_put us)) is

pub parts_more : (ls : List LayerSeen) (c : ℕ) (ps : List Part) (p : Part) (rest : List Part) (v w x : Writing) (l k j : Leant) → ps ≡ p ∷ rest → Lessens v w l k → (Stand ls v l → AllLeft ls c (as_put p) l.kept w) → Lessens w x k j → (Stand ls w k → AllSparedBy ls c (map as_put rest) k.kept x) → Stand ls v l → AllSparedBy ls c (map as_put ps) l.kept x
parts_more ls c ps p rest v w x l k j is f here g later stand place current =
    let before : IsCurrent w place = was_current Any w x place (g.falls.each place) current in
    ap (λ us. list_all (λ m. spares_one ls c m (kept_at l.kept place)) (map as_put us)) is
    ∙ (ap (λ b. b && list_all (λ m. spares_one ls c m (kept_at l.kept place)) (map as_put rest)) (here stand place before)
    ∙ (ap (λ qs. list_all (λ m. spares_one ls c m qs) (map as_put rest)) (sym (f.kept place before)) ∙ later (f.stands ls stand) place current))

pub spared_put : (ls : List LayerSeen) (c : ℕ) (m : Command) (n g : ℕ) (rs : List Rule) (qs : List Looked) → m ≡ PutRules n g rs → leaves_all ls c (PutRules n g rs) qs ≡ true → spares ls c m qs ≡ true
spared_put ls c m n g rs qs is h = subst (λ k. spares ls c k qs ≡ true) (sym is) (spared_alone ls c (PutRules n g rs) qs refl refl h)

pub spared_many : (ls : List LayerSeen) (c : ℕ) (m : Command) (ps : List Part) (qs : List Looked) → m ≡ PutMany ps → list_all (λ k. spares_one ls c k qs) (map as_put ps) ≡ true → spares ls c m qs ≡ true
spared_many ls c m ps qs is h = subst (λ k. spares ls c k qs ≡ true) (sym is) h

-- where all fall
pub all_lessens : (v w : Writing) (l m : Leant) → Falls Any v w → ((place : ℕ) → IsCurrent w place → ⊥) → Lessens v w l m
all_lessens v w l m f none = record { falls = f; kept = λ place c. absurd (none place c); stands = λ ls s place current. absurd (none place current) }

-- a look in a layer that isn't named
pub isnt : (a b : Bool) → b ≡ not a → b ≡ true → a ≡ false
isnt true b e f = absurd (true≢false (sym f ∙ e))
isnt false b e f = refl

pub unnamed_leaves : (ls : List LayerSeen) (c : ℕ) (m : Command) (named : List Bool) (q : Looked) → IsNaming ls c m named → is_named_at named q.layer ≡ false → leaves_in c m (slice_get ls q.layer) q ≡ true
unnamed_leaves ls c m named q h e = by (slice_get ls q.layer) (h q.layer e)
  where
    by : (o : Option LayerSeen) → named_in c m o ≡ false → leaves_in c m o q ≡ true
    by None i = refl
    by (Some l) i = unnamed (names c m l) (leaves m l q) i

-- the names of the first n layers are told
pub record Names (ls : List LayerSeen) (c : ℕ) (m : Command) (n : ℕ) (named : List Bool) : Type 0 where
  pub long : length named ≡ 128
  pub below : (place : ℕ) → place < n → is_named_at named place ≡ false → named_in c m (slice_get ls place) ≡ false

pub named_none : (ls : List LayerSeen) (c : ℕ) (m : Command) (named : List Bool) → length named ≡ 128 → Names ls c m 0 named
named_none ls c m named long = record { long = long; below = λ place lt e. absurd (omega (arith, lt)) }

pub named_more : (ls : List LayerSeen) (c : ℕ) (m : Command) (n : ℕ) (named : List Bool) (b : Bool) → n < 128 → b ≡ named_in c m (slice_get ls n) → Names ls c m n named → Names ls c m (n + 1) (slice_set named n b)
named_more ls c m n named b lt is h = record {
  long = length-set named n b ∙ h.long;
  below = λ place less e. by place less e (place == n) refl;
}
  where
    there : n < length named
    there = let long = h.long in omega (arith, lt, long)

    differ : (place : ℕ) → place ≡ n → (place == n) ≡ false → ⊥
    differ place e i = absurd (grind (arith, e, i))

    by : (place : ℕ) → place < n + 1 → is_named_at (slice_set named n b) place ≡ false → (s : Bool) → (place == n) ≡ s → named_in c m (slice_get ls place) ≡ false
    by place less e true i =
        let same : place ≡ n = grind (arith, i) in
        ap (λ k. named_in c m (slice_get ls k)) same ∙ (sym is ∙ (sym (get_or-set_same named n b true there) ∙ (ap (λ k. is_named_at (slice_set named n b) k) (sym same) ∙ e)))
    by place less e false i =
        h.below place (grind (arith, less, i)) (sym (get_or-set_other named n place b true (λ same. absurd (differ place same i))) ∙ e)

pub named_all : (ls : List LayerSeen) (c : ℕ) (m : Command) (named : List Bool) → Names ls c m 128 named → IsNaming ls c m named
named_all ls c m named h place e = h.below place (here named place e (ap (λ n. n) h.long)) e
  where
    here : (xs : List Bool) (k : ℕ) → slice_index_or xs k true ≡ false → length xs ≡ 128 → k < 128
    here xs k f long = let below = within xs k f in omega (arith, below, long)
      where
        within : (ys : List Bool) (j : ℕ) → slice_index_or ys j true ≡ false → j < length ys
        within [] j g = absurd (true≢false g)
        within (y ∷ ys) zero g = omega arith
        within (y ∷ ys) (suc j) g = let ih = within ys j g in omega (arith, ih)
