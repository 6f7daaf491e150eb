-- The numbers of next pairs: a crossing raises each by one at most, and a command raises none.
use Rattle.std.proofs.Common.{◌≡◌, ◌≤◌, ◌+◌, ◌==◌, ◌⊎◌, inl, inr, ℕ, zero, suc, Bool, true, false, List, [], ◌∷◌, Option, Some, None, refl, sym, ap, subst, ◌∙◌, arith, true≢false}
use Rattle.vsw_base.specs.declared.fate.Verdict.{Verdict}
use Rattle.vsw_base.specs.declared.fate.Verdict.TheVariants.{Pass, Rule, Default}
use Rattle.vsw_base.specs.declared.flow.Crossing.{Crossing}
use Rattle.vsw_port.specs.declared.stop.Stop.{Stop}
use Rattle.vsw_port.specs.Admit.{stop_of}
use Rattle.vsw_port.specs.Can.{AreApart, NotMade}
use Rattle.vsw_port.specs.Cross.{all_done, cross_of, made_after, made_by}
use Rattle.vsw_port.proofs.Makes.{walk_apart}
use Rattle.vsw_walk.specs.declared.scratch.Wanted.{Wanted}
use Rattle.vsw_walk.specs.declared.scratch.Wanted.TheVariants.{Make, Touch, Leave}
use Rattle.vsw_walk.specs.Walk.{walk_of}
use Rattle.vsw_policy.specs.Layer.{LayerSeen, with_pair, with_touched, without_pair}
use Rattle.vsw_policy.specs.Layers.{changed_at, is_before, is_layer}
use Rattle.vsw_policy.specs.Sound.{Each}
use Rattle.std.specs.Prelude.{if◌then◌else◌}
use Rattle.vsw_port.specs.History.{left_by}
use Rattle.vsw_policy.specs.Groups.{changed, removed}
use Rattle.vsw_policy.specs.declared.command.Command.{Command}
use Rattle.vsw_policy.specs.declared.command.Part.{Part}
use Rattle.vsw_policy.specs.declared.command.Command.TheVariants.{AddLayer, RemoveLayer, AddGroup, RemoveGroup, PutRules, PutMany, AddRule, RemoveRule, SetDefault, Sweep}
use Rattle.vsw_policy.specs.declared.refusal.Refusal.{Refusal}
use Rattle.vsw_policy.specs.Obey.{after, answered, empty_layer, first_refusal, obey, placed, put_part, put_parts, tests, within}
use Rattle.vsw_port.specs.Core.{AreAtMost}

-- the next number of the layer at this place is as before, or one more and none is made there any more
abbrev Bound : ℕ → List Wanted → ℕ → LayerSeen → Type 0
Bound n ws k l = (l.next_pair ≤ n) ⊎ ((l.next_pair ≤ n + 1) × Each (NotMade k) ws)

abbrev Bounds : ℕ → List Wanted → ℕ → List LayerSeen → Type 0
Bounds n ws k [] = Unit {0}
Bounds n ws k (l ∷ ls) = Bound n ws k l × Bounds n ws (suc k) ls

at_first : (n k : ℕ) (ws : List Wanted) (ls : List LayerSeen) → AreAtMost n ls → Bounds n ws k ls
at_first n k ws [] h = tt
at_first n k ws (l ∷ ls) h = (inl h.0, at_first n (suc k) ws ls h.1)

at_last : (n k : ℕ) (ls : List LayerSeen) → Bounds n [] k ls → AreAtMost (n + 1) ls
at_last n k [] h = tt
at_last n k (l ∷ ls) h = (by h.0, at_last n (suc k) ls h.1)
  where
    by : Bound n [] k l → l.next_pair ≤ n + 1
    by (inl e) = omega (arith, e)
    by (inr e) = e.0

-- the first change is one that makes no pair here
passed : (n k : ℕ) (w : Wanted) (ws : List Wanted) (l : LayerSeen) → Bound n (w ∷ ws) k l → Bound n ws k l
passed n k w ws l (inl e) = inl e
passed n k w ws l (inr e) = inr (e.0, e.1.1)

all_passed : (n k : ℕ) (w : Wanted) (ws : List Wanted) (ls : List LayerSeen) → Bounds n (w ∷ ws) k ls → Bounds n ws k ls
all_passed n k w ws [] h = tt
all_passed n k w ws (l ∷ ls) h = (passed n k w ws l h.0, all_passed n (suc k) w ws ls h.1)

-- a layer keeps its next number
keeps : (n k j : ℕ) (f : LayerSeen → LayerSeen) → ((l : LayerSeen) → (f l).next_pair ≡ l.next_pair) → (ws : List Wanted) (ls : List LayerSeen) → Bounds n ws k ls → Bounds n ws k (changed_at j f ls)
keeps n k j f e ws [] h = tt
keeps n k zero f e ws (l ∷ ls) h = (by h.0, h.1)
  where
    by : Bound n ws k l → Bound n ws k (f l)
    by (inl i) = inl (omega (arith, i, e l))
    by (inr i) = inr (omega (arith, i.0, e l), i.1)
keeps n k (suc j) f e ws (l ∷ ls) h = (h.0, keeps n (suc k) j f e ws ls h.1)

same : (k : ℕ) → (k == k) ≡ true
same k = grind arith

-- a pair is made in the layer j places on
grows : (n k j place : ℕ) (ps : Wanted) (f : LayerSeen → LayerSeen) → place ≡ k + j → ((l : LayerSeen) → (f l).next_pair ≡ l.next_pair + 1) → (ws : List Wanted) → Each (NotMade place) ws
    → ((i : ℕ) → NotMade i ps → (i == place) ≡ false) → (ls : List LayerSeen) → Bounds n (ps ∷ ws) k ls → Bounds n ws k (changed_at j f ls)
grows n k j place ps f at e ws free other [] h = tt
grows n k zero place ps f at e ws free other (l ∷ ls) h = (by h.0, all_passed n (suc k) ps ws ls h.1)
  where
    here : place ≡ k
    here = omega (arith, at)

    by : Bound n (ps ∷ ws) k l → Bound n ws k (f l)
    by (inl i) = inr (omega (arith, i, e l), subst (λ m. Each (NotMade m) ws) here free)
    by (inr i) = absurd (true≢false (sym (same k) ∙ ap (λ m. k == m) (sym here) ∙ other k i.1.0))
grows n k (suc j) place ps f at e ws free other (l ∷ ls) h =
    (passed n k ps ws l h.0, grows n (suc k) j place ps f (omega (arith, at)) e ws free other ls h.1)

all_grow : (n : ℕ) (ws : List Wanted) (ls : List LayerSeen) → AreApart ws → Bounds n ws 0 ls → Bounds n [] 0 (all_done ws ls)
all_grow n [] ls a h = h
all_grow n (Make place p ∷ ws) ls a h =
    all_grow n ws (changed_at place (with_pair p) ls) a.1 (grows n 0 place place (Make place p) (with_pair p) (omega arith) (λ l. refl) ws a.0 (λ i m. m) ls h)
all_grow n (Touch place number state last ∷ ws) ls a h =
    all_grow n ws (changed_at place (with_touched number state last) ls) a (keeps n 0 place (with_touched number state last) (λ l. refl) ws ls (all_passed n 0 (Touch place number state last) ws ls h))
all_grow n (Leave place number ∷ ws) ls a h =
    all_grow n ws (changed_at place (without_pair number) ls) a (keeps n 0 place (without_pair number) (λ l. refl) ws ls (all_passed n 0 (Leave place number) ws ls h))

made_apart : (v : Verdict) (o : Option Stop) (ws : List Wanted) → AreApart ws → AreApart (made_after v o ws)
made_apart Pass None ws a = a
made_apart Pass (Some s) ws a = tt
made_apart (Rule controller layer group rule) o ws a = tt
made_apart (Default controller layer dir) o ws a = tt

pub crossed_grows : (n : ℕ) (ls : List LayerSeen) (x : Crossing) → AreAtMost n ls → AreAtMost (n + 1) (cross_of ls x).layers
crossed_grows n ls x h =
    at_last n 0 (all_done (made_by ls x) ls) (all_grow n (made_by ls x) ls (made_apart (walk_of ls x).verdict (stop_of ls x (walk_of ls x)) (walk_of ls x).changes (walk_apart ls x)) (at_first n 0 (made_by ls x) ls h))

-- the bound may be greater
pub more_at_most : (m n : ℕ) (ls : List LayerSeen) → m ≤ n → AreAtMost m ls → AreAtMost n ls
more_at_most m n [] e h = tt
more_at_most m n (l ∷ ls) e h = (omega (arith, h.0, e), more_at_most m n ls e h.1)

-- and it gives what a commit asks
placed_at_most : (n : ℕ) (cs : List ℕ) (l : LayerSeen) (ls : List LayerSeen) → l.next_pair ≤ n → AreAtMost n ls → AreAtMost n (placed cs l ls)
placed_at_most n cs l [] e h = (e, tt)
placed_at_most n cs l (m ∷ ms) e h = by (is_before cs l m) (placed_at_most n cs l ms e h.1)
  where
    by : (b : Bool) → AreAtMost n (placed cs l ms) → AreAtMost n (if b then l ∷ m ∷ ms else m ∷ placed cs l ms)
    by true more = (e, h)
    by false more = (h.0, more)

changed_at_most : (n : ℕ) (p : LayerSeen → Bool) (f : LayerSeen → LayerSeen) → ((l : LayerSeen) → (f l).next_pair ≡ l.next_pair) → (ls : List LayerSeen) → AreAtMost n ls → AreAtMost n (changed p f ls)
changed_at_most n p f e [] h = tt
changed_at_most n p f e (l ∷ ls) h = by (p l) (changed_at_most n p f e ls h.1)
  where
    by : (b : Bool) → AreAtMost n (changed p f ls) → AreAtMost n (if b then f l ∷ ls else l ∷ changed p f ls)
    by true more = (omega (arith, e l, h.0), h.1)
    by false more = (h.0, more)

removed_at_most : (n : ℕ) (p : LayerSeen → Bool) (ls : List LayerSeen) → AreAtMost n ls → AreAtMost n (removed p ls)
removed_at_most n p [] h = tt
removed_at_most n p (l ∷ ls) h = by (p l) (removed_at_most n p ls h.1)
  where
    by : (b : Bool) → AreAtMost n (removed p ls) → AreAtMost n (if b then ls else l ∷ removed p ls)
    by true more = h.1
    by false more = (h.0, more)

parts_at_most : (n c : ℕ) (ps : List Part) (ls : List LayerSeen) → AreAtMost n ls → AreAtMost n (put_parts c ps ls)
parts_at_most n c [] ls h = h
parts_at_most n c (p ∷ ps) ls h = parts_at_most n c ps (put_part c p ls) (changed_at_most n (is_layer c p.layer) (within (PutRules p.layer p.group p.rules)) (λ l. refl) ls h)

commanded : (n : ℕ) (cs : List ℕ) (ls : List LayerSeen) (c : ℕ) (m : Command) → AreAtMost n ls → AreAtMost n (after cs ls c m)
commanded n cs ls c (AddLayer s) h = placed_at_most n cs (empty_layer c s) ls (omega arith) h
commanded n cs ls c (RemoveLayer k) h = removed_at_most n (is_layer c k) ls h
commanded n cs ls c (AddGroup k g dir when) h = changed_at_most n (is_layer c k) (within (AddGroup k g dir when)) (λ l. refl) ls h
commanded n cs ls c (RemoveGroup k g) h = changed_at_most n (is_layer c k) (within (RemoveGroup k g)) (λ l. refl) ls h
commanded n cs ls c (PutRules k g rs) h = changed_at_most n (is_layer c k) (within (PutRules k g rs)) (λ l. refl) ls h
commanded n cs ls c (PutMany ps) h = parts_at_most n c ps ls h
commanded n cs ls c (AddRule k g r) h = changed_at_most n (is_layer c k) (within (AddRule k g r)) (λ l. refl) ls h
commanded n cs ls c (RemoveRule k g r) h = changed_at_most n (is_layer c k) (within (RemoveRule k g r)) (λ l. refl) ls h
commanded n cs ls c (SetDefault k dir allow) h = changed_at_most n (is_layer c k) (within (SetDefault k dir allow)) (λ l. refl) ls h
commanded n cs ls c (Sweep k now) h = changed_at_most n (is_layer c k) (within (Sweep k now)) (λ l. refl) ls h

-- a command makes no pair, whatever its answer
pub obeyed_at_most : (n : ℕ) (cs : List ℕ) (ls : List LayerSeen) (c : ℕ) (m : Command) → AreAtMost n ls → AreAtMost n (left_by ls (obey cs ls c m))
obeyed_at_most n cs ls c m h = by (first_refusal (tests ls c m))
  where
    by : (o : Option Refusal) → AreAtMost n (left_by ls (answered o (after cs ls c m)))
    by None = commanded n cs ls c m h
    by (Some why) = h
