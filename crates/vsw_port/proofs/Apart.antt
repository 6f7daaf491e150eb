-- No layer is crossed twice, and what one tells is of no other.
use Rattle.std.proofs.Common.{◌≡◌, ◌<◌, ◌==◌, ℕ, suc, Bool, true, false, List, [], ◌∷◌, ◌++◌, reverse, Some, None, refl, sym, subst, ◌∙◌, arith, true≢false}
use Rattle.std.proofs.lemmas.List.{reverse-append}
use Rattle.vsw_port.proofs.Walks.{each_append, each_reverse, told_by}
use Rattle.vsw_base.specs.declared.packet.Dir.{Dir}
use Rattle.vsw_base.specs.declared.packet.Dir.TheVariants.{Out, In}
use Rattle.vsw_walk.specs.declared.scratch.Wanted.{Wanted}
use Rattle.vsw_walk.specs.declared.scratch.Wanted.TheVariants.{Make, Touch, Leave}
use Rattle.vsw_walk.specs.Walk.{crossed, placed}
use Rattle.vsw_policy.specs.Layer.{LayerSeen}
use Rattle.vsw_policy.specs.Sound.{AreApart, Each}
use Rattle.vsw_walk.specs.declared.outcome.Visit.{Visit}
use Rattle.vsw_walk.specs.declared.outcome.Visit.TheVariants.{Stops, Goes}
use Rattle.vsw_walk.specs.declared.outcome.Want.TheVariants as want

abbrev pub same_place : ℕ × LayerSeen → ℕ × LayerSeen → Bool
same_place a b = a.0 == b.0

pub flip : (a b : ℕ) → (a == b) ≡ false → (b == a) ≡ false
flip a b e = by (b == a) refl
  where
    by : (c : Bool) → (b == a) ≡ c → c ≡ false
    by true f = let same : a ≡ b = grind (arith, f) in absurd (true≢false (sym (grind (arith, same)) ∙ e))
    by false f = refl

later_places : (k n : ℕ) (ls : List LayerSeen) → k < n → Each (λ e. (k == e.0) ≡ false) (placed n ls)
later_places k n [] h = tt
later_places k n (l ∷ ls) h = (grind (arith, h), later_places k (suc n) ls (omega (arith, h)))

placed_apart : (n : ℕ) (ls : List LayerSeen) → AreApart same_place (placed n ls)
placed_apart n [] = tt
placed_apart n (l ∷ ls) = (later_places n (suc n) ls (omega arith), placed_apart (suc n) ls)

apart_push : (es : List (ℕ × LayerSeen)) (e : ℕ × LayerSeen) → AreApart same_place es → Each (λ y. (y.0 == e.0) ≡ false) es → AreApart same_place (es ++ e ∷ [])
apart_push [] e h i = (tt, tt)
apart_push (y ∷ es) e h i = (each_append (λ z. (y.0 == z.0) ≡ false) es (e ∷ []) h.0 (i.0, tt), apart_push es e h.1 i.1)

flipped : (e : ℕ × LayerSeen) (es : List (ℕ × LayerSeen)) → Each (λ y. (e.0 == y.0) ≡ false) es → Each (λ y. (y.0 == e.0) ≡ false) es
flipped e [] h = tt
flipped e (y ∷ es) h = (flip e.0 y.0 h.0, flipped e es h.1)

reverse_apart : (es : List (ℕ × LayerSeen)) → AreApart same_place es → AreApart same_place (reverse es)
reverse_apart [] h = tt
reverse_apart (e ∷ es) h =
    subst (AreApart same_place) (sym (reverse-append (e ∷ []) es))
    (apart_push (reverse es) e (reverse_apart es h.1) (each_reverse (λ y. (y.0 == e.0) ≡ false) es (flipped e es h.0)))

-- no place is crossed twice
pub crossed_apart : (d : Dir) (ls : List LayerSeen) → AreApart same_place (crossed d (placed 0 ls))
crossed_apart Out ls = placed_apart 0 ls
crossed_apart In ls = reverse_apart (placed 0 ls) (placed_apart 0 ls)

-- the change is in another layer than the one at this place
abbrev pub IsElsewhere : ℕ → Wanted → Type 0
IsElsewhere k (Make place p) = (place == k) ≡ false
IsElsewhere k (Touch place number state last) = (place == k) ≡ false
IsElsewhere k (Leave place number) = (place == k) ≡ false

pub elsewhere : (k place : ℕ) → (place == k) ≡ false → (v : Visit) → Each (IsElsewhere k) (told_by place v)
elsewhere k place h (Stops verdict) = tt
elsewhere k place h (Goes action None None) = tt
elsewhere k place h (Goes action None (Some (want.Make p))) = (h, tt)
elsewhere k place h (Goes action None (Some (want.Touch n s t))) = (h, tt)
elsewhere k place h (Goes action (Some j) None) = (h, tt)
elsewhere k place h (Goes action (Some j) (Some (want.Make p))) = (h, (h, tt))
elsewhere k place h (Goes action (Some j) (Some (want.Touch n s t))) = (h, (h, tt))
