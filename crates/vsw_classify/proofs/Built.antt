-- Groups and their indexes stay beside each other where one is changed, taken or added.
use Rattle.std.proofs.Common.{◌≡◌, zero, suc, ℕ, List, [], ◌∷◌, ◌++◌, map, refl, ap, ◌∙◌}
use Rattle.std.specs.List.{slice_set, remove}
use Rattle.vsw_classify.specs.Place.{AreBuiltOf, rules_of}
use Rattle.vsw_rule.specs.declared.rule.Rule.{Rule}
use Rattle.vsw_rule.specs.declared.rule.Group.{Group}
use Rattle.vsw_classify.specs.Groups.{with_rules}

remove-map : (gs : List Group) (i : ℕ) → map rules_of (remove gs i) ≡ remove (map rules_of gs) i
remove-map [] zero = refl
remove-map [] (suc i) = refl
remove-map (g ∷ gs) zero = refl
remove-map (g ∷ gs) (suc i) = ap (λ rest. g.rules ∷ rest) (remove-map gs i)

set-map : (gs : List Group) (i : ℕ) (rs : List Rule) (g : Group) → map rules_of (slice_set gs i (with_rules rs g)) ≡ slice_set (map rules_of gs) i rs
set-map [] i rs g = refl
set-map (h ∷ gs) zero rs g = refl
set-map (h ∷ gs) (suc i) rs g = ap (λ rest. h.rules ∷ rest) (set-map gs i rs g)

push-map : (gs : List Group) (g : Group) → map rules_of (gs ++ g ∷ []) ≡ map rules_of gs ++ g.rules ∷ []
push-map [] g = refl
push-map (h ∷ gs) g = ap (λ rest. h.rules ∷ rest) (push-map gs g)

pub removed_both : (gs : List Group) (xs : List (List Rule)) (i : ℕ) → AreBuiltOf gs xs → AreBuiltOf (remove gs i) (remove xs i)
removed_both gs xs i built = remove-map gs i ∙ ap (λ ys. remove ys i) built

pub set_both : (gs : List Group) (xs : List (List Rule)) (i : ℕ) (rs : List Rule) (g : Group) → AreBuiltOf gs xs → AreBuiltOf (slice_set gs i (with_rules rs g)) (slice_set xs i rs)
set_both gs xs i rs g built = set-map gs i rs g ∙ ap (λ ys. slice_set ys i rs) built

pub pushed_both : (gs : List Group) (xs : List (List Rule)) (g : Group) → AreBuiltOf gs xs → AreBuiltOf (gs ++ g ∷ []) (xs ++ g.rules ∷ [])
pushed_both gs xs g built = push-map gs g ∙ ap (λ ys. ys ++ g.rules ∷ []) built
