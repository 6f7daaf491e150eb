-- Where two lists of rules differ.
use Rattle.std.proofs.Common.{◌≡◌, Bool, true, false, not, ◌||◌, List, [], ◌∷◌, ◌++◌, refl, sym, ap, subst, ◌∙◌, append-nil, append_assoc, true≢false}
use Rattle.vsw_policy.specs.Staying.{same_rule}
use Rattle.vsw_rule.proofs.Same.{rule_tells}
use Rattle.vsw_rule.specs.declared.rule.Group.{Group}
use Rattle.vsw_rule.specs.declared.rule.Rule.{Rule}
use Rattle.vsw_walk.specs.declared.scratch.Looked.{Looked}
use Rattle.vsw_spares.proofs.Handy.{between_tells}
use Rattle.vsw_spares.specs.Between.{AreBetween}
use Rattle.vsw_spares.specs.Handy.{none_may}
use Rattle.vsw_spares.specs.Keyed.{may_apply, mights, same_rules}
use Rattle.vsw_spares.specs.Spared.{picks_same}

pub all_between : (old new : List Rule) → AreBetween old new old new
all_between old new = record { front = []; rest = []; old_is = sym (append-nil old); new_is = sym (append-nil new) }

pub more_front : (old new f b x y : List Rule) (r s : Rule) → old ≡ r ∷ f → new ≡ s ∷ b → same_rule r s ≡ true → AreBetween f b x y → AreBetween old new x y
more_front old new f b x y r s e i same a = record {
  front = r ∷ a.front;
  rest = a.rest;
  old_is = e ∙ ap (λ ts. r ∷ ts) a.old_is;
  new_is = i ∙ (ap (λ t. t ∷ b) (sym (rule_tells r s same)) ∙ ap (λ ts. r ∷ ts) a.new_is);
}

behind : (front x rest : List Rule) (r : Rule) → (front ++ (x ++ rest)) ++ r ∷ [] ≡ front ++ (x ++ (rest ++ r ∷ []))
behind front x rest r = append_assoc front (x ++ rest) (r ∷ []) ∙ ap (λ ts. front ++ ts) (append_assoc x rest (r ∷ []))

pub more_rest : (old new f b x y : List Rule) (r s : Rule) → old ≡ f ++ r ∷ [] → new ≡ b ++ s ∷ [] → same_rule r s ≡ true → AreBetween f b x y → AreBetween old new x y
more_rest old new f b x y r s e i same a = record {
  front = a.front;
  rest = a.rest ++ r ∷ [];
  old_is = e ∙ (ap (λ ts. ts ++ r ∷ []) a.old_is ∙ behind a.front x a.rest r);
  new_is = i ∙ (ap (λ t. b ++ t ∷ []) (sym (rule_tells r s same)) ∙ (ap (λ ts. ts ++ r ∷ []) a.new_is ∙ behind a.front y a.rest r));
}

or_right : (a b : Bool) → b ≡ true → (a || b) ≡ true
or_right true b h = refl
or_right false b h = h

or_left : (a b : Bool) → a ≡ true → (a || b) ≡ true
or_left true b h = refl
or_left false b h = absurd (true≢false (sym h))

pub can_differ : (q : Looked) (g : Group) (rs x y : List Rule) → AreBetween g.rules rs x y → none_may q.key x ≡ true → none_may q.key y ≡ true → picks_same q g rs ≡ true
can_differ q g rs x y a h i =
    or_right (not (may_apply q.dir q.key g)) (same_rules (mights q.key g.rules) (mights q.key rs))
    (subst (λ ts. same_rules (mights q.key ts) (mights q.key rs) ≡ true) (sym a.old_is)
    (subst (λ ts. same_rules (mights q.key (a.front ++ (x ++ a.rest))) (mights q.key ts) ≡ true) (sym a.new_is) (between_tells q.key a.front x y a.rest h i)))

pub not_applied : (q : Looked) (g : Group) (rs : List Rule) → may_apply q.dir q.key g ≡ false → picks_same q g rs ≡ true
not_applied q g rs h = or_left (not (may_apply q.dir q.key g)) (same_rules (mights q.key g.rules) (mights q.key rs)) (ap not h)
