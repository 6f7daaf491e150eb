-- The choice in a layer, group by group from the last.
use Rattle.std.proofs.Common.{◌≡◌, ◌<◌, ◌++◌, ◌||◌, ℕ, Bool, true, false, suc, zero, List, [], ◌∷◌, length, map, get_or, is_none, is_some, option_copied, Bor, Option, Some, None, refl, sym, ap, subst, ◌∙◌, arith}
use Rattle.std.specs.Prelude.{if◌then◌else◌}
use Rattle.vsw_base.specs.declared.header.Header.{Header}
use Rattle.vsw_base.specs.declared.packet.Dir.{Dir}
use Rattle.vsw_rule.specs.Choice.{Chosen, Picks, applies, pick}
use Rattle.vsw_rule.specs.Private.FromEnd.{after, decided}
use Rattle.vsw_rule.proofs.Picks.{pick_is}
use Rattle.vsw_rule.specs.declared.rule.Rule.{Rule}
use Rattle.vsw_rule.specs.declared.rule.Group.{Group}
use Rattle.vsw_classify.specs.Place.{AreBuiltOf, rules_of}
use Rattle.vsw_classify.specs.Private.Layer.{marks_last, over, with_group}

-- as many indexes as groups, each of the group at its place
pub as_many : (groups : List Group) (indexes : List (List Rule)) → AreBuiltOf groups indexes → length indexes ≡ length groups
as_many groups indexes built = sym (ap (λ (xs : List (List Rule)). length xs) built) ∙ by groups
  where
    by : (gs : List Group) → length (map rules_of gs) ≡ length gs
    by [] = refl
    by (g ∷ gs) = let rest : length (map rules_of gs) ≡ length gs = by gs in omega (arith, rest)

map_at : (groups : List Group) (at : ℕ) (d : Group) (e : List Rule) → at < length groups → get_or (map rules_of groups) at e ≡ (get_or groups at d).rules
map_at [] at d e u = absurd (let v : at < 0 = u in omega (arith, v))
map_at (g ∷ gs) zero d e u = refl
map_at (g ∷ gs) (suc at) d e u = map_at gs at d e (omega (arith, u))

pub built_at : (groups : List Group) (indexes : List (List Rule)) (at : ℕ) (d : Group) (e : List Rule) → AreBuiltOf groups indexes → at < length groups → get_or indexes at e ≡ (get_or groups at d).rules
built_at groups indexes at d e built u = sym (ap (λ (xs : List (List Rule)). get_or xs at e) built) ∙ map_at groups at d e u

-- of rules none of which is marked last, none of a part is
unmarked : (front rest : List Rule) (r : Rule) → marks_last (front ++ r ∷ rest) ≡ false → r.last ≡ false
unmarked [] rest r h = by r.last h
  where
    by : (b : Bool) → (b || marks_last rest) ≡ false → b ≡ false
    by true e = e
    by false e = refl
unmarked (x ∷ front) rest r h = unmarked front rest r (by x.last h)
  where
    by : (b : Bool) → (b || marks_last (front ++ r ∷ rest)) ≡ false → marks_last (front ++ r ∷ rest) ≡ false
    by true e = absurd (grind (arith, e))
    by false e = e

pick_unmarked : (rules : List Rule) (hs : List Header) (r : Rule) → marks_last rules ≡ false → Picks rules hs (Some r) → r.last ≡ false
pick_unmarked rules hs r h p = unmarked p.front p.rest r (sym (ap marks_last p.stands) ∙ h)

-- where later groups choose, a rule that isn't marked last changes nothing
gives_way : (n : ℕ) (o : Option Rule) (later : Option Chosen) → is_none later ≡ false → ((r : Rule) → o ≡ Some r → r.last ≡ false) → later ≡ after n o later
gives_way n o None e marks = absurd (grind (arith, e))
gives_way n None (Some c) e marks = refl
gives_way n (Some r) (Some c) e marks = rw (marks r refl) refl

branch : (b : Bool) (x y : Option Chosen) → x ≡ y → x ≡ (if b then y else x)
branch true x y e = e
branch false x y e = refl

pub left_out : (d : Dir) (hs : List Header) (g : Group) (later : Option Chosen) → is_none later ≡ false → marks_last g.rules ≡ false → later ≡ with_group d hs g later
left_out d hs g later e h = branch (applies d hs g) later (after g.number (pick g.rules hs) later) (gives_way g.number (pick g.rules hs) later e (λ r is. pick_unmarked g.rules hs r h (subst (Picks g.rules hs) is (pick_is g.rules hs))))

pub inapplicable : (d : Dir) (hs : List Header) (g : Group) (later : Option Chosen) → applies d hs g ≡ false → later ≡ with_group d hs g later
inapplicable d hs g later e = rw e refl

-- a pick that wins, and one that doesn't
pub won : (d : Dir) (hs : List Header) (g : Group) (r : Rule) (later : Option Chosen) (none : Bool) → is_none later ≡ none → applies d hs g ≡ true → pick g.rules hs ≡ Some r → (r.last || none) ≡ true → over g.number (Some r) later ≡ with_group d hs g later
won d hs g r later none e a p w = rw (a, p) (by r.last later none e refl w)
  where
    by : (b : Bool) (o : Option Chosen) (n : Bool) → is_none o ≡ n → r.last ≡ b → (b || n) ≡ true → over g.number (Some r) o ≡ decided g.number r o
    by b None n e m w = refl
    by true (Some c) n e m w = rw m refl
    by false (Some c) n e m w = absurd (let never : false ≡ true = e ∙ w in grind (arith, never))

pub lost : (d : Dir) (hs : List Header) (g : Group) (r : Rule) (later : Option Chosen) (none : Bool) → is_none later ≡ none → pick g.rules hs ≡ Some r → (r.last || none) ≡ false → later ≡ with_group d hs g later
lost d hs g r later none e p w = branch (applies d hs g) later (after g.number (pick g.rules hs) later) (rw p (by r.last later none e refl w))
  where
    by : (b : Bool) (o : Option Chosen) (n : Bool) → is_none o ≡ n → r.last ≡ b → (b || n) ≡ false → o ≡ decided g.number r o
    by true o n e m w = absurd (grind (arith, w))
    by false None n e m w = absurd (let never : true ≡ false = e ∙ w in grind (arith, never))
    by false (Some c) n e m w = rw m refl

pub unpicked : (d : Dir) (hs : List Header) (g : Group) (later : Option Chosen) → pick g.rules hs ≡ None → later ≡ with_group d hs g later
unpicked d hs g later p = branch (applies d hs g) later (after g.number (pick g.rules hs) later) (rw p refl)

pub some_not_none : {X : Type 0} (o : Option (Bor X)) → is_some o ≡ true → is_none (option_copied o) ≡ false
some_not_none None e = absurd (grind (arith, e))
some_not_none (Some b) e = refl
