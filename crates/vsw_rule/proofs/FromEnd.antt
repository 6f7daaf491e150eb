-- The choice that is made from the last group to the first is the choice.
use Rattle.std.proofs.Common.{◌≡◌, ℕ, Bool, true, false, List, [], ◌∷◌, drop, Option, Some, None, refl, sym, ap, ◌∙◌}
use Rattle.std.specs.Prelude.{if◌then◌else◌}
use Rattle.std.specs.List.{find, last_or}
use Rattle.std.specs.Option.{option_or}
use Rattle.vsw_base.specs.declared.header.Header.{Header}
use Rattle.vsw_base.specs.declared.packet.Dir.{Dir}
use Rattle.vsw_rule.specs.Choice.{Chosen, applies, choose, is_last, of_group, pick, picks_of}
use Rattle.vsw_rule.specs.Private.FromEnd.{after, decided, from_end}
use Rattle.vsw_rule.specs.declared.rule.Rule.{Rule}
use Rattle.vsw_rule.specs.declared.rule.Group.{Group}

abbrev of_picks : List Chosen → Option Chosen
of_picks cs = option_or (find is_last cs) (last_or None cs)

last_there : (c : Chosen) (cs : List Chosen) (o : Option Chosen) → option_or (last_or (Some c) cs) o ≡ last_or (Some c) cs
last_there c [] o = refl
last_there c (d ∷ cs) o = last_there d cs o

-- the last one, or else what stood before
last_else : (o : Option Chosen) (cs : List Chosen) → last_or o cs ≡ option_or (last_or None cs) o
last_else o [] = refl
last_else o (c ∷ cs) = sym (last_there c cs o)

-- one more pick in front, which is marked last or not
abbrev decided_by : Bool → Chosen → Option Chosen → Option Chosen
decided_by b c None = Some c
decided_by b c (Some k) = Some (if b then c else k)

one_first : (b : Bool) (c : Chosen) (f l last : Option Chosen) → last ≡ option_or l (Some c) → option_or (if b then Some c else f) last ≡ decided_by b c (option_or f l)
one_first true c None None last e = refl
one_first true c None (Some k) last e = refl
one_first true c (Some k) l last e = refl
one_first false c None None last e = e
one_first false c None (Some k) last e = e
one_first false c (Some k) l last e = refl

decided_is : (g : ℕ) (r : Rule) (o : Option Chosen) → decided_by r.last (of_group g r) o ≡ decided g r o
decided_is g r None = refl
decided_is g r (Some c) = refl

one_more : (g : ℕ) (r : Rule) (cs : List Chosen) → of_picks (of_group g r ∷ cs) ≡ decided g r (of_picks cs)
one_more g r cs =
    one_first r.last (of_group g r) (find is_last cs) (last_or None cs) (last_or (Some (of_group g r)) cs) (last_else (Some (of_group g r)) cs)
    ∙ decided_is g r (of_picks cs)

-- the choice by the picks is the choice from the end
pub choose_is : (d : Dir) (gs : List Group) (hs : List Header) → choose d gs hs ≡ from_end d gs hs
choose_is d [] hs = refl
choose_is d (g ∷ gs) hs = by (applies d hs g) refl (pick g.rules hs) refl (choose_is d gs hs)
  where
    by : (b : Bool) → applies d hs g ≡ b → (o : Option Rule) → pick g.rules hs ≡ o → choose d gs hs ≡ from_end d gs hs → choose d (g ∷ gs) hs ≡ from_end d (g ∷ gs) hs
    by false e o i ih = rw e ih
    by true e None i ih = rw (e, i) ih
    by true e (Some r) i ih = rw (e, i) (one_more g.number r (picks_of d gs hs) ∙ ap (after g.number (Some r)) ih)

-- where none of the groups is asked, none is chosen
pub none_asked : (n : ℕ) (d : Dir) (gs : List Group) (hs : List Header) → n ≡ 0 → from_end d (drop n gs) hs ≡ None → from_end d gs hs ≡ None
none_asked n d gs hs e f = sym (ap (λ (m : ℕ). from_end d (drop m gs) hs) e) ∙ f
