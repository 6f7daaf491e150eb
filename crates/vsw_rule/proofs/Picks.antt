-- A pick is the first by priority and then by place among the rules that match.
use Rattle.std.proofs.Common.{◌≡◌, ◌≤◌, ◌<◌, Bool, true, false, List, [], ◌∷◌, ◌++◌, Option, Some, None, refl, sym, ap, subst, arith}
use Rattle.std.specs.Prelude.{nat_le, if◌then◌else◌}
use Rattle.std.proofs.lemmas.Bool.Decides.{nat_tests}
use Rattle.vsw_base.specs.declared.header.Header.{Header}
use Rattle.vsw_rule.specs.declared.rule.Rule.{Rule}
use Rattle.vsw_rule.specs.Match.{matches}
use Rattle.vsw_rule.specs.Choice.{better, pick, Each, IsAfter, IsNotBefore, IsPick, NoneMatches, Picks}

-- rules after another one are not before a rule of unmatched greater priority
weaker : (r s : Rule) (hs : List Header) → r.priority ≤ s.priority → (ts : List Rule) → Each (IsAfter s hs) ts → Each (IsNotBefore r hs) ts
weaker r s hs le [] all = tt
weaker r s hs le (t ∷ ts) all = ((λ meets. let less : s.priority < t.priority = all.0 meets in omega (arith, le, less)), weaker r s hs le ts all.1)

lower : (r s : Rule) (hs : List Header) → r.priority ≤ s.priority → (ts : List Rule) → Each (IsNotBefore s hs) ts → Each (IsNotBefore r hs) ts
lower r s hs le [] all = tt
lower r s hs le (t ∷ ts) all = ((λ meets. let less : s.priority ≤ t.priority = all.0 meets in omega (arith, le, less)), lower r s hs le ts all.1)

joined : (r : Rule) (hs : List Header) (ts us : List Rule) → Each (IsNotBefore r hs) ts → Each (IsNotBefore r hs) us → Each (IsNotBefore r hs) (ts ++ us)
joined r hs [] us all more = more
joined r hs (t ∷ ts) us all more = (all.0, joined r hs ts us all.1 more)

-- a rule that doesn't match is before none
unmet : (r t : Rule) (hs : List Header) → matches t hs ≡ false → IsNotBefore r hs t
unmet r t hs unmatched meets = let never : true ≡ false = rw meets at unmatched in cc

unmet-after : (r t : Rule) (hs : List Header) → matches t hs ≡ false → IsAfter r hs t
unmet-after r t hs unmatched meets = let never : true ≡ false = rw meets at unmatched in cc

none : (r : Rule) (hs : List Header) (ts : List Rule) → NoneMatches ts hs → Each (IsNotBefore r hs) ts
none r hs [] all = tt
none r hs (t ∷ ts) all = (unmet r t hs all.0, none r hs ts all.1)

-- the first rule goes before the pick of the rest, or after it
first : (r s : Rule) (rs : List Rule) (hs : List Header) (le : Bool) → nat_le r.priority s.priority ≡ le → matches r hs ≡ true → IsPick rs hs s → Picks (r ∷ rs) hs (if le then Some r else Some s)
first r s rs hs true le meets p =
    let least : r.priority ≤ s.priority = grind (arith, nat_tests, le) in
    let P : List Rule → Type 0 = Each (IsNotBefore r hs) in
    record {
      front = [];
      rest = rs;
      stands = refl;
      meets = meets;
      beats_front = tt;
      beats_rest = subst P (sym p.stands) (joined r hs p.front (s ∷ p.rest) (weaker r s hs least p.front p.beats_front) ((λ m. least), lower r s hs least p.rest p.beats_rest));
    }
first r s rs hs false le meets p =
    let less : s.priority < r.priority = grind (arith, nat_tests, le) in
    record {
      front = r ∷ p.front;
      rest = p.rest;
      stands = ap (λ (xs : List Rule). r ∷ xs) p.stands;
      meets = p.meets;
      beats_front = ((λ m. less), p.beats_front);
      beats_rest = p.beats_rest;
    }

later : (r : Rule) (rs : List Rule) (hs : List Header) (o : Option Rule) → matches r hs ≡ false → Picks rs hs o → Picks (r ∷ rs) hs o
later r rs hs None unmatched all = (unmatched, all)
later r rs hs (Some s) unmatched p = record {
  front = r ∷ p.front;
  rest = p.rest;
  stands = ap (λ (xs : List Rule). r ∷ xs) p.stands;
  meets = p.meets;
  beats_front = (unmet-after s r hs unmatched, p.beats_front);
  beats_rest = p.beats_rest;
}

sooner : (r : Rule) (rs : List Rule) (hs : List Header) (o : Option Rule) → matches r hs ≡ true → Picks rs hs o → Picks (r ∷ rs) hs (better r o)
sooner r rs hs None matched all = record { front = []; rest = rs; stands = refl; meets = matched; beats_front = tt; beats_rest = none r hs rs all }
sooner r rs hs (Some s) matched p = first r s rs hs (nat_le r.priority s.priority) refl matched p

step : (r : Rule) (rs : List Rule) (hs : List Header) (m : Bool) → matches r hs ≡ m → (o : Option Rule) → Picks rs hs o → Picks (r ∷ rs) hs (if m then better r o else o)
step r rs hs true matched o p = sooner r rs hs o matched p
step r rs hs false unmatched o p = later r rs hs o unmatched p

pub pick_is : (rules : List Rule) (hs : List Header) → Picks rules hs (pick rules hs)
pick_is [] hs = tt
pick_is (r ∷ rs) hs = step r rs hs (matches r hs) refl (pick rs hs) (pick_is rs hs)
