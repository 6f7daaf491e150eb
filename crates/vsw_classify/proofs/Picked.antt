-- The first rank that matches is the group's pick.
use Rattle.std.proofs.Common.{◌≡◌, ◌≤◌, ◌<◌, ◌+◌, ◌*◌, ◌^◌, ◌++◌, ℕ, Bool, true, false, suc, zero, List, [], ◌∷◌, length, get_or, Option, Some, None, refl, sym, ap, subst, ◌∙◌, ◌⊎◌, inl, inr, arith}
use Rattle.std.specs.Prelude.{nat_le}
use Rattle.std.specs.List.{Contains, slice_get}
use Rattle.std.proofs.lemmas.Bool.Decides.{nat_tests}
use Rattle.std.proofs.lemmas.Option.{slice_get_cases, slice_get_within, get_or_from_slice_get}
use Rattle.vsw_base.specs.declared.header.Header.{Header}
use Rattle.vsw_rule.specs.Choice.{NoneMatches, Picks, better, pick}
use Rattle.vsw_rule.proofs.Picks.{pick_is}
use Rattle.vsw_rule.specs.declared.rule.Rule.{Rule}
use Rattle.vsw_rule.specs.Match.{matches}
use Rattle.vsw_classify.specs.declared.field_index.FieldIndex.{FieldIndex}
use Rattle.vsw_classify.specs.Place.{GoesBefore, PicksAt, at_place}
use Rattle.vsw_classify.specs.Private.Rank.{key, meets_at, place_at, place_in}
use Rattle.vsw_classify.specs.Private.Search.{IsIndex, Narrows, OfferedIn}
use Rattle.vsw_classify.proofs.Ranked.{none_some, rank_of, rule_of, some_same}

-- no rank that matches is below the one found
least_rank : (rules : List Rule) (keys listed : List ℕ) (fields : List FieldIndex) (hs : List Header) (limit a b : ℕ) → IsIndex rules keys listed fields → Narrows (meets_at rules keys hs) (Contains listed) limit a → Narrows (meets_at rules keys hs) (OfferedIn fields hs) a b → (k : ℕ) → meets_at rules keys hs k ≡ true → b ≤ k
least_rank rules keys listed fields hs limit a b x n o k m = elim (x.complete hs k m) [
  | inl c ↦ let under : a ≤ k = n.first k c m in let within : b ≤ a = o.within in omega (arith, under, within)
  | inr c ↦ o.first k c m
]

-- what is found below the limit matches
found_meets : (meets : ℕ → Bool) (S T : ℕ → Type 0) (limit a b : ℕ) → Narrows meets S limit a → Narrows meets T a b → b < limit → meets b ≡ true
found_meets meets S T limit a b n o below = elim o.is [
  | inl same ↦ elim n.is [
    | inl all ↦ absurd (omega (arith, same, all, below))
    | inr m ↦ subst (λ (k : ℕ). meets k ≡ true) (sym same) m
  ]
  | inr m ↦ m
]

unmet : (b : Bool) → (b ≡ true → false ≡ true) → b ≡ false
unmet true h = sym (h refl)
unmet false h = refl

-- no rule of a list matches where none does at any place
none_matches : (hs : List Header) (rules : List Rule) → ((j : ℕ) (r : Rule) → slice_get rules j ≡ Some r → matches r hs ≡ false) → NoneMatches rules hs
none_matches hs [] none = tt
none_matches hs (r ∷ rs) none = (none 0 r refl, none_matches hs rs (λ j s e. none (suc j) s e))

-- keys in order are rules in order
before : (p q i j x y : ℕ) → x ≡ p * 4294967296 + i → y ≡ q * 4294967296 + j → i < 2 ^ 32 → j < 2 ^ 32 → x ≤ y → (p ≤ q) × (p ≡ q → i ≤ j)
before p q i j x y a b small less le = (omega (arith, a, b, small, less, le), λ same. omega (arith, a, b, small, less, le, same))

pub picks : (rules : List Rule) (keys listed : List ℕ) (fields : List FieldIndex) (hs : List Header) (limit a b : ℕ) → IsIndex rules keys listed fields → limit ≡ length keys → Narrows (meets_at rules keys hs) (Contains listed) limit a → Narrows (meets_at rules keys hs) (OfferedIn fields hs) a b → PicksAt rules hs (place_at keys b)
picks rules keys listed fields hs limit a b x whole n o = by (slice_get_cases keys b).1
  where
    by : ((k : ℕ) × (b < length keys) × (slice_get keys b ≡ Some k) × (get_or keys b k ≡ k)) ⊎ ((length keys ≤ b) × (slice_get keys b ≡ None)) → PicksAt rules hs (place_at keys b)
    by (inl there) =
        let r = rule_of rules keys hs b there.0 x.ranked there.1 there.2 there.3 in
        let below : b < limit = omega (arith, there.1, whole) in
        subst (PicksAt rules hs) (sym r.is_place) (record {
          rule = r.rule;
          stands = r.is_rule;
          meets = sym r.meets ∙ found_meets (meets_at rules keys hs) (Contains listed) (OfferedIn fields hs) limit a b n o below;
          first = λ j s e m.
              let t = rank_of rules keys hs s j x.ranked e in
              let later : b ≤ t.rank = least_rank rules keys listed fields hs limit a b x n o t.rank (t.meets ∙ m) in
              let in' : t.rank < length keys = slice_get_within keys t.rank (key s j) t.there in
              let rises : get_or keys b there.0 ≤ get_or keys t.rank there.0 = x.ranked.in_order b t.rank there.0 later in' in
              before r.rule.priority s.priority r.place j (get_or keys b there.0) (get_or keys t.rank there.0) (there.3 ∙ r.is_key) (get_or_from_slice_get keys t.rank (key s j) there.0 t.there) r.small t.small rises;
        })
    by (inr past) = subst (PicksAt rules hs) (sym (ap place_in past.1)) (none_matches hs rules (λ j s e. unmet (matches s hs) (λ m.
        let t = rank_of rules keys hs s j x.ranked e in
        let later : b ≤ t.rank = least_rank rules keys listed fields hs limit a b x n o t.rank (t.meets ∙ m) in
        let in' : t.rank < length keys = slice_get_within keys t.rank (key s j) t.there in
        absurd (omega (arith, later, in', past.0)))))

pick_none : (rules : List Rule) (hs : List Header) → NoneMatches rules hs → pick rules hs ≡ None
pick_none [] hs none = refl
pick_none (r ∷ rs) hs none = rw none.0 (pick_none rs hs none.1)

at_seam : (front rest : List Rule) (s : Rule) → slice_get (front ++ s ∷ rest) (length front) ≡ Some s
at_seam [] rest s = refl
at_seam (x ∷ front) rest s = at_seam front rest s

not_le : (a b : ℕ) → b < a → nat_le a b ≡ false
not_le a b less = grind (arith, nat_tests, less)

is_le : (a b : ℕ) → a ≤ b → nat_le a b ≡ true
is_le a b le = grind (arith, nat_tests, le)

-- the first rule goes before the pick of the others
head_first : (r : Rule) (rs : List Rule) (hs : List Header) → ((j : ℕ) (s : Rule) → slice_get rs j ≡ Some s → matches s hs ≡ true → r.priority ≤ s.priority) → (o : Option Rule) → Picks rs hs o → better r o ≡ Some r
head_first r rs hs first None p = refl
head_first r rs hs first (Some s) p =
    let at : slice_get rs (length p.front) ≡ Some s = ap (λ (xs : List Rule). slice_get xs (length p.front)) p.stands ∙ at_seam p.front p.rest s in
    rw (is_le r.priority s.priority (first (length p.front) s at p.meets)) refl

pick_first : (rules : List Rule) (hs : List Header) (place : ℕ) (rule : Rule) → slice_get rules place ≡ Some rule → matches rule hs ≡ true → ((j : ℕ) (s : Rule) → slice_get rules j ≡ Some s → matches s hs ≡ true → GoesBefore rule place s j) → pick rules hs ≡ Some rule
pick_first [] hs place rule e m first = none_some rule e
pick_first (r ∷ rs) hs zero rule e m first =
    let same : r ≡ rule = some_same r rule e in
    let meets : matches r hs ≡ true = ap (λ (x : Rule). matches x hs) same ∙ m in
    let before' : (j : ℕ) (s : Rule) → slice_get rs j ≡ Some s → matches s hs ≡ true → r.priority ≤ s.priority = λ j s e' m'. subst (λ (x : Rule). x.priority ≤ s.priority) (sym same) (first (suc j) s e' m').0 in
    (rw meets (head_first r rs hs before' (pick rs hs) (pick_is rs hs))) ∙ ap Some same
pick_first (r ∷ rs) hs (suc place) rule e m first =
    let rest : pick rs hs ≡ Some rule = pick_first rs hs place rule e m (λ j s e' m'. let f = first (suc j) s e' m' in (f.0, λ q. let le : suc place ≤ suc j = f.1 q in omega (arith, le))) in
    by (matches r hs) refl rest
  where
    by : (b : Bool) → matches r hs ≡ b → pick rs hs ≡ Some rule → pick (r ∷ rs) hs ≡ Some rule
    by false u rest = rw u rest
    by true u rest =
        let f = first 0 r refl u in
        let f0 : rule.priority ≤ r.priority = f.0 in
        let less : rule.priority < r.priority = by_less f0 f.1 in
        rw (u, rest, not_le r.priority rule.priority less) refl
      where
        by_less : rule.priority ≤ r.priority → (rule.priority ≡ r.priority → suc place ≤ 0) → rule.priority < r.priority
        by_less le never = grind (arith, le, never)

-- the rule where the pick is, is the pick
pub pick_at : (rules : List Rule) (hs : List Header) (o : Option ℕ) → PicksAt rules hs o → at_place rules o ≡ pick rules hs
pick_at rules hs None none = sym (pick_none rules hs none)
pick_at rules hs (Some place) p = p.stands ∙ sym (pick_first rules hs place p.rule p.stands p.meets p.first)
