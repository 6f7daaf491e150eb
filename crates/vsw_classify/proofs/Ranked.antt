-- Each rule has a rank, and each rank a rule.
use Rattle.std.proofs.Common.{◌≡◌, ◌<◌, ◌+◌, ◌*◌, ◌%◌, ◌^◌, ℕ, suc, zero, List, [], ◌∷◌, length, get_or, Option, Some, None, refl, sym, ap, ◌∙◌, arith}
use Rattle.std.specs.List.{Contains, slice_get}
use Rattle.std.specs.List.Sorted.{IsPermutation, IsNonDecreasing}
use Rattle.std.proofs.lemmas.List.Sorted.{Contains-permutation, IsPermutation-sym, length_permutation}
use Rattle.std.proofs.lemmas.Option.{slice_get_read, slice_get_within}
use Rattle.vsw_base.specs.declared.header.Header.{Header}
use Rattle.vsw_rule.specs.declared.rule.Rule.{Rule}
use Rattle.vsw_rule.specs.Match.{matches}
use Rattle.vsw_classify.specs.Private.Rank.{IsRanked, key, keys_from, meets_at, place_at, place_in, rule_in, is_met}

pub contains_head : {X : Type 0} (x : X) (xs : List X) → Contains (x ∷ xs) x
contains_head x xs = (0, omega arith, refl)

pub contains_tail : {X : Type 0} (x y : X) (xs : List X) → Contains xs y → Contains (x ∷ xs) y
contains_tail x y xs c = (suc c.0, (let u : c.0 < length xs = c.1 in omega arith), c.2)

pub some_same : {X : Type 0} (x y : X) → Some x ≡ Some y → x ≡ y
some_same x y e = grind (arith, e)

pub none_some : {X A : Type 0} (x : X) → None ≡ Some x → A
none_some x e = absurd (grind (arith, e))

pub length_keys : (from : ℕ) (rules : List Rule) → length (keys_from from rules) ≡ length rules
length_keys from [] = refl
length_keys from (r ∷ rs) = let rest : length (keys_from (from + 1) rs) ≡ length rs = length_keys (from + 1) rs in omega (arith, rest)

-- keys in order are those of a group's rules
pub ranks : (rules : List Rule) (keys : List ℕ) → length rules < 2 ^ 32 → IsPermutation (keys_from 0 rules) keys → IsNonDecreasing keys → IsRanked rules keys
ranks rules keys few moved in_order =
    let long : length keys ≡ length rules = length_permutation (keys_from 0 rules) keys moved ∙ length_keys 0 rules in
    record { few = omega (arith, long, few); count = few; moved = moved; in_order = in_order }

-- the key of the rule at a place is there
key_there : (rules : List Rule) (from j n : ℕ) (r : Rule) → n ≡ from + j → slice_get rules j ≡ Some r → Contains (keys_from from rules) (key r n)
key_there [] from j n r is e = none_some r e
key_there (x ∷ xs) from zero n r is e =
    let at : n ≡ from = omega (arith, is) in
    (0, omega arith, ap (λ (y : Rule). key y from) (some_same x r e) ∙ ap (λ (m : ℕ). key r m) (sym at))
key_there (x ∷ xs) from (suc j) n r is e = contains_tail (key x from) (key r n) (keys_from (from + 1) xs) (key_there xs (from + 1) j n r (omega (arith, is)) e)

-- the rule that a key is of
pub record Stands (rules : List Rule) (from k : ℕ) : Type 0 where
  pub rule : Rule
  pub place : ℕ
  pub is_rule : slice_get rules place ≡ Some rule
  pub is_key : k ≡ key rule (from + place)

from_key : (rules : List Rule) (from k : ℕ) → Contains (keys_from from rules) k → Stands rules from k
from_key [] from k c = absurd (let u : c.0 < 0 = c.1 in omega (arith, u))
from_key (r ∷ rs) from k c = by c.0 c.1 c.2 (from_key rs (from + 1) k)
  where
    by : (i : ℕ) → i < length (keys_from from (r ∷ rs)) → get_or (keys_from from (r ∷ rs)) i k ≡ k → (Contains (keys_from (from + 1) rs) k → Stands rs (from + 1) k) → Stands (r ∷ rs) from k
    by zero u e later =
        let at : from ≡ from + 0 = omega arith in
        record { rule = r; place = 0; is_rule = refl; is_key = sym e ∙ ap (λ (m : ℕ). key r m) at }
    by (suc i) u e later =
        let s = later (i, omega (arith, u), e) in
        let at : from + 1 + s.place ≡ from + suc s.place = omega arith in
        record { rule = s.rule; place = suc s.place; is_rule = s.is_rule; is_key = s.is_key ∙ ap (λ (m : ℕ). key s.rule m) at }

-- what a key says of its rank
place_there : (keys : List ℕ) (k p j : ℕ) → slice_get keys k ≡ Some (p * 4294967296 + j) → j < 2 ^ 32 → place_at keys k ≡ Some j
place_there keys k p j e small =
    let m : (p * 4294967296 + j) % 4294967296 ≡ j = omega (arith, small) in
    ap place_in e ∙ ap Some m

meets_there : (rules : List Rule) (keys : List ℕ) (hs : List Header) (k p j : ℕ) (r : Rule) → slice_get keys k ≡ Some (p * 4294967296 + j) → j < 2 ^ 32 → slice_get rules j ≡ Some r → meets_at rules keys hs k ≡ matches r hs
meets_there rules keys hs k p j r e small there = ap (λ (o : Option ℕ). is_met hs (rule_in rules o)) (place_there keys k p j e small) ∙ ap (is_met hs) there

-- a rule's rank
pub record IsRankOf (rules : List Rule) (keys : List ℕ) (hs : List Header) (r : Rule) (j : ℕ) : Type 0 where
  pub rank : ℕ
  pub there : slice_get keys rank ≡ Some (key r j)
  pub place : place_at keys rank ≡ Some j
  pub small : j < 2 ^ 32
  pub meets : meets_at rules keys hs rank ≡ matches r hs

pub rank_of : (rules : List Rule) (keys : List ℕ) (hs : List Header) (r : Rule) (j : ℕ) → IsRanked rules keys → slice_get rules j ≡ Some r → IsRankOf rules keys hs r j
rank_of rules keys hs r j ranked e =
    let c : Contains keys (key r j) = Contains-permutation (keys_from 0 rules) keys (key r j) ranked.moved (key_there rules 0 j j r (omega arith) e) in
    let there : slice_get keys c.0 ≡ Some (key r j) = slice_get_read keys (length keys) c.0 (key r j) refl c.1 (sym c.2) in
    let within : j < length rules = slice_get_within rules j r e in
    let few : length rules < 2 ^ 32 = ranked.count in
    let small : j < 2 ^ 32 = omega (arith, within, few) in
    record { rank = c.0; there = there; place = place_there keys c.0 r.priority j there small; small = small; meets = meets_there rules keys hs c.0 r.priority j r there small e }

-- the rule at a rank
pub record IsRuleAt (rules : List Rule) (keys : List ℕ) (hs : List Header) (k x : ℕ) : Type 0 where
  pub rule : Rule
  pub place : ℕ
  pub is_rule : slice_get rules place ≡ Some rule
  pub is_key : x ≡ key rule place
  pub is_place : place_at keys k ≡ Some place
  pub small : place < 2 ^ 32
  pub meets : meets_at rules keys hs k ≡ matches rule hs

pub rule_of : (rules : List Rule) (keys : List ℕ) (hs : List Header) (k x : ℕ) → IsRanked rules keys → k < length keys → slice_get keys k ≡ Some x → get_or keys k x ≡ x → IsRuleAt rules keys hs k x
rule_of rules keys hs k x ranked in' e here =
    let s = from_key rules 0 x (Contains-permutation keys (keys_from 0 rules) x (IsPermutation-sym (keys_from 0 rules) keys ranked.moved) (k, in', here)) in
    let at : 0 + s.place ≡ s.place = omega arith in
    let is : x ≡ key s.rule s.place = s.is_key ∙ ap (λ (m : ℕ). key s.rule m) at in
    let within : s.place < length rules = slice_get_within rules s.place s.rule s.is_rule in
    let few : length rules < 2 ^ 32 = ranked.count in
    let small : s.place < 2 ^ 32 = omega (arith, within, few) in
    let there : slice_get keys k ≡ Some (key s.rule s.place) = e ∙ ap Some is in
    record { rule = s.rule; place = s.place; is_rule = s.is_rule; is_key = is; is_place = place_there keys k s.rule.priority s.place there small; small = small; meets = meets_there rules keys hs k s.rule.priority s.place s.rule there small s.is_rule }
