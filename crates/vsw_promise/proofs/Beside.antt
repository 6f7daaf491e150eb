-- What stands beside a packet of ascending entries are the places of its entries.
use Rattle.std.proofs.Common.{◌≡◌, ◌≤◌, ◌<◌, ◌==◌, ℕ, suc, ◌+◌, ◌-◌, Bool, true, false, cond, List, [], ◌∷◌, map, filter, take, drop, nat_lt, refl, sym, ◌∙◌, ap, subst, arith}
use Rattle.std.proofs.lemmas.Bool.Decides.{nat_tests}
use Rattle.vsw_policy.specs.Sound.{Each}
use Rattle.vsw_promise.specs.Index.{count_below, beside}
use Rattle.vsw_promise.specs.declared.schedule.Entry.{Entry}
use Rattle.vsw_promise.proofs.Counts.{Ascends, count_none}

none_above : (n low : ℕ) (es : List Entry) → n < low → Each (λ m. low ≤ m) (map (λ (e : Entry). e.at) es) → filter (λ (e : Entry). e.at == n) es ≡ []
none_above n low [] l h = refl
none_above n low (e ∷ es) l h = let other : (e.at == n) ≡ false = grind (arith, nat_tests, h.0) in rw other (none_above n low es l h.1)

-- one entry more in front
one_more : (a b c : Bool) (at n place under upto : ℕ) (ps fs : List ℕ) → nat_lt at n ≡ a → nat_lt at (n + 1) ≡ b → (at == n) ≡ c
    → take (upto - under) (drop under ps) ≡ fs → (at ≡ n → under ≡ 0) → (n < at → fs ≡ [])
    → take (cond b (suc upto) 0 - cond a (suc under) 0) (drop (cond a (suc under) 0) (place ∷ ps)) ≡ cond c (place ∷ fs) fs
one_more true true true at n place under upto ps fs ea eb ec ih zero none = absurd (grind (arith, nat_tests))
one_more true true false at n place under upto ps fs ea eb ec ih zero none =
    let less : suc upto - suc under ≡ upto - under = omega arith in
    ap (λ (k : ℕ). take k (drop under ps)) less ∙ ih
one_more true false c at n place under upto ps fs ea eb ec ih zero none = absurd (grind (arith, nat_tests))
one_more false true true at n place under upto ps fs ea eb ec ih zero none =
    let same : at ≡ n = grind (arith, nat_tests) in
    let all : take upto ps ≡ fs = ap (λ (k : ℕ). take k ps) (let e : upto ≡ upto - 0 = omega arith in e) ∙ ap (λ (k : ℕ). take (upto - k) (drop k ps)) (sym (zero same)) ∙ ih in
    let whole : suc upto - 0 ≡ suc upto = omega arith in
    ap (λ (k : ℕ). take k (place ∷ ps)) whole ∙ ap (λ (t : List ℕ). place ∷ t) all
one_more false true false at n place under upto ps fs ea eb ec ih zero none = absurd (grind (arith, nat_tests))
one_more false false true at n place under upto ps fs ea eb ec ih zero none = absurd (grind (arith, nat_tests))
one_more false false false at n place under upto ps fs ea eb ec ih zero none = let above : n < at = grind (arith, nat_tests) in sym (none above)

map-cond : (c : Bool) (e : Entry) (es : List Entry) → map (λ (e : Entry). e.place) (cond c (e ∷ es) es) ≡ cond c (e.place ∷ map (λ (e : Entry). e.place) es) (map (λ (e : Entry). e.place) es)
map-cond true e es = refl
map-cond false e es = refl

pub beside_is : (n : ℕ) (es : List Entry) → Ascends (map (λ (e : Entry). e.at) es)
    → beside n (map (λ (e : Entry). e.at) es) (map (λ (e : Entry). e.place) es) ≡ map (λ (e : Entry). e.place) (filter (λ (e : Entry). e.at == n) es)
beside_is n [] h = refl
beside_is n (e ∷ es) h =
    let ns = map (λ (e : Entry). e.at) es in
    let low : e.at ≡ n → count_below n ns ≡ 0 = λ same. count_none n ns (subst (λ (k : ℕ). Each (λ m. k ≤ m) ns) same h.0) in
    let none : n < e.at → map (λ (e : Entry). e.place) (filter (λ (e : Entry). e.at == n) es) ≡ [] = λ above. ap (map (λ (e : Entry). e.place)) (none_above n e.at es above h.0) in
    one_more (nat_lt e.at n) (nat_lt e.at (n + 1)) (e.at == n) e.at n e.place (count_below n ns) (count_below (n + 1) ns) (map (λ (e : Entry). e.place) es) (map (λ (e : Entry). e.place) (filter (λ (e : Entry). e.at == n) es)) refl refl refl (beside_is n es h.1) low none
    ∙ sym (map-cond (e.at == n) e (filter (λ (e : Entry). e.at == n) es))

-- the part that the code cuts out
pub part_is : (n from to : ℕ) (firsts places part : List ℕ) → from ≡ count_below n firsts → to ≡ count_below (n + 1) firsts → part ≡ take (to - from) (drop from places) → part ≡ beside n firsts places
part_is n from to firsts places part f t e = cc
