-- The pairs that stay in a layer where one leaves.
use Rattle.std.proofs.Common.{◌≡◌, ◌-◌, ℕ, suc, ◌==◌, Bool, true, false, not, cond, ◌||◌, List, [], ◌∷◌, length, Option, Some, None, option_map, is_some, refl, sym, ap, subst, ◌∙◌, arith, true≢false}
use Rattle.std.specs.Prelude.{if◌then◌else◌}
use Rattle.std.specs.List.{slice_get}
use Rattle.std.proofs.lemmas.Map.Entries.{option_filter}
use Rattle.vsw_port.specs.declared.stop.Stop.{Stop}
use Rattle.vsw_port.specs.Admit.{refused, refused_at, staying}
use Rattle.vsw_port.specs.Holds.{CanHold}
use Rattle.vsw_port.specs.Private.Threaded.{HasLeft, LeftThere, left_at, other_than}
use Rattle.vsw_policy.specs.Layer.{LayerSeen}
use Rattle.vsw_layerflow.specs.declared.pair.Pair.{Pair}
use Rattle.vsw_layerflow.specs.declared.pair.Probe.{Probe}
use Rattle.vsw_layerflow.specs.Pairs.{AllApart, back, front, holder, holds, pair_of, probe, same_probe, number_of, numbered, turned, without}
use Rattle.vsw_layerflow.proofs.Kept.{held, holder-filter, number-found, without-none}
use Rattle.vsw_layerflow.proofs.Lists.{same_self, unmapped}

-- one less stays, where the pair that leaves was there
count_without : (n : ℕ) (ps : List Pair) → AllApart ps → is_some (numbered n ps) ≡ true → suc (length (without n ps)) ≡ length ps
count_without n [] a h = absurd (true≢false (sym h))
count_without n (p ∷ ps) a h = by (n == p.number) refl (count_without n ps a.3)
  where
    by : (b : Bool) → (n == p.number) ≡ b → (is_some (numbered n ps) ≡ true → suc (length (without n ps)) ≡ length ps) → suc (length (without n (p ∷ ps))) ≡ length (p ∷ ps)
    by true e ih =
        let u : n ≡ p.number = grind arith in
        let m : numbered n ps ≡ None = rw u a.2 in
        rw (e, without-none n ps m) refl
    by false e ih =
        let there : is_some (numbered n ps) ≡ true = sym (ap (λ b. is_some (if b then Some p else numbered n ps)) e) ∙ h in
        rw e (ap suc (ih there))

pub count_stays : (left : Option ℕ) (n : ℕ) (ps : List Pair) (k : ℕ) → left ≡ Some n → HasLeft left ps → AllApart ps → k ≡ length ps → k - 1 ≡ length (staying left ps)
count_stays None n ps k e h a l = absurd (true≢false (sym (ap is_some e)))
count_stays (Some m) n ps k e h a l = let c = count_without m ps a h in omega (arith, c, l)

pub none_stays : (left : Option ℕ) (ps : List Pair) (q : Probe) → AllApart ps → holder q ps ≡ None → holder q (staying left ps) ≡ None
none_stays None ps q a e = e
none_stays (Some n) ps q a e = holder-filter (λ p. not (n == p.number)) q ps a ∙ ap (option_filter (λ p. not (n == p.number))) e

pub some_stays : (left : Option ℕ) (ps : List Pair) (q : Probe) (h : Pair) → AllApart ps → holder q ps ≡ Some h → option_map number_of (holder q (staying left ps)) ≡ other_than left h.number
some_stays None ps q h a e = ap (option_map number_of) e
some_stays (Some n) ps q h a e =
    ap (option_map number_of) (holder-filter (λ p. not (n == p.number)) q ps a ∙ ap (option_filter (λ p. not (n == p.number))) e)
    ∙ elim (n == h.number) as (λ b. option_map number_of (cond (not b) (Some h) None) ≡ (if b then None else Some h.number)) [ true ↦ refl | false ↦ refl ]

or_right : (a b : Bool) → b ≡ true → (a || b) ≡ true
or_right true b e = refl
or_right false b e = e

-- the pair that leaves holds what replies of this one look for: nobody who stays does
pub left_frees : (left : Option ℕ) (n : ℕ) (ps : List Pair) (q p : Pair) → left ≡ Some n → AllApart ps → numbered n ps ≡ Some q → q.dir ≡ p.dir → q.reverse ≡ p.reverse → holder (back p) (staying left ps) ≡ None
left_frees left n ps q p e a m d r =
    let same : back q ≡ back p = λ j. probe (turned (d j)) (r j) in
    let own : holds (back q) q ≡ true = or_right (same_probe (front q) (back q)) (same_probe (back q) (back q)) (same_self (back q)) in
    let there : holder (back p) ps ≡ Some q = held (back p) n q ps a m (subst (λ k. holds k q ≡ true) same own) in
    unmapped _ (some_stays left ps (back p) q a there ∙ rw (e, number-found n q ps m) refl)

-- whom the probe of replies finds, told by a search among all pairs
pub none_takes : (left : Option ℕ) (ps : List Pair) (p : Pair) (q : Probe) (o : Option Pair) → AllApart ps → q ≡ back p → o ≡ pair_of q.dir q.key ps → o ≡ None → None ≡ option_map number_of (holder (back p) (staying left ps))
none_takes left ps p q o a e f g = sym (ap (option_map number_of) (none_stays left ps (back p) a (rw (← e) (sym f ∙ g))))

pub some_takes : (left : Option ℕ) (ps : List Pair) (p h : Pair) (q : Probe) (o : Option Pair) (r : Option ℕ) → AllApart ps → q ≡ back p → o ≡ pair_of q.dir q.key ps → o ≡ Some h → r ≡ other_than left h.number → r ≡ option_map number_of (holder (back p) (staying left ps))
some_takes left ps p h q o r a e f g i = i ∙ sym (some_stays left ps (back p) h a (rw (← e) (sym f ∙ g)))

-- the pair that leaves the layer at a place is there
pub left_here : (ls : List LayerSeen) (place : ℕ) (left : Option (ℕ × ℕ)) (m : Option ℕ) (l : LayerSeen) → LeftThere ls left → m ≡ left_at place left → Some l ≡ slice_get ls place → HasLeft m l.pairs
left_here ls place None m l t f e = rw f tt
left_here ls place (Some left) m l t f e = rw f (by (place == left.0) refl)
  where
    by : (b : Bool) → (place == left.0) ≡ b → HasLeft (left_at place (Some left)) l.pairs
    by true g = let u : place ≡ left.0 = grind arith in rw g (t l (rw (← u) (sym e)))
    by false g = rw g tt

pub refused_is : (o : Option LayerSeen) (left m : Option ℕ) (l : LayerSeen) (p : Pair) (r : Option Stop) → Some l ≡ o → m ≡ left → r ≡ refused l (staying m l.pairs) p → r ≡ refused_at o left p
refused_is o left m l p r e f g = rw (← e, ← f) g

pub holds_there : (o : Option LayerSeen) (l k : LayerSeen) → Some l ≡ o → CanHold l → o ≡ Some k → CanHold k
holds_there o l k e h g = rw (← some_is (e ∙ g)) h
  where
    some_is : {x y : LayerSeen} → Some x ≡ Some y → x ≡ y
    some_is {x} e = ap (λ o. elim o [ None ↦ x | Some z ↦ z ]) e
