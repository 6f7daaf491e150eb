-- Blocks one by one, and what passing one leaves.
use Rattle.std.proofs.Common.{◌≡◌, ◌≤◌, ◌<◌, ◌+◌, ◌-◌, ℕ, Bool, true, false, ◌&&◌, leb, List, [], ◌∷◌, ◌++◌, Option, Some, None, length, get_or, take, drop, refl, sym, ap, subst, ◌∙◌, inl, inr, arith}
use Rattle.std.specs.Prelude.{if◌then◌else◌}
use Rattle.std.specs.List.{AllWithin}
use Rattle.std.proofs.lemmas.Bool.{cases_lt, leb-true, and_parts, false_from_ne_true}
use Rattle.std.proofs.lemmas.List.{get_or_append_left, get_or_push, get_or-take, get_or-drop, get_or_default, length_push, length-take-le, length-drop}
use Rattle.vsw_index.specs.declared.placed_range.PlacedRange.{PlacedRange}
use Rattle.vsw_index.specs.declared.block.Block.{Block}
use Rattle.vsw_index.specs.RangeLeast.{counts}
use Rattle.vsw_index.specs.Least.{lesser_of}
use Rattle.vsw_index.specs.Block.{IsWithin, IsBlock, AreBlocks, place_of, reaches}
use Rattle.vsw_index.proofs.Least.{BestWithin, joined, front_first}

-- the bounds of a part of the list
pub part_bounds : (b : Block) (ranges : List PlacedRange) (low high : ℕ) → low ≤ high → high ≤ length ranges → AllWithin (IsWithin b) (take (high - low) (drop low ranges)) 0 (length (take (high - low) (drop low ranges))) → AllWithin (IsWithin b) ranges low high
part_bounds b ranges low high le up all k d from under =
    let size : length (take (high - low) (drop low ranges)) ≡ high - low = length-take-le (high - low) (drop low ranges) (omega (arith, length-drop low ranges)) in
    let u : k - low < high - low = omega arith in
    let e : low + (k - low) ≡ k = omega arith in
    let at = get_or-take (high - low) (drop low ranges) (k - low) d u ∙ get_or-drop low ranges (k - low) d in
    let P : PlacedRange → Type 0 = IsWithin b in
    let Q : ℕ → Type 0 = λ n. IsWithin b (get_or ranges n d) in
    subst Q e (subst P at (all (k - low) d (omega arith) (omega arith)))

pub AreBlocks-push : (ranges : List PlacedRange) (blocks : List Block) (b : Block) → AreBlocks ranges blocks → IsBlock ranges (length blocks) b → AreBlocks ranges (blocks ++ b ∷ [])
AreBlocks-push ranges blocks b are is k d within =
    elim (cases_lt k (length blocks)) [
      | inl u ↦
          let P : Block → Type 0 = IsBlock ranges k in
          subst P (sym (get_or_append_left blocks (b ∷ []) d k u)) (are k d u)
      | inr v ↦
          let last : length blocks ≡ k = omega (arith, length_push blocks b) in
          let P : Block → Type 0 = IsBlock ranges k in
          let Q : ℕ → Type 0 = λ n. IsBlock ranges n b in
          subst P (sym (get_or_push blocks b d k last)) (subst Q last is)
    ]

-- where no later item is less than what was found
kept : (value from : ℕ) (ranges : List PlacedRange) (low mid high : ℕ) (o : Option ℕ) → low ≤ mid → mid ≤ high → BestWithin (counts value from) (λ (r : PlacedRange). r.place) ranges low mid o → AllWithin (λ (r : PlacedRange). counts value from r ≡ true → reaches o r.place ≡ true) ranges mid high → BestWithin (counts value from) (λ (r : PlacedRange). r.place) ranges low high o
kept value from ranges low mid high None le up best rest = λ k d first under.
    elim (cases_lt k mid) [
      | inl u ↦ best k d first u
      | inr v ↦ false_from_ne_true (counts value from (get_or ranges k d)) (λ is. let never : false ≡ true = rest k d v under is in cc)
    ]
kept value from ranges low mid high (Some n) le up best rest =
    front_first (counts value from) (λ (r : PlacedRange). r.place) ranges low mid high n le up best (λ k d first under is. leb-true n (get_or ranges k d).place (rest k d first under is))

-- one more range
pub looked : (value from : ℕ) (ranges : List PlacedRange) (at : ℕ) (e : PlacedRange) (o : Option ℕ) → at < length ranges → BestWithin (counts value from) (λ (r : PlacedRange). r.place) ranges 0 at o → BestWithin (counts value from) (λ (r : PlacedRange). r.place) ranges 0 (at + 1) (lesser_of o (place_of value from (get_or ranges at e)))
looked value from ranges at e o within best =
    joined (counts value from) (λ (r : PlacedRange). r.place) ranges 0 at (at + 1) o (place_of value from (get_or ranges at e)) (omega arith) (omega arith) best (here (counts value from (get_or ranges at e)) refl)
  where
    same : (k : ℕ) (d : PlacedRange) → at ≤ k → k < at + 1 → get_or ranges k d ≡ get_or ranges at e
    same k d first under =
        let e' : k ≡ at = omega arith in
        ap (λ (n : ℕ). get_or ranges n d) e' ∙ get_or_default ranges at d e within

    here : (b : Bool) → counts value from (get_or ranges at e) ≡ b → BestWithin (counts value from) (λ (r : PlacedRange). r.place) ranges at (at + 1) (if b then Some (get_or ranges at e).place else None)
    here true is = record {
      at = at;
      from = omega arith;
      before = omega arith;
      passes = λ d. let s = get_or_default ranges at d e within in (ap (counts value from) s ∙ is, ap (λ (r : PlacedRange). r.place) s);
      none_before = λ k d first under counted. let s : (get_or ranges k d).place ≡ (get_or ranges at e).place = ap (λ (r : PlacedRange). r.place) (same k d first under) in omega arith;
    }
    here false is = λ k d first under. ap (counts value from) (same k d first under) ∙ is

-- the ranges that begin behind the value don't count
pub all_looked : (value from : ℕ) (ranges : List PlacedRange) (behind at : ℕ) (o : Option ℕ) → behind ≤ at → at ≤ length ranges → AllWithin (λ (r : PlacedRange). value < r.low) ranges behind (length ranges) → BestWithin (counts value from) (λ (r : PlacedRange). r.place) ranges 0 at o → BestWithin (counts value from) (λ (r : PlacedRange). r.place) ranges 0 (length ranges) o
all_looked value from ranges behind at o le up later best =
    kept value from ranges 0 at (length ranges) o (omega arith) up best (λ k d first under counted.
    let less : value < (get_or ranges k d).low = later k d (omega arith) under in
    let parts = and_parts (leb (get_or ranges k d).low value && leb value (get_or ranges k d).high) (leb from (get_or ranges k d).place) counted in
    let ends = and_parts (leb (get_or ranges k d).low value) (leb value (get_or ranges k d).high) parts.0 in
    let low : (get_or ranges k d).low ≤ value = leb-true (get_or ranges k d).low value ends.0 in
    absurd (omega arith))
