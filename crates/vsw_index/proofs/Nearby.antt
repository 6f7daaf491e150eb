-- A list by place: what holds the value first has the least place.
use Rattle.std.proofs.Common.{◌≡◌, ◌≤◌, ◌<◌, ℕ, false, ◌&&◌, leb, List, Some, None, length, get_or, sym, ap, subst, ◌∙◌, inl, inr, arith}
use Rattle.std.specs.List.{AllWithin}
use Rattle.std.specs.List.Sorted.{IsNonDecreasingBy}
use Rattle.std.proofs.lemmas.Bool.{cases_lt, le-leb, lt-leb, and_right, and_from, true≢false}
use Rattle.std.proofs.lemmas.List.{get_or_default}
use Rattle.vsw_index.specs.declared.placed_range.PlacedRange.{PlacedRange}
use Rattle.vsw_index.specs.RangeLeast.{counts, least_of}
use Rattle.vsw_index.proofs.Least.{found}

-- a range before `from` doesn't count
pub early : (value from : ℕ) (r : PlacedRange) → r.place < from → counts value from r ≡ false
early value from r less = and_right (leb r.low value && leb value r.high) (leb from r.place) (lt-leb from r.place less)

pub nowhere : (value from : ℕ) (ranges : List PlacedRange) (at : ℕ) → length ranges ≤ at → AllWithin (λ (r : PlacedRange). counts value from r ≡ false) ranges 0 at → None ≡ least_of ranges value from
nowhere value from ranges at past all = found (counts value from) (λ (r : PlacedRange). r.place) ranges None (λ k d low high. all k d low (omega arith))

pub first : (value from : ℕ) (ranges : List PlacedRange) (at : ℕ) (e : PlacedRange) → IsNonDecreasingBy (λ (r : PlacedRange). r.place) ranges → at < length ranges → (get_or ranges at e).low ≤ value → value ≤ (get_or ranges at e).high → from ≤ (get_or ranges at e).place → AllWithin (λ (r : PlacedRange). counts value from r ≡ false) ranges 0 at → Some (get_or ranges at e).place ≡ least_of ranges value from
first value from ranges at e rises within low high after all =
    let here : (d : PlacedRange) → get_or ranges at d ≡ get_or ranges at e = λ d. get_or_default ranges at d e within in
    let ends = and_from (leb (get_or ranges at e).low value) (leb value (get_or ranges at e).high) (le-leb (get_or ranges at e).low value low) (le-leb value (get_or ranges at e).high high) in
    let is = and_from (leb (get_or ranges at e).low value && leb value (get_or ranges at e).high) (leb from (get_or ranges at e).place) ends (le-leb from (get_or ranges at e).place after) in
    found (counts value from) (λ (r : PlacedRange). r.place) ranges (Some (get_or ranges at e).place)
    (record {
      at = at;
      from = omega arith;
      before = within;
      passes = λ d. (ap (counts value from) (here d) ∙ is, ap (λ (r : PlacedRange). r.place) (here d));
      none_before = λ k d begin end counted. elim (cases_lt k at) [
        | inl u ↦ absurd (true≢false (sym counted ∙ all k d begin u))
        | inr v ↦
            let P : PlacedRange → Type 0 = λ r. r.place ≤ (get_or ranges k d).place in
            subst P (here d) (rises at k d v end)
      ];
    })
