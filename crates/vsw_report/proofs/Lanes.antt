-- Look-ups, lane by lane.
use Rattle.std.proofs.Common.{◌≡◌, ℕ, zero, suc, ◌+◌, ◌*◌, ◌/◌, ◌^◌, ◌<◌, ◌==◌, true, List, [], ◌∷◌, map, length, get_or, replicate, bit_and, refl, ap, sym, ◌∙◌, arith, w8, Fits}
use Rattle.std.proofs.lemmas.Bool.{agree_below_at, eqb-true}
use Rattle.std.proofs.lemmas.List.{get_or-map, length-map, ext_get_or}
use Rattle.std.proofs.lemmas.Nat.{and_le_r}
use Rattle.std.proofs.lemmas.Simd.{Each1-all, Each1-weaker, Each1-zip2, Each2-splat, below_from_Fits, length-zip2, swz_l, SwzOk, SwzOk-from_below, length-swz_l, get_or-swz_l_below}
use lib.Lanes.{zip2, Each1}
use Rattle.hex.specs.Hex.{lower_digits}
use Rattle.vsw_report.specs.declared.block.TheConstants.{DIGITS}

abbrev pub IsBlock : List ℕ → Type 0
IsBlock v = (length v ≡ 32) × Each1 (Fits w8) v

lane_fits : (v : List ℕ) (i : ℕ) → Each1 (Fits w8) v → get_or v i 0 < 256
lane_fits [] i h = omega arith
lane_fits (x ∷ xs) zero h = h.0.fits
lane_fits (x ∷ xs) (suc i) h = lane_fits xs i h.1

abbrev pub down : ℕ → ℕ → ℕ
down a b = a / 2 ^ b

-- halves of bytes are places in a table of sixteen
pub high_ok : (v : List ℕ) → IsBlock v → SwzOk w8 16 32 0 (zip2 down v (replicate 32 4))
high_ok v fits =
    let small = Each1-weaker (λ a. a < 256) (λ a. a / 16 < 16) (λ a h. omega arith) v (below_from_Fits w8 v fits.1) in
    SwzOk-from_below w8 16 2 32 0 (zip2 down v (replicate 32 4)) refl (omega (arith, length-zip2 down v (replicate 32 4) fits.0))
    (Each1-zip2 down (λ j. j < 16) v (replicate 32 4) (Each2-splat (λ a b. down a b < 16) v 32 4 small))

pub low_ok : (v : List ℕ) → IsBlock v → SwzOk w8 16 32 0 (zip2 bit_and v (replicate 32 15))
low_ok v fits =
    let small = Each1-all (λ a. bit_and a 15 < 16) (λ a. omega (arith, and_le_r a 15)) v in
    SwzOk-from_below w8 16 2 32 0 (zip2 bit_and v (replicate 32 15)) refl (omega (arith, length-zip2 bit_and v (replicate 32 15) fits.0))
    (Each1-zip2 bit_and (λ j. j < 16) v (replicate 32 15) (Each2-splat (λ a b. bit_and a b < 16) v 32 15 small))

-- each half of the table is the digits
halves : (d j : ℕ) → d < 2 → j < 16 → get_or DIGITS (16 * d + j) 0 ≡ get_or lower_digits j 0
halves zero j h lt = eqb-true _ _ (agree_below_at (λ j. get_or DIGITS (0 + j) 0 == get_or lower_digits j 0) (λ j. true) 16 j refl lt)
halves (suc zero) j h lt = eqb-true _ _ (agree_below_at (λ j. get_or DIGITS (16 + j) 0 == get_or lower_digits j 0) (λ j. true) 16 j refl lt)
halves (suc (suc d)) j h lt = absurd (omega (arith, h))

-- the digits at places g x below 16
pub looked_up : (g : ℕ → ℕ) (v js : List ℕ) → IsBlock v → js ≡ map g v → ((x : ℕ) → x < 256 → g x < 16) → swz_l w8 16 DIGITS 0 js ≡ map (λ x. get_or lower_digits (g x) 0) v
looked_up g v js fits e small =
    let long : length js ≡ 32 = ap length e ∙ length-map v g ∙ fits.0 in
    ext_get_or 0 _ _ (length-swz_l w8 16 DIGITS 0 js ∙ long ∙ sym (length-map v (λ x. get_or lower_digits (g x) 0) ∙ fits.0)) (λ i h.
    let lt : i < 32 = omega (arith, length-swz_l w8 16 DIGITS 0 js) in
    let within : i < length v = omega (arith, fits.0) in
    let is : get_or js i 0 ≡ g (get_or v i 0) = ap (λ l. get_or l i 0) e ∙ get_or-map g v i 0 0 within in
    let below : get_or js i 0 < 16 = omega (arith, small (get_or v i 0) (lane_fits v i fits.1)) in
    get_or-swz_l_below w8 16 DIGITS 0 js i (omega arith) below
    ∙ halves ((0 + i) / 16) (get_or js i 0) (omega (arith, lt)) below
    ∙ ap (λ k. get_or lower_digits k 0) is ∙ sym (get_or-map (λ x. get_or lower_digits (g x) 0) v i 0 0 within))
