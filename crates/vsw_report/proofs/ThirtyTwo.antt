-- Lists of 32.
use Rattle.std.proofs.Common.{◌≡◌, ℕ, suc, ◌+◌, ◌%◌, ◌<◌, ◌≤◌, ◌==◌, true, List, [], ◌∷◌, ◌++◌, map, length, take, drop, slice_index, refl, sym, ap, ap₂, ◌∙◌, arith, Fits, w8}
use Rattle.std.proofs.lemmas.Bool.{agree_below_at, eqb-true}
use Rattle.std.proofs.lemmas.Simd.{put_chunk_is}
use Rattle.std.proofs.lemmas.List.{take_at, drop_at, drop-drop, length-drop, length-append, append_assoc}
use lib.Lanes.{pick_l, put_chunk, Each1}
use Rattle.hex.specs.Hex.{encode_lower, encode_with, lower_digits}
use Rattle.vsw_report.specs.Digit.{high, low, zipped}

uncons : (P : List ℕ → Type 0) (n : ℕ) → ((x : ℕ) (xs : List ℕ) → length xs ≡ n → P (x ∷ xs)) → (v : List ℕ) → length v ≡ suc n → P v
uncons P n f [] e = absurd (omega (arith, e))
uncons P n f (x ∷ xs) e = f x xs (omega (arith, e))

empty : (P : List ℕ → Type 0) → P [] → (v : List ℕ) → length v ≡ 0 → P v
empty P p [] e = p
empty P p (x ∷ xs) e = absurd (omega (arith, e))

-- what holds of 32 lanes holds of each list as long
pub open_32 : (P : List ℕ → Type 0) → ((x0 x1 x2 x3 x4 x5 x6 x7 x8 x9 x10 x11 x12 x13 x14 x15 x16 x17 x18 x19 x20 x21 x22 x23 x24 x25 x26 x27 x28 x29 x30 x31 : ℕ) → P (x0 ∷ x1 ∷ x2 ∷ x3 ∷ x4 ∷ x5 ∷ x6 ∷ x7 ∷ x8 ∷ x9 ∷ x10 ∷ x11 ∷ x12 ∷ x13 ∷ x14 ∷ x15 ∷ x16 ∷ x17 ∷ x18 ∷ x19 ∷ x20 ∷ x21 ∷ x22 ∷ x23 ∷ x24 ∷ x25 ∷ x26 ∷ x27 ∷ x28 ∷ x29 ∷ x30 ∷ x31 ∷ [])) → (v : List ℕ) → length v ≡ 32 → P v
open_32 P f v e = uncons (λ w. P (w)) 31 (λ x0 v0 e0.
    uncons (λ w. P (x0 ∷ w)) 30 (λ x1 v1 e1.
    uncons (λ w. P (x0 ∷ x1 ∷ w)) 29 (λ x2 v2 e2.
    uncons (λ w. P (x0 ∷ x1 ∷ x2 ∷ w)) 28 (λ x3 v3 e3.
    uncons (λ w. P (x0 ∷ x1 ∷ x2 ∷ x3 ∷ w)) 27 (λ x4 v4 e4.
    uncons (λ w. P (x0 ∷ x1 ∷ x2 ∷ x3 ∷ x4 ∷ w)) 26 (λ x5 v5 e5.
    uncons (λ w. P (x0 ∷ x1 ∷ x2 ∷ x3 ∷ x4 ∷ x5 ∷ w)) 25 (λ x6 v6 e6.
    uncons (λ w. P (x0 ∷ x1 ∷ x2 ∷ x3 ∷ x4 ∷ x5 ∷ x6 ∷ w)) 24 (λ x7 v7 e7.
    uncons (λ w. P (x0 ∷ x1 ∷ x2 ∷ x3 ∷ x4 ∷ x5 ∷ x6 ∷ x7 ∷ w)) 23 (λ x8 v8 e8.
    uncons (λ w. P (x0 ∷ x1 ∷ x2 ∷ x3 ∷ x4 ∷ x5 ∷ x6 ∷ x7 ∷ x8 ∷ w)) 22 (λ x9 v9 e9.
    uncons (λ w. P (x0 ∷ x1 ∷ x2 ∷ x3 ∷ x4 ∷ x5 ∷ x6 ∷ x7 ∷ x8 ∷ x9 ∷ w)) 21 (λ x10 v10 e10.
    uncons (λ w. P (x0 ∷ x1 ∷ x2 ∷ x3 ∷ x4 ∷ x5 ∷ x6 ∷ x7 ∷ x8 ∷ x9 ∷ x10 ∷ w)) 20 (λ x11 v11 e11.
    uncons (λ w. P (x0 ∷ x1 ∷ x2 ∷ x3 ∷ x4 ∷ x5 ∷ x6 ∷ x7 ∷ x8 ∷ x9 ∷ x10 ∷ x11 ∷ w)) 19 (λ x12 v12 e12.
    uncons (λ w. P (x0 ∷ x1 ∷ x2 ∷ x3 ∷ x4 ∷ x5 ∷ x6 ∷ x7 ∷ x8 ∷ x9 ∷ x10 ∷ x11 ∷ x12 ∷ w)) 18 (λ x13 v13 e13.
    uncons (λ w. P (x0 ∷ x1 ∷ x2 ∷ x3 ∷ x4 ∷ x5 ∷ x6 ∷ x7 ∷ x8 ∷ x9 ∷ x10 ∷ x11 ∷ x12 ∷ x13 ∷ w)) 17 (λ x14 v14 e14.
    uncons (λ w. P (x0 ∷ x1 ∷ x2 ∷ x3 ∷ x4 ∷ x5 ∷ x6 ∷ x7 ∷ x8 ∷ x9 ∷ x10 ∷ x11 ∷ x12 ∷ x13 ∷ x14 ∷ w)) 16 (λ x15 v15 e15.
    uncons (λ w. P (x0 ∷ x1 ∷ x2 ∷ x3 ∷ x4 ∷ x5 ∷ x6 ∷ x7 ∷ x8 ∷ x9 ∷ x10 ∷ x11 ∷ x12 ∷ x13 ∷ x14 ∷ x15 ∷ w)) 15 (λ x16 v16 e16.
    uncons (λ w. P (x0 ∷ x1 ∷ x2 ∷ x3 ∷ x4 ∷ x5 ∷ x6 ∷ x7 ∷ x8 ∷ x9 ∷ x10 ∷ x11 ∷ x12 ∷ x13 ∷ x14 ∷ x15 ∷ x16 ∷ w)) 14 (λ x17 v17 e17.
    uncons (λ w. P (x0 ∷ x1 ∷ x2 ∷ x3 ∷ x4 ∷ x5 ∷ x6 ∷ x7 ∷ x8 ∷ x9 ∷ x10 ∷ x11 ∷ x12 ∷ x13 ∷ x14 ∷ x15 ∷ x16 ∷ x17 ∷ w)) 13 (λ x18 v18 e18.
    uncons (λ w. P (x0 ∷ x1 ∷ x2 ∷ x3 ∷ x4 ∷ x5 ∷ x6 ∷ x7 ∷ x8 ∷ x9 ∷ x10 ∷ x11 ∷ x12 ∷ x13 ∷ x14 ∷ x15 ∷ x16 ∷ x17 ∷ x18 ∷ w)) 12 (λ x19 v19 e19.
    uncons (λ w. P (x0 ∷ x1 ∷ x2 ∷ x3 ∷ x4 ∷ x5 ∷ x6 ∷ x7 ∷ x8 ∷ x9 ∷ x10 ∷ x11 ∷ x12 ∷ x13 ∷ x14 ∷ x15 ∷ x16 ∷ x17 ∷ x18 ∷ x19 ∷ w)) 11 (λ x20 v20 e20.
    uncons (λ w. P (x0 ∷ x1 ∷ x2 ∷ x3 ∷ x4 ∷ x5 ∷ x6 ∷ x7 ∷ x8 ∷ x9 ∷ x10 ∷ x11 ∷ x12 ∷ x13 ∷ x14 ∷ x15 ∷ x16 ∷ x17 ∷ x18 ∷ x19 ∷ x20 ∷ w)) 10 (λ x21 v21 e21.
    uncons (λ w. P (x0 ∷ x1 ∷ x2 ∷ x3 ∷ x4 ∷ x5 ∷ x6 ∷ x7 ∷ x8 ∷ x9 ∷ x10 ∷ x11 ∷ x12 ∷ x13 ∷ x14 ∷ x15 ∷ x16 ∷ x17 ∷ x18 ∷ x19 ∷ x20 ∷ x21 ∷ w)) 9 (λ x22 v22 e22.
    uncons (λ w. P (x0 ∷ x1 ∷ x2 ∷ x3 ∷ x4 ∷ x5 ∷ x6 ∷ x7 ∷ x8 ∷ x9 ∷ x10 ∷ x11 ∷ x12 ∷ x13 ∷ x14 ∷ x15 ∷ x16 ∷ x17 ∷ x18 ∷ x19 ∷ x20 ∷ x21 ∷ x22 ∷ w)) 8 (λ x23 v23 e23.
    uncons (λ w. P (x0 ∷ x1 ∷ x2 ∷ x3 ∷ x4 ∷ x5 ∷ x6 ∷ x7 ∷ x8 ∷ x9 ∷ x10 ∷ x11 ∷ x12 ∷ x13 ∷ x14 ∷ x15 ∷ x16 ∷ x17 ∷ x18 ∷ x19 ∷ x20 ∷ x21 ∷ x22 ∷ x23 ∷ w)) 7 (λ x24 v24 e24.
    uncons (λ w. P (x0 ∷ x1 ∷ x2 ∷ x3 ∷ x4 ∷ x5 ∷ x6 ∷ x7 ∷ x8 ∷ x9 ∷ x10 ∷ x11 ∷ x12 ∷ x13 ∷ x14 ∷ x15 ∷ x16 ∷ x17 ∷ x18 ∷ x19 ∷ x20 ∷ x21 ∷ x22 ∷ x23 ∷ x24 ∷ w)) 6 (λ x25 v25 e25.
    uncons (λ w. P (x0 ∷ x1 ∷ x2 ∷ x3 ∷ x4 ∷ x5 ∷ x6 ∷ x7 ∷ x8 ∷ x9 ∷ x10 ∷ x11 ∷ x12 ∷ x13 ∷ x14 ∷ x15 ∷ x16 ∷ x17 ∷ x18 ∷ x19 ∷ x20 ∷ x21 ∷ x22 ∷ x23 ∷ x24 ∷ x25 ∷ w)) 5 (λ x26 v26 e26.
    uncons (λ w. P (x0 ∷ x1 ∷ x2 ∷ x3 ∷ x4 ∷ x5 ∷ x6 ∷ x7 ∷ x8 ∷ x9 ∷ x10 ∷ x11 ∷ x12 ∷ x13 ∷ x14 ∷ x15 ∷ x16 ∷ x17 ∷ x18 ∷ x19 ∷ x20 ∷ x21 ∷ x22 ∷ x23 ∷ x24 ∷ x25 ∷ x26 ∷ w)) 4 (λ x27 v27 e27.
    uncons (λ w. P (x0 ∷ x1 ∷ x2 ∷ x3 ∷ x4 ∷ x5 ∷ x6 ∷ x7 ∷ x8 ∷ x9 ∷ x10 ∷ x11 ∷ x12 ∷ x13 ∷ x14 ∷ x15 ∷ x16 ∷ x17 ∷ x18 ∷ x19 ∷ x20 ∷ x21 ∷ x22 ∷ x23 ∷ x24 ∷ x25 ∷ x26 ∷ x27 ∷ w)) 3 (λ x28 v28 e28.
    uncons (λ w. P (x0 ∷ x1 ∷ x2 ∷ x3 ∷ x4 ∷ x5 ∷ x6 ∷ x7 ∷ x8 ∷ x9 ∷ x10 ∷ x11 ∷ x12 ∷ x13 ∷ x14 ∷ x15 ∷ x16 ∷ x17 ∷ x18 ∷ x19 ∷ x20 ∷ x21 ∷ x22 ∷ x23 ∷ x24 ∷ x25 ∷ x26 ∷ x27 ∷ x28 ∷ w)) 2 (λ x29 v29 e29.
    uncons (λ w. P (x0 ∷ x1 ∷ x2 ∷ x3 ∷ x4 ∷ x5 ∷ x6 ∷ x7 ∷ x8 ∷ x9 ∷ x10 ∷ x11 ∷ x12 ∷ x13 ∷ x14 ∷ x15 ∷ x16 ∷ x17 ∷ x18 ∷ x19 ∷ x20 ∷ x21 ∷ x22 ∷ x23 ∷ x24 ∷ x25 ∷ x26 ∷ x27 ∷ x28 ∷ x29 ∷ w)) 1 (λ x30 v30 e30.
    uncons (λ w. P (x0 ∷ x1 ∷ x2 ∷ x3 ∷ x4 ∷ x5 ∷ x6 ∷ x7 ∷ x8 ∷ x9 ∷ x10 ∷ x11 ∷ x12 ∷ x13 ∷ x14 ∷ x15 ∷ x16 ∷ x17 ∷ x18 ∷ x19 ∷ x20 ∷ x21 ∷ x22 ∷ x23 ∷ x24 ∷ x25 ∷ x26 ∷ x27 ∷ x28 ∷ x29 ∷ x30 ∷ w)) 0 (λ x31 v31 e31.
    empty (λ w. P (x0 ∷ x1 ∷ x2 ∷ x3 ∷ x4 ∷ x5 ∷ x6 ∷ x7 ∷ x8 ∷ x9 ∷ x10 ∷ x11 ∷ x12 ∷ x13 ∷ x14 ∷ x15 ∷ x16 ∷ x17 ∷ x18 ∷ x19 ∷ x20 ∷ x21 ∷ x22 ∷ x23 ∷ x24 ∷ x25 ∷ x26 ∷ x27 ∷ x28 ∷ x29 ∷ x30 ∷ x31 ∷ w)) (f x0 x1 x2 x3 x4 x5 x6 x7 x8 x9 x10 x11 x12 x13 x14 x15 x16 x17 x18 x19 x20 x21 x22 x23 x24 x25 x26 x27 x28 x29 x30 x31) v31 e31) v30 e30) v29 e29) v28 e28) v27 e27) v26 e26) v25 e25) v24 e24) v23 e23) v22 e22) v21 e21) v20 e20) v19 e19) v18 e18) v17 e17) v16 e16) v15 e15) v14 e14) v13 e13) v12 e12) v11 e11) v10 e10) v9 e9) v8 e8) v7 e7) v6 e6) v5 e5) v4 e4) v3 e3) v2 e2) v1 e1) v0 e0) v e

abbrev front_places : List ℕ
front_places = 0 ∷ 32 ∷ 1 ∷ 33 ∷ 2 ∷ 34 ∷ 3 ∷ 35 ∷ 4 ∷ 36 ∷ 5 ∷ 37 ∷ 6 ∷ 38 ∷ 7 ∷ 39 ∷ 8 ∷ 40 ∷ 9 ∷ 41 ∷ 10 ∷ 42 ∷ 11 ∷ 43 ∷ 12 ∷ 44 ∷ 13 ∷ 45 ∷ 14 ∷ 46 ∷ 15 ∷ 47 ∷ []

pub front_is : (h l : List ℕ) → length h ≡ 32 → length l ≡ 32 → pick_l 0 (h ++ l) (0 ∷ 32 ∷ 1 ∷ 33 ∷ 2 ∷ 34 ∷ 3 ∷ 35 ∷ 4 ∷ 36 ∷ 5 ∷ 37 ∷ 6 ∷ 38 ∷ 7 ∷ 39 ∷ 8 ∷ 40 ∷ 9 ∷ 41 ∷ 10 ∷ 42 ∷ 11 ∷ 43 ∷ 12 ∷ 44 ∷ 13 ∷ 45 ∷ 14 ∷ 46 ∷ 15 ∷ 47 ∷ []) ≡ take 32 (zipped h l)
front_is h l eh el =
    open_32 (λ h. pick_l 0 (h ++ l) front_places ≡ take 32 (zipped h l)) (λ x0 x1 x2 x3 x4 x5 x6 x7 x8 x9 x10 x11 x12 x13 x14 x15 x16 x17 x18 x19 x20 x21 x22 x23 x24 x25 x26 x27 x28 x29 x30 x31.
    open_32 (λ l. pick_l 0 ((x0 ∷ x1 ∷ x2 ∷ x3 ∷ x4 ∷ x5 ∷ x6 ∷ x7 ∷ x8 ∷ x9 ∷ x10 ∷ x11 ∷ x12 ∷ x13 ∷ x14 ∷ x15 ∷ x16 ∷ x17 ∷ x18 ∷ x19 ∷ x20 ∷ x21 ∷ x22 ∷ x23 ∷ x24 ∷ x25 ∷ x26 ∷ x27 ∷ x28 ∷ x29 ∷ x30 ∷ x31 ∷ []) ++ l) front_places ≡ take 32 (zipped (x0 ∷ x1 ∷ x2 ∷ x3 ∷ x4 ∷ x5 ∷ x6 ∷ x7 ∷ x8 ∷ x9 ∷ x10 ∷ x11 ∷ x12 ∷ x13 ∷ x14 ∷ x15 ∷ x16 ∷ x17 ∷ x18 ∷ x19 ∷ x20 ∷ x21 ∷ x22 ∷ x23 ∷ x24 ∷ x25 ∷ x26 ∷ x27 ∷ x28 ∷ x29 ∷ x30 ∷ x31 ∷ []) l)) (λ y0 y1 y2 y3 y4 y5 y6 y7 y8 y9 y10 y11 y12 y13 y14 y15 y16 y17 y18 y19 y20 y21 y22 y23 y24 y25 y26 y27 y28 y29 y30 y31. refl) l el) h eh

abbrev back_places : List ℕ
back_places = 16 ∷ 48 ∷ 17 ∷ 49 ∷ 18 ∷ 50 ∷ 19 ∷ 51 ∷ 20 ∷ 52 ∷ 21 ∷ 53 ∷ 22 ∷ 54 ∷ 23 ∷ 55 ∷ 24 ∷ 56 ∷ 25 ∷ 57 ∷ 26 ∷ 58 ∷ 27 ∷ 59 ∷ 28 ∷ 60 ∷ 29 ∷ 61 ∷ 30 ∷ 62 ∷ 31 ∷ 63 ∷ []

pub back_is : (h l : List ℕ) → length h ≡ 32 → length l ≡ 32 → pick_l 0 (h ++ l) (16 ∷ 48 ∷ 17 ∷ 49 ∷ 18 ∷ 50 ∷ 19 ∷ 51 ∷ 20 ∷ 52 ∷ 21 ∷ 53 ∷ 22 ∷ 54 ∷ 23 ∷ 55 ∷ 24 ∷ 56 ∷ 25 ∷ 57 ∷ 26 ∷ 58 ∷ 27 ∷ 59 ∷ 28 ∷ 60 ∷ 29 ∷ 61 ∷ 30 ∷ 62 ∷ 31 ∷ 63 ∷ []) ≡ drop 32 (zipped h l)
back_is h l eh el =
    open_32 (λ h. pick_l 0 (h ++ l) back_places ≡ drop 32 (zipped h l)) (λ x0 x1 x2 x3 x4 x5 x6 x7 x8 x9 x10 x11 x12 x13 x14 x15 x16 x17 x18 x19 x20 x21 x22 x23 x24 x25 x26 x27 x28 x29 x30 x31.
    open_32 (λ l. pick_l 0 ((x0 ∷ x1 ∷ x2 ∷ x3 ∷ x4 ∷ x5 ∷ x6 ∷ x7 ∷ x8 ∷ x9 ∷ x10 ∷ x11 ∷ x12 ∷ x13 ∷ x14 ∷ x15 ∷ x16 ∷ x17 ∷ x18 ∷ x19 ∷ x20 ∷ x21 ∷ x22 ∷ x23 ∷ x24 ∷ x25 ∷ x26 ∷ x27 ∷ x28 ∷ x29 ∷ x30 ∷ x31 ∷ []) ++ l) back_places ≡ drop 32 (zipped (x0 ∷ x1 ∷ x2 ∷ x3 ∷ x4 ∷ x5 ∷ x6 ∷ x7 ∷ x8 ∷ x9 ∷ x10 ∷ x11 ∷ x12 ∷ x13 ∷ x14 ∷ x15 ∷ x16 ∷ x17 ∷ x18 ∷ x19 ∷ x20 ∷ x21 ∷ x22 ∷ x23 ∷ x24 ∷ x25 ∷ x26 ∷ x27 ∷ x28 ∷ x29 ∷ x30 ∷ x31 ∷ []) l)) (λ y0 y1 y2 y3 y4 y5 y6 y7 y8 y9 y10 y11 y12 y13 y14 y15 y16 y17 y18 y19 y20 y21 y22 y23 y24 y25 y26 y27 y28 y29 y30 y31. refl) l el) h eh

-- two stores, one after the other, over the front of a text
pub stored_is : (t f b : List ℕ) → length f ≡ 32 → length b ≡ 32 → 64 ≤ length t → put_chunk 32 (put_chunk 0 t f) b ≡ (f ++ b) ++ drop 64 t
stored_is t f b ef eb long =
    let w : put_chunk 0 t f ≡ f ++ drop 32 t = put_chunk_is 0 t f (omega (arith, ef, long)) ∙ ap (λ (k : ℕ). f ++ drop k t) ef in
    let room : 32 + length b ≤ length (f ++ drop 32 t) = omega (arith, ef, eb, long, length-append f (drop 32 t), length-drop 32 t) in
    ap (λ (l : List ℕ). put_chunk 32 l b) w
    ∙ put_chunk_is 32 (f ++ drop 32 t) b room
    ∙ ap (λ (l : List ℕ). l ++ (b ++ drop (length b) (drop 32 (f ++ drop 32 t)))) (take_at f (drop 32 t) 32 ef)
    ∙ ap (λ (k : ℕ). f ++ (b ++ drop k (drop 32 (f ++ drop 32 t)))) eb
    ∙ ap (λ (l : List ℕ). f ++ (b ++ drop 32 l)) (drop_at f (drop 32 t) 32 ef)
    ∙ ap (λ (l : List ℕ). f ++ (b ++ l)) (drop-drop 32 32 t)
    ∙ sym (append_assoc f b (drop 64 t))

-- the lower half of a byte is what is left by sixteen
low_is : (b : ℕ) → b < 256 → low b ≡ slice_index lower_digits (b % 16)
low_is b h = eqb-true _ _ (agree_below_at (λ b. low b == slice_index lower_digits (b % 16)) (λ b. true) 256 b refl h)

pub zipped_is : (v : List ℕ) → Each1 (Fits w8) v → zipped (map high v) (map low v) ≡ encode_lower v
unfolding encode_with
zipped_is [] h = refl
zipped_is (b ∷ bs) h = ap (λ r. high b ∷ r) (ap₂ (λ x r. x ∷ r) (low_is b h.0.fits) (zipped_is bs h.1))
