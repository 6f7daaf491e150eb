-- Rows whose keys rise.
use Rattle.std.proofs.Common.{◌≡◌, ℕ, List, [], ◌∷◌, ◌++◌, true, false, true≢false, refl, sym, ◌∙◌}
use Rattle.vsw_offload.specs.Private.Reading.{is_next}
use Rattle.vsw_offload.specs.Rows.{Rise, is_before}

pub rise_more : (rows : List (List ℕ)) (w : List ℕ) → is_next rows w ≡ true → Rise rows → Rise (rows ++ w ∷ [])
rise_more [] w e r = tt
rise_more (a ∷ []) w e r = (e, tt)
rise_more (a ∷ b ∷ rows) w e r = (r.0, rise_more (b ∷ rows) w e r.1)

pub next_not : (rows : List (List ℕ)) (w : List ℕ) → is_next rows w ≡ false → Rise (rows ++ w ∷ []) → ⊥
next_not [] w e r = true≢false e
next_not (a ∷ []) w e r = true≢false (sym r.0 ∙ e)
next_not (a ∷ b ∷ rows) w e r = next_not (b ∷ rows) w e r.1

pub next_last : (front : List (List ℕ)) (last w : List ℕ) → is_next (front ++ last ∷ []) w ≡ is_before last w
next_last [] last w = refl
next_last (a ∷ []) last w = refl
next_last (a ∷ b ∷ front) last w = next_last (b ∷ front) last w
