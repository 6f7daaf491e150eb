-- The text of a round in pieces, when more is appended.
use Rattle.std.proofs.Common.{◌≡◌, ℕ, ◌++◌, ◌∷◌, [], List, Result, Ok, Err, OnOk, sym, ap, ap₂, ◌∙◌, append_assoc, append-nil}
use Rattle.std.specs.Bool.{⊤}
use Rattle.std.specs.List.{concat}
use Rattle.std.proofs.lemmas.List.Folds.{concat-append}
use Rattle.vsw_base.specs.declared.fault.NoMemory.{NoMemory}

-- what stands in the last sheet
concat_end : (sheets : List (List ℕ)) (text : List ℕ) → concat (sheets ++ text ∷ []) ≡ concat sheets ++ text
concat_end sheets text = concat-append sheets (text ∷ []) ∙ ap (λ (t : List ℕ). concat sheets ++ t) (append-nil text)

-- the end is a sheet, and a page behind it
pub taken_whole : (r : Result ⊤ NoMemory) (s s1 s2 : List (List ℕ)) (end end1 page : List ℕ) → s1 ≡ s ++ end ∷ [] → end1 ≡ [] → OnOk r (s2 ≡ s1 ++ page ∷ []) → OnOk r (concat s2 ++ end1 ≡ concat s ++ end ++ page)
taken_whole (Ok u) s s1 s2 end end1 page e none f =
    ap₂ (λ (a : List (List ℕ)) (b : List ℕ). concat a ++ b) f none
    ∙ append-nil (concat (s1 ++ page ∷ []))
    ∙ concat_end s1 page
    ∙ ap (λ (a : List (List ℕ)). concat a ++ page) e
    ∙ ap (λ (a : List ℕ). a ++ page) (concat_end s end)
taken_whole (Err e) s s1 s2 end end1 page p none f = tt

-- a text behind the end
pub ended_whole : (sheets : List (List ℕ)) (end end1 more : List ℕ) → end1 ≡ end ++ more → concat sheets ++ end1 ≡ concat sheets ++ end ++ more
ended_whole sheets end end1 more e = ap (λ (t : List ℕ). concat sheets ++ t) e ∙ sym (append_assoc (concat sheets) end more)
