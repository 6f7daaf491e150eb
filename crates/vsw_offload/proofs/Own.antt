-- Bytes that stand at the front of a room, or are the frame's own.
use Rattle.std.proofs.Common.{◌≡◌, ℕ, Bool, true, false, List, length, take, Some, refl, sym, subst}
use Rattle.vsw_base.specs.declared.fate.Fate.{Fate}
use Rattle.vsw_base.specs.declared.fate.Fate.TheVariants.{Drop, Pass}
use Rattle.vsw_base.specs.declared.flow.Crossing.{Crossing}
use Rattle.vsw_base.specs.Frame.{Parts}
use Rattle.vsw_frame.specs.Tiles.{outermost}
use Rattle.vsw_offload.specs.Answered.{IsAnswered, bytes_left, bytes_told}

told_left : (p : Parts) (fate : Fate) (out : List ℕ) → bytes_told false p fate out ≡ bytes_left (Some fate) out
told_left p (Pass len) out = refl
told_left p (Drop why) out = refl

-- bytes that aren't the frame's own stand in the room already
pub left_there : (rows : List (List ℕ)) (x : Crossing) (p : Parts) (own : Bool) (fate : Fate) (out : List ℕ) → own ≡ false → IsAnswered rows x p fate (bytes_told own p fate out) → IsAnswered rows x p fate (bytes_left (Some fate) out)
left_there rows x p own fate out e a = subst (IsAnswered rows x p fate) (told_left p fate out) (subst (λ o. IsAnswered rows x p fate (bytes_told o p fate out)) e a)

-- the frame's own were written there
pub own_left : (rows : List (List ℕ)) (x : Crossing) (p : Parts) (own : Bool) (fate : Fate) (old new : List ℕ) → own ≡ true → (own ≡ true → fate ≡ Pass (length (outermost p.levels))) → take (length (outermost p.levels)) new ≡ outermost p.levels
    → IsAnswered rows x p fate (bytes_told own p fate old) → IsAnswered rows x p fate (bytes_left (Some fate) new)
own_left rows x p own fate old new e is put a =
    let n : ℕ = length (outermost p.levels) in
    let passes : bytes_told true p (Pass n) old ≡ bytes_left (Some (Pass n)) new = sym put in
    let same : bytes_told true p fate old ≡ bytes_left (Some fate) new = subst (λ (f : Fate). bytes_told true p f old ≡ bytes_left (Some f) new) (sym (is e)) passes in
    subst (IsAnswered rows x p fate) same (subst (λ o. IsAnswered rows x p fate (bytes_told o p fate old)) e a)
