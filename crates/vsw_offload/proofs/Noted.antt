-- Slots stay taken.
use Rattle.std.proofs.Common.{◌≡◌, ◌<◌, ℕ, zero, suc, List, [], ◌∷◌, false, true≢false, get_or, take, length, ap, sym, ◌∙◌, arith}
use Rattle.vsw_offload.specs.Answered.{rows_at}
use Rattle.vsw_offload.specs.Private.Finding.{HasNone}
use Rattle.vsw_offload.specs.Private.Noting.{AllNoted, AreNoted, Keeps, is_taken}
use Rattle.vsw_offload.specs.Rows.{key_of}
use Rattle.vsw_offload.specs.declared.port_rows.PortRows.{PortRows}
use Rattle.vsw_policy.specs.Sound.{Each}
use Rattle.vsw_words.specs.Slot.{slot}

-- rows stay noted
pub still : (old new : List ℕ) (slots : ℕ) (rows : List (List ℕ)) → Keeps old new → AreNoted old slots rows → AreNoted new slots rows
still old new slots [] keeps e = tt
still old new slots (r ∷ rs) keeps e = (keeps (slot (key_of r) slots) e.0, still old new slots rs keeps e.1)

pub all_still : (old new : List ℕ) (slots : ℕ) (ps : List PortRows) → Keeps old new → AllNoted old slots ps → AllNoted new slots ps
all_still old new slots [] keeps e = tt
all_still old new slots (p ∷ ps) keeps e = (still old new slots p.rows keeps e.0, all_still old new slots ps keeps e.1)

-- one more of a list
pub each_more : {A : Type 0} (P : A → Type 0) (xs : List A) (n : ℕ) (x : A) → n < length xs → Each P (take n xs) → P (get_or xs n x) → Each P (take (suc n) xs)
each_more P [] n x within e p = absurd (grind (arith, within))
each_more P (y ∷ ys) zero x within e p = (p, tt)
each_more P (y ∷ ys) (suc n) x within e p = (e.0, each_more P ys n x (omega (arith, within)) e.1 p)

-- the rows of one port
pub noted_at : (places : List ℕ) (slots : ℕ) (ps : List PortRows) (n : ℕ) → AllNoted places slots ps → AreNoted places slots (rows_at ps n)
noted_at places slots [] n e = tt
noted_at places slots (p ∷ ps) zero e = e.0
noted_at places slots (p ∷ ps) (suc n) e = noted_at places slots ps n e.1

-- no row has a key whose slot is free
pub free_none : (places : List ℕ) (slots : ℕ) (rows : List (List ℕ)) (key : List ℕ) → AreNoted places slots rows → is_taken places (slot key slots) ≡ false → HasNone rows key
free_none places slots [] key e free = tt
free_none places slots (r ∷ rs) key e free = ((λ same. true≢false (sym e.0 ∙ (ap (λ k. is_taken places (slot k slots)) same ∙ free))), free_none places slots rs key e.1 free)
