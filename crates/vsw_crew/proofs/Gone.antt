-- Lines that were told are gone, and their rooms go back.
use Rattle.std.proofs.Common.{◌≡◌, ℕ, zero, suc, List, [], ◌∷◌, length, set, refl, ap, Vec}
use Rattle.vsw_crew.specs.Private.Rows.{AreGone}
use Rattle.vsw_harbour.specs.Lane.{Lane}
use Rattle.vsw_harbour.specs.HarbourOpening.{rows_in}
use Rattle.vsw_harbour.specs.Seen.{StationSeen}
use Rattle.vsw_report.specs.Line.{TextLine}
use Rattle.vsw_report.specs.Order.{emptied}
use Rattle.vsw_policy.specs.Sound.{Each}
use Rattle.vsw_crew.specs.Texts.{all_emptied}

emptied_gone : (lines : List (List TextLine)) → AreGone (emptied lines)
emptied_gone [] place = refl
emptied_gone (ls ∷ lines) zero = refl
emptied_gone (ls ∷ lines) (suc place) = emptied_gone lines place

pub all_gone : (rows : List (List (List TextLine))) → Each AreGone (all_emptied rows)
all_gone [] = tt
all_gone (row ∷ rows) = (emptied_gone row, all_gone rows)

pub all_many : (rows : List (List (List TextLine))) → length (all_emptied rows) ≡ length rows
all_many [] = refl
all_many (row ∷ rows) = ap suc (all_many rows)

-- those at a place are taken, and the others are still gone
pub gone_behind : (lines : List (List TextLine)) (at : ℕ) → AreGone lines → AreGone (set lines at [])
gone_behind [] at g place = refl
gone_behind (ls ∷ lines) zero g zero = refl
gone_behind (ls ∷ lines) zero g (suc place) = g (suc place)
gone_behind (ls ∷ lines) (suc at) g zero = g zero
gone_behind (ls ∷ lines) (suc at) g (suc place) = gone_behind lines at (λ p. g (suc p)) place

pub rows_many : {G : Type 0} (rows : List (Vec (Lane StationSeen) G)) → length (rows_in rows) ≡ length rows
rows_many [] = refl
rows_many (row ∷ rows) = ap suc (rows_many rows)
