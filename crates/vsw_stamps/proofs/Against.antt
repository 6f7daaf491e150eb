-- Why a record is true only while the row has its stamp: a record that is closed can hold words of two rows.
use Rattle.std.proofs.Common.{◌≡◌, ℕ, ◌==◌, Bool, true, List, [], ◌∷◌, refl, slice_index_or, Some, arith}
use Rattle.vsw_stamps.specs.declared.step.Step.{Step}
use Rattle.vsw_stamps.specs.declared.step.Step.TheVariants.{LoadStamp, LoadWord, LoadCount, LoadStampAgain, StoreWord, ClearStamp, StoreStamp}
use Rattle.vsw_stamps.specs.Machine.{finished, record_of, fresh, run}
use Rattle.vsw_stamps.specs.Sound.{AreOf}
use Rattle.vsw_stamps.proofs.Keeps.{is_equal}

-- a row is good where its first two words are the same
abbrev alike : List ℕ → List ℕ → Bool
alike h row = slice_index_or row 0 0 == slice_index_or row 1 0

-- the row is stamped and its first word is read; then it becomes another row, of which the second word is read, and the entries are counted
abbrev between : List (Step ℕ)
between = StoreStamp 0 ∷ LoadStamp 0 0 ∷ LoadWord 0 0 0 ∷ ClearStamp 0 ∷ StoreWord 0 0 1 ∷ StoreWord 0 1 1 ∷ StoreStamp 0 ∷ LoadWord 0 0 1 ∷ LoadCount 0 ∷ []

pub mixed : record_of 0 (run alike (fresh 1) between).log ≡ record { count = Some 0; rows = record { row = 0; stamp = 1; words = (1, 1) ∷ (0, 0) ∷ [] } ∷ [] }
mixed = refl

-- no row with these words was ever good
pub none_good : (row : List ℕ) → AreOf row ((1, 1) ∷ (0, 0) ∷ []) → alike [] row ≡ true → ⊥
none_good row are good = let same = is_equal (slice_index_or row 0 0) (slice_index_or row 1 0) good in let first = are.1.0 in let second = are.0 in omega (arith, same, first, second)

-- a lookup that is finished, and one whose row was taken away between
pub one_finished : finished (run alike (fresh 1) (StoreStamp 0 ∷ LoadStamp 0 0 ∷ LoadWord 0 0 0 ∷ LoadCount 0 ∷ LoadStampAgain 0 0 ∷ [])).log ≡ record { row = 0; stamp = 1; count = 0; words = (0, 0) ∷ [] } ∷ []
one_finished = refl

pub none_finished : finished (run alike (fresh 1) (StoreStamp 0 ∷ LoadStamp 0 0 ∷ LoadWord 0 0 0 ∷ ClearStamp 0 ∷ LoadCount 0 ∷ LoadStampAgain 0 0 ∷ [])).log ≡ []
none_finished = refl
