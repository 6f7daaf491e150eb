-- What is found by going back over the log.
use Rattle.std.proofs.Common.{◌≡◌, ◌≢◌, ℕ, zero, suc, ◌==◌, ◌||◌, Bool, true, false, if◌then◌else◌, List, [], ◌∷◌, refl, ap, sym, ◌∙◌, subst, arith, ◌-◌, ◌<◌, eq-eqb, ne_eqb, slice_index_or, get_or, length, take, reverse, ◌≤◌, ◌++◌}
use Rattle.std.proofs.Math.Bool.{and-false}
use mathlib.Core.Logic.{dite}
use native.Mathlib.Decide.{ℕ_discrete}
use Rattle.std.proofs.lemmas.List.{reverse-append}
use Rattle.std.proofs.Math.Seq.{take-suc}
use Rattle.vsw_stamps.specs.declared.step.Loaded.{Loaded}
use Rattle.vsw_stamps.specs.declared.step.Load.{Load}
use Rattle.vsw_stamps.specs.declared.step.Load.TheVariants.{Word, Count, Again}
use Rattle.vsw_stamps.specs.Machine.{has_row, with_word, recorded, record_of, is_closed, rows_good}
use Rattle.vsw_stamps.specs.declared.shown.Seen.{Seen}
use Rattle.vsw_stamps.specs.declared.shown.Record.{Record}

has_with : (r q k value : ℕ) (b : Bool) (x : Seen) (xs : List Seen) → has_row r (with_word q k value xs) ≡ has_row r xs → has_row r (if b then record x { words = (k, value) ∷ x.words } ∷ xs else x ∷ with_word q k value xs) ≡ has_row r (x ∷ xs)
has_with r q k value true x xs ih = refl
has_with r q k value false x xs ih = ap (λ (b : Bool). (x.row == r) || b) ih

-- a word that is recorded leaves the rows that a record holds
pub has_row_word : (r q k value : ℕ) (xs : List Seen) → has_row r (with_word q k value xs) ≡ has_row r xs
has_row_word r q k value [] = refl
has_row_word r q k value (x ∷ xs) = has_with r q k value (x.row == q) x xs (has_row_word r q k value xs)

-- what is recorded when one load more is taken of the log, whose oldest load stands first
pub last_load : (a left : ℕ) (log : List Loaded) (d : Loaded) → 0 < left → left ≤ length log → (get_or log (left - 1) d).actor ≡ a
    → record_of a (reverse (take left log)) ≡ recorded (get_or log (left - 1) d).load (record_of a (reverse (take (left - 1) log)))
last_load a zero log d up le by = absurd (omega (arith, up))
last_load a (suc n) log d up le by =
    let n_is : suc n - 1 ≡ n = omega arith in
    let x = get_or log (suc n - 1) d in
    let xs = reverse (take n log) in
    let cut : take (suc n) log ≡ take n log ++ get_or log n d ∷ [] = take-suc log n d (omega (arith, le)) in
    let turned : reverse (take (suc n) log) ≡ x ∷ xs = ap reverse cut ∙ (reverse-append (take n log) (get_or log n d ∷ []) ∙ ap (λ (m : ℕ). get_or log m d ∷ xs) (sym n_is)) in
    let one : record_of a (x ∷ xs) ≡ recorded x.load (record_of a xs) = rw (eq-eqb x.actor a by) refl in
    ap (record_of a) turned ∙ (one ∙ ap (λ (m : ℕ). recorded x.load (record_of a (reverse (take m log)))) (sym n_is))

-- going back over loads of the same actor that leave the rows which a record holds, and whether it is closed
pub skip_word : (r a q k value left : ℕ) (log : List Loaded) (d : Loaded) → 0 < left → left ≤ length log → (get_or log (left - 1) d).actor ≡ a → (get_or log (left - 1) d).load ≡ Word q k value
    → has_row r (record_of a (reverse (take left log))).rows ≡ has_row r (record_of a (reverse (take (left - 1) log))).rows
skip_word r a q k value left log d up le by is =
    let before = record_of a (reverse (take (left - 1) log)) in
    ap (λ (x : Record). has_row r x.rows) (last_load a left log d up le by ∙ ap (λ (load : Load). recorded load before) is) ∙ has_row_word r q k value before.rows

pub skip_count : (r a n left : ℕ) (log : List Loaded) (d : Loaded) → 0 < left → left ≤ length log → (get_or log (left - 1) d).actor ≡ a → (get_or log (left - 1) d).load ≡ Count n
    → has_row r (record_of a (reverse (take left log))).rows ≡ has_row r (record_of a (reverse (take (left - 1) log))).rows
skip_count r a n left log d up le by is =
    let before = record_of a (reverse (take (left - 1) log)) in
    ap (λ (x : Record). has_row r x.rows) (last_load a left log d up le by ∙ ap (λ (load : Load). recorded load before) is)

pub skip_again : (r a q s left : ℕ) (log : List Loaded) (d : Loaded) → 0 < left → left ≤ length log → (get_or log (left - 1) d).actor ≡ a → (get_or log (left - 1) d).load ≡ Again q s
    → record_of a (reverse (take left log)) ≡ record_of a (reverse (take (left - 1) log))
skip_again r a q s left log d up le by is =
    let before = record_of a (reverse (take (left - 1) log)) in
    last_load a left log d up le by ∙ ap (λ (load : Load). recorded load before) is

pub skip_closed : (a q k value left : ℕ) (log : List Loaded) (d : Loaded) → 0 < left → left ≤ length log → (get_or log (left - 1) d).actor ≡ a → (get_or log (left - 1) d).load ≡ Word q k value
    → is_closed (record_of a (reverse (take left log))) ≡ is_closed (record_of a (reverse (take (left - 1) log)))
skip_closed a q k value left log d up le by is =
    let before = record_of a (reverse (take (left - 1) log)) in
    ap is_closed (last_load a left log d up le by ∙ ap (λ (load : Load). recorded load before) is)

-- where a row among the first isn't good, not all are
module _ {E : Type 0} (test : List E → List ℕ → Bool) (h : List E) (stamps : List ℕ) (rows : List (List ℕ)) where
  pub one_bad : (n m : ℕ) → n < m → slice_index_or stamps n 0 ≢ 0 → test h (slice_index_or rows n []) ≡ false → rows_good test h stamps rows m ≡ false
  one_bad n zero lt current bad = absurd (omega (arith, lt))
  one_bad n (suc m) lt current bad = dite (ℕ_discrete n m)
      (λ e. subst (λ (k : ℕ). rows_good test h stamps rows (suc k) ≡ false) e (rw (ne_eqb (slice_index_or stamps n 0) 0 current, bad) (and-false (rows_good test h stamps rows n))))
      (λ ne. rw (one_bad n m (omega (arith, lt, ne)) current bad) refl)
