-- A lookup that holds all words in use of a row tells the whole row.
use Rattle.std.proofs.Common.{◌≡◌, ℕ, zero, suc, ◌<◌, ◌≤◌, nat_lt, Bool, true, false, List, [], ◌∷◌, length, take, refl, ap, sym, ◌∙◌, subst, arith, ⊎_elim, get_or}
use Rattle.std.proofs.lemmas.Grind.{common_steps}
use Rattle.std.proofs.lemmas.List.{ext_get_or}
use Rattle.vsw_stamps.specs.Machine.{Lookup}
use Rattle.vsw_stamps.specs.Order.{front, turn_of, word_at}
use Rattle.vsw_stamps.specs.Sound.{AreOf, IsRight, AreRight, Has, Tells, AllGood}
use Rattle.vsw_stamps.proofs.Turns.{front_is, turn_inside, turn_of_word}

-- a word that stands in a lookup is the row's
has_is : (row : List ℕ) (k value : ℕ) (ws : List (ℕ × ℕ)) → AreOf row ws → Has k value ws → get_or row k 0 ≡ value
has_is row k value [] are h = absurd h
has_is row k value (w ∷ ws) are h = ⊎_elim (λ (e : (w.0 ≡ k) × (w.1 ≡ value)). ap (λ (j : ℕ). get_or row j 0) (sym e.0) ∙ (are.0 ∙ e.1)) (λ (h : Has k value ws). has_is row k value ws are.1 h) h

none_beyond : (xs : List ℕ) (k : ℕ) → length xs ≤ k → get_or xs k 0 ≡ 0
none_beyond [] k le = refl
none_beyond (x ∷ xs) zero le = absurd (omega (arith, le))
none_beyond (x ∷ xs) (suc k) le = none_beyond xs k (omega (arith, le))

-- words that were loaded are the row's, and the row is 0 beyond them
loaded_or_not : (words there : List ℕ) (n : ℕ) → ((turn : ℕ) → n ≤ turn → turn < 73 → get_or there (word_at turn) 0 ≡ 0) → ((turn : ℕ) → turn < n → get_or there (word_at turn) 0 ≡ get_or words turn 0) → length words ≡ n
    → (turn : ℕ) → turn < 73 → get_or there (word_at turn) 0 ≡ get_or words turn 0
loaded_or_not words there n zero_there loaded is turn lt =
    by_part (nat_lt turn n) refl
  where
    by_part : (b : Bool) → nat_lt turn n ≡ b → get_or there (word_at turn) 0 ≡ get_or words turn 0
    by_part true e = loaded turn (grind (arith, common_steps))
    by_part false e = let le : n ≤ turn = grind (arith, common_steps) in zero_there turn le lt ∙ sym (none_beyond words turn (omega (arith, is, le)))

module _ {E : Type 0} (good : List E → List ℕ → Type 0) (used : List ℕ → ℕ)
    (zeros : (h : List E) (row : List ℕ) → length row ≡ 73 → good h row → (turn : ℕ) → used (front row) ≤ turn → turn < 73 → get_or row (word_at turn) 0 ≡ 0) where
  tells_good : (h : List E) (l : Lookup) (row : List ℕ) → IsRight good h l → Tells used l row → good (take l.count h) row
  tells_good h l row right tells =
      let there = right.1.0 in
      let wide = right.1.1 in
      let words = tells.0 in
      let fills = tells.1 in
      let n = length words in
      let loaded : (turn : ℕ) → turn < n → get_or there (word_at turn) 0 ≡ get_or words turn 0 = λ turn lt. has_is there (word_at turn) (get_or words turn 0) l.words right.1.2 (tells.2 turn lt) in
      let few : used (front there) ≤ n = subst (λ ws. used ws ≤ n) (sym (front_is there words fills.0 (λ turn lt. loaded turn (omega (arith, lt, fills.0))))) fills.2 in
      let same : (turn : ℕ) → turn < 73 → get_or there (word_at turn) 0 ≡ get_or row (word_at turn) 0 = λ turn lt. loaded_or_not words there n (λ t le lt. zeros (take l.count h) there wide right.1.3 t (omega (arith, few, le)) lt) (λ t lt. loaded t lt) refl turn lt ∙ sym (fills.4 turn lt) in
      let whole : there ≡ row = ext_get_or 0 there row (wide ∙ sym fills.3)
      (λ k lt. let few : k < 73 = omega (arith, lt, wide) in subst (λ (j : ℕ). get_or there j 0 ≡ get_or row j 0) (turn_of_word k few) (same (turn_of k) (turn_inside k few))) in
      subst (λ (ws : List ℕ). good (take l.count h) ws) whole right.1.3

  pub all_good : (h : List E) (ls : List Lookup) → AreRight good h ls → AllGood good used h ls
  all_good h [] t = tt
  all_good h (l ∷ ls) t = ((λ row tells. tells_good h l row t.0 tells), all_good h ls t.1)
