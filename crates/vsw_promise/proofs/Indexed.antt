-- Entries in order are the index of the commands that they are of.
use Rattle.std.proofs.Common.{◌≡◌, ◌==◌, ℕ, suc, Bool, true, false, cond, List, [], ◌∷◌, ◌++◌, map, filter, length, Some, refl, sym, subst, ◌∙◌, ap, arith, append_assoc, length-append}
use Rattle.std.specs.List.{slice_get, list_any}
use Rattle.std.specs.List.Sorted.{IsPermutation, IsNonDecreasing, IsNonDecreasingBy}
use Rattle.std.proofs.lemmas.List.{length-map}
use Rattle.std.proofs.Math.ListN.{get_or-map}
use Rattle.std.proofs.lemmas.List.Sorted.{IsPermutation-map, list_any-IsPermutation}
use Rattle.vsw_commandfile.specs.declared.line.Line.{Line}
use Rattle.vsw_promise.specs.Index.{entries_from, IsIndex}
use Rattle.vsw_promise.specs.declared.schedule.Entry.{Entry}
use Rattle.vsw_promise.proofs.Beside.{beside_is}
use Rattle.vsw_promise.proofs.Counts.{ascends}
use Rattle.vsw_promise.proofs.First.{first_from}

stands : (front : List Line) (l : Line) (ls : List Line) → slice_get (front ++ l ∷ ls) (length front) ≡ Some l
stands [] l ls = refl
stands (x ∷ front) l ls = stands front l ls

-- at the places of a packet's entries stand its commands
found : (whole front ls : List Line) (k n : ℕ) → whole ≡ front ++ ls → k ≡ length front
    → map (λ place. slice_get whole place) (map (λ (e : Entry). e.place) (filter (λ (e : Entry). e.at == n) (entries_from k ls))) ≡ map (λ (l : Line). Some l) (filter (λ (l : Line). l.at == n) ls)
found whole front [] k n w e = refl
found whole front (l ∷ ls) k n w e =
    by (l.at == n) (found whole (front ++ l ∷ []) ls (suc k) n (w ∙ sym (append_assoc front (l ∷ []) ls)) (omega (arith, length-append front (l ∷ []))))
  where
    by : (b : Bool) → map (λ place. slice_get whole place) (map (λ (e : Entry). e.place) (filter (λ (e : Entry). e.at == n) (entries_from (suc k) ls))) ≡ map (λ (l : Line). Some l) (filter (λ (l : Line). l.at == n) ls)
        → map (λ place. slice_get whole place) (map (λ (e : Entry). e.place) (cond b (record { at = l.at; place = k } ∷ filter (λ (e : Entry). e.at == n) (entries_from (suc k) ls)) (filter (λ (e : Entry). e.at == n) (entries_from (suc k) ls))))
        ≡ map (λ (l : Line). Some l) (cond b (l ∷ filter (λ (l : Line). l.at == n) ls) (filter (λ (l : Line). l.at == n) ls))
    by true h = let here : slice_get whole k ≡ Some l = rw (w, e) (stands front l ls) in cc
    by false h = h

packets : (k : ℕ) (ls : List Line) → map (λ (e : Entry). e.at) (entries_from k ls) ≡ map (λ (l : Line). l.at) ls
packets k [] = refl
packets k (l ∷ ls) = ap (λ (t : List ℕ). l.at ∷ t) (packets (suc k) ls)

sorted : (es : List Entry) → IsNonDecreasingBy (λ (e : Entry). e.at) es → IsNonDecreasing (map (λ (e : Entry). e.at) es)
sorted es h i j d a b =
    let none : Entry = record { at = d; place = 0 } in
    rw (get_or-map (λ (e : Entry). e.at) es i none, get_or-map (λ (e : Entry). e.at) es j none) (h i j none a (omega (arith, length-map es (λ (e : Entry). e.at))))

index : (lines : List Line) (es : List Entry) → IsPermutation (entries_from 0 lines) es → IsNonDecreasingBy (λ (e : Entry). e.at) es
    → ((n : ℕ) → filter (λ (e : Entry). e.at == n) es ≡ filter (λ (e : Entry). e.at == n) (entries_from 0 lines))
    → IsIndex lines (map (λ (e : Entry). e.at) es) (map (λ (e : Entry). e.place) es)
index lines es moved up stable =
    let rises = ascends (map (λ (e : Entry). e.at) es) (sorted es up) in
    record {
      sorted = sorted es up;
      long = length-map es (λ (e : Entry). e.place) ∙ sym (length-map es (λ (e : Entry). e.at));
      commands = λ n. ap (map (λ place. slice_get lines place)) (beside_is n es rises ∙ ap (map (λ (e : Entry). e.place)) (stable n)) ∙ found lines [] lines 0 n refl refl;
      next = λ low. first_from low (map (λ (e : Entry). e.at) es) (map (λ (l : Line). l.at) lines) rises
          (λ p. sym (list_any-IsPermutation p _ _ (IsPermutation-map (λ (e : Entry). e.at) _ _ moved)) ∙ ap (list_any p) (packets 0 lines));
    }

-- the same of the columns that the code makes
pub index_of : (lines : List Line) (old es : List Entry) (firsts places : List ℕ) → old ≡ entries_from 0 lines → firsts ≡ map (λ (e : Entry). e.at) es → places ≡ map (λ (e : Entry). e.place) es
    → IsPermutation old es → IsNonDecreasingBy (λ (e : Entry). e.at) es → ((n : ℕ) → filter (λ (e : Entry). e.at == n) es ≡ filter (λ (e : Entry). e.at == n) old)
    → IsIndex lines firsts places
index_of lines old es firsts places o f p moved up stable =
    let P : List Entry → Type 0 = λ xs. IsPermutation xs es × ((n : ℕ) → filter (λ (e : Entry). e.at == n) es ≡ filter (λ (e : Entry). e.at == n) xs) in
    let given = subst P o (moved, stable) in
    rw (f, p) (index lines es given.0 up given.1)
