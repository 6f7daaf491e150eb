-- The words of a row, one after another.
use Rattle.std.proofs.Common.{◌≡◌, ℕ, zero, suc, ◌+◌, ◌*◌, ◌-◌, ◌<◌, ◌≤◌, Bool, true, false, if◌then◌else◌, List, [], ◌∷◌, ◌++◌, length, take, drop, replicate, refl, ap, sym, ◌∙◌, subst, arith, set, get_or, length-set, get_or-set_same, length-append, length-drop}
use Rattle.std.proofs.lemmas.List.{set-get_or, append-nil, drop_all, length-take-le, length-replicate}
use Rattle.std.proofs.Math.Seq.{take-suc-set}
use Rattle.atomic_table.specs.Table.{Me}
use Rattle.vsw_table.specs.declared.view.View.{View}
use Rattle.vsw_table.specs.Places.{table_size, stamp_place, word_place}
use Rattle.vsw_table.specs.Rules.{stamp_at, row_at, HasRows, first_view, spent, lent, granted, advanced, writer_of, pass_of, counted_record}
use Rattle.vsw_table.specs.Steps.{with_word, shaken, restamped, StandsAt}
use Rattle.vsw_table.specs.Held.{IsWriter, IsPass, after_entry, renewed, has_stamps, put_in}
use Rattle.vsw_table.proofs.Words.{wide_at, wide_set, wide_of, set_twice}

-- a row of which the first k words are written
abbrev pub mixed : ℕ → List ℕ → List ℕ → List ℕ
mixed k words old = take k words ++ drop k old

mixed_next : (k : ℕ) (words old : List ℕ) → k < length words → k < length old → set (take k words ++ drop k old) k (get_or words k 0) ≡ take (suc k) words ++ drop (suc k) old
mixed_next k [] old lt lt' = absurd (omega (arith, lt))
mixed_next k (w ∷ ws) [] lt lt' = absurd (omega (arith, lt'))
mixed_next zero (w ∷ ws) (x ∷ xs) lt lt' = refl
mixed_next (suc k) (w ∷ ws) (x ∷ xs) lt lt' = ap (λ (l : List ℕ). w ∷ l) (mixed_next k ws xs (omega (arith, lt)) (omega (arith, lt')))

mixed_long : (k : ℕ) (words old : List ℕ) → k ≤ length words → length words ≡ length old → length (mixed k words old) ≡ length old
mixed_long k words old le same = omega (arith, length-append (take k words) (drop k old), length-take-le k words le, length-drop k old, same)

module _ {O E : Type 0} where
  pub put_first : (v : View O E) (r : ℕ) (words : List ℕ) → v ≡ record v { rows = set v.rows r (mixed 0 words (row_at v.rows r)) }
  put_first v r words = ap (λ (l : List (List ℕ)). record v { rows = l }) (sym (set-get_or v.rows r []))

  -- one more word is written
  pub put_next : (v : View O E) (r k : ℕ) (words : List ℕ) (m n : Me E (View O E)) → r < length v.rows → k < length words → length words ≡ length (row_at v.rows r)
      → m ≡ (record v { rows = set v.rows r (mixed k words (row_at v.rows r)) }, []) → n ≡ (with_word m.0 r k (get_or words k 0), []) → n ≡ (record v { rows = set v.rows r (mixed (suc k) words (row_at v.rows r)) }, [])
  put_next v r k words m n there lt same is next =
      let old = row_at v.rows r in
      let a : row_at (set v.rows r (mixed k words old)) r ≡ mixed k words old = get_or-set_same v.rows r (mixed k words old) [] there in
      let b : set (row_at (set v.rows r (mixed k words old)) r) k (get_or words k 0) ≡ mixed (suc k) words old = ap (λ (l : List ℕ). set l k (get_or words k 0)) a ∙ mixed_next k words old lt (omega (arith, lt, same)) in
      let c : set (set v.rows r (mixed k words old)) r (set (row_at (set v.rows r (mixed k words old)) r) k (get_or words k 0)) ≡ set v.rows r (mixed (suc k) words old) =
      ap (λ (l : List ℕ). set (set v.rows r (mixed k words old)) r l) b ∙ set_twice v.rows r (mixed k words old) (mixed (suc k) words old) in
      next ∙ (ap (λ (x : Me E (View O E)). (with_word x.0 r k (get_or words k 0), [])) is ∙ ap (λ (l : List (List ℕ)). (record v { rows = l }, [])) c)

  -- all words are written
  pub put_last : (v : View O E) (r k : ℕ) (words : List ℕ) (m : Me E (View O E)) → length words ≤ k → length (row_at v.rows r) ≤ k → m ≡ (record v { rows = set v.rows r (mixed k words (row_at v.rows r)) }, []) → m ≡ (record v { rows = set v.rows r words }, [])
  put_last v r k words m le le' is =
      let whole : take k words ≡ words = take_up k words le in
      let none : drop k (row_at v.rows r) ≡ [] = drop_all k (row_at v.rows r) le' in
      is ∙ ap (λ (l : List ℕ). (record v { rows = set v.rows r l }, [])) ((λ i. whole i ++ none i) ∙ append-nil words)
    where
      take_up : (k : ℕ) (xs : List ℕ) → length xs ≤ k → take k xs ≡ xs
      take_up zero [] h = refl
      take_up zero (x ∷ xs) h = absurd (omega (arith, h))
      take_up (suc k) [] h = refl
      take_up (suc k) (x ∷ xs) h = ap (λ (l : List ℕ). x ∷ l) (take_up k xs (omega (arith, h)))

  pub mixed_rows : (v : View O E) (n r k : ℕ) (words : List ℕ) → HasRows n v.stamps v.rows → r < n → length words ≡ 73 → k ≤ 73 → HasRows n v.stamps (set v.rows r (mixed k words (row_at v.rows r)))
  mixed_rows v n r k words h lt long le =
      let old : length (row_at v.rows r) ≡ 73 = wide_at v.rows r h.2 (omega (arith, lt, h.1)) in
      let row = mixed k words (row_at v.rows r) in
      (h.0, length-set v.rows r row ∙ h.1, wide_set v.rows r row h.2 (mixed_long k words (row_at v.rows r) (omega (arith, long, le)) (long ∙ sym old) ∙ old))

  -- what the writer finds where a stamp stands, and where a word does
  pub stamp_found : (t : View O E) (n r x place : ℕ) → HasRows n t.stamps t.rows → r < n → place ≡ stamp_place r → StandsAt t place x → x ≡ stamp_at t.stamps r
  stamp_found t n r x place h lt is at = at.stamp r (omega (arith, h.0, lt)) is

  pub word_found : (t : View O E) (n r k x place : ℕ) → HasRows n t.stamps t.rows → r < n → k < 73 → place ≡ word_place n r k → StandsAt t place x → x ≡ get_or (row_at t.rows r) k 0
  word_found t n r k x place h lt few is at = at.word r k (omega (arith, h.0, lt)) few (is ∙ ap (λ (m : ℕ). word_place m r k) (sym h.0))

  -- a word that stands there already
  pub word_same : (t : View O E) (n r k value place : ℕ) → HasRows n t.stamps t.rows → r < n → k < 73 → place ≡ word_place n r k → StandsAt t place value → with_word t r k value ≡ t
  word_same t n r k value place h lt few is at =
      let found : value ≡ get_or (row_at t.rows r) k 0 = word_found t n r k value place h lt few is at in
      let row : set (row_at t.rows r) k value ≡ row_at t.rows r = ap (λ (x : ℕ). set (row_at t.rows r) k x) found ∙ set-get_or (row_at t.rows r) k 0 in
      ap (λ (l : List (List ℕ)). record t { rows = l }) (ap (λ (l : List ℕ). set t.rows r l) row ∙ set-get_or t.rows r [])

  -- a stamp that is 0 already
  pub shaken_same : (t : View O E) (r : ℕ) → stamp_at t.stamps r ≡ 0 → shaken t r ≡ t
  shaken_same t r none_now = ap (λ (l : List ℕ). record t { stamps = l }) (ap (λ (x : ℕ). set t.stamps r x) (sym none_now) ∙ set-get_or t.stamps r 0)

  -- a stamp that was taken away is 0
  pub shaken_zero : (t : View O E) (r : ℕ) → r < length t.stamps → stamp_at (set t.stamps r 0) r ≡ 0
  shaken_zero t r lt = get_or-set_same t.stamps r 0 0 lt

  renewed_rows_if : (t : View O E) (n r : ℕ) (b : Bool) → HasRows n t.stamps t.rows → let u = if b then restamped t r else t in HasRows n u.stamps u.rows
  renewed_rows_if t n r true h = (length-set t.stamps r (t.given + 1) ∙ h.0, h.1, h.2)
  renewed_rows_if t n r false h = h

  pub renewed_rows : (t : View O E) (n r : ℕ) → HasRows n t.stamps t.rows → HasRows n (renewed t r).stamps (renewed t r).rows
  renewed_rows t n r h = renewed_rows_if t n r (has_stamps t) h

  renewed_rest_if : (t : View O E) (r : ℕ) (b : Bool) → IsWriter t → t.live ≡ true → let u = if b then restamped t r else t in IsWriter u × (u.live ≡ true)
  renewed_rest_if t r true w l = (w, l)
  renewed_rest_if t r false w l = (w, l)

  pub renewed_rest : (t : View O E) (r : ℕ) → IsWriter t → t.live ≡ true → IsWriter (renewed t r) × ((renewed t r).live ≡ true)
  renewed_rest t r w l = renewed_rest_if t r (has_stamps t) w l

  -- a row is put
  pub put_me : (t : View O E) (r : ℕ) (words : List ℕ) (a b d : Me E (View O E)) → a ≡ (shaken t r, []) → b ≡ (record a.0 { rows = set a.0.rows r words }, []) → d ≡ (renewed b.0 r, []) → d ≡ (put_in t r words, [])
  put_me t r words a b d first then_is last =
      let two : b ≡ (record (shaken t r) { rows = set t.rows r words }, []) = then_is ∙ ap (λ (x : Me E (View O E)). (record x.0 { rows = set x.0.rows r words }, [])) first in
      last ∙ ap (λ (x : Me E (View O E)). (renewed x.0 r, [])) two

  pub put_kept : (t : View O E) (n r : ℕ) (words : List ℕ) → IsWriter t → t.live ≡ true → HasRows n t.stamps t.rows → length words ≡ 73 → IsWriter (put_in t r words) × HasRows n (put_in t r words).stamps (put_in t r words).rows × ((put_in t r words).live ≡ true)
  put_kept t n r words w l h long =
      let u = record t { stamps = set t.stamps r 0; rows = set t.rows r words } in
      let rows : HasRows n u.stamps u.rows = (length-set t.stamps r 0 ∙ h.0, length-set t.rows r words ∙ h.1, wide_set t.rows r words h.2 long) in
      let rest = renewed_rest u r w l in
      (rest.0, renewed_rows u n r rows, rest.1)

  -- the writer of a new table
  pub first_desk : (o : O) (n : ℕ) (m : Me E (View O E)) (words : ℕ) → m ≡ (first_view o n, []) → words ≡ table_size n → n ≤ 16384 → IsWriter m.0 × (m.1 ≡ []) × HasRows n m.0.stamps m.0.rows × (words ≡ table_size n) × (n ≤ 16384) × (0 ≡ m.0.given) × (m.0.live ≡ true)
  first_desk o n m words is count few =
      let z : ℕ = 0 in
      subst (λ (x : Me E (View O E)). IsWriter x.0 × (x.1 ≡ []) × HasRows n x.0.stamps x.0.rows × (words ≡ table_size n) × (n ≤ 16384) × (0 ≡ x.0.given) × (x.0.live ≡ true)) (sym is)
      ((refl, refl, refl, refl, refl, refl, refl, refl, refl), refl, (length-replicate n z, length-replicate n (replicate 73 z), wide_of n (replicate 73 z) refl), count, few, refl, refl)

  -- what the writer's view is when it is whole again, and the pass's
  pub writer_met : (t p : View O E) (k : ℕ) → IsWriter t → writer_of (granted (lent t p) k) ≡ record t { kept = set t.kept p.number (p.permits + k) }
  writer_met t p k is = λ i. record t { kept = set t.kept p.number (p.permits + k); crosses = sym is.1 i; number = sym is.2 i; receipts = sym is.3 i; permits = sym is.4 i; front = sym is.5 i; told = sym is.6 i; last = sym is.7 i; looks = sym is.8 i }

  pub writer_again : (t p : View O E) (e : E) → IsWriter t → writer_of (advanced (granted (lent t p) 0) e) ≡ after_entry t p e
  writer_again t p e is =
      let k : set (set t.kept p.number (p.permits + 0)) p.number ((p.permits + 0) - 1) ≡ set t.kept p.number (p.permits - 1) = set_twice t.kept p.number (p.permits + 0) ((p.permits + 0) - 1) ∙ ap (λ (n : ℕ). set t.kept p.number n) (omega arith) in
      λ i. record (after_entry t p e) { kept = k i; crosses = sym is.1 i; number = sym is.2 i; receipts = sym is.3 i; permits = sym is.4 i; front = sym is.5 i; told = sym is.6 i; last = sym is.7 i; looks = sym is.8 i }

  pub pass_met : (t p : View O E) (k : ℕ) → IsPass p → t.opening ≡ p.opening → pass_of (granted (lent t p) k) ≡ record p { front = t.history; permits = p.permits + k; shown = counted_record t.history }
  pass_met t p k is o =
      let a : pass_of (granted (lent t p) k) ≡ record spent { live = true; crosses = true; number = p.number; receipts = p.receipts; permits = p.permits + k; front = t.history; opening = p.opening; shown = counted_record t.history; last = p.last; looks = p.looks } =
      λ i. record spent { live = true; crosses = ap (λ (u : View O E). u.crosses) is i; number = p.number; receipts = p.receipts; permits = p.permits + k; front = t.history; opening = o i; shown = counted_record t.history; last = p.last; looks = p.looks } in
      a ∙ sym (ap (λ (u : View O E). record u { front = t.history; permits = p.permits + k; shown = counted_record t.history }) is)

  pub pass_again : (t p : View O E) (e : E) → IsPass p → t.opening ≡ p.opening → pass_of (advanced (granted (lent t p) 0) e) ≡ record p { front = t.history ++ e ∷ []; receipts = p.receipts ++ e ∷ []; permits = p.permits - 1; shown = counted_record (t.history ++ e ∷ []) }
  pass_again t p e is o =
      let n : (p.permits + 0) - 1 ≡ p.permits - 1 = omega arith in
      let h = t.history ++ e ∷ [] in
      let a : pass_of (advanced (granted (lent t p) 0) e) ≡ record spent { live = true; crosses = true; number = p.number; receipts = p.receipts ++ e ∷ []; permits = p.permits - 1; front = h; opening = p.opening; shown = counted_record h; last = p.last; looks = p.looks } =
      λ i. record spent { live = true; crosses = ap (λ (u : View O E). u.crosses) is i; number = p.number; receipts = p.receipts ++ e ∷ []; permits = n i; front = h; opening = o i; shown = counted_record h; last = p.last; looks = p.looks } in
      a ∙ sym (ap (λ (u : View O E). record u { front = h; receipts = p.receipts ++ e ∷ []; permits = p.permits - 1; shown = counted_record h }) is)

pub cleared_next : (words : List ℕ) (i : ℕ) → i < length words → take i words ≡ replicate i 0 → take (i + 1) (set words i 0) ≡ replicate (i + 1) 0
cleared_next words i lt is =
    let n : suc i ≡ i + 1 = omega arith in
    subst (λ (m : ℕ). take m (set words i 0) ≡ replicate m 0) n (take-suc-set words i 0 lt ∙ (ap (λ (l : List ℕ). l ++ 0 ∷ []) is ∙ snoc_zero i))
  where
    snoc_zero : (n : ℕ) → let z : ℕ = 0 in replicate n z ++ z ∷ [] ≡ replicate (suc n) z
    snoc_zero zero = refl
    snoc_zero (suc n) = ap (λ (l : List ℕ). 0 ∷ l) (snoc_zero n)

pub first_length : (n : ℕ) (words : List ℕ) → (let z : ℕ = 0 in words ≡ 4294967296 ∷ replicate (13 + 74 * n) z) → length words ≡ table_size n
first_length n words is = let z : ℕ = 0 in let l : length (replicate (13 + 74 * n) z) ≡ 13 + 74 * n = length-replicate (13 + 74 * n) z in ap length is ∙ omega (arith, l)
