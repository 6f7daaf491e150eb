-- Words that are read one after another, and what one row that was tried tells.
use Rattle.std.proofs.Common.{◌≡◌, ◌≢◌, ℕ, zero, suc, ◌+◌, ◌%◌, ◌<◌, ◌≤◌, ◌==◌, ◌&&◌, Bool, true, false, if◌then◌else◌, Some, None, List, [], ◌∷◌, ◌++◌, length, take, get_or, set, ap, refl, sym, ◌∙◌, subst, arith, inl, inr, eq-eqb, ne_eqb, append_assoc, length-append, MatchBool}
use Rattle.std.proofs.lemmas.List.{append-nil}
use Rattle.std.proofs.Math.Seq.{take-length, take-suc-set}
use mathlib.Core.Logic.{dite}
use native.Mathlib.Decide.{ℕ_discrete}
use Rattle.atomic_table.specs.Table.{Me}
use Rattle.vsw_stamps.specs.declared.step.Load.TheVariants.{Again}
use Rattle.vsw_stamps.specs.declared.shown.Seen.{Seen}
use Rattle.vsw_stamps.specs.Machine.{Lookup, held, finished_by, is_closed, longer}
use Rattle.vsw_stamps.specs.Order.{front, word_at}
use Rattle.vsw_stamps.specs.Sound.{AreRight, Fills, IsRight, Has}
use Rattle.vsw_stamps.proofs.Whole.{all_good}
use Rattle.vsw_table.specs.declared.view.View.{View}
use Rattle.vsw_table.specs.declared.view.Tried.{Tried}
use Rattle.vsw_table.specs.Steps.{appended, numbered, grown, marked, stamped, worded, counted, ended, compared, Counted}
use Rattle.vsw_table.specs.Held.{HasTop, Differs, Found, IsMissed, Missed, IsRead}
use Rattle.vsw_table.proofs.Fronts.{prefix_trans}
use Rattle.vsw_table.proofs.Shows.{longer_nothing}

-- words with their places
numbered_long : (ns : List ℕ) (ws : List (ℕ × ℕ)) → length (numbered ns ws) ≡ length ws + length ns
numbered_long [] ws = omega arith
numbered_long (n ∷ ns) ws = let ih = numbered_long ns ((word_at (length ws), n) ∷ ws) in omega (arith, ih)

numbered_twice : (a b : List ℕ) (ws : List (ℕ × ℕ)) → numbered b (numbered a ws) ≡ numbered (a ++ b) ws
numbered_twice [] b ws = refl
numbered_twice (n ∷ a) b ws = numbered_twice a b ((word_at (length ws), n) ∷ ws)

stays_in : (ns : List ℕ) (ws : List (ℕ × ℕ)) (k value : ℕ) → Has k value ws → Has k value (numbered ns ws)
stays_in [] ws k value h = h
stays_in (n ∷ ns) ws k value h = stays_in ns ((word_at (length ws), n) ∷ ws) k value (inr h)

has_numbered : (ns : List ℕ) (ws : List (ℕ × ℕ)) (k : ℕ) → k < length ns → Has (word_at (length ws + k)) (get_or ns k 0) (numbered ns ws)
has_numbered [] ws k lt = absurd (omega (arith, lt))
has_numbered (n ∷ ns) ws zero lt = let at : length ws ≡ length ws + zero = omega arith in stays_in ns ((word_at (length ws), n) ∷ ws) (word_at (length ws + zero)) n (inl (ap word_at at, refl))
has_numbered (n ∷ ns) ws (suc k) lt =
    let at : suc (length ws) + k ≡ length ws + suc k = omega arith in
    subst (λ (j : ℕ). Has (word_at j) (get_or ns k 0) (numbered ns ((word_at (length ws), n) ∷ ws))) at (has_numbered ns ((word_at (length ws), n) ∷ ws) k (omega (arith, lt)))

pub numbered_has : (ns : List ℕ) (k : ℕ) → k < length ns → Has (word_at k) (get_or ns k 0) (numbered ns [])
numbered_has ns k lt = let at : 0 + k ≡ k = omega arith in subst (λ (j : ℕ). Has (word_at j) (get_or ns k 0) (numbered ns [])) at (has_numbered ns [] k lt)

appended_twice : (xs : List Tried) (a b : List ℕ) → appended (appended xs a) b ≡ appended xs (a ++ b)
appended_twice [] a b = refl
appended_twice (x ∷ xs) a b = λ i. record x { words = append_assoc x.words a b i } ∷ xs

appended_none : (xs : List Tried) → appended xs [] ≡ xs
appended_none [] = refl
appended_none (x ∷ xs) = λ i. record x { words = append-nil x.words i } ∷ xs

grown_twice : (xs : List Seen) (a b : List ℕ) → grown (grown xs a) b ≡ grown xs (a ++ b)
grown_twice [] a b = refl
grown_twice (x ∷ xs) a b = λ i. record x { words = numbered_twice a b x.words i } ∷ xs

grown_none : (xs : List Seen) → grown xs [] ≡ xs
grown_none [] = refl
grown_none (x ∷ xs) = refl

pub top_more : (xs : List Tried) (ys : List Seen) (row n : ℕ) (a : List ℕ) → HasTop xs ys row n → HasTop (appended xs a) (grown ys a) row (n + length a)
top_more [] ys row n a h = absurd h
top_more (x ∷ xs) [] row n a h = absurd h
top_more (x ∷ xs) (y ∷ ys) row n a h = (h.0, omega (arith, h.1, numbered_long a y.words))

take_long : (n : ℕ) (xs : List ℕ) → n ≤ length xs → length (take n xs) ≡ n
take_long zero [] h = refl
take_long zero (x ∷ xs) h = refl
take_long (suc n) [] h = absurd (omega (arith, h))
take_long (suc n) (x ∷ xs) h = ap suc (take_long n xs (omega (arith, h)))

-- so many of the words
pub top_taken : (xs : List Tried) (ys : List Seen) (row from i : ℕ) (words : List ℕ) → i ≤ length words → HasTop xs ys row from → HasTop (appended xs (take i words)) (grown ys (take i words)) row (from + i)
top_taken xs ys row from i words le h =
    let long : length (take i words) ≡ i = take_long i words le in
    subst (λ (k : ℕ). HasTop (appended xs (take i words)) (grown ys (take i words)) row (from + k)) long (top_more xs ys row from (take i words) h)

take_next : (i : ℕ) (xs : List ℕ) → i < length xs → take (suc i) xs ≡ take i xs ++ get_or xs i 0 ∷ []
take_next i [] lt = absurd (omega (arith, lt))
take_next zero (x ∷ xs) lt = refl
take_next (suc i) (x ∷ xs) lt = ap (λ (ys : List ℕ). x ∷ ys) (take_next i xs (omega (arith, lt)))

module _ {O E : Type 0} where
  pub worded_twice : (v : View O E) (a b : List ℕ) → worded (worded v a) b ≡ worded v (a ++ b)
  worded_twice v a b = λ i. record v { tried = appended_twice v.tried a b i; shown = record v.shown { rows = grown_twice v.shown.rows a b i } }

  pub worded_none : (v : View O E) → worded v [] ≡ v
  worded_none v = λ i. record v { tried = appended_none v.tried i; shown = record v.shown { rows = grown_none v.shown.rows i } }

  -- more words of the last row
  pub read_more : (v : View O E) (a b : List ℕ) (m n : Me E (View O E)) → m ≡ (worded v a, []) → n ≡ (worded m.0 b, []) → n ≡ (worded v (a ++ b), [])
  read_more v a b m n is next = next ∙ (ap (λ (x : Me E (View O E)). (worded x.0 b, [])) is ∙ ap (λ (x : View O E). (x, [])) (worded_twice v a b))

  -- one word more of a key, or of words that are read into a slice
  pub read_next : (v : View O E) (i r : ℕ) (words : List ℕ) (m n : Me E (View O E)) → i < length words → r ≡ get_or words i 0 → m ≡ (worded v (take i words), []) → n ≡ (worded m.0 (r ∷ []), []) → n ≡ (worded v (take (i + 1) words), [])
  read_next v i r words m n lt is at next =
      let up : suc i ≡ i + 1 = omega arith in
      let all : take i words ++ r ∷ [] ≡ take (i + 1) words = ap (λ (x : ℕ). take i words ++ x ∷ []) is ∙ (sym (take_next i words lt) ∙ ap (λ (k : ℕ). take k words) up) in
      read_more v (take i words) (r ∷ []) m n at next ∙ ap (λ (ws : List ℕ). (worded v ws, [])) all

  pub read_into : (v : View O E) (i r : ℕ) (words : List ℕ) (m n : Me E (View O E)) → i < length words → m ≡ (worded v (take i words), []) → n ≡ (worded m.0 (r ∷ []), []) → n ≡ (worded v (take (i + 1) (set words i r)), [])
  read_into v i r words m n lt at next =
      let up : suc i ≡ i + 1 = omega arith in
      let all : take i words ++ r ∷ [] ≡ take (i + 1) (set words i r) = sym (take-suc-set words i r lt) ∙ ap (λ (k : ℕ). take k (set words i r)) up in
      read_more v (take i words) (r ∷ []) m n at next ∙ ap (λ (ws : List ℕ). (worded v ws, [])) all

snoc_last : (xs : List ℕ) (n k : ℕ) → k ≡ length xs → get_or (xs ++ n ∷ []) k 0 ≡ n
snoc_last [] n zero h = refl
snoc_last [] n (suc k) h = absurd (omega (arith, h))
snoc_last (x ∷ xs) n zero h = absurd (omega (arith, h))
snoc_last (x ∷ xs) n (suc k) h = snoc_last xs n k (omega (arith, h))

-- the first word that differs
pub differs : (key : List ℕ) (i r : ℕ) → i < length key → r ≢ get_or key i 0 → (i < length (take i key ++ r ∷ [])) × (get_or (take i key ++ r ∷ []) i 0 ≢ get_or key i 0)
differs key i r h ne =
    let l : length (take i key) ≡ i = take_long i key (omega (arith, h)) in (
      omega (arith, l, length-append (take i key) (r ∷ [])),
      λ e. ne (sym (snoc_last (take i key) r i (sym l)) ∙ e),
    )

-- the lookup that a load of the same stamp again finishes
first_right : {E : Type 0} (good : List E → List ℕ → Type 0) (h : List E) (row stamp again c : ℕ) (ws : List (ℕ × ℕ)) (xs : List Seen) → stamp ≡ again → again ≢ 0
    → AreRight good h (finished_by (Again row again) (Some c) (record { row = row; stamp = stamp; words = ws } ∷ xs)) → IsRight good h (record { row = row; stamp = again; count = c; words = ws })
first_right {E} good h row stamp again c ws xs same live t =
    let x : Seen = record { row = row; stamp = stamp; words = ws } in
    let l : Lookup = record { row = row; stamp = again; count = c; words = ws } in
    let isnt : (again == 0) ≡ false = ne_eqb again 0 live in
    let is : ((row == row) && (stamp == again)) ≡ true = rw (eq-eqb row row refl, eq-eqb stamp again same) refl in
    let a : AreRight good h (held row again c (x ∷ xs)) = subst (λ (b : Bool). AreRight good h (if b then [] else held row again c (x ∷ xs))) isnt t in
    let d : AreRight good h (l ∷ held row again c xs) = subst (λ (b : Bool). AreRight good h (if b then l ∷ held row again c xs else held row again c xs)) is a in
    d.0

module _ {O E : Type 0} (v : View O E) (row stamp : ℕ) where
  -- a row whose words were read, if it is told so far
  abbrev told_by : List ℕ → View O E
  told_by ws = worded (stamped v row stamp) ws

  pub read_row : (ws : List ℕ) (a b : Me E (View O E)) → a ≡ (stamped v row stamp, []) → b ≡ (worded a.0 ws, []) → b ≡ (told_by ws, [])
  read_row ws a b is next = next ∙ ap (λ (x : Me E (View O E)). (worded x.0 ws, [])) is

  pub top_told : (ws : List ℕ) → HasTop (told_by ws).tried (told_by ws).shown.rows row (length ws)
  top_told ws = (refl, let long = numbered_long ws [] in omega (arith, long))

  -- its stamp is 0
  pub missed_zero : (key : List ℕ) (m : Me E (View O E)) → m ≡ (stamped v row stamp, []) → stamp ≡ 0 → (x : Tried) × (m.0.tried ≡ x ∷ v.tried) × IsMissed key row x
  missed_zero key m is zero_now = (record { row = row; stamp = stamp; words = []; again = None }, ap (λ (y : Me E (View O E)). y.0.tried) is, (refl, inl zero_now))

  -- its key is another
  pub missed_key : (key ws : List ℕ) (m : Me E (View O E)) → m ≡ (told_by ws, []) → Differs ws key → (x : Tried) × (m.0.tried ≡ x ∷ v.tried) × IsMissed key row x
  missed_key key ws m is differ = (record { row = row; stamp = stamp; words = ws; again = None }, ap (λ (y : Me E (View O E)). y.0.tried) is, (refl, inr (inl differ)))

  module _ (ws : List ℕ) (n : ℕ) (u w : View O E) (is : u ≡ told_by ws) (looks : Counted (λ x. x) u n w) where
    now : w ≡ counted (told_by ws) w.front (n % 4294967296)
    now = looks.same ∙ ap (λ (x : View O E). counted x w.front (n % 4294967296)) is

    pub opens_on : (o : O) → v.opening ≡ Some o → w.opening ≡ Some o
    opens_on o opens = ap (λ (x : View O E). x.opening) now ∙ opens

    pub counted_top : (k : ℕ) × HasTop w.tried w.shown.rows row k × (is_closed w.shown ≡ true)
    counted_top = subst (λ (x : View O E). (k : ℕ) × HasTop x.tried x.shown.rows row k × (is_closed x.shown ≡ true)) (sym now) (length ws, top_told ws, refl)

    -- its stamp was another afterwards
    pub missed_again : (key : List ℕ) (again : ℕ) (m : Me E (View O E)) → m ≡ (compared w again, []) → again ≢ stamp → (x : Tried) × (m.0.tried ≡ x ∷ v.tried) × IsMissed key row x
    missed_again key again m next differ =
        let y : View O E = counted (told_by ws) w.front (n % 4294967296) in
        let isnt : (stamp == again) ≡ false = ne_eqb stamp again (λ e. differ (sym e)) in
        let z : View O E = record y { tried = marked again y.tried } in
        let m_is : m ≡ (z, []) = next ∙ (ap (λ (x : View O E). (compared x again, [])) now ∙ ap (λ (b : Bool). ((if b then ended z else z), [])) isnt) in
        (record { row = row; stamp = stamp; words = ws; again = Some again }, ap (λ (y : Me E (View O E)). y.0.tried) m_is, (refl, inr (inr differ)))

    -- its stamp was the same: a hit
    hit_is : (again : ℕ) (m : Me E (View O E)) → m ≡ (compared w again, []) → again ≡ stamp
        → let y = counted (told_by ws) w.front (n % 4294967296) in m ≡ (ended (record y { tried = marked again y.tried }), [])
    hit_is again m next same =
        let y : View O E = counted (told_by ws) w.front (n % 4294967296) in
        let z : View O E = record y { tried = marked again y.tried } in
        let is_it : (stamp == again) ≡ true = eq-eqb stamp again (sym same) in
        next ∙ (ap (λ (x : View O E). (compared x again, [])) now ∙ ap (λ (b : Bool). ((if b then ended z else z), [])) is_it)

    pub hit_seen : (again : ℕ) (m : Me E (View O E)) → m ≡ (compared w again, []) → again ≡ stamp → (length m.0.front ≡ n % 4294967296) × (m.0.tried ≡ [])
    hit_seen again m next same = (ap (λ (x : Me E (View O E)). length x.0.front) (hit_is again m next same) ∙ looks.count, ap (λ (x : Me E (View O E)). x.0.tried) (hit_is again m next same))

    pub hit_found : (used : List ℕ → ℕ) (whole : List ℕ) (again : ℕ) (m : Me E (View O E)) → m ≡ (compared w again, []) → again ≡ stamp → stamp ≢ 0 → Fills used ws whole → (v.looks < m.0.looks) × Found used whole row m.0.last
    hit_found used whole again m next same live fills =
        subst (λ (x : Me E (View O E)). (v.looks < x.0.looks) × Found used whole row x.0.last) (sym (hit_is again m next same)) (omega arith, inl (refl, live, ap Some same, fills))

    pub hit_good : (good : List E → List ℕ → Type 0) (used : List ℕ → ℕ) → ((h : List E) (r : List ℕ) → length r ≡ 73 → good h r → (turn : ℕ) → used (front r) ≤ turn → turn < 73 → get_or r (word_at turn) 0 ≡ 0)
        → (whole : List ℕ) (again : ℕ) (m : Me E (View O E)) → m ≡ (compared w again, []) → again ≡ stamp → stamp ≢ 0 → Fills used ws whole
        → AreRight good (longer w.front w.told) (finished_by (Again row again) w.shown.count w.shown.rows) → good m.0.front whole
    hit_good good used zeros whole again m next same live fills right =
        let c = n % 4294967296 in
        let y : View O E = counted (told_by ws) w.front c in
        let l : Lookup = record { row = row; stamp = again; count = c; words = numbered ws [] } in
        let there : AreRight good (longer w.front []) (finished_by (Again row again) (Some c) y.shown.rows) = subst (λ (x : View O E). AreRight good (longer w.front x.told) (finished_by (Again row again) x.shown.count x.shown.rows)) now right in
        let seen : AreRight good w.front (finished_by (Again row again) (Some c) y.shown.rows) = subst (λ (h : List E). AreRight good h (finished_by (Again row again) (Some c) y.shown.rows)) (longer_nothing good w.front) there in
        let one : IsRight good w.front l = first_right good w.front row stamp again c (numbered ws []) _ (sym same) (λ e. live (sym same ∙ e)) seen in
        let all = all_good good used zeros w.front (l ∷ []) (one, tt) in
        let now_good : good (take c w.front) whole = all.0 whole (ws, fills, numbered_has ws) in
        let front : take c w.front ≡ w.front = ap (λ (k : ℕ). take k w.front) (sym looks.count) ∙ take-length w.front in
        let m_front : m.0.front ≡ w.front = ap (λ (x : Me E (View O E)). x.0.front) (hit_is again m next same) in
        subst (λ (h : List E). good h whole) (sym m_front) (subst (λ (h : List E). good h whole) front now_good)

pub read_trans : {O E : Type 0} (u v w : View O E) → IsRead u v → IsRead v w → IsRead u w
read_trans {O} {E} u v w a b =
    (b.0 ∙ ap (λ (x : View O E). record x { front = w.front; shown = w.shown; tried = w.tried; last = w.last; looks = w.looks }) a.0, prefix_trans u.front v.front w.front a.1 b.1, omega (arith, a.2, b.2))

-- one row more was missed
pub missed_next : {O E : Type 0} (key : List ℕ) (rows slot i : ℕ) (v w : View O E) → ((j : ℕ) → j < i → Missed key ((slot + j) % rows) v.tried) → ((x : Tried) × (w.tried ≡ x ∷ v.tried) × IsMissed key ((slot + i) % rows) x)
    → (j : ℕ) → j < i + 1 → Missed key ((slot + j) % rows) w.tried
missed_next {O} {E} key rows slot i v w before one j lt =
    subst (λ (xs : List Tried). Missed key ((slot + j) % rows) xs) (sym one.1)
    (dite (ℕ_discrete j i) (λ e. inl (subst (λ (k : ℕ). IsMissed key ((slot + k) % rows) one.0) (sym e) one.2)) (λ ne. inr (before j (omega (arith, lt, ne)))))

-- the end of a look that found nothing
pub ended_last : {O E : Type 0} (v : View O E) (n : ℕ) (w : View O E) → Counted ended v n w → w.last ≡ v.tried
ended_last {O} {E} v n w looks = ap (λ (x : View O E). x.last) looks.same

pub not_so : (A B : Type 0) (b : Bool) → b ≡ false → MatchBool b A B → B
not_so A B false p h = h
not_so A B true p h = absurd (cc p)
