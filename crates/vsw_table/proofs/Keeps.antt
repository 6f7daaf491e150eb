-- Each kind of step keeps the rule, and tells what it promises.
use Rattle.std.proofs.Common.{◌≡◌, ◌≢◌, ℕ, ◌+◌, ◌*◌, ◌%◌, max, ◌<◌, ◌≤◌, ◌==◌, Bool, true, false, if◌then◌else◌, List, [], ◌∷◌, ◌++◌, length, refl, ap, sym, ◌∙◌, subst, arith, slice_set, slice_index, set, get_or, replicate, eq-eqb, Some, None}
use mathlib.Core.List.{IsPrefix}
use mathlib.Core.Option.{some, none, some-injective}
use lib.ListN.{get_elem?}
use prog.Atomic.{either}
use Rattle.atomic_table.specs.Table.{State, keeps, step, Allows, Splits, Joins}
use Rattle.atomic_table.proofs.Lists.{set_again, set_else}
use Rattle.vsw_stamps.specs.declared.shown.Seen.{Seen}
use Rattle.vsw_stamps.specs.declared.step.Load.TheVariants.{Word, Count, Again}
use Rattle.vsw_stamps.specs.Machine.{has_row, with_word, is_closed, recorded, finished_by, longer, actor_at}
use Rattle.vsw_stamps.specs.Sound.{AreRight}
use Rattle.vsw_table.specs.declared.view.View.{View}
use Rattle.vsw_table.specs.declared.view.Tried.{Tried}
use Rattle.vsw_stamps.specs.Order.{word_at}
use Rattle.vsw_stamps.proofs.Turns.{word_inside}
use Rattle.vsw_table.specs.Places.{stamp_place, turn_place, word_place}
use Rattle.vsw_table.specs.Rules.{IsKept, IsShown, IsManned, IsOf, IsLaid, first_view, spent, noted, informed, moved, lent, writer_of, pass_of, granted, advanced, one_more, newcomer, stamp_at, row_at}
use Rattle.vsw_table.specs.Steps as steps
use Rattle.vsw_table.specs.Held.{HasTop}
use Rattle.vsw_table.proofs.Words.{at_turn, word_apart, laid_first}
use Rattle.vsw_table.proofs.Shows as shows
use Rattle.vsw_table.proofs.Manned as mans

-- the row whose stamp was loaded last is recorded
has_top : (xs : List Tried) (ys : List Seen) (row n : ℕ) → HasTop xs ys row n → has_row row ys ≡ true
has_top [] ys row n h = absurd h
has_top (x ∷ xs) [] row n h = absurd h
has_top (x ∷ xs) (y ∷ ys) row n h = rw (eq-eqb y.row row h.0) refl

-- its next word goes to it
word_on : (xs : List Tried) (ys : List Seen) (row n x : ℕ) → HasTop xs ys row n → with_word row (word_at n) x ys ≡ steps.grown ys (x ∷ [])
word_on [] ys row n x h = absurd h
word_on (a ∷ xs) [] row n x h = absurd h
word_on (a ∷ xs) (y ∷ ys) row n x h = rw (eq-eqb y.row row h.0) (ap (λ (k : ℕ). record y { words = (word_at k, x) ∷ y.words } ∷ ys) (sym h.1))

module _ {O E : Type 0} (who : O → E → ℕ) (good : O → List E → List ℕ → Type 0) (o : O) (size : ℕ) where
  abbrev V : Type 0
  V = View O E

  abbrev St : Type 0
  St = State E V

  abbrev Kept : St → Type 0
  Kept s = IsKept who good o size s

  abbrev Both : St → ℕ → V → Type 0
  Both s seat t = IsShown (good o) size seat s × IsManned who o seat t s.views

  abbrev is_kept : (s : St) (seat : ℕ) (t : V) → Both s seat t → Kept s
  is_kept s seat t b = record { seat = seat; truth = t; shown = b.0; manned = b.1 }

  -- the rule, as the writer sees it
  as_writer : (s : St) (k : Kept s) (id : ℕ) (v : V) → get_elem? s.views id ≡ some v → v.writes ≡ true → Both s id v
  as_writer s k id v at w =
      let is : id ≡ k.seat = k.shown.alone id v at w in
      let same : v ≡ k.truth = mans.as_writer who o k.seat k.truth v s.views id k.manned is at in
      subst (λ (i : ℕ). Both s i v) (sym is) (k.shown, subst (λ (u : V). IsManned who o k.seat u s.views) (sym same) k.manned)

  -- a pass's step: the machine's part, and the same pass
  by_pass : (s : St) (k : Kept s) (id : ℕ) (v w : V) (ws : List ℕ) → get_elem? s.views id ≡ some v → v.writes ≡ false → w.crosses ≡ v.crosses → w.number ≡ v.number → w.receipts ≡ v.receipts → w.permits ≡ v.permits → w.opening ≡ v.opening
      → IsShown (good o) size k.seat (record { words = ws; homes = s.homes; views = set s.views id w }) → Kept (record { words = ws; homes = s.homes; views = set s.views id w })
  by_pass s k id v w ws at idle crosses number receipts permits opening shown =
      is_kept (record { words = ws; homes = s.homes; views = set s.views id w }) k.seat k.truth (shown, mans.reads who o k.seat k.truth s.views k.manned id v w at idle crosses number receipts permits opening)

  -- a stamp's place is one row's
  one_stamp : (r q i : ℕ) → i ≡ stamp_place r → i ≡ stamp_place q → r ≡ q
  one_stamp r q i is is' = omega (arith, is, is')

  pub reads_stamp : (slots id : ℕ) (v : V) (r i : ℕ) → v.live ≡ true → v.writes ≡ false → r < size → i ≡ stamp_place r → Allows (λ s. Kept s) slots id (v, []) i (λ n. n) (steps.Stamped (step slots i 0 0 none) (v, []))
  reads_stamp slots id v r i live idle there is s k wide at small =
      let x = slice_index s.words i in
      let w = steps.stamped v r x in
      let shown = shows.reads_stamp (good o) size k.seat s k.shown id v w r i at live idle there is refl refl refl refl refl in
      (w, keeps, tt, by_pass s k id v w (slice_set s.words i x) at idle refl refl refl refl refl shown, λ q is'. ap (λ (a : ℕ). (steps.stamped v a x, [])) (one_stamp r q i is is'))

  pub reads_word : (slots id : ℕ) (v : V) (row turn i : ℕ) → v.live ≡ true → v.writes ≡ false → HasTop v.tried v.shown.rows row turn → row < size → turn < 73 → is_closed v.shown ≡ false → i ≡ turn_place size row turn
      → Allows (λ s. Kept s) slots id (v, []) i (λ n. n) (steps.Reads (step slots i 0 0 none) (v, []))
  reads_word slots id v row turn i live idle top there few is_open is s k wide at small =
      let x = slice_index s.words i in
      let w = steps.worded v (x ∷ []) in
      let more : w.shown ≡ recorded (Word row (word_at turn) x) v.shown = ap (λ (ys : List Seen). record v.shown { rows = ys }) (sym (word_on v.tried v.shown.rows row turn x top)) in
      let shown = shows.reads_word (good o) size k.seat s k.shown id v w row (word_at turn) i at live idle there (word_inside turn few) is_open (has_top v.tried v.shown.rows row turn top) (at_turn size row turn i few is) refl refl refl refl more in
      (w, keeps, tt, by_pass s k id v w (slice_set s.words i x) at idle refl refl refl refl refl shown, refl)

  -- a load of word 0, after which the view may be that of a look which ended
  looks_by : (then_is : V → V) → ((v : V) → (then_is v).live ≡ v.live) → ((v : V) → (then_is v).writes ≡ v.writes) → ((v : V) → (then_is v).front ≡ v.front) → ((v : V) → (then_is v).told ≡ v.told) → ((v : V) → (then_is v).shown ≡ v.shown)
      → ((v : V) → (then_is v).crosses ≡ v.crosses) → ((v : V) → (then_is v).number ≡ v.number) → ((v : V) → (then_is v).receipts ≡ v.receipts) → ((v : V) → (then_is v).permits ≡ v.permits) → ((v : V) → (then_is v).opening ≡ v.opening)
      → (slots id : ℕ) (v : V) → v.live ≡ true → v.writes ≡ false → Allows (λ s. Kept s) slots id (v, []) 0 (λ n. n) (λ n w. (w.1 ≡ []) × steps.Counted then_is v n w.0)
  looks_by then_is l wr fr to sh cr nu re pe op slots id v live idle s k wide at small =
      let m = k.shown.machine in
      let h = m.history in
      let few = (shows.sound_of (good o) size k.seat s k.shown).short in
      let n = slice_index s.words 0 in
      let word : n ≡ 4294967296 + length h = k.shown.words.count in
      let x : n % 4294967296 ≡ length h = omega (arith, word, few) in
      let u = steps.counted v h (n % 4294967296) in
      let w = then_is u in
      let shown_is : w.shown ≡ recorded (Count (length h)) v.shown = sh u ∙ ap (λ (c : ℕ). recorded (Count c) v.shown) x in
      let shown = shows.looks (good o) size k.seat s k.shown id v w at live (l u ∙ live) idle (wr u ∙ idle) (fr u) (to u) shown_is in
      let kept : Kept (record { words = s.words; homes = s.homes; views = set s.views id w }) = by_pass s k id v w s.words at idle (cr u) (nu u) (re u) (pe u) (op u) shown in
      let begins = (k.shown.each id v at).begins live in
      let front : w.front ≡ h = fr u in (
        w,
        keeps,
        tt,
        subst (λ (ws : List ℕ). Kept (record { words = ws; homes = s.homes; views = set s.views id w })) (sym (shows.same_word (good o) size k.seat s 0)) kept,
        (
          refl,
          record {
            same = ap (λ (f : List E). then_is (steps.counted v f (n % 4294967296))) (sym front);
            later = subst (λ (f : List E). IsPrefix v.front f) (sym front) begins.0;
            told = subst (λ (f : List E). IsPrefix v.told f) (sym front) begins.1;
            count = ap length front ∙ sym x;
          },
        ),
      )

  pub counts : (slots id : ℕ) (v : V) → v.live ≡ true → v.writes ≡ false → Allows (λ s. Kept s) slots id (v, []) 0 (λ n. n) (steps.Counts (step slots 0 0 0 none) (v, []))
  counts = looks_by (λ u. u) (λ v. refl) (λ v. refl) (λ v. refl) (λ v. refl) (λ v. refl) (λ v. refl) (λ v. refl) (λ v. refl) (λ v. refl) (λ v. refl)

  pub ends : (slots id : ℕ) (v : V) → v.live ≡ true → v.writes ≡ false → Allows (λ s. Kept s) slots id (v, []) 0 (λ n. n) (steps.Ends (step slots 0 0 0 none) (v, []))
  ends = looks_by steps.ended (λ v. refl) (λ v. refl) (λ v. refl) (λ v. refl) (λ v. refl) (λ v. refl) (λ v. refl) (λ v. refl) (λ v. refl) (λ v. refl)

  -- a load of a stamp again
  compares_by : (b : Bool) (v : V) (n : ℕ) → let u = record v { tried = steps.marked n v.tried } in let w = if b then steps.ended u else u in
      (w.live ≡ v.live) × (w.writes ≡ v.writes) × (w.front ≡ v.front) × (w.told ≡ v.told) × (w.shown ≡ v.shown) × (w.crosses ≡ v.crosses) × (w.number ≡ v.number) × (w.receipts ≡ v.receipts) × (w.permits ≡ v.permits) × (w.opening ≡ v.opening)
  compares_by true v n = (refl, refl, refl, refl, refl, refl, refl, refl, refl, refl)
  compares_by false v n = (refl, refl, refl, refl, refl, refl, refl, refl, refl, refl)

  pub compares : (slots id : ℕ) (v : V) (r j i : ℕ) → v.live ≡ true → v.writes ≡ false → v.crosses ≡ true → HasTop v.tried v.shown.rows r j → is_closed v.shown ≡ true → r < size → i ≡ stamp_place r
      → Allows (λ s. Kept s) slots id (v, []) i (λ n. n) (steps.Compares good (step slots i 0 0 none) (v, []))
  compares slots id v r j i live idle crosses top closed there is s k wide at small =
      let x = slice_index s.words i in
      let w = steps.compared v x in
      let e = compares_by (steps.is_same x v.tried) v x in
      let opens : v.opening ≡ Some o = (k.manned.each id v at).opens crosses ∙ k.manned.desk.opens in
      let both = shows.reads_again (good o) size k.seat s k.shown id v w r i at live idle there closed (has_top v.tried v.shown.rows r j top) is e.0 e.1 e.2 e.3 e.4 in (
        w,
        keeps,
        tt,
        by_pass s k id v w (slice_set s.words i x) at idle e.5 e.6 e.7 e.8 e.9 both.0,
        (
          refl,
          λ o' q is' at_row. let same : o ≡ o' = cc (opens, is') in
              subst (λ (a : O). AreRight (good a) (longer v.front v.told) (finished_by (Again q x) v.shown.count v.shown.rows)) same
              (subst (λ (a : ℕ). AreRight (good o) (longer v.front v.told) (finished_by (Again a x) v.shown.count v.shown.rows)) (one_stamp r q i is at_row) both.1),
        ),
      )

  -- the table's words tell what the writer keeps
  knows_words : (s : St) (id : ℕ) (v : V) → Both s id v → get_elem? s.views id ≡ some v → v.writes ≡ true → IsLaid size s.words (length v.history) v.stamps v.rows
  knows_words s id v b at w =
      let m = b.0.machine in
      let knows = (b.0.each id v at).knows w in
      subst (λ (h : List E). IsLaid size s.words (length h) v.stamps v.rows) (sym knows.3)
      (subst (λ (ss : List ℕ). IsLaid size s.words (length m.history) ss v.rows) (sym knows.1) (subst (λ (rs : List (List ℕ)). IsLaid size s.words (length m.history) m.stamps rs) (sym knows.2) b.0.words))

  -- it keeps a stamp for each row
  knows_many : (s : St) (id : ℕ) (v : V) → Both s id v → get_elem? s.views id ≡ some v → v.writes ≡ true → length v.stamps ≡ size
  knows_many s id v b at w = ap length ((b.0.each id v at).knows w).1 ∙ b.0.many

  stands_at : (t : V) (ws : List ℕ) (c i : ℕ) → IsLaid size ws c t.stamps t.rows → length t.stamps ≡ size → steps.StandsAt t i (get_or ws i 0)
  stands_at t ws c i laid many = record {
    stamp = λ r lt is. ap (λ (q : ℕ). get_or ws q 0) is ∙ laid.stamp r (omega (arith, lt, many));
    word = λ r k lt few is. ap (λ (q : ℕ). get_or ws q 0) (is ∙ ap (λ (m : ℕ). word_place m r k) many) ∙ laid.word r k (omega (arith, lt, many)) few;
  }

  is_short : (s : St) (id : ℕ) (v : V) → Both s id v → length v.history < 4294967295
  is_short s id v b = let few = mans.few_entries who o id v b.1.desk in omega (arith, few)

  -- the writer finds what it keeps
  pub finds : (slots id : ℕ) (t : V) (i : ℕ) → t.writes ≡ true → Allows (λ s. Kept s) slots id (t, []) i (λ n. n) (steps.Finds (step slots i 0 0 none) (t, []))
  finds slots id t i w s k wide at small =
      let b = as_writer s k id t at w in
      let again : record { words = slice_set s.words i (slice_index s.words i); homes = s.homes; views = slice_set s.views id t } ≡ s = λ j. record { words = shows.same_word (good o) size k.seat s i j; homes = s.homes; views = set_again s.views id t at j } in
      (t, keeps, tt, subst (λ (y : St). Kept y) (sym again) k, (refl, stands_at t s.words (length t.history) i (knows_words s id t b at w) (knows_many s id t b at w), is_short s id t b))

  -- the writer stores a word of a row whose stamp is 0
  pub puts_word : (slots id : ℕ) (t : V) (r j i n : ℕ) → t.writes ≡ true → r < size → j < 73 → i ≡ word_place size r j → stamp_at t.stamps r ≡ 0
      → Allows (λ s. Kept s) slots id (t, []) i (λ _. n) (λ _. steps.PutsWord (step slots i n 0 none) (t, []) n)
  puts_word slots id t r j i n w there lt is clear s k wide at small =
      let b = as_writer s k id t at w in
      let t' = steps.with_word t r j n in
      let many = knows_many s id t b at w in
      let one : (q k : ℕ) → q < length t.stamps → k < 73 → i ≡ word_place (length t.stamps) q k → (r ≡ q) × (j ≡ k) = λ q k lq few is'.
      word_apart size r q j k there (omega (arith, lq, many)) lt few (sym is ∙ (is' ∙ ap (λ (m : ℕ). word_place m q k) many)) in
      let shown = shows.puts_word (good o) size id s b.0 id t r j i n at w there lt is clear in
      let manned = mans.stays who o id t t' s.views b.1 id refl refl refl refl refl refl refl refl refl refl refl in
      (t', keeps, tt, is_kept (record { words = slice_set s.words i n; homes = s.homes; views = slice_set s.views id t' }) id t' (shown, manned), λ q k lq few is'. let e = one q k lq few is' in (λ h. (steps.with_word t (e.0 h) (e.1 h) n, [])))

  -- the writer takes a stamp away
  pub shakes : (slots id : ℕ) (t : V) (r i : ℕ) → t.writes ≡ true → r < size → i ≡ stamp_place r → Allows (λ s. Kept s) slots id (t, []) i (λ _. 0) (λ _. steps.Shakes (step slots i 0 0 none) (t, []) 0)
  shakes slots id t r i w there is s k wide at small =
      let b = as_writer s k id t at w in
      let t' = steps.shaken t r in
      let shown = shows.shakes (good o) size id s b.0 id t r i at w there is in
      let manned = mans.stays who o id t t' s.views b.1 id refl refl refl refl refl refl refl refl refl refl refl in
      (t', keeps, tt, is_kept (record { words = slice_set s.words i 0; homes = s.homes; views = slice_set s.views id t' }) id t' (shown, manned), λ q is'. ap (λ (a : ℕ). (steps.shaken t a, [])) (one_stamp r q i is is'))

  -- the writer gives a stamp to a row that is good
  pub restamps : (slots id : ℕ) (t : V) (r i n : ℕ) → t.writes ≡ true → r < size → i ≡ stamp_place r → n ≡ t.given + 1 → t.given < 18446744073709551615 → stamp_at t.stamps r ≡ 0 → good o t.history (row_at t.rows r)
      → Allows (λ s. Kept s) slots id (t, []) i (λ _. n) (λ _. steps.Restamps (step slots i n 0 none) (t, []) n)
  restamps slots id t r i n w there is n_is few clear good_now s k wide at small =
      let b = as_writer s k id t at w in
      let t' = steps.restamped t r in
      let shown = shows.restamps (good o) size id s b.0 id t r i n at w there is n_is few clear good_now in
      let manned = mans.stays who o id t t' s.views b.1 id refl refl refl refl refl refl refl refl refl refl refl in
      (t', keeps, tt, is_kept (record { words = slice_set s.words i n; homes = s.homes; views = slice_set s.views id t' }) id t' (shown, manned), λ q is'. ap (λ (a : ℕ). (steps.restamped t a, [])) (one_stamp r q i is is'))

  -- a meeting, by any step that leaves word 0 as it is
  grants_by : (f : ℕ → ℕ) → ((x : ℕ) → 4294967296 ≤ x → f x ≡ x) → (slots id : ℕ) (t : V) (more : ℕ) → t.writes ≡ true → t.crosses ≡ true → length t.receipts + t.permits + more ≤ 134217728
      → Allows (λ s. Kept s) slots id (t, []) 0 f (steps.Grants who (step slots 0 more 0 none) (t, []))
  grants_by f same slots id t more w crosses room s k wide at small =
      let b = as_writer s k id t at w in
      let d = b.1.desk in
      let of = b.0.each id t at in
      let self = b.1.each id t b.1.here in
      let p = self.placed crosses in
      let t' = granted t more in
      let n : slice_index s.words 0 ≡ 4294967296 + length t.history = (knows_words s id t b at w).count in
      let stays : f (slice_index s.words 0) ≡ slice_index s.words 0 = same (slice_index s.words 0) (omega (arith, n)) in
      let words : slice_set s.words 0 (f (slice_index s.words 0)) ≡ s.words = ap (λ (x : ℕ). set s.words 0 x) stays ∙ shows.same_word (good o) size k.seat s 0 in
      let shown = shows.stands (good o) size id s b.0 id t at t' (slice_set s.words 0 (f (slice_index s.words 0))) words refl (λ g. record { live = g.live; front = g.front; begins = g.begins; shown = g.shown; knows = g.knows }) in
      let manned = mans.grants who o id t s.views b.1 more crosses room in
      let lt : t.number < length t.kept = omega (arith, d.kept, p.1) in (
        t',
        keeps,
        tt,
        is_kept (record { words = slice_set s.words 0 (f (slice_index s.words 0)); homes = s.homes; views = slice_set s.views id t' }) id t' (shown, manned),
        (
          refl,
          n,
          λ o' e. let same : o ≡ o' = cc (d.opens, e) in subst (λ (q : O). steps.Tells who t' q) same
              (record {
                opens = d.opens;
                front = subst (λ (h : List E). IsPrefix t.front h) (sym (of.knows w).3) (of.begins d.live).0;
                receipts = self.receipts crosses;
                named = d.named;
                permits = sym (mans.kept_here who o id t t.number (t.permits + more) lt);
                short = is_short s id t b;
              }),
          self.permits crosses,
        ),
      )

  pub meets : (slots id : ℕ) (t : V) → t.writes ≡ true → t.crosses ≡ true → length t.receipts + t.permits + 0 ≤ 134217728 → Allows (λ s. Kept s) slots id (t, []) 0 (λ n. n) (steps.Grants who (step slots 0 0 0 none) (t, []))
  meets slots id t w crosses room = grants_by (λ n. n) (λ x le. refl) slots id t 0 w crosses room

  pub grants : (slots id : ℕ) (t : V) (more : ℕ) → t.writes ≡ true → t.crosses ≡ true → more < 4294967296 → length t.receipts + t.permits + more ≤ 134217728 → Allows (λ s. Kept s) slots id (t, []) 0 (λ n. max n more) (steps.Grants who (step slots 0 more 0 none) (t, []))
  grants slots id t more w crosses small_more room = grants_by (λ n. max n more) (λ x le. omega (arith, le, small_more)) slots id t more w crosses room

  -- an entry more
  pub adds : (slots id : ℕ) (t : V) (e : E) (old new : ℕ) → t.writes ≡ true → t.crosses ≡ true → 0 < t.permits → who o e ≡ t.number → old ≡ 4294967296 + length t.history → new ≡ old + 1
      → ((r : ℕ) → stamp_at t.stamps r ≢ 0 → good o (t.history ++ e ∷ []) (row_at t.rows r))
      → Allows (λ s. Kept s) slots id (t, []) 0 (λ n. either (n == old) new n) (steps.Adds (step slots 0 old new (some e)) (t, []))
  adds slots id t e old new w crosses some_permit mine old_is new_is stay s k wide at small =
      let b = as_writer s k id t at w in
      let t' = advanced t e in
      let n : slice_index s.words 0 ≡ 4294967296 + length t.history = (knows_words s id t b at w).count in
      let becomes : either (slice_index s.words 0 == old) new (slice_index s.words 0) ≡ new = rw (eq-eqb (slice_index s.words 0) old (n ∙ sym old_is)) refl in
      let new_now : new ≡ 4294967296 + length t.history + 1 = omega (arith, new_is, old_is) in
      let shown = shows.adds (good o) size id s b.0 id t t' e new at w new_now (is_short s id t b) stay refl in
      let manned = mans.adds who o id t s.views b.1 e crosses some_permit mine in
      let kept : Kept (record { words = set s.words 0 new; homes = s.homes; views = slice_set s.views id t' }) = is_kept (record { words = set s.words 0 new; homes = s.homes; views = slice_set s.views id t' }) id t' (shown, manned) in (
        t',
        keeps,
        tt,
        subst (λ (x : ℕ). Kept (record { words = set s.words 0 x; homes = s.homes; views = slice_set s.views id t' })) (sym becomes) kept,
        (λ e' is. ap (λ (x : E). (advanced t x, [])) (some-injective e e' is)),
      )

  -- what a seat at rest has seen is its actor's front
  own_front : (s : St) (k : Kept s) (id : ℕ) (v : V) → get_elem? s.views id ≡ some v → v.live ≡ true → v.writes ≡ false → v.told ≡ [] → v.front ≡ (actor_at k.shown.machine id).front
  own_front s k id v at live idle rest = sym (shows.longer_nothing (good o) v.front) ∙ (ap (λ (xs : List E). longer v.front xs) (sym rest) ∙ (k.shown.each id v at).front live idle)

  -- a note is made
  pub tells : (id : ℕ) (v : V) → v.live ≡ true → v.writes ≡ false → v.told ≡ [] → Splits (λ s. Kept s) id v v (noted v)
  tells id v live idle rest s k at =
      let f = k.shown.each id v at in
      let shown = shows.splits (good o) size k.seat s k.shown id v v (noted v) at live refl (λ g. g) refl refl (shows.longer_nothing (good o) v.front ∙ own_front s k id v at live idle rest) (f.begins live).0 (k.shown.machine.history, refl) refl in
      is_kept (record { words = s.words; homes = s.homes; views = set s.views id v ++ noted v ∷ [] }) k.seat k.truth (shown, mans.tells who o k.seat k.truth s.views k.manned id v (noted v) at refl)

  -- a pass learns from a note
  pub informs : (id : ℕ) (v : V) (other : ℕ) (w : V) → v.live ≡ true → v.writes ≡ false → v.told ≡ [] → w.live ≡ true → w.writes ≡ false → w.told ≡ [] → Joins (λ s. Kept s) id v other w (informed v w) spent
  informs id v other w live idle rest also no_writer rest' s k at apart there =
      let f = k.shown.each id v at in
      let there' : get_elem? s.views other ≡ some w = sym (set_else s.views id other (informed v w) apart) ∙ there in
      let g = k.shown.each other w there' in
      let own = own_front s k id v at live idle rest in
      let theirs = own_front s k other w there' also no_writer rest' in
      let shown = shows.joins (good o) size k.seat s k.shown id v other w (informed v w) at apart there live also no_writer live refl (λ i. (λ j. longer (own j) (theirs j))) (f.begins live).0 (g.begins also).0 refl (λ no. absurd (cc (no, idle))) in
      is_kept (record { words = s.words; homes = s.homes; views = set (set s.views id (informed v w)) other spent }) k.seat k.truth (shown, mans.informs who o k.seat k.truth s.views k.manned id v other w (informed v w) at apart there idle no_writer refl refl refl refl refl)

  -- a pass's view goes to a new seat
  pub leaves : (id : ℕ) (v : V) → v.live ≡ true → v.writes ≡ false → v.crosses ≡ true → v.told ≡ [] → Splits (λ s. Kept s) id v spent (moved v)
  leaves id v live idle crosses rest s k at =
      let shown = shows.leaves (good o) size k.seat s k.shown id v (moved v) at live idle rest live idle refl rest refl in
      is_kept (record { words = s.words; homes = s.homes; views = set s.views id spent ++ moved v ∷ [] }) k.seat k.truth (shown, mans.leaves who o k.seat k.truth s.views k.manned id v (moved v) at idle crosses refl refl refl refl)

  -- one pass more
  pub enters : (id : ℕ) (t : V) → t.writes ≡ true → t.live ≡ true → t.crosses ≡ false → t.passes < 24 → Splits (λ s. Kept s) id t (one_more t) (newcomer t)
  enters id t w live no_pass few s k at =
      let b = as_writer s k id t at w in
      let knows = (b.0.each id t at).knows w in
      let shown = shows.enters (good o) size id s b.0 id t (one_more t) (newcomer t) at live refl (λ g. record { live = g.live; front = g.front; begins = g.begins; shown = g.shown; knows = g.knows }) refl refl knows.3 refl (ap (λ (h : List E). recorded (Count (length h)) (record { count = None; rows = [] })) knows.3) in
      is_kept (record { words = s.words; homes = s.homes; views = set s.views id (one_more t) ++ newcomer t ∷ [] }) id (one_more t) (shown, mans.enters who o id t s.views b.1 no_pass few)

  -- lending: the writer's seat takes in a pass
  pub lends : (id : ℕ) (t : V) (other : ℕ) (w : V) → t.writes ≡ true → t.live ≡ true → w.live ≡ true → w.writes ≡ false → w.crosses ≡ true → Joins (λ s. Kept s) id t other w (lent t w) spent
  lends id t other w writes_it live also no_writer crosses s k at apart there =
      let b = as_writer s k id t at writes_it in
      let there' : get_elem? s.views other ≡ some w = sym (set_else s.views id other (lent t w) apart) ∙ there in
      let g = b.0.each other w there' in
      let shown = shows.joins (good o) size id s b.0 id t other w (lent t w) at apart there live also no_writer live refl (λ no. absurd (cc (no, writes_it))) (g.begins also).0 (g.begins also).1 refl (λ is. (refl, refl, refl, refl)) in
      is_kept (record { words = s.words; homes = s.homes; views = set (set s.views id (lent t w)) other spent }) id (lent t w) (shown, mans.lends who o id t s.views b.1 other w apart there' crosses)

  -- parting
  pub parts : (id : ℕ) (t : V) → t.writes ≡ true → t.live ≡ true → t.crosses ≡ true → Splits (λ s. Kept s) id t (writer_of t) (pass_of t)
  parts id t w live crosses s k at =
      let b = as_writer s k id t at w in
      let knows = (b.0.each id t at).knows w in
      let m = b.0.machine in
      let own : IsOf m id t → IsOf m id (writer_of t) = λ g. record { live = g.live; front = λ l no. absurd (cc (no, w)); begins = λ l. ((m.history, refl), (m.history, refl)); shown = g.shown; knows = g.knows } in
      let shown = shows.enters (good o) size id s b.0 id t (writer_of t) (pass_of t) at live refl own refl refl knows.3 refl (ap (λ (h : List E). recorded (Count (length h)) (record { count = None; rows = [] })) knows.3) in
      is_kept (record { words = s.words; homes = s.homes; views = set s.views id (writer_of t) ++ pass_of t ∷ [] }) id (writer_of t) (shown, mans.parts who o id t s.views b.1 crosses)

  -- the table at the start
  pub opens : Kept (record { words = 4294967296 ∷ replicate (13 + 74 * size) 0; homes = []; views = first_view o size ∷ [] })
  opens =
      is_kept (record { words = 4294967296 ∷ replicate (13 + 74 * size) 0; homes = []; views = first_view o size ∷ [] }) 0 (first_view o size)
      (shows.opens (good o) size 0 (first_view o size) (4294967296 ∷ replicate (13 + 74 * size) 0) refl refl refl refl refl refl refl refl refl refl (laid_first size), mans.opens who o 0 size refl)
