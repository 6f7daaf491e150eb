-- Each step keeps what is sound.
use Rattle.std.proofs.Common.{◌≡◌, ◌≢◌, ℕ, zero, suc, ◌+◌, ◌<◌, ◌≤◌, ◌==◌, ◌&&◌, ◌||◌, not, Bool, true, false, if◌then◌else◌, nat_lt, List, [], ◌∷◌, ◌++◌, length, take, replicate, refl, ap, sym, ◌∙◌, subst, arith, slice_index_or, set, get_or, eq-eqb, ne_eqb, get_or-set_same, get_or-set_other, length-set, length-append, append_assoc, Option, None, Some}
use Rattle.std.proofs.lemmas.List.{take-append-le, get_or-replicate, length-replicate}
use Rattle.std.proofs.lemmas.Bool.{ltb-true, lt-ltb}
use mathlib.Core.List.{IsPrefix}
use mathlib.Core.Logic.{dite}
use native.Mathlib.Decide.{ℕ_discrete}
use Rattle.vsw_base.proofs.Truths.{both}
use Rattle.vsw_stamps.specs.declared.step.Step.{Step}
use Rattle.vsw_stamps.specs.declared.step.Step.TheVariants.{Split, Join, LoadStamp, LoadWord, LoadCount, LoadStampAgain, StoreWord, ClearStamp, StoreStamp, StoreCount}
use Rattle.vsw_stamps.specs.declared.step.Load.{Load}
use Rattle.vsw_stamps.specs.declared.step.Load.TheVariants.{Stamp, Word, Count, Again}
use Rattle.vsw_stamps.specs.declared.step.Loaded.{Loaded}
use Rattle.vsw_stamps.specs.Machine.{State, Actor, Lookup, has_row, with_word, recorded, record_of, held, finished_by, finished, stamp_at, row_at, is_current, is_afresh, no_actor, actor_at, living, longer, logged, is_live, is_closed, rows_good, Can, Leads, can, next, fresh, run}
use Rattle.vsw_stamps.specs.declared.shown.Seen.{Seen}
use Rattle.vsw_stamps.specs.declared.shown.Record.{Record}
use Rattle.vsw_stamps.specs.Store.{Stored, Made}
use Rattle.vsw_stamps.specs.Sound.{Sound, AreOf, IsGoodAt, AreTrue, IsRight, AreRight}

module _ {A : Type 0} where
  pub prefix_self : (xs : List A) → IsPrefix xs xs
  prefix_self [] = ([], refl)
  prefix_self (x ∷ xs) = let rest = prefix_self xs in (rest.0, ap (λ ys. x ∷ ys) rest.1)

  pub prefix_more : (xs ys : List A) (a : A) → IsPrefix xs ys → IsPrefix xs (ys ++ a ∷ [])
  prefix_more xs ys a p = (p.0 ++ a ∷ [], sym (append_assoc xs p.0 (a ∷ [])) ∙ ap (λ zs. zs ++ a ∷ []) p.1)

  take_whole : (xs : List A) → take (length xs) xs ≡ xs
  take_whole [] = refl
  take_whole (x ∷ xs) = ap (λ ys. x ∷ ys) (take_whole xs)

  -- what holds of each holds of each after a new one that it holds of, and in place of another
  each_more : (P : A → Type 0) (xs : List A) (y d : A) → ((i : ℕ) → P (get_or xs i d)) → P y → (i : ℕ) → P (get_or (xs ++ y ∷ []) i d)
  each_more P [] y d h new zero = new
  each_more P [] y d h new (suc i) = h i
  each_more P (x ∷ xs) y d h new zero = h zero
  each_more P (x ∷ xs) y d h new (suc i) = each_more P xs y d (λ j. h (suc j)) new i

  each_set : (P : A → Type 0) (xs : List A) (k : ℕ) (y d : A) → ((i : ℕ) → P (get_or xs i d)) → P y → (i : ℕ) → P (get_or (set xs k y) i d)
  each_set P [] k y d h new i = h i
  each_set P (x ∷ xs) zero y d h new zero = new
  each_set P (x ∷ xs) zero y d h new (suc i) = h (suc i)
  each_set P (x ∷ xs) (suc k) y d h new zero = h zero
  each_set P (x ∷ xs) (suc k) y d h new (suc i) = each_set P xs k y d (λ j. h (suc j)) new i

  each_of : (P : A → Type 0) (n : ℕ) (y d : A) → P y → P d → (i : ℕ) → P (get_or (replicate n y) i d)
  each_of P zero y d h k i = k
  each_of P (suc n) y d h k zero = h
  each_of P (suc n) y d h k (suc i) = each_of P n y d h k i

pub is_equal : (a b : ℕ) → (a == b) ≡ true → a ≡ b
is_equal a b h = dite (ℕ_discrete a b) (λ e. e) (λ ne. let no = ne_eqb a b ne in absurd (cc (h, no)))

is_zero : (n : ℕ) → not (not (n == 0)) ≡ true → n ≡ 0
is_zero n h = dite (ℕ_discrete n 0) (λ e. e) (λ ne. let no = ne_eqb n 0 ne in absurd (cc (h, no)))

-- a row whose stamp isn't 0 is there
pub inside : (stamps : List ℕ) (r : ℕ) → get_or stamps r 0 ≢ 0 → r < length stamps
inside [] r live = absurd (live refl)
inside (x ∷ xs) zero live = omega arith
inside (x ∷ xs) (suc r) live = let ih = inside xs r live in omega (arith, ih)

-- a live actor is there
there : {E : Type 0} → (xs : List (Actor E)) (a : ℕ) → (get_or xs a no_actor).live ≡ true → a < length xs
there [] a live = absurd (cc live)
there (x ∷ xs) zero live = omega arith
there (x ∷ xs) (suc a) live = let ih = there xs a live in omega (arith, ih)

module _ {E : Type 0} (good : List E → List ℕ → Type 0) where
  -- what a record shows of a row stays true where the row's stamp isn't the one shown afterwards, or the row and the stamp stay
  true_as : (m n : State E) (count : Option ℕ) → m.given ≤ n.given → ((r s : ℕ) → s ≢ 0 → s ≤ m.given → stamp_at n r ≡ s → (stamp_at m r ≡ s) × (row_at m r ≡ row_at n r))
      → ((row : List ℕ) → IsGoodAt good m.history count row → IsGoodAt good n.history count row) → (xs : List Seen) → AreTrue good m count xs → AreTrue good n count xs
  true_as m n count more same later [] t = tt
  true_as m n count more same later (x ∷ xs) t = (
    (
      omega (arith, t.0.0, more),
      λ live is.
          let before = same x.row x.stamp live t.0.0 is in
          let shown = t.0.1 live before.0 in
          subst (λ (row : List ℕ). AreOf row x.words × IsGoodAt good n.history count row) before.1 (shown.0, later (row_at m x.row) shown.1),
    ),
    true_as m n count more same later xs t.1,
  )

  good_at_later : (h : List E) (e : E) (count : Option ℕ) (row : List ℕ) → IsGoodAt good h count row → IsGoodAt good (h ++ e ∷ []) count row
  good_at_later h e None row g = tt
  good_at_later h e (Some n) row g = (omega (arith, g.0, length-append h (e ∷ [])), subst (λ (front : List E). good front row) (sym (take-append-le n h (e ∷ []) g.0)) g.1)

  -- a word that was loaded is the row's
  true_word : (m : State E) (count : Option ℕ) (r k value : ℕ) → get_or (row_at m r) k 0 ≡ value → (xs : List Seen) → AreTrue good m count xs → AreTrue good m count (with_word r k value xs)
  true_word m count r k value is [] t = tt
  true_word m count r k value is (x ∷ xs) t = dite (ℕ_discrete x.row r)
      (λ e. rw (eq-eqb x.row r e) ((t.0.0, λ live same. let shown = t.0.1 live same in ((subst (λ (q : ℕ). get_or (row_at m q) k 0 ≡ value) (sym e) is, shown.0), shown.1)), t.1))
      (λ ne. rw (ne_eqb x.row r ne) (t.0, true_word m count r k value is xs t.1))

  -- the count closes a record: each row that it shows as it is, is good now
  true_count : (m : State E) → Sound good m → (count : Option ℕ) (xs : List Seen) → AreTrue good m count xs → AreTrue good m (Some (length m.history)) xs
  true_count m s count [] t = tt
  true_count m s count (x ∷ xs) t = (
    (
      t.0.0,
      λ live same.
          let now : good m.history (row_at m x.row) = s.rows x.row (λ none. live (sym same ∙ none)) in
          ((t.0.1 live same).0, (omega arith, subst (λ (front : List E). good front (row_at m x.row)) (sym (take_whole m.history)) now)),
    ),
    true_count m s count xs t.1,
  )

  -- a record that is opened
  true_open : (m : State E) (count : Option ℕ) (xs : List Seen) → AreTrue good m count xs → AreTrue good m None xs
  true_open m count [] t = tt
  true_open m count (x ∷ xs) t = ((t.0.0, λ live same. ((t.0.1 live same).0, tt)), true_open m count xs t.1)

  if_afresh : (m : State E) (afresh : Bool) (count : Option ℕ) (xs : List Seen) → AreTrue good m count xs → AreTrue good m None (if afresh then [] else xs)
  if_afresh m true count xs t = tt
  if_afresh m false count xs t = true_open m count xs t

  abbrev IsTrueRecord : State E → Record → Type 0
  IsTrueRecord m x = AreTrue good m x.count x.rows

  -- one more load
  true_load : (m : State E) (a : ℕ) (load : Load) (log : List Loaded) → ((b : ℕ) → IsTrueRecord m (record_of b log)) → IsTrueRecord m (recorded load (record_of a log)) → (b : ℕ) → IsTrueRecord m (record_of b (record { actor = a; load = load } ∷ log))
  true_load m a load log each new b = dite (ℕ_discrete a b)
      (λ e. rw (eq-eqb a b e) (subst (λ (c : ℕ). IsTrueRecord m (recorded load (record_of c log))) e new))
      (λ ne. rw (ne_eqb a b ne) (each b))

  right_later : (h : List E) (e : E) (ls : List Lookup) → AreRight good h ls → AreRight good (h ++ e ∷ []) ls
  right_later h e [] t = tt
  right_later h e (l ∷ ls) t =
      let right = t.0 in
      ((omega (arith, right.0, length-append h (e ∷ [])), (right.1.0, right.1.1, right.1.2, subst (λ (front : List E). good front right.1.0) (sym (take-append-le l.count h (e ∷ []) right.0)) right.1.3)), right_later h e ls t.1)

  right_both : (h : List E) (ks ls : List Lookup) → AreRight good h ks → AreRight good h ls → AreRight good h (ks ++ ls)
  right_both h [] ls t u = u
  right_both h (k ∷ ks) ls t u = (t.0, right_both h ks ls t.1 u)

  -- the heart: where the stamp is found again and isn't 0, the words that the closed record holds are those of a row that is good after the entries counted
  right_held_if : (m : State E) (r n : ℕ) (b : Bool) (x : Seen) (rest : List Lookup) → (b ≡ true → IsRight good m.history (record { row = r; stamp = stamp_at m r; count = n; words = x.words })) → AreRight good m.history rest
      → AreRight good m.history (if b then record { row = r; stamp = stamp_at m r; count = n; words = x.words } ∷ rest else rest)
  right_held_if m r n true x rest one ih = (one refl, ih)
  right_held_if m r n false x rest one ih = ih

  right_held : (m : State E) → Sound good m → (r n : ℕ) → stamp_at m r ≢ 0 → (xs : List Seen) → AreTrue good m (Some n) xs → AreRight good m.history (held r (stamp_at m r) n xs)
  right_held m s r n live [] t = tt
  right_held m s r n live (x ∷ xs) t = right_held_if m r n ((x.row == r) && (x.stamp == stamp_at m r)) x (held r (stamp_at m r) n xs)
      (λ is.
      let parts = both (x.row == r) (x.stamp == stamp_at m r) is in
      let row_is : x.row ≡ r = is_equal x.row r parts.0 in
      let stamp_is : x.stamp ≡ stamp_at m r = is_equal x.stamp (stamp_at m r) parts.1 in
      let shown = t.0.1 (λ none. live (sym stamp_is ∙ none)) (ap (λ (q : ℕ). stamp_at m q) row_is ∙ sym stamp_is) in
      (shown.1.0, (row_at m x.row, s.wide x.row (subst (λ (q : ℕ). q < length m.stamps) (sym row_is) (inside m.stamps r live)), shown.0, shown.1.1)))
      (right_held m s r n live xs t.1)

  right_if : (m : State E) → Sound good m → (r n : ℕ) (xs : List Seen) → AreTrue good m (Some n) xs → (b : Bool) → (stamp_at m r == 0) ≡ b → AreRight good m.history (if b then [] else held r (stamp_at m r) n xs)
  right_if m s r n xs t true is = tt
  right_if m s r n xs t false is = right_held m s r n (λ none. let yes = eq-eqb (stamp_at m r) 0 none in absurd (cc (yes, is))) xs t

  right_again : (m : State E) → Sound good m → (r : ℕ) (count : Option ℕ) (xs : List Seen) → AreTrue good m count xs → AreRight good m.history (finished_by (Again r (stamp_at m r)) count xs)
  right_again m s r None xs t = tt
  right_again m s r (Some n) xs t = right_if m s r n xs t (stamp_at m r == 0) refl

  pub is_there : (m : State E) (a : ℕ) → is_live m a ≡ true → a < length m.actors
  is_there m a live = there m.actors a live

  pub count_other : (m : State E) (a b : ℕ) (load : Load) → a ≢ b → record_of b (logged m a load).log ≡ record_of b m.log
  count_other m a b load ne = rw (ne_eqb a b ne) refl

  pub count_same : (m : State E) (a b : ℕ) (load : Load) → a ≡ b → record_of b (logged m a load).log ≡ recorded load (record_of a m.log)
  count_same m a b load e = rw (eq-eqb a b e) (ap (λ (c : ℕ). recorded load (record_of c m.log)) (sym e))

  -- one more load
  sound_load : (m : State E) → Sound good m → (a : ℕ) (load : Load) → is_live m a ≡ true → IsTrueRecord m (recorded load (record_of a m.log)) → ((n : ℕ) → (recorded load (record_of a m.log)).count ≡ Some n → n ≤ length (actor_at m a).front)
      → AreRight good m.history (finished_by load (record_of a m.log).count (record_of a m.log).rows) → Sound good (logged m a load)
  sound_load m s a load live new seen right = record {
    wide = s.wide;
    even = s.even;
    short = s.short;
    stamps = s.stamps;
    apart = s.apart;
    rows = s.rows;
    fronts = s.fronts;
    counts = λ b n is. dite (ℕ_discrete a b)
        (λ e. subst (λ (c : ℕ). n ≤ length (actor_at m c).front) e (seen n (sym (ap (λ (x : Record). x.count) (count_same m a b load e)) ∙ is)))
        (λ ne. s.counts b n (sym (ap (λ (x : Record). x.count) (count_other m a b load ne)) ∙ is));
    newcomers = λ b past. count_other m a b load (λ e. let lt = is_there m a live in absurd (omega (arith, lt, past, e))) ∙ s.newcomers b past;
    records = λ b. true_as m (logged m a load) (record_of b (logged m a load).log).count (omega arith) (λ r x live low is. (is, refl)) (λ row g. g) (record_of b (logged m a load).log).rows (true_load m a load m.log s.records new b);
    lookups = right_both m.history (finished_by load (record_of a m.log).count (record_of a m.log).rows) (finished m.log) right s.lookups;
  }

  -- other fronts, which are beginnings of the history too and no shorter
  sound_actors : (m : State E) → Sound good m → (actors : List (Actor E)) → length m.actors ≤ length actors → ((a : ℕ) → IsPrefix (get_or actors a no_actor).front m.history)
      → ((a : ℕ) → length (actor_at m a).front ≤ length (get_or actors a no_actor).front) → Sound good (record m { actors = actors })
  sound_actors m s actors more fronts longer = record {
    wide = s.wide;
    even = s.even;
    short = s.short;
    stamps = s.stamps;
    apart = s.apart;
    rows = s.rows;
    fronts = fronts;
    counts = λ a n is. let old = s.counts a n is in let new = longer a in omega (arith, old, new);
    newcomers = λ a past. s.newcomers a (omega (arith, more, past));
    records = λ a. true_as m (record m { actors = actors }) (record_of a m.log).count (omega arith) (λ r x live low is. (is, refl)) (λ row g. g) (record_of a m.log).rows (s.records a);
    lookups = s.lookups;
  }

  pub longer_begins : (xs ys h : List E) (b : Bool) → IsPrefix xs h → IsPrefix ys h → IsPrefix (if b then ys else xs) h
  longer_begins xs ys h true p q = q
  longer_begins xs ys h false p q = p

  longer_is : (xs ys : List E) (b : Bool) → nat_lt (length xs) (length ys) ≡ b → length xs ≤ length (if b then ys else xs)
  longer_is xs ys true is = omega (arith, ltb-true (length xs) (length ys) is)
  longer_is xs ys false is = omega arith

  no_longer : (xs ys : List E) → IsPrefix xs ys → length xs ≤ length ys
  no_longer xs ys p = omega (arith, length-append xs p.0, ap length p.1)

  abbrev Begins : List E → Actor E → Type 0
  Begins h x = IsPrefix x.front h

  -- fronts that grow at a place
  grows_set : (xs : List (Actor E)) (k : ℕ) (y : Actor E) → length (get_or xs k no_actor).front ≤ length y.front → (a : ℕ) → length (get_or xs a no_actor).front ≤ length (get_or (set xs k y) a no_actor).front
  grows_set [] k y le a = omega arith
  grows_set (x ∷ xs) zero y le zero = le
  grows_set (x ∷ xs) zero y le (suc a) = omega arith
  grows_set (x ∷ xs) (suc k) y le zero = omega arith
  grows_set (x ∷ xs) (suc k) y le (suc a) = grows_set xs k y le a

  grows_more : (xs : List (Actor E)) (y : Actor E) → (a : ℕ) → length (get_or xs a no_actor).front ≤ length (get_or (xs ++ y ∷ []) a no_actor).front
  grows_more [] y a = omega arith
  grows_more (x ∷ xs) y zero = omega arith
  grows_more (x ∷ xs) y (suc a) = grows_more xs y a

  sound_split : (m : State E) → Sound good m → (a : ℕ) → Sound good (next m (Split a))
  sound_split m s a =
      let new = living (actor_at m a).front in
      sound_actors m s (m.actors ++ new ∷ []) (omega (arith, length-append m.actors (new ∷ []))) (each_more (Begins m.history) m.actors new no_actor s.fronts (s.fronts a)) (grows_more m.actors new)

  sound_join : (m : State E) → Sound good m → (a b : ℕ) → a ≢ b → Sound good (next m (Join a b))
  sound_join m s a b apart =
      let f = (actor_at m a).front in
      let g = (actor_at m b).front in
      let one : Actor E = living (longer f g) in
      let two : Actor E = record { live = false; front = g } in
      let both_begin = longer_begins f g m.history (nat_lt (length f) (length g)) (s.fronts a) (s.fronts b) in
      let same : get_or (set m.actors a one) b no_actor ≡ actor_at m b = get_or-set_other m.actors a b one no_actor (λ e. apart (sym e)) in
      let first = grows_set m.actors a one (longer_is f g (nat_lt (length f) (length g)) refl) in
      let second = grows_set (set m.actors a one) b two (subst (λ (x : Actor E). length x.front ≤ length g) (sym same) (omega arith)) in
      sound_actors m s (set (set m.actors a one) b two) (omega (arith, length-set (set m.actors a one) b two, length-set m.actors a one))
      (each_set (Begins m.history) (set m.actors a one) b two no_actor (each_set (Begins m.history) m.actors a one no_actor s.fronts both_begin) (s.fronts b))
      (λ c. let p = first c in let q = second c in omega (arith, p, q))

  count_is : (m n : ℕ) → Some m ≡ Some n → n ≤ m
  count_is m n e = let is : m ≡ n = cc e in omega (arith, is)

  sound_count : (m : State E) → Sound good m → (a : ℕ) → is_live m a ≡ true → Sound good (next m (LoadCount a))
  sound_count m s a live =
      let new : Actor E = living m.history in
      let front = record m { actors = set m.actors a new } in
      let at : get_or (set m.actors a new) a no_actor ≡ new = get_or-set_same m.actors a new no_actor (is_there m a live) in
      let seen : Sound good front = sound_actors m s (set m.actors a new) (omega (arith, length-set m.actors a new)) (each_set (Begins m.history) m.actors a new no_actor s.fronts (prefix_self m.history))
      (grows_set m.actors a new (no_longer (actor_at m a).front m.history (s.fronts a))) in
      sound_load front seen a (Count (length m.history)) (ap (λ (x : Actor E). x.live) at) (true_count front seen (record_of a m.log).count (record_of a m.log).rows (seen.records a))
      (λ n is. subst (λ (x : Actor E). n ≤ length x.front) (sym at) (count_is (length m.history) n is)) tt

  sound_word : (m : State E) → Sound good m → (r k value : ℕ) → r < length m.stamps → stamp_at m r ≡ 0 → Sound good (next m (StoreWord r k value))
  sound_word m s r k value lt old =
      let row = set (row_at m r) k value in
      let there : r < length m.rows = omega (arith, lt, s.even) in
      let other : (q : ℕ) → stamp_at m q ≢ 0 → q ≢ r = λ q live e. live (ap (λ (p : ℕ). stamp_at m p) e ∙ old) in record {
        wide = λ q lt'. dite (ℕ_discrete q r)
            (λ e. subst (λ (p : ℕ). length (get_or (set m.rows r row) p []) ≡ 73) (sym e) (ap length (get_or-set_same m.rows r row [] there) ∙ (length-set (row_at m r) k value ∙ s.wide r lt)))
            (λ ne. ap length (get_or-set_other m.rows r q row [] ne) ∙ s.wide q lt');
        even = length-set m.rows r row ∙ s.even;
        short = s.short;
        stamps = s.stamps;
        apart = s.apart;
        rows = λ q live. subst (λ (ws : List ℕ). good m.history ws) (sym (get_or-set_other m.rows r q row [] (other q live))) (s.rows q live);
        fronts = s.fronts;
        counts = s.counts;
        newcomers = s.newcomers;
        records = λ a. true_as m (next m (StoreWord r k value)) (record_of a m.log).count (omega arith)
            (λ q x live low is. (is, sym (get_or-set_other m.rows r q row [] (other q (λ none. live (sym is ∙ none)))))) (λ row g. g) (record_of a m.log).rows (s.records a);
        lookups = s.lookups;
      }

  sound_clear : (m : State E) → Sound good m → (r : ℕ) → r < length m.stamps → Sound good (next m (ClearStamp r))
  sound_clear m s r lt =
      let none : get_or (set m.stamps r 0) r 0 ≡ 0 = get_or-set_same m.stamps r 0 0 lt in
      let other : (q : ℕ) → get_or (set m.stamps r 0) q 0 ≢ 0 → q ≢ r = λ q live e. live (ap (λ (p : ℕ). get_or (set m.stamps r 0) p 0) e ∙ none) in
      let same : (q : ℕ) → q ≢ r → get_or (set m.stamps r 0) q 0 ≡ stamp_at m q = λ q ne. get_or-set_other m.stamps r q 0 0 ne in record {
        wide = λ q lt'. s.wide q (omega (arith, lt', length-set m.stamps r 0));
        even = s.even ∙ sym (length-set m.stamps r 0);
        short = s.short;
        stamps = λ q. dite (ℕ_discrete q r)
            (λ e. let is : get_or (set m.stamps r 0) q 0 ≡ 0 = ap (λ (p : ℕ). get_or (set m.stamps r 0) p 0) e ∙ none in omega (arith, is))
            (λ ne. rw (same q ne) (s.stamps q));
        apart = λ p q is live.
            let p_is = same p (other p live) in
            let q_is = same q (other q (λ z. live (is ∙ z))) in
            s.apart p q (sym p_is ∙ (is ∙ q_is)) (λ z. live (p_is ∙ z));
        rows = λ q live. s.rows q (λ z. live (same q (other q live) ∙ z));
        fronts = s.fronts;
        counts = s.counts;
        newcomers = s.newcomers;
        records = λ a. true_as m (next m (ClearStamp r)) (record_of a m.log).count (omega arith)
            (λ q x live low is. (sym (same q (other q (λ z. live (sym is ∙ z)))) ∙ is, refl)) (λ row g. g) (record_of a m.log).rows (s.records a);
        lookups = s.lookups;
      }

  sound_stamp : (m : State E) → Sound good m → (r : ℕ) → r < length m.stamps → good m.history (row_at m r) → Sound good (next m (StoreStamp r))
  sound_stamp m s r lt good_now =
      let n = m.given + 1 in
      let new : get_or (set m.stamps r n) r 0 ≡ n = get_or-set_same m.stamps r n 0 lt in
      let new_is : (q : ℕ) → q ≡ r → get_or (set m.stamps r n) q 0 ≡ n = λ q e. ap (λ (p : ℕ). get_or (set m.stamps r n) p 0) e ∙ new in
      let same : (q : ℕ) → q ≢ r → get_or (set m.stamps r n) q 0 ≡ stamp_at m q = λ q ne. get_or-set_other m.stamps r q n 0 ne in record {
        wide = λ q lt'. s.wide q (omega (arith, lt', length-set m.stamps r n));
        even = s.even ∙ sym (length-set m.stamps r n);
        short = s.short;
        stamps = λ q. dite (ℕ_discrete q r) (λ e. let is = new_is q e in omega (arith, is)) (λ ne. let is = same q ne in omega (arith, is, s.stamps q));
        apart = λ p q is live. dite (ℕ_discrete p r)
            (λ e. dite (ℕ_discrete q r) (λ f. e ∙ sym f) (λ nf. let p_is = new_is p e in let q_is = same q nf in absurd (omega (arith, is, p_is, q_is, s.stamps q))))
            (λ ne. dite (ℕ_discrete q r) (λ f. let p_is = same p ne in let q_is = new_is q f in absurd (omega (arith, is, p_is, q_is, s.stamps p)))
            (λ nf. s.apart p q (sym (same p ne) ∙ (is ∙ same q nf)) (λ z. live (same p ne ∙ z))));
        rows = λ q live. dite (ℕ_discrete q r) (λ e. subst (λ (p : ℕ). good m.history (row_at m p)) (sym e) good_now) (λ ne. s.rows q (λ z. live (same q ne ∙ z)));
        fronts = s.fronts;
        counts = s.counts;
        newcomers = s.newcomers;
        records = λ a. true_as m (next m (StoreStamp r)) (record_of a m.log).count (omega arith)
            (λ q x live low is. dite (ℕ_discrete q r) (λ e. let q_is = new_is q e in absurd (omega (arith, is, q_is, low))) (λ ne. (sym (same q ne) ∙ is, refl))) (λ row g. g) (record_of a m.log).rows (s.records a);
        lookups = s.lookups;
      }

  -- one entry more, with which each current row is good
  sound_entry : (m : State E) → Sound good m → (e : E) → length m.history < 4294967295 → ((r : ℕ) → stamp_at m r ≢ 0 → good (m.history ++ e ∷ []) (row_at m r)) → Sound good (next m (StoreCount e))
  sound_entry m s e few stay = record {
    wide = s.wide;
    even = s.even;
    short = omega (arith, few, length-append m.history (e ∷ []));
    stamps = s.stamps;
    apart = s.apart;
    rows = stay;
    fronts = λ a. prefix_more (actor_at m a).front m.history e (s.fronts a);
    counts = s.counts;
    newcomers = s.newcomers;
    records = λ a. true_as m (next m (StoreCount e)) (record_of a m.log).count (omega arith) (λ q x live low is. (is, refl)) (good_at_later m.history e (record_of a m.log).count) (record_of a m.log).rows (s.records a);
    lookups = right_later m.history e (finished m.log) s.lookups;
  }

  -- each step whose condition holds keeps what is sound
  pub step_sound : (m : State E) (step : Step E) → Can good m step → Sound good m → Sound good (next m step)
  step_sound m (Split a) holds s = sound_split m s a
  step_sound m (Join a b) holds s = sound_join m s a b holds.2
  step_sound m (LoadStamp a r) holds s = sound_load m s a (Stamp r (stamp_at m r) (is_afresh m a r)) holds.0
      ((s.stamps r, λ live is. (tt, tt)), if_afresh m (is_afresh m a r) (record_of a m.log).count (record_of a m.log).rows (s.records a)) (λ n is. absurd (cc is)) tt
  step_sound m (LoadWord a r k) holds s = sound_load m s a (Word r k (slice_index_or (row_at m r) k 0)) holds.0
      (true_word m (record_of a m.log).count r k (get_or (row_at m r) k 0) refl (record_of a m.log).rows (s.records a)) (s.counts a) tt
  step_sound m (LoadCount a) holds s = sound_count m s a holds
  step_sound m (LoadStampAgain a r) holds s = sound_load m s a (Again r (stamp_at m r)) holds.0 (s.records a) (s.counts a) (right_again m s r (record_of a m.log).count (record_of a m.log).rows (s.records a))
  step_sound m (StoreWord r k value) holds s = sound_word m s r k value holds.0 holds.2
  step_sound m (ClearStamp r) holds s = sound_clear m s r holds
  step_sound m (StoreStamp r) holds s = sound_stamp m s r holds.0 holds.3
  step_sound m (StoreCount e) holds s = sound_entry m s e holds.0 holds.1

  -- and so does every list of steps
  pub leads_sound : (steps : List (Step E)) (m n : State E) → Leads good m steps n → Sound good m → Sound good n
  leads_sound [] m n leads s = subst (λ (x : State E). Sound good x) leads s
  leads_sound (step ∷ steps) m n leads s = leads_sound steps (next m step) n leads.1 (step_sound m step leads.0 s)

  module _ (test : List E → List ℕ → Bool) (judges : (h : List E) (row : List ℕ) → test h row ≡ true → good h row) where
    or_good : (b c : Bool) → (b || c) ≡ true → b ≡ false → c ≡ true
    or_good true c h e = absurd (cc e)
    or_good false c h e = h

    all_good : (h : List E) (m : State E) (n r : ℕ) → rows_good test h m.stamps m.rows n ≡ true → r < n → stamp_at m r ≢ 0 → good h (row_at m r)
    all_good h m zero r t lt live = absurd (omega (arith, lt))
    all_good h m (suc n) r t lt live =
        let parts = both (rows_good test h m.stamps m.rows n) ((stamp_at m n == 0) || test h (row_at m n)) t in
        dite (ℕ_discrete r n)
        (λ e. subst (λ (q : ℕ). good h (row_at m q)) (sym e) (judges h (row_at m n) (or_good (stamp_at m n == 0) (test h (row_at m n)) parts.1 (ne_eqb (stamp_at m n) 0 (subst (λ (q : ℕ). stamp_at m q ≢ 0) e live)))))
        (λ ne. all_good h m n r parts.0 (omega (arith, lt, ne)) live)

    is_false : (b : Bool) → not b ≡ true → b ≡ false
    is_false true h = absurd (cc h)
    is_false false h = refl

    is_not : (a b : ℕ) → not (a == b) ≡ true → a ≢ b
    is_not a b h e = let same = eq-eqb a b e in absurd (cc (h, same))

    -- where the test of a condition is passed, it holds
    pub can_is : (m : State E) (step : Step E) → can test m step ≡ true → Can good m step
    can_is m (Split a) h = h
    can_is m (Join a b) h =
        let t = both (is_live m a && is_live m b) (not (a == b)) h in
        let u = both (is_live m a) (is_live m b) t.0 in
        (u.0, u.1, is_not a b t.1)
    can_is m (LoadStamp a r) h = let t = both (is_live m a) (nat_lt r (length m.stamps)) h in (t.0, ltb-true r (length m.stamps) t.1)
    can_is m (LoadWord a r k) h =
        let x = record_of a m.log in
        let t = both (is_live m a && nat_lt r (length m.stamps) && nat_lt k 73 && not (is_closed x)) (has_row r x.rows) h in
        let u = both (is_live m a && nat_lt r (length m.stamps) && nat_lt k 73) (not (is_closed x)) t.0 in
        let v = both (is_live m a && nat_lt r (length m.stamps)) (nat_lt k 73) u.0 in
        let w = both (is_live m a) (nat_lt r (length m.stamps)) v.0 in
        (w.0, ltb-true r (length m.stamps) w.1, ltb-true k 73 v.1, is_false (is_closed x) u.1, t.1)
    can_is m (LoadCount a) h = h
    can_is m (LoadStampAgain a r) h =
        let x = record_of a m.log in
        let t = both (is_live m a && nat_lt r (length m.stamps) && is_closed x) (has_row r x.rows) h in
        let u = both (is_live m a && nat_lt r (length m.stamps)) (is_closed x) t.0 in
        let v = both (is_live m a) (nat_lt r (length m.stamps)) u.0 in
        (v.0, ltb-true r (length m.stamps) v.1, u.1, t.1)
    can_is m (StoreWord r k value) h =
        let t = both (nat_lt r (length m.stamps) && nat_lt k 73) (not (is_current m r)) h in
        let u = both (nat_lt r (length m.stamps)) (nat_lt k 73) t.0 in
        (ltb-true r (length m.stamps) u.0, ltb-true k 73 u.1, is_zero (stamp_at m r) t.1)
    can_is m (ClearStamp r) h = ltb-true r (length m.stamps) h
    can_is m (StoreStamp r) h =
        let t = both (nat_lt r (length m.stamps) && not (is_current m r) && nat_lt m.given 18446744073709551615) (test m.history (row_at m r)) h in
        let u = both (nat_lt r (length m.stamps) && not (is_current m r)) (nat_lt m.given 18446744073709551615) t.0 in
        let v = both (nat_lt r (length m.stamps)) (not (is_current m r)) u.0 in
        (ltb-true r (length m.stamps) v.0, is_zero (stamp_at m r) v.1, ltb-true m.given 18446744073709551615 u.1, judges m.history (row_at m r) t.1)
    can_is m (StoreCount e) h =
        let t = both (nat_lt (length m.history) 4294967295) (rows_good test (m.history ++ e ∷ []) m.stamps m.rows (length m.stamps)) h in
        (ltb-true (length m.history) 4294967295 t.0, λ r live. all_good (m.history ++ e ∷ []) m (length m.stamps) r t.1 (inside m.stamps r live) live)

    run_if : (m : State E) (step : Step E) (b : Bool) → can test m step ≡ b → Sound good m → Sound good (if b then next m step else m)
    run_if m step true is s = step_sound m step (can_is m step is) s
    run_if m step false is s = s

    -- and so does every list of steps
    pub run_sound : (steps : List (Step E)) (m : State E) → Sound good m → Sound good (run test m steps)
    run_sound [] m s = s
    run_sound (step ∷ steps) m s = run_sound steps (if can test m step then next m step else m) (run_if m step (can test m step) refl s)

  -- a new machine is sound
  pub fresh_sound : (n : ℕ) → Sound good (fresh n)
  fresh_sound n =
      let zero : ℕ = 0 in
      let many : length (replicate n zero) ≡ n = length-replicate n zero in
      let zero_stamp : (r : ℕ) → get_or (replicate n zero) r zero ≡ zero = each_of (λ (x : ℕ). x ≡ zero) n zero zero refl refl in record {
        wide = λ r lt. ap length (get_or-replicate n r (replicate 73 0) [] (omega (arith, lt, many)));
        even = length-replicate n (replicate 73 0) ∙ sym many;
        short = omega arith;
        stamps = λ r. let z = zero_stamp r in omega (arith, z);
        apart = λ q r is live. absurd (live (zero_stamp q));
        rows = λ r live. absurd (live (zero_stamp r));
        fronts = each_set (λ (x : Actor E). IsPrefix x.front []) (no_actor ∷ []) 0 (living []) no_actor (each_of (λ (x : Actor E). IsPrefix x.front []) 1 no_actor no_actor ([], refl) ([], refl)) ([], refl);
        counts = λ a n is. absurd (cc is);
        newcomers = λ a past. refl;
        records = λ a. tt;
        lookups = tt;
      }

-- a machine that made a step, or didn't, is sound
pub made_sound : {E : Type 0} (good : List E → List ℕ → Type 0) (test : List E → List ℕ → Bool) → ((h : List E) (row : List ℕ) → test h row ≡ true → good h row) → (step : Step E) (old new : Stored E) (made : Bool)
    → Made test step old new made → Sound good old.state → Sound good new.state
made_sound {E} good test judges step old new true h s = subst (λ (x : State E). Sound good x) (sym h.1) (step_sound good old.state step (can_is good test judges old.state step h.0) s)
made_sound {E} good test judges step old new false h s = subst (λ (x : Stored E). Sound good x.state) (sym h.1) s

-- where the condition of a step holds, its test is passed
module _ {E : Type 0} (good : List E → List ℕ → Type 0) (test : List E → List ℕ → Bool) (judges : (h : List E) (row : List ℕ) → good h row → test h row ≡ true) where
  and_true : (b c : Bool) → b ≡ true → c ≡ true → (b && c) ≡ true
  and_true true c h k = k
  and_true false c h k = absurd (cc h)

  or_if : (b c : Bool) → (b ≡ false → c ≡ true) → (b || c) ≡ true
  or_if true c h = refl
  or_if false c h = h refl

  not_is : (b : Bool) → b ≡ false → not b ≡ true
  not_is b h = rw h refl

  not_equal : (a b : ℕ) → a ≢ b → not (a == b) ≡ true
  not_equal a b ne = rw (ne_eqb a b ne) refl

  zero_is : (n : ℕ) → n ≡ 0 → not (not (n == 0)) ≡ true
  zero_is n e = rw (eq-eqb n 0 e) refl

  rows_are : (h : List E) (m : State E) → ((r : ℕ) → stamp_at m r ≢ 0 → good h (row_at m r)) → (n : ℕ) → rows_good test h m.stamps m.rows n ≡ true
  rows_are h m all zero = refl
  rows_are h m all (suc n) = and_true (rows_good test h m.stamps m.rows n) ((stamp_at m n == 0) || test h (row_at m n)) (rows_are h m all n)
      (or_if (stamp_at m n == 0) (test h (row_at m n)) (λ no. judges h (row_at m n) (all n (λ e. let yes = eq-eqb (stamp_at m n) 0 e in absurd (cc (yes, no))))))

  pub is_can : (m : State E) (step : Step E) → Can good m step → can test m step ≡ true
  is_can m (Split a) h = h
  is_can m (Join a b) h = and_true (is_live m a && is_live m b) (not (a == b)) (and_true (is_live m a) (is_live m b) h.0 h.1) (not_equal a b h.2)
  is_can m (LoadStamp a r) h = and_true (is_live m a) (nat_lt r (length m.stamps)) h.0 (lt-ltb r (length m.stamps) h.1)
  is_can m (LoadWord a r k) h =
      let x = record_of a m.log in
      and_true (is_live m a && nat_lt r (length m.stamps) && nat_lt k 73 && not (is_closed x)) (has_row r x.rows)
      (and_true (is_live m a && nat_lt r (length m.stamps) && nat_lt k 73) (not (is_closed x))
      (and_true (is_live m a && nat_lt r (length m.stamps)) (nat_lt k 73) (and_true (is_live m a) (nat_lt r (length m.stamps)) h.0 (lt-ltb r (length m.stamps) h.1)) (lt-ltb k 73 h.2)) (not_is (is_closed x) h.3)) h.4
  is_can m (LoadCount a) h = h
  is_can m (LoadStampAgain a r) h =
      let x = record_of a m.log in
      and_true (is_live m a && nat_lt r (length m.stamps) && is_closed x) (has_row r x.rows)
      (and_true (is_live m a && nat_lt r (length m.stamps)) (is_closed x) (and_true (is_live m a) (nat_lt r (length m.stamps)) h.0 (lt-ltb r (length m.stamps) h.1)) h.2) h.3
  is_can m (StoreWord r k value) h = and_true (nat_lt r (length m.stamps) && nat_lt k 73) (not (is_current m r)) (and_true (nat_lt r (length m.stamps)) (nat_lt k 73) (lt-ltb r (length m.stamps) h.0) (lt-ltb k 73 h.1)) (zero_is (stamp_at m r) h.2)
  is_can m (ClearStamp r) h = lt-ltb r (length m.stamps) h
  is_can m (StoreStamp r) h = and_true (nat_lt r (length m.stamps) && not (is_current m r) && nat_lt m.given 18446744073709551615) (test m.history (row_at m r))
      (and_true (nat_lt r (length m.stamps) && not (is_current m r)) (nat_lt m.given 18446744073709551615) (and_true (nat_lt r (length m.stamps)) (not (is_current m r)) (lt-ltb r (length m.stamps) h.0) (zero_is (stamp_at m r) h.1)) (lt-ltb m.given 18446744073709551615 h.2))
      (judges m.history (row_at m r) h.3)
  is_can m (StoreCount e) h = and_true (nat_lt (length m.history) 4294967295) (rows_good test (m.history ++ e ∷ []) m.stamps m.rows (length m.stamps)) (lt-ltb (length m.history) 4294967295 h.0) (rows_are (m.history ++ e ∷ []) m h.1 (length m.stamps))
