-- Each step of the table is a step of the machine, or none: the table goes on showing a machine.
use Rattle.std.proofs.Common.{◌≡◌, ◌≢◌, ℕ, ◌+◌, ◌<◌, ◌≤◌, ◌==◌, ◌&&◌, ◌||◌, Bool, true, false, if◌then◌else◌, List, [], ◌∷◌, ◌++◌, length, take, refl, ap, sym, ◌∙◌, subst, arith, ⊎_elim, slice_index, replicate, set, get_or, length-set, length-append, get_or-set_same, get_or-set_other, Option, None, Some}
use Rattle.std.proofs.lemmas.List.{set-get_or, length-replicate, get_or_append_left, set-append_left, take-append-le}
use Rattle.std.proofs.lemmas.Bool.{le-ltb}
use mathlib.Core.List.{IsPrefix}
use mathlib.Core.Option.{some}
use lib.ListN.{get_elem?}
use Rattle.atomic_table.specs.Table as table
use Rattle.atomic_table.proofs.Lists.{at_set, set_again, set_else, at_longer, at_last}
use Rattle.vsw_stamps.specs.declared.step.Step.{Step}
use Rattle.vsw_stamps.specs.declared.step.Step.TheVariants.{Split, Join, LoadStamp, LoadWord, LoadCount, LoadStampAgain, StoreWord, ClearStamp, StoreStamp, StoreCount}
use Rattle.vsw_stamps.specs.declared.step.Load.{Load}
use Rattle.vsw_stamps.specs.declared.step.Load.TheVariants.{Stamp, Word, Count, Again}
use Rattle.vsw_stamps.specs.declared.shown.Seen.{Seen}
use Rattle.vsw_stamps.specs.declared.shown.Record.{Record}
use Rattle.vsw_stamps.specs.Machine.{State, Actor, Lookup, has_row, is_closed, recorded, record_of, held, finished_by, stamp_at, row_at, is_afresh, is_live, actor_at, no_actor, no_record, living, longer, logged, Can, Leads, next, fresh}
use Rattle.vsw_stamps.specs.Sound.{Sound, AreRight}
use Rattle.vsw_stamps.proofs.Keeps.{prefix_self, prefix_more, count_other, count_same, is_there, leads_sound, fresh_sound, step_sound}
use Rattle.vsw_table.specs.declared.view.View.{View}
use Rattle.vsw_table.specs.Places.{stamp_place, word_place}
use Rattle.vsw_table.specs.Rules.{IsLaid, IsOf, IsShown, spent}
use Rattle.vsw_table.proofs.Words.{all_wide, wide_at, laid_again, laid_count, laid_stamp, laid_word, at_end, before_last, first_of, last_of, set_last}

module _ {E : Type 0} (good : List E → List ℕ → Type 0) where
  pub longer_nothing : (xs : List E) → longer xs [] ≡ xs
  longer_nothing xs = ap (λ (b : Bool). if b then [] else xs) (le-ltb (length xs) 0 (omega arith))

  longer_same : (xs : List E) → longer xs xs ≡ xs
  longer_same xs = ap (λ (b : Bool). if b then xs else xs) (le-ltb (length xs) (length xs) (omega arith))

  leads_more : (steps : List (Step E)) (l m : State E) (step : Step E) → Leads good l steps m → Can good m step → Leads good l (steps ++ step ∷ []) (next m step)
  leads_more [] l m step leads can = (subst (λ (x : State E). Can good x step) (sym leads) can, ap (λ (x : State E). next x step) leads)
  leads_more (s ∷ ss) l m step leads can = (leads.0, leads_more ss (next l s) m step leads.1 can)

  -- what is right of the history is right of a beginning that is long enough
  right_one : (front h : List E) → IsPrefix front h → (l : Lookup) → l.count ≤ length front → (ks ls : List Lookup) → (AreRight good h ks → AreRight good front ls) → (b : Bool) → AreRight good h (if b then l ∷ ks else ks) → AreRight good front (if b then l ∷ ls else ls)
  right_one front h p l le ks ls rest true t =
      let same : take l.count h ≡ take l.count front = ap (λ (xs : List E). take l.count xs) (sym p.1) ∙ take-append-le l.count front p.0 le in
      ((le, (t.0.1.0, t.0.1.1, t.0.1.2, subst (λ (f : List E). good f t.0.1.0) same t.0.1.3)), rest t.1)
  right_one front h p l le ks ls rest false t = rest t

  right_held : (front h : List E) → IsPrefix front h → (r s n : ℕ) → n ≤ length front → (xs : List Seen) → AreRight good h (held r s n xs) → AreRight good front (held r s n xs)
  right_held front h p r s n le [] t = tt
  right_held front h p r s n le (x ∷ xs) t = right_one front h p (record { row = r; stamp = s; count = n; words = x.words }) le (held r s n xs) (held r s n xs) (right_held front h p r s n le xs) ((x.row == r) && (x.stamp == s)) t

  right_zero : (front h : List E) → IsPrefix front h → (r s n : ℕ) → n ≤ length front → (xs : List Seen) → (b : Bool) → AreRight good h (if b then [] else held r s n xs) → AreRight good front (if b then [] else held r s n xs)
  right_zero front h p r s n le xs true t = tt
  right_zero front h p r s n le xs false t = right_held front h p r s n le xs t

  right_front : (front h : List E) → IsPrefix front h → (r s : ℕ) (count : Option ℕ) (xs : List Seen) → ((n : ℕ) → count ≡ Some n → n ≤ length front) → AreRight good h (finished_by (Again r s) count xs) → AreRight good front (finished_by (Again r s) count xs)
  right_front front h p r s None xs few t = tt
  right_front front h p r s (Some n) xs few t = right_zero front h p r s n (few n refl) xs (s == 0) t

  first_right : (h : List E) (ks ls : List Lookup) → AreRight good h (ks ++ ls) → AreRight good h ks
  first_right h [] ls t = tt
  first_right h (k ∷ ks) ls t = (t.0, first_right h ks ls t.1)

  module _ {O : Type 0} (n seat : ℕ) where
    pub sound_of : (s : table.State E (View O E)) (k : IsShown good n seat s) → Sound good k.machine
    sound_of s k = leads_sound good k.steps (fresh n) k.machine k.leads (fresh_sound good n)

    -- the machine makes a step, and the seat has a new view
    played : (s : table.State E (View O E)) (k : IsShown good n seat s) (id : ℕ) (v : View O E) → get_elem? s.views id ≡ some v → (step : Step E) → Can good k.machine step → (w : View O E) (ws : List ℕ)
        → (let m = next k.machine step in IsLaid n ws (length m.history) m.stamps m.rows) → length (next k.machine step).stamps ≡ n
        → length (next k.machine step).actors ≡ length k.machine.actors → w.writes ≡ v.writes → IsOf (next k.machine step) id w
        → ((j : ℕ) (u : View O E) → j ≢ id → get_elem? s.views j ≡ some u → IsOf k.machine j u → IsOf (next k.machine step) j u) → IsShown good n seat (record { words = ws; homes = s.homes; views = set s.views id w })
    played s k id v at step can w ws words many actors writes self others = record {
      steps = k.steps ++ step ∷ [];
      machine = next k.machine step;
      leads = leads_more k.steps (fresh n) k.machine step k.leads can;
      words = words;
      many = many;
      seats = length-set s.views id w ∙ (k.seats ∙ sym actors);
      each = λ j u e. ⊎_elim (λ (m : (j ≡ id) × (w ≡ u)). subst (λ (i : ℕ). IsOf (next k.machine step) i u) (sym m.0) (subst (λ (x : View O E). IsOf (next k.machine step) id x) m.1 self))
          (λ (m : (j ≢ id) × (get_elem? s.views j ≡ some u)). others j u m.0 m.1 (k.each j u m.1)) (at_set s.views id j w u e);
      alone = λ j u e is. ⊎_elim (λ (m : (j ≡ id) × (w ≡ u)). m.0 ∙ k.alone id v at (sym writes ∙ (ap (λ (x : View O E). x.writes) m.1 ∙ is)))
          (λ (m : (j ≢ id) × (get_elem? s.views j ≡ some u)). k.alone j u m.1 is) (at_set s.views id j w u e);
    }

    -- the machine makes none, and the seat has a new view of the same actor
    pub stands : (s : table.State E (View O E)) (k : IsShown good n seat s) (id : ℕ) (v : View O E) → get_elem? s.views id ≡ some v → (w : View O E) (ws : List ℕ) → ws ≡ s.words → w.writes ≡ v.writes → (IsOf k.machine id v → IsOf k.machine id w)
        → IsShown good n seat (record { words = ws; homes = s.homes; views = set s.views id w })
    stands s k id v at w ws same writes self = record {
      steps = k.steps;
      machine = k.machine;
      leads = k.leads;
      words = subst (λ (xs : List ℕ). IsLaid n xs (length k.machine.history) k.machine.stamps k.machine.rows) (sym same) k.words;
      many = k.many;
      seats = length-set s.views id w ∙ k.seats;
      each = λ j u e. ⊎_elim (λ (m : (j ≡ id) × (w ≡ u)). subst (λ (i : ℕ). IsOf k.machine i u) (sym m.0) (subst (λ (x : View O E). IsOf k.machine id x) m.1 (self (k.each id v at))))
          (λ (m : (j ≢ id) × (get_elem? s.views j ≡ some u)). k.each j u m.1) (at_set s.views id j w u e);
      alone = λ j u e is. ⊎_elim (λ (m : (j ≡ id) × (w ≡ u)). m.0 ∙ k.alone id v at (sym writes ∙ (ap (λ (x : View O E). x.writes) m.1 ∙ is)))
          (λ (m : (j ≢ id) × (get_elem? s.views j ≡ some u)). k.alone j u m.1 is) (at_set s.views id j w u e);
    }

    pub same_word : (s : table.State E (View O E)) (i : ℕ) → set s.words i (slice_index s.words i) ≡ s.words
    same_word s i = set-get_or s.words i 0

    other_load : (m : State E) (id : ℕ) (load : Load) (j : ℕ) (u : View O E) → j ≢ id → IsOf m j u → IsOf (logged m id load) j u
    other_load m id load j u ne f = record { live = f.live; front = f.front; begins = f.begins; shown = λ l. f.shown l ∙ sym (count_other good m id j load (λ e. ne (sym e))); knows = f.knows }

    -- a reader's view after a load: it has recorded it, and whatever it keeps beside the machine
    own_load : (m : State E) (id : ℕ) (load : Load) (v w : View O E) → w.live ≡ v.live → w.writes ≡ v.writes → v.writes ≡ false → w.front ≡ v.front → w.told ≡ v.told → w.shown ≡ recorded load v.shown → IsOf m id v → IsOf (logged m id load) id w
    own_load m id load v w live writes idle front told shown f = record {
      live = live ∙ f.live;
      front = λ l i. (λ j. longer (front j) (told j)) ∙ f.front (sym live ∙ l) (sym writes ∙ i);
      begins = λ l. (subst (λ (xs : List E). IsPrefix xs m.history) (sym front) (f.begins (sym live ∙ l)).0, subst (λ (xs : List E). IsPrefix xs m.history) (sym told) (f.begins (sym live ∙ l)).1);
      shown = λ l. shown ∙ (ap (recorded load) (f.shown (sym live ∙ l)) ∙ sym (count_same good m id id load refl));
      knows = λ also. absurd (cc (also, writes, idle));
    }

    -- a load of a stamp
    pub reads_stamp : (s : table.State E (View O E)) (k : IsShown good n seat s) (id : ℕ) (v w : View O E) (r i : ℕ) → get_elem? s.views id ≡ some v → v.live ≡ true → v.writes ≡ false → r < n → i ≡ stamp_place r
        → w.live ≡ v.live → w.writes ≡ v.writes → w.front ≡ v.front → w.told ≡ v.told → w.shown ≡ recorded (Stamp r (slice_index s.words i) (is_closed v.shown || has_row r v.shown.rows)) v.shown
        → IsShown good n seat (record { words = set s.words i (slice_index s.words i); homes = s.homes; views = set s.views id w })
    reads_stamp s k id v w r i at live idle lt is live' writes' front' told' shown' =
        let f = k.each id v at in
        let m = k.machine in
        let there : r < length m.stamps = omega (arith, lt, k.many) in
        let x : slice_index s.words i ≡ stamp_at m r = ap (λ (q : ℕ). get_or s.words q 0) is ∙ k.words.stamp r lt in
        let load : Load = Stamp r (slice_index s.words i) (is_closed v.shown || has_row r v.shown.rows) in
        let load_is : Stamp r (stamp_at m r) (is_afresh m id r) ≡ load = λ j. Stamp r (sym x j) (is_closed (sym (f.shown live) j) || has_row r (sym (f.shown live) j).rows) in
        let self : IsOf (next m (LoadStamp id r)) id w = subst (λ (l : Load). IsOf (logged m id l) id w) (sym load_is) (own_load m id load v w live' writes' idle front' told' shown' f) in
        played s k id v at (LoadStamp id r) (sym f.live ∙ live, there) w (set s.words i (slice_index s.words i)) (laid_again n s.words (length m.history) m.stamps m.rows k.words i) k.many refl writes' self (λ j u ne at' g. other_load m id (Stamp r (stamp_at m r) (is_afresh m id r)) j u ne g)

    -- a load of a word of a row that the open record holds
    pub reads_word : (s : table.State E (View O E)) (k : IsShown good n seat s) (id : ℕ) (v w : View O E) (r j i : ℕ) → get_elem? s.views id ≡ some v → v.live ≡ true → v.writes ≡ false → r < n → j < 73 → is_closed v.shown ≡ false → has_row r v.shown.rows ≡ true → i ≡ word_place n r j
        → w.live ≡ v.live → w.writes ≡ v.writes → w.front ≡ v.front → w.told ≡ v.told → w.shown ≡ recorded (Word r j (slice_index s.words i)) v.shown
        → IsShown good n seat (record { words = set s.words i (slice_index s.words i); homes = s.homes; views = set s.views id w })
    reads_word s k id v w r j i at live idle lt small_word is_open holds is live' writes' front' told' shown' =
        let f = k.each id v at in
        let m = k.machine in
        let there : r < length m.stamps = omega (arith, lt, k.many) in
        let x : slice_index s.words i ≡ get_or (row_at m r) j 0 = ap (λ (q : ℕ). get_or s.words q 0) is ∙ k.words.word r j lt small_word in
        let load : Load = Word r j (slice_index s.words i) in
        let load_is : Word r j (get_or (row_at m r) j 0) ≡ load = λ q. Word r j (sym x q) in
        let self : IsOf (next m (LoadWord id r j)) id w = subst (λ (l : Load). IsOf (logged m id l) id w) (sym load_is) (own_load m id load v w live' writes' idle front' told' shown' f) in
        let can : Can good m (LoadWord id r j) = (sym f.live ∙ live, there, small_word, sym (ap is_closed (f.shown live)) ∙ is_open, sym (ap (λ (y : Record). has_row r y.rows) (f.shown live)) ∙ holds) in
        played s k id v at (LoadWord id r j) can w (set s.words i (slice_index s.words i)) (laid_again n s.words (length m.history) m.stamps m.rows k.words i) k.many refl writes' self (λ q u ne at' g. other_load m id (Word r j (get_or (row_at m r) j 0)) q u ne g)

    -- a load of the stamp again: where it finishes a lookup, its words are those of one row that is good after the entries counted, which the seat has seen
    pub reads_again : (s : table.State E (View O E)) (k : IsShown good n seat s) (id : ℕ) (v w : View O E) (r i : ℕ) → get_elem? s.views id ≡ some v → v.live ≡ true → v.writes ≡ false → r < n → is_closed v.shown ≡ true → has_row r v.shown.rows ≡ true → i ≡ stamp_place r
        → w.live ≡ v.live → w.writes ≡ v.writes → w.front ≡ v.front → w.told ≡ v.told → w.shown ≡ v.shown
        → IsShown good n seat (record { words = set s.words i (slice_index s.words i); homes = s.homes; views = set s.views id w }) × AreRight good (longer v.front v.told) (finished_by (Again r (slice_index s.words i)) v.shown.count v.shown.rows)
    reads_again s k id v w r i at live idle lt closed holds is live' writes' front' told' shown' =
        let f = k.each id v at in
        let m = k.machine in
        let sound = sound_of s k in
        let there : r < length m.stamps = omega (arith, lt, k.many) in
        let x : slice_index s.words i ≡ stamp_at m r = ap (λ (q : ℕ). get_or s.words q 0) is ∙ k.words.stamp r lt in
        let can : Can good m (LoadStampAgain id r) = (sym f.live ∙ live, there, sym (ap is_closed (f.shown live)) ∙ closed, sym (ap (λ (y : Record). has_row r y.rows) (f.shown live)) ∙ holds) in
        let load : Load = Again r (stamp_at m r) in
        let after : Sound good (next m (LoadStampAgain id r)) = step_sound good m (LoadStampAgain id r) can sound in
        let right : AreRight good m.history (finished_by load (record_of id m.log).count (record_of id m.log).rows) = first_right m.history (finished_by load (record_of id m.log).count (record_of id m.log).rows) _ after.lookups in
        let seen : AreRight good (actor_at m id).front (finished_by load (record_of id m.log).count (record_of id m.log).rows) =
        right_front (actor_at m id).front m.history (sound.fronts id) r (stamp_at m r) (record_of id m.log).count (record_of id m.log).rows (sound.counts id) right in (
          played s k id v at (LoadStampAgain id r) can w (set s.words i (slice_index s.words i)) (laid_again n s.words (length m.history) m.stamps m.rows k.words i) k.many refl writes' (own_load m id load v w live' writes' idle front' told' shown' f) (λ q u ne at' g. other_load m id load q u ne g),
          subst (λ (y : ℕ). AreRight good (longer v.front v.told) (finished_by (Again r y) v.shown.count v.shown.rows)) (sym x)
              (subst (λ (y : Record). AreRight good (longer v.front v.told) (finished_by load y.count y.rows)) (sym (f.shown live)) (subst (λ (h : List E). AreRight good h (finished_by load (record_of id m.log).count (record_of id m.log).rows)) (sym (f.front live idle)) seen)),
        )

    -- a load of word 0
    pub looks : (s : table.State E (View O E)) (k : IsShown good n seat s) (id : ℕ) (v w : View O E) → get_elem? s.views id ≡ some v → v.live ≡ true → w.live ≡ true → v.writes ≡ false → w.writes ≡ false → w.front ≡ k.machine.history → w.told ≡ [] → w.shown ≡ recorded (Count (length k.machine.history)) v.shown
        → IsShown good n seat (record { words = s.words; homes = s.homes; views = set s.views id w })
    looks s k id v w at live live' idle idle' front told shown =
        let f = k.each id v at in
        let m = k.machine in
        let is_live_here : is_live m id ≡ true = sym f.live ∙ live in
        let new : Actor E = living m.history in
        let now = record m { actors = set m.actors id new } in
        let at_new : get_or (set m.actors id new) id no_actor ≡ new = get_or-set_same m.actors id new no_actor (is_there good m id is_live_here) in
        let load : Load = Count (length m.history) in
        let before : IsOf now id (record v { front = m.history; told = [] }) = record { live = live ∙ sym (ap (λ (y : Actor E). y.live) at_new); front = λ l i. longer_nothing m.history ∙ sym (ap (λ (y : Actor E). y.front) at_new); begins = λ l. (prefix_self m.history, (m.history, refl)); shown = f.shown; knows = f.knows } in
        let others : (j : ℕ) (u : View O E) → j ≢ id → get_elem? s.views j ≡ some u → IsOf m j u → IsOf (next m (LoadCount id)) j u = λ j u ne at' g.
        let same : get_or (set m.actors id new) j no_actor ≡ actor_at m j = get_or-set_other m.actors id j new no_actor ne in
        other_load now id load j u ne (record { live = g.live ∙ sym (ap (λ (y : Actor E). y.live) same); front = λ l i. g.front l i ∙ sym (ap (λ (y : Actor E). y.front) same); begins = g.begins; shown = g.shown; knows = g.knows }) in
        played s k id v at (LoadCount id) is_live_here w s.words k.words k.many (length-set m.actors id new) (idle' ∙ sym idle)
        (own_load now id load (record v { front = m.history; told = [] }) w (live' ∙ sym live) (idle' ∙ sym idle) idle front told shown before) others

    -- what a store by the writer leaves of the others
    other_store : (s : table.State E (View O E)) (k : IsShown good n seat s) (id : ℕ) (v : View O E) → get_elem? s.views id ≡ some v → v.writes ≡ true → (m : State E) → m.actors ≡ k.machine.actors → m.log ≡ k.machine.log → ((xs : List E) → IsPrefix xs k.machine.history → IsPrefix xs m.history)
        → (j : ℕ) (u : View O E) → j ≢ id → get_elem? s.views j ≡ some u → IsOf k.machine j u → IsOf m j u
    other_store s k id v at writes m actors log later j u ne at' g = record {
      live = g.live ∙ ap (λ (xs : List (Actor E)). (get_or xs j no_actor).live) (sym actors);
      begins = λ l. (later u.front (g.begins l).0, later u.told (g.begins l).1);
      front = λ l i. g.front l i ∙ ap (λ (xs : List (Actor E)). (get_or xs j no_actor).front) (sym actors);
      shown = λ l. g.shown l ∙ ap (record_of j) (sym log);
      knows = λ also. absurd (ne (k.alone j u at' also ∙ sym (k.alone id v at writes)));
    }

    pub puts_word : (s : table.State E (View O E)) (k : IsShown good n seat s) (id : ℕ) (v : View O E) (r j i x : ℕ) → get_elem? s.views id ≡ some v → v.writes ≡ true → r < n → j < 73 → i ≡ word_place n r j → get_or v.stamps r 0 ≡ 0
        → IsShown good n seat (record { words = set s.words i x; homes = s.homes; views = set s.views id (record v { rows = set v.rows r (set (get_or v.rows r []) j x) }) })
    puts_word s k id v r j i x at writes lt small_word is old =
        let f = k.each id v at in
        let m = k.machine in
        let knows = f.knows writes in
        let sound = sound_of s k in
        let even = sound.even in
        let there : r < length m.stamps = omega (arith, lt, k.many) in
        let all = all_wide m.rows (λ q lt'. sound.wide q (omega (arith, lt', even))) in
        let old_now : stamp_at m r ≡ 0 = ap (λ (ss : List ℕ). get_or ss r 0) (sym knows.1) ∙ old in
        let w = record v { rows = set v.rows r (set (get_or v.rows r []) j x) } in
        let in_rows : r < length m.rows = omega (arith, there, even) in
        let words = laid_word n s.words (length m.history) m.stamps m.rows k.words r j i x lt small_word in_rows (wide_at m.rows r all in_rows) is in
        let self : IsOf (next m (StoreWord r j x)) id w = record { live = f.live; front = f.front; begins = f.begins; shown = f.shown; knows = λ _. (knows.0, knows.1, ap (λ (rows : List (List ℕ)). set rows r (set (get_or rows r []) j x)) knows.2, knows.3) } in
        played s k id v at (StoreWord r j x) (there, small_word, old_now) w (set s.words i x) words k.many refl refl self (other_store s k id v at writes (next m (StoreWord r j x)) refl refl (λ xs p. p))

    pub shakes : (s : table.State E (View O E)) (k : IsShown good n seat s) (id : ℕ) (v : View O E) (r i : ℕ) → get_elem? s.views id ≡ some v → v.writes ≡ true → r < n → i ≡ stamp_place r
        → IsShown good n seat (record { words = set s.words i 0; homes = s.homes; views = set s.views id (record v { stamps = set v.stamps r 0 }) })
    shakes s k id v r i at writes lt is =
        let f = k.each id v at in
        let m = k.machine in
        let knows = f.knows writes in
        let there : r < length m.stamps = omega (arith, lt, k.many) in
        let w = record v { stamps = set v.stamps r 0 } in
        let words = laid_stamp n s.words (length m.history) m.stamps m.rows k.words r i 0 k.many lt is in
        let self : IsOf (next m (ClearStamp r)) id w = record { live = f.live; front = f.front; begins = f.begins; shown = f.shown; knows = λ _. (knows.0, ap (λ (ss : List ℕ). set ss r 0) knows.1, knows.2, knows.3) } in
        played s k id v at (ClearStamp r) there w (set s.words i 0) words (length-set m.stamps r 0 ∙ k.many) refl refl self (other_store s k id v at writes (next m (ClearStamp r)) refl refl (λ xs p. p))

    pub restamps : (s : table.State E (View O E)) (k : IsShown good n seat s) (id : ℕ) (v : View O E) (r i x : ℕ) → get_elem? s.views id ≡ some v → v.writes ≡ true → r < n → i ≡ stamp_place r → x ≡ v.given + 1 → v.given < 18446744073709551615 → get_or v.stamps r 0 ≡ 0 → good v.history (get_or v.rows r [])
        → IsShown good n seat (record { words = set s.words i x; homes = s.homes; views = set s.views id (record v { given = v.given + 1; stamps = set v.stamps r (v.given + 1) }) })
    restamps s k id v r i x at writes lt is x_is few old good_now =
        let f = k.each id v at in
        let m = k.machine in
        let knows = f.knows writes in
        let there : r < length m.stamps = omega (arith, lt, k.many) in
        let old_now : stamp_at m r ≡ 0 = ap (λ (ss : List ℕ). get_or ss r 0) (sym knows.1) ∙ old in
        let x_now : x ≡ m.given + 1 = x_is ∙ ap (λ (g : ℕ). g + 1) knows.0 in
        let few_now : m.given < 18446744073709551615 = subst (λ (g : ℕ). g < 18446744073709551615) knows.0 few in
        let good_here : good m.history (row_at m r) = subst (λ (h : List E). good h (row_at m r)) knows.3 (subst (λ (rows : List (List ℕ)). good v.history (get_or rows r [])) knows.2 good_now) in
        let w = record v { given = v.given + 1; stamps = set v.stamps r (v.given + 1) } in
        let words = subst (λ (y : ℕ). IsLaid n (set s.words i x) (length m.history) (set m.stamps r y) m.rows) x_now (laid_stamp n s.words (length m.history) m.stamps m.rows k.words r i x k.many lt is) in
        let given : v.given + 1 ≡ m.given + 1 = ap (λ (g : ℕ). g + 1) knows.0 in
        let self : IsOf (next m (StoreStamp r)) id w = record { live = f.live; front = f.front; begins = f.begins; shown = f.shown; knows = λ _. (given, ap (λ (ss : List ℕ). set ss r (v.given + 1)) knows.1 ∙ ap (λ (y : ℕ). set m.stamps r y) given, knows.2, knows.3) } in
        played s k id v at (StoreStamp r) (there, old_now, few_now, good_here) w (set s.words i x) words (length-set m.stamps r (m.given + 1) ∙ k.many) refl refl self (other_store s k id v at writes (next m (StoreStamp r)) refl refl (λ xs p. p))

    -- a store of word 0, which adds an entry; what else the seat keeps may change
    pub adds : (s : table.State E (View O E)) (k : IsShown good n seat s) (id : ℕ) (v w : View O E) (e : E) (x : ℕ) → get_elem? s.views id ≡ some v → v.writes ≡ true → x ≡ 4294967296 + length v.history + 1 → length v.history < 4294967295 → ((r : ℕ) → get_or v.stamps r 0 ≢ 0 → good (v.history ++ e ∷ []) (get_or v.rows r []))
        → w ≡ record v { history = v.history ++ e ∷ []; receipts = w.receipts; permits = w.permits; kept = w.kept }
        → IsShown good n seat (record { words = set s.words 0 x; homes = s.homes; views = set s.views id w })
    adds s k id v w e x at writes x_is few stay is =
        let f = k.each id v at in
        let m = k.machine in
        let knows = f.knows writes in
        let few_now : length m.history < 4294967295 = subst (λ (h : List E). length h < 4294967295) knows.3 few in
        let stay_now : (r : ℕ) → stamp_at m r ≢ 0 → good (m.history ++ e ∷ []) (row_at m r) =
        subst (λ (h : List E). (r : ℕ) → stamp_at m r ≢ 0 → good (h ++ e ∷ []) (row_at m r)) knows.3 (subst (λ (rows : List (List ℕ)). (r : ℕ) → stamp_at m r ≢ 0 → good (v.history ++ e ∷ []) (get_or rows r [])) knows.2
        (subst (λ (ss : List ℕ). (r : ℕ) → get_or ss r 0 ≢ 0 → good (v.history ++ e ∷ []) (get_or v.rows r [])) knows.1 stay)) in
        let x_now : x ≡ 4294967296 + length (m.history ++ e ∷ []) = omega (arith, x_is, ap length knows.3, length-append m.history (e ∷ [])) in
        let words = laid_count n s.words (length m.history) m.stamps m.rows k.words (length (m.history ++ e ∷ [])) x x_now in
        let u = record v { history = v.history ++ e ∷ []; receipts = w.receipts; permits = w.permits; kept = w.kept } in
        let self : IsOf (next m (StoreCount e)) id u = record { live = f.live; front = f.front; begins = λ l. (prefix_more v.front m.history e (f.begins l).0, prefix_more v.told m.history e (f.begins l).1); shown = f.shown; knows = λ _. (knows.0, knows.1, knows.2, ap (λ (h : List E). h ++ e ∷ []) knows.3) } in
        played s k id v at (StoreCount e) (few_now, stay_now) w (set s.words 0 x) words k.many refl (ap (λ (y : View O E). y.writes) is) (subst (λ (y : View O E). IsOf (next m (StoreCount e)) id y) (sym is) self) (other_store s k id v at writes (next m (StoreCount e)) refl refl (λ xs p. prefix_more xs m.history e p))

    -- what a split leaves: the old seat has another view of its actor, and the new one has seen as much and recorded nothing
    pub splits : (s : table.State E (View O E)) (k : IsShown good n seat s) (id : ℕ) (v l r : View O E) → get_elem? s.views id ≡ some v → v.live ≡ true → l.writes ≡ v.writes → (IsOf k.machine id v → IsOf k.machine id l) → r.live ≡ true → r.writes ≡ false → longer r.front r.told ≡ (actor_at k.machine id).front
        → IsPrefix r.front k.machine.history → IsPrefix r.told k.machine.history → r.shown ≡ no_record
        → IsShown good n seat (record { words = s.words; homes = s.homes; views = set s.views id l ++ r ∷ [] })
    splits s k id v l r at live writes own live' idle front begins told shown =
        let m = k.machine in
        let sound = sound_of s k in
        let new : Actor E = living (actor_at m id).front in
        let m' = next m (Split id) in
        let vs = set s.views id l in
        let to = length s.views in
        let long : length vs ≡ to = length-set s.views id l in
        let old : (j : ℕ) → j < to → actor_at m' j ≡ actor_at m j = λ j lt. get_or_append_left m.actors (new ∷ []) no_actor j (omega (arith, lt, k.seats)) in
        let here : actor_at m' to ≡ new = subst (λ (i : ℕ). actor_at m' i ≡ new) (sym k.seats) (last_of m.actors new no_actor) in
        let stays : (j : ℕ) (u : View O E) → j < to → IsOf m j u → IsOf m' j u = λ j u lt g. record {
          live = g.live ∙ sym (ap (λ (y : Actor E). y.live) (old j lt));
          front = λ l i. g.front l i ∙ sym (ap (λ (y : Actor E). y.front) (old j lt));
          begins = g.begins;
          shown = g.shown;
          knows = g.knows;
        } in
        let comes : IsOf m' to r = record {
          live = live' ∙ sym (ap (λ (y : Actor E). y.live) here);
          front = λ l i. front ∙ sym (ap (λ (y : Actor E). y.front) here);
          begins = λ l. (begins, told);
          shown = λ l. shown ∙ sym (sound.newcomers to (omega (arith, k.seats)));
          knows = λ no. absurd (cc (no, idle));
        } in
        let each : (j : ℕ) (u : View O E) → get_elem? vs j ≡ some u → IsOf m j u = λ j u e. ⊎_elim (λ (q : (j ≡ id) × (l ≡ u)). subst (λ (i : ℕ). IsOf m i u) (sym q.0) (subst (λ (x : View O E). IsOf m id x) q.1 (own (k.each id v at))))
        (λ (q : (j ≢ id) × (get_elem? s.views j ≡ some u)). k.each j u q.1) (at_set s.views id j l u e) in
        let alone : (j : ℕ) (u : View O E) → get_elem? vs j ≡ some u → u.writes ≡ true → j ≡ seat = λ j u e is. ⊎_elim (λ (q : (j ≡ id) × (l ≡ u)). q.0 ∙ k.alone id v at (sym writes ∙ (ap (λ (x : View O E). x.writes) q.1 ∙ is)))
        (λ (q : (j ≢ id) × (get_elem? s.views j ≡ some u)). k.alone j u q.1 is) (at_set s.views id j l u e) in
        record {
          steps = k.steps ++ Split id ∷ [];
          machine = m';
          leads = leads_more k.steps (fresh n) m (Split id) k.leads (sym (k.each id v at).live ∙ live);
          words = k.words;
          many = k.many;
          seats = omega (arith, length-append vs (r ∷ []), long, length-append m.actors (new ∷ []), k.seats);
          each = λ j u e. ⊎_elim (λ (h : (j < length vs) × (get_elem? vs j ≡ some u)). stays j u (omega (arith, h.0, long)) (each j u h.1))
              (λ (h : (j ≡ length vs) × (r ≡ u)). subst (λ (i : ℕ). IsOf m' i u) (sym (h.0 ∙ long)) (subst (λ (x : View O E). IsOf m' to x) h.1 comes)) (at_end vs r u j e);
          alone = λ j u e is. ⊎_elim (λ (h : (j < length vs) × (get_elem? vs j ≡ some u)). alone j u h.1 is)
              (λ (h : (j ≡ length vs) × (r ≡ u)). let no : u.writes ≡ false = sym (ap (λ (x : View O E). x.writes) h.1) ∙ idle in absurd (cc (no, is))) (at_end vs r u j e);
        }

    -- a new pass, or one that parts: a split, and the new actor's load of word 0
    pub enters : (s : table.State E (View O E)) (k : IsShown good n seat s) (id : ℕ) (v l r : View O E) → get_elem? s.views id ≡ some v → v.live ≡ true → l.writes ≡ v.writes → (IsOf k.machine id v → IsOf k.machine id l) → r.live ≡ true → r.writes ≡ false → r.front ≡ k.machine.history → r.told ≡ [] → r.shown ≡ recorded (Count (length k.machine.history)) no_record
        → IsShown good n seat (record { words = s.words; homes = s.homes; views = set s.views id l ++ r ∷ [] })
    unfolding splits
    enters s k id v l r at live writes own live' idle front told shown =
        let m = k.machine in
        let u : View O E = record spent { live = true; front = (actor_at m id).front } in
        let vs = set s.views id l in
        let one = splits s k id v l u at live writes own refl refl (longer_nothing (actor_at m id).front) ((sound_of s k).fronts id) (m.history, refl) refl in
        let two = looks (record { words = s.words; homes = s.homes; views = vs ++ u ∷ [] }) one (length vs) u r (at_last vs u (length vs) refl) refl live' refl idle front told shown in
        subst (λ (ws : List (View O E)). IsShown good n seat (record { words = s.words; homes = s.homes; views = ws })) (set_last vs u r) two

    -- a seat learns from another or takes it in, and the other is given up
    pub joins : (s : table.State E (View O E)) (k : IsShown good n seat s) (id : ℕ) (v : View O E) (other : ℕ) (w b : View O E) → get_elem? s.views id ≡ some v → ¬ (other ≡ id) → get_elem? (set s.views id b) other ≡ some w → v.live ≡ true → w.live ≡ true → w.writes ≡ false
        → b.live ≡ true → b.writes ≡ v.writes → (v.writes ≡ false → longer b.front b.told ≡ longer (actor_at k.machine id).front (actor_at k.machine other).front) → IsPrefix b.front k.machine.history → IsPrefix b.told k.machine.history → b.shown ≡ v.shown
        → (v.writes ≡ true → (b.given ≡ v.given) × (b.stamps ≡ v.stamps) × (b.rows ≡ v.rows) × (b.history ≡ v.history))
        → IsShown good n seat (record { words = s.words; homes = s.homes; views = set (set s.views id b) other spent })
    joins s k id v other w b at apart there live also no_writer live' writes front begins told shown knows =
        let f = k.each id v at in
        let m = k.machine in
        let there' : get_elem? s.views other ≡ some w = sym (set_else s.views id other b apart) ∙ there in
        let g = k.each other w there' in
        let one : Actor E = living (longer (actor_at m id).front (actor_at m other).front) in
        let two : Actor E = record { live = false; front = (actor_at m other).front } in
        let m' = next m (Join id other) in
        let is_live_here : is_live m id ≡ true = sym f.live ∙ live in
        let is_live_there : is_live m other ≡ true = sym g.live ∙ also in
        let first : get_or (set m.actors id one) id no_actor ≡ one = get_or-set_same m.actors id one no_actor (is_there good m id is_live_here) in
        let at_id : actor_at m' id ≡ one = get_or-set_other (set m.actors id one) other id two no_actor (λ e. apart (sym e)) ∙ first in
        let at_other : actor_at m' other ≡ two = get_or-set_same (set m.actors id one) other two no_actor (omega (arith, is_there good m other is_live_there, length-set m.actors id one)) in
        let old : (j : ℕ) → j ≢ id → j ≢ other → actor_at m' j ≡ actor_at m j = λ j ne ne'. get_or-set_other (set m.actors id one) other j two no_actor ne' ∙ get_or-set_other m.actors id j one no_actor ne in
        let learned : IsOf m' id b = record {
          live = live' ∙ sym (ap (λ (y : Actor E). y.live) at_id);
          front = λ l i. front (sym writes ∙ i) ∙ sym (ap (λ (y : Actor E). y.front) at_id);
          begins = λ l. (begins, told);
          shown = λ l. shown ∙ f.shown live;
          knows = λ is. let same = knows (sym writes ∙ is) in let had = f.knows (sym writes ∙ is) in (same.0 ∙ had.0, same.1 ∙ had.1, same.2 ∙ had.2, same.3 ∙ had.3);
        } in
        let given_up : IsOf m' other spent = record { live = sym (ap (λ (y : Actor E). y.live) at_other); front = λ l i. absurd (cc l); begins = λ l. absurd (cc l); shown = λ l. absurd (cc l); knows = λ no. absurd (cc no) } in
        let stays : (j : ℕ) (u : View O E) → j ≢ id → j ≢ other → IsOf m j u → IsOf m' j u = λ j u ne ne' h. record {
          live = h.live ∙ sym (ap (λ (y : Actor E). y.live) (old j ne ne'));
          front = λ l i. h.front l i ∙ sym (ap (λ (y : Actor E). y.front) (old j ne ne'));
          begins = h.begins;
          shown = h.shown;
          knows = h.knows;
        } in
        let vs = set s.views id b in
        record {
          steps = k.steps ++ Join id other ∷ [];
          machine = m';
          leads = leads_more k.steps (fresh n) m (Join id other) k.leads (is_live_here, is_live_there, λ e. apart (sym e));
          words = k.words;
          many = k.many;
          seats = omega (arith, length-set vs other spent, length-set s.views id b, length-set (set m.actors id one) other two, length-set m.actors id one, k.seats);
          each = λ j u e. ⊎_elim (λ (h : (j ≡ other) × (spent ≡ u)). subst (λ (i : ℕ). IsOf m' i u) (sym h.0) (subst (λ (x : View O E). IsOf m' other x) h.1 given_up))
              (λ (h : (j ≢ other) × (get_elem? vs j ≡ some u)). ⊎_elim (λ (q : (j ≡ id) × (b ≡ u)). subst (λ (i : ℕ). IsOf m' i u) (sym q.0) (subst (λ (x : View O E). IsOf m' id x) q.1 learned))
              (λ (q : (j ≢ id) × (get_elem? s.views j ≡ some u)). stays j u q.0 h.0 (k.each j u q.1)) (at_set s.views id j b u h.1)) (at_set vs other j spent u e);
          alone = λ j u e is. ⊎_elim (λ (h : (j ≡ other) × (spent ≡ u)). let no : u.writes ≡ false = sym (ap (λ (x : View O E). x.writes) h.1) in absurd (cc (no, is)))
              (λ (h : (j ≢ other) × (get_elem? vs j ≡ some u)). ⊎_elim (λ (q : (j ≡ id) × (b ≡ u)). q.0 ∙ k.alone id v at (sym writes ∙ (ap (λ (x : View O E). x.writes) q.1 ∙ is)))
              (λ (q : (j ≢ id) × (get_elem? s.views j ≡ some u)). k.alone j u q.1 is) (at_set s.views id j b u h.1)) (at_set vs other j spent u e);
        }

    -- a view goes to a new seat: a split, and the new actor takes in the old one
    pub leaves : (s : table.State E (View O E)) (k : IsShown good n seat s) (id : ℕ) (v r : View O E) → get_elem? s.views id ≡ some v → v.live ≡ true → v.writes ≡ false → v.told ≡ [] → r.live ≡ true → r.writes ≡ false → r.front ≡ v.front → r.told ≡ [] → r.shown ≡ no_record
        → IsShown good n seat (record { words = s.words; homes = s.homes; views = set s.views id spent ++ r ∷ [] })
    leaves s k id v r at live idle rest live' idle' front told shown =
        let f = k.each id v at in
        let m = k.machine in
        let to = length s.views in
        let own : v.front ≡ (actor_at m id).front = sym (longer_nothing v.front) ∙ (ap (λ (xs : List E). longer v.front xs) (sym rest) ∙ f.front live idle) in
        let begins : IsPrefix r.front m.history = subst (λ (xs : List E). IsPrefix xs m.history) (sym front) (f.begins live).0 in
        let no_told : IsPrefix r.told m.history = subst (λ (xs : List E). IsPrefix xs m.history) (sym told) (m.history, refl) in
        let mine : longer r.front r.told ≡ v.front = (λ i. longer (front i) (told i)) ∙ longer_nothing v.front in
        let one = splits s k id v v r at live refl (λ g. g) live' idle' (mine ∙ own) begins no_told shown in
        let views = set s.views id v ++ r ∷ [] in
        let again : set s.views id v ≡ s.views = set_again s.views id v at in
        let there = before_last s.views id v at in
        let two : IsShown good n seat (record { words = s.words; homes = s.homes; views = s.views ++ r ∷ [] }) = subst (λ (vs : List (View O E)). IsShown good n seat (record { words = s.words; homes = s.homes; views = vs ++ r ∷ [] })) again one in
        let ne : ¬ (id ≡ to) = λ e. absurd (omega (arith, there, e)) in
        let here : get_elem? (s.views ++ r ∷ []) to ≡ some r = at_last s.views r to refl in
        let old : get_elem? (set (s.views ++ r ∷ []) to r) id ≡ some v = set_else (s.views ++ r ∷ []) to id r ne ∙ at_longer s.views (r ∷ []) id v at in
        let now = two.each to r here in
        let was = two.each id v (at_longer s.views (r ∷ []) id v at) in
        let same : longer r.front r.told ≡ longer (actor_at two.machine to).front (actor_at two.machine id).front =
        mine ∙ (sym (longer_same v.front) ∙ (λ i. longer ((sym mine ∙ now.front live' idle') i) ((sym (longer_nothing v.front) ∙ (ap (λ (xs : List E). longer v.front xs) (sym rest) ∙ was.front live idle)) i))) in
        let three : IsShown good n seat (record { words = s.words; homes = s.homes; views = set (set (s.views ++ r ∷ []) to r) id spent }) =
        joins (record { words = s.words; homes = s.homes; views = s.views ++ r ∷ [] }) two to r id v r here ne old live' live idle live' refl (λ i. same) (now.begins live').0 (now.begins live').1 refl (λ no. absurd (cc (no, idle'))) in
        let places : set (set (s.views ++ r ∷ []) to r) id spent ≡ set s.views id spent ++ r ∷ [] = ap (λ (vs : List (View O E)). set vs id spent) (set_last s.views r r) ∙ set-append_left s.views (r ∷ []) id spent there in
        subst (λ (vs : List (View O E)). IsShown good n seat (record { words = s.words; homes = s.homes; views = vs })) places three

    -- the table at the start
    pub opens : (first : View O E) (words : List ℕ) → first.live ≡ true → first.writes ≡ true → first.front ≡ [] → first.told ≡ [] → first.shown ≡ no_record → first.given ≡ 0
        → (let zero : ℕ = 0 in first.stamps ≡ replicate n zero) → (let zero : ℕ = 0 in first.rows ≡ replicate n (replicate 73 zero)) → first.history ≡ [] → seat ≡ 0 → (let zero : ℕ = 0 in IsLaid n words 0 (replicate n zero) (replicate n (replicate 73 zero)))
        → IsShown good n seat (record { words = words; homes = []; views = first ∷ [] })
    opens first words live writes front told shown given stamps rows history seat_is words_is =
        let zero : ℕ = 0 in
        let is_first : (id : ℕ) (v : View O E) → get_elem? (first ∷ []) id ≡ some v → (id ≡ 0) × (first ≡ v) = λ id v e. first_of first v id e in
        let none : (xs : List E) → xs ≡ [] → IsPrefix xs [] = λ xs is. subst (λ (ys : List E). IsPrefix ys []) (sym is) ([], refl) in
        let own : IsOf (fresh n) 0 first = record {
          live = live;
          front = λ l no. absurd (cc (writes, no));
          begins = λ l. (none first.front front, none first.told told);
          shown = λ l. shown;
          knows = λ w. (given, stamps, rows, history);
        } in
        record {
          steps = [];
          machine = fresh n;
          leads = refl;
          words = words_is;
          many = length-replicate n zero;
          seats = refl;
          each = λ id v e. let h = is_first id v e in subst (λ (i : ℕ). IsOf (fresh n) i v) (sym h.0) (subst (λ (x : View O E). IsOf (fresh n) 0 x) h.1 own);
          alone = λ id v e is. (is_first id v e).0 ∙ sym seat_is;
        }
