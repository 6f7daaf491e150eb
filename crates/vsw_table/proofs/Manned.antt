-- What each step keeps of the passes, their entries and their permits.
use Rattle.std.proofs.Common.{◌≡◌, ◌≢◌, ℕ, ◌+◌, ◌*◌, ◌-◌, ◌<◌, ◌≤◌, ◌==◌, true, false, if◌then◌else◌, List, [], ◌∷◌, ◌++◌, length, refl, ap, sym, ◌∙◌, subst, arith, ⊎_elim, set, get_or, length-set, get_or-set_same, get_or-set_other, length-append, eq-eqb, ne_eqb}
use mathlib.Core.Option.{some, some-injective}
use lib.ListN.{get_elem?}
use native.Mathlib.Decide.{ℕ_discrete}
use mathlib.Core.Logic.{dite}
use Rattle.atomic_table.proofs.Lists.{at_set, set_else, set_again, at_longer}
use Rattle.vsw_table.specs.declared.view.View.{View}
use Rattle.vsw_table.specs.Rules.{IsManned, IsDesk, Fits, spent, lent, writer_of, pass_of, granted, advanced, one_more, newcomer, by_caller, permits_of, first_view}
use Rattle.vsw_table.proofs.Words.{at_end, set_at, set_comm, get_or-longer, get_or-beyond, first_of}
use Rattle.vsw_table.proofs.Counts.{length_bounded, by_caller-mine, by_caller-other, all_below-append, all_below-more, none_named}

-- where a number has moved to
abbrev gone : (ℕ → ℕ) → ℕ → ℕ → ℕ → ℕ
gone place number id n = if n == number then id else place n

gone_here : (place : ℕ → ℕ) (number id n : ℕ) → n ≡ number → gone place number id n ≡ id
gone_here place number id n e = rw (eq-eqb n number e) refl

gone_else : (place : ℕ → ℕ) (number id n : ℕ) → n ≢ number → gone place number id n ≡ place n
gone_else place number id n e = rw (ne_eqb n number e) refl

module _ {O E : Type 0} (who : O → E → ℕ) (o : O) (seat : ℕ) where
  abbrev V : Type 0
  V = View O E

  abbrev Manned : V → List V → Type 0
  Manned t vs = IsManned who o seat t vs

  -- there are not many entries
  pub few_entries : (t : V) → IsDesk who o t → length t.history ≤ 3221225472
  few_entries t d =
      let b : length t.history ≤ t.passes * 134217728 = length_bounded (who o) t.passes 134217728 t.history d.named (λ k. omega (arith, d.granted k)) in
      omega (arith, b, d.few)

  -- the writer's view is the one that is kept
  pub as_writer : (t v : V) (vs : List V) (id : ℕ) → Manned t vs → id ≡ seat → get_elem? vs id ≡ some v → v ≡ t
  as_writer t v vs id k is at = some-injective v t (sym at ∙ (ap (λ (i : ℕ). get_elem? vs i) is ∙ k.here))

  -- a seat that doesn't write isn't the writer's
  pub not_writer : (t v : V) (vs : List V) (id : ℕ) → Manned t vs → get_elem? vs id ≡ some v → v.writes ≡ false → id ≢ seat
  not_writer t v vs id k at idle e =
      let same = as_writer t v vs id k e at in
      let a : v.writes ≡ true = ap (λ (u : V). u.writes) same ∙ k.desk.writes in
      absurd (cc (a, idle))

  -- one seat has a new view, and passes may have moved
  changes : (t t' : V) (vs : List V) (k : Manned t vs) (id : ℕ) (w : V) (place : ℕ → ℕ) → get_elem? (set vs id w) seat ≡ some t' → IsDesk who o t'
      → ((j : ℕ) (v : V) → j ≢ id → get_elem? vs j ≡ some v → Fits who o k.place t j v → Fits who o place t' j v)
      → Fits who o place t' id w → Manned t' (set vs id w)
  changes t t' vs k id w place here desk others self = record {
    place = place;
    here = here;
    desk = desk;
    each = λ j u e. ⊎_elim (λ (m : (j ≡ id) × (w ≡ u)). subst (λ (i : ℕ). Fits who o place t' i u) (sym m.0) (subst (λ (x : V). Fits who o place t' id x) m.1 self))
        (λ (m : (j ≢ id) × (get_elem? vs j ≡ some u)). others j u m.0 m.1 (k.each j u m.1)) (at_set vs id j w u e);
  }

  -- another seat than the writer's has a new view that fits
  turns : (t : V) (vs : List V) (k : Manned t vs) (id : ℕ) (w : V) → id ≢ seat → Fits who o k.place t id w → Manned t (set vs id w)
  turns t vs k id w ne fits = changes t t vs k id w k.place (set_else vs id seat w (λ e. ne (sym e)) ∙ k.here) k.desk (λ j v n at f. f) fits

  -- a pass has a new view, in which it is the same pass
  pub reads : (t : V) (vs : List V) (k : Manned t vs) (id : ℕ) (v w : V) → get_elem? vs id ≡ some v → v.writes ≡ false → w.crosses ≡ v.crosses → w.number ≡ v.number → w.receipts ≡ v.receipts → w.permits ≡ v.permits → w.opening ≡ v.opening → Manned t (set vs id w)
  reads t vs k id v w at idle crosses number receipts permits opening =
      let f = k.each id v at in
      turns t vs k id w (not_writer t v vs id k at idle) (record {
        placed = λ c. let p = f.placed (sym crosses ∙ c) in (ap k.place number ∙ p.0, omega (arith, number, p.1));
        receipts = λ c. receipts ∙ (f.receipts (sym crosses ∙ c) ∙ ap (λ (n : ℕ). by_caller (who o) n t.history) (sym number));
        permits = λ c. permits ∙ (f.permits (sym crosses ∙ c) ∙ ap (permits_of t) (sym number));
        opens = λ c. opening ∙ f.opens (sym crosses ∙ c);
      })

  -- the writer's seat has a new view, which keeps the same of all passes
  pub stays : (t t' : V) (vs : List V) (k : Manned t vs) (id : ℕ) → id ≡ seat → t'.writes ≡ t.writes → t'.live ≡ t.live → t'.opening ≡ t.opening → t'.history ≡ t.history → t'.passes ≡ t.passes → t'.kept ≡ t.kept
      → t'.crosses ≡ t.crosses → t'.number ≡ t.number → t'.receipts ≡ t.receipts → t'.permits ≡ t.permits → Manned t' (set vs id t')
  stays t t' vs k id is writes live opening history passes kept crosses number receipts permits =
      let d = k.desk in
      let f = k.each seat t k.here in
      let still : (n : ℕ) → by_caller (who o) n t.history ≡ by_caller (who o) n t'.history = λ n. ap (by_caller (who o) n) (sym history) in
      let desk : IsDesk who o t' = record {
        writes = writes ∙ d.writes;
        live = live ∙ d.live;
        opens = opening ∙ d.opens;
        named = rw (history, passes) d.named;
        kept = ap length kept ∙ (d.kept ∙ sym passes);
        few = omega (arith, passes, d.few);
        granted = rw (history, kept) d.granted;
      } in
      let others : (j : ℕ) (v : V) → j ≢ id → get_elem? vs j ≡ some v → Fits who o k.place t j v → Fits who o k.place t' j v = λ j v ne at g. record {
        placed = λ c. let p = g.placed c in (p.0, omega (arith, passes, p.1));
        receipts = λ c. g.receipts c ∙ still v.number;
        permits = λ c. g.permits c ∙ ap (λ (l : List ℕ). get_or l v.number 0) (sym kept);
        opens = λ c. g.opens c ∙ sym opening;
      } in
      let self : Fits who o k.place t' id t' = record {
        placed = λ c. let p = f.placed (sym crosses ∙ c) in (ap k.place number ∙ (p.0 ∙ sym is), omega (arith, number, passes, p.1));
        receipts = λ c. receipts ∙ (f.receipts (sym crosses ∙ c) ∙ ((λ i. by_caller (who o) (sym number i) t.history) ∙ still t'.number));
        permits = λ c. permits ∙ (f.permits (sym crosses ∙ c) ∙ (λ i. get_or (sym kept i) (sym number i) 0));
        opens = λ c. refl;
      } in
      changes t t' vs k id t' k.place (ap (λ (i : ℕ). get_elem? (set vs id t') i) (sym is) ∙ set_at vs id t t' (ap (λ (i : ℕ). get_elem? vs i) is ∙ k.here)) desk others self

  -- a new seat has a view that fits
  arrives : (t : V) (vs : List V) (k : Manned t vs) (w : V) → Fits who o k.place t (length vs) w → Manned t (vs ++ w ∷ [])
  arrives t vs k w fits = record {
    place = k.place;
    here = at_longer vs (w ∷ []) seat t k.here;
    desk = k.desk;
    each = λ j u e. ⊎_elim (λ (m : (j < length vs) × (get_elem? vs j ≡ some u)). k.each j u m.1)
        (λ (m : (j ≡ length vs) × (w ≡ u)). subst (λ (i : ℕ). Fits who o k.place t i u) (sym m.0) (subst (λ (x : V). Fits who o k.place t (length vs) x) m.1 fits)) (at_end vs w u j e);
  }

  nothing_fits : (place : ℕ → ℕ) (t : V) (id : ℕ) (w : V) → w.crosses ≡ false → Fits who o place t id w
  nothing_fits place t id w idle = record { placed = λ e. absurd (cc (e, idle)); receipts = λ e. absurd (cc (e, idle)); permits = λ e. absurd (cc (e, idle)); opens = λ e. absurd (cc (e, idle)) }

  -- the pass with a number moves to another seat: all other views fit as before
  fits_gone : (place : ℕ → ℕ) (t : V) (number to id : ℕ) (v : V) → id ≢ place number → Fits who o place t id v → Fits who o (gone place number to) t id v
  fits_gone place t number to id v ne f = record {
    receipts = f.receipts;
    permits = f.permits;
    opens = f.opens;
    placed = λ c. let p = f.placed c in (gone_else place number to v.number (λ e. ne (sym p.0 ∙ ap place e)) ∙ p.0, p.1);
  }

  -- a note is made
  pub tells : (t : V) (vs : List V) (k : Manned t vs) (id : ℕ) (v r : V) → get_elem? vs id ≡ some v → r.crosses ≡ false → Manned t (set vs id v ++ r ∷ [])
  tells t vs k id v r at idle = subst (λ (us : List V). Manned t (us ++ r ∷ [])) (sym (set_again vs id v at)) (arrives t vs k r (nothing_fits k.place t (length vs) r idle))

  -- a pass learns from a note
  pub informs : (t : V) (vs : List V) (k : Manned t vs) (id : ℕ) (v : V) (other : ℕ) (w b : V) → get_elem? vs id ≡ some v → ¬ (other ≡ id) → get_elem? (set vs id b) other ≡ some w → v.writes ≡ false → w.writes ≡ false
      → b.crosses ≡ v.crosses → b.number ≡ v.number → b.receipts ≡ v.receipts → b.permits ≡ v.permits → b.opening ≡ v.opening → Manned t (set (set vs id b) other spent)
  informs t vs k id v other w b at apart there idle also crosses number receipts permits opening =
      let one = reads t vs k id v b at idle crosses number receipts permits opening in
      turns t (set vs id b) one other spent (not_writer t w (set vs id b) other one there also) (nothing_fits one.place t other spent refl)

  -- a pass's view goes to a new seat
  pub leaves : (t : V) (vs : List V) (k : Manned t vs) (id : ℕ) (v r : V) → get_elem? vs id ≡ some v → v.writes ≡ false → v.crosses ≡ true → r.number ≡ v.number → r.receipts ≡ v.receipts → r.permits ≡ v.permits → r.opening ≡ v.opening → Manned t (set vs id spent ++ r ∷ [])
  unfolding changes
  leaves t vs k id v r at idle crosses number receipts permits opening =
      let f = k.each id v at in
      let ne = not_writer t v vs id k at idle in
      let to = length vs in
      let place = gone k.place v.number to in
      let p = f.placed crosses in
      let left = changes t t vs k id spent place (set_else vs id seat spent (λ e. ne (sym e)) ∙ k.here) k.desk (λ j u n at' g. fits_gone k.place t v.number to j u (λ e. n (e ∙ p.0)) g) (nothing_fits place t id spent refl) in
      arrives t (set vs id spent) left r (record {
        placed = λ c. (gone_here k.place v.number to r.number number ∙ sym (length-set vs id spent), omega (arith, number, p.1));
        receipts = λ c. receipts ∙ (f.receipts crosses ∙ ap (λ (n : ℕ). by_caller (who o) n t.history) (sym number));
        permits = λ c. permits ∙ (f.permits crosses ∙ ap (permits_of t) (sym number));
        opens = λ c. opening ∙ f.opens crosses;
      })

  -- one pass more
  pub enters : (t : V) (vs : List V) (k : Manned t vs) → t.crosses ≡ false → t.passes < 24 → Manned (one_more t) (set vs seat (one_more t) ++ newcomer t ∷ [])
  unfolding changes
  enters t vs k idle few =
      let d = k.desk in
      let self = k.each seat t k.here in
      let to = length vs in
      let place = gone k.place t.passes to in
      let t' = one_more t in
      let none_of_it : by_caller (who o) t.passes t.history ≡ [] = none_named (who o) t.passes t.history d.named in
      let desk : IsDesk who o t' = record {
        writes = d.writes;
        live = d.live;
        opens = d.opens;
        named = all_below-more (who o) t.passes t.history d.named;
        kept = omega (arith, length-append t.kept (0 ∷ []), d.kept);
        few = omega (arith, few);
        granted = λ n. rw (get_or-longer t.kept n 0) (d.granted n);
      } in
      let one = changes t t' vs k seat t' place (set_at vs seat t t' k.here) desk
      (λ j u n at' g. record {
        receipts = g.receipts;
        permits = λ c. g.permits c ∙ sym (get_or-longer t.kept u.number 0);
        opens = g.opens;
        placed = λ c. let p = g.placed c in (gone_else k.place t.passes to u.number (λ e. omega (arith, p.1, e)) ∙ p.0, omega (arith, p.1));
      }) (nothing_fits place t' seat t' idle) in
      arrives t' (set vs seat t') one (newcomer t)
      (record {
        placed = λ c. (gone_here k.place t.passes to t.passes refl ∙ sym (length-set vs seat t'), omega arith);
        receipts = λ c. sym none_of_it;
        permits = λ c. sym (get_or-longer t.kept t.passes 0 ∙ get_or-beyond t.kept t.passes 0 (omega (arith, d.kept)));
        opens = λ c. refl;
      })

  -- lending: the writer's seat takes in a pass
  pub lends : (t : V) (vs : List V) (k : Manned t vs) (other : ℕ) (w : V) → ¬ (other ≡ seat) → get_elem? vs other ≡ some w → w.crosses ≡ true → Manned (lent t w) (set (set vs seat (lent t w)) other spent)
  unfolding turns changes
  lends t vs k other w apart there crosses =
      let d = k.desk in
      let g = k.each other w there in
      let p = g.placed crosses in
      let vs1 = set vs other spent in
      let one : Manned t vs1 = turns t vs k other spent apart (nothing_fits k.place t other spent refl) in
      let place = gone k.place w.number seat in
      let t' = lent t w in
      let desk : IsDesk who o t' = record { writes = d.writes; live = d.live; opens = d.opens; named = d.named; kept = d.kept; few = d.few; granted = d.granted } in
      let two = changes t t' vs1 (record { place = k.place; here = one.here; desk = d; each = one.each }) seat t' place (set_at vs1 seat t t' one.here) desk
      (λ j u n at' f. record {
        receipts = f.receipts;
        permits = f.permits;
        opens = f.opens;
        placed = λ c. let q = f.placed c in (
          gone_else k.place w.number seat u.number (λ e.
              let j_is : j ≡ other = sym q.0 ∙ (ap k.place e ∙ p.0) in
              let none_there : get_elem? vs1 other ≡ some spent = set_at vs other w spent there in
              let u_is : u ≡ spent = some-injective u spent (sym at' ∙ (ap (λ (i : ℕ). get_elem? vs1 i) j_is ∙ none_there)) in
              let no_pass : u.crosses ≡ false = ap (λ (x : V). x.crosses) u_is in
              absurd (cc (c, no_pass))) ∙ q.0,
          q.1,
        );
      })
      (record { placed = λ c. (gone_here k.place w.number seat w.number refl, p.1); receipts = λ c. g.receipts crosses; permits = λ c. g.permits crosses; opens = λ c. refl }) in
      subst (λ (us : List V). Manned t' us) (sym (set_comm vs seat other t' spent apart)) two

  -- parting
  pub parts : (t : V) (vs : List V) (k : Manned t vs) → t.crosses ≡ true → Manned (writer_of t) (set vs seat (writer_of t) ++ pass_of t ∷ [])
  unfolding changes
  parts t vs k crosses =
      let d = k.desk in
      let self = k.each seat t k.here in
      let p = self.placed crosses in
      let to = length vs in
      let place = gone k.place t.number to in
      let t' = writer_of t in
      let desk : IsDesk who o t' = record { writes = d.writes; live = d.live; opens = d.opens; named = d.named; kept = d.kept; few = d.few; granted = d.granted } in
      let one = changes t t' vs k seat t' place (set_at vs seat t t' k.here) desk
      (λ j u n at' f. record {
        receipts = f.receipts;
        permits = f.permits;
        opens = f.opens;
        placed = λ c. let q = f.placed c in (gone_else k.place t.number to u.number (λ e. n (sym q.0 ∙ (ap k.place e ∙ p.0))) ∙ q.0, q.1);
      })
      (nothing_fits place t' seat t' refl) in
      arrives t' (set vs seat t') one (pass_of t)
      (record {
        receipts = λ c. self.receipts crosses;
        permits = λ c. self.permits crosses;
        opens = λ c. refl;
        placed = λ c. (gone_here k.place t.number to t.number refl ∙ sym (length-set vs seat t'), p.1);
      })

  -- the permits that the writer keeps for one number change
  pub kept_here : (t : V) (n k : ℕ) → n < length t.kept → get_or (set t.kept n k) n 0 ≡ k
  kept_here t n k h = get_or-set_same t.kept n k 0 h

  pub grants : (t : V) (vs : List V) (k : Manned t vs) (more : ℕ) → t.crosses ≡ true → length t.receipts + t.permits + more ≤ 134217728 → Manned (granted t more) (set vs seat (granted t more))
  grants t vs k more crosses room =
      let d = k.desk in
      let self = k.each seat t k.here in
      let p = self.placed crosses in
      let r = self.receipts crosses in
      let t' = granted t more in
      let lt : t.number < length t.kept = omega (arith, d.kept, p.1) in
      let room' : length (by_caller (who o) t.number t.history) + t.permits + more ≤ 134217728 = omega (arith, ap length r, room) in
      let desk : IsDesk who o t' = record {
        writes = d.writes;
        live = d.live;
        opens = d.opens;
        named = d.named;
        kept = length-set t.kept t.number (t.permits + more) ∙ d.kept;
        few = d.few;
        granted = λ n. dite (ℕ_discrete n t.number)
            (λ e. subst (λ (m : ℕ). length (by_caller (who o) m t.history) + get_or (set t.kept t.number (t.permits + more)) m 0 ≤ 134217728) (sym e)
            (rw (kept_here t t.number (t.permits + more) lt) (omega (arith, room'))))
            (λ ne. rw (get_or-set_other t.kept t.number n (t.permits + more) 0 ne) (d.granted n));
      } in
      changes t t' vs k seat t' k.place (set_at vs seat t t' k.here) desk
      (λ j u ne at' f. record {
        receipts = f.receipts;
        placed = f.placed;
        permits = λ c. f.permits c ∙ sym (get_or-set_other t.kept t.number u.number (t.permits + more) 0 (λ e. ne (sym (f.placed c).0 ∙ (ap k.place e ∙ p.0))));
        opens = f.opens;
      })
      (record { placed = self.placed; receipts = self.receipts; permits = λ c. sym (kept_here t t.number (t.permits + more) lt); opens = self.opens })

  -- an entry more
  pub adds : (t : V) (vs : List V) (k : Manned t vs) (e : E) → t.crosses ≡ true → 0 < t.permits → who o e ≡ t.number → Manned (advanced t e) (set vs seat (advanced t e))
  adds t vs k e crosses some_permit mine =
      let d = k.desk in
      let self = k.each seat t k.here in
      let p = self.placed crosses in
      let r = self.receipts crosses in
      let t' = advanced t e in
      let lt : t.number < length t.kept = omega (arith, d.kept, p.1) in
      let has : t.permits ≡ get_or t.kept t.number 0 = self.permits crosses in
      let kept' = kept_here t t.number (t.permits - 1) lt in
      let at_mine = by_caller-mine (who o) t.number t.history e mine in
      let desk : IsDesk who o t' = record {
        writes = d.writes;
        live = d.live;
        opens = d.opens;
        named = all_below-append (who o) t.passes t.history e d.named (omega (arith, mine, p.1));
        kept = length-set t.kept t.number (t.permits - 1) ∙ d.kept;
        few = d.few;
        granted = λ m. dite (ℕ_discrete m t.number)
            (λ is. subst (λ (m : ℕ). length (by_caller (who o) m (t.history ++ e ∷ [])) + get_or (set t.kept t.number (t.permits - 1)) m 0 ≤ 134217728) (sym is)
            (rw (at_mine, kept') (let a = d.granted t.number in let l = length-append (by_caller (who o) t.number t.history) (e ∷ []) in omega (arith, a, l, has, some_permit))))
            (λ isnt. rw (by_caller-other (who o) m t.history e (λ q. isnt (sym q ∙ mine)), get_or-set_other t.kept t.number m (t.permits - 1) 0 isnt) (d.granted m));
      } in
      changes t t' vs k seat t' k.place (set_at vs seat t t' k.here) desk
      (λ j u ne at' f. record {
        placed = f.placed;
        receipts = λ c. let isnt : u.number ≢ t.number = λ q. ne (sym (f.placed c).0 ∙ (ap k.place q ∙ p.0)) in f.receipts c ∙ sym (by_caller-other (who o) u.number t.history e (λ q. isnt (sym q ∙ mine)));
        permits = λ c. f.permits c ∙ sym (get_or-set_other t.kept t.number u.number (t.permits - 1) 0 (λ q. ne (sym (f.placed c).0 ∙ (ap k.place q ∙ p.0))));
        opens = f.opens;
      })
      (record { placed = self.placed; receipts = λ c. ap (λ (xs : List E). xs ++ e ∷ []) r ∙ sym at_mine; permits = λ c. sym kept'; opens = self.opens })

  -- the table at the start
  pub opens : (n : ℕ) → seat ≡ 0 → Manned (first_view o n) (first_view o n ∷ [])
  opens n is = record {
    place = λ n. 0;
    here = ap (λ (i : ℕ). get_elem? (first_view o n ∷ []) i) is;
    desk = record { writes = refl; live = refl; opens = refl; named = tt; kept = refl; few = omega arith; granted = λ n. omega arith };
    each = λ id v e. let h = first_of (first_view o n) v id e in subst (λ (u : V). Fits who o (λ n. 0) (first_view o n) id u) h.1 (nothing_fits (λ n. 0) (first_view o n) id (first_view o n) refl);
  }
