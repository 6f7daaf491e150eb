-- After the until a packet that passes shakes its own row.
use Rattle.std.proofs.Common.{◌≡◌, ◌≤◌, ◌<◌, ◌+◌, ℕ, ◌==◌, ◌/◌, ◌&&◌, ◌||◌, Bool, true, false, not, List, [], ◌∷◌, ◌++◌, Option, Some, None, option_map, refl, sym, ap, subst, ◌∙◌, arith, true≢false}
use Rattle.std.specs.Prelude.{if◌then◌else◌, nat_le, nat_lt, min, Ok, is_ok}
use Rattle.std.specs.List.{slice_get}
use Rattle.vsw_port.specs.declared.stop.Stop.{Stop}
use Rattle.vsw_port.specs.Admit.{stop_of}
use Rattle.vsw_base.specs.declared.fate.Verdict.{Verdict}
use Rattle.vsw_base.specs.declared.fate.Verdict.TheVariants.{Pass, Default, Rule}
use Rattle.vsw_base.specs.declared.flow.Crossing.{Crossing}
use Rattle.vsw_base.specs.declared.header.Header.{Header}
use Rattle.vsw_base.specs.declared.packet.Control.TheVariants as control
use Rattle.vsw_base.specs.declared.packet.Dir.{Dir}
use Rattle.vsw_base.specs.Shape.{encaps}
use Rattle.vsw_port.specs.Cross.{Passing, fate_after, made_after}
use Rattle.vsw_rule.specs.Edit.{edited, kept_after}
use Rattle.vsw_walk.specs.declared.scratch.Looked.{Looked}
use Rattle.vsw_walk.specs.declared.scratch.Wanted.{Wanted}
use Rattle.vsw_walk.specs.declared.scratch.Wanted.TheVariants as wanted
use Rattle.vsw_walk.specs.Walk.{along, by_visit, crossed, due_of, greatest, leaving, placed, sooner, until_after, walk_of, wanting}
use Rattle.vsw_header.specs.Key.{key_from}
use Rattle.vsw_policy.specs.declared.layer.LayerSpec.{LayerSpec}
use Rattle.vsw_policy.specs.Layer.{LayerSeen}
use Rattle.vsw_layerflow.specs.declared.pair.Pair.{Pair}
use Rattle.vsw_layerflow.specs.Life.{due, life}
use Rattle.vsw_layerflow.specs.Pairs.{number_of, pair_of}
use Rattle.vsw_rows.specs.LeanLaw.{LateShakes}
use Rattle.vsw_rows.specs.Shaken.{is_found, moves_found, moves_in, shake, shakes, shakes_one}
use Rattle.vsw_rows.specs.Way.{looks}
use Rattle.vsw_rows.proofs.Along.{Stands, look_at}
use Rattle.vsw_rows.proofs.Courses.{state_stays}
use Rattle.vsw_rows.proofs.Quiet.{le_due, le_sooner}
use Rattle.vsw_rows.proofs.Ways.{moment_unseen, stand}
use Rattle.vsw_policy.specs.Sound.{Each}
use Rattle.vsw_walk.specs.declared.outcome.Visit.{Visit}
use Rattle.vsw_walk.specs.declared.outcome.Visit.TheVariants.{Stops, Goes}
use Rattle.vsw_walk.specs.declared.outcome.Want.{Want}
use Rattle.vsw_walk.specs.declared.outcome.Want.TheVariants.{Make, Touch}
use Rattle.vsw_walk.specs.Known.{same_state, touch}
use Rattle.vsw_walk.specs.Visit.{by_pair, by_state, visit_of}

-- more looks and more changes shake no less
or_right : (a b : Bool) → b ≡ true → (a || b) ≡ true
or_right true b e = refl
or_right false b e = e

or_left : (a b : Bool) → a ≡ true → (a || b) ≡ true
or_left true b e = refl
or_left false b e = absurd (true≢false (sym e))

or_more : (a b c d : Bool) → (a ≡ true → c ≡ true) → (b ≡ true → d ≡ true) → (a || b) ≡ true → (c || d) ≡ true
or_more true b c d f g e = or_left c d (f refl)
or_more false b c d f g e = or_right c d (g e)

more_looks : (ls : List LayerSeen) (ws : List Wanted) (q : Looked) (qs : List Looked) → shake ls ws qs ≡ true → shake ls ws (q ∷ qs) ≡ true
more_looks ls [] q qs e = e
more_looks ls (w ∷ ws) q qs e = or_more (shakes_one ls w qs) (shake ls ws qs) (shakes_one ls w (q ∷ qs)) (shake ls ws (q ∷ qs)) (or_right (shakes ls w q) (shakes_one ls w qs)) (more_looks ls ws q qs) e

more_changes : (ls : List LayerSeen) (vs ws : List Wanted) (qs : List Looked) → shake ls ws qs ≡ true → shake ls (vs ++ ws) qs ≡ true
more_changes ls [] ws qs e = e
more_changes ls (v ∷ vs) ws qs e = or_right (shakes_one ls v qs) (shake ls (vs ++ ws) qs) (more_changes ls vs ws qs e)

first_shakes : (ls : List LayerSeen) (w : Wanted) (q : Looked) (ws : List Wanted) (qs : List Looked) → shakes ls w q ≡ true → shake ls (w ∷ ws) (q ∷ qs) ≡ true
first_shakes ls w q ws qs e = or_left (shakes_one ls w (q ∷ qs)) (shake ls ws (q ∷ qs)) (or_left (shakes ls w q) (shakes_one ls w qs) e)

-- the touch that is wanted shakes the look
abbrev pub TouchShakes : List LayerSeen → ℕ → Looked → Option Want → Type 0
TouchShakes ls place q None = ⊥
TouchShakes ls place q (Some (Make p)) = ⊥
TouchShakes ls place q (Some (Touch n t m)) = shakes ls (wanted.Touch place n t m) q ≡ true

abbrev pub VisitShakes : List LayerSeen → ℕ → Looked → Visit → Type 0
VisitShakes ls place q (Stops verdict) = ⊥
VisitShakes ls place q (Goes action left wants) = TouchShakes ls place q wants

after_due : (a b : ℕ) → nat_le b a ≡ false → nat_lt a b ≡ true
after_due a b e = grind arith

-- a moment after the one at which the pair is due isn't its last use
not_last : (m last quarter : ℕ) → m ≤ greatest → nat_le m (min (last + quarter) greatest) ≡ false → (m == last) ≡ false
not_last m last quarter h e = grind (arith, h)

self : (n : ℕ) → (n == n) ≡ true
self n = grind arith

touched : (s : LayerSpec) (m : ℕ) (p : Pair) → nat_le m (due p.last_use p.state s.idle s.linger) ≡ false → touch s p.state m p ≡ Some (Touch p.number p.state m)
touched s m p e = ap (λ b. if b then Some (Touch p.number p.state m) else if same_state p.state p.state then None else Some (Touch p.number p.state p.last_use)) (after_due (due p.last_use p.state s.idle s.linger) m e)

late_touch : (ls : List LayerSeen) (e : ℕ × LayerSeen) (d : Dir) (m : ℕ) (hs : List Header) (p : Pair) → Stands ls e → pair_of d (key_from hs) e.1.pairs ≡ Some p → m ≤ greatest → nat_le m (due p.last_use p.state e.1.spec.idle e.1.spec.linger) ≡ false
    → shakes ls (wanted.Touch e.0 p.number p.state m) (look_at e d hs) ≡ true
late_touch ls e d m hs p g i h f =
    ap (λ b. b && (is_found p.number (option_map number_of (pair_of d (key_from hs) e.1.pairs)) && moves_in (slice_get ls e.0) p.state m (look_at e d hs))) (self e.0)
    ∙ ap (λ o. is_found p.number (option_map number_of o) && moves_in (slice_get ls e.0) p.state m (look_at e d hs)) i
    ∙ ap (λ b. b && moves_in (slice_get ls e.0) p.state m (look_at e d hs)) (self p.number)
    ∙ ap (λ o. moves_in o p.state m (look_at e d hs)) g
    ∙ ap (λ o. moves_found e.1.spec p.state m o) i
    ∙ ap (λ b. not b || not (life p.state e.1.spec.idle e.1.spec.linger == life p.state e.1.spec.idle e.1.spec.linger)) (not_last m p.last_use (life p.state e.1.spec.idle e.1.spec.linger / 4) h f)

pair_late : (ls : List LayerSeen) (e : ℕ × LayerSeen) (d : Dir) (m : ℕ) (hs : List Header) (o : Option Pair) → Stands ls e → pair_of d (key_from hs) e.1.pairs ≡ o → m ≤ greatest → le_due m (due_of e.1.spec o) ≡ false
    → VisitShakes ls e.0 (look_at e d hs) (by_pair e.1 d control.None m hs o)
pair_late ls e d m hs None g i h f = absurd (true≢false f)
pair_late ls e d m hs (Some p) g i h f =
    subst (λ t. VisitShakes ls e.0 (look_at e d hs) (by_state e.1 d control.None m hs p t)) (sym (state_stays p.state p.dir d))
    (subst (TouchShakes ls e.0 (look_at e d hs)) (sym (touched e.1.spec m p f)) (late_touch ls e d m hs p g i h f))

and_cases : (a b : Bool) → (a && b) ≡ false → (a ≡ true → b ≡ false)
and_cases true b e f = e
and_cases false b e f = absurd (true≢false (sym f))

late_along : (ls : List LayerSeen) (d : Dir) (m : ℕ) (es : List (ℕ × LayerSeen)) (hs : List Header) (kept : ℕ) → Each (Stands ls) es → m ≤ greatest → le_due m (along d control.None m es hs kept).due ≡ false
    → shake ls (along d control.None m es hs kept).changes (along d control.None m es hs kept).looked ≡ true
late_along ls d m [] hs kept g h f = absurd (true≢false f)
late_along ls d m (e ∷ es) hs kept g h f =
    by (le_due m (due_of e.1.spec (pair_of d (key_from hs) e.1.pairs))) refl (visit_of e.1 d control.None m hs)
    (λ i. pair_late ls e d m hs (pair_of d (key_from hs) e.1.pairs) g.0 refl h i)
    f (λ ks j i. late_along ls d m es ks j g.1 h i)
  where
    by : (b : Bool) → le_due m (due_of e.1.spec (pair_of d (key_from hs) e.1.pairs)) ≡ b → (v : Visit) → (le_due m (due_of e.1.spec (pair_of d (key_from hs) e.1.pairs)) ≡ false → VisitShakes ls e.0 (look_at e d hs) v)
        → le_due m (sooner (due_of e.1.spec (pair_of d (key_from hs) e.1.pairs)) (by_visit e.0 hs kept v (λ ks j. along d control.None m es ks j)).due) ≡ false
        → ((ks : List Header) (j : ℕ) → le_due m (along d control.None m es ks j).due ≡ false → shake ls (along d control.None m es ks j).changes (along d control.None m es ks j).looked ≡ true)
        → shake ls (by_visit e.0 hs kept v (λ ks j. along d control.None m es ks j)).changes (look_at e d hs ∷ (by_visit e.0 hs kept v (λ ks j. along d control.None m es ks j)).looked) ≡ true
    by false i (Stops verdict) k f ih = absurd (k i)
    by false i (Goes action left None) k f ih = absurd (k i)
    by false i (Goes action left (Some (Make p))) k f ih = absurd (k i)
    by false i (Goes action left (Some (Touch n t u))) k f ih =
        head left
      where
        head : (o : Option ℕ) → shake ls ((leaving e.0 o ++ wanting e.0 (Some (Touch n t u))) ++ (along d control.None m es (edited action hs) (kept_after action hs kept)).changes) (look_at e d hs ∷ (along d control.None m es (edited action hs) (kept_after action hs kept)).looked) ≡ true
        head None = first_shakes ls (wanted.Touch e.0 n t u) (look_at e d hs) (along d control.None m es (edited action hs) (kept_after action hs kept)).changes (along d control.None m es (edited action hs) (kept_after action hs kept)).looked (k i)
        head (Some o) =
            more_changes ls (wanted.Leave e.0 o ∷ []) (wanted.Touch e.0 n t u ∷ (along d control.None m es (edited action hs) (kept_after action hs kept)).changes) (look_at e d hs ∷ (along d control.None m es (edited action hs) (kept_after action hs kept)).looked)
            (first_shakes ls (wanted.Touch e.0 n t u) (look_at e d hs) (along d control.None m es (edited action hs) (kept_after action hs kept)).changes (along d control.None m es (edited action hs) (kept_after action hs kept)).looked (k i))
    by true i (Stops verdict) k f ih = absurd (true≢false (sym (le_sooner m (due_of e.1.spec (pair_of d (key_from hs) e.1.pairs)) None ∙ ap (λ b. b && true) i) ∙ f))
    by true i (Goes action left wants) k f ih =
        let rest = along d control.None m es (edited action hs) (kept_after action hs kept) in
        let late = and_cases (le_due m (due_of e.1.spec (pair_of d (key_from hs) e.1.pairs))) (le_due m rest.due) (sym (le_sooner m (due_of e.1.spec (pair_of d (key_from hs) e.1.pairs)) rest.due) ∙ f) i in
        more_looks ls ((leaving e.0 left ++ wanting e.0 wants) ++ rest.changes) (look_at e d hs) rest.looked (more_changes ls (leaving e.0 left ++ wanting e.0 wants) rest.changes rest.looked (ih (edited action hs) (kept_after action hs kept) late))

late_walk : (ls : List LayerSeen) (x : Crossing) → x.control ≡ control.None → x.moment ≤ greatest → le_due x.moment (walk_of ls x).due ≡ false → shake ls (walk_of ls x).changes (walk_of ls x).looked ≡ true
unfolding walk_of
late_walk ls x c h =
    subst
    (λ k. le_due x.moment (along x.id.dir k x.moment (crossed x.id.dir (placed 0 ls)) x.id.stack (encaps x.id.stack)).due ≡ false
    → shake ls (along x.id.dir k x.moment (crossed x.id.dir (placed 0 ls)) x.id.stack (encaps x.id.stack)).changes (along x.id.dir k x.moment (crossed x.id.dir (placed 0 ls)) x.id.stack (encaps x.id.stack)).looked ≡ true)
    (sym c) (late_along ls x.id.dir x.moment (crossed x.id.dir (placed 0 ls)) x.id.stack (encaps x.id.stack) (stand ls x.id) h)

passed : (v : Verdict) (stop : Option Stop) (hs : List Header) (kept : ℕ) (ws : List Wanted) (passing : Passing) → fate_after v stop hs kept ≡ Ok passing → (made_after v stop ws ≡ ws) × (v ≡ Pass)
passed Pass None hs kept ws passing e = (refl, refl)
passed Pass (Some stop) hs kept ws passing e = absurd (true≢false (sym (ap (λ r. is_ok r) e)))
passed (Rule controller layer group rule) stop hs kept ws passing e = absurd (true≢false (sym (ap (λ r. is_ok r) e)))
passed (Default controller layer dir) stop hs kept ws passing e = absurd (true≢false (sym (ap (λ r. is_ok r) e)))

later_than : (m n : ℕ) → n < m → nat_le m n ≡ false
later_than m n h = grind (arith, h)

not_after : (m : ℕ) → m ≤ greatest → greatest < m → ⊥
not_after m h i = omega (arith, h, i)

late_due : (m : ℕ) (o : Option ℕ) → m ≤ greatest → until_after Pass o < m → le_due m o ≡ false
late_due m None h i = absurd (not_after m h i)
late_due m (Some n) h i = later_than m n i

pub late_shakes : LateShakes
late_shakes ls x passing c h u f =
    let w = moment_unseen ls x c in
    let done = passed (walk_of ls x).verdict (stop_of ls x (walk_of ls x)) (walk_of ls x).stack (walk_of ls x).kept (walk_of ls x).changes passing f in
    let late : until_after Pass (walk_of ls x).due < x.moment = subst (λ n. n < x.moment) (sym w.0.until ∙ ap (λ v. until_after v (walk_of ls x).due) done.1) u in
    ap (λ ws. shake ls ws (looks ls x.id)) done.0 ∙ ap (shake ls (walk_of ls x).changes) (sym w.1) ∙ late_walk ls x c h (late_due x.moment (walk_of ls x).due h late)
