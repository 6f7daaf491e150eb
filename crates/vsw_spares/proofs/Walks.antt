-- Layers that tell a row's looks the same leave it good.
use Rattle.std.proofs.Common.{◌≡◌, ℕ, Bool, true, false, ◌||◌, List, [], ◌∷◌, ◌++◌, length, map, Option, Some, None, refl, sym, ap, subst, ◌∙◌}
use Rattle.std.specs.List.{slice_get}
use Rattle.std.specs.Prelude.{Ok, Err, is_ok, if◌then◌else◌}
use Rattle.std.proofs.Common.{true≢false}
use Rattle.vsw_base.specs.declared.fate.Verdict.{Verdict}
use Rattle.vsw_base.specs.declared.fate.Verdict.TheVariants as verdict
use Rattle.vsw_base.specs.declared.flow.Ufid.{Ufid}
use Rattle.vsw_base.specs.declared.header.Header.{Header}
use Rattle.vsw_base.specs.declared.packet.Control.TheVariants as control
use Rattle.vsw_base.specs.declared.packet.Dir.{Dir}
use Rattle.vsw_base.specs.Shape.{encaps, is_stack}
use Rattle.vsw_header.specs.Key.{key_from}
use Rattle.vsw_layerflow.specs.declared.pair.Pair.{Pair}
use Rattle.vsw_layerflow.specs.declared.tcp_state.Tracked.{Tracked}
use Rattle.vsw_layerflow.specs.declared.tcp_state.Tracked.TheVariants.{To, Reopen}
use Rattle.vsw_layerflow.specs.Pairs.{pair_of}
use Rattle.vsw_layerflow.specs.Track.{track_of}
use Rattle.vsw_policy.specs.Layer.{LayerSeen}
use Rattle.vsw_policy.specs.Sound.{Each}
use Rattle.vsw_port.specs.Cross.{makes}
use Rattle.vsw_rows.proofs.Along.{Alike, Stands, crossed_fresh, fresh, look_at, or_else}
use Rattle.vsw_rows.proofs.Ways.{stand}
use Rattle.vsw_rows.specs.Good.{Good, Row}
use Rattle.vsw_rows.specs.Way.{looks, plain, way_of}
use Rattle.vsw_rule.proofs.Edited.{edited_stack}
use Rattle.vsw_rule.specs.Choice.{Chosen, choose}
use Rattle.vsw_rule.specs.declared.rule.Action.{Action}
use Rattle.vsw_rule.specs.declared.rule.Action.TheVariants.{Allow, Drop, Edit}
use Rattle.vsw_rule.specs.Edit.{edited, kept_after}
use Rattle.vsw_rule.specs.Match.{can_do}
use Rattle.vsw_walk.proofs.Chosen.{chosen_can}
use Rattle.vsw_walk.specs.declared.outcome.Visit.{Visit}
use Rattle.vsw_walk.specs.declared.outcome.Visit.TheVariants.{Stops, Goes}
use Rattle.vsw_walk.specs.declared.outcome.Want.{Want}
use Rattle.vsw_walk.specs.declared.outcome.Want.TheVariants.{Make, Touch}
use Rattle.vsw_walk.specs.declared.scratch.Wanted.{Wanted}
use Rattle.vsw_walk.specs.Visit.{IfGoes, allows, asked, by_action, by_choice, by_pair, by_state, visit_of, wanted}
use Rattle.vsw_walk.specs.Walk.{along, by_visit, crossed, leaving, placed, sooner, until_after, walk_of, wanting}
use Rattle.vsw_spares.specs.Law.{SameTold}
use Rattle.vsw_spares.specs.Told.{Course, OrNone, TellSame, ToldSame, course, wants_pair}

-- the action with which a packet goes on can be done
abbrev Can : List Header → Visit → Type 0
Can hs v = IfGoes v (λ a. can_do a hs ≡ true)

action_can : (hs : List Header) (a : Action) (v : Verdict) (leaves : Option ℕ) (wants : Option Want) → can_do a hs ≡ true → Can hs (by_action a (Stops v) (Goes a leaves wants))
action_can hs Allow v leaves wants e = e
action_can hs Drop v leaves wants e = tt
action_can hs (Edit decap set encap) v leaves wants e = e

asked_can : (l : LayerSeen) (d : Dir) (hs : List Header) (leaves : Option ℕ) → Can hs (asked l d control.None 0 hs leaves)
asked_can l d hs leaves = by (choose d l.groups hs) refl
  where
    by : (o : Option Chosen) → choose d l.groups hs ≡ o → Can hs (by_choice l d control.None 0 hs leaves o)
    by None e = elim (allows l.spec d) as (λ b. Can hs (if b then Goes Allow leaves None else Stops (verdict.Default l.controller l.spec.layer d))) [ true ↦ refl | false ↦ tt ]
    by (Some o) e = action_can hs o.rule.action (verdict.Rule l.controller l.spec.layer o.group o.rule.number) leaves (wanted l.next_pair d control.None 0 hs o.group o.rule) (chosen_can d l.groups hs o e)

visit_can : (l : LayerSeen) (d : Dir) (hs : List Header) → Can hs (visit_of l d control.None 0 hs)
visit_can l d hs = by (pair_of d (key_from hs) l.pairs)
  where
    by_track : (p : Pair) (t : Tracked) → Can hs (by_state l d control.None 0 hs p t)
    by_track p (To t) = refl
    by_track p Reopen = asked_can l d hs (Some p.number)

    by : (o : Option Pair) → Can hs (by_pair l d control.None 0 hs o)
    by None = asked_can l d hs None
    by (Some p) = by_track p (track_of p.state p.dir control.None d)

stack_after : (a : Action) (hs : List Header) → is_stack hs ≡ true → can_do a hs ≡ true → is_stack (edited a hs) ≡ true
stack_after Allow hs s c = s
stack_after Drop hs s c = s
stack_after (Edit decap set encap) hs s c = edited_stack decap set encap hs s c

-- courses
taken : (c d : Action × Bool) → ◌≡◌ {A = Course} (Ok c) (Ok d) → c ≡ d
taken c d e = ap (λ (r : Course). elim r [ Ok x ↦ x | Err v ↦ c ]) e

halted : (v w : Verdict) → ◌≡◌ {A = Course} (Err v) (Err w) → v ≡ w
halted v w e = ap (λ (r : Course). elim r [ Ok x ↦ v | Err z ↦ z ]) e

went : (c : Action × Bool) (v : Verdict) → ◌≡◌ {A = Course} (Ok c) (Err v) → ⊥
went c v e = true≢false (ap (λ (r : Course). is_ok r) e)

-- the layer tells the look the same
told_here : (ls now : List LayerSeen) (e : ℕ × LayerSeen) (d : Dir) (hs : List Header) → Stands ls e → ToldSame ls now (look_at e d hs) → TellSame (look_at e d hs) e.1 (fresh now e).1
told_here ls now e d hs g s = by (slice_get now e.0) (subst (λ o. OrNone (look_at e d hs) o (slice_get now e.0)) g s)
  where
    by : (o : Option LayerSeen) → OrNone (look_at e d hs) (Some e.1) o → TellSame (look_at e d hs) e.1 (or_else o e.1)
    by None h = absurd h
    by (Some k) h = h

told_makes : (place : ℕ) (left : Option ℕ) (wants : Option Want) (ws : List Wanted) → makes ((leaving place left ++ wanting place wants) ++ ws) ≡ (wants_pair wants || makes ws)
told_makes place None None ws = refl
told_makes place None (Some (Make p)) ws = refl
told_makes place None (Some (Touch n t m)) ws = refl
told_makes place (Some k) None ws = refl
told_makes place (Some k) (Some (Make p)) ws = refl
told_makes place (Some k) (Some (Touch n t m)) ws = refl

walk_same : (ls now : List LayerSeen) (d : Dir) (es : List (ℕ × LayerSeen)) (hs : List Header) (kept : ℕ) → is_stack hs ≡ true → Each (Stands ls) es → Each (ToldSame ls now) (along d control.None 0 es hs kept).looked
    → Alike (along d control.None 0 (map (fresh now) es) hs kept) (along d control.None 0 es hs kept)
walk_same ls now d [] hs kept s g h = record { verdict = refl; stack = refl; kept = refl; makes = refl; looked = refl; due = refl }
walk_same ls now d (e ∷ es) hs kept s g h =
    let t = told_here ls now e d hs g.0 h.0 in
    let rest =
    by (visit_of (fresh now e).1 d control.None 0 hs) (visit_of e.1 d control.None 0 hs) (t.goes hs s refl) (visit_can e.1 d hs) h.1
    (λ ks j u i. walk_same ls now d es ks j u g.1 i)
    in
    record {
      verdict = rest.verdict;
      stack = rest.stack;
      kept = rest.kept;
      makes = rest.makes;
      looked = (λ i. record { layer = e.0; dir = d; key = key_from hs; found = t.found i } ∷ rest.looked i);
      due = (λ i. sooner (t.due i) (rest.due i));
    }
  where
    by : (u v : Visit) → course u ≡ course v → Can hs v → Each (ToldSame ls now) (by_visit e.0 hs kept v (λ ks j. along d control.None 0 es ks j)).looked
        → ((ks : List Header) (j : ℕ) → is_stack ks ≡ true → Each (ToldSame ls now) (along d control.None 0 es ks j).looked → Alike (along d control.None 0 (map (fresh now) es) ks j) (along d control.None 0 es ks j))
        → Alike (by_visit e.0 hs kept u (λ ks j. along d control.None 0 (map (fresh now) es) ks j)) (by_visit e.0 hs kept v (λ ks j. along d control.None 0 es ks j))
    by (Stops a) (Stops b) c can i ih = record { verdict = halted a b c; stack = refl; kept = refl; makes = refl; looked = refl; due = refl }
    by (Stops a) (Goes b left wants) c can i ih = absurd (went (b, wants_pair wants) a (sym c))
    by (Goes a left wants) (Stops b) c can i ih = absurd (went (a, wants_pair wants) b c)
    by (Goes a left wants) (Goes b other wished) c can i ih =
        let same = taken (a, wants_pair wants) (b, wants_pair wished) c in
        let action : a ≡ b = ap (λ x. x.0) same in
        let pair : wants_pair wants ≡ wants_pair wished = ap (λ x. x.1) same in
        let then_a = along d control.None 0 (map (fresh now) es) (edited a hs) (kept_after a hs kept) in
        let then_b = along d control.None 0 es (edited b hs) (kept_after b hs kept) in
        let rest : Alike then_a then_b = subst (λ x. Alike (along d control.None 0 (map (fresh now) es) (edited x hs) (kept_after x hs kept)) then_b) (sym action) (ih (edited b hs) (kept_after b hs kept) (stack_after b hs s can) i) in
        record {
          verdict = rest.verdict;
          stack = rest.stack;
          kept = rest.kept;
          makes = told_makes e.0 left wants then_a.changes ∙ ap (λ x. x || makes then_a.changes) pair ∙ ap (λ x. wants_pair wished || x) rest.makes ∙ sym (told_makes e.0 other wished then_b.changes);
          looked = rest.looked;
          due = rest.due;
        }

walks_same : (ls now : List LayerSeen) (id : Ufid) → is_stack id.stack ≡ true → length now ≡ length ls → Each (ToldSame ls now) (looks ls id) → Alike (walk_of now (plain id)) (walk_of ls (plain id))
unfolding walk_of
walks_same ls now id s e h =
    let es = crossed id.dir (placed 0 ls) in
    subst (λ ks. Alike (along id.dir control.None 0 ks id.stack (encaps id.stack)) (along id.dir control.None 0 es id.stack (encaps id.stack))) (sym (crossed_fresh id.dir ls now e))
    (walk_same ls now id.dir es id.stack (encaps id.stack) s (stand ls id) h)

way_same : (ls now : List LayerSeen) (id : Ufid) → Alike (walk_of now (plain id)) (walk_of ls (plain id)) → way_of now id ≡ way_of ls id
unfolding way_of
way_same ls now id a = (λ i. record { verdict = a.verdict i; stack = a.stack i; kept = a.kept i; makes = a.makes i; until = until_after (a.verdict i) (a.due i) })

good_as : (ls now : List LayerSeen) (r : Row) → way_of now r.id ≡ way_of ls r.id → Good ls r → Good now r
good_as ls now r e g = record {
  verdict = g.verdict ∙ ap (λ w. w.verdict) (sym e);
  bare = g.bare;
  makes = λ p. ap (λ w. w.makes) e ∙ g.makes p;
  fits = g.fits;
  stack = λ p. g.stack p ∙ ap (λ w. w.stack) (sym e);
  kept = λ p. g.kept p ∙ ap (λ w. w.kept) (sym e);
  until = g.until ∙ ap (λ w. w.until) (sym e);
}

pub same_told : SameTold
same_told ls now k s e h g =
    let a = walks_same ls now k.row.id s e (subst (Each (ToldSame ls now)) g.leans h) in
    record { good = good_as ls now k.row (way_same ls now k.row.id a) g.good; leans = g.leans ∙ sym a.looked }
