-- A good row answers as the crossing does.
use Rattle.std.proofs.Common.{◌≡◌, ◌≤◌, ℕ, Bool, true, false, not, ◌==◌, List, [], ◌∷◌, length, Option, Some, None, refl, sym, ap, subst, ◌∙◌, arith, true≢false}
use Rattle.std.specs.Prelude.{if◌then◌else◌, nat_le}
use Rattle.vsw_port.specs.declared.stop.Stop.{Stop}
use Rattle.vsw_port.specs.declared.stop.Stop.TheVariants.{Long}
use Rattle.vsw_port.specs.Admit.{on_pass, refusal}
use Rattle.vsw_port.specs.Long.{is_long}
use Rattle.vsw_base.specs.declared.fate.Verdict.{Verdict}
use Rattle.vsw_base.specs.declared.fate.Verdict.TheVariants.{Pass, Default, Rule}
use Rattle.vsw_base.specs.declared.flow.Crossing.{Crossing}
use Rattle.vsw_base.specs.declared.header.Header.{Header}
use Rattle.vsw_base.specs.declared.packet.Control.TheVariants as control
use Rattle.vsw_base.specs.Shape.{encaps}
use Rattle.vsw_port.specs.Cross.{Crossed, all_done, cross_of, fate_after, made_after, makes}
use Rattle.vsw_walk.specs.declared.scratch.Wanted.{Wanted}
use Rattle.vsw_walk.specs.Walk.{along, crossed, greatest, placed, until_after, walk_of}
use Rattle.vsw_policy.specs.Layer.{LayerSeen}
use Rattle.vsw_rows.specs.Good.{Row}
use Rattle.vsw_rows.specs.LeanLaw.{IsOfWay, QuietUntil, RowAnswers, answer_by, wants_none}
use Rattle.vsw_rows.specs.Way.{way_of}
use Rattle.vsw_rows.proofs.Quiet.{le_due, quiet_along}
use Rattle.vsw_rows.proofs.Ways.{moment_unseen}
use Rattle.vsw_transpose.specs.Apply.{apply}
use Rattle.vsw_transpose.specs.Fits as fit

quiet_walk : (ls : List LayerSeen) (x : Crossing) → x.control ≡ control.None → (walk_of ls x).verdict ≡ Pass → makes (walk_of ls x).changes ≡ false → wants_none (walk_of ls x).changes ≡ le_due x.moment (walk_of ls x).due
unfolding walk_of
quiet_walk ls x c =
    subst
    (λ k. (along x.id.dir k x.moment (crossed x.id.dir (placed 0 ls)) x.id.stack (encaps x.id.stack)).verdict ≡ Pass → makes (along x.id.dir k x.moment (crossed x.id.dir (placed 0 ls)) x.id.stack (encaps x.id.stack)).changes ≡ false
    → wants_none (along x.id.dir k x.moment (crossed x.id.dir (placed 0 ls)) x.id.stack (encaps x.id.stack)).changes ≡ le_due x.moment (along x.id.dir k x.moment (crossed x.id.dir (placed 0 ls)) x.id.stack (encaps x.id.stack)).due)
    (sym c) (quiet_along x.id.dir x.moment (crossed x.id.dir (placed 0 ls)) x.id.stack (encaps x.id.stack))

soon : (a b : ℕ) → a ≤ b → nat_le a b ≡ true
soon a b h = grind (arith, h)

-- where none is due, the until of a pass is the greatest moment
due_until : (m : ℕ) (o : Option ℕ) → m ≤ greatest → le_due m o ≡ nat_le m (until_after Pass o)
due_until m None h = sym (soon m greatest h)
due_until m (Some n) h = refl

until_due : (m : ℕ) (o : Option ℕ) → m ≤ until_after Pass o → le_due m o ≡ true
until_due m None h = refl
until_due m (Some n) h = soon m n h

pub quiet_until : QuietUntil
quiet_until ls x c h p n =
    let w = (moment_unseen ls x c).0 in
    let v : (walk_of ls x).verdict ≡ Pass = w.verdict ∙ p in
    quiet_walk ls x c v (w.makes ∙ n) ∙ due_until x.moment (walk_of ls x).due h ∙ ap (nat_le x.moment) (ap (λ u. until_after u (walk_of ls x).due) (sym v) ∙ w.until)

no_changes : (ws : List Wanted) → wants_none ws ≡ true → ws ≡ []
no_changes [] h = refl
no_changes (w ∷ ws) h = absurd (true≢false (sym h))

-- a crossing whose walk ends so
abbrev pub stop_with : List LayerSeen → Crossing → Verdict → List Header → ℕ → List Wanted → Option Stop
stop_with ls x v hs kept ws = on_pass v (if is_long x hs kept then Some Long else refusal ls ws)

cross_with : List LayerSeen → Crossing → Verdict → List Header → ℕ → List Wanted → Crossed
cross_with ls x v hs kept ws = record {
  fate = fate_after v (stop_with ls x v hs kept ws) hs kept;
  layers = all_done (made_after v (stop_with ls x v hs kept ws) ws) ls;
  changed = not (length (made_after v (stop_with ls x v hs kept ws) ws) == 0);
}

-- what a row with this verdict answers
answer_with : List LayerSeen → Row → Crossing → Verdict → Crossed
answer_with ls r x v = record { fate = fate_after v (on_pass v (if is_long x (apply r.acts x.id.stack) (fit.kept r.acts) then Some Long else None)) (apply r.acts x.id.stack) (fit.kept r.acts); layers = ls; changed = false }

pass_with : (ls : List LayerSeen) (r : Row) (x : Crossing) → cross_with ls x Pass (apply r.acts x.id.stack) (fit.kept r.acts) [] ≡ answer_with ls r x Pass
unfolding cross_with answer_with
pass_with ls r x = by (is_long x (apply r.acts x.id.stack) (fit.kept r.acts))
  where
    with_stop : Option Stop → Crossed
    with_stop stop = record { fate = fate_after Pass stop (apply r.acts x.id.stack) (fit.kept r.acts); layers = all_done (made_after Pass stop []) ls; changed = not (length (made_after Pass stop []) == 0) }

    by : (b : Bool) → with_stop (if b then Some Long else None) ≡ record { fate = fate_after Pass (if b then Some Long else None) (apply r.acts x.id.stack) (fit.kept r.acts); layers = ls; changed = false }
    by true = refl
    by false = refl

pub row_answers : RowAnswers
unfolding cross_with answer_with
row_answers ls r x g a = by r.verdict refl
  where
    w : IsOfWay (walk_of ls x) (way_of ls x.id)
    w = (moment_unseen ls x a.control).0

    verdict : (walk_of ls x).verdict ≡ r.verdict
    verdict = w.verdict ∙ ap (λ i. (way_of ls i).verdict) a.id ∙ sym g.verdict

    until : r.until ≡ (way_of ls x.id).until
    until = g.until ∙ ap (λ i. (way_of ls i).until) (sym a.id)

    before : x.moment ≤ (way_of ls x.id).until
    before = subst (λ n. x.moment ≤ n) until a.moment

    by : (v : Verdict) → r.verdict ≡ v → cross_of ls x ≡ answer_by ls r x
    by Pass e =
        let v : (walk_of ls x).verdict ≡ Pass = verdict ∙ e in
        let hs : (walk_of ls x).stack ≡ apply r.acts x.id.stack = w.stack ∙ ap (λ i. (way_of ls i).stack) a.id ∙ sym (g.stack e) ∙ ap (λ i. apply r.acts i.stack) (sym a.id) in
        let kept : (walk_of ls x).kept ≡ fit.kept r.acts = w.kept ∙ ap (λ i. (way_of ls i).kept) a.id ∙ sym (g.kept e) in
        let quiet = quiet_walk ls x a.control v (w.makes ∙ ap (λ i. (way_of ls i).makes) a.id ∙ g.makes e) in
        let early : x.moment ≤ until_after Pass (walk_of ls x).due = subst (λ n. x.moment ≤ n) (sym w.until ∙ ap (λ u. until_after u (walk_of ls x).due) v) before in
        let none : (walk_of ls x).changes ≡ [] = no_changes (walk_of ls x).changes (quiet ∙ until_due x.moment (walk_of ls x).due early) in
        (λ z. cross_with ls x (v z) (hs z) (kept z) (none z)) ∙ pass_with ls r x ∙ ap (answer_with ls r x) (sym e)
    by (Rule controller layer group number) e = ap (λ v. cross_with ls x v (walk_of ls x).stack (walk_of ls x).kept (walk_of ls x).changes) (verdict ∙ e) ∙ ap (answer_with ls r x) (sym e)
    by (Default controller layer dir) e = ap (λ v. cross_with ls x v (walk_of ls x).stack (walk_of ls x).kept (walk_of ls x).changes) (verdict ∙ e) ∙ ap (answer_with ls r x) (sym e)
