-- A walk edits a packet's stack so that the frame's bytes can follow.
use Rattle.std.proofs.Common.{◌≡◌, ◌≤◌, ◌∙◌, ℕ, ◌-◌, ◌*◌, List, [], ◌∷◌, take, drop, true, refl, sym, ap, subst, arith}
use Rattle.std.specs.Prelude.{min}
use Rattle.std.proofs.lemmas.List.{drop-take, drop-drop}
use Rattle.vsw_port.specs.AdmissionLaw.{IsFollowed}
use Rattle.vsw_port.proofs.Follows.{Can, pair_can}
use Rattle.vsw_base.specs.declared.header.Header.{Header}
use Rattle.vsw_base.specs.declared.packet.Control.{Control}
use Rattle.vsw_base.specs.declared.packet.Dir.{Dir}
use Rattle.vsw_base.specs.Shape.{encaps, inner, is_stack}
use Rattle.vsw_rule.specs.Acts.{edit_acts}
use Rattle.vsw_rule.specs.Edit.{edited, kept_after}
use Rattle.vsw_rule.specs.Edits.{Edits}
use Rattle.vsw_rule.proofs.Along.{along}
use Rattle.vsw_rule.proofs.EditAlike.{edits}
use Rattle.vsw_frame.specs.Bytes.{IsEdit, kept_headers}
use Rattle.vsw_frame.proofs.Carried.{all_like, likes_on}
use Rattle.vsw_frame.proofs.Fitting.{fits_edit}
use Rattle.vsw_header.specs.Key.{key_from}
use Rattle.vsw_policy.specs.Layer.{LayerSeen}
use Rattle.vsw_layerflow.specs.Pairs.{pair_of}
use Rattle.vsw_rule.specs.declared.rule.Action.{Action}
use Rattle.vsw_rule.specs.declared.rule.Action.TheVariants.{Allow, Drop, Edit}
use Rattle.vsw_rule.specs.Match.{can_do}
use Rattle.vsw_transpose.specs.declared.act.Act.{Act}
use Rattle.vsw_walk.specs.declared.outcome.Visit.{Visit}
use Rattle.vsw_walk.specs.declared.outcome.Visit.TheVariants.{Stops, Goes}
use Rattle.vsw_walk.specs.Visit.{visit_of}
use Rattle.vsw_walk.specs.Walk as walk
use Rattle.vsw_walk.specs.Walk.{by_visit, crossed, placed, walk_of}

-- nothing done is an edit
unedited : (hs : List Header) → is_stack hs ≡ true → IsEdit hs hs (encaps hs)
unedited hs s = record { edited_shape = s; of_stack = omega arith; of_edited = omega arith; stay = refl; alike = all_like (inner hs) }

-- what an action does is an edit
action_edits : (a : Action) (hs : List Header) → is_stack hs ≡ true → can_do a hs ≡ true → IsEdit hs (edited a hs) (kept_after a hs (encaps hs))
action_edits Allow hs s t = unedited hs s
action_edits Drop hs s t = unedited hs s
action_edits (Edit decap set encap) hs s t =
    let xs : List Act = edit_acts decap set encap hs in
    let e : Edits decap set encap xs hs = edits decap set encap hs s t in
    rw (← e.does, ← e.left) (fits_edit xs hs e.form s e.fit)

-- the last of the kept encapsulations, where fewer are kept
fewer : (j k : ℕ) (hs : List Header) → j ≤ k → k ≤ encaps hs → drop (3 * (k - j)) (kept_headers hs k) ≡ kept_headers hs j
fewer j k hs h g =
    let n : ℕ = encaps hs in
    let m : ℕ = 3 * (k - j) in
    ap (λ (i : ℕ). drop m (take i (drop (3 * (n - k)) hs))) (omega (arith, h))
    ∙ drop-take m (3 * j) (drop (3 * (n - k)) hs)
    ∙ ap (take (3 * j)) (drop-drop m (3 * (n - k)) hs ∙ ap (λ (i : ℕ). drop i hs) (omega (arith, h, g)))

-- one edit after another keeps what both keep
edited_on : (first hs ks : List Header) (kept left : ℕ) → IsEdit first hs kept → IsEdit hs ks left → IsEdit first ks (min kept left)
edited_on first hs ks kept left e f =
    let j : ℕ = min kept left in
    let a : j ≤ kept = omega arith in
    let b : j ≤ left = omega arith in
    record {
      edited_shape = f.edited_shape;
      of_stack = omega (arith, a, e.of_stack);
      of_edited = omega (arith, b, f.of_edited);
      stay = sym (fewer j left ks b f.of_edited) ∙ ap (drop (3 * (left - j))) f.stay ∙ fewer j left hs b f.of_stack
          ∙ sym (fewer j kept hs a e.of_edited) ∙ ap (drop (3 * (kept - j))) e.stay ∙ fewer j kept first a e.of_stack;
      alike = likes_on (inner first) (inner hs) (inner ks) e.alike f.alike;
    }

goes_on : (a : Action) (first hs : List Header) (kept : ℕ) → can_do a hs ≡ true → IsEdit first hs kept → IsEdit first (edited a hs) (kept_after a hs kept)
goes_on a first hs kept t e =
    subst (IsEdit first (edited a hs)) (along a hs kept t e.of_edited) (edited_on first hs (edited a hs) kept (kept_after a hs (encaps hs)) e (action_edits a hs e.edited_shape t))

along_edits : (first : List Header) (d : Dir) (c : Control) (moment : ℕ) (ls : List (ℕ × LayerSeen)) (hs : List Header) (kept : ℕ)
    → IsEdit first hs kept → IsEdit first (walk.along d c moment ls hs kept).stack (walk.along d c moment ls hs kept).kept
along_edits first d c moment [] hs kept e = e
along_edits first d c moment (l ∷ ls) hs kept e =
    by (visit_of l.1 d c moment hs) (pair_can l.1 d c moment hs (pair_of d (key_from hs) l.1.pairs)) (λ ks left f. along_edits first d c moment ls ks left f)
  where
    Rest : Type 0
    Rest = (ks : List Header) (left : ℕ) → IsEdit first ks left → IsEdit first (walk.along d c moment ls ks left).stack (walk.along d c moment ls ks left).kept

    by : (v : Visit) → Can hs v → Rest
        → IsEdit first (by_visit l.0 hs kept v (λ ks left. walk.along d c moment ls ks left)).stack (by_visit l.0 hs kept v (λ ks left. walk.along d c moment ls ks left)).kept
    by (Stops verdict) t ih = e
    by (Goes action leaves wants) t ih = ih (edited action hs) (kept_after action hs kept) (goes_on action first hs kept t e)

pub followed : IsFollowed
unfolding walk_of
followed ls x s =
    along_edits x.id.stack x.id.dir x.control x.moment (crossed x.id.dir (placed 0 ls)) x.id.stack (encaps x.id.stack) (unedited x.id.stack s)
