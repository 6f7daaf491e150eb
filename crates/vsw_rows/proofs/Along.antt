-- Two walks of a packet without a control, over layers that tell its looks the same.
use Rattle.std.proofs.Common.{◌≡◌, ℕ, suc, ◌/◌, ◌+◌, Bool, ◌||◌, List, [], ◌∷◌, ◌++◌, length, map, reverse, Option, Some, None, option_map, refl, sym, ap, subst, ◌∙◌, arith, true≢false}
use Rattle.std.specs.Prelude.{Ok, Err, is_ok}
use Rattle.std.specs.List.{slice_get}
use Rattle.std.proofs.lemmas.List.{reverse-append}
use Rattle.vsw_base.specs.declared.fate.Verdict.{Verdict}
use Rattle.vsw_base.specs.declared.header.Header.{Header}
use Rattle.vsw_base.specs.declared.packet.Control.TheVariants as control
use Rattle.vsw_base.specs.declared.packet.Dir.{Dir}
use Rattle.vsw_base.specs.declared.packet.Dir.TheVariants.{Out, In}
use Rattle.vsw_port.specs.Cross.{makes}
use Rattle.vsw_rule.specs.Edit.{edited, kept_after}
use Rattle.vsw_walk.specs.declared.scratch.Looked.{Looked}
use Rattle.vsw_walk.specs.declared.scratch.Wanted.{Wanted}
use Rattle.vsw_walk.specs.Walk.{Walk, along, by_visit, crossed, due_of, leaving, look_of, placed, sooner, wanting}
use Rattle.vsw_header.specs.Key.{key_from}
use Rattle.vsw_policy.specs.Layer.{LayerSeen}
use Rattle.vsw_layerflow.specs.Life.{later}
use Rattle.vsw_layerflow.specs.Pairs.{number_of, pair_of}
use Rattle.vsw_rows.proofs.Courses.{Course, course, same_course, wants_pair}
use Rattle.vsw_rows.proofs.PairFound.{Gist, View, view}
use Rattle.vsw_rows.proofs.Stays.{Stays, due_gist, number_gist}
use Rattle.vsw_rows.specs.Shaken.{IsRight, found_in}
use Rattle.vsw_policy.specs.Sound.{Each}
use Rattle.vsw_rule.specs.declared.rule.Action.{Action}
use Rattle.vsw_walk.specs.declared.outcome.Visit.{Visit}
use Rattle.vsw_walk.specs.declared.outcome.Visit.TheVariants.{Stops, Goes}
use Rattle.vsw_walk.specs.declared.outcome.Want.{Want}
use Rattle.vsw_walk.specs.declared.outcome.Want.TheVariants.{Make, Touch}
use Rattle.vsw_walk.specs.Visit.{visit_of}

-- a layer as it is among these, at its place
abbrev pub or_else : Option LayerSeen → LayerSeen → LayerSeen
or_else None l = l
or_else (Some m) l = m

abbrev pub fresh : List LayerSeen → ℕ × LayerSeen → ℕ × LayerSeen
fresh now e = (e.0, or_else (slice_get now e.0) e.1)

-- a layer stands at its place
abbrev pub Stands : List LayerSeen → ℕ × LayerSeen → Type 0
Stands ls e = slice_get ls e.0 ≡ Some e.1

-- walks that end alike
pub record Alike (v w : Walk) : Type 0 where
  pub verdict : v.verdict ≡ w.verdict
  pub stack : v.stack ≡ w.stack
  pub kept : v.kept ≡ w.kept
  pub makes : makes v.changes ≡ makes w.changes
  pub looked : v.looked ≡ w.looked
  pub due : v.due ≡ w.due

pub makes_told : (place : ℕ) (left : Option ℕ) (wants : Option Want) (ws : List Wanted) → makes ((leaving place left ++ wanting place wants) ++ ws) ≡ (wants_pair wants || makes ws)
makes_told place None None ws = refl
makes_told place None (Some (Make p)) ws = refl
makes_told place None (Some (Touch n t m)) ws = refl
makes_told place (Some k) None ws = refl
makes_told place (Some k) (Some (Make p)) ws = refl
makes_told place (Some k) (Some (Touch n t m)) ws = refl

taken : (c d : Action × Bool) → ◌≡◌ {A = Course} (Ok c) (Ok d) → c ≡ d
taken c d e = ap (λ (r : Course). elim r [ Ok x ↦ x | Err v ↦ c ]) e

halted : (v w : Verdict) → ◌≡◌ {A = Course} (Err v) (Err w) → v ≡ w
halted v w e = ap (λ (r : Course). elim r [ Ok x ↦ v | Err z ↦ z ]) e

went : (c : Action × Bool) (v : Verdict) → ◌≡◌ {A = Course} (Ok c) (Err v) → ⊥
went c v e = true≢false (ap (λ (r : Course). is_ok r) e)

-- the layer is told the look as before
seen_same : (ls now : List LayerSeen) (e : ℕ × LayerSeen) (q : Looked) → q.layer ≡ e.0 → Stands ls e → Stays q ls now → view q (fresh now e).1 ≡ view q e.1
seen_same ls now e q i g s = by (slice_get now e.0) (sym (ap (λ n. option_map (view q) (slice_get now n)) i) ∙ s ∙ ap (λ n. option_map (view q) (slice_get ls n)) i ∙ ap (option_map (view q)) g)
  where
    by : (o : Option LayerSeen) → option_map (view q) o ≡ Some (view q e.1) → view q (or_else o e.1) ≡ view q e.1
    by None h = refl
    by (Some m) h = ap (λ o. elim o [ None ↦ view q m | Some z ↦ z ]) h

-- what a packet looks for in a layer
abbrev pub look_at : ℕ × LayerSeen → Dir → List Header → Looked
look_at e d hs = look_of e.0 d hs (pair_of d (key_from hs) e.1.pairs)

look_same : (ls now : List LayerSeen) (d : Dir) (hs : List Header) (e : ℕ × LayerSeen) → Stands ls e → Stays (look_at e d hs) ls now → look_at (fresh now e) d hs ≡ look_at e d hs
look_same ls now d hs e g s = ap (λ f. record { layer = e.0; dir = d; key = key_from hs; found = f }) number
  where
    number : option_map number_of (pair_of d (key_from hs) (fresh now e).1.pairs) ≡ option_map number_of (pair_of d (key_from hs) e.1.pairs)
    number =
        number_gist (fresh now e).1.spec d (pair_of d (key_from hs) (fresh now e).1.pairs) ∙ ap (λ (v : View). option_map (λ (g : Gist). g.0) v.1) (seen_same ls now e (look_at e d hs) refl g s)
        ∙ sym (number_gist e.1.spec d (pair_of d (key_from hs) e.1.pairs))

due_same : (ls now : List LayerSeen) (d : Dir) (hs : List Header) (e : ℕ × LayerSeen) → Stands ls e → Stays (look_at e d hs) ls now
    → due_of (fresh now e).1.spec (pair_of d (key_from hs) (fresh now e).1.pairs) ≡ due_of e.1.spec (pair_of d (key_from hs) e.1.pairs)
due_same ls now d hs e g s =
    due_gist (fresh now e).1.spec d (pair_of d (key_from hs) (fresh now e).1.pairs) ∙ ap (λ (v : View). option_map (λ (g : Gist). later g.2 (g.3 / 4)) v.1) (seen_same ls now e (look_at e d hs) refl g s)
    ∙ sym (due_gist e.1.spec d (pair_of d (key_from hs) e.1.pairs))

pub along_alike : (ls now : List LayerSeen) (d : Dir) (m n : ℕ) (es : List (ℕ × LayerSeen)) (hs : List Header) (kept : ℕ) → Each (Stands ls) es → Each (λ q. Stays q ls now) (along d control.None m es hs kept).looked
    → Alike (along d control.None n (map (fresh now) es) hs kept) (along d control.None m es hs kept)
along_alike ls now d m n [] hs kept g h = record { verdict = refl; stack = refl; kept = refl; makes = refl; looked = refl; due = refl }
along_alike ls now d m n (e ∷ es) hs kept g h =
    let rest =
    by (visit_of (fresh now e).1 d control.None n hs) (visit_of e.1 d control.None m hs)
    (same_course e.0 e.1 (fresh now e).1 d m n hs (seen_same ls now e (look_at e d hs) refl g.0 h.0)) h.1 (λ ks j i. along_alike ls now d m n es ks j g.1 i)
    in
    record {
      verdict = rest.verdict;
      stack = rest.stack;
      kept = rest.kept;
      makes = rest.makes;
      looked = (λ i. look_same ls now d hs e g.0 h.0 i ∷ rest.looked i);
      due = (λ i. sooner (due_same ls now d hs e g.0 h.0 i) (rest.due i));
    }
  where
    by : (u v : Visit) → course u ≡ course v → Each (λ q. Stays q ls now) (by_visit e.0 hs kept v (λ ks j. along d control.None m es ks j)).looked
        → ((ks : List Header) (j : ℕ) → Each (λ q. Stays q ls now) (along d control.None m es ks j).looked → Alike (along d control.None n (map (fresh now) es) ks j) (along d control.None m es ks j))
        → Alike (by_visit e.0 hs kept u (λ ks j. along d control.None n (map (fresh now) es) ks j)) (by_visit e.0 hs kept v (λ ks j. along d control.None m es ks j))
    by (Stops a) (Stops b) c i ih = record { verdict = halted a b c; stack = refl; kept = refl; makes = refl; looked = refl; due = refl }
    by (Stops a) (Goes b left wants) c i ih = absurd (went (b, wants_pair wants) a (sym c))
    by (Goes a left wants) (Stops b) c i ih = absurd (went (a, wants_pair wants) b c)
    by (Goes a left wants) (Goes b other wished) c i ih =
        let same = taken (a, wants_pair wants) (b, wants_pair wished) c in
        let action : a ≡ b = ap (λ x. x.0) same in
        let pair : wants_pair wants ≡ wants_pair wished = ap (λ x. x.1) same in
        let then_a = along d control.None n (map (fresh now) es) (edited a hs) (kept_after a hs kept) in
        let then_b = along d control.None m es (edited b hs) (kept_after b hs kept) in
        let rest : Alike then_a then_b = subst (λ x. Alike (along d control.None n (map (fresh now) es) (edited x hs) (kept_after x hs kept)) then_b) (sym action) (ih (edited b hs) (kept_after b hs kept) i) in
        record {
          verdict = rest.verdict;
          stack = rest.stack;
          kept = rest.kept;
          makes = makes_told e.0 left wants then_a.changes ∙ ap (λ x. x || makes then_a.changes) pair ∙ ap (λ x. wants_pair wished || x) rest.makes ∙ sym (makes_told e.0 other wished then_b.changes);
          looked = rest.looked;
          due = rest.due;
        }

-- the looks tell what they find
pub looks_right : (ls : List LayerSeen) (d : Dir) (m : ℕ) (es : List (ℕ × LayerSeen)) (hs : List Header) (kept : ℕ) → Each (Stands ls) es → Each (IsRight ls) (along d control.None m es hs kept).looked
looks_right ls d m [] hs kept g = tt
looks_right ls d m (e ∷ es) hs kept g = (sym (ap (λ o. option_map number_of (found_in o (look_at e d hs))) g.0), by (visit_of e.1 d control.None m hs) (λ ks j. looks_right ls d m es ks j g.1))
  where
    by : (v : Visit) → ((ks : List Header) (j : ℕ) → Each (IsRight ls) (along d control.None m es ks j).looked) → Each (IsRight ls) (by_visit e.0 hs kept v (λ ks j. along d control.None m es ks j)).looked
    by (Stops verdict) ih = tt
    by (Goes action left wants) ih = ih (edited action hs) (kept_after action hs kept)

-- the layers, each as it is among the later ones
placed_fresh : (now : List LayerSeen) (k : ℕ) (ls ms : List LayerSeen) → length ms ≡ length ls → ((i j : ℕ) → j ≡ k + i → slice_get now j ≡ slice_get ms i) → placed k ms ≡ map (fresh now) (placed k ls)
placed_fresh now k [] [] e h = refl
placed_fresh now k [] (m ∷ ms) e h = grind arith
placed_fresh now k (l ∷ ls) [] e h = grind arith
placed_fresh now k (l ∷ ls) (m ∷ ms) e h =
    let here : slice_get now k ≡ Some m = h 0 k (omega arith) in
    let rest : length ms ≡ length ls = grind (arith, e) in
    ap (λ o. (k, or_else o l) ∷ placed (suc k) ms) (sym here) ∙ ap (λ es. fresh now (k, l) ∷ es) (placed_fresh now (suc k) ls ms rest (λ i j f. h (suc i) j (omega (arith, f))))

map-append : (f : ℕ × LayerSeen → ℕ × LayerSeen) (xs ys : List (ℕ × LayerSeen)) → map f (xs ++ ys) ≡ map f xs ++ map f ys
map-append f [] ys = refl
map-append f (x ∷ xs) ys = ap (λ zs. f x ∷ zs) (map-append f xs ys)

map-reverse : (f : ℕ × LayerSeen → ℕ × LayerSeen) (xs : List (ℕ × LayerSeen)) → reverse (map f xs) ≡ map f (reverse xs)
map-reverse f [] = refl
map-reverse f (x ∷ xs) = reverse-append (f x ∷ []) (map f xs) ∙ ap (λ zs. zs ++ f x ∷ []) (map-reverse f xs) ∙ sym (ap (map f) (reverse-append (x ∷ []) xs) ∙ map-append f (reverse xs) (x ∷ []))

crossed_map : (d : Dir) (f : ℕ × LayerSeen → ℕ × LayerSeen) (es : List (ℕ × LayerSeen)) → crossed d (map f es) ≡ map f (crossed d es)
crossed_map Out f es = refl
crossed_map In f es = map-reverse f es

pub crossed_fresh : (d : Dir) (ls now : List LayerSeen) → length now ≡ length ls → crossed d (placed 0 now) ≡ map (fresh now) (crossed d (placed 0 ls))
crossed_fresh d ls now e = ap (crossed d) (placed_fresh now 0 ls now e (λ i j f. ap (slice_get now) (omega (arith, f)))) ∙ crossed_map d (fresh now) (placed 0 ls)
