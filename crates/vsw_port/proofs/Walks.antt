-- What holds of all changes that a walk tells.
use Rattle.std.proofs.Common.{◌≡◌, ℕ, suc, ◌+◌, ◌==◌, Bool, true, false, List, [], ◌∷◌, ◌++◌, reverse, Option, Some, None, is_some, refl, sym, ap, subst, ◌∙◌, arith, true≢false}
use Rattle.std.specs.Prelude.{if◌then◌else◌}
use Rattle.std.specs.List.{slice_get}
use Rattle.std.proofs.lemmas.List.{reverse-append}
use Rattle.vsw_port.specs.Private.Threaded.{AllThere, IsThere, ThereIn}
use Rattle.vsw_port.proofs.Visits.{IsVisit, MayLeave, visits}
use Rattle.vsw_base.specs.declared.flow.Crossing.{Crossing}
use Rattle.vsw_base.specs.declared.header.Header.{Header}
use Rattle.vsw_base.specs.declared.packet.Control.{Control}
use Rattle.vsw_base.specs.declared.packet.Dir.{Dir}
use Rattle.vsw_base.specs.declared.packet.Dir.TheVariants.{Out, In}
use Rattle.vsw_base.specs.Shape.{encaps}
use Rattle.vsw_rule.specs.Edit.{edited, kept_after}
use Rattle.vsw_walk.specs.declared.scratch.Wanted.{Wanted}
use Rattle.vsw_walk.specs.Walk.{along, by_visit, crossed, leaving, placed, wanting, walk_of}
use Rattle.vsw_header.specs.Key.{key_from}
use Rattle.vsw_policy.specs.Layer.{LayerSeen}
use Rattle.vsw_layerflow.specs.declared.pair.Pair.{Pair}
use Rattle.vsw_layerflow.specs.declared.pair.Probe.{Probe}
use Rattle.vsw_layerflow.specs.Pairs.{holder, holds, numbered, pair_of, probe}
use Rattle.vsw_policy.specs.Sound.{Each}
use Rattle.vsw_walk.specs.declared.outcome.Visit.{Visit}
use Rattle.vsw_walk.specs.declared.outcome.Visit.TheVariants.{Stops, Goes}
use Rattle.vsw_walk.specs.declared.outcome.Want.{Want}
use Rattle.vsw_walk.specs.declared.outcome.Want.TheVariants.{Make, Touch}
use Rattle.vsw_walk.specs.Visit.{visit_of}

pub each_append : {A : Type 0} (P : A → Type 0) (xs ys : List A) → Each P xs → Each P ys → Each P (xs ++ ys)
each_append P [] ys h i = i
each_append P (x ∷ xs) ys h i = (h.0, each_append P xs ys h.1 i)

pub each_reverse : {A : Type 0} (P : A → Type 0) (xs : List A) → Each P xs → Each P (reverse xs)
each_reverse P [] h = tt
each_reverse P (x ∷ xs) h = subst (Each P) (sym (reverse-append (x ∷ []) xs)) (each_append P (reverse xs) (x ∷ []) (each_reverse P xs h.1) (h.0, tt))

-- what a layer tells that a packet meets
abbrev pub told_by : ℕ → Visit → List Wanted
told_by place (Stops verdict) = []
told_by place (Goes action left wants) = leaving place left ++ wanting place wants

-- what holds of all that each layer tells holds of all that the walk tells
pub each_told : (P : Wanted → Type 0) (d : Dir) (c : Control) (moment : ℕ) (es : List (ℕ × LayerSeen))
    → Each (λ e. (hs : List Header) → Each P (told_by e.0 (visit_of e.1 d c moment hs))) es → (hs : List Header) (kept : ℕ) → Each P (along d c moment es hs kept).changes
each_told P d c moment [] h hs kept = tt
each_told P d c moment (e ∷ es) h hs kept = by (visit_of e.1 d c moment hs) (h.0 hs) (λ ks left. each_told P d c moment es h.1 ks left)
  where
    by : (v : Visit) → Each P (told_by e.0 v) → ((ks : List Header) (left : ℕ) → Each P (along d c moment es ks left).changes)
        → Each P (by_visit e.0 hs kept v (λ ks left. along d c moment es ks left)).changes
    by (Stops verdict) p ih = tt
    by (Goes action left wants) p ih =
        each_append P (leaving e.0 left ++ wanting e.0 wants) (along d c moment es (edited action hs) (kept_after action hs kept)).changes p (ih (edited action hs) (kept_after action hs kept))

-- each layer stands at its place
each_placed : (base ls : List LayerSeen) (k : ℕ) → ((i j : ℕ) → j ≡ k + i → slice_get base j ≡ slice_get ls i) → Each (λ e. slice_get base e.0 ≡ Some e.1) (placed k ls)
each_placed base [] k h = tt
each_placed base (l ∷ ls) k h = (h 0 k (omega arith), each_placed base ls (suc k) (λ i j e. h (suc i) j (omega (arith, e))))

pub places : (ls : List LayerSeen) → Each (λ e. slice_get ls e.0 ≡ Some e.1) (placed 0 ls)
places ls = each_placed ls ls 0 (λ i j e. ap (slice_get ls) (omega (arith, e)))

pub each_as : {A : Type 0} (P Q : A → Type 0) → ((x : A) → P x → Q x) → (xs : List A) → Each P xs → Each Q xs
each_as P Q f [] h = tt
each_as P Q f (x ∷ xs) h = (f x h.0, each_as P Q f xs h.1)

pub each_crossed : (P : ℕ × LayerSeen → Type 0) (d : Dir) (es : List (ℕ × LayerSeen)) → Each P es → Each P (crossed d es)
each_crossed P Out es h = h
each_crossed P In es h = each_reverse P es h

-- who holds a probe is among the pairs
pub held_there : (q : Probe) (ps : List Pair) (p : Pair) → holder q ps ≡ Some p → is_some (numbered p.number ps) ≡ true
held_there q [] p e = absurd (true≢false (sym (ap is_some e)))
held_there q (r ∷ ps) p e = by (p.number == r.number) (holds q r) refl refl (held_there q ps p)
  where
    by : (a b : Bool) → (p.number == r.number) ≡ a → holds q r ≡ b → (holder q ps ≡ Some p → is_some (numbered p.number ps) ≡ true) → is_some (numbered p.number (r ∷ ps)) ≡ true
    by true b f g ih = rw f refl
    by false true f g ih =
        let same : Some r ≡ Some p = sym (ap (λ b. if b then Some r else holder q ps) g) ∙ e in
        let numbers : r.number ≡ p.number = ap (λ o. elim o [ None ↦ r.number | Some z ↦ z.number ]) same in
        absurd (true≢false (sym (grind (arith, numbers)) ∙ f))
    by false false f g ih = rw f (ih (sym (ap (λ b. if b then Some r else holder q ps) g) ∙ e))

visit_there : (ls : List LayerSeen) (place : ℕ) (l : LayerSeen) (d : Dir) (hs : List Header) → slice_get ls place ≡ Some l → (v : Visit) → IsVisit l d hs v → Each (ThereIn ls) (told_by place v)
visit_there ls place l d hs e (Stops verdict) h = tt
visit_there ls place l d hs e (Goes action left wants) h = each_append (ThereIn ls) (leaving place left) (wanting place wants) (leaves left h.0) (wanted wants)
  where
    there : (p : Pair) → pair_of d (key_from hs) l.pairs ≡ Some p → IsThere ls place p.number
    there p f k g = let same : l ≡ k = ap (λ o. elim o [ None ↦ l | Some z ↦ z ]) (sym e ∙ g) in rw (← same) (held_there (probe d (key_from hs)) l.pairs p f)

    leaves : (o : Option ℕ) → MayLeave l d hs o → Each (ThereIn ls) (leaving place o)
    leaves None m = tt
    leaves (Some n) (p, f, g) = rw g (there p f, tt)

    wanted : (o : Option Want) → Each (ThereIn ls) (wanting place o)
    wanted None = tt
    wanted (Some (Make p)) = (tt, tt)
    wanted (Some (Touch number state last)) = (tt, tt)

-- each pair that leaves is in its layer
pub walk_there : (ls : List LayerSeen) (x : Crossing) → AllThere ls (walk_of ls x).changes
unfolding walk_of
walk_there ls x =
    each_told (ThereIn ls) x.id.dir x.control x.moment (crossed x.id.dir (placed 0 ls))
    (each_as (λ e. slice_get ls e.0 ≡ Some e.1) (λ e. (hs : List Header) → Each (ThereIn ls) (told_by e.0 (visit_of e.1 x.id.dir x.control x.moment hs)))
    (λ e h hs. visit_there ls e.0 e.1 x.id.dir hs h (visit_of e.1 x.id.dir x.control x.moment hs) (visits e.1 x.id.dir x.control x.moment hs))
    (crossed x.id.dir (placed 0 ls)) (each_crossed (λ e. slice_get ls e.0 ≡ Some e.1) x.id.dir (placed 0 ls) (places ls)))
    x.id.stack (encaps x.id.stack)
