-- The first refusal of a walk, found on the way, is that by layers.
use Rattle.std.proofs.Common.{◌≡◌, ◌==◌, ℕ, true, false, List, [], ◌∷◌, ◌++◌, Option, Some, None, refl, sym, ap, subst, ◌∙◌, arith}
use Rattle.std.specs.Prelude.{if◌then◌else◌}
use Rattle.std.specs.List.{filter_map, slice_get}
use Rattle.vsw_port.specs.declared.stop.Stop.{Stop}
use Rattle.vsw_port.specs.Admit.{left_in, refusal, refused_at, refused_of}
use Rattle.vsw_port.proofs.Apart.{IsElsewhere, crossed_apart, elsewhere, flip, same_place}
use Rattle.vsw_port.specs.Private.Threaded.{left_at, or_next, refusal_after}
use Rattle.vsw_port.proofs.Walks.{each_as, each_told, told_by}
use Rattle.vsw_base.specs.declared.flow.Crossing.{Crossing}
use Rattle.vsw_base.specs.declared.header.Header.{Header}
use Rattle.vsw_base.specs.declared.packet.Control.{Control}
use Rattle.vsw_base.specs.declared.packet.Dir.{Dir}
use Rattle.vsw_base.specs.Shape.{encaps}
use Rattle.vsw_rule.specs.Edit.{edited, kept_after}
use Rattle.vsw_policy.specs.Layer.{LayerSeen}
use Rattle.vsw_layerflow.specs.declared.pair.Pair.{Pair}
use Rattle.vsw_policy.specs.Sound.{AreApart, Each}
use Rattle.vsw_walk.specs.declared.outcome.Visit.{Visit}
use Rattle.vsw_walk.specs.declared.outcome.Visit.TheVariants.{Stops, Goes}
use Rattle.vsw_walk.specs.declared.outcome.Want.TheVariants as want
use Rattle.vsw_walk.specs.Visit.{visit_of}
use Rattle.vsw_walk.specs.declared.scratch.Wanted.{Wanted}
use Rattle.vsw_walk.specs.declared.scratch.Wanted.TheVariants.{Make, Touch, Leave}
use Rattle.vsw_walk.specs.Walk.{along, by_visit, crossed, placed, walk_of}

-- the first refusal, where it is given which pair leaves which layer
abbrev pub first_by : List LayerSeen → (ℕ → Option ℕ) → List Wanted → Option Stop
first_by ls left ws = slice_get (filter_map (refused_of ls left) ws) 0

first_make : (ls : List LayerSeen) (left : ℕ → Option ℕ) (place : ℕ) (p : Pair) (ws : List Wanted) → first_by ls left (Make place p ∷ ws) ≡ or_next (refused_at (slice_get ls place) (left place) p) (first_by ls left ws)
first_make ls left place p ws = by (refused_at (slice_get ls place) (left place) p) refl
  where
    by : (o : Option Stop) → refused_at (slice_get ls place) (left place) p ≡ o → first_by ls left (Make place p ∷ ws) ≡ or_next o (first_by ls left ws)
    by None e = rw e refl
    by (Some stop) e = rw e refl

-- what holds of no refusal and of each holds of the first
pub of_first : (P : Option Stop → Type 0) (ls : List LayerSeen) (left : ℕ → Option ℕ) → P None → ((o : Option LayerSeen) (k : Option ℕ) (p : Pair) → P (refused_at o k p)) → (ws : List Wanted) → P (first_by ls left ws)
of_first P ls left n h [] = n
of_first P ls left n h (Make place p ∷ ws) = subst P (sym (first_make ls left place p ws)) (by (refused_at (slice_get ls place) (left place) p) (h (slice_get ls place) (left place) p) (of_first P ls left n h ws))
  where
    by : (o : Option Stop) → P o → P (first_by ls left ws) → P (or_next o (first_by ls left ws))
    by None x ih = ih
    by (Some stop) x ih = x
of_first P ls left n h (Touch place number state last ∷ ws) = of_first P ls left n h ws
of_first P ls left n h (Leave place number ∷ ws) = of_first P ls left n h ws

-- none leaves a layer where nothing is told of it
left_elsewhere : (k : ℕ) (ws : List Wanted) → Each (IsElsewhere k) ws → left_in k ws ≡ None
left_elsewhere k [] h = refl
left_elsewhere k (Make place p ∷ ws) h = left_elsewhere k ws h.1
left_elsewhere k (Touch place number state last ∷ ws) h = left_elsewhere k ws h.1
left_elsewhere k (Leave place number ∷ ws) h = rw h.0 (left_elsewhere k ws h.1)

-- and what was told to leave elsewhere makes no difference
after_elsewhere : (ls : List LayerSeen) (k n : ℕ) (ws : List Wanted) → Each (IsElsewhere k) ws → refusal_after ls (Some (k, n)) ws ≡ refusal_after ls None ws
after_elsewhere ls k n [] h = refl
after_elsewhere ls k n (Make place p ∷ ws) h = rw h.0 refl
after_elsewhere ls k n (Touch place number state last ∷ ws) h = refl
after_elsewhere ls k n (Leave place number ∷ ws) h = refl

-- what one layer tells makes none leave another
left_beside : (k place : ℕ) → (place == k) ≡ false → (v : Visit) (ws : List Wanted) → left_in k (told_by place v ++ ws) ≡ left_in k ws
left_beside k place h (Stops verdict) ws = refl
left_beside k place h (Goes action None None) ws = refl
left_beside k place h (Goes action None (Some (want.Make p))) ws = refl
left_beside k place h (Goes action None (Some (want.Touch n s t))) ws = refl
left_beside k place h (Goes action (Some m) None) ws = rw h refl
left_beside k place h (Goes action (Some m) (Some (want.Make p))) ws = rw h refl
left_beside k place h (Goes action (Some m) (Some (want.Touch n s t))) ws = rw h refl

same_number : (n : ℕ) → (n == n) ≡ true
same_number n = grind arith

-- which pairs leave the layers that are left, where this is told before
both_left : (left : ℕ → Option ℕ) (place : ℕ) (v : Visit) (ws : List Wanted) (es : List (ℕ × LayerSeen)) → Each (λ y. (place == y.0) ≡ false) es → Each (λ y. left y.0 ≡ left_in y.0 (told_by place v ++ ws)) es → Each (λ y. left y.0 ≡ left_in y.0 ws) es
both_left left place v ws [] a h = tt
both_left left place v ws (e ∷ es) a h = (h.0 ∙ left_beside e.0 place a.0 v ws, both_left left place v ws es a.1 h.1)

along_first : (ls : List LayerSeen) (left : ℕ → Option ℕ) (d : Dir) (c : Control) (moment : ℕ) (es : List (ℕ × LayerSeen)) → AreApart same_place es → (hs : List Header) (kept : ℕ)
    → Each (λ y. left y.0 ≡ left_in y.0 (along d c moment es hs kept).changes) es → refusal_after ls None (along d c moment es hs kept).changes ≡ first_by ls left (along d c moment es hs kept).changes
along_first ls left d c moment [] a hs kept h = refl
along_first ls left d c moment (e ∷ es) a hs kept h = by (visit_of e.1 d c moment hs) h (λ ks j. along_first ls left d c moment es a.1 ks j)
  where
    told : List Header → ℕ → List Wanted
    told ks j = (along d c moment es ks j).changes

    Rest : Type 0
    Rest = (ks : List Header) (j : ℕ) → Each (λ y. left y.0 ≡ left_in y.0 (told ks j)) es → refusal_after ls None (told ks j) ≡ first_by ls left (told ks j)

    others : (ks : List Header) (j : ℕ) → Each (IsElsewhere e.0) (told ks j)
    others ks j =
        each_told (IsElsewhere e.0) d c moment es
        (each_as (λ y. (e.0 == y.0) ≡ false) (λ y. (gs : List Header) → Each (IsElsewhere e.0) (told_by y.0 (visit_of y.1 d c moment gs)))
        (λ y f gs. elsewhere e.0 y.0 (flip e.0 y.0 f) (visit_of y.1 d c moment gs)) es a.0)
        ks j

    -- the refusal here and of the rest, where this pair leaves here
    here : (k : Option ℕ) (p : Pair) (ws : List Wanted) → left e.0 ≡ k → refusal_after ls None ws ≡ first_by ls left ws → or_next (refused_at (slice_get ls e.0) k p) (refusal_after ls None ws) ≡ first_by ls left (Make e.0 p ∷ ws)
    here k p ws f g = rw (first_make ls left e.0 p ws, f, g) refl

    by : (v : Visit) → Each (λ y. left y.0 ≡ left_in y.0 (by_visit e.0 hs kept v (λ ks j. along d c moment es ks j)).changes) (e ∷ es) → Rest
        → refusal_after ls None (by_visit e.0 hs kept v (λ ks j. along d c moment es ks j)).changes ≡ first_by ls left (by_visit e.0 hs kept v (λ ks j. along d c moment es ks j)).changes
    by (Stops verdict) h ih = refl
    by (Goes action None None) h ih = ih (edited action hs) (kept_after action hs kept) h.1
    by (Goes action None (Some (want.Touch n s t))) h ih = ih (edited action hs) (kept_after action hs kept) h.1
    by (Goes action None (Some (want.Make p))) h ih =
        let ks = edited action hs in
        let j = kept_after action hs kept in
        here None p (told ks j) (h.0 ∙ left_elsewhere e.0 (told ks j) (others ks j)) (ih ks j h.1)
    by (Goes action (Some m) None) h ih =
        let ks = edited action hs in
        let j = kept_after action hs kept in
        after_elsewhere ls e.0 m (told ks j) (others ks j) ∙ ih ks j (both_left left e.0 (Goes action (Some m) None) (told ks j) es a.0 h.1)
    by (Goes action (Some m) (Some (want.Touch n s t))) h ih =
        let ks = edited action hs in
        let j = kept_after action hs kept in
        ih ks j (both_left left e.0 (Goes action (Some m) (Some (want.Touch n s t))) (told ks j) es a.0 h.1)
    by (Goes action (Some m) (Some (want.Make p))) h ih =
        let ks = edited action hs in
        let j = kept_after action hs kept in
        let own : left_at e.0 (Some (e.0, m)) ≡ Some m = ap (λ b. if b then Some m else None) (same_number e.0) in
        let leaves : left e.0 ≡ Some m = h.0 ∙ ap (λ b. if b then Some m else left_in e.0 (told ks j)) (same_number e.0) in
        ap (λ k. or_next (refused_at (slice_get ls e.0) k p) (refusal_after ls None (told ks j))) own
        ∙ here (Some m) p (told ks j) leaves (ih ks j (both_left left e.0 (Goes action (Some m) (Some (want.Make p))) (told ks j) es a.0 h.1))

each_refl : (left : ℕ → Option ℕ) (es : List (ℕ × LayerSeen)) → Each (λ y. left y.0 ≡ left y.0) es
each_refl left [] = tt
each_refl left (e ∷ es) = (refl, each_refl left es)

pub refusal_is : (ls : List LayerSeen) (x : Crossing) → refusal_after ls None (walk_of ls x).changes ≡ refusal ls (walk_of ls x).changes
unfolding walk_of
refusal_is ls x =
    let es = crossed x.id.dir (placed 0 ls) in
    let left = λ (k : ℕ). left_in k (along x.id.dir x.control x.moment es x.id.stack (encaps x.id.stack)).changes in
    along_first ls left x.id.dir x.control x.moment es (crossed_apart x.id.dir ls) x.id.stack (encaps x.id.stack) (each_refl left es)
