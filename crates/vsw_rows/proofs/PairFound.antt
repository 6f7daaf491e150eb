-- What a change of a layer leaves of what a look finds there.
use Rattle.std.proofs.Common.{◌≡◌, ℕ, ◌==◌, Bool, true, false, not, ◌&&◌, ◌||◌, if◌then◌else◌, List, [], ◌∷◌, Option, Some, None, is_some, option_map, refl, sym, ap, ◌∙◌, arith, true≢false}
use Rattle.vsw_base.specs.declared.flow.Set.{Set}
use Rattle.vsw_base.specs.declared.flow.Track.{Track}
use Rattle.vsw_base.specs.declared.packet.Dir.{Dir}
use Rattle.vsw_walk.specs.declared.scratch.Looked.{Looked}
use Rattle.vsw_policy.specs.declared.layer.LayerSpec.{LayerSpec}
use Rattle.vsw_policy.specs.Layer.{LayerSeen, with_pair, with_touched, without_pair}
use Rattle.vsw_layerflow.specs.declared.pair.Pair.{Pair}
use Rattle.vsw_layerflow.specs.declared.pair.Probe.{Probe}
use Rattle.vsw_layerflow.specs.Life.{life}
use Rattle.vsw_layerflow.specs.Pairs.{holder, holds, number_of, pair_of, probe, touch_if, touched, without}
use Rattle.vsw_layerflow.proofs.Lists.{holder-push}
use Rattle.vsw_rows.specs.Shaken.{is_found, moves, moves_found}
use Rattle.vsw_walk.specs.Known.{set_towards}

-- what a packet without a control is told by a pair: its number, what it writes, its last use and its life
abbrev pub Gist : Type 0
Gist = ℕ × Set × ℕ × ℕ

abbrev pub gist : LayerSpec → Dir → Pair → Gist
gist s d p = (p.number, set_towards d p, p.last_use, life p.state s.idle s.linger)

-- a layer without its pairs
abbrev pub bare : LayerSeen → LayerSeen
bare l = record { controller = l.controller; spec = l.spec; groups = l.groups; pairs = []; next_pair = 0 }

-- all that a look is told by a layer
abbrev pub View : Type 0
View = LayerSeen × Option Gist

abbrev pub view : Looked → LayerSeen → View
view q l = (bare l, option_map (gist l.spec q.dir) (pair_of q.dir q.key l.pairs))

-- a pair is made
pushed : (o : Option Pair) (f : Option ℕ) (b : Bool) (p : Pair) → f ≡ option_map number_of o → (not (is_some f) && b) ≡ false → (if is_some o then o else if b then Some p else None) ≡ o
pushed (Some r) f b p e h = refl
pushed None f false p e h = refl
pushed None None true p e h = absurd (true≢false h)
pushed None (Some n) true p e h = absurd (true≢false (ap is_some e))

pub make_stays : (q : Looked) (p : Pair) (l : LayerSeen) → q.found ≡ option_map number_of (pair_of q.dir q.key l.pairs) → (not (is_some q.found) && holds (probe q.dir q.key) p) ≡ false → view q (with_pair p l) ≡ view q l
make_stays q p l e h =
    ap (λ o. (bare l, option_map (gist l.spec q.dir) o))
    (holder-push (probe q.dir q.key) l.pairs p ∙ pushed (holder (probe q.dir q.key) l.pairs) q.found (holds (probe q.dir q.key) p) p e h)

-- a pair is touched
touched-holder : (n : ℕ) (t : Track) (m : ℕ) (k : Probe) (ps : List Pair) → holder k (touched n t m ps) ≡ option_map (touch_if n t m) (holder k ps)
touched-holder n t m k [] = refl
touched-holder n t m k (p ∷ ps) =
    let ih = touched-holder n t m k ps in
    elim (holds k p) as (λ b. (if b then Some (touch_if n t m p) else holder k (touched n t m ps)) ≡ option_map (touch_if n t m) (if b then Some p else holder k ps)) [ true ↦ refl | false ↦ ih ]

neither : (a b : Bool) → (not a || not b) ≡ false → (a ≡ true) × (b ≡ true)
neither true true e = (refl, refl)
neither true false e = absurd (true≢false e)
neither false b e = absurd (true≢false e)

equal : (a b : ℕ) → (a == b) ≡ true → a ≡ b
equal a b e = grind arith

alike : (s : LayerSpec) (d : Dir) (n : ℕ) (t : Track) (m : ℕ) (p : Pair) → ((n == p.number) && moves s t m p) ≡ false → gist s d (touch_if n t m p) ≡ gist s d p
alike s d n t m p h = by (n == p.number) refl h
  where
    by : (b : Bool) → (n == p.number) ≡ b → (b && moves s t m p) ≡ false
        → ◌≡◌ {A = Gist} (p.number, set_towards d p, if n == p.number then m else p.last_use, life (if n == p.number then t else p.state) s.idle s.linger) (gist s d p)
    by true e h =
        let both = neither (m == p.last_use) (life t s.idle s.linger == life p.state s.idle s.linger) h in
        rw (e, equal m p.last_use both.0, equal (life t s.idle s.linger) (life p.state s.idle s.linger) both.1) refl
    by false e h = rw e refl

same_gist : (s : LayerSpec) (d : Dir) (n : ℕ) (t : Track) (m : ℕ) (o : Option Pair) → (is_found n (option_map number_of o) && moves_found s t m o) ≡ false → option_map (gist s d) (option_map (touch_if n t m) o) ≡ option_map (gist s d) o
same_gist s d n t m None h = refl
same_gist s d n t m (Some p) h = ap (λ g. Some g) (alike s d n t m p h)

pub touch_stays : (q : Looked) (n : ℕ) (t : Track) (m : ℕ) (l : LayerSeen) → q.found ≡ option_map number_of (pair_of q.dir q.key l.pairs)
    → (is_found n q.found && moves_found l.spec t m (pair_of q.dir q.key l.pairs)) ≡ false → view q (with_touched n t m l) ≡ view q l
touch_stays q n t m l e h =
    ap (λ o. (bare l, o))
    (ap (option_map (gist l.spec q.dir)) (touched-holder n t m (probe q.dir q.key) l.pairs)
    ∙ same_gist l.spec q.dir n t m (pair_of q.dir q.key l.pairs) (sym (ap (λ f. is_found n f && moves_found l.spec t m (pair_of q.dir q.key l.pairs)) e) ∙ h))

-- a pair leaves
without-holder : (n : ℕ) (k : Probe) (ps : List Pair) → is_found n (option_map number_of (holder k ps)) ≡ false → holder k (without n ps) ≡ holder k ps
without-holder n k [] h = refl
without-holder n k (p ∷ ps) h = by (n == p.number) (holds k p) refl refl h (without-holder n k ps)
  where
    by : (a b : Bool) → (n == p.number) ≡ a → holds k p ≡ b → is_found n (option_map number_of (if b then Some p else holder k ps)) ≡ false
        → (is_found n (option_map number_of (holder k ps)) ≡ false → holder k (without n ps) ≡ holder k ps) → holder k (without n (p ∷ ps)) ≡ holder k (p ∷ ps)
    by true true e f h ih = absurd (true≢false (sym e ∙ h))
    by false true e f h ih = rw (e, f) refl
    by true false e f h ih = rw (e, f) (ih h)
    by false false e f h ih = rw (e, f) (ih h)

pub leave_stays : (q : Looked) (n : ℕ) (l : LayerSeen) → q.found ≡ option_map number_of (pair_of q.dir q.key l.pairs) → is_found n q.found ≡ false → view q (without_pair n l) ≡ view q l
leave_stays q n l e h = ap (λ o. (bare l, option_map (gist l.spec q.dir) o)) (without-holder n (probe q.dir q.key) l.pairs (sym (ap (is_found n) e) ∙ h))
