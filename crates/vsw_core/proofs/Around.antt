-- The rows that a packet's entry shakes fall before it is settled, or once it is, as its changes tell.
use Rattle.std.proofs.Common.{◌≡◌, ◌==◌, ◌||◌, ◌∷◌, ◌++◌, not, ℕ, suc, Bool, true, false, true≢false, List, [], length, append-nil, arith, refl, sym, ap, subst, ◌∙◌, Option, Some, None}
use Rattle.vsw_base.specs.declared.fate.Verdict.{Verdict}
use Rattle.vsw_base.specs.declared.fate.Verdict.TheVariants.{Pass, Rule, Default}
use Rattle.vsw_base.specs.declared.flow.Crossing.{Crossing}
use Rattle.vsw_core.specs.Private.Steps.{Shakes, is_tried}
use Rattle.vsw_core.specs.Walks.{IsWholeWalk}
use Rattle.vsw_core.proofs.Entered.{shakes_nothing}
use Rattle.vsw_port.specs.Admit.{stop_of}
use Rattle.vsw_port.specs.Cross.{made_after, made_by, makes}
use Rattle.vsw_port.specs.Crossed.{Crossed, MayBeShort, crossed, is_short}
use Rattle.vsw_port.specs.Core.{entered}
use Rattle.vsw_port.specs.History.{replay}
use Rattle.vsw_port.specs.declared.crossing.Outcome.{Outcome}
use Rattle.vsw_port.specs.declared.event.Event.{Event}
use Rattle.vsw_rows.specs.GoodRows.{opening_of}
use Rattle.vsw_port.specs.declared.stop.Stop.{Stop}
use Rattle.vsw_port.specs.Ledger.{LedgerSeen, layers_in}
use Rattle.vsw_rows.specs.Rows.{layers_after}
use Rattle.vsw_policy.specs.Layer.{LayerSeen}
use Rattle.vsw_policy.specs.Layers.{PolicySeen}
use Rattle.vsw_walk.specs.declared.scratch.Wanted.{Wanted}
use Rattle.vsw_walk.specs.declared.walking.Walked.{Walked}
use Rattle.vsw_walk.specs.Walk.{Told, walk_of}
use Rattle.vsw_flows.specs.Flows.{Writing}
use Rattle.vsw_flows.specs.Shaking.{moves_none}

-- what is changed is all that the packet wants, or nothing
made_all : (v : Verdict) (stop : Option Stop) (ws : List Wanted) → (made_after v stop ws ≡ [] → ⊥) → made_after v stop ws ≡ ws
made_all Pass None ws h = refl
made_all Pass (Some s) ws h = absurd (h refl)
made_all (Rule controller layer group rule) stop ws h = absurd (h refl)
made_all (Default controller layer dir) stop ws h = absurd (h refl)

wanted_made : (ls : List LayerSeen) (x : Crossing) → (made_by ls x ≡ [] → ⊥) → made_by ls x ≡ (walk_of ls x).changes
wanted_made ls x h = made_all (walk_of ls x).verdict (stop_of ls x (walk_of ls x)) (walk_of ls x).changes h

some_made : (ws : List Wanted) → makes ws ≡ true → ws ≡ [] → ⊥
some_made ws h e = absurd (true≢false (sym h ∙ ap makes e))

some_changed : (ws : List Wanted) → not (length ws == 0) ≡ true → ws ≡ [] → ⊥
some_changed ws h e = absurd (true≢false (sym h ∙ ap (λ us. not (length us == 0)) e))

some_long : (n : ℕ) → not (suc n == 0) ≡ true
some_long n = grind arith

none_changed : (ws : List Wanted) → not (length ws == 0) ≡ false → ws ≡ []
none_changed [] h = refl
none_changed (w ∷ ws) h = absurd (true≢false (sym (some_long (length ws)) ∙ h))

-- the rows as they fall around the settling of a packet
pub record Around (ls ks : List LayerSeen) (x : Crossing) (w : Walked) (t : Told) (o : Outcome) (m b f : Writing) : Type 0 where
  pub walk : IsWholeWalk ls x w t
  pub exact : record { fate = o.fate; layers = ks; entry = o.entry } ≡ crossed (is_short o.fate) ls x
  pub memory : MayBeShort (is_short o.fate) ls x
  pub before : moves_none t.changes ≡ false → Shakes ls (made_by ls x) m b
  pub unmoved : moves_none t.changes ≡ true → b ≡ m
  pub behind : moves_none t.changes ≡ true → is_tried o ≡ true → Shakes ls t.changes b f
  pub moved : moves_none t.changes ≡ false → f ≡ b
  pub untried : is_tried o ≡ false → f ≡ b

-- a packet that changes the layers, or would with memory, makes all changes that it wants; any other makes none
tried_made : (short entry : Bool) (ls : List LayerSeen) (x : Crossing) → entry ≡ (crossed short ls x).entry → MayBeShort short ls x → (entry || short) ≡ true → made_by ls x ≡ (walk_of ls x).changes
tried_made true entry ls x same may e = wanted_made ls x (some_made (made_by ls x) may)
tried_made false true ls x same may e = wanted_made ls x (some_changed (made_by ls x) (sym same))
tried_made false false ls x same may e = absurd (true≢false (sym e))

untried_made : (short entry : Bool) (ls : List LayerSeen) (x : Crossing) → entry ≡ (crossed short ls x).entry → (entry || short) ≡ false → made_by ls x ≡ []
untried_made true true ls x same e = absurd (true≢false e)
untried_made true false ls x same e = absurd (true≢false e)
untried_made false true ls x same e = absurd (true≢false e)
untried_made false false ls x same e = none_changed (made_by ls x) (sym same)

-- in each case those fell that the entry shakes, and no others
pub around : (ls ks : List LayerSeen) (x : Crossing) (w : Walked) (t : Told) (o : Outcome) (m b f : Writing) → Around ls ks x w t o m b f → Shakes ls (made_by ls x) m f
around ls ks x w t o m b f a = by (moves_none t.changes) refl
  where
    same : o.entry ≡ (crossed (is_short o.fate) ls x).entry
    same = ap (λ (c : Crossed). c.entry) a.exact

    tried : moves_none t.changes ≡ true → (b' : Bool) → is_tried o ≡ b' → Shakes ls (made_by ls x) m f
    tried e true i =
        let made : made_by ls x ≡ t.changes = tried_made (is_short o.fate) o.entry ls x same a.memory i ∙ sym a.walk.changes in
        subst (λ (v : Writing). Shakes ls (made_by ls x) v f) (a.unmoved e) (subst (λ ws. Shakes ls ws b f) (sym made) (a.behind e i))
    tried e false i =
        subst (λ (v : Writing). Shakes ls (made_by ls x) m v) (sym (a.untried i ∙ a.unmoved e)) (shakes_nothing ls (made_by ls x) m (untried_made (is_short o.fate) o.entry ls x same i))

    by : (b' : Bool) → moves_none t.changes ≡ b' → Shakes ls (made_by ls x) m f
    by true e = tried e (is_tried o) refl
    by false e = subst (λ (v : Writing). Shakes ls (made_by ls x) m v) (sym (a.moved e)) (a.before e)

-- the same, as the calls tell it
pub shakes_around : (l : LedgerSeen) (ks : List LayerSeen) (x : Crossing) (w : Walked) (t : Told) (o : Outcome) (m b f : Writing) → IsWholeWalk (layers_in l) x w t → record { fate = o.fate; layers = ks; entry = o.entry } ≡ crossed (is_short o.fate) (layers_in l) x → MayBeShort (is_short o.fate) (layers_in l) x
    → (moves_none t.changes ≡ false → (q : PolicySeen) → m.view.opening ≡ Some q → layers_in l ≡ layers_after q m.view.history → Shakes (layers_in l) (made_by (layers_in l) x) m b) → (moves_none t.changes ≡ true → b ≡ m)
    → (moves_none t.changes ≡ true → is_tried o ≡ true → (q : PolicySeen) → b.view.opening ≡ Some q → Shakes (layers_after q b.view.history) t.changes b f) → (moves_none t.changes ≡ false → f ≡ b) → (is_tried o ≡ false → f ≡ b)
    → (q : PolicySeen) → m.view.opening ≡ Some q → layers_in l ≡ layers_after q m.view.history → Shakes (layers_in l) (made_by (layers_in l) x) m f
shakes_around l ks x w t o m b f walk exact memory before unmoved behind moved untried q opens same = around (layers_in l) ks x w t o m b f (record {
  walk = walk;
  exact = exact;
  memory = memory;
  before = λ e. before e q opens same;
  unmoved = unmoved;
  behind = λ e i. subst (λ ls. Shakes ls t.changes b f) (ap (λ (v : Writing). layers_after q v.view.history) (unmoved e) ∙ sym same) (behind e i q (ap (λ (v : Writing). v.view.opening) (unmoved e) ∙ opens));
  moved = moved;
  untried = untried;
})

-- a packet that is no entry walked over the layers that stand behind it, too
pub walked_still : (p : PolicySeen) (l : LedgerSeen) (x : Crossing) (w : Walked) (t : Told) (entry : Bool) (e : Event) (v u : Writing) → l.opening ≡ opening_of p → l.journal ≡ v.view.history → IsWholeWalk (layers_in l) x w t → u.view.history ≡ v.view.history ++ entered entry e → entry ≡ false → IsWholeWalk (layers_after p u.view.history) x w t
walked_still p l x w t entry e v u opening journal walk grown none =
    let before : layers_in l ≡ layers_after p v.view.history = (λ i. replay (opening i) (journal i)) in
    let same : u.view.history ≡ v.view.history = grown ∙ (ap (λ b. v.view.history ++ entered b e) none ∙ append-nil v.view.history) in
    subst (λ ls. IsWholeWalk ls x w t) (before ∙ ap (λ h. layers_after p h) (sym same)) walk
