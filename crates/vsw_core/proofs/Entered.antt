-- A packet's entry follows the history, and the rows fell before that it shakes.
use Rattle.std.proofs.Common.{◌≡◌, ◌≤◌, ◌<◌, ◌+◌, ◌-◌, not, ℕ, Bool, true, false, true≢false, List, [], ◌∷◌, ◌++◌, length, slice_set, append-nil, length-append, inl, inr, refl, sym, ap, subst, ◌∙◌, arith, Option, Some, None}
use Rattle.std.proofs.lemmas.List.{set-set}
use mathlib.Core.List.{IsPrefix}
use Rattle.vsw_port.specs.declared.stop.Stop.{Stop}
use Rattle.vsw_base.specs.declared.fate.Fate.{Fate}
use Rattle.vsw_base.specs.declared.fate.Verdict.{Verdict}
use Rattle.vsw_base.specs.declared.fate.Verdict.TheVariants.{Pass, Rule, Default}
use Rattle.vsw_base.specs.declared.flow.Crossing.{Crossing}
use Rattle.vsw_port.specs.Cross.{made_after, made_by}
use Rattle.vsw_port.specs.Admit.{stop_of}
use Rattle.vsw_core.specs.Calls.{FallsBy, grown}
use Rattle.vsw_core.specs.Private.Steps.{Shakes, Steps, advanced, passing, wants_change}
use Rattle.vsw_core.specs.Walks.{IsWholeWalk}
use Rattle.vsw_port.specs.declared.event.Event.{Event}
use Rattle.vsw_port.specs.declared.event.Event.TheVariants as event
use Rattle.vsw_port.specs.History.{AllRight, AreRight, IsRight, Opening, after, after_all, replay}
use Rattle.vsw_policy.specs.Layer.{LayerSeen}
use Rattle.vsw_policy.specs.Layers.{PolicySeen}
use Rattle.vsw_rows.specs.Good.{Row}
use Rattle.vsw_rows.specs.GoodRows.{opening_of}
use Rattle.vsw_rows.specs.Rows.{Says, layers_after}
use Rattle.vsw_rows.specs.Shaken.{shake}
use Rattle.vsw_rows.specs.Way.{looks}
use Rattle.vsw_port.specs.Core.{entered}
use Rattle.vsw_port.specs.Ledger.{LedgerSeen, layers_in}
use Rattle.vsw_table.specs.Rules.{counted_record, row_at, stamp_at}
use Rattle.vsw_walk.specs.declared.scratch.Wanted.{Wanted}
use Rattle.vsw_walk.specs.declared.walking.Walked.{Walked}
use Rattle.vsw_walk.specs.Walk.{Told, walk_of}
use Rattle.vsw_flows.specs.Flows.{Any, Falls, IsOne, NoneShaken, OrFell, OthersStay, Spares, Writing}
use Rattle.vsw_flows.proofs.Owed.{crossing_owed}

-- the last entry of a right history is right where the others leave the layers
last_of : (cs : List ℕ) (ls : List LayerSeen) (h : List Event) (e : Event) → AreRight cs ls (h ++ e ∷ []) → IsRight cs (after_all cs ls h) e
last_of cs ls [] e r = r.0
last_of cs ls (d ∷ h) e r = last_of cs (after cs ls d) h e r.1

pub last_right : (o : Opening) (h : List Event) (e : Event) → AllRight o (h ++ e ∷ []) → IsRight o.controllers (replay o h) e
last_right o h e r = last_of o.controllers o.layers h e r

-- ---- what a walk's changes shake

-- a packet that wants nothing changed changes nothing
nothing_wanted : (ls : List LayerSeen) (x : Crossing) → wants_change (walk_of ls x).verdict (walk_of ls x).changes ≡ false → made_by ls x ≡ []
nothing_wanted ls x h = by (walk_of ls x).verdict (stop_of ls x (walk_of ls x)) (walk_of ls x).changes h
  where
    by : (v : Verdict) (stop : Option Stop) (ws : List Wanted) → wants_change v ws ≡ false → made_after v stop ws ≡ []
    by Pass None [] e = refl
    by Pass None (w ∷ ws) e = absurd (true≢false e)
    by Pass (Some s) ws e = refl
    by (Rule controller layer group rule) stop ws e = refl
    by (Default controller layer dir) stop ws e = refl

-- neither does one that is stopped
nothing_stopped : (ls : List LayerSeen) (x : Crossing) (s : Stop) → stop_of ls x (walk_of ls x) ≡ Some s → made_by ls x ≡ []
nothing_stopped ls x s h = ap (λ stop. made_after (walk_of ls x).verdict stop (walk_of ls x).changes) h ∙ by (walk_of ls x).verdict (walk_of ls x).changes
  where
    by : (v : Verdict) (ws : List Wanted) → made_after v (Some s) ws ≡ []
    by Pass ws = refl
    by (Rule controller layer group rule) ws = refl
    by (Default controller layer dir) ws = refl

-- any other has all changed that it wants
all_made : (ls : List LayerSeen) (x : Crossing) → wants_change (walk_of ls x).verdict (walk_of ls x).changes ≡ true → stop_of ls x (walk_of ls x) ≡ None → made_by ls x ≡ (walk_of ls x).changes
all_made ls x h free = ap (λ stop. made_after (walk_of ls x).verdict stop (walk_of ls x).changes) free ∙ by (walk_of ls x).verdict (walk_of ls x).changes h
  where
    by : (v : Verdict) (ws : List Wanted) → wants_change v ws ≡ true → made_after v None ws ≡ ws
    by Pass ws e = refl
    by (Rule controller layer group rule) ws e = absurd (true≢false (sym e))
    by (Default controller layer dir) ws e = absurd (true≢false (sym e))

-- no row falls where nothing is changed
pub shakes_nothing : (ls : List LayerSeen) (ws : List Wanted) (v : Writing) → ws ≡ [] → Shakes ls ws v v
shakes_nothing ls ws v e = record {
  falls = record { same = refl; each = λ place. inl refl };
  none = λ place r one. ap (λ us. shake ls us (looks ls r.id)) e;
  others = λ place r one still. refl;
}

wants_as : (ls : List LayerSeen) (x : Crossing) (w : Walked) (t : Told) → IsWholeWalk ls x w t → wants_change w.verdict t.changes ≡ wants_change (walk_of ls x).verdict (walk_of ls x).changes
wants_as ls x w t h = (λ i. wants_change (h.verdict i) (h.changes i))

pub unwanted : (ls : List LayerSeen) (x : Crossing) (w : Walked) (t : Told) (v : Writing) → IsWholeWalk ls x w t → wants_change w.verdict t.changes ≡ false → Shakes ls (made_by ls x) v v
unwanted ls x w t v h e = shakes_nothing ls (made_by ls x) v (nothing_wanted ls x (sym (wants_as ls x w t h) ∙ e))

pub stopped : (ls ms : List LayerSeen) (x : Crossing) (s : Stop) (v : Writing) → ms ≡ ls → stop_of ms x (walk_of ms x) ≡ Some s → Shakes ls (made_by ls x) v v
stopped ls ms x s v same e = shakes_nothing ls (made_by ls x) v (nothing_stopped ls x s (subst (λ ks. stop_of ks x (walk_of ks x) ≡ Some s) same e))

-- what the rows' call leaves, at the layers as they are shown to it
pub record Fell (ks ls : List LayerSeen) (ws : List Wanted) (v f : Writing) : Type 0 where
  pub same : ks ≡ ls
  pub falls : Falls Any v f
  pub none : NoneShaken ks ws f
  pub others : OthersStay ks ws v f

pub shaken : (ls ms ks : List LayerSeen) (x : Crossing) (w : Walked) (t : Told) (us : List Wanted) (v f : Writing) → IsWholeWalk ls x w t → wants_change w.verdict t.changes ≡ true → ms ≡ ls → stop_of ms x (walk_of ms x) ≡ None → us ≡ t.changes → Fell ks ls us v f → Shakes ls (made_by ls x) v f
shaken ls ms ks x w t us v f h wants same free are fell =
    let made : made_by ls x ≡ us = all_made ls x (sym (wants_as ls x w t h) ∙ wants) (subst (λ js. stop_of js x (walk_of js x) ≡ None) same free) ∙ (sym h.changes ∙ sym are) in
    subst (λ ws. Shakes ls ws v f) (sym made) (record {
      falls = fell.falls;
      none = subst (λ js. NoneShaken js us f) fell.same fell.none;
      others = subst (λ js. OthersStay js us v f) fell.same fell.others;
    })

-- ---- the entry

-- of the rows those fell that the entry shakes
falls_by : (ls : List LayerSeen) (x : Crossing) (fate : Fate) (v f : Writing) → Shakes ls (made_by ls x) v f → FallsBy ls (event.Crossing x fate) v f
falls_by ls x fate v f s = record {
  fell = record { given = ap (λ (u : Writing). u.view.given) s.falls.same; words = words; each = s.falls.each };
  falls = λ place r one e. gone place r one e (s.falls.each place);
  stays = s.others;
}
  where
    words : f.view.rows ≡ v.view.rows
    words = ap (λ (u : Writing). u.view.rows) s.falls.same

    gone : (place : ℕ) (r : Row) → IsOne v place r → shake ls (made_by ls x) (looks ls r.id) ≡ true → OrFell Any v f place → stamp_at f.view.stamps place ≡ 0
    gone place r one e (inr down) = down.0
    gone place r one e (inl same) =
        let still : IsOne f place r = record { current = λ z. one.current (sym same ∙ z); says = subst (λ rs. Says (row_at rs place) r) (sym words) one.says } in
        absurd (true≢false (sym e ∙ s.none place r still))

-- the writer and the pass once they met, and after rows fell
abbrev pub meeting : Writing → Writing → Writing
meeting v s = record v { view = record v.view { kept = slice_set v.view.kept s.view.number (s.view.permits + 0) } }

abbrev pub met : Writing → Writing → Writing
met v s = record s { view = record s.view { front = v.view.history; permits = s.view.permits + 0; shown = counted_record v.view.history } }

abbrev pub fallen : Writing → List ℕ → Writing
fallen m ns = record m { view = record m.view { stamps = ns } }

abbrev pub followed : Writing → Writing → List Event → Writing
followed m t es = record m { view = advanced m.view t.view es }

abbrev pub following : Writing → Writing → List Event → Writing
following t w es = record t { view = passing t.view w.view es }

zero_more : (n : ℕ) → n + 0 ≡ n - 0
zero_more n = omega arith

one_spent : (n : ℕ) → n + 0 - 1 ≡ n - 1
one_spent n = omega arith

still : (ls : List LayerSeen) (e : Event) (v s : Writing) (ns : List ℕ) → IsPrefix s.view.front v.view.history → FallsBy ls e v (fallen (meeting v s) ns) → Steps ls e [] v (fallen (meeting v s) ns) s (met v s)
still ls e v s ns seen falls = record {
  writer = λ i. record v { view = record v.view { history = sym (append-nil v.view.history) i; kept = slice_set v.view.kept s.view.number (zero_more s.view.permits i); stamps = ns } };
  pass = λ i. record s { view = record s.view { front = v.view.history; receipts = sym (append-nil s.view.receipts) i; permits = zero_more s.view.permits i; shown = counted_record v.view.history } };
  falls = falls;
  seen = seen;
}

one : (ls : List LayerSeen) (e : Event) (v s : Writing) (ns : List ℕ) → IsPrefix s.view.front v.view.history → FallsBy ls e v (fallen (meeting v s) ns)
    → Steps ls e (e ∷ []) v (followed (fallen (meeting v s) ns) (met v s) (e ∷ [])) s (following (met v s) (followed (fallen (meeting v s) ns) (met v s) (e ∷ [])) (e ∷ []))
one ls e v s ns seen falls = record {
  writer = λ i. record v { view = record v.view { history = v.view.history ++ e ∷ []; kept = kept i; stamps = ns } };
  pass = λ i. record s { view = record s.view { front = v.view.history ++ e ∷ []; receipts = s.view.receipts ++ e ∷ []; permits = one_spent s.view.permits i; shown = counted_record (v.view.history ++ e ∷ []) } };
  falls = record { fell = record { given = falls.fell.given; words = falls.fell.words; each = falls.fell.each }; falls = falls.falls; stays = falls.stays };
  seen = seen;
}
  where
    kept : slice_set (slice_set v.view.kept s.view.number (s.view.permits + 0)) s.view.number (s.view.permits + 0 - 1) ≡ slice_set v.view.kept s.view.number (s.view.permits - 1)
    kept = set-set v.view.kept s.view.number (s.view.permits + 0) (s.view.permits + 0 - 1) ∙ ap (λ k. slice_set v.view.kept s.view.number k) (one_spent s.view.permits)

stepped : (ls : List LayerSeen) (x : Crossing) (fate : Fate) (entry : Bool) (v s : Writing) (ns : List ℕ) → IsPrefix s.view.front v.view.history → FallsBy ls (event.Crossing x fate) v (fallen (meeting v s) ns)
    → Steps ls (event.Crossing x fate) (entered entry (event.Crossing x fate)) v (followed (fallen (meeting v s) ns) (met v s) (entered entry (event.Crossing x fate))) s (following (met v s) (followed (fallen (meeting v s) ns) (met v s) (entered entry (event.Crossing x fate))) (entered entry (event.Crossing x fate)))
stepped ls x fate true v s ns seen falls = one ls (event.Crossing x fate) v s ns seen falls
stepped ls x fate false v s ns seen falls = still ls (event.Crossing x fate) v s ns seen falls

-- the steps as they are told
pub record Called (p : PolicySeen) (x : Crossing) (fate : Fate) (entry : Bool) (v m f w s t u : Writing) : Type 0 where
  pub meets : m ≡ meeting v s
  pub pass : t ≡ met v s
  pub shakes : Shakes (layers_after p v.view.history) (made_by (layers_after p v.view.history) x) m f
  pub writer : w ≡ followed f t (entered entry (event.Crossing x fate))
  pub passes : u ≡ following t w (entered entry (event.Crossing x fate))
  pub seen : IsPrefix s.view.front t.view.front

pub steps : (p : PolicySeen) (x : Crossing) (fate : Fate) (entry : Bool) (v m f w s t u : Writing) → Called p x fate entry v m f w s t u → Steps (layers_after p v.view.history) (event.Crossing x fate) (entered entry (event.Crossing x fate)) v w s u
steps p x fate entry v m f w s t u c =
    let ls = layers_after p v.view.history in
    let es = entered entry (event.Crossing x fate) in
    let ns : List ℕ = f.view.stamps in
    let fell : f ≡ fallen (meeting v s) ns = c.shakes.falls.same ∙ ap (λ (q : Writing). fallen q ns) c.meets in
    let shakes : Shakes ls (made_by ls x) (meeting v s) (fallen (meeting v s) ns) = subst (λ (q : Writing × Writing). Shakes ls (made_by ls x) q.0 q.1) (λ i. (c.meets i, fell i)) c.shakes in
    let falls : FallsBy ls (event.Crossing x fate) (meeting v s) (fallen (meeting v s) ns) = falls_by ls x fate (meeting v s) (fallen (meeting v s) ns) shakes in
    let here : FallsBy ls (event.Crossing x fate) v (fallen (meeting v s) ns) = record { fell = record { given = falls.fell.given; words = falls.fell.words; each = falls.fell.each }; falls = λ place r one. falls.falls place r (record { current = one.current; says = one.says }); stays = λ place r one. falls.stays place r (record { current = one.current; says = one.says }) } in
    let writer : w ≡ followed (fallen (meeting v s) ns) (met v s) es = c.writer ∙ (λ i. followed (fell i) (c.pass i) es) in
    let passes : u ≡ following (met v s) (followed (fallen (meeting v s) ns) (met v s) es) es = c.passes ∙ (λ i. following (c.pass i) (writer i) es) in
    let seen : IsPrefix s.view.front v.view.history = subst (λ (q : Writing). IsPrefix s.view.front q.view.front) c.pass c.seen in
    subst (λ (q : Writing × Writing). Steps ls (event.Crossing x fate) es v q.0 s q.1) (λ i. (sym writer i, sym passes i)) (stepped ls x fate entry v s ns seen here)

-- ---- permits

-- an entry takes one permit, a read none
pub few_entries : (entry : Bool) (e : Event) (n : ℕ) → 0 < n → length (entered entry e) ≤ n
few_entries true e n some = some
few_entries false e n some = omega arith

-- ---- the entry itself

-- the journal ends with it
pub entry_there : (items journal h : List Event) (entry : Bool) (e : Event) → items ≡ journal → journal ≡ h ++ entered entry e → not entry ≡ false → items ≡ h ++ e ∷ []
entry_there items journal h true e same grown is = same ∙ grown
entry_there items journal h false e same grown is = absurd (true≢false is)

pub some_there : (items h : List Event) (e : Event) → items ≡ h ++ e ∷ [] → 0 < length items
some_there items h e is = let n = ap length is in let m = length-append h (e ∷ []) in omega (arith, n, m)

-- and it is right
pub entry_right : (o q : Opening) (journal h : List Event) (e : Event) → q ≡ o → journal ≡ h ++ e ∷ [] → AllRight q journal → IsRight o.controllers (replay o h) e
entry_right o q journal h e same grown right = last_right o h e (subst (λ (w : Opening × List Event). AllRight w.0 w.1) (λ i. (same i, grown i)) right)

-- what is told of a packet whose rows fell
pub record Settled (p : PolicySeen) (x : Crossing) (l : LedgerSeen) (v m f s : Writing) : Type 0 where
  pub opening : l.opening ≡ opening_of p
  pub journal : l.journal ≡ v.view.history
  pub opens : v.view.opening ≡ Some p
  pub meets : m ≡ meeting v s
  pub shakes : (q : PolicySeen) → m.view.opening ≡ Some q → layers_in l ≡ layers_after q m.view.history → Shakes (layers_in l) (made_by (layers_in l) x) m f

pub settled_shakes : (p : PolicySeen) (x : Crossing) (l : LedgerSeen) (v m f s : Writing) → Settled p x l v m f s → Shakes (layers_after p v.view.history) (made_by (layers_after p v.view.history) x) m f
settled_shakes p x l v m f s t =
    let same : layers_in l ≡ layers_after p v.view.history = (λ i. replay (t.opening i) (t.journal i)) in
    let told = t.shakes p (ap (λ (q : Writing). q.view.opening) t.meets ∙ t.opens) (same ∙ sym (ap (λ (q : Writing). layers_after p q.view.history) t.meets)) in
    subst (λ ls. Shakes ls (made_by ls x) m f) same told

pub settled_history : (p : PolicySeen) (x : Crossing) (l : LedgerSeen) (v m f s : Writing) → Settled p x l v m f s → f.view.history ≡ v.view.history
settled_history p x l v m f s t = ap (λ (q : Writing). q.view.history) (settled_shakes p x l v m f s t).falls.same ∙ ap (λ (q : Writing). q.view.history) t.meets

pub settled_spares : (p : PolicySeen) (x : Crossing) (fate : Fate) (l : LedgerSeen) (v m f s : Writing) → Settled p x l v m f s → Spares (layers_after p f.view.history) (event.Crossing x fate) f
settled_spares p x fate l v m f s t =
    subst (λ h. Spares (layers_after p h) (event.Crossing x fate) f) (sym (settled_history p x l v m f s t)) (crossing_owed (layers_after p v.view.history) x fate f (settled_shakes p x l v m f s t).none)
