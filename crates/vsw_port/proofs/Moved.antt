-- Each change that a walk tells is one: where the layers are as they were, none was told.
use Rattle.std.proofs.Common.{◌≡◌, ◌<◌, ◌^◌, ◌==◌, ◌∙◌, ℕ, suc, Bool, true, false, not, List, [], ◌∷◌, ◌++◌, length, Option, Some, None, is_some, refl, sym, ap, arith, true≢false, ne_eqb}
use Rattle.std.specs.Prelude.{if◌then◌else◌, nat_lt}
use Rattle.std.specs.List.{slice_get}
use Rattle.std.proofs.lemmas.Bool.Decides.{nat_tests}
use Rattle.vsw_port.specs.declared.stop.Stop.{Stop}
use Rattle.vsw_port.specs.Admit.{stop_of}
use Rattle.vsw_port.proofs.Apart.{IsElsewhere, crossed_apart, elsewhere, flip, same_place}
use Rattle.vsw_port.proofs.Visits.{IsVisit, MayLeave, visits}
use Rattle.vsw_port.proofs.Walks.{each_as, each_crossed, each_told, held_there, places, told_by}
use Rattle.vsw_base.specs.declared.fate.Verdict.{Verdict}
use Rattle.vsw_base.specs.declared.fate.Verdict.TheVariants.{Pass, Default, Rule}
use Rattle.vsw_base.specs.declared.flow.Crossing.{Crossing}
use Rattle.vsw_base.specs.declared.flow.Track.{Track}
use Rattle.vsw_base.specs.declared.flow.Track.TheVariants.{Plain, Opening, Open, Half, Closed}
use Rattle.vsw_base.specs.declared.header.Header.{Header}
use Rattle.vsw_base.specs.declared.packet.Control.{Control}
use Rattle.vsw_base.specs.declared.packet.Dir.{Dir}
use Rattle.vsw_base.specs.declared.packet.Dir.TheVariants.{Out, In}
use Rattle.vsw_base.specs.Shape.{encaps}
use Rattle.vsw_rule.specs.Choice.{Chosen, choose}
use Rattle.vsw_port.specs.Cross.{all_done, made_after, made_by}
use Rattle.vsw_port.specs.CommitLaw.{ChangesTell}
use Rattle.vsw_port.proofs.Places.{get_beside, get_changed}
use Rattle.vsw_rule.specs.Edit.{edited, kept_after}
use Rattle.vsw_port.specs.WalkWanted.{Wanted}
use Rattle.vsw_port.specs.WalkWanted.TheVariants as wanted
use Rattle.vsw_port.specs.Walk.{along, by_visit, crossed, placed, walk_of}
use Rattle.vsw_header.specs.Key.{key_from}
use Rattle.vsw_policy.specs.declared.layer.LayerSpec.{LayerSpec}
use Rattle.vsw_policy.specs.Layer.{LayerSeen, with_pair, with_touched, without_pair}
use Rattle.vsw_layerflow.specs.declared.pair.Pair.{Pair}
use Rattle.vsw_layerflow.specs.declared.pair.Probe.{Probe}
use Rattle.vsw_layerflow.specs.Life.{due}
use Rattle.vsw_layerflow.specs.Pairs.{holder, holds, numbered, pair_of, probe, touch_if, touched, without}
use Rattle.vsw_layerflow.proofs.Lists.{eq_self}
use Rattle.vsw_layerflow.proofs.Order.{length-filter}
use Rattle.vsw_policy.specs.Sound as sound
use Rattle.vsw_policy.specs.Sound.{Each}
use Rattle.vsw_rule.specs.declared.rule.Action.{Action}
use Rattle.vsw_rule.specs.declared.rule.Action.TheVariants.{Allow, Drop, Edit}
use Rattle.vsw_layerflow.specs.declared.tcp_state.Tracked.{Tracked}
use Rattle.vsw_layerflow.specs.declared.tcp_state.Tracked.TheVariants.{To, Reopen}
use Rattle.vsw_layerflow.specs.Track.{track_of}
use Rattle.vsw_port.specs.VisitOutcome.{Visit}
use Rattle.vsw_port.specs.VisitOutcome.TheVariants.{Stops, Goes}
use Rattle.vsw_port.specs.Want.{Want}
use Rattle.vsw_port.specs.Want.TheVariants.{Make, Touch}
use Rattle.vsw_port.specs.Known.{same_state, set_towards, touch}
use Rattle.vsw_port.specs.Visit.{allows, by_action, by_choice, by_pair, by_state, visit_of}
use Rattle.vsw_port.specs.Visit as visit
use Rattle.vsw_port.specs.Wanted.{wanted_pair}

-- a layer after a visit
abbrev after_leave : Option ℕ → LayerSeen → LayerSeen
after_leave None l = l
after_leave (Some n) l = without_pair n l

abbrev after_want : Option Want → LayerSeen → LayerSeen
after_want None l = l
after_want (Some (Make p)) l = with_pair p l
after_want (Some (Touch n s t)) l = with_touched n s t l

abbrev after_visit : Visit → LayerSeen → LayerSeen
after_visit (Stops verdict) l = l
after_visit (Goes action leaves wants) l = after_want wants (after_leave leaves l)

-- a visit that tells no change
abbrev IsIdle : Visit → Type 0
IsIdle (Stops verdict) = Unit {0}
IsIdle (Goes action None None) = Unit {0}
IsIdle v = ⊥

-- the pair that is touched is the one that holds the packet, and gets another state or last use
abbrev Touches : LayerSeen → Dir → List Header → Visit → Type 0
Touches l d hs (Goes action leaves (Some (Touch n s t))) = (leaves ≡ None) × (p : Pair) × (pair_of d (key_from hs) l.pairs ≡ Some p) × (n ≡ p.number) × (p.state ≡ s → p.last_use ≡ t → ⊥)
Touches l d hs v = Unit {0}

same_self : (t : Track) → same_state t t ≡ true
same_self Plain = refl
same_self Opening = refl
same_self Open = refl
same_self (Half Out) = refl
same_self (Half In) = refl
same_self Closed = refl

touch_differs : (l : LayerSeen) (d : Dir) (hs : List Header) (action : Action) (s : LayerSpec) (t : Track) (moment : ℕ) (p : Pair) → moment < 2 ^ 64 → pair_of d (key_from hs) l.pairs ≡ Some p → Touches l d hs (Goes action None (touch s t moment p))
touch_differs l d hs action s t moment p small e = by (nat_lt (due p.last_use t s.idle s.linger) moment) (same_state p.state t) refl refl
  where
    by : (a b : Bool) → nat_lt (due p.last_use t s.idle s.linger) moment ≡ a → same_state p.state t ≡ b
        → Touches l d hs (Goes action None (if a then Some (Touch p.number t moment) else if b then None else Some (Touch p.number t p.last_use)))
    by true b f g = (refl, p, e, refl, λ h i. let later : due p.last_use t s.idle s.linger < moment = grind (arith, nat_tests) in omega (arith, later, i, small))
    by false true f g = tt
    by false false f g = (refl, p, e, refl, λ h i. true≢false (sym (same_self t) ∙ ap (λ u. same_state u t) (sym h) ∙ g))

-- rules touch no pair
rule_touches : (l : LayerSeen) (d : Dir) (c : Control) (moment : ℕ) (hs : List Header) (action : Action) (leaves : Option ℕ) (stateful : Bool) (made : Pair) → Touches l d hs (Goes action leaves (if stateful then Some (Make made) else None))
rule_touches l d c moment hs action leaves true made = tt
rule_touches l d c moment hs action leaves false made = tt

action_touches : (l : LayerSeen) (d : Dir) (hs : List Header) (a : Action) (verdict : Verdict) (v : Visit) → Touches l d hs v → Touches l d hs (by_action a (Stops verdict) v)
action_touches l d hs Allow verdict v t = t
action_touches l d hs Drop verdict v t = tt
action_touches l d hs (Edit decap set encap) verdict v t = t

choice_touches : (l : LayerSeen) (d : Dir) (c : Control) (moment : ℕ) (hs : List Header) (leaves : Option ℕ) (o : Option Chosen) → Touches l d hs (by_choice l d c moment hs leaves o)
choice_touches l d c moment hs leaves None =
    elim (allows l.spec d) as (λ b. Touches l d hs (if b then Goes Allow leaves None else Stops (Default l.controller l.spec.layer d))) [ true ↦ tt | false ↦ tt ]
choice_touches l d c moment hs leaves (Some o) =
    action_touches l d hs o.rule.action (Rule l.controller l.spec.layer o.group o.rule.number) (Goes o.rule.action leaves (visit.wanted l.next_pair d c moment hs o.group o.rule))
    (rule_touches l d c moment hs o.rule.action leaves o.rule.stateful (wanted_pair l.next_pair d c moment hs o.group o.rule))

state_touches : (l : LayerSeen) (d : Dir) (c : Control) (moment : ℕ) (hs : List Header) (p : Pair) (t : Tracked) → moment < 2 ^ 64 → pair_of d (key_from hs) l.pairs ≡ Some p → Touches l d hs (by_state l d c moment hs p t)
state_touches l d c moment hs p (To t) small e = touch_differs l d hs (Edit false (set_towards d p) None) l.spec t moment p small e
state_touches l d c moment hs p Reopen small e = choice_touches l d c moment hs (Some p.number) (choose d l.groups hs)

pair_touches : (l : LayerSeen) (d : Dir) (c : Control) (moment : ℕ) (hs : List Header) (o : Option Pair) → moment < 2 ^ 64 → pair_of d (key_from hs) l.pairs ≡ o → Touches l d hs (by_pair l d c moment hs o)
pair_touches l d c moment hs None small e = choice_touches l d c moment hs None (choose d l.groups hs)
pair_touches l d c moment hs (Some p) small e = state_touches l d c moment hs p (track_of p.state p.dir c d) small e

-- a pair that was touched is as it was only where it had that state and last use
touched_is : (n : ℕ) (s : Track) (t : ℕ) (q : Probe) (ps : List Pair) (p : Pair) → n ≡ p.number → holder q ps ≡ Some p → touched n s t ps ≡ ps → (p.state ≡ s) × (p.last_use ≡ t)
touched_is n s t q [] p e f h = absurd (true≢false (sym (ap is_some f)))
touched_is n s t q (r ∷ ps) p e f h = by (holds q r) refl (touched_is n s t q ps p e)
  where
    head : touch_if n s t r ≡ r
    head = cc

    tail : touched n s t ps ≡ ps
    tail = cc

    by : (b : Bool) → holds q r ≡ b → (holder q ps ≡ Some p → touched n s t ps ≡ ps → (p.state ≡ s) × (p.last_use ≡ t)) → (p.state ≡ s) × (p.last_use ≡ t)
    by true g ih =
        let same : r ≡ p = ap (λ o. elim o [ None ↦ r | Some z ↦ z ]) (sym (ap (λ b. if b then Some r else holder q ps) g) ∙ f) in
        let own : (n == r.number) ≡ true = ap (λ m. m == r.number) (e ∙ ap (λ z. z.number) (sym same)) ∙ eq_self r.number in
        let state : r.state ≡ s = sym (ap (λ z. z.state) head) ∙ ap (λ b. if b then s else r.state) own in
        let last : r.last_use ≡ t = sym (ap (λ z. z.last_use) head) ∙ ap (λ b. if b then t else r.last_use) own in
        (ap (λ z. z.state) (sym same) ∙ state, ap (λ z. z.last_use) (sym same) ∙ last)
    by false g ih = ih (sym (ap (λ b. if b then Some r else holder q ps) g) ∙ f) tail

-- there are fewer pairs once one left
fewer : (n : ℕ) (ps : List Pair) → is_some (numbered n ps) ≡ true → length (without n ps) < length ps
fewer n [] h = absurd (true≢false (sym h))
fewer n (p ∷ ps) h = by (n == p.number) refl (fewer n ps)
  where
    by : (b : Bool) → (n == p.number) ≡ b → (is_some (numbered n ps) ≡ true → length (without n ps) < length ps) → length (without n (p ∷ ps)) < length (p ∷ ps)
    by true e ih = rw e (omega (arith, length-filter (λ q. not (n == q.number)) ps))
    by false e ih = rw e (omega (arith, ih (sym (ap (λ b. is_some (if b then Some p else numbered n ps)) e) ∙ h)))

left_there : (l : LayerSeen) (d : Dir) (hs : List Header) (n : ℕ) → MayLeave l d hs (Some n) → is_some (numbered n l.pairs) ≡ true
left_there l d hs n (p, f, g) = rw g (held_there (probe d (key_from hs)) l.pairs p f)

next_stays : (o : Option ℕ) (l : LayerSeen) → (after_leave o l).next_pair ≡ l.next_pair
next_stays None l = refl
next_stays (Some n) l = refl

-- where the layer is as it was, the visit told nothing
idle : (l : LayerSeen) (d : Dir) (hs : List Header) (v : Visit) → IsVisit l d hs v → Touches l d hs v → after_visit v l ≡ l → IsIdle v
idle l d hs (Stops verdict) i t e = tt
idle l d hs (Goes action None None) i t e = tt
idle l d hs (Goes action (Some n) None) i t e = omega (arith, fewer n l.pairs (left_there l d hs n i.0), ap (λ m. length m.pairs) e)
idle l d hs (Goes action None (Some (Make p))) i t e = omega (arith, ap (λ m. m.next_pair) e)
idle l d hs (Goes action (Some n) (Some (Make p))) i t e = omega (arith, ap (λ m. m.next_pair) e)
idle l d hs (Goes action None (Some (Touch n s m))) i (f, p, g, h, differs) e =
    let same = touched_is n s m (probe d (key_from hs)) l.pairs p h g (ap (λ k. k.pairs) e) in
    differs same.0 same.1
idle l d hs (Goes action (Some k) (Some (Touch n s m))) i (f, p, g, h, differs) e = absurd (true≢false (ap is_some f))

-- what a layer is after the changes that its visit tells
told_here : (place : ℕ) (l : LayerSeen) (ls : List LayerSeen) (v : Visit) → slice_get ls place ≡ Some l → slice_get (all_done (told_by place v) ls) place ≡ Some (after_visit v l)
told_here place l ls (Stops verdict) e = e
told_here place l ls (Goes action None None) e = e
told_here place l ls (Goes action None (Some (Make p))) e = get_changed (with_pair p) ls place l e
told_here place l ls (Goes action None (Some (Touch n s t))) e = get_changed (with_touched n s t) ls place l e
told_here place l ls (Goes action (Some k) None) e = get_changed (without_pair k) ls place l e
told_here place l ls (Goes action (Some k) (Some (Make p))) e = get_changed (with_pair p) _ place (without_pair k l) (get_changed (without_pair k) ls place l e)
told_here place l ls (Goes action (Some k) (Some (Touch n s t))) e = get_changed (with_touched n s t) _ place (without_pair k l) (get_changed (without_pair k) ls place l e)

stays_at : (k : ℕ) (ws : List Wanted) (ls : List LayerSeen) → Each (IsElsewhere k) ws → slice_get (all_done ws ls) k ≡ slice_get ls k
stays_at k [] ls h = refl
stays_at k (wanted.Make place p ∷ ws) ls h = stays_at k ws _ h.1 ∙ get_beside (with_pair p) ls k place h.0
stays_at k (wanted.Touch place number state last ∷ ws) ls h = stays_at k ws _ h.1 ∙ get_beside (with_touched number state last) ls k place h.0
stays_at k (wanted.Leave place number ∷ ws) ls h = stays_at k ws _ h.1 ∙ get_beside (without_pair number) ls k place h.0

done_both : (ws vs : List Wanted) (ls : List LayerSeen) → all_done (ws ++ vs) ls ≡ all_done vs (all_done ws ls)
done_both [] vs ls = refl
done_both (wanted.Make place p ∷ ws) vs ls = done_both ws vs _
done_both (wanted.Touch place number state last ∷ ws) vs ls = done_both ws vs _
done_both (wanted.Leave place number ∷ ws) vs ls = done_both ws vs _

-- where the layers are as they were, the visit of one left it so
visited_same : (ls : List LayerSeen) (place : ℕ) (l : LayerSeen) (v : Visit) (rest : List Wanted) → slice_get ls place ≡ Some l → Each (IsElsewhere place) rest → all_done (told_by place v ++ rest) ls ≡ ls → after_visit v l ≡ l
visited_same ls place l v rest e h s =
    let there : slice_get (all_done (told_by place v ++ rest) ls) place ≡ Some (after_visit v l) =
    ap (λ ms. slice_get ms place) (done_both (told_by place v) rest ls) ∙ stays_at place rest (all_done (told_by place v) ls) h ∙ told_here place l ls v e in
    let same : Some (after_visit v l) ≡ Some l = sym there ∙ ap (λ ms. slice_get ms place) s ∙ e in
    ap (λ o. elim o [ None ↦ l | Some m ↦ m ]) same

along_still : (ls : List LayerSeen) (d : Dir) (c : Control) (moment : ℕ) → moment < 2 ^ 64 → (es : List (ℕ × LayerSeen)) → sound.AreApart same_place es → Each (λ e. slice_get ls e.0 ≡ Some e.1) es
    → (hs : List Header) (kept : ℕ) → all_done (along d c moment es hs kept).changes ls ≡ ls → (along d c moment es hs kept).changes ≡ []
along_still ls d c moment small [] a here hs kept s = refl
along_still ls d c moment small (e ∷ es) a here hs kept s =
    by (visit_of e.1 d c moment hs) (visits e.1 d c moment hs) (pair_touches e.1 d c moment hs (pair_of d (key_from hs) e.1.pairs) small refl) s (λ ks left. along_still ls d c moment small es a.1 here.1 ks left)
  where
    Rest : Type 0
    Rest = (ks : List Header) (left : ℕ) → all_done (along d c moment es ks left).changes ls ≡ ls → (along d c moment es ks left).changes ≡ []

    others : (ks : List Header) (left : ℕ) → Each (IsElsewhere e.0) (along d c moment es ks left).changes
    others ks left =
        each_told (IsElsewhere e.0) d c moment es
        (each_as (λ y. (e.0 == y.0) ≡ false) (λ y. (gs : List Header) → Each (IsElsewhere e.0) (told_by y.0 (visit_of y.1 d c moment gs)))
        (λ y h gs. elsewhere e.0 y.0 (flip e.0 y.0 h) (visit_of y.1 d c moment gs)) es a.0)
        ks left

    is_idle : (v : Visit) → IsVisit e.1 d hs v → Touches e.1 d hs v → (rest : List Wanted) → Each (IsElsewhere e.0) rest → all_done (told_by e.0 v ++ rest) ls ≡ ls → IsIdle v
    is_idle v i t rest o h = idle e.1 d hs v i t (visited_same ls e.0 e.1 v rest here.0 o h)

    by : (v : Visit) → IsVisit e.1 d hs v → Touches e.1 d hs v → all_done (by_visit e.0 hs kept v (λ ks left. along d c moment es ks left)).changes ls ≡ ls → Rest
        → (by_visit e.0 hs kept v (λ ks left. along d c moment es ks left)).changes ≡ []
    by (Stops verdict) i t h ih = refl
    by (Goes action None None) i t h ih = ih (edited action hs) (kept_after action hs kept) h
    by (Goes action (Some n) w) i t h ih = absurd (is_idle (Goes action (Some n) w) i t (along d c moment es (edited action hs) (kept_after action hs kept)).changes (others (edited action hs) (kept_after action hs kept)) h)
    by (Goes action None (Some w)) i t h ih = absurd (is_idle (Goes action None (Some w)) i t (along d c moment es (edited action hs) (kept_after action hs kept)).changes (others (edited action hs) (kept_after action hs kept)) h)

walk_still : (ls : List LayerSeen) (x : Crossing) → x.moment < 2 ^ 64 → all_done (walk_of ls x).changes ls ≡ ls → (walk_of ls x).changes ≡ []
unfolding walk_of
walk_still ls x small s =
    along_still ls x.id.dir x.control x.moment small (crossed x.id.dir (placed 0 ls)) (crossed_apart x.id.dir ls) (each_crossed (λ e. slice_get ls e.0 ≡ Some e.1) x.id.dir (placed 0 ls) (places ls)) x.id.stack (encaps x.id.stack) s

made_still : (v : Verdict) (o : Option Stop) (ws : List Wanted) (ls : List LayerSeen) → (all_done ws ls ≡ ls → ws ≡ []) → all_done (made_after v o ws) ls ≡ ls → made_after v o ws ≡ []
made_still Pass None ws ls h s = h s
made_still Pass (Some stop) ws ls h s = refl
made_still (Rule controller layer group rule) o ws ls h s = refl
made_still (Default controller layer d) o ws ls h s = refl

nothing_done : (ws : List Wanted) (ls : List LayerSeen) → not (length ws == 0) ≡ false → all_done ws ls ≡ ls
nothing_done [] ls e = refl
nothing_done (w ∷ ws) ls e = absurd (let some : (suc (length ws) == 0) ≡ false = ne_eqb (suc (length ws)) 0 (λ f. omega (arith, f)) in cc (some, e))

pub changes_tell : ChangesTell
changes_tell ls x small = (
  nothing_done (made_by ls x) ls,
  λ s. ap (λ ws. not (length ws == 0)) (made_still (walk_of ls x).verdict (stop_of ls x (walk_of ls x)) (walk_of ls x).changes ls (walk_still ls x small) s),
)
