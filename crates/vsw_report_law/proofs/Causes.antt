-- The causes of drops name what stands in layers, so their numbers are as small as those.
use Rattle.std.proofs.Common.{◌<◌, ◌+◌, ◌^◌, ℕ, zero, suc, Bool, true, false, List, [], ◌∷◌, length, Option, Some, None, sym, subst, arith}
use Rattle.std.specs.Prelude.{if◌then◌else◌, nat_le}
use Rattle.std.specs.List.{cons_option, filter_map, slice_get}
use Rattle.vsw_base.specs.declared.fate.Fate.{Fate}
use Rattle.vsw_base.specs.declared.fate.Fate.TheVariants as fate
use Rattle.vsw_base.specs.declared.fate.Verdict.{Verdict}
use Rattle.vsw_base.specs.declared.fate.Verdict.TheVariants as verdict
use Rattle.vsw_base.specs.declared.flow.Crossing.{Crossing}
use Rattle.vsw_base.specs.declared.flow.Track.{Track}
use Rattle.vsw_base.specs.declared.header.Header.{Header}
use Rattle.vsw_base.specs.declared.packet.Control.{Control}
use Rattle.vsw_base.specs.declared.packet.Dir.{Dir}
use Rattle.vsw_base.specs.Shape.{encaps}
use Rattle.vsw_header.specs.Key.{key_from}
use Rattle.vsw_layerflow.specs.Pairs.{back, holder, holds, pair_of, touched}
use Rattle.vsw_layerflow.specs.Track.{track_of}
use Rattle.vsw_layerflow.specs.declared.pair.Pair.{Pair}
use Rattle.vsw_layerflow.specs.declared.pair.Probe.{Probe}
use Rattle.vsw_layerflow.specs.declared.tcp_state.Tracked.{Tracked}
use Rattle.vsw_layerflow.specs.declared.tcp_state.Tracked.TheVariants.{To, Reopen}
use Rattle.vsw_policy.specs.Layer.{LayerSeen, with_pair, with_touched, without_pair}
use Rattle.vsw_policy.specs.Layers.{changed_at}
use Rattle.vsw_policy.specs.Obey.{answered, first_refusal, obey, tests}
use Rattle.vsw_policy.specs.Obey as commands
use Rattle.vsw_policy.specs.Sound.{Each}
use Rattle.vsw_policy.specs.declared.command.Command.{Command}
use Rattle.vsw_policy.specs.declared.refusal.Refusal.{Refusal}
use Rattle.vsw_port.proofs.Numbers.{crossed_grows, more_at_most, obeyed_at_most}
use Rattle.vsw_port.proofs.Visits.{IsVisit, Wants, visits}
use Rattle.vsw_port.proofs.Walks.{each_crossed, each_told, told_by}
use Rattle.vsw_port.specs.Admit as admit
use Rattle.vsw_port.specs.Admit.{cause_of, left_in, on_pass, refusal, refusals, refused, refused_at, refused_of, stop_of, taken_by}
use Rattle.vsw_port.specs.Core.{AreAtMost}
use Rattle.vsw_port.specs.Cross.{all_done, cross_of, done, fate_after, made_after, made_by}
use Rattle.vsw_port.specs.Fate.{fate_at, fate_by}
use Rattle.vsw_port.specs.History.{after, after_all, left_by}
use Rattle.vsw_port.specs.Long.{is_long}
use Rattle.vsw_port.specs.declared.event.Event.{Event}
use Rattle.vsw_port.specs.declared.event.Event.TheVariants as event
use Rattle.vsw_port.specs.declared.stop.Stop.{Stop}
use Rattle.vsw_port.specs.declared.stop.Stop.TheVariants as stop
use Rattle.vsw_report.specs.Proper.{IsProperCause}
use Rattle.vsw_rule.proofs.FromEnd.{choose_is}
use Rattle.vsw_rule.specs.Choice.{Chosen, applies, better, choose, pick}
use Rattle.vsw_rule.specs.Edit.{edited, kept_after}
use Rattle.vsw_rule.specs.Match.{matches}
use Rattle.vsw_rule.specs.Private.FromEnd as chosen
use Rattle.vsw_rule.specs.declared.rule.Action.{Action}
use Rattle.vsw_rule.specs.declared.rule.Action.TheVariants.{Allow, Drop, Edit}
use Rattle.vsw_rule.specs.declared.rule.Group.{Group}
use Rattle.vsw_rule.specs.declared.rule.Rule.{Rule}
use Rattle.vsw_walk.specs.Visit.{allows, by_action, by_choice, by_pair, by_state, visit_of, wanted}
use Rattle.vsw_walk.specs.Walk.{Walk, along, by_visit, crossed, leaving, placed, walk_of, wanting}
use Rattle.vsw_walk.specs.declared.outcome.Visit.{Visit}
use Rattle.vsw_walk.specs.declared.outcome.Visit.TheVariants.{Stops, Goes}
use Rattle.vsw_walk.specs.declared.outcome.Want.{Want}
use Rattle.vsw_walk.specs.declared.outcome.Want.TheVariants as want
use Rattle.vsw_walk.specs.declared.scratch.Wanted.{Wanted}
use Rattle.vsw_walk.specs.declared.scratch.Wanted.TheVariants.{Make, Touch, Leave}
use Rattle.vsw_report_law.proofs.Layers.{FitPairs, FitsSeen, commanded_fit, each_append, each_filter}
use Rattle.vsw_report_law.specs.Fits.{FitsCommand, FitsGroup, FitsRule}

-- it holds of the value, if there is one
abbrev pub OfSome : {A : Type 0} → (A → Type 0) → Option A → Type 0
OfSome P None = Unit {0}
OfSome P (Some x) = P x

pub each_get : {A : Type 0} (P : A → Type 0) (xs : List A) (n : ℕ) → Each P xs → OfSome P (slice_get xs n)
each_get P [] n e = tt
each_get P (x ∷ xs) zero e = e.0
each_get P (x ∷ xs) (suc n) e = each_get P xs n e.1

each_filter_map : {A B : Type 0} (P : B → Type 0) (f : A → Option B) (xs : List A) → ((x : A) → OfSome P (f x)) → Each P (filter_map f xs)
each_filter_map P f [] e = tt
each_filter_map {A = A} {B = B} P f (x ∷ xs) e = by (f x) (e x) (each_filter_map P f xs e)
  where
    by : (o : Option B) → OfSome P o → Each P (filter_map f xs) → Each P (cons_option o (filter_map f xs))
    by None h ih = ih
    by (Some y) h ih = (h, ih)

-- ---- the rule that is chosen

picked : (rs : List Rule) (hs : List Header) → Each FitsRule rs → OfSome FitsRule (pick rs hs)
picked [] hs e = tt
picked (r ∷ rs) hs e = by (matches r hs) (picked rs hs e.1)
  where
    first : (b : Bool) (s : Rule) → FitsRule s → OfSome FitsRule (if b then Some r else Some s)
    first true s h = e.0
    first false s h = h

    of : (o : Option Rule) → OfSome FitsRule o → OfSome FitsRule (better r o)
    of None h = e.0
    of (Some s) h = first (nat_le r.priority s.priority) s h

    by : (b : Bool) → OfSome FitsRule (pick rs hs) → OfSome FitsRule (if b then better r (pick rs hs) else pick rs hs)
    by true ih = of (pick rs hs) ih
    by false ih = ih

abbrev FitsChosen : Chosen → Type 0
FitsChosen c = (c.group < 2 ^ 16) × FitsRule c.rule

decided : (g : ℕ) (o : Option Rule) (later : Option Chosen) → g < 2 ^ 16 → OfSome FitsRule o → OfSome FitsChosen later → OfSome FitsChosen (chosen.after g o later)
decided g None later k p l = l
decided g (Some r) None k p l = (k, p)
decided g (Some r) (Some c) k p l = elim r.last as (λ b. OfSome FitsChosen (Some (if b then record { group = g; rule = r } else c))) [ true ↦ (k, p) | false ↦ l ]

from_end : (d : Dir) (gs : List Group) (hs : List Header) → Each FitsGroup gs → OfSome FitsChosen (chosen.from_end d gs hs)
from_end d [] hs e = tt
from_end d (g ∷ gs) hs e =
    let rest = from_end d gs hs e.1 in
    let here = decided g.number (pick g.rules hs) (chosen.from_end d gs hs) e.0.0 (picked g.rules hs e.0.1) rest in
    elim (applies d hs g) as (λ b. OfSome FitsChosen (if b then chosen.after g.number (pick g.rules hs) (chosen.from_end d gs hs) else chosen.from_end d gs hs)) [ true ↦ here | false ↦ rest ]

chosen_fits : (d : Dir) (gs : List Group) (hs : List Header) → Each FitsGroup gs → OfSome FitsChosen (choose d gs hs)
chosen_fits d gs hs e = subst (OfSome FitsChosen) (sym (choose_is d gs hs)) (from_end d gs hs e)

-- ---- the verdict of a walk

abbrev FitsVerdict : Verdict → Type 0
FitsVerdict verdict.Pass = Unit {0}
FitsVerdict (verdict.Rule c l g r) = (c < 2 ^ 16) × (l < 2 ^ 16) × (g < 2 ^ 16) × (r < 2 ^ 16)
FitsVerdict (verdict.Default c l dir) = (c < 2 ^ 16) × (l < 2 ^ 16)

abbrev FitsVisit : Visit → Type 0
FitsVisit (Stops v) = FitsVerdict v
FitsVisit (Goes action left wants) = Unit {0}

acted : (a b : Action) (v : Verdict) (left : Option ℕ) (wants : Option Want) → FitsVerdict v → FitsVisit (by_action a (Stops v) (Goes b left wants))
acted Allow b v left wants h = tt
acted Drop b v left wants h = h
acted (Edit decap set encap) b v left wants h = tt

chosen_visit : (l : LayerSeen) (d : Dir) (c : Control) (moment : ℕ) (hs : List Header) (left : Option ℕ) (o : Option Chosen) → FitsSeen l → OfSome FitsChosen o → FitsVisit (by_choice l d c moment hs left o)
chosen_visit l d c moment hs left None f h = by (allows l.spec d)
  where
    by : (b : Bool) → FitsVisit (if b then Goes Allow left None else Stops (verdict.Default l.controller l.spec.layer d))
    by true = tt
    by false = (f.controller, f.layer)
chosen_visit l d c moment hs left (Some o) f h =
    acted o.rule.action o.rule.action (verdict.Rule l.controller l.spec.layer o.group o.rule.number) left (wanted l.next_pair d c moment hs o.group o.rule) (f.controller, f.layer, h.0, h.1)

state_visit : (l : LayerSeen) (d : Dir) (c : Control) (moment : ℕ) (hs : List Header) (p : Pair) (t : Tracked) → FitsSeen l → FitsVisit (by_state l d c moment hs p t)
state_visit l d c moment hs p (To t) f = tt
state_visit l d c moment hs p Reopen f = chosen_visit l d c moment hs (Some p.number) (choose d l.groups hs) f (chosen_fits d l.groups hs f.groups)

pair_visit : (l : LayerSeen) (d : Dir) (c : Control) (moment : ℕ) (hs : List Header) (o : Option Pair) → FitsSeen l → FitsVisit (by_pair l d c moment hs o)
pair_visit l d c moment hs None f = chosen_visit l d c moment hs None (choose d l.groups hs) f (chosen_fits d l.groups hs f.groups)
pair_visit l d c moment hs (Some p) f = state_visit l d c moment hs p (track_of p.state p.dir c d) f

along_fits : (d : Dir) (c : Control) (moment : ℕ) (es : List (ℕ × LayerSeen)) → Each (λ e. FitsSeen e.1) es → (hs : List Header) (kept : ℕ) → FitsVerdict (along d c moment es hs kept).verdict
along_fits d c moment [] f hs kept = tt
along_fits d c moment (e ∷ es) f hs kept = by (visit_of e.1 d c moment hs) (pair_visit e.1 d c moment hs (pair_of d (key_from hs) e.1.pairs) f.0) (λ ks left. along_fits d c moment es f.1 ks left)
  where
    by : (v : Visit) → FitsVisit v → ((ks : List Header) (left : ℕ) → FitsVerdict (along d c moment es ks left).verdict) → FitsVerdict (by_visit e.0 hs kept v (λ ks left. along d c moment es ks left)).verdict
    by (Stops v) h ih = h
    by (Goes action left wants) h ih = ih (edited action hs) (kept_after action hs kept)

placed_all : (P : LayerSeen → Type 0) (k : ℕ) (ls : List LayerSeen) → Each P ls → Each (λ e. P e.1) (placed k ls)
placed_all P k [] e = tt
placed_all P k (l ∷ ls) e = (e.0, placed_all P (suc k) ls e.1)

walk_fits : (ls : List LayerSeen) (x : Crossing) → Each FitsSeen ls → FitsVerdict (walk_of ls x).verdict
unfolding walk_of
walk_fits ls x f = along_fits x.id.dir x.control x.moment (crossed x.id.dir (placed 0 ls)) (each_crossed (λ e. FitsSeen e.1) x.id.dir (placed 0 ls) (placed_all FitsSeen 0 ls f)) x.id.stack (encaps x.id.stack)

-- ---- why a packet is stopped behind its walk

abbrev FitsStop : Stop → Type 0
FitsStop s = IsProperCause (cause_of s)

held : (q : Probe) (ps : List Pair) → FitPairs ps → OfSome (λ p. p.number < 2 ^ 32) (holder q ps)
held q [] e = tt
held q (p ∷ ps) e = by (holds q p) (held q ps e.1)
  where
    by : (b : Bool) → OfSome (λ p. p.number < 2 ^ 32) (holder q ps) → OfSome (λ p. p.number < 2 ^ 32) (if b then Some p else holder q ps)
    by true ih = e.0
    by false ih = ih

staying_fit : (o : Option ℕ) (ps : List Pair) → FitPairs ps → FitPairs (admit.staying o ps)
staying_fit None ps e = e
staying_fit (Some n) ps e = each_filter (λ p. p.number < 2 ^ 32) _ ps e

refused_fits : (o : Option LayerSeen) (left : Option ℕ) (p : Pair) → OfSome FitsSeen o → OfSome FitsStop (refused_at o left p)
refused_fits None left p f = tt
refused_fits (Some l) left p f = by (nat_le l.spec.pairs (length (admit.staying left l.pairs))) (holder (back p) (admit.staying left l.pairs)) (held (back p) (admit.staying left l.pairs) (staying_fit left l.pairs f.pairs))
  where
    takes : (o : Option Pair) → OfSome (λ p. p.number < 2 ^ 32) o → OfSome FitsStop (taken_by l o)
    takes None h = tt
    takes (Some q) h = (f.controller, f.layer, h)

    by : (b : Bool) (o : Option Pair) → OfSome (λ p. p.number < 2 ^ 32) o → OfSome FitsStop (if b then Some (stop.Full l.controller l.spec.layer) else taken_by l o)
    by true o h = (f.controller, f.layer)
    by false o h = takes o h

refusal_fits : (ls : List LayerSeen) (left : ℕ → Option ℕ) (w : Wanted) → Each FitsSeen ls → OfSome FitsStop (refused_of ls left w)
refusal_fits ls left (Make place p) f = refused_fits (slice_get ls place) (left place) p (each_get FitsSeen ls place f)
refusal_fits ls left (Touch place number state last) f = tt
refusal_fits ls left (Leave place number) f = tt

stop_fits : (ls : List LayerSeen) (x : Crossing) (w : Walk) → Each FitsSeen ls → OfSome FitsStop (stop_of ls x w)
stop_fits ls x w f = on (w.verdict) (if is_long x w.stack w.kept then Some stop.Long else refusal ls w.changes) (by (is_long x w.stack w.kept))
  where
    first : OfSome FitsStop (refusal ls w.changes)
    first = each_get FitsStop (refusals ls w.changes) 0 (each_filter_map FitsStop (refused_of ls (λ place. left_in place w.changes)) w.changes (λ v. refusal_fits ls (λ place. left_in place w.changes) v f))

    by : (b : Bool) → OfSome FitsStop (if b then Some stop.Long else refusal ls w.changes)
    by true = tt
    by false = first

    on : (v : Verdict) (o : Option Stop) → OfSome FitsStop o → OfSome FitsStop (on_pass v o)
    on verdict.Pass o h = h
    on (verdict.Rule c l g r) o h = tt
    on (verdict.Default c l d) o h = tt

-- a drop has such a cause
abbrev pub FitsFate : Fate → Type 0
FitsFate (fate.Pass len) = Unit {0}
FitsFate (fate.Drop why) = IsProperCause why

pub fate_fits : (ls : List LayerSeen) (x : Crossing) → Each FitsSeen ls → FitsFate (fate_at ls x)
fate_fits ls x f = by (walk_of ls x).verdict (stop_of ls x (walk_of ls x)) (walk_fits ls x f) (stop_fits ls x (walk_of ls x) f)
  where
    by : (v : Verdict) (o : Option Stop) → FitsVerdict v → OfSome FitsStop o → FitsFate (fate_by x (fate_after v o (walk_of ls x).stack (walk_of ls x).kept))
    by verdict.Pass None h k = tt
    by verdict.Pass (Some s) h k = k
    by (verdict.Rule c l g r) o h k = h
    by (verdict.Default c l d) o h k = h

-- ---- pairs that are made

abbrev FitsWanted : Wanted → Type 0
FitsWanted (Make place p) = p.number < 2 ^ 32
FitsWanted (Touch place number state last) = Unit {0}
FitsWanted (Leave place number) = Unit {0}

left_fits : (place : ℕ) (o : Option ℕ) → Each FitsWanted (leaving place o)
left_fits place None = tt
left_fits place (Some n) = (tt, tt)

want_fits : (l : LayerSeen) (d : Dir) (hs : List Header) (left : Option ℕ) (place : ℕ) (o : Option Want) → l.next_pair < 2 ^ 32 → Wants l d hs left o → Each FitsWanted (wanting place o)
want_fits l d hs left place None k h = tt
want_fits l d hs left place (Some (want.Make p)) k h = (subst (λ n. n < 2 ^ 32) (sym h.0) k, tt)
want_fits l d hs left place (Some (want.Touch number state last)) k h = (tt, tt)

visit_wants : (l : LayerSeen) (d : Dir) (hs : List Header) (place : ℕ) (v : Visit) → l.next_pair < 2 ^ 32 → IsVisit l d hs v → Each FitsWanted (told_by place v)
visit_wants l d hs place (Stops v) k h = tt
visit_wants l d hs place (Goes action left wants) k h = each_append FitsWanted (leaving place left) (wanting place wants) (left_fits place left) (want_fits l d hs left place wants k h.1)

all_want : (d : Dir) (c : Control) (moment : ℕ) (es : List (ℕ × LayerSeen)) → Each (λ e. e.1.next_pair < 2 ^ 32) es → Each (λ e. (hs : List Header) → Each FitsWanted (told_by e.0 (visit_of e.1 d c moment hs))) es
all_want d c moment [] k = tt
all_want d c moment (e ∷ es) k = ((λ hs. visit_wants e.1 d hs e.0 (visit_of e.1 d c moment hs) k.0 (visits e.1 d c moment hs)), all_want d c moment es k.1)

walk_wants : (ls : List LayerSeen) (x : Crossing) → Each (λ l. l.next_pair < 2 ^ 32) ls → Each FitsWanted (walk_of ls x).changes
unfolding walk_of
walk_wants ls x k =
    let es = crossed x.id.dir (placed 0 ls) in
    each_told FitsWanted x.id.dir x.control x.moment es (all_want x.id.dir x.control x.moment es (each_crossed (λ e. e.1.next_pair < 2 ^ 32) x.id.dir (placed 0 ls) (placed_all (λ l. l.next_pair < 2 ^ 32) 0 ls k))) x.id.stack (encaps x.id.stack)

made_fit : (v : Verdict) (o : Option Stop) (ws : List Wanted) → Each FitsWanted ws → Each FitsWanted (made_after v o ws)
made_fit verdict.Pass None ws h = h
made_fit verdict.Pass (Some s) ws h = tt
made_fit (verdict.Rule c l g r) o ws h = tt
made_fit (verdict.Default c l d) o ws h = tt

at_place : (f : LayerSeen → LayerSeen) → ((l : LayerSeen) → FitsSeen l → FitsSeen (f l)) → (n : ℕ) (ls : List LayerSeen) → Each FitsSeen ls → Each FitsSeen (changed_at n f ls)
at_place f keep n [] e = tt
at_place f keep zero (l ∷ ls) e = (keep l e.0, e.1)
at_place f keep (suc n) (l ∷ ls) e = (e.0, at_place f keep n ls e.1)

touched_fit : (n : ℕ) (t : Track) (m : ℕ) (ps : List Pair) → FitPairs ps → FitPairs (touched n t m ps)
touched_fit n t m [] e = tt
touched_fit n t m (p ∷ ps) e = (e.0, touched_fit n t m ps e.1)

done_fit : (w : Wanted) (ls : List LayerSeen) → FitsWanted w → Each FitsSeen ls → Each FitsSeen (done w ls)
done_fit (Make place p) ls k f =
    at_place (with_pair p) (λ l h. record { controller = h.controller; layer = h.layer; groups = h.groups; pairs = each_append (λ p. p.number < 2 ^ 32) l.pairs (p ∷ []) h.pairs (k, tt) }) place ls f
done_fit (Touch place number state last) ls k f =
    at_place (with_touched number state last) (λ l h. record { controller = h.controller; layer = h.layer; groups = h.groups; pairs = touched_fit number state last l.pairs h.pairs }) place ls f
done_fit (Leave place number) ls k f =
    at_place (without_pair number) (λ l h. record { controller = h.controller; layer = h.layer; groups = h.groups; pairs = each_filter (λ p. p.number < 2 ^ 32) _ l.pairs h.pairs }) place ls f

all_fit : (ws : List Wanted) (ls : List LayerSeen) → Each FitsWanted ws → Each FitsSeen ls → Each FitsSeen (all_done ws ls)
all_fit [] ls k f = f
all_fit (w ∷ ws) ls k f = all_fit ws (done w ls) k.1 (done_fit w ls k.0 f)

below_of : (n : ℕ) (ls : List LayerSeen) → n < 2 ^ 32 → AreAtMost n ls → Each (λ l. l.next_pair < 2 ^ 32) ls
below_of n [] k e = tt
below_of n (l ∷ ls) k e = (omega (arith, k, e.0), below_of n ls k e.1)

crossing_fits : (n : ℕ) (ls : List LayerSeen) (x : Crossing) → n < 2 ^ 32 → AreAtMost n ls → Each FitsSeen ls → Each FitsSeen (cross_of ls x).layers
crossing_fits n ls x k e f = all_fit (made_by ls x) ls (made_fit (walk_of ls x).verdict (stop_of ls x (walk_of ls x)) (walk_of ls x).changes (walk_wants ls x (below_of n ls k e))) f

-- ---- along a history

-- a command gives small numbers
abbrev pub FitsEvent : Event → Type 0
FitsEvent (event.Command controller line command reply) = (controller < 2 ^ 16) × FitsCommand command
FitsEvent (event.Crossing x fate) = Unit {0}

obeyed_fit : (cs : List ℕ) (ls : List LayerSeen) (c : ℕ) (m : Command) → c < 2 ^ 16 → FitsCommand m → Each FitsSeen ls → Each FitsSeen (left_by ls (obey cs ls c m))
obeyed_fit cs ls c m k e f = by (first_refusal (tests ls c m))
  where
    by : (o : Option Refusal) → Each FitsSeen (left_by ls (answered o (commands.after cs ls c m)))
    by None = commanded_fit cs ls c m k e f
    by (Some why) = f

event_fits : (n : ℕ) (cs : List ℕ) (ls : List LayerSeen) (e : Event) → n < 2 ^ 32 → FitsEvent e → AreAtMost n ls → Each FitsSeen ls → AreAtMost (n + 1) (after cs ls e) × Each FitsSeen (after cs ls e)
event_fits n cs ls (event.Command controller line command reply) k h m f = (more_at_most n (n + 1) (left_by ls (obey cs ls controller command)) (omega arith) (obeyed_at_most n cs ls controller command m), obeyed_fit cs ls controller command h.0 h.1 f)
event_fits n cs ls (event.Crossing x fate) k h m f = (crossed_grows n ls x m, crossing_fits n ls x k m f)

pub replay_fits : (n : ℕ) (cs : List ℕ) (ls : List LayerSeen) (h : List Event) → n + length h < 2 ^ 32 → Each FitsEvent h → AreAtMost n ls → Each FitsSeen ls → Each FitsSeen (after_all cs ls h)
replay_fits n cs ls [] k e m f = f
replay_fits n cs ls (x ∷ h) k e m f =
    let one = event_fits n cs ls x (omega (arith, k)) e.0 m f in
    replay_fits (n + 1) cs (after cs ls x) h (omega (arith, k)) e.1 one.0 one.1
