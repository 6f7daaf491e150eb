-- Layers without pairs and stateful rules: packets change nothing there.
use Rattle.std.proofs.Common.{◌≡◌, ℕ, suc, ◌==◌, not, Bool, true, false, nat_le, if◌then◌else◌, List, [], ◌∷◌, ◌++◌, length, Option, Some, None, refl, ap, sym, ◌∙◌, subst, arith, ne_eqb}
use Rattle.vsw_port.specs.declared.stop.Stop.{Stop}
use Rattle.vsw_port.specs.Admit.{stop_of}
use Rattle.vsw_port.proofs.Walks.{each_crossed}
use Rattle.vsw_base.specs.declared.fate.Verdict.{Verdict}
use Rattle.vsw_base.specs.declared.fate.Verdict.TheVariants as verdict
use Rattle.vsw_base.specs.declared.flow.Crossing.{Crossing}
use Rattle.vsw_base.specs.declared.header.Header.{Header}
use Rattle.vsw_base.specs.declared.packet.Control.{Control}
use Rattle.vsw_base.specs.declared.packet.Dir.{Dir}
use Rattle.vsw_rule.specs.Choice.{Chosen, better, pick, choose, applies}
use Rattle.vsw_rule.specs.Private.FromEnd.{decided, from_end}
use Rattle.vsw_rule.specs.Private.FromEnd as choice
use Rattle.vsw_rule.proofs.FromEnd.{choose_is}
use Rattle.vsw_port.specs.Cross.{all_done, cross_of, made_by, made_after, makes}
use Rattle.vsw_rule.specs.Edit.{edited, kept_after}
use Rattle.vsw_walk.specs.declared.scratch.Wanted.{Wanted}
use Rattle.vsw_walk.specs.Walk.{Walk, along, by_visit, crossed, placed, walk_of}
use Rattle.vsw_header.specs.Key.{key_from}
use Rattle.vsw_policy.specs.Groups.{changed, removed, is_group, is_rule, with_rules, with_rule, without_rule}
use Rattle.vsw_policy.specs.Layer.{LayerSeen}
use Rattle.vsw_layerflow.specs.Pairs.{pair_of}
use Rattle.vsw_policy.specs.declared.command.Command.{Command}
use Rattle.vsw_policy.specs.declared.command.Part.{Part}
use Rattle.vsw_policy.specs.declared.command.Command.TheVariants.{AddLayer, RemoveLayer, AddGroup, RemoveGroup, PutRules, PutMany, AddRule, RemoveRule, SetDefault, Sweep}
use Rattle.vsw_policy.specs.declared.refusal.Refusal.{Refusal}
use Rattle.vsw_policy.specs.Layers.{is_layer, is_before}
use Rattle.vsw_policy.specs.Obey.{empty_layer, within, tests, first_refusal, answered, obey, rules_given, put_parts}
use Rattle.vsw_policy.specs.Obey as policy
use Rattle.vsw_policy.specs.Sound.{Each}
use Rattle.vsw_rule.specs.declared.rule.Action.{Action}
use Rattle.vsw_rule.specs.declared.rule.Action.TheVariants.{Allow, Drop, Edit}
use Rattle.vsw_rule.specs.declared.rule.Group.{Group}
use Rattle.vsw_rule.specs.declared.rule.Rule.{Rule}
use Rattle.vsw_rule.specs.Match.{matches}
use Rattle.vsw_walk.specs.declared.outcome.Visit.{Visit}
use Rattle.vsw_walk.specs.declared.outcome.Visit.TheVariants.{Stops, Goes}
use Rattle.vsw_walk.specs.Visit.{visit_of, by_pair, by_choice, by_default, by_action, wanted, allows}
use Rattle.vsw_port.specs.declared.event.Event.{Event}
use Rattle.vsw_port.specs.declared.event.Event.TheVariants as event
use Rattle.vsw_port.specs.History.{after, after_all, left_by}
use Rattle.vsw_port.proofs.Calls.{each_append}
use Rattle.vsw_promise.specs.Agree.{IsPlainRule, IsPlainGroup, IsPlain, ArePlain}
use Rattle.vsw_history_law.specs.Plain.{IsPlainEvent}

-- ---- what is chosen

abbrev FineRule : Option Rule → Type 0
FineRule None = Unit {0}
FineRule (Some r) = IsPlainRule r

abbrev FineChosen : Option Chosen → Type 0
FineChosen None = Unit {0}
FineChosen (Some c) = IsPlainRule c.rule

better_fine : (r : Rule) (o : Option Rule) → IsPlainRule r → FineRule o → FineRule (better r o)
better_fine r None p f = p
better_fine r (Some s) p f = by (nat_le r.priority s.priority)
  where
    by : (b : Bool) → FineRule (if b then Some r else Some s)
    by true = p
    by false = f

pick_fine : (rs : List Rule) (hs : List Header) → Each IsPlainRule rs → FineRule (pick rs hs)
pick_fine [] hs e = tt
pick_fine (r ∷ rs) hs e = by (matches r hs) (pick_fine rs hs e.1)
  where
    by : (b : Bool) → FineRule (pick rs hs) → FineRule (if b then better r (pick rs hs) else pick rs hs)
    by true ih = better_fine r (pick rs hs) e.0 ih
    by false ih = ih

decided_fine : (g : ℕ) (r : Rule) (o : Option Chosen) → IsPlainRule r → FineChosen o → FineChosen (decided g r o)
decided_fine g r None p f = p
decided_fine g r (Some c) p f = by r.last
  where
    by : (b : Bool) → FineChosen (Some (if b then record { group = g; rule = r } else c))
    by true = p
    by false = f

after_fine : (g : ℕ) (o : Option Rule) (c : Option Chosen) → FineRule o → FineChosen c → FineChosen (choice.after g o c)
after_fine g None c f k = k
after_fine g (Some r) c f k = decided_fine g r c f k

from_end_fine : (d : Dir) (gs : List Group) (hs : List Header) → Each IsPlainGroup gs → FineChosen (from_end d gs hs)
from_end_fine d [] hs e = tt
from_end_fine d (g ∷ gs) hs e = by (applies d hs g) (from_end_fine d gs hs e.1)
  where
    by : (b : Bool) → FineChosen (from_end d gs hs) → FineChosen (if b then choice.after g.number (pick g.rules hs) (from_end d gs hs) else from_end d gs hs)
    by true ih = after_fine g.number (pick g.rules hs) (from_end d gs hs) (pick_fine g.rules hs e.0) ih
    by false ih = ih

choose_fine : (d : Dir) (gs : List Group) (hs : List Header) → Each IsPlainGroup gs → FineChosen (choose d gs hs)
choose_fine d gs hs e = subst FineChosen (sym (choose_is d gs hs)) (from_end_fine d gs hs e)

-- ---- what is wanted: nothing

abbrev Wantless : Visit → Type 0
Wantless (Stops v) = Unit {0}
Wantless (Goes action leaves wants) = (leaves ≡ None) × (wants ≡ None)

default_wantless : (l : LayerSeen) (d : Dir) → Wantless (by_default l d None)
default_wantless l d = by (allows l.spec d)
  where
    by : (b : Bool) → Wantless (if b then Goes Allow None None else Stops (verdict.Default l.controller l.spec.layer d))
    by true = (refl, refl)
    by false = tt

action_wantless : (a : Action) (s g : Visit) → Wantless s → Wantless g → Wantless (by_action a s g)
action_wantless Allow s g x y = y
action_wantless Drop s g x y = x
action_wantless (Edit decap set encap) s g x y = y

choice_wantless : (l : LayerSeen) (d : Dir) (c : Control) (m : ℕ) (hs : List Header) (o : Option Chosen) → FineChosen o → Wantless (by_choice l d c m hs None o)
choice_wantless l d c m hs None f = default_wantless l d
choice_wantless l d c m hs (Some k) f = action_wantless k.rule.action (Stops (verdict.Rule l.controller l.spec.layer k.group k.rule.number)) (Goes k.rule.action None (wanted l.next_pair d c m hs k.group k.rule)) tt (refl, (rw f refl))

visit_wantless : (l : LayerSeen) (d : Dir) (c : Control) (m : ℕ) (hs : List Header) → IsPlain l → Wantless (visit_of l d c m hs)
visit_wantless l d c m hs p = subst (λ ps. Wantless (by_pair l d c m hs (pair_of d (key_from hs) ps))) (sym p.0) (choice_wantless l d c m hs (choose d l.groups hs) (choose_fine d l.groups hs p.1))

visit_none : (place : ℕ) (hs : List Header) (kept : ℕ) (v : Visit) (next : List Header → ℕ → Walk) → Wantless v → ((ks : List Header) (left : ℕ) → (next ks left).changes ≡ []) → (by_visit place hs kept v next).changes ≡ []
visit_none place hs kept (Stops x) next w n = refl
visit_none place hs kept (Goes action leaves wants) next w n = rw (w.0, w.1) (n (edited action hs) (kept_after action hs kept))

along_none : (d : Dir) (c : Control) (m : ℕ) (ls : List (ℕ × LayerSeen)) (hs : List Header) (kept : ℕ) → Each (λ t. IsPlain t.1) ls → (along d c m ls hs kept).changes ≡ []
along_none d c m [] hs kept e = refl
along_none d c m (l ∷ ls) hs kept e = visit_none l.0 hs kept (visit_of l.1 d c m hs) (λ ks left. along d c m ls ks left) (visit_wantless l.1 d c m hs e.0) (λ ks left. along_none d c m ls ks left e.1)

placed_plain : (n : ℕ) (ls : List LayerSeen) → ArePlain ls → Each (λ t. IsPlain t.1) (placed n ls)
placed_plain n [] e = tt
placed_plain n (l ∷ ls) e = (e.0, placed_plain (suc n) ls e.1)

walk_none : (ls : List LayerSeen) (x : Crossing) → ArePlain ls → (walk_of ls x).changes ≡ []
unfolding walk_of
walk_none ls x e = along_none x.id.dir x.control x.moment (crossed x.id.dir (placed 0 ls)) x.id.stack _ (each_crossed (λ t. IsPlain t.1) x.id.dir (placed 0 ls) (placed_plain 0 ls e))

none_after : (v : Verdict) (s : Option Stop) → made_after v s [] ≡ []
none_after verdict.Pass None = refl
none_after verdict.Pass (Some s) = refl
none_after (verdict.Rule a b c d) s = refl
none_after (verdict.Default a b c) s = refl

pub makes_none : (ls : List LayerSeen) (x : Crossing) → ArePlain ls → made_by ls x ≡ []
makes_none ls x e = ap (made_after (walk_of ls x).verdict (stop_of ls x (walk_of ls x))) (walk_none ls x e) ∙ none_after (walk_of ls x).verdict (stop_of ls x (walk_of ls x))

pub plain_still : (ls : List LayerSeen) (x : Crossing) → ArePlain ls → (cross_of ls x).changed ≡ false
plain_still ls x e = ap (λ w. not (length w == 0)) (makes_none ls x e)

pub plain_suffices : (ls : List LayerSeen) (x : Crossing) → ArePlain ls → makes (made_by ls x) ≡ false
plain_suffices ls x e = ap makes (makes_none ls x e)

-- a crossing that changes nothing leaves the layers
nothing_done : (ws : List Wanted) (ls : List LayerSeen) → not (length ws == 0) ≡ false → all_done ws ls ≡ ls
nothing_done [] ls e = refl
nothing_done (w ∷ ws) ls e = absurd (let t : (suc (length ws) == 0) ≡ false = ne_eqb (suc (length ws)) 0 (λ f. omega (arith, f)) in cc (t, e))

still : (ls : List LayerSeen) (x : Crossing) → (cross_of ls x).changed ≡ false → (cross_of ls x).layers ≡ ls
still ls x e = nothing_done (made_by ls x) ls e

-- ---- commands

each_changed : {A : Type 0} (P : A → Type 0) (p : A → Bool) (f : A → A) (xs : List A) → ((x : A) → P x → P (f x)) → Each P xs → Each P (changed p f xs)
each_changed P p f [] k e = tt
each_changed P p f (x ∷ xs) k e = by (p x) (each_changed P p f xs k e.1)
  where
    by : (b : Bool) → Each P (changed p f xs) → Each P (if b then f x ∷ xs else x ∷ changed p f xs)
    by true ih = (k x e.0, e.1)
    by false ih = (e.0, ih)

each_removed : {A : Type 0} (P : A → Type 0) (p : A → Bool) (xs : List A) → Each P xs → Each P (removed p xs)
each_removed P p [] e = tt
each_removed P p (x ∷ xs) e = by (p x) (each_removed P p xs e.1)
  where
    by : (b : Bool) → Each P (removed p xs) → Each P (if b then xs else x ∷ removed p xs)
    by true ih = e.1
    by false ih = (e.0, ih)

each_placed : (P : LayerSeen → Type 0) (cs : List ℕ) (l : LayerSeen) (ls : List LayerSeen) → P l → Each P ls → Each P (policy.placed cs l ls)
each_placed P cs l [] p e = (p, tt)
each_placed P cs l (m ∷ ms) p e = by (is_before cs l m) (each_placed P cs l ms p e.1)
  where
    by : (b : Bool) → Each P (policy.placed cs l ms) → Each P (if b then l ∷ m ∷ ms else m ∷ policy.placed cs l ms)
    by true ih = (p, e)
    by false ih = (e.0, ih)

within_plain : (m : Command) (l : LayerSeen) → Each IsPlainRule (rules_given m) → IsPlain l → IsPlain (within m l)
within_plain (AddLayer s) l g p = p
within_plain (RemoveLayer n) l g p = p
within_plain (AddGroup n g dir when) l r p = (p.0, each_append IsPlainGroup l.groups (record { number = g; dir = dir; when = when; rules = [] } ∷ []) p.1 (tt, tt))
within_plain (RemoveGroup n g) l r p = ((rw p.0 refl), each_removed IsPlainGroup (is_group g) l.groups p.1)
within_plain (PutRules n g rs) l r p = ((rw p.0 refl), each_changed IsPlainGroup (is_group g) (with_rules rs) l.groups (λ x q. r) p.1)
within_plain (PutMany ps) l r p = p
within_plain (AddRule n g k) l r p = (p.0, each_changed IsPlainGroup (is_group g) (with_rule k) l.groups (λ x q. each_append IsPlainRule x.rules (k ∷ []) q r) p.1)
within_plain (RemoveRule n g k) l r p = ((rw p.0 refl), each_changed IsPlainGroup (is_group g) (without_rule k) l.groups (λ x q. each_removed IsPlainRule (is_rule k) x.rules q) p.1)
within_plain (SetDefault n dir allow) l r p = p
within_plain (Sweep n now) l r p = ((rw p.0 refl), p.1)

each_parts : {A : Type 0} (P : A → Type 0) (xs ys : List A) → Each P (xs ++ ys) → Each P xs × Each P ys
each_parts P [] ys e = (tt, e)
each_parts P (x ∷ xs) ys e = let rest = each_parts P xs ys e.1 in ((e.0, rest.0), rest.1)

-- several groups at once
parts_plain : (c : ℕ) (ps : List Part) (ls : List LayerSeen) → Each IsPlainRule (rules_given (PutMany ps)) → ArePlain ls → ArePlain (put_parts c ps ls)
parts_plain c [] ls g e = e
parts_plain c (p ∷ ps) ls g e =
    let given = each_parts IsPlainRule p.rules (rules_given (PutMany ps)) g in
    let m : Command = PutRules p.layer p.group p.rules in
    parts_plain c ps (changed (is_layer c p.layer) (within m) ls) given.1 (each_changed IsPlain (is_layer c p.layer) (within m) ls (λ l i. within_plain m l given.0 i) e)

command_plain : (cs : List ℕ) (ls : List LayerSeen) (c : ℕ) (m : Command) → Each IsPlainRule (rules_given m) → ArePlain ls → ArePlain (policy.after cs ls c m)
command_plain cs ls c (AddLayer s) g e = each_placed IsPlain cs (empty_layer c s) ls (refl, tt) e
command_plain cs ls c (RemoveLayer n) g e = each_removed IsPlain (is_layer c n) ls e
command_plain cs ls c (AddGroup n k dir when) g e = each_changed IsPlain (is_layer c n) (within (AddGroup n k dir when)) ls (λ l p. within_plain (AddGroup n k dir when) l g p) e
command_plain cs ls c (RemoveGroup n k) g e = each_changed IsPlain (is_layer c n) (within (RemoveGroup n k)) ls (λ l p. within_plain (RemoveGroup n k) l g p) e
command_plain cs ls c (PutRules n k rs) g e = each_changed IsPlain (is_layer c n) (within (PutRules n k rs)) ls (λ l p. within_plain (PutRules n k rs) l g p) e
command_plain cs ls c (PutMany ps) g e = parts_plain c ps ls g e
command_plain cs ls c (AddRule n k r) g e = each_changed IsPlain (is_layer c n) (within (AddRule n k r)) ls (λ l p. within_plain (AddRule n k r) l g p) e
command_plain cs ls c (RemoveRule n k j) g e = each_changed IsPlain (is_layer c n) (within (RemoveRule n k j)) ls (λ l p. within_plain (RemoveRule n k j) l g p) e
command_plain cs ls c (SetDefault n dir allow) g e = each_changed IsPlain (is_layer c n) (within (SetDefault n dir allow)) ls (λ l p. within_plain (SetDefault n dir allow) l g p) e
command_plain cs ls c (Sweep n now) g e = each_changed IsPlain (is_layer c n) (within (Sweep n now)) ls (λ l p. within_plain (Sweep n now) l g p) e

left_plain : (o : Option Refusal) (ls new : List LayerSeen) → ArePlain ls → ArePlain new → ArePlain (left_by ls (answered o new))
left_plain None ls new e f = f
left_plain (Some why) ls new e f = e

-- an entry leaves plain layers plain
pub event_plain : (cs : List ℕ) (ls : List LayerSeen) (e : Event) → IsPlainEvent e → ArePlain ls → ArePlain (after cs ls e)
event_plain cs ls (event.Command controller line command reply) g p = left_plain (first_refusal (tests ls controller command)) ls (policy.after cs ls controller command) p (command_plain cs ls controller command g p)
event_plain cs ls (event.Crossing x fate) g p = subst ArePlain (sym (still ls x (plain_still ls x p))) p

pub history_plain : (cs : List ℕ) (ls : List LayerSeen) (h : List Event) → Each IsPlainEvent h → ArePlain ls → ArePlain (after_all cs ls h)
history_plain cs ls [] g p = p
history_plain cs ls (e ∷ es) g p = history_plain cs (after cs ls e) es g.1 (event_plain cs ls e g.0 p)
