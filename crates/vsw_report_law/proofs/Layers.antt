-- The numbers of layers along a history: commands keep them within 16 bits, those of pairs within 32.
use Rattle.std.proofs.Common.{◌<◌, ◌^◌, ℕ, Bool, true, false, not, List, [], ◌∷◌, ◌++◌, filter}
use Rattle.std.specs.Prelude.{if◌then◌else◌}
use Rattle.vsw_base.specs.declared.packet.Dir.{Dir}
use Rattle.vsw_base.specs.declared.packet.Dir.TheVariants.{Out, In}
use Rattle.vsw_layerflow.specs.Life.{is_over}
use Rattle.vsw_layerflow.specs.Pairs.{of_rule}
use Rattle.vsw_layerflow.specs.declared.pair.Pair.{Pair}
use Rattle.vsw_policy.specs.Groups.{changed, is_group, is_rule, removed, rules_in, with_rule, with_rules, without_rule}
use Rattle.vsw_policy.specs.Layer.{LayerSeen, with_parts}
use Rattle.vsw_policy.specs.Layers.{is_before, is_layer}
use Rattle.vsw_policy.specs.Obey.{after, empty_layer, placed, put_part, put_parts, within}
use Rattle.vsw_policy.specs.Sound.{Each}
use Rattle.vsw_policy.specs.Staying.{goes, staying}
use Rattle.vsw_policy.specs.declared.command.Command.{Command}
use Rattle.vsw_policy.specs.declared.command.Command.TheVariants.{AddLayer, RemoveLayer, AddGroup, RemoveGroup, PutRules, PutMany, AddRule, RemoveRule, SetDefault, Sweep}
use Rattle.vsw_policy.specs.declared.command.Part.{Part}
use Rattle.vsw_rule.specs.declared.rule.Group.{Group}
use Rattle.vsw_rule.specs.declared.rule.Rule.{Rule}
use Rattle.vsw_report_law.specs.Fits.{FitsCommand, FitsGroup, FitsRule}

-- a layer that stands has numbers of 16 bits, and its pairs of 32
pub record FitsSeen (l : LayerSeen) : Type 0 where
  pub controller : l.controller < 2 ^ 16
  pub layer : l.spec.layer < 2 ^ 16
  pub groups : Each FitsGroup l.groups
  pub pairs : Each (λ p. p.number < 2 ^ 32) l.pairs

abbrev pub FitPairs : List Pair → Type 0
FitPairs ps = Each (λ p. p.number < 2 ^ 32) ps

-- ---- lists

pub each_filter : {A : Type 0} (P : A → Type 0) (p : A → Bool) (xs : List A) → Each P xs → Each P (filter p xs)
each_filter P p [] e = tt
each_filter P p (x ∷ xs) e = by (p x) (each_filter P p xs e.1)
  where
    by : (b : Bool) → Each P (filter p xs) → Each P (if b then x ∷ filter p xs else filter p xs)
    by true ih = (e.0, ih)
    by false ih = ih

pub each_append : {A : Type 0} (P : A → Type 0) (xs ys : List A) → Each P xs → Each P ys → Each P (xs ++ ys)
each_append P [] ys p q = q
each_append P (x ∷ xs) ys p q = (p.0, each_append P xs ys p.1 q)

each_removed : {A : Type 0} (P : A → Type 0) (p : A → Bool) (xs : List A) → Each P xs → Each P (removed p xs)
each_removed P p [] e = tt
each_removed P p (x ∷ xs) e = by (p x) (each_removed P p xs e.1)
  where
    by : (b : Bool) → Each P (removed p xs) → Each P (if b then xs else x ∷ removed p xs)
    by true ih = e.1
    by false ih = (e.0, ih)

each_changed : {A : Type 0} (P : A → Type 0) (p : A → Bool) (f : A → A) → ((x : A) → P x → P (f x)) → (xs : List A) → Each P xs → Each P (changed p f xs)
each_changed P p f keep [] e = tt
each_changed P p f keep (x ∷ xs) e = by (p x) (each_changed P p f keep xs e.1)
  where
    by : (b : Bool) → Each P (changed p f xs) → Each P (if b then f x ∷ xs else x ∷ changed p f xs)
    by true ih = (keep x e.0, e.1)
    by false ih = (e.0, ih)

each_placed : (P : LayerSeen → Type 0) (cs : List ℕ) (l : LayerSeen) (ls : List LayerSeen) → P l → Each P ls → Each P (placed cs l ls)
each_placed P cs l [] h e = (h, tt)
each_placed P cs l (m ∷ ms) h e = by (is_before cs l m) (each_placed P cs l ms h e.1)
  where
    by : (b : Bool) → Each P (placed cs l ms) → Each P (if b then l ∷ m ∷ ms else m ∷ placed cs l ms)
    by true ih = (h, e)
    by false ih = (e.0, ih)

-- ---- one layer

pub parts_fit : (gs : List Group) (ps : List Pair) (l : LayerSeen) → FitsSeen l → Each FitsGroup gs → FitPairs ps → FitsSeen (with_parts gs ps l)
parts_fit gs ps l f g p = record { controller = f.controller; layer = f.layer; groups = g; pairs = p }

ruled : (rs : List Rule) (g : Group) → Each FitsRule rs → FitsGroup g → FitsGroup (with_rules rs g)
ruled rs g r f = (f.0, r)

put_fits : (n g : ℕ) (rs : List Rule) → Each FitsRule rs → (l : LayerSeen) → FitsSeen l → FitsSeen (within (PutRules n g rs) l)
put_fits n g rs r l f =
    parts_fit (changed (is_group g) (with_rules rs) l.groups) (staying g (rules_in l.groups g) rs l.pairs) l f
    (each_changed FitsGroup (is_group g) (with_rules rs) (λ x h. ruled rs x r h) l.groups f.groups)
    (each_filter (λ p. p.number < 2 ^ 32) (λ p. not (goes g (rules_in l.groups g) rs p)) l.pairs f.pairs)

default_fits : (d : Dir) (b : Bool) (l : LayerSeen) → FitsSeen l → FitsSeen (within (SetDefault 0 d b) l)
default_fits Out b l f = record { controller = f.controller; layer = f.layer; groups = f.groups; pairs = f.pairs }
default_fits In b l f = record { controller = f.controller; layer = f.layer; groups = f.groups; pairs = f.pairs }

-- ---- all layers

many_fit : (c : ℕ) (ps : List Part) (ls : List LayerSeen) → Each (λ p. Each FitsRule p.rules) ps → Each FitsSeen ls → Each FitsSeen (put_parts c ps ls)
many_fit c [] ls r f = f
many_fit c (p ∷ ps) ls r f = many_fit c ps (put_part c p ls) r.1 (each_changed FitsSeen (is_layer c p.layer) (within (PutRules p.layer p.group p.rules)) (λ l h. put_fits p.layer p.group p.rules r.0 l h) ls f)

pub commanded_fit : (cs : List ℕ) (ls : List LayerSeen) (c : ℕ) (m : Command) → c < 2 ^ 16 → FitsCommand m → Each FitsSeen ls → Each FitsSeen (after cs ls c m)
commanded_fit cs ls c (AddLayer s) k e f = each_placed FitsSeen cs (empty_layer c s) ls (record { controller = k; layer = e; groups = tt; pairs = tt }) f
commanded_fit cs ls c (RemoveLayer n) k e f = each_removed FitsSeen (is_layer c n) ls f
commanded_fit cs ls c (AddGroup n g dir when) k e f =
    each_changed FitsSeen (is_layer c n) (within (AddGroup n g dir when))
    (λ l h. parts_fit (l.groups ++ record { number = g; dir = dir; when = when; rules = [] } ∷ []) l.pairs l h (each_append FitsGroup l.groups (record { number = g; dir = dir; when = when; rules = [] } ∷ []) h.groups ((e, tt), tt)) h.pairs) ls f
commanded_fit cs ls c (RemoveGroup n g) k e f =
    each_changed FitsSeen (is_layer c n) (within (RemoveGroup n g))
    (λ l h. parts_fit (removed (is_group g) l.groups) (staying g (rules_in l.groups g) [] l.pairs) l h (each_removed FitsGroup (is_group g) l.groups h.groups) (each_filter (λ p. p.number < 2 ^ 32) (λ p. not (goes g (rules_in l.groups g) [] p)) l.pairs h.pairs)) ls f
commanded_fit cs ls c (PutRules n g rs) k e f = each_changed FitsSeen (is_layer c n) (within (PutRules n g rs)) (λ l h. put_fits n g rs e l h) ls f
commanded_fit cs ls c (PutMany ps) k e f = many_fit c ps ls e f
commanded_fit cs ls c (AddRule n g r) k e f =
    each_changed FitsSeen (is_layer c n) (within (AddRule n g r))
    (λ l h. parts_fit (changed (is_group g) (with_rule r) l.groups) l.pairs l h (each_changed FitsGroup (is_group g) (with_rule r) (λ x i. (i.0, each_append FitsRule x.rules (r ∷ []) i.1 (e, tt))) l.groups h.groups) h.pairs) ls f
commanded_fit cs ls c (RemoveRule n g j) k e f =
    each_changed FitsSeen (is_layer c n) (within (RemoveRule n g j))
    (λ l h. parts_fit (changed (is_group g) (without_rule j) l.groups) (filter (λ p. not (of_rule g j p)) l.pairs) l h (each_changed FitsGroup (is_group g) (without_rule j) (λ x i. (i.0, each_removed FitsRule (is_rule j) x.rules i.1)) l.groups h.groups) (each_filter (λ p. p.number < 2 ^ 32) (λ p. not (of_rule g j p)) l.pairs h.pairs)) ls f
commanded_fit cs ls c (SetDefault n dir allow) k e f = each_changed FitsSeen (is_layer c n) (within (SetDefault n dir allow)) (λ l h. default_fits dir allow l h) ls f
commanded_fit cs ls c (Sweep n now) k e f =
    each_changed FitsSeen (is_layer c n) (within (Sweep n now))
    (λ l h. parts_fit l.groups (filter (λ p. not (is_over now l.spec.idle l.spec.linger p)) l.pairs) l h h.groups (each_filter (λ p. p.number < 2 ^ 32) (λ p. not (is_over now l.spec.idle l.spec.linger p)) l.pairs h.pairs)) ls f
