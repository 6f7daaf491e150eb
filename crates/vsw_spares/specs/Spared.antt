-- The test by which a command spares a row.
use Rattle.std.specs.Prelude.{ℕ, ◌&&◌, ◌||◌, ◌++◌, List, [], ◌∷◌, Bool, true, false, map, not, Option, Some, None}
use Rattle.std.specs.List.{find, list_all, slice_get}
use Rattle.vsw_base.specs.Direction.{same_dir}
use Rattle.vsw_layerflow.specs.declared.pair.Pair.{Pair}
use Rattle.vsw_layerflow.specs.Life.{is_over}
use Rattle.vsw_layerflow.specs.Pairs.{of_rule, pair_of, same_bool}
use Rattle.vsw_policy.specs.declared.command.Command.{Command}
use Rattle.vsw_policy.specs.declared.command.Part.{Part}
use Rattle.vsw_policy.specs.declared.command.Command.TheVariants.{AddLayer, RemoveLayer, AddGroup, RemoveGroup, PutRules, PutMany, AddRule, RemoveRule, SetDefault, Sweep}
use Rattle.vsw_policy.specs.Groups.{is_group, is_rule, removed, rules_in}
use Rattle.vsw_policy.specs.Layer.{LayerSeen}
use Rattle.vsw_policy.specs.Layers.{is_layer}
use Rattle.vsw_policy.specs.Staying.{goes}
use Rattle.vsw_rule.specs.declared.rule.Group.{Group}
use Rattle.vsw_rule.specs.declared.rule.Rule.{Rule}
use Rattle.vsw_walk.specs.declared.scratch.Looked.{Looked}
use Rattle.vsw_walk.specs.Visit.{allows}
use Rattle.vsw_spares.specs.Keyed.{may_apply, mights, same_rules}

-- a look that finds a pair asks it alone, and one that finds none asks the rules
abbrev pub by_found : Option Pair → (Pair → Bool) → Bool → Bool
by_found None stays asks = asks
by_found (Some p) stays asks = stays p

-- other rules of a group give the same pick to every packet with the look's key: the group can't apply to it, or those of the old rules that
-- may match it are those of the new ones, in the same order
abbrev pub picks_same : Looked → Group → List Rule → Bool
picks_same q g rs = not (may_apply q.dir q.key g) || same_rules (mights q.key g.rules) (mights q.key rs)

-- so it is of the group, where there is one
abbrev pub same_in : Looked → (Group → List Rule) → Option Group → Bool
same_in q rules None = true
same_in q rules (Some g) = picks_same q g (rules g)

-- of the group of this number
abbrev pub all_same : Looked → ℕ → (Group → List Rule) → List Group → Bool
all_same q n rules gs = same_in q rules (find (is_group n) gs)

-- a command on one layer leaves what a look is told by that layer; one that names several is asked part by part
abbrev pub leaves : Command → LayerSeen → Looked → Bool
leaves (AddLayer s) l q = false
leaves (RemoveLayer n) l q = false
leaves (AddGroup n g dir when) l q = true
leaves (RemoveGroup n g) l q = by_found (pair_of q.dir q.key l.pairs) (λ p. not (goes g (rules_in l.groups g) [] p)) (all_same q g (λ h. []) l.groups)
leaves (PutRules n g rs) l q = by_found (pair_of q.dir q.key l.pairs) (λ p. not (goes g (rules_in l.groups g) rs p)) (all_same q g (λ h. rs) l.groups)
leaves (PutMany ps) l q = false
leaves (AddRule n g r) l q = by_found (pair_of q.dir q.key l.pairs) (λ p. true) (all_same q g (λ h. h.rules ++ r ∷ []) l.groups)
leaves (RemoveRule n g k) l q = by_found (pair_of q.dir q.key l.pairs) (λ p. not (of_rule g k p)) (all_same q g (λ h. removed (is_rule k) h.rules) l.groups)
leaves (SetDefault n dir allow) l q = by_found (pair_of q.dir q.key l.pairs) (λ p. true) (not (same_dir dir q.dir) || same_bool allow (allows l.spec dir))
leaves (Sweep n now) l q = by_found (pair_of q.dir q.key l.pairs) (λ p. not (is_over now l.spec.idle l.spec.linger p)) true

-- the command names the layer
abbrev pub names : ℕ → Command → LayerSeen → Bool
names c (AddLayer s) l = is_layer c s.layer l
names c (RemoveLayer n) l = is_layer c n l
names c (AddGroup n g dir when) l = is_layer c n l
names c (RemoveGroup n g) l = is_layer c n l
names c (PutRules n g rs) l = is_layer c n l
names c (PutMany ps) l = false
names c (AddRule n g r) l = is_layer c n l
names c (RemoveRule n g k) l = is_layer c n l
names c (SetDefault n dir allow) l = is_layer c n l
names c (Sweep n now) l = is_layer c n l

-- the command changes the layer that it names, where it stands, and no other. Where a layer comes or goes the places of others change
abbrev pub is_within : Command → Bool
is_within (AddLayer s) = false
is_within (RemoveLayer n) = false
is_within (AddGroup n g dir when) = true
is_within (RemoveGroup n g) = true
is_within (PutRules n g rs) = true
is_within (PutMany ps) = false
is_within (AddRule n g r) = true
is_within (RemoveRule n g k) = true
is_within (SetDefault n dir allow) = true
is_within (Sweep n now) = true

-- the look is in another layer than the one that the command names, or is left what it is told
abbrev pub leaves_in : ℕ → Command → Option LayerSeen → Looked → Bool
leaves_in c m None q = true
leaves_in c m (Some l) q = not (names c m l) || leaves m l q

-- so it is of all looks of a row
abbrev pub spares_one : List LayerSeen → ℕ → Command → List Looked → Bool
spares_one ls c m qs = is_within m && list_all (λ q. leaves_in c m (slice_get ls q.layer) q) qs

-- other rules for one group of several
abbrev pub as_put : Part → Command
as_put p = PutRules p.layer p.group p.rules

-- a command as commands of one layer each: a put into several groups is one put for each, all asked at the layers before it
abbrev pub singles : Command → List Command
singles (PutMany ps) = map as_put ps
singles m = m ∷ []

-- a command spares a row where each of these does
abbrev pub spares : List LayerSeen → ℕ → Command → List Looked → Bool
spares ls c m qs = list_all (λ n. spares_one ls c n qs) (singles m)
