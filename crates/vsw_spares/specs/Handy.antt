-- Handier tests, each of which says that the test of `leaves` holds.
use Rattle.std.specs.Prelude.{◌≡◌, ℕ, ◌||◌, ◌++◌, List, [], ◌∷◌, Bool, true, false, not, Option, Some, None, is_some, option_map, if◌then◌else◌}
use Rattle.std.specs.List.{find, list_all, slice_get}
use Rattle.vsw_base.specs.declared.flow.LayerKey.{LayerKey}
use Rattle.vsw_base.specs.declared.packet.Dir.{Dir}
use Rattle.vsw_base.specs.Direction.{same_dir}
use Rattle.vsw_layerflow.specs.declared.pair.Pair.{Pair}
use Rattle.vsw_layerflow.specs.Pairs.{number_of}
use Rattle.vsw_policy.specs.declared.command.Command.{Command}
use Rattle.vsw_policy.specs.declared.command.Command.TheVariants.{AddGroup, SetDefault}
use Rattle.vsw_policy.specs.Groups.{is_group, is_rule, removed}
use Rattle.vsw_policy.specs.Layer.{LayerSeen}
use Rattle.vsw_rule.specs.declared.rule.Cond.{Cond}
use Rattle.vsw_rule.specs.declared.rule.Group.{Group}
use Rattle.vsw_rule.specs.declared.rule.Rule.{Rule}
use Rattle.vsw_walk.specs.declared.scratch.Looked.{Looked}
use Rattle.vsw_spares.specs.Keyed.{may_apply, may_match, mights, same_rules}
use Rattle.vsw_spares.specs.Spared.{all_same, by_found, is_within, names, spares, spares_one}

-- none of these rules may match the key
abbrev pub none_may : LayerKey → List Rule → Bool
none_may k rs = list_all (λ r. not (may_match k r)) rs

-- rules that are others between a front and a rest that stay: only those between are asked
abbrev pub BetweenTells : Type 0
BetweenTells = (k : LayerKey) (front old new rest : List Rule) → none_may k old ≡ true → none_may k new ≡ true → same_rules (mights k (front ++ (old ++ rest))) (mights k (front ++ (new ++ rest))) ≡ true

-- of a further rule only that one is asked
abbrev pub AddedTells : Type 0
AddedTells = (k : LayerKey) (rs : List Rule) (r : Rule) → may_match k r ≡ false → same_rules (mights k rs) (mights k (rs ++ r ∷ [])) ≡ true

-- of one that goes only those of its number are
abbrev pub RemovedTells : Type 0
RemovedTells = (k : LayerKey) (n : ℕ) (rs : List Rule) → list_all (λ r. not (is_rule n r) || not (may_match k r)) rs ≡ true → same_rules (mights k rs) (mights k (removed (is_rule n) rs)) ≡ true

-- a group that can't apply to the look's packets, as one of the other direction, may get any rules
abbrev pub OtherGroupTells : Type 0
OtherGroupTells = (q : Looked) (n : ℕ) (rules : Group → List Rule) (gs : List Group) (g : Group) → find (is_group n) gs ≡ Some g → may_apply q.dir q.key g ≡ false → all_same q n rules gs ≡ true

-- a further group spares all rows
abbrev pub GroupSparesAll : Type 0
GroupSparesAll = (ls : List LayerSeen) (c n g : ℕ) (dir : Dir) (when : List Cond) (qs : List Looked) → spares ls c (AddGroup n g dir when) qs ≡ true

-- the command names the layer, where there is one
abbrev pub names_in : ℕ → Command → Option LayerSeen → Bool
names_in c m None = false
names_in c m (Some l) = names c m l

-- a command on a layer that no look reached spares the row
abbrev pub UnreachedSpares : Type 0
UnreachedSpares = (ls : List LayerSeen) (c : ℕ) (m : Command) (qs : List Looked) → is_within m ≡ true → list_all (λ q. not (names_in c m (slice_get ls q.layer))) qs ≡ true → spares_one ls c m qs ≡ true

-- the default of a direction spares all rows of the other
abbrev pub OtherDefaultSpares : Type 0
OtherDefaultSpares = (ls : List LayerSeen) (c n : ℕ) (dir : Dir) (allow : Bool) (qs : List Looked) → list_all (λ q. not (same_dir dir q.dir)) qs ≡ true → spares ls c (SetDefault n dir allow) qs ≡ true

-- a look that is right and found nothing needs no look-up
abbrev pub FoundTells : Type 0
FoundTells = (found : Option ℕ) (o : Option Pair) (stays : Pair → Bool) (asks : Bool) → found ≡ option_map number_of o → by_found o stays asks ≡ (if is_some found then by_found o stays true else asks)
