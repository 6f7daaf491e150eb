-- What stands near of a look, and when a command leaves what it is told by that alone.
use Rattle.std.specs.Prelude.{ℕ, ◌||◌, List, Bool, true, false, not, is_some, slice_index_or}
use Rattle.vsw_base.specs.declared.packet.Dir.{Dir}
use Rattle.vsw_base.specs.Direction.{same_dir}
use Rattle.vsw_policy.specs.declared.command.Command.{Command}
use Rattle.vsw_policy.specs.declared.command.Command.TheVariants.{AddLayer, RemoveLayer, AddGroup, RemoveGroup, PutRules, PutMany, AddRule, RemoveRule, SetDefault, Sweep}
use Rattle.vsw_walk.specs.declared.scratch.Looked.{Looked}
use Rattle.vsw_flows.specs.declared.gists.Gist.{Gist}

-- which layers a command names is told by place, and those beyond aren't known not to be
abbrev pub is_named_at : List Bool → ℕ → Bool
is_named_at named place = slice_index_or named place true

abbrev pub is_unnamed : List Bool → ℕ → Bool
is_unnamed named place = not (is_named_at named place)

-- of a look: the place of its layer, its direction, and whether it found a pair
abbrev pub gist_of : Looked → Gist
gist_of q = record { layer = q.layer; dir = q.dir; found = is_some q.found }

-- the command sets a default that no packet of the look is told: that of the other direction, or the look found a pair
abbrev pub is_default_passed : Command → Gist → Bool
is_default_passed (AddLayer s) g = false
is_default_passed (RemoveLayer n) g = false
is_default_passed (AddGroup n k dir when) g = false
is_default_passed (RemoveGroup n k) g = false
is_default_passed (PutRules n k rs) g = false
is_default_passed (PutMany ps) g = false
is_default_passed (AddRule n k r) g = false
is_default_passed (RemoveRule n k j) g = false
is_default_passed (SetDefault n dir allow) g = not (same_dir dir g.dir) || g.found
is_default_passed (Sweep n now) g = false

-- the command leaves what the look is told: it names another layer, or sets such a default
abbrev pub passes : List Bool → Command → Gist → Bool
passes named m g = is_unnamed named g.layer || is_default_passed m g
