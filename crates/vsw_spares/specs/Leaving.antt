-- The tests of commands as they are computed, each of which says that the test of `leaves` holds.
use Rattle.std.specs.Prelude.{ℕ, ◌||◌, Bool, true, not, Option, Some, None}
use Rattle.std.specs.List.{list_all}
use Rattle.vsw_policy.specs.Groups.{is_rule}
use Rattle.vsw_rule.specs.declared.rule.Group.{Group}
use Rattle.vsw_rule.specs.declared.rule.Rule.{Rule}
use Rattle.vsw_walk.specs.declared.scratch.Looked.{Looked}
use Rattle.vsw_spares.specs.Handy.{none_may}
use Rattle.vsw_spares.specs.Keyed.{may_apply, may_match}

-- a further rule: the group can't apply, or the rule can't match
abbrev pub adds : Looked → Rule → Group → Bool
adds q r g = not (may_apply q.dir q.key g) || not (may_match q.key r)

-- a rule goes
abbrev pub one_goes : Looked → ℕ → Rule → Bool
one_goes q n r = not (is_rule n r) || not (may_match q.key r)

abbrev pub drops : Looked → ℕ → Group → Bool
drops q n g = not (may_apply q.dir q.key g) || list_all (one_goes q n) g.rules

-- all go
abbrev pub clears : Looked → Group → Bool
clears q g = not (may_apply q.dir q.key g) || none_may q.key g.rules

-- the test of the group of a number, where there is one
abbrev pub in_group : (Group → Bool) → Option Group → Bool
in_group test None = true
in_group test (Some g) = test g
