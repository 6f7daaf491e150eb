-- What holds of walks.
use Rattle.std.specs.Prelude.{◌≡◌, List, []}
use Rattle.vsw_base.specs.declared.fate.Verdict.TheVariants.{Pass}
use Rattle.vsw_base.specs.declared.flow.Crossing.{Crossing}
use Rattle.vsw_base.specs.Shape.{encaps}
use Rattle.vsw_policy.specs.Layer.{LayerSeen}
use Rattle.vsw_walk.specs.Walk.{ended, walk_of}

-- where there are no layers a packet passes as it came, and wants nothing
abbrev pub PassesFreely : Type 0
PassesFreely = (x : Crossing) → walk_of [] x ≡ ended Pass x.id.stack (encaps x.id.stack)

-- packets of one identity, control and moment have one walk, whoever brings them, whatever their numbers and sizes are
abbrev pub Unseen : Type 0
Unseen = (ls : List LayerSeen) (x y : Crossing) → x.id ≡ y.id → x.control ≡ y.control → x.moment ≡ y.moment → walk_of ls x ≡ walk_of ls y
