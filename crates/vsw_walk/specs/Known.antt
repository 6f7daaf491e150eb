-- What becomes of a packet that a pair holds, and of the pair.
use Rattle.std.specs.Prelude.{ℕ, Bool, true, false, nat_lt, Option, Some, None, if◌then◌else◌}
use Rattle.vsw_base.specs.Direction.{same_dir}
use Rattle.vsw_base.specs.declared.flow.Set.{Set}
use Rattle.vsw_base.specs.declared.flow.Track.{Track}
use Rattle.vsw_base.specs.declared.flow.Track.TheVariants.{Plain, Opening, Open, Half, Closed}
use Rattle.vsw_base.specs.declared.packet.Dir.{Dir}
use Rattle.vsw_policy.specs.declared.layer.LayerSpec.{LayerSpec}
use Rattle.vsw_layerflow.specs.declared.pair.Pair.{Pair}
use Rattle.vsw_layerflow.specs.Life.{due}
use Rattle.vsw_rule.specs.declared.rule.Action.TheVariants.{Edit}
use Rattle.vsw_walk.specs.declared.outcome.Visit.{Visit}
use Rattle.vsw_walk.specs.declared.outcome.Visit.TheVariants.{Goes}
use Rattle.vsw_walk.specs.declared.outcome.Want.{Want}
use Rattle.vsw_walk.specs.declared.outcome.Want.TheVariants.{Touch}

-- whether two states are one
abbrev pub same_state : Track → Track → Bool
same_state Plain Plain = true
same_state Opening Opening = true
same_state Open Open = true
same_state (Half d) (Half e) = same_dir d e
same_state Closed Closed = true
same_state s t = false

-- the forward set in the pair's own direction, the reverse set in the other
abbrev pub set_towards : Dir → Pair → Set
set_towards d p = if same_dir d p.dir then p.forward_set else p.reverse_set

-- a packet that moves a pair to a state renews the last use where it is later than the moment at which the pair in its new state is
-- due. Else a touch is wanted only where the state is another one
abbrev pub touch : LayerSpec → Track → ℕ → Pair → Option Want
touch s t moment p = if nat_lt (due p.last_use t s.idle s.linger) moment then Some (Touch p.number t moment)
    else if same_state p.state t then None
    else Some (Touch p.number t p.last_use)

-- the packet goes on with what the pair writes into packets of its direction
abbrev pub goes_with : LayerSpec → Dir → ℕ → Track → Pair → Visit
goes_with s d moment t p = Goes (Edit false (set_towards d p) None) None (touch s t moment p)
