-- What a layer decides about a packet, and what it makes of it then.
use Rattle.std.specs.Prelude.{ℕ, List, Option, None, option_copied, option_map}
use Rattle.vsw_base.specs.declared.header.Header.{Header}
use Rattle.vsw_base.specs.declared.packet.Control.{Control}
use Rattle.vsw_base.specs.declared.packet.Dir.{Dir}
use Rattle.vsw_policy.specs.Layer.{LayerSeen}
use Rattle.vsw_layerflow.specs.Pairs.{number_of}
use Rattle.vsw_rule.specs.declared.rule.Action.TheVariants.{Allow}
use Rattle.vsw_rule.specs.declared.rule.Rule.{Rule}
use Rattle.vsw_walk.specs.declared.outcome.Decision.{Decision}
use Rattle.vsw_walk.specs.declared.outcome.Decision.TheVariants.{Drops, Allows, ByRule, ByPair}
use Rattle.vsw_walk.specs.declared.outcome.Visit.{Visit}
use Rattle.vsw_walk.specs.declared.outcome.Visit.TheVariants.{Stops, Goes}
use Rattle.vsw_walk.specs.Known.{goes_with}
use Rattle.vsw_walk.specs.Visit.{wanted}

-- a rule lets the packet go on
abbrev pub goes_by : LayerSeen → Dir → Control → ℕ → List Header → ℕ → Rule → Option ℕ → Visit
goes_by l d c moment hs group r leaves = Goes r.action leaves (wanted l.next_pair d c moment hs group r)

-- what the layer makes of the packet about which it decides so
abbrev pub made_by : LayerSeen → Dir → Control → ℕ → List Header → Decision → Visit
made_by l d c moment hs (Drops verdict) = Stops verdict
made_by l d c moment hs (Allows leaves) = Goes Allow (option_map number_of (option_copied leaves)) None
made_by l d c moment hs (ByRule group rule leaves) = goes_by l d c moment hs group rule.now (option_map number_of (option_copied leaves))
made_by l d c moment hs (ByPair pair state) = goes_with l.spec d moment state pair.now

-- where a rule lets the packet go on, this holds of it
abbrev pub IfRule : Decision → (Rule → Type 0) → Type 0
IfRule (Drops verdict) P = Unit {0}
IfRule (Allows leaves) P = Unit {0}
IfRule (ByRule group rule leaves) P = P rule.now
IfRule (ByPair pair state) P = Unit {0}
