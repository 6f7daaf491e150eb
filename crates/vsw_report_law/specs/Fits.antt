-- Numbers in the ranges of their types, as the readers of a policy and of commands give them.
use Rattle.std.specs.Prelude.{◌<◌, ◌^◌}
use Rattle.vsw_commandfile.specs.declared.line.Line.{Line}
use Rattle.vsw_config.specs.declared.file.LayerFile.{LayerFile}
use Rattle.vsw_config.specs.declared.file.PolicyFile.{PolicyFile}
use Rattle.vsw_config.specs.declared.file.PortFile.{PortFile}
use Rattle.vsw_policy.specs.Sound.{Each}
use Rattle.vsw_policy.specs.declared.command.Command.{Command}
use Rattle.vsw_policy.specs.declared.command.Command.TheVariants.{AddLayer, RemoveLayer, AddGroup, RemoveGroup, PutRules, PutMany, AddRule, RemoveRule, SetDefault, Sweep}
use Rattle.vsw_rule.specs.declared.rule.Group.{Group}
use Rattle.vsw_rule.specs.declared.rule.Rule.{Rule}

-- rules and groups have numbers of 16 bits
abbrev pub FitsRule : Rule → Type 0
FitsRule r = r.number < 2 ^ 16

abbrev pub FitsGroup : Group → Type 0
FitsGroup g = (g.number < 2 ^ 16) × Each FitsRule g.rules

-- what a command gives has such numbers
abbrev pub FitsCommand : Command → Type 0
FitsCommand (AddLayer s) = s.layer < 2 ^ 16
FitsCommand (RemoveLayer n) = Unit {0}
FitsCommand (AddGroup n g dir when) = g < 2 ^ 16
FitsCommand (RemoveGroup n g) = Unit {0}
FitsCommand (PutRules n g rs) = Each FitsRule rs
FitsCommand (PutMany ps) = Each (λ p. Each FitsRule p.rules) ps
FitsCommand (AddRule n g r) = FitsRule r
FitsCommand (RemoveRule n g k) = Unit {0}
FitsCommand (SetDefault n dir allow) = Unit {0}
FitsCommand (Sweep n now) = Unit {0}

-- a line's number, and that of the packet that it names, have 32 bits
abbrev pub FitsLine : Line → Type 0
FitsLine l = (l.number < 2 ^ 32) × (l.at < 2 ^ 32) × FitsCommand l.command

-- layers, controllers and ports have numbers of 16 bits
abbrev pub FitsLayer : LayerFile → Type 0
FitsLayer l = (l.controller < 2 ^ 16) × (l.spec.layer < 2 ^ 16) × Each FitsGroup l.groups

abbrev pub FitsPort : PortFile → Type 0
FitsPort p = (p.port < 2 ^ 16) × Each FitsLayer p.layers

abbrev pub FitsPolicy : PolicyFile → Type 0
FitsPolicy f = Each (λ c. c < 2 ^ 16) f.controllers × Each FitsPort f.ports
