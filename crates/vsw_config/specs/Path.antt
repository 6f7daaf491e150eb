-- Paths to a place in a file, and the kinds of what may be wrong there.
use Rattle.std.specs.Prelude.{ℕ, List, [], ◌∷◌, ◌++◌, codes, decimal}
use Rattle.vsw_config.specs.declared.word.Word.{Word}
use Rattle.vsw_config.specs.declared.word.Word.TheVariants.{Version, Controllers, Ports, Port, Mac, Rows, Layers, Controller, Layer, Order, DefaultOut, DefaultIn, Pairs, Idle, Linger, Groups, Group, Dir, When, Rules, Rule, Priority, Action, Stateful, Last, Field, Any, Decap, Set, Encap, DstMac, SrcMac, SrcIp, DstIp, SrcPort, DstPort, SrcIp6, DstIp6, Vni, At, Do, WhenAll, Default, Now, Parts}
use Rattle.vsw_config.specs.declared.fault.Step.{Step}
use Rattle.vsw_config.specs.declared.fault.Step.TheVariants.{Member, Place}
use Rattle.vsw_config.specs.declared.fault.Kind.{Kind}
use Rattle.vsw_config.specs.declared.fault.Kind.TheVariants.{Json, Shape, BadRule, Many, Unknown, Twice}

-- a member's name as it stands in a file
unfoldable pub word_text : Word → List ℕ
word_text Version = codes "version"
word_text Controllers = codes "controllers"
word_text Ports = codes "ports"
word_text Port = codes "port"
word_text Mac = codes "mac"
word_text Rows = codes "rows"
word_text Layers = codes "layers"
word_text Controller = codes "controller"
word_text Layer = codes "layer"
word_text Order = codes "order"
word_text DefaultOut = codes "default_out"
word_text DefaultIn = codes "default_in"
word_text Pairs = codes "pairs"
word_text Idle = codes "idle"
word_text Linger = codes "linger"
word_text Groups = codes "groups"
word_text Group = codes "group"
word_text Dir = codes "dir"
word_text When = codes "when"
word_text Rules = codes "rules"
word_text Rule = codes "rule"
word_text Priority = codes "priority"
word_text Action = codes "action"
word_text Stateful = codes "stateful"
word_text Last = codes "last"
word_text Field = codes "field"
word_text Any = codes "any"
word_text Decap = codes "decap"
word_text Set = codes "set"
word_text Encap = codes "encap"
word_text DstMac = codes "dst_mac"
word_text SrcMac = codes "src_mac"
word_text SrcIp = codes "src_ip"
word_text DstIp = codes "dst_ip"
word_text SrcPort = codes "src_port"
word_text DstPort = codes "dst_port"
word_text SrcIp6 = codes "src_ip6"
word_text DstIp6 = codes "dst_ip6"
word_text Vni = codes "vni"
word_text At = codes "at"
word_text Do = codes "do"
word_text WhenAll = codes "when_all"
word_text Default = codes "default"
word_text Now = codes "now"
word_text Parts = codes "parts"

-- a slash, and a name or a place from 0
abbrev pub step_text : Step → List ℕ
step_text (Member w) = 47 ∷ word_text w
step_text (Place n) = 47 ∷ decimal n

-- the innermost step stands first
abbrev pub steps_text : List Step → List ℕ
steps_text [] = []
steps_text (s ∷ ss) = steps_text ss ++ step_text s

-- a slash alone is the whole file
abbrev pub path_text : List Step → List ℕ
path_text [] = 47 ∷ []
path_text (s ∷ ss) = steps_text (s ∷ ss)

-- the name that a complaint has
abbrev pub kind_name : Kind → List ℕ
kind_name Json = codes "Json"
kind_name Shape = codes "Shape"
kind_name BadRule = codes "BadRule"
kind_name Many = codes "Many"
kind_name Unknown = codes "Unknown"
kind_name Twice = codes "Twice"
