-- The command of a line, by what it is to do.
use Rattle.std.specs.Prelude.{ℕ, List, [], ◌∷◌, Result, Ok}
use Rattle.serde_json.specs.Data.{Data}
use Rattle.vsw_rule.specs.declared.rule.Rule.{Rule}
use Rattle.vsw_policy.specs.declared.command.Command.{Command}
use Rattle.vsw_policy.specs.declared.command.Command.TheVariants as command
use Rattle.vsw_policy.specs.declared.command.Part.{Part}
use Rattle.vsw_config.specs.declared.fault.Fault.{Fault}
use Rattle.vsw_config.specs.declared.word.Word.{Word}
use Rattle.vsw_config.specs.declared.word.Word.TheVariants as word
use Rattle.vsw_config.specs.Fault.{◌>>=◌}
use Rattle.vsw_config.specs.Object.{object_among, read_in}
use Rattle.vsw_config.specs.Value.{short_of, whole_of}
use Rattle.vsw_config.specs.List.{items_in, items_after}
use Rattle.vsw_config.specs.Condition.{conds_of}
use Rattle.vsw_config.specs.Rule.{rule_of, dir_of}
use Rattle.vsw_config.specs.Layer.{allows_of, spec_in}
use Rattle.vsw_commandfile.specs.declared.verb.Verb.{Verb}
use Rattle.vsw_commandfile.specs.declared.verb.Verb.TheVariants as verb

-- rules, each read as if it stood alone: they may be any number, and have one number
unfoldable pub rules_of : ℕ → Data → Result (List Rule) Fault
rules_of version d = items_in d >>= items_after (λ done. rule_of version []) []

-- a layer without groups
unfoldable pub add_layer : Data → Result Command Fault
add_layer o = do
  layer ← read_in word.Layer o short_of
  spec ← spec_in layer o
  Ok (command.AddLayer spec)

-- the layer of a number goes
unfoldable pub remove_layer : Data → Result Command Fault
remove_layer o = do
  layer ← read_in word.Layer o short_of
  Ok (command.RemoveLayer layer)

-- a group without rules
unfoldable pub add_group : ℕ → Data → Result Command Fault
add_group version o = do
  layer ← read_in word.Layer o short_of
  group ← read_in word.Group o short_of
  dir ← read_in word.Dir o dir_of
  when ← read_in word.WhenAll o (conds_of version)
  Ok (command.AddGroup layer group dir when)

-- the group of a number goes
unfoldable pub remove_group : Data → Result Command Fault
remove_group o = do
  layer ← read_in word.Layer o short_of
  group ← read_in word.Group o short_of
  Ok (command.RemoveGroup layer group)

-- rules in place of those of a group
unfoldable pub put_rules : ℕ → Data → Result Command Fault
put_rules version o = do
  layer ← read_in word.Layer o short_of
  group ← read_in word.Group o short_of
  rules ← read_in word.Rules o (rules_of version)
  Ok (command.PutRules layer group rules)

-- the members of a part, all of which stand
abbrev pub part_words : List Word
part_words = word.Layer ∷ word.Group ∷ word.Rules ∷ []

-- the rules of one of several groups
unfoldable pub part_of : ℕ → Data → Result Part Fault
part_of version d = do
  o ← object_among part_words d
  layer ← read_in word.Layer o short_of
  group ← read_in word.Group o short_of
  rules ← read_in word.Rules o (rules_of version)
  Ok (record { layer = layer; group = group; rules = rules })

-- any number of them; the command itself refuses too many, and two of one group
unfoldable pub parts_of : ℕ → Data → Result (List Part) Fault
parts_of version d = items_in d >>= items_after (λ done. part_of version) []

-- rules in place of those of several groups
unfoldable pub put_many : ℕ → Data → Result Command Fault
put_many version o = do
  parts ← read_in word.Parts o (parts_of version)
  Ok (command.PutMany parts)

-- one more rule for a group
unfoldable pub add_rule : ℕ → Data → Result Command Fault
add_rule version o = do
  layer ← read_in word.Layer o short_of
  group ← read_in word.Group o short_of
  rule ← read_in word.Rule o (rule_of version [])
  Ok (command.AddRule layer group rule)

-- the rule of a number goes
unfoldable pub remove_rule : Data → Result Command Fault
remove_rule o = do
  layer ← read_in word.Layer o short_of
  group ← read_in word.Group o short_of
  number ← read_in word.Rule o short_of
  Ok (command.RemoveRule layer group number)

-- another default for a direction
unfoldable pub set_default : Data → Result Command Fault
set_default o = do
  layer ← read_in word.Layer o short_of
  dir ← read_in word.Dir o dir_of
  allow ← read_in word.Default o allows_of
  Ok (command.SetDefault layer dir allow)

-- the moment is in microseconds
unfoldable pub sweep : Data → Result Command Fault
sweep o = do
  layer ← read_in word.Layer o short_of
  now ← read_in word.Now o whole_of
  Ok (command.Sweep layer now)

-- what a line asks for that is to do this
abbrev pub command_of : ℕ → Verb → Data → Result Command Fault
command_of version verb.AddLayer o = add_layer o
command_of version verb.RemoveLayer o = remove_layer o
command_of version verb.AddGroup o = add_group version o
command_of version verb.RemoveGroup o = remove_group o
command_of version verb.PutRules o = put_rules version o
command_of version verb.PutMany o = put_many version o
command_of version verb.AddRule o = add_rule version o
command_of version verb.RemoveRule o = remove_rule o
command_of version verb.SetDefault o = set_default o
command_of version verb.Sweep o = sweep o
