-- A choice, in the words of its definition.
use Rattle.vsw_rule.specs.Choice.{Chosen}
use Rattle.vsw_rule.specs.declared.choice.Choice.{Choice}

abbrev pub seen : Choice → Chosen
seen c = record { group = c.group; rule = c.rule.now }
