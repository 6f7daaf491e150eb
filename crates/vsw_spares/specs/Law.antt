-- What holds of rows when layers change, and when a command is obeyed.
use Rattle.std.specs.Prelude.{◌≡◌, ℕ, List, true, length, Ok}
use Rattle.vsw_base.specs.Shape.{is_stack}
use Rattle.vsw_policy.specs.declared.command.Command.{Command}
use Rattle.vsw_policy.specs.Layer.{LayerSeen}
use Rattle.vsw_policy.specs.Obey.{obey}
use Rattle.vsw_policy.specs.Sound.{Each}
use Rattle.vsw_rows.specs.Good.{IsGoodLeaning, LeaningRow}
use Rattle.vsw_spares.specs.Spared.{spares}
use Rattle.vsw_spares.specs.Told.{ToldSame}

-- layers that tell each look of a row the same leave it good, and leaning on what it leant on
abbrev pub SameTold : Type 0
SameTold = (ls now : List LayerSeen) (k : LeaningRow) → is_stack k.row.id.stack ≡ true → length now ≡ length ls → Each (ToldSame ls now) k.looks → IsGoodLeaning ls k → IsGoodLeaning now k

-- a command that is obeyed leaves a row good, and leaning on what it leant on, where it spares its looks
abbrev pub CommandSpares : Type 0
CommandSpares = (cs : List ℕ) (ls now : List LayerSeen) (c : ℕ) (m : Command) (k : LeaningRow) → obey cs ls c m ≡ Ok now → is_stack k.row.id.stack ≡ true → spares ls c m k.looks ≡ true → IsGoodLeaning ls k → IsGoodLeaning now k
