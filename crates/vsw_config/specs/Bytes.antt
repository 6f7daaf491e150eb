-- The value that bytes are the text of.
use Rattle.std.specs.Prelude.{ℕ, List, Bool, true, false, Option, Some, None, Result, Ok}
use Rattle.std.specs.Str.{is_utf8}
use Rattle.serde_json.specs.Data.{Data}
use Rattle.serde_json.specs.Read.{read}
use Rattle.vsw_config.specs.declared.fault.Fault.{Fault}
use Rattle.vsw_config.specs.declared.fault.Kind.TheVariants.{Json}
use Rattle.vsw_config.specs.Fault.{bad}

-- what was read, if the bytes are UTF-8
abbrev pub if_text : Bool → Option Data → Result Data Fault
if_text true (Some d) = Ok d
if_text true None = bad Json
if_text false o = bad Json

-- the value that the bytes are the text of
unfoldable pub json_of : List ℕ → Result Data Fault
json_of bytes = if_text (is_utf8 bytes) (read bytes)
