-- What a run does with packets, as far as its setting tells.
use Rattle.std.specs.Prelude.{ℕ, Bool, true, false, List}
use Rattle.vsw_commandfile.specs.declared.line.Line.{Line}
use Rattle.vsw_config.specs.declared.file.PolicyFile.{PolicyFile}
use Rattle.vsw_promise.specs.Jobs.{Setting}
use Rattle.vsw_app.specs.declared.way.Way.{Way}
use Rattle.vsw_app.specs.declared.way.Way.TheVariants.{Forward, Deliver, Stream}

-- packets are handed on between the ports
abbrev pub is_local : Way → Bool
is_local Forward = false
is_local Deliver = true
is_local Stream = false

-- a run of so many workers, with this policy and these commands, that hands packets on between the ports or doesn't
abbrev pub setting_with : ℕ → PolicyFile → List Line → Bool → Setting
setting_with workers policy commands local = record { workers = workers; policy = policy; commands = commands; local = local }
