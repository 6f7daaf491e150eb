use Rattle.std.proofs.Common.{◌<◌}
use Rattle.vsw_host.specs.Memory.{outside}
use Rattle.vsw_config_tests.proofs.source_tests.read_four.Given as goal

abbrev pub invariant-loop-turn : goal.invariant-loop-turn
invariant-loop-turn l = l.source.file < (outside l.host).opens
