use Rattle.std.proofs.Common.{[], ◌∷◌}
use Rattle.vsw_live_tests.proofs.live.row_tests.tried.Given as goal

abbrev pub ghosts-try_port : goal.ghosts-try_port
ghosts-try_port g a = record { ports = a.opened.port ∷ [] }
