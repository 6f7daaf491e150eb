use Rattle.std.proofs.Common.{[], ◌∷◌}
use Rattle.vsw_live_tests.proofs.live.trial.try_orders.Given as goal

abbrev pub ghosts-try_opened : goal.ghosts-try_opened
ghosts-try_opened g a = record { ports = a.opened.port ∷ [] }
