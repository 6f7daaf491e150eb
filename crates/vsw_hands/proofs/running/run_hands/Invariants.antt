use Rattle.vsw_hands.proofs.running.run_hands.Given as goal

abbrev pub ghosts-run_named : goal.ghosts-run_named
ghosts-run_named g a = record { shelves = a.roll }
