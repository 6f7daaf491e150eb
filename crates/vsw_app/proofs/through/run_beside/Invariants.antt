use Rattle.vsw_harbour.specs.Ports.{ports_of}
use Rattle.vsw_app.proofs.through.run_beside.Given as goal

abbrev pub ghosts-run_named : goal.ghosts-run_named
ghosts-run_named g a = record { ports = ports_of a.opened.ports }
