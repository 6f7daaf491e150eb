use Rattle.std.proofs.Common.{◌≡◌, map, take}
use Rattle.vsw_dock.proofs.opening.numbers_of.Given as goal

abbrev pub invariant-loop-port : goal.invariant-loop-port
invariant-loop-port l = l.numbers.items ≡ map (λ p. p.number) (take l.port-index l.ports)
