use Rattle.std.proofs.Common.{◌≡◌, map, take}
use Rattle.vsw_promise.proofs.port.macs.Given as goal

abbrev pub invariant-loop-port : goal.invariant-loop-port
invariant-loop-port l = l.macs ≡ map (λ p. p.mac) (take l.port-index l.ports)
