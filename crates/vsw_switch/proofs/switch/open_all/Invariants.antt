use Rattle.std.proofs.Common.{◌≡◌, map}
use Rattle.vsw_policy.specs.Sound.{Each}
use Rattle.vsw_promise.specs.Ports.{port_seen}
use Rattle.vsw_switch.specs.Stay.{CanOpen, port_at_first}
use Rattle.vsw_switch.proofs.switch.open_all.Given as goal

abbrev pub invariant-loop-port : goal.invariant-loop-port
invariant-loop-port l = record {
  ports : l.ports.items ≡ map (port_at_first l.fn.workers) (map port_seen l.yielded);
  can : Each CanOpen (map port_seen l.port-iterator.rest.items);
}
