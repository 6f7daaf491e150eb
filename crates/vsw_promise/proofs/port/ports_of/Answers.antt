use Rattle.vsw_promise.proofs.Good.{good-file}
use Rattle.vsw_promise.proofs.port.ports_of.Goals as goal

pub add_ports-requires-clause-few : goal.add_ports-requires-clause-few
add_ports-requires-clause-few c = rw c.as_slice.ensures (good-file c.args.file.now c.requires).few_controllers

pub add_ports-requires-clause-distinct : goal.add_ports-requires-clause-distinct
add_ports-requires-clause-distinct c = rw c.as_slice.ensures (good-file c.args.file.now c.requires).distinct

pub add_ports-requires-clause-layers : goal.add_ports-requires-clause-layers
add_ports-requires-clause-layers c = rw (c.as_slice.ensures, c.as_slice-2.ensures) (good-file c.args.file.now c.requires).layers
