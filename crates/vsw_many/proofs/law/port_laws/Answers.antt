use Rattle.vsw_many.proofs.Orders.{order_is_free}
use Rattle.vsw_many.proofs.Phases.{port_is_round}
use Rattle.vsw_many.proofs.law.port_laws.Goals as goal

pub returns : goal.returns
returns c = record { round = port_is_round; order = order_is_free }
