use Rattle.vsw_promise.proofs.Placing.{stand-in-order}
use Rattle.vsw_promise.proofs.order_law.order_laws.Goals as goal

pub returns : goal.returns
returns c = stand-in-order
