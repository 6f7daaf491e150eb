use Rattle.std.proofs.Common.{rules}
use Rattle.vsw_live.proofs.held.Held.reconcile.Goals as goal

pub reconcile-requires-clause-port : goal.reconcile-requires-clause-port
reconcile-requires-clause-port g c = (c.self.inside.passes, search rules)
