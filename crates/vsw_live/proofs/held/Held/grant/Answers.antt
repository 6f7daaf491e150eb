use Rattle.std.proofs.Common.{rules}
use Rattle.vsw_live.proofs.held.Held.grant.Goals as goal

pub grant-requires-clause-port : goal.grant-requires-clause-port
grant-requires-clause-port g c = (c.self.inside.passes, search rules)
