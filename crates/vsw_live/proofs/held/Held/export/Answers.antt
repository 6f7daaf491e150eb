use Rattle.std.proofs.Common.{rules}
use Rattle.vsw_live.proofs.held.Held.export.Goals as goal

pub export-requires : goal.export-requires
export-requires g c = record { port = (c.self.inside.passes, search rules) }
