use Rattle.std.proofs.Common.{rules}
use Rattle.vsw_live.proofs.held.Held.journal.Goals as goal

pub journal-requires : goal.journal-requires
journal-requires g c = record { port = (c.self.inside.passes, search rules) }
