use Rattle.vsw_live.proofs.Under.{granted}
use Rattle.vsw_live.proofs.locked.Locked.grant.Goals as goal

pub returns-clause-meets : goal.returns-clause-meets
returns-clause-meets g c =
    granted c.grant.result g.J.Naming.ports c.self.inside.place c.self.inside.core c.args.self.now c.args.lookup.now c.args.more _ c.grant.new.self.writer c.args.pass.now c.grant.new.pass c.self.view_is c.self.invariant c.requires.port
    c.grant.ensures.writer c.grant.ensures.pass c.grant.ensures.tells c.grant.ensures.right c.grant.ensures.seen
