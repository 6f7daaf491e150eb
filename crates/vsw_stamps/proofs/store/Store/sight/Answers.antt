use Rattle.std.proofs.Common.{arith, true, false}
use Rattle.vsw_stamps.proofs.Views.{found, lives, none_there}
use Rattle.vsw_stamps.proofs.store.Store.sight.Goals as goal

pub returns-then-actor-len-clause-live : goal.returns-then-actor-len-clause-live
returns-then-actor-len-clause-live g c = rw (← c.self.view_is) (none_there c.self.inside.history.items c.self.inside.sights.items c.args.actor (omega (arith, c.if-actor-len.true, c.len.ensures)))

pub returns-then-sight-clause-live : goal.returns-then-sight-clause-live
returns-then-sight-clause-live g c = rw (← c.self.view_is) (lives c.self.inside.history.items c.self.inside.sights.items c.args.actor c.index-sight.result.now true (omega (arith, c.if-actor-len.false, c.len.ensures)) c.index-sight.ensures c.if-sight.true)

pub returns-else-sight-clause-live : goal.returns-else-sight-clause-live
returns-else-sight-clause-live g c = rw (← c.self.view_is) (lives c.self.inside.history.items c.self.inside.sights.items c.args.actor c.index-sight.result.now false (omega (arith, c.if-actor-len.false, c.len.ensures)) c.index-sight.ensures c.if-sight.false)

pub returns-then-sight-clause-front : goal.returns-then-sight-clause-front
returns-then-sight-clause-front g c = rw (← c.self.view_is) (found c.self.inside.history.items c.self.inside.sights.items c.args.actor c.index-sight.result.now c.self.invariant.0 (omega (arith, c.if-actor-len.false, c.len.ensures)) c.index-sight.ensures c.if-sight.true)
