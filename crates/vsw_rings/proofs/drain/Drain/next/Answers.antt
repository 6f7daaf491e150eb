use Rattle.std.proofs.Common.{◌≡◌, ◌++◌, ◌∷◌, [], false, sym, ◌∙◌, ap, subst}
use Rattle.rtrb.specs.Ring.{received}
use Rattle.vsw_rings.specs.Items.{Follows, has_end, items_in}
use Rattle.vsw_rings.specs.Rings.{Takes}
use Rattle.vsw_rings.proofs.Handed.{takes}
use Rattle.vsw_rings.proofs.drain.Drain.next.Goals as goal

pub returns-in-Ok-clause-takes : goal.returns-in-Ok-clause-takes
returns-in-Ok-clause-takes g c = takes g.P.Rule.fits (received c.loop.self.ring) c.in-Ok.next c.args.self.now (record { ring = c.pop.new.self }) c.loop.invariant.0 c.in-Ok.ensures.ok.0 c.requires.open c.in-Ok.ensures.ok.2
