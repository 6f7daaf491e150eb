use Rattle.std.proofs.Common.{◌≡◌, ◌∙◌, ap}
use Rattle.rtrb.specs.Ring.{sent}
use Rattle.vsw_rings.specs.Items.{has_end, items_in}
use Rattle.vsw_rings.proofs.Handed.{end_ends, end_keeps}
use Rattle.vsw_rings.proofs.feed.Feed.end.Goals as goal

pub returns-clause-fed : goal.returns-clause-fed
returns-clause-fed g c = ap items_in c.push_reserved.ensures.sent.0 ∙ end_keeps (sent c.args.self.now.ring)

pub returns-clause-ended : goal.returns-clause-ended
returns-clause-ended g c = ap has_end c.push_reserved.ensures.sent.0 ∙ end_ends (sent c.args.self.now.ring)
