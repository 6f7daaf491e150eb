use Rattle.std.proofs.Common.{◌≡◌, ◌∙◌, ap}
use Rattle.rtrb.specs.Ring.{sent}
use Rattle.vsw_rings.specs.Items.{has_end, items_in}
use Rattle.vsw_rings.proofs.Handed.{item_more, item_open}
use Rattle.vsw_rings.proofs.feed.Feed.push.Goals as goal

pub returns-clause-fed : goal.returns-clause-fed
returns-clause-fed g c = ap items_in c.push_reserved.ensures.sent.0 ∙ item_more (sent c.args.self.now.ring) c.args.item c.requires.open

pub returns-clause-open : goal.returns-clause-open
returns-clause-open g c = ap has_end c.push_reserved.ensures.sent.0 ∙ item_open (sent c.args.self.now.ring) c.args.item c.requires.open
