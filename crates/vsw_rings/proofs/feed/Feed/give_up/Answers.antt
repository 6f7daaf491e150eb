use Rattle.std.proofs.Common.{◌≡◌, ◌∙◌, ap}
use Rattle.rtrb.specs.Ring.{sent}
use Rattle.vsw_rings.specs.Items.{has_end, items_in}
use Rattle.vsw_rings.proofs.Handed.{end_ends, end_keeps}
use Rattle.vsw_rings.proofs.feed.Feed.give_up.Goals as goal

pub returns-then-slots-gt0-clause-fed : goal.returns-then-slots-gt0-clause-fed
returns-then-slots-gt0-clause-fed g c = ap items_in c.push_reserved.ensures.sent.0 ∙ (end_keeps (sent c.slots.new.self) ∙ ap items_in c.slots.ensures.looked.1)

pub returns-then-slots-gt0-clause-ended : goal.returns-then-slots-gt0-clause-ended
returns-then-slots-gt0-clause-ended g c = λ some. ap has_end c.push_reserved.ensures.sent.0 ∙ end_ends (sent c.slots.new.self)
