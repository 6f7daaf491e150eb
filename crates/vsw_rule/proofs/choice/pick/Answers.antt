use Rattle.vsw_rule.proofs.Picks.{pick_is}
use Rattle.vsw_rule.proofs.choice.pick.Goals as goal

pub returns-clause-picks : goal.returns-clause-picks
returns-clause-picks c = rw c.least.ensures (pick_is c.args.rules.now c.args.packet.now)
