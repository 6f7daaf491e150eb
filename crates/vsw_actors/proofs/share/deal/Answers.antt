use Rattle.std.proofs.Common.{◌≡◌, ◌+◌, ◌++◌, [], length, subst, ◌∙◌}
use Rattle.vsw_many.specs.Dealing.{placed_lines}
use Rattle.vsw_actors.specs.Deal.{AreWork, dealt, shared}
use Rattle.vsw_actors.proofs.Sharing.{none_dealt, none_work}
use Rattle.vsw_actors.proofs.share.deal.Goals as goal

pub returns-clause-shares : goal.returns-clause-shares
returns-clause-shares c =
    let cs = c.args.controllers.now in
    let none : shared c.in_ok-shares.shares.items ≡ dealt cs [] = c.in_ok-shares.ensures ∙ none_dealt cs 0 (16 + length cs) in
    c.in_ok-deal_packets.ensures.dealt cs (placed_lines c.args.numbers.now c.args.schedule.now c.args.first) (c.in_ok-deal_lines.ensures.dealt [] none)

pub returns-clause-fit : goal.returns-clause-fit
returns-clause-fit c =
    let cs = c.args.controllers.now in
    let none = none_work (length c.args.numbers.now) cs (16 + length cs) c.in_ok-shares.shares.items c.in_ok-shares.ensures in
    c.in_ok-deal_packets.ensures.work cs (subst (λ n. AreWork n cs c.deal_lines.new.shares.items) c.requires.ports.0 (c.in_ok-deal_lines.ensures.work none))
