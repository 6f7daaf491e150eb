use Rattle.std.proofs.Common.{◌≡◌, [], ℕ, List, ap, ◌∙◌, map}
use Rattle.vsw_port.specs.Order.{ascending}
use Rattle.vsw_report.specs.Line.{TextLine}
use Rattle.vsw_switch.proofs.Opened.{no_lines, no_workers}
use Rattle.vsw_switch.proofs.live.Live.open.Goals as goal

pub returns : goal.returns
returns c =
    let listed : c.in_ok-listed.listed.items ≡ ascending c.args.port.policy.controllers = c.in_ok-listed.ensures ∙ ap ascending c.controllers.ensures in
    let workers = c.in_ok-workers.ensures ∙ no_workers c.args.workers in
    let controllers = c.in_ok-controllers.ensures ∙ (no_lines c.len.result c.in_ok-listed.listed.items (c.len.ensures ∙ c.in_ok-listed.listed.ok.0) ∙ ap (λ (ns : List ℕ). map {B = List TextLine} (λ n. []) ns) listed) in
    λ i. record { number = c.args.port.number; mac = c.args.port.mac; opening = c.in_ok-sole.ensures.opening i; journal = c.in_ok-sole.ensures.journal i; before = 0; workers = workers i; controllers = controllers i; tally = c.none.ensures i; last = c.none-2.ensures i }
