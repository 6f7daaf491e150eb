use Rattle.std.proofs.Common.{ap, ◌∙◌}
use Rattle.vsw_report.specs.Order.{emptied}
use Rattle.vsw_report.specs.Steps.{past_reads}
use Rattle.vsw_report.proofs.Fronts.{emptied_map}
use Rattle.vsw_report.proofs.merging.move_all.Goals as goal

pub returns-clause-workers : goal.returns-clause-workers
returns-clause-workers c = ap emptied c.in_ok-reads.ensures.workers ∙ (emptied_map (past_reads c.args.after) _ ∙ c.in_ok-counts.ensures.workers)

pub returns-clause-controllers : goal.returns-clause-controllers
returns-clause-controllers c = ap emptied c.in_ok-reads.ensures.controllers ∙ (emptied_map (past_reads c.args.after) _ ∙ c.in_ok-counts.ensures.controllers)
