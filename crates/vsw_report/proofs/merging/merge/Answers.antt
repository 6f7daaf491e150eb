use Rattle.std.proofs.Common.{◌++◌, List, ap, ◌∙◌}
use Rattle.vsw_report.specs.Line.{TextLine, are_short, texts}
use Rattle.vsw_report.proofs.InOrder.{merged_within}
use Rattle.vsw_report.proofs.merging.merge.Goals as goal

pub returns-clause-text : goal.returns-clause-text
returns-clause-text c h = c.in_ok-short.ensures.text ∙ ap (λ (ls : List TextLine). c.args.out.now.items ++ texts ls) (merged_within c.args.before c.args.after c.args.workers.now c.args.controllers.now h)

pub returns-clause-short : goal.returns-clause-short
returns-clause-short c h = c.in_ok-short.ensures.short ∙ ap are_short (merged_within c.args.before c.args.after c.args.workers.now c.args.controllers.now h)
