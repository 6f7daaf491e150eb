use Rattle.std.proofs.Common.{◌-◌, ◌++◌, ◌||◌, Bool, List, ap, ◌∙◌}
use Rattle.std.specs.List.{concat}
use Rattle.vsw_report.specs.Line.{TextLine, are_short, texts}
use Rattle.vsw_report.specs.Steps.{merged}
use Rattle.vsw_report.specs.Whole.{whole_text}
use Rattle.vsw_report.proofs.InOrder.{merged_within}
use Rattle.vsw_report.proofs.LastReads.{rest_short, rest_text}
use Rattle.vsw_report.proofs.merging.merge_rest.Goals as goal

pub returns-clause-text : goal.returns-clause-text
returns-clause-text c h =
    let left = c.move_counts.new in
    let lines : List TextLine = merged c.args.workers.now c.args.controllers.now c.args.before (c.args.after - c.args.before) in
    rest_text c.args.after (concat c.args.out.now.sheets) c.args.out.now.end.items left.out.items _ _ left.workers left.controllers lines (c.in_ok-counts.ensures.left h) c.in_ok-counts.ensures.text c.in_ok-one.ensures.text c.in_ok-more.ensures.text
    ∙ ap (λ (ls : List TextLine). whole_text c.args.out.now ++ texts ls) (merged_within c.args.before c.args.after c.args.workers.now c.args.controllers.now h)

pub returns-clause-short : goal.returns-clause-short
returns-clause-short c h =
    let left = c.move_counts.new in
    let lines : List TextLine = merged c.args.workers.now c.args.controllers.now c.args.before (c.args.after - c.args.before) in
    c.either-2.ensures ∙ ap (λ (b : Bool). c.in_ok-counts.counts || b) c.either.ensures
    ∙ rest_short c.args.after c.in_ok-counts.counts c.in_ok-one.one c.in_ok-more.more left.workers left.controllers lines (c.in_ok-counts.ensures.left h) c.in_ok-counts.ensures.short c.in_ok-one.ensures.short c.in_ok-more.ensures.short
    ∙ ap are_short (merged_within c.args.before c.args.after c.args.workers.now c.args.controllers.now h)
