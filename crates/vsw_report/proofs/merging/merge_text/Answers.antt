use Rattle.std.proofs.Common.{◌≡◌, ◌++◌, IfOk, List, OnOk, subst, sym, ◌∙◌}
use Rattle.vsw_report.specs.Line.{TextLine, are_short, texts}
use Rattle.vsw_report.specs.Whole.{whole_text}
use Rattle.vsw_report.proofs.OneSpeaks.{on_ok, one_worker, silent_emptied}
use Rattle.vsw_report.proofs.merging.merge_text.Goals as goal

pub returns-in-len1-clause-text : goal.returns-in-len1-clause-text
returns-in-len1-clause-text c h =
    let none = sym c.have_lines.ensures ∙ c.if-not-have_lines.true in
    subst (λ (ls : List TextLine). OnOk c.move_all.result (whole_text c.move_all.new.out ≡ whole_text c.args.out.now ++ texts ls))
    (one_worker c.args.before c.args.after c.args.workers.now c.args.controllers.now c.index-workers-0.result c.requires.counts c.in-len1.len_at_least c.in-len1.len_below c.index-workers-0.is none h)
    c.move_all.ensures.text

pub returns-in-len1-clause-short : goal.returns-in-len1-clause-short
returns-in-len1-clause-short c h =
    let none = sym c.have_lines.ensures ∙ c.if-not-have_lines.true in
    subst (λ (ls : List TextLine). IfOk c.move_all.result (λ short. short ≡ are_short ls))
    (one_worker c.args.before c.args.after c.args.workers.now c.args.controllers.now c.index-workers-0.result c.requires.counts c.in-len1.len_at_least c.in-len1.len_below c.index-workers-0.is none h)
    c.move_all.ensures.short

pub returns-in-len1-clause-controllers : goal.returns-in-len1-clause-controllers
returns-in-len1-clause-controllers c =
    on_ok c.move_all.result _ (silent_emptied c.args.controllers.now (sym c.have_lines.ensures ∙ c.if-not-have_lines.true))
