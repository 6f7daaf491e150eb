use Rattle.std.proofs.Common.{ap, nat_lt, ◌∙◌, ℕ}
use Rattle.vsw_report.specs.Order.{has_lines}
use Rattle.vsw_report.proofs.Runs.{lines_left}
use Rattle.vsw_report.proofs.lines.Caller.has_lines.Goals as goal

pub returns : goal.returns
returns c =
    let s = c.self.inside in
    ap (λ (n : ℕ). nat_lt s.passed n) (c.len.ensures ∙ s.marks.ok.0) ∙ (lines_left s.from s.passed s.marks.items s.text ∙ ap has_lines c.self.view_is)
