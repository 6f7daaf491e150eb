use Rattle.std.proofs.Common.{◌++◌, List, ap, sym, ◌∙◌, drop, length, ℕ}
use Rattle.vsw_report.specs.Line.{are_short, texts}
use Rattle.vsw_report.specs.Marks.{any_short}
use Rattle.vsw_report.specs.Whole.{whole_text}
use Rattle.vsw_report.specs.declared.marks.Mark.{Mark}
use Rattle.vsw_report.proofs.Runs.{all_short, all_texts, ends_up}
use Rattle.vsw_report.proofs.lines.Caller.move_all.Goals as goal

pub move_text-requires : goal.move_text-requires
move_text-requires c = let s = c.self.inside in ends_up s.from (length s.text) (drop s.passed s.marks.items) c.self.invariant.1

pub returns-clause-text : goal.returns-clause-text
returns-clause-text c =
    let s = c.self.inside in
    c.in_ok-move_text.ensures.text ∙ ap (λ (t : List ℕ). whole_text c.args.out.now ++ t) (sym (all_texts s.from (drop s.passed s.marks.items) s.text c.self.invariant.1) ∙ ap texts c.self.view_is)

pub returns-clause-short : goal.returns-clause-short
returns-clause-short c =
    let s = c.self.inside in
    c.is_any_short-short.ensures ∙ (ap (λ (ms : List Mark). any_short (drop s.passed ms)) c.deref.ensures.value ∙ (sym (all_short s.from (drop s.passed s.marks.items) s.text) ∙ ap are_short c.self.view_is))
