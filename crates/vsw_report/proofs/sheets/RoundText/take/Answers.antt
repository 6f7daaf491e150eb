use Rattle.vsw_report.proofs.Whole.{taken_whole}
use Rattle.vsw_report.proofs.sheets.RoundText.take.Goals as goal

pub returns-clause-text : goal.returns-clause-text
returns-clause-text c =
    let s = c.args.self.now in
    taken_whole c.add_page.result s.sheets c.add_text.new.self c.add_page.new.self s.end.items c.add_text.new.text.items c.args.page.now c.in_ok-add_text.ensures.added c.in_ok-add_text.ensures.taken c.add_page.ensures.added
