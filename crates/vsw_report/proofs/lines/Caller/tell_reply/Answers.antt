use Rattle.std.proofs.Common.{ap, length, refl}
use Rattle.vsw_report.proofs.Runs.{ends_stay, line_told}
use Rattle.vsw_report.proofs.lines.Caller.tell_reply.Goals as goal

pub invariant_of-self-2 : goal.invariant_of-self-2
invariant_of-self-2 c =
    let s = c.self.inside in
    let a = c.add_mark in
    ends_stay a.result s.passed s.from (length c.as_slice-len.result.now) s.marks.items a.new.marks.items _ s.text _ c.reply_line.new.self a.new.text c.self.invariant.0 c.self.invariant.1 c.in_ok-reply_line.ensures.ok (ap length c.as_slice-len.ensures) refl a.ensures.marked a.ensures.whole a.ensures.kept a.ensures.cut

pub returns-clause-ok : goal.returns-clause-ok
returns-clause-ok c =
    let s = c.self.inside in
    let a = c.add_mark in
    line_told a.result s.passed s.from s.marks.items a.new.marks.items _ s.text _ c.reply_line.new.self a.new.text c.args.self.now _ c.self.invariant.0 c.self.invariant.1 c.in_ok-reply_line.ensures.ok refl c.self.view_is c.is_short_reply-short.ensures a.ensures.marked a.ensures.whole
