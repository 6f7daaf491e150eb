use Rattle.std.proofs.Common.{◌≡◌, Some, sym, ◌∙◌, subst, refl, IfOk}
use Rattle.vsw_commandfile.specs.declared.line.Line.{Line}
use Rattle.vsw_port.specs.Calls.{Ask, Asked}
use Rattle.vsw_audit.specs.Private.Lines.{Judges, JudgesLine}
use Rattle.vsw_audit.proofs.Judging.{if_ok, judged}
use Rattle.vsw_audit.proofs.line.judge_command.Goals as goal

same : {x y : Line} → Some x ≡ Some y → x ≡ y
same e = cc e

pub returns-clause-judges : goal.returns-clause-judges
returns-clause-judges c = λ l e.
    let h = c.args.ledger.now.journal in
    let o = c.args.ledger.now.opening in
    let t = c.args.line.now in
    let command : c.line-command.result.now ≡ l = same (sym c.line-command.ensures ∙ e) in
    let told = c.is_of.ensures.told c.if-not-is_of.false in
    subst (λ (k : Line). IfOk c.ask.result (λ answer. JudgesLine o h (Ask k) t c.ask.new.ledger.journal answer)) command
    (if_ok c.ask.result (λ answer. Judges o h (Asked c.line-command.result.now c.in-Reply.reply) t.entry c.ask.new.ledger.journal answer) (λ answer. JudgesLine o h (Ask c.line-command.result.now) t c.ask.new.ledger.journal answer)
    (λ answer w. judged o h c.ask.new.ledger.journal t (Ask c.line-command.result.now) (Asked c.line-command.result.now c.in-Reply.reply) answer refl (sym told.0) (sym told.1) (sym c.in-Reply.is) c.requires.count w) c.ask.ensures.judges)
