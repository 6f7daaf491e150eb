use Rattle.std.proofs.Common.{◌≡◌, ◌∙◌, ◌+◌, suc, length, ap, sym, subst, arith, refl}
use Rattle.vsw_policy.specs.Sound.{Each}
use Rattle.vsw_audit.specs.Private.Lines.{Steps, stage}
use Rattle.vsw_audit.specs.Private.Tasks.{CanBeAsked, HasJobs, site_at}
use Rattle.vsw_audit.proofs.Going.{begun}
use Rattle.vsw_audit.proofs.Porting.{comes_more, follows_not, known_more, long_more}
use Rattle.vsw_audit.proofs.port.replay_lines.Goals as goal

pub loop-place-init : goal.loop-place-init
loop-place-init c = record {
  opening = refl;
  same = c.requires.same;
  can_ask = c.requires.can_ask;
  known = c.requires.known;
  long = ap length c.requires.cursors;
  comes = λ js are known. begun (site_at c.args.files.now.commands.now c.args.files.now.records.now c.args.port c.args.ledger.now.opening) js c.args.ledger.now.journal c.args.tasks.now.items c.args.cursors.now.items c.requires.cursors are;
}

pub loop-place-preserved : goal.loop-place-preserved
loop-place-preserved c =
    let f = c.args.files.now in
    let i = c.loop-place.invariant in
    let new = c.replay_line.new in
    let steps = c.in_ok-answer.ensures.steps in
    let a = c.if-not-answer.false in
    let opening = c.replay_line.ensures.opening in
    let next : c.loop-place.place + 1 ≡ suc c.loop-place.place = omega arith in
    let first = subst (λ o. Steps (site_at f.commands.now f.records.now c.args.port o) c.line_at-line.result.now (stage c.loop-place.ledger.journal c.loop-place.tasks.items c.loop-place.cursors.items) (stage new.ledger.journal new.tasks.items new.cursors.items) c.in_ok-answer.answer) i.opening steps in
    let s = site_at f.commands.now f.records.now c.args.port c.args.ledger.now.opening in
    let has = known_more (site_at f.commands.now f.records.now c.args.port c.loop-place.ledger.opening) c.line_at-line.result.now c.loop-place.ledger.journal new.ledger.journal c.loop-place.tasks.items new.tasks.items c.loop-place.cursors.items new.cursors.items c.in_ok-answer.answer i.known steps a in
    record {
      opening = opening ∙ i.opening;
      same = i.same ∙ ap (λ o. o.controllers) (sym opening);
      can_ask = subst (λ o. Each (CanBeAsked o.controllers) f.commands.now) (sym opening) i.can_ask;
      known = subst (λ o. HasJobs (site_at f.commands.now f.records.now c.args.port o) new.tasks.items) (sym opening) has;
      long = long_more s c.line_at-line.result.now c.loop-place.ledger.journal new.ledger.journal c.loop-place.tasks.items new.tasks.items c.loop-place.cursors.items new.cursors.items c.in_ok-answer.answer i.long first a;
      comes = comes_more s c.args.tasks.now.items c.args.ledger.now.journal c.args.lines.now c.loop-place.place (c.loop-place.place + 1) c.line_at-line.result.now c.loop-place.ledger.journal new.ledger.journal c.loop-place.tasks.items new.tasks.items c.loop-place.cursors.items new.cursors.items c.in_ok-answer.answer next c.line_at-line.ensures a first i.comes;
    }

pub returns-then-not-answer-clause-follows : goal.returns-then-not-answer-clause-follows
returns-then-not-answer-clause-follows c =
    let f = c.args.files.now in
    let i = c.loop-place.invariant in
    let new = c.replay_line.new in
    let first = subst (λ o. Steps (site_at f.commands.now f.records.now c.args.port o) c.line_at-line.result.now (stage c.loop-place.ledger.journal c.loop-place.tasks.items c.loop-place.cursors.items) (stage new.ledger.journal new.tasks.items new.cursors.items) c.in_ok-answer.answer) i.opening c.in_ok-answer.ensures.steps in
    follows_not (site_at f.commands.now f.records.now c.args.port c.args.ledger.now.opening) c.args.tasks.now.items c.args.ledger.now.journal c.args.lines.now c.loop-place.place c.line_at-line.result.now c.loop-place.ledger.journal new.ledger.journal new.ledger.journal c.loop-place.tasks.items new.tasks.items new.tasks.items c.loop-place.cursors.items new.cursors.items new.cursors.items c.in_ok-answer.answer
    c.line_at-line.ensures c.if-not-answer.true first i.comes
