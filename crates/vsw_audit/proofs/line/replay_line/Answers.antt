use Rattle.std.proofs.Common.{◌≡◌, ◌∙◌, ◌+◌, suc, ap, get_or, sym, subst, arith, slice_get, Some}
use Rattle.std.specs.List.{slice_set}
use Rattle.vsw_audit.specs.Private.Lines.{stage}
use Rattle.vsw_audit.specs.Private.Tasks.{NextTask, caller_in, job_in, site_at}
use Rattle.vsw_audit.proofs.Judging.{line_goes, line_stops}
use Rattle.vsw_audit.proofs.Tasks.{task_at}
use Rattle.vsw_audit.proofs.line.replay_line.Goals as goal

pub judge-requires-clause-some : goal.judge-requires-clause-some
judge-requires-clause-some c =
    let s = site_at c.args.files.now.commands.now c.args.files.now.records.now c.args.port c.args.ledger.now.opening in
    let ts = c.args.tasks.now.items in
    let k = c.in-Some.caller in
    let place = c.in-Some-next_task.place in
    let from = c.cursor_at-from.ensures ∙ ap (λ v. get_or v k 0) c.deref.ensures.value in
    let n = subst (λ f. NextTask k f ts (Some place)) from (subst (λ v. NextTask k c.cursor_at-from.result v (Some place)) c.deref-2.ensures.value (subst (NextTask k c.cursor_at-from.result c.deref-2.result.now) c.in-Some-next_task.is c.next_task.ensures.next)) in
    let read : c.task_at-task.result ≡ n.0 = c.task_at-task.ensures n.0 (subst (λ v. slice_get v place ≡ Some n.0) (sym c.deref-3.ensures.value) n.1.stands) in
    let j = task_at s ts c.requires.known.0 place n.0 n.1.stands c.requires.known.1 in
    (j.0, ap (job_in s) read ∙ j.1.job)

pub returns-then-not-answer-clause-steps : goal.returns-then-not-answer-clause-steps
returns-then-not-answer-clause-steps c =
    let s = site_at c.args.files.now.commands.now c.args.files.now.records.now c.args.port c.args.ledger.now.opening in
    let h = c.args.ledger.now.journal in
    let ts = c.args.tasks.now.items in
    let k = c.in-Some.caller in
    let place = c.in-Some-next_task.place in
    let from = c.cursor_at-from.ensures ∙ ap (λ v. get_or v k 0) c.deref.ensures.value in
    let n = subst (λ f. NextTask k f ts (Some place)) from (subst (λ v. NextTask k c.cursor_at-from.result v (Some place)) c.deref-2.ensures.value (subst (NextTask k c.cursor_at-from.result c.deref-2.result.now) c.in-Some-next_task.is c.next_task.ensures.next)) in
    let read : c.task_at-task.result ≡ n.0 = c.task_at-task.ensures n.0 (subst (λ v. slice_get v place ≡ Some n.0) (sym c.deref-3.ensures.value) n.1.stands) in
    line_stops s c.args.line.now (stage h ts c.args.cursors.now.items) (stage c.judge.new.ledger.journal ts c.args.cursors.now.items) k place n.0 c.judge.new.ledger.journal c.in_ok-answer.answer (ap (λ ns. caller_in ns c.args.line.now.by) (sym c.requires.same) ∙ (sym c.caller_of.ensures.value ∙ c.in-Some.is)) n.1 c.if-not-answer.true
    (λ j e. c.in_ok-answer.ensures.judges j (ap (job_in s) read ∙ e))

pub returns-clause-steps : goal.returns-clause-steps
returns-clause-steps c =
    let s = site_at c.args.files.now.commands.now c.args.files.now.records.now c.args.port c.args.ledger.now.opening in
    let h = c.args.ledger.now.journal in
    let ts = c.args.tasks.now.items in
    let k = c.in-Some.caller in
    let place = c.in-Some-next_task.place in
    let from = c.cursor_at-from.ensures ∙ ap (λ v. get_or v k 0) c.deref.ensures.value in
    let n = subst (λ f. NextTask k f ts (Some place)) from (subst (λ v. NextTask k c.cursor_at-from.result v (Some place)) c.deref-2.ensures.value (subst (NextTask k c.cursor_at-from.result c.deref-2.result.now) c.in-Some-next_task.is c.next_task.ensures.next)) in
    let read : c.task_at-task.result ≡ n.0 = c.task_at-task.ensures n.0 (subst (λ v. slice_get v place ≡ Some n.0) (sym c.deref-3.ensures.value) n.1.stands) in
    let j = task_at s ts c.requires.known.0 place n.0 n.1.stands c.requires.known.1 in
    let next : place + 1 ≡ suc place = omega arith in
    line_goes s c.args.line.now (stage h ts c.args.cursors.now.items) (stage c.judge.new.ledger.journal c.mark.new.tasks.items c.set_cursor.new.cursors.items) k place n.0 j.0 c.in_ok-answer.answer (ap (λ ns. caller_in ns c.args.line.now.by) (sym c.requires.same) ∙ (sym c.caller_of.ensures.value ∙ c.in-Some.is)) c.in-Some.ensures.within n.1 c.if-not-answer.false j.1.job
    (c.in_ok-answer.ensures.judges j.0 (ap (job_in s) read ∙ j.1.job)) (c.mark.ensures n.0 n.1.stands) (c.set_cursor.ensures ∙ ap (slice_set c.args.cursors.now.items k) next)
