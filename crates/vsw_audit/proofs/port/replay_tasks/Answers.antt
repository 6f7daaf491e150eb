use Rattle.std.proofs.Common.{◌∙◌, ◌≤◌, ◌++◌, length, ap, sym, subst, true≢false}
use Rattle.vsw_audit.specs.Private.Rounds.{AreDone, is_settled}
use Rattle.vsw_audit.specs.Private.Runs.{Follows}
use Rattle.vsw_audit.specs.Private.Tasks.{site_at}
use Rattle.vsw_audit.proofs.Porting.{after_wrong, found, gone, left_wrong, lines_wrong, still_many}
use Rattle.vsw_audit.proofs.port.replay_tasks.Goals as goal

pub returns-then-not-answer-clause-finds : goal.returns-then-not-answer-clause-finds
returns-then-not-answer-clause-finds c = λ p jobs port opening many are known.
    let s = site_at c.args.files.now.commands.now c.args.files.now.records.now c.args.port c.args.ledger.now.opening in
    let new = c.replay_lines.new in
    let f = subst (λ v. Follows s (jobs.first ++ jobs.later) c.args.ledger.now.journal v new.ledger.journal new.tasks.items new.cursors.items c.in_ok-answer.answer) c.as_slice-lines.ensures (c.in_ok-answer.ensures.follows (jobs.first ++ jobs.later) are known) in
    lines_wrong s c.args.workers p c.args.ledger.now.journal new.ledger.journal jobs c.args.told.now new.ledger.journal new.tasks.items new.cursors.items c.in_ok-answer.answer opening f c.if-not-answer.true

pub returns-then-not-after-clause-finds : goal.returns-then-not-after-clause-finds
returns-then-not-after-clause-finds c = λ p jobs port opening many are known.
    let s = site_at c.args.files.now.commands.now c.args.files.now.records.now c.args.port c.args.ledger.now.opening in
    let h = c.args.ledger.now.journal in
    let new = c.replay_lines.new in
    let f = subst (λ v. Follows s (jobs.first ++ jobs.later) h v new.ledger.journal new.tasks.items new.cursors.items c.in_ok-answer.answer) c.as_slice-lines.ensures (c.in_ok-answer.ensures.follows (jobs.first ++ jobs.later) are known) in
    let i = gone s c.args.workers c.args.split p h jobs c.args.told.now new.ledger.journal new.tasks.items new.cursors.items c.in_ok-answer.answer opening port c.requires.low c.requires.told many known f c.if-not-answer.false in
    let few = subst (λ ns. length ns ≤ 8) c.requires.same c.requires.few in
    after_wrong s c.args.workers c.args.split p h new.ledger.journal jobs c.args.told.now new.ledger.journal new.tasks.items new.cursors.items i few (λ e. true≢false (sym (c.is_count-after.ensures.back e) ∙ c.if-not-after.true))

pub returns-then-not-done-clause-finds : goal.returns-then-not-done-clause-finds
returns-then-not-done-clause-finds c = λ p jobs port opening many are known.
    let s = site_at c.args.files.now.commands.now c.args.files.now.records.now c.args.port c.args.ledger.now.opening in
    let h = c.args.ledger.now.journal in
    let new = c.replay_lines.new in
    let f = subst (λ v. Follows s (jobs.first ++ jobs.later) h v new.ledger.journal new.tasks.items new.cursors.items c.in_ok-answer.answer) c.as_slice-lines.ensures (c.in_ok-answer.ensures.follows (jobs.first ++ jobs.later) are known) in
    let i = gone s c.args.workers c.args.split p h jobs c.args.told.now new.ledger.journal new.tasks.items new.cursors.items c.in_ok-answer.answer opening port c.requires.low c.requires.told many known f c.if-not-answer.false in
    let few = subst (λ ns. length ns ≤ 8) c.requires.same c.requires.few in
    left_wrong s c.args.workers c.args.split p h new.ledger.journal jobs c.args.told.now new.ledger.journal new.tasks.items new.cursors.items c.are_done-done.result i few (subst (λ v. AreDone v new.cursors.items c.are_done-done.result) c.deref.ensures.value (subst (λ v. AreDone c.deref.result.now v c.are_done-done.result) c.deref-2.ensures.value c.are_done-done.ensures)) c.if-not-done.true

pub is_settled-requires : goal.is_settled-requires
is_settled-requires c =
    let s = site_at c.args.files.now.commands.now c.args.files.now.records.now c.args.port c.args.ledger.now.opening in
    let new = c.replay_lines.new in
    subst (λ v. c.args.split ≤ length v) (sym c.deref-3.ensures.value) (still_many s c.args.tasks.now.items new.tasks.items c.args.ledger.now.journal c.as_slice-lines.result.now new.ledger.journal new.cursors.items c.in_ok-answer.answer c.args.split c.requires.known c.requires.split (c.in_ok-answer.ensures.follows c.requires.known.0 c.requires.known.1 c.requires.known.2) c.if-not-answer.false)

pub returns-clause-finds : goal.returns-clause-finds
returns-clause-finds c = λ p jobs port opening many are known.
    let s = site_at c.args.files.now.commands.now c.args.files.now.records.now c.args.port c.args.ledger.now.opening in
    let h = c.args.ledger.now.journal in
    let new = c.replay_lines.new in
    let f = subst (λ v. Follows s (jobs.first ++ jobs.later) h v new.ledger.journal new.tasks.items new.cursors.items c.in_ok-answer.answer) c.as_slice-lines.ensures (c.in_ok-answer.ensures.follows (jobs.first ++ jobs.later) are known) in
    let i = gone s c.args.workers c.args.split p h jobs c.args.told.now new.ledger.journal new.tasks.items new.cursors.items c.in_ok-answer.answer opening port c.requires.low c.requires.told many known f c.if-not-answer.false in
    let few = subst (λ ns. length ns ≤ 8) c.requires.same c.requires.few in
    found s c.args.workers c.args.split p h jobs c.args.told.now new.ledger.journal new.tasks.items new.cursors.items c.are_done-done.result c.is_settled.result i few (c.is_count-after.ensures.told c.if-not-after.false) (subst (λ v. AreDone v new.cursors.items c.are_done-done.result) c.deref.ensures.value (subst (λ v. AreDone c.deref.result.now v c.are_done-done.result) c.deref-2.ensures.value c.are_done-done.ensures)) c.if-not-done.false (c.is_settled.ensures ∙ ap (is_settled c.args.workers c.args.split c.args.told.now.before c.args.told.now.after) c.deref-3.ensures.value)
