use Rattle.std.proofs.Common.{◌≡◌, ◌∙◌, ◌-◌, ◌∷◌, [], ◌++◌, false, Some, ap, arith, length, map, refl, subst, sym}
use Rattle.vsw_core.proofs.Commands.{Falling, command_spares, entered_one, entry_right, falling_history, grown_one, layers_there, line_of, right_behind}
use Rattle.vsw_core.proofs.Permits.{has_permit, owned_grown}
use Rattle.vsw_port.specs.declared.event.Event.{Event}
use Rattle.vsw_port.specs.declared.event.Event.TheVariants as event
use Rattle.vsw_port.specs.History.{IsRight}
use Rattle.vsw_policy.specs.Layer.{seen}
use Rattle.vsw_policy.specs.Obey.{is_memory}
use Rattle.vsw_policy.specs.Refusals.{reply_of}
use Rattle.vsw_rows.specs.Rows.{layers_after}
use Rattle.vsw_flows.specs.Flows.{Writing}
use Rattle.vsw_core.proofs.commanding.command.Goals as goal

pub command-answer-requires-clause-room : goal.command-answer-requires-clause-room
command-answer-requires-clause-room c = (has_permit c.args.ledger.now c.args.rows.now c.args.permits.now c.args.pass.now.view.number c.args.pass.now.view.permits c.requires.owned c.meet.ensures.held c.requires.permit).1

pub overflow_sub-permits : goal.overflow_sub-permits
overflow_sub-permits c = (has_permit c.args.ledger.now c.args.rows.now c.args.permits.now c.args.pass.now.view.number c.args.pass.now.view.permits c.requires.owned c.meet.ensures.held c.requires.permit).0

pub advance-requires-clause-right : goal.advance-requires-clause-right
advance-requires-clause-right c =
    let p = c.args.lookup.now.1 in
    let w = c.args.rows.now in
    let m = c.take_looks.new.rows in
    let u = c.obey.new.self in
    let falling : Falling w m u c.args.pass.now c.meet.new.pass = record { meets = c.take_looks.ensures.same ∙ c.meet.ensures.writer; pass = c.meet.ensures.pass; falls = c.obey.ensures.falls } in
    let answer = c.command-answer.result in
    let e = event.Command c.args.controller c.args.line c.args.command.now (reply_of answer) in
    let short : is_memory answer ≡ false = sym c.is_short.ensures ∙ c.if-is_short.false in
    let last : c.last_of.result.now ≡ e = c.last_of.ensures c.args.ledger.now.journal e (c.journal.ensures.journal ∙ (c.command-answer.ensures.journal ∙ ap (λ es. c.args.ledger.now.journal ++ es) (entered_one answer e short))) in
    subst (λ (x : Event). IsRight p.controllers (layers_after p u.view.history) x) (sym last)
    (entry_right p c.args.ledger.now w u c.args.permits.now c.args.line c.args.controller c.args.command.now answer c.requires.core.opens c.requires.owned (falling_history w m u c.args.pass.now c.meet.new.pass falling) short
    (c.command-answer.ensures.done (line_of c.args.line c.args.controller c.args.command.now) refl refl refl))

pub advance-requires-clause-spares : goal.advance-requires-clause-spares
advance-requires-clause-spares c =
    let p = c.args.lookup.now.1 in
    let w = c.args.rows.now in
    let m = c.take_looks.new.rows in
    let u = c.obey.new.self in
    let falling : Falling w m u c.args.pass.now c.meet.new.pass = record { meets = c.take_looks.ensures.same ∙ c.meet.ensures.writer; pass = c.meet.ensures.pass; falls = c.obey.ensures.falls } in
    let answer = c.command-answer.result in
    let e = event.Command c.args.controller c.args.line c.args.command.now (reply_of answer) in
    let short : is_memory answer ≡ false = sym c.is_short.ensures ∙ c.if-is_short.false in
    let last : c.last_of.result.now ≡ e = c.last_of.ensures c.args.ledger.now.journal e (c.journal.ensures.journal ∙ (c.command-answer.ensures.journal ∙ ap (λ es. c.args.ledger.now.journal ++ es) (entered_one answer e short))) in
    let ls = map seen c.layers.result.now in
    let opens : m.view.opening ≡ Some p = ap (λ (x : Writing). x.view.opening) falling.meets ∙ c.requires.core.opens in
    let same : ls ≡ layers_after p m.view.history = layers_there p c.args.ledger.now w m c.args.permits.now ls c.requires.core.opens c.requires.owned (ap (λ (x : Writing). x.view.history) falling.meets) (c.layers.ensures.layers ∙ c.policy.ensures.layers) in
    command_spares p ls c.args.controller c.args.line c.args.command.now (reply_of answer) c.last_of.result.now u last (same ∙ sym (ap (λ (x : Writing). layers_after p x.view.history) falling.falls.same)) (c.obey.ensures.spared p opens same)

pub returns-clause-writer : goal.returns-clause-writer
returns-clause-writer c =
    let w = c.args.rows.now in
    let m = c.take_looks.new.rows in
    let u = c.obey.new.self in
    let falling : Falling w m u c.args.pass.now c.meet.new.pass = record { meets = c.take_looks.ensures.same ∙ c.meet.ensures.writer; pass = c.meet.ensures.pass; falls = c.obey.ensures.falls } in
    let answer = c.command-answer.result in
    let e = event.Command c.args.controller c.args.line c.args.command.now (reply_of answer) in
    let short : is_memory answer ≡ false = sym c.is_short.ensures ∙ c.if-is_short.false in
    let last : c.last_of.result.now ≡ e = c.last_of.ensures c.args.ledger.now.journal e (c.journal.ensures.journal ∙ (c.command-answer.ensures.journal ∙ ap (λ es. c.args.ledger.now.journal ++ es) (entered_one answer e short))) in
    grown_one w m u c.advance.new.self c.args.pass.now c.meet.new.pass c.last_of.result.now _ (entered_one answer e short ∙ ap (λ (x : Event). x ∷ []) (sym last)) falling c.advance.ensures.writer

pub returns-clause-right : goal.returns-clause-right
returns-clause-right c =
    let w = c.args.rows.now in
    let answer = c.command-answer.result in
    let e = event.Command c.args.controller c.args.line c.args.command.now (reply_of answer) in
    let short : is_memory answer ≡ false = sym c.is_short.ensures ∙ c.if-is_short.false in
    let grown = ap (λ (x : Writing). x.view.history) (returns-clause-writer c) ∙ ap (λ es. w.view.history ++ es) (entered_one answer e short) in
    right_behind c.args.lookup.now.1 c.args.ledger.now w c.advance.new.self c.args.permits.now e c.requires.core.opens c.requires.owned c.take_looks.ensures.right
    (entry_right c.args.lookup.now.1 c.args.ledger.now w w c.args.permits.now c.args.line c.args.controller c.args.command.now answer c.requires.core.opens c.requires.owned refl short (c.command-answer.ensures.done (line_of c.args.line c.args.controller c.args.command.now) refl refl refl)) grown

pub returns-clause-owned : goal.returns-clause-owned
returns-clause-owned c =
    let answer = c.command-answer.result in
    let e = event.Command c.args.controller c.args.line c.args.command.now (reply_of answer) in
    let short : is_memory answer ≡ false = sym c.is_short.ensures ∙ c.if-is_short.false in
    let one = ap length (entered_one answer e short) in
    let some = overflow_sub-permits c in
    owned_grown c.args.ledger.now c.command-answer.new.self c.args.rows.now c.advance.new.self c.args.pass.now c.args.permits.now (c.args.permits.now - 1) _ c.requires.owned c.meet.ensures.held (returns-clause-writer c) c.command-answer.ensures.opening c.command-answer.ensures.journal c.command-answer.ensures.room
    (omega (arith, one, c.requires.permit)) (omega (arith, one, some))
