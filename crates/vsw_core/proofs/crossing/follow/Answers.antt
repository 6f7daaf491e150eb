use Rattle.std.proofs.Common.{◌≡◌, ◌∙◌, [], ◌∷◌, ◌++◌, ap, subst, sym}
use Rattle.vsw_core.proofs.Entered.{entry_right, entry_there, some_there}
use Rattle.vsw_port.specs.declared.event.Event.{Event}
use Rattle.vsw_port.specs.declared.event.Event.TheVariants as event
use Rattle.vsw_port.specs.Calls.{named}
use Rattle.vsw_port.specs.History.{IsRight}
use Rattle.vsw_rows.specs.Rows.{layers_after}
use Rattle.vsw_rows.specs.GoodRows.{opening_of}
use Rattle.vsw_flows.specs.Flows.{Spares}
use Rattle.vsw_core.proofs.crossing.follow.Goals as goal

pub last_of-requires : goal.last_of-requires
last_of-requires c =
    let e : Event = event.Crossing c.args.crossing.now c.args.outcome.fate in
    some_there c.journal.result.now c.args.rows.now.view.history e (entry_there c.journal.result.now c.args.ledger.now.journal c.args.rows.now.view.history c.args.outcome.entry e c.journal.ensures.journal c.requires.journal c.if-not-outcome.false)

pub advance-requires-clause-entry : goal.advance-requires-clause-entry
advance-requires-clause-entry c =
    let e : Event = event.Crossing c.args.crossing.now c.args.outcome.fate in
    let h = c.args.rows.now.view.history in
    let all : c.journal.result.now ≡ h ++ e ∷ [] = entry_there c.journal.result.now c.args.ledger.now.journal h c.args.outcome.entry e c.journal.ensures.journal c.requires.journal c.if-not-outcome.false in
    (ap (named c.args.lookup.now.1.controllers) (c.last_of.ensures h e all) ∙ c.requires.caller, c.requires.permit)

pub advance-requires-clause-right : goal.advance-requires-clause-right
advance-requires-clause-right c =
    let e : Event = event.Crossing c.args.crossing.now c.args.outcome.fate in
    let h = c.args.rows.now.view.history in
    let all : c.journal.result.now ≡ h ++ e ∷ [] = entry_there c.journal.result.now c.args.ledger.now.journal h c.args.outcome.entry e c.journal.ensures.journal c.requires.journal c.if-not-outcome.false in
    subst (IsRight c.args.lookup.now.1.controllers (layers_after c.args.lookup.now.1 h)) (sym (c.last_of.ensures h e all))
    (entry_right (opening_of c.args.lookup.now.1) c.args.ledger.now.opening c.args.ledger.now.journal h e c.requires.opening (sym c.journal.ensures.journal ∙ all) c.policy.ensures.right)

pub advance-requires-clause-spares : goal.advance-requires-clause-spares
advance-requires-clause-spares c =
    let e : Event = event.Crossing c.args.crossing.now c.args.outcome.fate in
    let h = c.args.rows.now.view.history in
    let all : c.journal.result.now ≡ h ++ e ∷ [] = entry_there c.journal.result.now c.args.ledger.now.journal h c.args.outcome.entry e c.journal.ensures.journal c.requires.journal c.if-not-outcome.false in
    subst (λ d. Spares (layers_after c.args.lookup.now.1 h) d c.args.rows.now) (sym (c.last_of.ensures h e all)) c.requires.spares
