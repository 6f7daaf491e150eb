use Rattle.std.proofs.Common.{◌+◌, ◌∙◌, ap, arith, sym}
use Rattle.vsw_core.proofs.Permits.{owned_as}
use Rattle.vsw_flows.specs.Flows.{Writing}
use Rattle.vsw_core.proofs.granting.grant.Goals as goal

pub returns-clause-owned : goal.returns-clause-owned
returns-clause-owned c =
    let w = c.args.rows.now in
    let v = c.meet.new.self in
    let p = c.args.pass.now.view in
    let total = c.in_ok-total.ensures.total in
    owned_as c.args.ledger.now c.take_room.new.ledger w v p.number (p.permits + c.args.more) c.args.permits.now c.in_ok-total.total c.requires.owned (ap (λ (u : Writing). u.view.opening) c.meet.ensures.writer) c.take_room.ensures.opening
    (c.take_room.ensures.journal ∙ (c.requires.owned.journal ∙ sym (ap (λ (u : Writing). u.view.history) c.meet.ensures.writer))) (ap (λ (u : Writing). u.view.kept) c.meet.ensures.writer) (omega (arith, total.0, c.meet.ensures.held)) total.1
