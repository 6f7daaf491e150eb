use Rattle.std.proofs.Common.{ap, sym, ◌∙◌, ◌≡◌}
use Rattle.vsw_table.proofs.Puts.{pass_met}
use Rattle.vsw_table.proofs.lookup.Writer.meet.Goals as goal

pub returns-clause-pass : goal.returns-clause-pass
returns-clause-pass g c =
    let t = c.self.inside.seat.me.0 in
    let p = c.pass.inside.seat.me.0 in
    let o : t.opening ≡ p.opening = ap (λ h. h.view.opening) c.self.view_is ∙ (c.requires.opens.0 ∙ sym c.requires.opens.1) ∙ sym (ap (λ h. h.view.opening) c.pass.view_is) in
    let same : c.self.inside.seat.table_id ≡ c.pass.inside.seat.table_id = ap (λ h. h.table) c.self.view_is ∙ (c.requires.table.0 ∙ sym c.requires.table.1) ∙ sym (ap (λ h. h.table) c.pass.view_is) in
    let v = pass_met t p c.args.more c.pass.invariant.0 o in
    rw (← c.self.view_is, ← c.pass.view_is, c.part.ensures.pass.0, c.part.ensures.pass.1, c.grant.ensures.seat.0, c.grant.ensures.seat.1, c.lend.ensures.0, c.lend.ensures.1) (λ i. record { table = same i; view = v i })
