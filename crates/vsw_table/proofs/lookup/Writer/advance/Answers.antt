use Rattle.std.proofs.Common.{ap, sym, ◌∙◌, ◌≡◌}
use Rattle.vsw_table.proofs.Puts.{writer_again, pass_again}
use Rattle.vsw_table.proofs.lookup.Writer.advance.Goals as goal

pub returns-clause-writer : goal.returns-clause-writer
returns-clause-writer g c =
    let t = c.self.inside.seat.me.0 in
    let p = c.pass.inside.seat.me.0 in
    let v = writer_again t p c.args.entry.now c.self.invariant.0 in
    rw (← c.self.view_is, ← c.pass.view_is, c.part.ensures.writer.0, c.part.ensures.writer.1, c.add.ensures.seat.0, c.add.ensures.seat.1, c.grant-word.ensures.seat.0, c.grant-word.ensures.seat.1, c.lend.ensures.0, c.lend.ensures.1)
    (ap (λ u. record { table = c.self.inside.seat.table_id; view = u }) v)

pub returns-clause-pass : goal.returns-clause-pass
returns-clause-pass g c =
    let t = c.self.inside.seat.me.0 in
    let p = c.pass.inside.seat.me.0 in
    let o : t.opening ≡ p.opening = ap (λ h. h.view.opening) c.self.view_is ∙ (c.requires.opens.0 ∙ sym c.requires.opens.1) ∙ sym (ap (λ h. h.view.opening) c.pass.view_is) in
    let same : c.self.inside.seat.table_id ≡ c.pass.inside.seat.table_id = ap (λ h. h.table) c.self.view_is ∙ (c.requires.table.0 ∙ sym c.requires.table.1) ∙ sym (ap (λ h. h.table) c.pass.view_is) in
    let v = pass_again t p c.args.entry.now c.pass.invariant.0 o in
    rw (← c.pass.view_is, c.part.ensures.writer.1, c.part.ensures.pass.0, c.part.ensures.pass.1, c.add.ensures.seat.0, c.add.ensures.seat.1, c.grant-word.ensures.seat.0, c.grant-word.ensures.seat.1, c.lend.ensures.0, c.lend.ensures.1)
    (λ i. record { table = same i; view = v i })
