use Rattle.std.proofs.Common.{arith, ap, ◌≡◌, length, sym, ◌∙◌}
use Rattle.vsw_table.specs.Rules.{row_at}
use Rattle.vsw_table.proofs.Words.{wide_at}
use Rattle.vsw_table.proofs.lookup.Writer.word.Goals as goal

pub returns-clause-wide : goal.returns-clause-wide
returns-clause-wide g c =
    let t = c.self.inside.seat.me.0 in
    let same : c.self.inside.seat.table_id.words ≡ c.args.lookup.now.0.words = ap (λ h. h.table.words) c.self.view_is ∙ ap (λ i. i.words) c.requires.table.0 in
    let words : c.lookup.inside.table.shared.table_id.words ≡ c.args.lookup.now.0.words = ap (λ l. l.0.words) c.lookup.view_is in
    let rows : c.lookup.inside.rows ≡ c.args.lookup.now.2 = ap (λ l. l.2) c.lookup.view_is in
    ap (λ h. length (row_at h.view.rows c.args.row)) (sym c.self.view_is) ∙ wide_at t.rows c.args.row c.self.invariant.2.2 (omega (arith, c.requires.table.1, c.self.invariant, same, words, rows, c.lookup.invariant))
