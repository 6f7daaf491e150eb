use Rattle.std.proofs.Common.{arith, ap, ◌∙◌}
use Rattle.vsw_table.proofs.Puts.{put_me, put_kept}
use Rattle.vsw_table.proofs.lookup.Writer.put.Goals as goal

pub invariant_of-self : goal.invariant_of-self
invariant_of-self g c =
    let v = c.self.inside.seat.me.0 in
    let me = put_me v c.args.row c.args.words.now c.shake_row.new.writer.me c.put_row.new.writer.me c.renew_row-self-inside.new.writer.me c.shake_row.ensures.1 c.put_row.ensures.1 c.renew_row-self-inside.ensures.seat.1 in
    let kept = put_kept v c.self.inside.rows c.args.row c.args.words.now c.self.invariant.0 c.self.invariant.6 c.self.invariant.2 (omega (arith, c.told-words)) in
    let table = c.renew_row-self-inside.ensures.seat.0 ∙ (c.put_row.ensures.0 ∙ c.shake_row.ensures.0) in
    (rw me kept.0, ap (λ m. m.1) me, rw me kept.1, ap (λ t. t.words) table ∙ c.self.invariant.3, c.self.invariant.4, c.renew_row-self-inside.ensures.given, rw me kept.2)
