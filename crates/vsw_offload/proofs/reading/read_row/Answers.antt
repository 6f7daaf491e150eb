use Rattle.std.proofs.Common.{◌∙◌, ◌+◌, ap, refl, sym}
use Rattle.vsw_offload.specs.Bad.{Rows}
use Rattle.vsw_offload.specs.Private.Reading.{HasRows, is_next, port_of}
use Rattle.vsw_offload.proofs.Exits.{appended, bad_row, exit, falls, has_more, memory, reaches_row}
use Rattle.vsw_offload.proofs.reading.read_row.Goals as goal

pub returns-in_err-whole-clause-bad : goal.returns-in_err-whole-clause-bad
returns-in_err-whole-clause-bad c count ps port mac entries told h more =
    exit c.args.bytes.now c.from_residual.result c.in_err-whole.field-0.0 c.from_residual.ensures.1 (c.in_err-whole.ensures.bad (Rows count ps (port_of port mac entries c.args.rows.now) told) (reaches_row c.args.bytes.now c.args.at count ps (port_of port mac entries c.args.rows.now) told h more) refl)

pub returns-then-not-is_row-clause-bad : goal.returns-then-not-is_row-clause-bad
returns-then-not-is_row-clause-bad c count ps port mac entries told h more =
    bad_row c.args.bytes.now c.args.at count ps (port_of port mac entries c.args.rows.now) told c.row_at.new.out h more c.in_ok-whole.ensures.ok c.row_at.ensures.words c.if-not-is_row.ensures.back

pub returns-then-not-is_next-clause-bad : goal.returns-then-not-is_next-clause-bad
returns-then-not-is_next-clause-bad c count ps port mac entries told h more =
    falls c.args.bytes.now c.args.at count ps (port_of port mac entries c.args.rows.now) told c.row_at.new.out h more c.in_ok-whole.ensures.ok c.row_at.ensures.words (c.if-not-is_row.ensures.told refl c.row_at.ensures.below) (ap (λ rs. is_next rs c.row_at.new.out) (sym c.as_slice.ensures) ∙ (sym c.is_next.ensures ∙ c.if-not-is_next.true))

pub returns-clause-ok : goal.returns-clause-ok
returns-clause-ok c count ps port mac entries told h more =
    appended (λ rows. HasRows c.args.bytes.now (c.args.at + 584) count ps (port_of port mac entries rows) told) c.push_row.result c.push_row.new.rows c.args.rows.now c.row_at.new.out c.push_row.ensures.ok
    (has_more c.args.bytes.now c.args.at count ps port mac entries c.args.rows.now told c.row_at.new.out h more c.in_ok-whole.ensures.ok c.row_at.ensures.back (c.if-not-is_row.ensures.told refl c.row_at.ensures.below) (ap (λ rs. is_next rs c.row_at.new.out) (sym c.as_slice.ensures) ∙ (sym c.is_next.ensures ∙ c.if-not-is_next.false)))

pub returns-clause-bad : goal.returns-clause-bad
returns-clause-bad c count ps port mac entries told h more = memory c.args.bytes.now c.push_row.result c.push_row.ensures.err
