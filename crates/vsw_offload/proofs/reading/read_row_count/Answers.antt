use Rattle.std.proofs.Common.{◌≤◌, refl, arith}
use Rattle.vsw_offload.specs.Bad.{Entries}
use Rattle.vsw_offload.proofs.Exits.{exit, has_none}
use Rattle.vsw_offload.proofs.reading.read_row_count.Goals as goal

pub returns-in_err-whole-clause-bad : goal.returns-in_err-whole-clause-bad
returns-in_err-whole-clause-bad c count port mac entries ps r = exit c.args.bytes.now c.from_residual.result c.in_err-whole.field-0.0 c.from_residual.ensures.1 (c.in_err-whole.ensures.bad (Entries count ps port mac entries) r refl)

pub returns-clause-ok : goal.returns-clause-ok
returns-clause-ok c count port mac entries ps r =
    let few : c.number_at-rows.result ≤ 16384 = omega (arith, c.if-rows-gt-MOST_ROWS.false) in
    has_none c.args.bytes.now c.args.at count ps port mac entries c.number_at-rows.result r c.in_ok-whole.ensures.ok c.number_at-rows.ensures.back few
