use Rattle.std.proofs.Common.{◌<◌, ◌+◌, ◌∙◌, ap, arith, length}
use Rattle.vsw_offload.proofs.Exits.{exit}
use Rattle.vsw_offload.proofs.reading.read_rows.Goals as goal

pub returns-in_err-read_row-clause-bad : goal.returns-in_err-read_row-clause-bad
returns-in_err-read_row-clause-bad c ports ps port mac entries h =
    let more : length c.loop-row.rows < c.args.count = omega (arith, c.loop-row.invariant.many, c.loop-row-test.true) in
    exit c.args.bytes.now c.from_residual.result c.in_err-read_row.field-0.0 c.from_residual.ensures.1 (c.in_err-read_row.ensures.bad ports ps port mac entries c.args.count (c.loop-row.invariant.has ports ps port mac entries h) more)

pub loop-row-preserved : goal.loop-row-preserved
loop-row-preserved c =
    let more : length c.loop-row.rows < c.args.count = omega (arith, c.loop-row.invariant.many, c.loop-row-test.true) in
    record {
      within = c.in_ok-read_row.ensures.whole;
      many = c.in_ok-read_row.ensures.more ∙ ap (λ n. n + 1) c.loop-row.invariant.many;
      has = λ ports ps port mac entries h. c.in_ok-read_row.ensures.ok ports ps port mac entries c.args.count (c.loop-row.invariant.has ports ps port mac entries h) more;
    }
