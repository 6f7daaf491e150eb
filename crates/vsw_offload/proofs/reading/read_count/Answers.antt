use Rattle.std.proofs.Common.{refl}
use Rattle.vsw_offload.specs.Bad.{Head}
use Rattle.vsw_offload.proofs.Exits.{exit}
use Rattle.vsw_offload.proofs.reading.read_count.Goals as goal

pub returns-in_err-whole-clause-bad : goal.returns-in_err-whole-clause-bad
returns-in_err-whole-clause-bad c =
    exit c.args.bytes.now c.from_residual.result c.in_err-whole.field-0.0 c.from_residual.ensures.1 (c.in_err-whole.ensures.bad Head (record { begins = record { within = c.requires.within; is = c.requires.head }; open_is = tt }) refl)
