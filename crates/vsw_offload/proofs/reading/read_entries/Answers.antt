use Rattle.std.proofs.Common.{refl}
use Rattle.vsw_offload.specs.Bad.{Address}
use Rattle.vsw_offload.proofs.Exits.{exit}
use Rattle.vsw_offload.proofs.Steps.{reaches_entries}
use Rattle.vsw_offload.proofs.reading.read_entries.Goals as goal

pub returns-in_err-whole-clause-bad : goal.returns-in_err-whole-clause-bad
returns-in_err-whole-clause-bad c count port mac ps r = exit c.args.bytes.now c.from_residual.result c.in_err-whole.field-0.0 c.from_residual.ensures.1 (c.in_err-whole.ensures.bad (Address count ps port mac) r refl)

pub returns-clause-ok : goal.returns-clause-ok
returns-clause-ok c count port mac ps r = reaches_entries c.args.bytes.now c.args.at count ps port mac c.number_at.result r c.in_ok-whole.ensures.ok c.number_at.ensures.back c.number_at.ensures.below
