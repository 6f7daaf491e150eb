use Rattle.std.proofs.Common.{◌∙◌, refl, sym}
use Rattle.vsw_offload.specs.Bad.{Ports}
use Rattle.vsw_offload.proofs.Exits.{exit}
use Rattle.vsw_offload.proofs.Steps.{reaches_number}
use Rattle.vsw_offload.proofs.reading.read_number.Goals as goal

pub returns-in_err-whole-clause-bad : goal.returns-in_err-whole-clause-bad
returns-in_err-whole-clause-bad c count r = exit c.args.bytes.now c.from_residual.result c.in_err-whole.field-0.0 c.from_residual.ensures.1 (c.in_err-whole.ensures.bad (Ports count c.args.ports.now) r refl)

pub returns-clause-ok : goal.returns-clause-ok
returns-clause-ok c count r = reaches_number c.args.bytes.now c.args.at count c.args.ports.now c.number_at-port.result r c.in_ok-whole.ensures.ok c.number_at-port.ensures.back c.number_at-port.ensures.below (sym c.has_number.ensures ∙ c.if-has_number.false)
