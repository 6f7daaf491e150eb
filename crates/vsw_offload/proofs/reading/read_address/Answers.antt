use Rattle.std.proofs.Common.{◌∙◌, refl, sym}
use Rattle.vsw_offload.specs.Bad.{Number}
use Rattle.vsw_offload.proofs.Exits.{exit}
use Rattle.vsw_offload.proofs.Steps.{reaches_address}
use Rattle.vsw_offload.proofs.reading.read_address.Goals as goal

pub returns-in_err-whole-clause-bad : goal.returns-in_err-whole-clause-bad
returns-in_err-whole-clause-bad c count port r = exit c.args.bytes.now c.from_residual.result c.in_err-whole.field-0.0 c.from_residual.ensures.1 (c.in_err-whole.ensures.bad (Number count c.args.ports.now port) r refl)

pub returns-clause-ok : goal.returns-clause-ok
returns-clause-ok c count port r = reaches_address c.args.bytes.now c.args.at count c.args.ports.now port c.address_at-mac.result r c.in_ok-whole.ensures.ok c.address_at-mac.ensures.back c.address_at-mac.ensures.below (sym c.has_address.ensures ∙ c.if-has_address.false)
