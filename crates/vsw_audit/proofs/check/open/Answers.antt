use Rattle.std.proofs.Common.{◌∙◌, ap, map}
use Rattle.vsw_audit.proofs.Checking.{made_first, opened, opened_empty, seen_macs}
use Rattle.vsw_audit.proofs.check.open.Goals as goal

pub seats_of-requires : goal.seats_of-requires
seats_of-requires c = record { fresh = made_first c.args.policy.now c.in_ok-made.made c.in_ok-made.ensures }

pub returns-clause-seats : goal.returns-clause-seats
returns-clause-seats c = opened c.args.policy.now c.in_ok-made.made c.in_ok-seats_of.field-0.items c.in_ok-made.ensures c.in_ok-seats_of.ensures

pub returns-clause-first : goal.returns-clause-first
returns-clause-first c = opened_empty c.args.policy.now c.in_ok-made.made c.in_ok-seats_of.field-0.items c.in_ok-made.ensures c.in_ok-seats_of.ensures

pub returns-clause-macs : goal.returns-clause-macs
returns-clause-macs c = seen_macs c.args.policy.now c.in_ok-made.made c.in_ok-macs.macs c.in_ok-made.ensures (c.in_ok-macs.ensures ∙ ap (map (λ p. p.mac)) c.as_slice.ensures)
