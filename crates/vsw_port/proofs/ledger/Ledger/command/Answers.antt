use Rattle.std.proofs.Common.{subst, sym}
use Rattle.vsw_port.specs.Core.{IsHeld, opening_of}
use Rattle.vsw_port.proofs.Held.{held_asked}
use Rattle.vsw_port.proofs.ledger.Ledger.command.Goals as goal

pub invariant_of-self : goal.invariant_of-self
invariant_of-self c =
    subst (λ h. IsHeld (opening_of c.self.inside.began.value) h c.command-answer.new.self) (sym c.enter_command.ensures.items)
    (rw c.in-Ok.ensures (held_asked (opening_of c.self.inside.began.value) c.self.inside.journal.items c.self.inside.policy c.command-answer.new.self c.args.line c.args.controller c.args.command.now c.command-answer.result c.self.invariant c.command-answer.ensures.controllers c.command-answer.ensures.unchanged c.command-answer.ensures.exact))
