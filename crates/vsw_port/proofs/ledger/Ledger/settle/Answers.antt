use Rattle.std.proofs.Common.{subst, sym}
use Rattle.vsw_port.specs.Core.{IsHeld, opening_of}
use Rattle.vsw_port.proofs.Held.{crossed_done, crossed_held, held_crossed}
use Rattle.vsw_port.proofs.ledger.Ledger.settle.Goals as goal

pub invariant_of-self : goal.invariant_of-self
invariant_of-self c =
    subst (λ h. IsHeld (opening_of c.self.inside.began.value) h c.settle-outcome.new.policy) (sym c.enter_crossing.ensures.items)
    (held_crossed (opening_of c.self.inside.began.value) c.self.inside.journal.items c.self.inside.policy c.settle-outcome.new.policy c.args.crossing.now c.settle-outcome.result.fate c.settle-outcome.result.entry c.self.invariant c.settle-outcome.ensures.controllers c.settle-outcome.ensures.exact)

pub returns-clause-exact : goal.returns-clause-exact
returns-clause-exact c =
    rw (← c.self.view_is) (crossed_held (opening_of c.self.inside.began.value) c.self.inside.journal.items c.enter_crossing.new.journal.items c.self.inside.policy c.settle-outcome.new.policy c.args.crossing.now c.settle-outcome.result.fate c.settle-outcome.result.entry c.self.invariant (invariant_of-self c) c.settle-outcome.ensures.exact)

pub returns-clause-done : goal.returns-clause-done
returns-clause-done c =
    λ p bytes.
    rw (← c.self.view_is) (crossed_done (opening_of c.self.inside.began.value) c.self.inside.journal.items c.self.inside.policy c.args.crossing.now p c.settle-outcome.result.fate c.settle-outcome.new.policy.layers c.settle-outcome.result.entry bytes c.self.invariant c.settle-outcome.ensures.exact c.settle-outcome.ensures.memory)
