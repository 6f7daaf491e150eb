use Rattle.std.proofs.Common.{◌<◌, length, sym, ap, subst, arith}
use Rattle.vsw_port.specs.declared.event.Event.TheVariants as event
use Rattle.vsw_port.specs.Core.{entered, opening_of}
use Rattle.vsw_sole.specs.Callers.{IsCaller, IsSole}
use Rattle.vsw_sole.specs.Sole.{SoleSeen}
use Rattle.vsw_sole.proofs.Callers.{caller_at, sole_called}
use Rattle.vsw_sole.proofs.Crossed.{done_crossed, done_short}
use Rattle.vsw_sole.proofs.port.SolePort.cross.Goals as goal

pub carry-outcome-requires : goal.carry-outcome-requires
carry-outcome-requires c =
    let s = c.self.inside in
    let within : c.args.crossing.now.caller < length s.callers.items = omega (arith, c.requires.caller, ap (λ (v : SoleSeen). v.workers) c.self.view_is, c.self.invariant.few, c.self.invariant.many) in
    let stands : IsCaller s.lookup s.core.writer.view.history s.room c.args.crossing.now.caller c.index_mut-caller.result.now = caller_at s.lookup s.core.writer.view.history s.room c.args.crossing.now.caller s.callers.items c.index_mut-caller.result.now within c.index_mut-caller.ensures.value c.self.invariant.callers_are in
    record { core = c.self.invariant.core; told = stands.told; front = stands.front; number = sym stands.number_is; permit = omega (arith, stands.may, c.requires.room, ap (λ (v : SoleSeen). v.room) c.self.view_is) }

pub invariant_of-self : goal.invariant_of-self
invariant_of-self c =
    let s = c.self.inside in
    let k = c.args.crossing.now.caller in
    let within : k < length s.callers.items = omega (arith, c.requires.caller, ap (λ (v : SoleSeen). v.workers) c.self.view_is, c.self.invariant.few, c.self.invariant.many) in
    subst (IsSole s.lookup c.carry-outcome.new.core.writer s.controllers.items _ s.workers) (sym c.left-self-inside.ensures)
    (sole_called s.lookup s.core.writer c.carry-outcome.new.core.writer (entered c.carry-outcome.result.entry (event.Crossing c.args.crossing.now c.carry-outcome.result.fate)) s.controllers.items s.callers.items s.workers s.room k c.carry-outcome.result.entry c.index_mut-caller.result.now c.carry-outcome.new.caller
    c.self.invariant c.carry-outcome.ensures.core c.carry-outcome.ensures.history within c.index_mut-caller.ensures.value c.carry-outcome.ensures.caller)

pub returns-clause-done : goal.returns-clause-done
returns-clause-done c = λ p bytes. rw (← c.self.view_is) (c.carry-outcome.ensures.done p bytes)

pub returns-clause-exact : goal.returns-clause-exact
returns-clause-exact c =
    let s = c.self.inside in
    rw (← c.self.view_is) (done_crossed (opening_of s.lookup.1) s.core.writer.view.history c.carry-outcome.new.core.writer.view.history c.args.crossing.now c.carry-outcome.result.fate c.carry-outcome.result.entry c.carry-outcome.ensures.done c.carry-outcome.ensures.history)

pub returns-clause-memory : goal.returns-clause-memory
returns-clause-memory c =
    let s = c.self.inside in
    rw (← c.self.view_is) (done_short (opening_of s.lookup.1) s.core.writer.view.history c.args.crossing.now c.carry-outcome.result.fate c.carry-outcome.result.entry c.carry-outcome.ensures.done)
