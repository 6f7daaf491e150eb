use Rattle.std.proofs.Common.{◌≡◌, ◌<◌, ◌+◌, ◌-◌, ℕ, List, length, not, sym, ap, subst, ◌∙◌, true, arith}
use Rattle.vsw_port.specs.declared.event.Event.TheVariants as event
use Rattle.vsw_port.specs.Calls.{controller_at}
use Rattle.vsw_policy.specs.Layers.{place_of}
use Rattle.vsw_policy.specs.Obey.{is_memory}
use Rattle.vsw_policy.specs.Refusals.{reply_of}
use Rattle.vsw_policy.specs.Sound.{is_listed}
use Rattle.vsw_port.specs.Core.{entered}
use Rattle.vsw_sole.specs.Callers.{IsCaller, IsSole, one_if}
use Rattle.vsw_sole.specs.Sole.{SoleSeen}
use Rattle.vsw_sole.proofs.Callers.{caller_at, sole_called}
use Rattle.vsw_sole.proofs.Listed.{place_within}
use Rattle.vsw_sole.proofs.port.SolePort.command.Goals as goal

pub index_mut-caller-requires : goal.index_mut-caller-requires
index_mut-caller-requires c =
    let s = c.self.inside in
    let listed : is_listed s.controllers.items c.args.controller ≡ true = ap (λ (cs : List ℕ). is_listed cs c.args.controller) c.self.invariant.controllers_are ∙ (ap (λ (v : SoleSeen). is_listed v.opening.controllers c.args.controller) c.self.view_is ∙ c.requires.listed) in
    let place : c.place_of-place.result ≡ place_of c.args.controller s.controllers.items = c.place_of-place.ensures.value ∙ ap (place_of c.args.controller) c.deref.ensures.value in
    omega (arith, place_within s.controllers.items c.args.controller listed, place, c.self.invariant.many, s.callers.ok.0)

pub ask-answer-requires : goal.ask-answer-requires
ask-answer-requires c =
    let s = c.self.inside in
    let k : ℕ = 16 + c.place_of-place.result in
    let listed : is_listed s.lookup.1.controllers c.args.controller ≡ true = ap (λ (v : SoleSeen). is_listed v.opening.controllers c.args.controller) c.self.view_is ∙ c.requires.listed in
    let own : is_listed s.controllers.items c.args.controller ≡ true = ap (λ (cs : List ℕ). is_listed cs c.args.controller) c.self.invariant.controllers_are ∙ listed in
    let place : c.place_of-place.result ≡ place_of c.args.controller s.controllers.items = c.place_of-place.ensures.value ∙ ap (place_of c.args.controller) c.deref.ensures.value in
    let within : k < length s.callers.items = omega (arith, place_within s.controllers.items c.args.controller own, place, c.self.invariant.many) in
    let stands : IsCaller s.lookup s.core.writer.view.history s.room k c.index_mut-caller.result.now = caller_at s.lookup s.core.writer.view.history s.room k s.callers.items c.index_mut-caller.result.now within c.index_mut-caller.ensures.value c.self.invariant.callers_are in
    let number : controller_at s.lookup.1.controllers c.args.controller ≡ k = ap (λ (cs : List ℕ). 16 + place_of c.args.controller cs) (sym c.self.invariant.controllers_are) ∙ ap (λ (n : ℕ). 16 + n) (sym place) in
    record {
      core = c.self.invariant.core;
      told = stands.told;
      number = number ∙ sym stands.number_is;
      permit = omega (arith, stands.may, c.requires.room, ap (λ (v : SoleSeen). v.room) c.self.view_is);
      listed = listed;
      good = c.requires.good;
    }

pub invariant_of-self : goal.invariant_of-self
invariant_of-self c =
    let s = c.self.inside in
    let k : ℕ = 16 + c.place_of-place.result in
    let answer = c.ask-answer.result in
    let own : is_listed s.controllers.items c.args.controller ≡ true = ap (λ (cs : List ℕ). is_listed cs c.args.controller) c.self.invariant.controllers_are ∙ (ap (λ (v : SoleSeen). is_listed v.opening.controllers c.args.controller) c.self.view_is ∙ c.requires.listed) in
    let place : c.place_of-place.result ≡ place_of c.args.controller s.controllers.items = c.place_of-place.ensures.value ∙ ap (place_of c.args.controller) c.deref.ensures.value in
    let within : k < length s.callers.items = omega (arith, place_within s.controllers.items c.args.controller own, place, c.self.invariant.many) in
    subst (IsSole s.lookup c.ask-answer.new.core.writer s.controllers.items _ s.workers) (sym (c.left-self-inside.ensures ∙ ap (λ b. s.room - one_if b) c.is_entry-entry.ensures))
    (sole_called s.lookup s.core.writer c.ask-answer.new.core.writer (entered (not (is_memory answer)) (event.Command c.args.controller c.args.line c.args.command.now (reply_of answer))) s.controllers.items s.callers.items s.workers s.room k (not (is_memory answer)) c.index_mut-caller.result.now c.ask-answer.new.caller
    c.self.invariant c.ask-answer.ensures.core c.ask-answer.ensures.history within c.index_mut-caller.ensures.value c.ask-answer.ensures.caller)
