use Rattle.std.proofs.Common.{◌<◌, ◌≤◌, ◌+◌, length, length-set, sym, ◌∙◌, subst, refl, arith}
use Rattle.vsw_sole.specs.Callers.{IsCaller, Refills}
use Rattle.vsw_sole.proofs.Callers.{all_filled, caller_at, callers_refilled, none_filled, one_filled}
use Rattle.vsw_sole.proofs.port.refill_all.Goals as goal

pub loop-place-init : goal.loop-place-init
loop-place-init c = record { core = c.requires.core; history = refl; edited = refl; count = refl; callers = λ room all. all; filled = none_filled c.args.least 0 c.args.callers.now.items }

pub refill-requires : goal.refill-requires
refill-requires c =
    let s = c.loop-place in
    let h = c.args.core.now.writer.view.history in
    let within : s.place < length s.callers.items = omega (arith, c.loop-place-test.true, s.auto.place-end, c.len-place-end.ensures, c.args.callers.now.ok.0, s.invariant.count) in
    let stands : IsCaller c.args.lookup.now h 0 s.place c.index_mut-caller.result.now = caller_at c.args.lookup.now h 0 s.place s.callers.items c.index_mut-caller.result.now within c.index_mut-caller.ensures.value (s.invariant.callers 0 c.requires.callers) in
    record { core = s.invariant.core; told = stands.told; front = (stands.front.0, stands.front.1 ∙ sym s.invariant.history) }

pub returns-in_err-refill-clause-callers : goal.returns-in_err-refill-clause-callers
returns-in_err-refill-clause-callers c = λ room all.
    let s = c.loop-place in
    let h = c.args.core.now.writer.view.history in
    let within : s.place < length s.callers.items = omega (arith, c.loop-place-test.true, s.auto.place-end, c.len-place-end.ensures, c.args.callers.now.ok.0, s.invariant.count) in
    callers_refilled c.args.lookup.now h room s.place s.callers.items c.index_mut-caller.result.now c.refill.new.caller within c.index_mut-caller.ensures.value (subst (λ g. Refills c.args.lookup.now g c.index_mut-caller.result.now c.refill.new.caller) s.invariant.history c.refill.ensures.refills) (s.invariant.callers room all)

pub loop-place-preserved : goal.loop-place-preserved
loop-place-preserved c =
    let s = c.loop-place in
    let h = c.args.core.now.writer.view.history in
    let within : s.place < length s.callers.items = omega (arith, c.loop-place-test.true, s.auto.place-end, c.len-place-end.ensures, c.args.callers.now.ok.0, s.invariant.count) in
    record {
      core = c.refill.ensures.core;
      history = c.refill.ensures.history ∙ s.invariant.history;
      edited = c.refill.ensures.edited ∙ s.invariant.edited;
      count = length-set _ _ _ ∙ s.invariant.count;
      callers = λ room all. callers_refilled c.args.lookup.now h room s.place s.callers.items c.index_mut-caller.result.now c.refill.new.caller within c.index_mut-caller.ensures.value (subst (λ g. Refills c.args.lookup.now g c.index_mut-caller.result.now c.refill.new.caller) s.invariant.history c.refill.ensures.refills) (s.invariant.callers room all);
      filled = one_filled c.args.least s.place s.callers.items c.refill.new.caller c.in_ok-refill.ensures.least s.invariant.filled;
    }

pub returns-clause-least : goal.returns-clause-least
returns-clause-least c = λ room all.
    let s = c.loop-place in
    let over : 0 + length s.callers.items ≤ s.place = omega (arith, c.loop-place-test.false, s.auto.place-end, c.len-place-end.ensures, c.args.callers.now.ok.0, s.invariant.count) in
    all_filled c.args.lookup.now c.args.core.now.writer.view.history room c.args.least s.place 0 s.callers.items over (s.invariant.callers room all) s.invariant.filled
