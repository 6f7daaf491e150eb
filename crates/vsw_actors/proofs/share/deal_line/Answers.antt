use Rattle.std.proofs.Common.{◌≡◌, ◌<◌, ◌+◌, ◌++◌, length, OnOk, ap, sym, subst, arith}
use Rattle.vsw_port.specs.Calls.{Ask, job_doer}
use Rattle.vsw_actors.specs.Deal.{dealt, shared}
use Rattle.vsw_actors.proofs.Steps.{deals_none, is_beside, is_not_beside, place_within}
use Rattle.vsw_actors.proofs.share.deal_line.Goals as goal

pub give_line-requires : goal.give_line-requires
give_line-requires c = omega (arith, c.requires.callers, c.place_of-controller.ensures.value, place_within c.args.controllers.now c.args.line.now.controller c.requires.controller)

pub returns-then-not-line-clause-dealt : goal.returns-then-not-line-clause-dealt
returns-then-not-line-clause-dealt c = λ js e.
    let s = shared c.args.shares.now.items in
    subst (λ w. s ≡ dealt c.args.controllers.now (js ++ w)) (sym (is_not_beside c.args.numbers.now c.args.line.now c.if-not-line.true)) (deals_none c.args.controllers.now s js e)

pub returns-clause-dealt : goal.returns-clause-dealt
returns-clause-dealt c = λ js e.
    let l = c.args.line.now in
    let cs = c.args.controllers.now in
    let one = is_beside c.args.numbers.now l c.place_of-place.result c.if-not-line.false c.place_of-place.ensures.value in
    let doer : job_doer cs (Ask l) ≡ 16 + c.place_of-controller.result = ap (λ n. 16 + n) (sym c.place_of-controller.ensures.value) in
    subst (λ w. OnOk c.give_line.result (shared c.give_line.new.shares.items ≡ dealt cs (js ++ w))) (sym one) (c.give_line.ensures.dealt cs js e doer)

pub returns-clause-work : goal.returns-clause-work
returns-clause-work c = λ before.
    let l = c.args.line.now in
    let ns = c.args.numbers.now in
    let within = subst (λ i. i < length ns) (sym c.place_of-place.ensures.value) (place_within ns l.port c.requires.port) in
    c.give_line.ensures.work (length ns) c.args.controllers.now (within, tt, (c.requires.controller, c.requires.rules)) before
