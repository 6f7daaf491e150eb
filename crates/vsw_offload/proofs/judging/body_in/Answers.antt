use Rattle.std.proofs.Common.{◌≡◌, ◌-◌, drop, length, ap, ◌∙◌, arith}
use Rattle.vsw_offload.proofs.judging.body_in.Goals as goal

pub returns-in-Some-clause-back : goal.returns-in-Some-clause-back
returns-in-Some-clause-back c verdict by until is e =
    let sixteen : length c.args.words.now - 57 ≡ 16 = omega (arith, c.told-words) in
    c.body_to.ensures.back verdict by until is (c.in-Some.ensures.cases.1.same ∙ (ap (λ n. drop n c.args.words.now) sixteen ∙ e))
